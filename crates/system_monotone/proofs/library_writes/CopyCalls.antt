-- `memcpy` and `memmove`, in rising rows.
use Rattle.std.specs.Prelude.{◌≡◌, ℕ, ℤ, pos, ◌≤ℤ◌, int_le, int_lt, Bool, true, false, cond, Option, Some, None, is_some, List, refl}
use Rattle.std.proofs.Common.{arith, subst}
use Rattle.std.proofs.lemmas.Int.{ints}
use Rattle.cc_base.specs.Lattices.{LatticeOf, OrderLaws}
use Rattle.cc_base.specs.IntegerDomains.{IntegersOf, BoundLaws, RangeLaws}
use Rattle.cc_base.specs.IntegerLaws.{MonotoneLaws}
use Rattle.cc_base.specs.NumberRanges.{Range, range_met, upper_or}
use Rattle.c_layout.specs.declared.library_functions.LibFn.TheVariants as f
use Rattle.cfg.specs.declared.programs.Flow.{Flow}
use Rattle.pointer_domain.specs.declared.base_sets.Bases.{Bases}
use Rattle.pointer_domain.specs.declared.pointer_sets.Pointers.{Pointers}
use Rattle.pointer_domain.specs.PointerTables.{offsets}
use Rattle.value_domain.specs.declared.values.values.Value as values
use Rattle.value_domain.specs.declared.values.row_cells.Cell.{Cell}
use Rattle.value_domain.specs.Values.ValueTables.{pointer_value}
use Rattle.domain_theorems.proofs.values.Flags.{Sets}
use Rattle.domain_theorems.proofs.values.Parts.{pointer_parts}
use Rattle.domain_theorems.proofs.values.Ranges.{RangeBelow, range_refl, bounds_monotone}
use Rattle.store_cells.specs.declared.access_windows.Window.{Window}
use Rattle.store_cells.specs.AccessWindows.{window_within}
use Rattle.store_objects.specs.LiveBases.{writable_of}
use Rattle.store_monotone.specs.Operations.Placements.{EachFrom, WindowWithin, IsPlaced, IsRegular}
use Rattle.store_monotone.specs.Operations.TopRows.{top_row}
use Rattle.store_monotone.proofs.operations.LiveBases.{writable_monotone}
use Rattle.store_monotone.proofs.operations.Together.{each}
use Rattle.store_monotone.proofs.operations.Windows.{WindowsBelow, within_monotone}
use Rattle.transfer_checks.specs.declared.library_arguments.Argument.{Argument}
use Rattle.transfer_checks.specs.IntegerChecks.{sink_violations}
use Rattle.transfer_checks.specs.LibraryArguments.{passes_room, cut_by_room, last_touched, touched_from, end_of, touched_window}
use Rattle.transfer_library_plans.specs.declared.call_plans.Effect.TheVariants as effect
use Rattle.transfer_library_plans.specs.declared.call_plans.Trail.{Trail}
use Rattle.transfer_library_writes.specs.declared.copied_bytes.CopyWrite.{CopyWrite}
use Rattle.transfer_library_writes.specs.declared.copied_bytes.CopiedBytes.{CopiedBytes}
use Rattle.transfer_library.specs.declared.memory_calls.Target.{Target}
use Rattle.transfer_library_plans.specs.Arguments.{argument_value, room_violations}
use Rattle.transfer_library_plans.specs.Calls.{Call}
use Rattle.transfer_library_writes.specs.CopyWrites.{bytes_of_source, write_copy}
use Rattle.transfer_library.specs.Effects.{put_result, apply}
use Rattle.transfer_library.specs.MemoryCalls.{lower_of, room_trail, target_of, nothing_written, copy_in_window, both_given, copy_both, plan_copy}
use Rattle.transfer_library_plans.specs.Outputs.{argument_at}
use Rattle.transfer_library.specs.Planning.{plan_call}
use Rattle.transfer_library_plans.specs.Plans.{trail_of}
use Rattle.transfer_system.specs.CallSteps.{call_of}
use Rattle.transfer_monotone.specs.Edges.CallLaws.{CallRises}
use Rattle.transfer_monotone.specs.Edges.FilledRows.{IsLeftFilled}
use Rattle.transfer_monotone.proofs.edges.MemorySteps.{row_near}
use Rattle.transfer_monotone.specs.Values.RisingRows.{LeftRise, ValuesRise}
use Rattle.transfer_monotone.specs.Values.LaidOut.{IsLaidOut}
use Rattle.transfer_monotone.specs.Values.StepLaws.{FlowRows}
use Rattle.transfer_monotone.proofs.values.IntegerChecks.{labelled_more}
use Rattle.transfer_monotone.proofs.values.Results.{num_rises, labels_rise, pointer_rises}
use Rattle.transfer_monotone.proofs.values.ViolationOrder.{sinks_below}
use Rattle.transfer_monotone.proofs.library.ResultCalls.{argument_rises, result_rises, put_fills}
use Rattle.transfer_monotone.proofs.library.GivenPointers.{ArgumentsRise, given_rises, given_below}
use Rattle.transfer_monotone.proofs.library.Trails.{TrailsBelow, start_below, checked_on}
use Rattle.system_monotone.proofs.library_writes.WriteTargets.{TargetsRise, touched_rises, cut_rises, room_below, target_rises}
use Rattle.system_monotone.specs.LibraryWrites.CopyOrder.{BytesBelow}
use Rattle.system_monotone.proofs.library_writes.CopiedBytes.{bytes_more}
use Rattle.system_monotone.proofs.library_writes.CopyWrites.{copy_step}
use Rattle.system_monotone.proofs.library_writes.FilledCopies.{copy_fills}
use Rattle.system_monotone.proofs.library_writes.PlannedWrites.{EffectsRise, PlansRise, plans_rise, EffectFills, plan_fills, IsPlanned, planned_call}

-- ---- windows

within_proper : (x : Range) (u : Window) → window_within x ≡ Some u → WindowWithin u u
within_proper x u e = subst (λ z. WindowsBelow z z) e (within_monotone x x (range_refl x))

-- bytes that are touched have a first one
pub touched_proper : {I : Type 0} (n : IntegersOf I) (p : Pointers I) (need : Range) (u : Window) → touched_window n p need ≡ Some u → WindowWithin u u
unfolding touched_window
touched_proper n p need u e = by_start (offsets n p) e
  where
    by_start : (start : Range) → touched_from start (upper_or (pos 0) need) (end_of n p) ≡ Some u → WindowWithin u u
    by_start None e = absurd (cc)
    by_start (Some start) e = by_count (int_lt (upper_or (pos 0) need) (pos 1)) e
      where
        by_count : (c : Bool) → cond c None (window_within (range_met (Some (start.0, last_touched start.1 (upper_or (pos 0) need) (end_of n p))) start.0 (last_touched start.1 (upper_or (pos 0) need) (end_of n p)))) ≡ Some u → WindowWithin u u
        by_count true e = absurd (cc)
        by_count false e = within_proper (range_met (Some (start.0, last_touched start.1 (upper_or (pos 0) need) (end_of n p))) start.0 (last_touched start.1 (upper_or (pos 0) need) (end_of n p))) u e

-- ---- counts

-- where none need be written in a smaller call, none need be in a larger one
pub none_needed : (x u : Range) → is_some x ≡ true → RangeBelow x u → Sets (int_le (pos 1) (lower_of u)) (int_le (pos 1) (lower_of x))
none_needed None u s h e = absurd (cc)
none_needed (Some p) None s h e = absurd h
none_needed (Some p) (Some q) s h e = less p.0 q.0 h.0 e
  where
    less : (a c : ℤ) → c ≤ℤ a → int_le (pos 1) c ≡ true → int_le (pos 1) a ≡ true
    less a c h e = grind (arith, ints)

module _ {I : Type 0} {l : LatticeOf I} {n : IntegersOf I} {stands : I → ℤ → Type 0} (o : OrderLaws l) (b : BoundLaws l n stands) (g : MonotoneLaws l n) (r : RangeLaws l n) (all : Bases) (flow : Flow) (k : IsLaidOut all flow) where
  abbrev top : List (Cell I)
  top = top_row n all flow.bases.items flow.temps

  placed_regular : EachFrom (λ base number. IsPlaced n all top base × IsRegular flow.model base) 0 flow.bases.items
  placed_regular = each o b flow.model flow.bases.items k.layout all flow.temps (row_near o b g r all flow k)

  -- a call that goes on has a count
  pub room_on : (s : Trail) (p : Pointers I) (x : Range) → (room_trail n s p x).goes_on ≡ true → is_some (cut_by_room n x p) ≡ true
  room_on s p x h = (checked_on s (room_violations (passes_room n x p)) (is_some (cut_by_room n x p)) h).1

  module _ (arguments : List ℕ) (wanted : Option ℕ) where
    abbrev call : Call
    call = call_of flow arguments wanted

    -- the trail of a target goes on where that before it does
    pub target_on : (s : Trail) (p : Pointers I) (x : Range) → (target_of l n call s p x).trail.goes_on ≡ true → s.goes_on ≡ true
    target_on s p x h = (checked_on s _ _ h).0

    module _ (x y : List (Cell I)) (h : FlowRows l n all flow x y) where
      -- ---- nothing is written

      nothing_rises : (t u : Target I) → TargetsRise l n all t u → is_some t.count ≡ true → EffectsRise l n all flow x y (nothing_written l t) (nothing_written l u)
      unfolding apply
      nothing_rises t u j s = by_need (int_le (pos 1) (lower_of t.count)) (int_le (pos 1) (lower_of u.count)) (none_needed t.count u.count s j.count)
        where
          by_need : (a c : Bool) → Sets c a → EffectsRise l n all flow x y (cond a effect.Unreached (effect.Result (pointer_value l t.rest))) (cond c effect.Unreached (effect.Result (pointer_value l u.rest)))
          by_need true c e to newest = tt
          by_need false true e to newest = absurd (let z : false ≡ true = e refl in cc)
          by_need false false e to newest = result_rises o b g r all flow k to (pointer_value l t.rest) (pointer_value l u.rest) (pointer_rises o b all t.rest u.rest j.rest) x y h

      -- ---- copies

      module _ (from more : Argument I) (a : ArgumentsRise l n all from more) (t u : Target I) (j : TargetsRise l n all t u) where
        abbrev bytes : List (Cell I) → Argument I → Target I → CopiedBytes I
        bytes row given target = bytes_of_source l n flow row given.rest.bases (touched_window n given.rest target.count)

        abbrev write : List (Cell I) → Argument I → Target I → Window → CopyWrite I
        write row given target w = record { bases = writable_of flow.bases.items target.rest.bases; window = w; bytes = bytes row given target }

        bytes_rise : BytesBelow l n all (bytes x from t) (bytes y more u)
        bytes_rise = bytes_more o b all k.words flow top x y h placed_regular from.rest.bases more.rest.bases (pointer_parts l from.rest more.rest a.rest.below).bases
            (touched_window n from.rest t.count) (touched_window n more.rest u.count) (touched_rises o b all from.rest more.rest a.rest t.count u.count j.count) (λ v e. touched_proper n more.rest u.count v e)

        -- a write, beside a result alone or a smaller write
        written_rises : (on : Bool) (w v : Window) (c : CopiedBytes I) → WindowWithin w v → BytesBelow l n all c (bytes y more u) → (to : Option ℕ)
            → FlowRows l n all flow (put_result flow to (pointer_value l t.rest) (cond on (write_copy l n flow (record { bases = writable_of flow.bases.items t.rest.bases; window = w; bytes = c }) x) x)) (put_result flow to (pointer_value l u.rest) (write_copy l n flow (write y more u v) y))
        written_rises on w v c i z to =
            let small : CopyWrite I = record { bases = writable_of flow.bases.items t.rest.bases; window = w; bytes = c } in
            let large : CopyWrite I = write y more u v in
            result_rises o b g r all flow k to (pointer_value l t.rest) (pointer_value l u.rest) (pointer_rises o b all t.rest u.rest j.rest) (cond on (write_copy l n flow small x) x) (write_copy l n flow large y)
            (copy_step o b all k.words top flow placed_regular small large
            (record { bases = writable_monotone flow.bases.items t.rest.bases u.rest.bases (pointer_parts l t.rest u.rest j.rest.below).bases; window = i; bytes = z })
            on x y h)

        in_window_rises : is_some t.count ≡ true → (w v : Option Window) → WindowsBelow w v → ((z : Window) → v ≡ Some z → WindowWithin z z) → EffectsRise l n all flow x y (copy_in_window l n call x from t w) (copy_in_window l n call y more u v)
        unfolding apply
        in_window_rises s None None i z to newest = nothing_rises t u j s to newest
        in_window_rises s None (Some v) i z to newest = by_need (int_le (pos 1) (lower_of t.count))
          where
            by_need : (c : Bool) → LeftRise l n top (apply l n flow to newest (cond c effect.Unreached (effect.Result (pointer_value l t.rest))) x) (apply l n flow to newest (copy_in_window l n call y more u (Some v)) y)
            by_need true = tt
            by_need false = written_rises false v v (bytes x from t) (z v refl) bytes_rise to
        in_window_rises s (Some w) None i z to newest = absurd i
        in_window_rises s (Some w) (Some v) i z to newest = written_rises true w v (bytes x from t) i bytes_rise to

      -- ---- the plan

      given_more : (at : ℕ) → ArgumentsRise l n all (argument_at l n call x at) (argument_at l n call y at)
      given_more at = given_rises o b g r all flow k arguments wanted x y h at

      count_more : RangeBelow (n.bounds (argument_value l n call x 2).num) (n.bounds (argument_value l n call y 2).num)
      count_more = bounds_monotone b (argument_value l n call x 2).num (argument_value l n call y 2).num (num_rises o b all (argument_rises o b g r all flow k arguments wanted x y h 2))

      sink_below : (v w : values.Value I) → ValuesRise l n all v w → TrailsBelow (trail_of (sink_violations v.labels)) (trail_of (sink_violations w.labels))
      sink_below v w j = start_below (sink_violations v.labels) (sink_violations w.labels) (sinks_below _ _ (labelled_more v.labels w.labels (labels_rise o b all j)))

      both_rise : (v w : values.Value I) → ValuesRise l n all v w → (to more from large : Argument I) → ArgumentsRise l n all to more → ArgumentsRise l n all from large → PlansRise l n all flow x y (copy_both l n call x v to from) (copy_both l n call y w more large)
      both_rise v w j to more from large c d =
          let need = n.bounds v.num in
          let most = n.bounds w.num in
          let needed : RangeBelow need most = bounds_monotone b v.num w.num (num_rises o b all j) in
          let left = cut_by_room n need to.rest in
          let rest = cut_by_room n most more.rest in
          let cut : RangeBelow left rest = cut_rises o b all to.rest more.rest c.rest need most needed in
          let both = cut_by_room n left from.rest in
          let larger = cut_by_room n rest large.rest in
          let kept : RangeBelow both larger = cut_rises o b all from.rest large.rest d.rest left rest cut in
          let s = room_trail n (both_given v to from) to.rest need in
          let t = room_trail n (both_given w more large) more.rest most in
          let given = given_below o b g r all flow k _ _ (given_below o b g r all flow k (trail_of (sink_violations v.labels)) (trail_of (sink_violations w.labels)) (sink_below v w j) to more c) from large d in
          let first : TrailsBelow s t = room_below o b all to.rest more.rest c.rest (both_given v to from) (both_given w more large) given need most needed in
          let second = room_below o b all from.rest large.rest d.rest s t first left rest cut in
          let small = target_of l n call (room_trail n s from.rest left) to.rest both in
          let big = target_of l n call (room_trail n t large.rest rest) more.rest larger in
          let targets : TargetsRise l n all small big = target_rises o b all to.rest more.rest c.rest flow k arguments wanted (room_trail n s from.rest left) (room_trail n t large.rest rest) second both larger kept in
          plans_rise l n all flow x y small.trail big.trail targets.trail _ _
          (λ e z. in_window_rises from large d small big targets (room_on s from.rest left (target_on (room_trail n s from.rest left) to.rest both e)) (touched_window n small.rest both) (touched_window n big.rest larger)
          (touched_rises o b all small.rest big.rest targets.rest both larger kept) (λ q m. touched_proper n big.rest larger q m))

    -- ---- something is left in each cell

    in_window_fills : (row : List (Cell I)) (from : Argument I) (t : Target I) (w : Option Window) → EffectFills l n all flow (copy_in_window l n call row from t w)
    unfolding apply
    in_window_fills row from t None to newest x h = by_need (int_le (pos 1) (lower_of t.count))
      where
        by_need : (c : Bool) → IsLeftFilled (apply l n flow to newest (cond c effect.Unreached (effect.Result (pointer_value l t.rest))) x)
        by_need true = tt
        by_need false = put_fills o b g r all flow k to (pointer_value l t.rest) x h
    in_window_fills row from t (Some w) to newest x h = put_fills o b g r all flow k to (pointer_value l t.rest) _ (copy_fills l n flow _ x h)

    both_fill : (row : List (Cell I)) (v : values.Value I) (to from : Argument I) → EffectFills l n all flow (copy_both l n call row v to from).effect
    both_fill row v to from =
        let need = n.bounds v.num in
        let left = cut_by_room n need to.rest in
        let target : Target I = target_of l n call (room_trail n (room_trail n (both_given v to from) to.rest need) from.rest left) to.rest (cut_by_room n left from.rest) in
        let window = touched_window n target.rest target.count in
        plan_fills l n all flow target.trail (copy_in_window l n call row from target window) (in_window_fills row from target window)

  memcpy_planned : IsPlanned l n all flow f.Memcpy
  unfolding plan_call plan_copy
  memcpy_planned = record {
    rises = λ arguments wanted x y h. both_rise arguments wanted x y h (argument_value l n (call arguments wanted) x 2) (argument_value l n (call arguments wanted) y 2) (argument_rises o b g r all flow k arguments wanted x y h 2)
        (argument_at l n (call arguments wanted) x 0) (argument_at l n (call arguments wanted) y 0) (argument_at l n (call arguments wanted) x 1) (argument_at l n (call arguments wanted) y 1) (given_more arguments wanted x y h 0) (given_more arguments wanted x y h 1);
    fills = λ arguments wanted x. both_fill arguments wanted x (argument_value l n (call arguments wanted) x 2) (argument_at l n (call arguments wanted) x 0) (argument_at l n (call arguments wanted) x 1);
  }

  memmove_planned : IsPlanned l n all flow f.Memmove
  unfolding plan_call plan_copy
  memmove_planned = record {
    rises = λ arguments wanted x y h. both_rise arguments wanted x y h (argument_value l n (call arguments wanted) x 2) (argument_value l n (call arguments wanted) y 2) (argument_rises o b g r all flow k arguments wanted x y h 2)
        (argument_at l n (call arguments wanted) x 0) (argument_at l n (call arguments wanted) y 0) (argument_at l n (call arguments wanted) x 1) (argument_at l n (call arguments wanted) y 1) (given_more arguments wanted x y h 0) (given_more arguments wanted x y h 1);
    fills = λ arguments wanted x. both_fill arguments wanted x (argument_value l n (call arguments wanted) x 2) (argument_at l n (call arguments wanted) x 0) (argument_at l n (call arguments wanted) x 1);
  }

  pub memcpy_rises : CallRises l n all flow f.Memcpy
  memcpy_rises = planned_call l n all flow f.Memcpy memcpy_planned

  pub memmove_rises : CallRises l n all flow f.Memmove
  memmove_rises = planned_call l n all flow f.Memmove memmove_planned
