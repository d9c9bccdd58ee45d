-- Calls of `memset`, in rising rows.
use Rattle.std.specs.Prelude.{◌≡◌, ◌⊎◌, ℕ, ◌≤◌, ℤ, pos, negsuc, ◌≤ℤ◌, int_le, Bool, true, false, cond, not, Option, Some, None, is_some, List, refl}
use Rattle.std.specs.Ordering.{int_eq}
use Rattle.std.specs.Int.{int_rem_euclid}
use Rattle.std.proofs.Common.{arith, ap, inl, inr, sym, subst, subst₂}
use Rattle.std.proofs.lemmas.Int.{ints}
use Rattle.std.proofs.lemmas.Bool.{and_parts, and_from}
use Rattle.cc_base.specs.Lattices.{LatticeOf, OrderLaws}
use Rattle.cc_base.specs.IntegerDomains.{IntegersOf, BoundLaws, RangeLaws}
use Rattle.cc_base.specs.IntegerLaws.{MonotoneLaws}
use Rattle.cc_base.specs.NumberRanges.{Range}
use Rattle.c_layout.specs.declared.library_functions.LibFn.TheVariants as f
use Rattle.cfg.specs.declared.programs.Flow.{Flow}
use Rattle.pointer_domain.specs.declared.base_sets.Bases.{Bases}
use Rattle.pointer_domain.specs.BaseLattice.{bases_order}
use Rattle.pointer_domain.specs.BaseSets.{bases_empty}
use Rattle.pointer_domain.specs.PointerTables.{offsets, rooms}
use Rattle.value_domain.specs.declared.values.values.Value as values
use Rattle.value_domain.specs.declared.values.row_cells.Cell.{Cell}
use Rattle.value_domain.specs.Values.LabelSets.{is_unlabelled, labels_order}
use Rattle.value_domain.specs.Values.ValueTables.{pointer_value}
use Rattle.domain_theorems.proofs.values.Flags.{Sets}
use Rattle.domain_theorems.proofs.values.Parts.{PointersBelow, pointer_parts}
use Rattle.domain_theorems.proofs.values.Ranges.{RangeBelow, bounds_monotone}
use Rattle.store_cells.specs.declared.access_windows.Window.{Window}
use Rattle.store_cells.specs.AccessWindows.{window_within}
use Rattle.store_objects.specs.LiveBases.{writable_of}
use Rattle.store_monotone.specs.Operations.TopCells.{top_value}
use Rattle.store_monotone.specs.Operations.TopRows.{top_row}
use Rattle.store_monotone.proofs.operations.LiveBases.{writable_monotone}
use Rattle.store_monotone.proofs.operations.Together.{each}
use Rattle.store_monotone.proofs.operations.Windows.{WindowsBelow}
use Rattle.transfer_checks.specs.declared.library_arguments.Argument.{Argument}
use Rattle.transfer_checks.specs.IntegerChecks.{sink_violations}
use Rattle.transfer_checks.specs.LibraryArguments.{after_write, writes_literal, touched_window, passes_room, cut_by, cut_by_room}
use Rattle.transfer_checks.specs.ViolationSets.{no_violations}
use Rattle.transfer_library_plans.specs.declared.call_plans.Effect.{Effect}
use Rattle.transfer_library_plans.specs.declared.call_plans.Effect.TheVariants as effect
use Rattle.transfer_library_plans.specs.declared.call_plans.Trail.{Trail}
use Rattle.transfer_library_writes.specs.declared.fill_writes.FillWrite.{FillWrite}
use Rattle.transfer_library.specs.declared.memory_calls.Target.{Target}
use Rattle.transfer_library_plans.specs.Plans.{trail_of, checked}
use Rattle.transfer_library_plans.specs.Calls.{Call}
use Rattle.transfer_library_plans.specs.Arguments.{argument_value, room_violations, literal_violations}
use Rattle.transfer_library_plans.specs.Outputs.{argument_at}
use Rattle.transfer_library.specs.MemoryCalls.{sure_window, lower_of, is_zero_range, is_one_byte, room_trail, target_of, nothing_written, is_zero_byte, fill_in_window, fill_trail, plan_fill}
use Rattle.transfer_library.specs.Effects.{apply}
use Rattle.transfer_library_writes.specs.FillWrites.{write_fill}
use Rattle.transfer_library.specs.Planning.{plan_call}
use Rattle.transfer_system.specs.CallSteps.{call_of, call_step}
use Rattle.transfer_monotone.proofs.edges.MemorySteps.{row_near}
use Rattle.transfer_monotone.specs.Edges.CallLaws.{CallRises}
use Rattle.transfer_monotone.specs.Edges.FilledRows.{LeavesFilled}
use Rattle.transfer_monotone.specs.Values.RisingRows.{LeftRise, PointersRise, ValuesRise}
use Rattle.transfer_monotone.specs.Values.LaidOut.{IsLaidOut}
use Rattle.transfer_monotone.specs.Values.StepLaws.{FlowRows}
use Rattle.transfer_monotone.proofs.values.IntegerChecks.{some_more, labelled_more}
use Rattle.transfer_monotone.proofs.values.Results.{num_rises, labels_rise, smaller_own}
use Rattle.transfer_monotone.proofs.values.ViolationOrder.{same_below, sinks_below}
use Rattle.transfer_monotone.proofs.library.ResultCalls.{argument_rises, put_fills}
use Rattle.domain_theorems.proofs.values.Moves.{offsets_monotone}
use Rattle.transfer_monotone.proofs.library.Trails.{TrailsBelow, start_below, checked_below, checked_on}
use Rattle.transfer_monotone.proofs.library.StringResults.{given_more}
use Rattle.system_monotone.proofs.library_writes.IdleCalls.{sure_less, IsIdle, larger_idle, both_left, idle_left}
use Rattle.system_monotone.proofs.library_writes.WriteTargets.{TargetsRise, start_rises, touched_rises}
use Rattle.system_monotone.proofs.library_writes.Sources.{rooms_in, rest_more}
use Rattle.system_monotone.proofs.library_writes.TextFills.{idle_fills, planned_fills}
use Rattle.system_monotone.proofs.library_writes.CallTargets.{some_of_window, windows_at, within_same, touched_same, offsets_near, planned_left, targets, counted, small_own, starts}
use Rattle.system_monotone.proofs.library_writes.FillOrder.{IsWeak, FillStarts, FillBelow}
use Rattle.system_monotone.proofs.library_writes.FillWrites.{fill_rises}
use Rattle.system_monotone.proofs.library_writes.FilledBytes.{bytes_filled}
use Rattle.system_monotone.proofs.library_writes.SureBytes.{sure_more, idle_sure, cut_is_count, sure_in, same_room}

-- ---- numbers that are 0 as bytes

same_number : (a c : ℤ) → a ≤ℤ c → c ≤ℤ a → a ≡ c
same_number (pos a) (pos c) h k = ap pos (omega (arith, ints))
same_number (pos a) (negsuc c) h k = absurd (omega (arith, ints))
same_number (negsuc a) (pos c) h k = absurd (omega (arith, ints))
same_number (negsuc a) (negsuc c) h k = ap negsuc (omega (arith, ints))

zero_less : (x u : Range) → is_some x ≡ true → ((p : ℤ × ℤ) → x ≡ Some p → p.0 ≤ℤ p.1) → RangeBelow x u → Sets (is_zero_range u) (is_zero_range x)
zero_less None u d order h e = absurd (cc)
zero_less (Some p) None d order h e = absurd h
zero_less (Some p) (Some q) d order h e =
    let a = and_parts (int_eq q.0 q.1) (int_eq (int_rem_euclid q.0 (pos 256)) (pos 0)) e in
    let one : q.1 ≤ℤ q.0 = one_number q.0 q.1 a.0 in
    let proper = order p refl in
    let h0 = h.0 in let h1 = h.1 in
    let same : q.0 ≡ p.0 = same_number q.0 p.0 (omega (arith, ints)) (omega (arith, ints)) in
    and_from (int_eq p.0 p.1) (int_eq (int_rem_euclid p.0 (pos 256)) (pos 0)) (is_one p.0 p.1 proper (omega (arith, ints))) (subst (λ z. int_eq (int_rem_euclid z (pos 256)) (pos 0) ≡ true) same a.1)
  where
    one_number : (a c : ℤ) → int_eq a c ≡ true → c ≤ℤ a
    one_number a c h = grind (arith, ints)

    is_one : (a c : ℤ) → a ≤ℤ c → c ≤ℤ a → int_eq a c ≡ true
    is_one a c h k = grind (arith, ints)

lower_less : (x u : Range) → is_some x ≡ true → RangeBelow x u → lower_of u ≤ℤ lower_of x
lower_less None u d h = absurd (cc)
lower_less (Some p) None d h = absurd h
lower_less (Some p) (Some q) d h = h.0

module _ {I : Type 0} {l : LatticeOf I} {n : IntegersOf I} {stands : I → ℤ → Type 0} (o : OrderLaws l) (b : BoundLaws l n stands) (g : MonotoneLaws l n) (r : RangeLaws l n) (all : Bases) (flow : Flow) (k : IsLaidOut all flow) where
  module _ (arguments : List ℕ) (wanted : Option ℕ) where
    abbrev call : Call
    call = call_of flow arguments wanted

    abbrev given : List (Cell I) → Argument I
    given row = argument_at l n call row 0

    abbrev number : List (Cell I) → values.Value I
    number row = argument_value l n call row 1

    abbrev size : List (Cell I) → values.Value I
    size row = argument_value l n call row 2

    abbrev trail : List (Cell I) → Trail
    trail row = fill_trail n (number row) (size row) (given row)

    abbrev need : List (Cell I) → Range
    need row = n.bounds (size row).num

    abbrev count : List (Cell I) → Range
    count row = cut_by_room n (need row) (given row).rest

    abbrev target : List (Cell I) → Target I
    target row = target_of l n call (room_trail n (trail row) (given row).rest (need row)) (given row).rest (count row)

    abbrev begin : List (Cell I) → Option Window
    begin row = window_within (offsets n (target row).rest)

    abbrev bytes : List (Cell I) → Option Window
    bytes row = touched_window n (target row).rest (count row)

    abbrev fill_of : List (Cell I) → Window → Window → FillWrite
    fill_of row window start = record {
      bases = writable_of flow.bases.items (target row).rest.bases;
      start = start;
      window = window;
      sure = sure_window (offsets n (target row).rest) (count row);
      one_byte = is_one_byte (count row);
      zero = is_zero_byte n (number row);
      labels = (number row).labels;
      least = lower_of (count row);
    }

    abbrev effect_of : List (Cell I) → Option Window → Option Window → Effect I
    effect_of row window start = fill_in_window l n call (target row) (number row) window start

    module _ (p q : List (Cell I)) (h : FlowRows l n all flow p q) where
      given_rises : PointersRise l n all (given p).rest (given q).rest
      given_rises = rest_more o b g r all flow k arguments wanted p q h 0

      number_rises : ValuesRise l n all (number p) (number q)
      number_rises = argument_rises o b g r all flow k arguments wanted p q h 1

      size_rises : ValuesRise l n all (size p) (size q)
      size_rises = argument_rises o b g r all flow k arguments wanted p q h 2

      need_more : RangeBelow (need p) (need q)
      need_more = bounds_monotone b (size p).num (size q).num (num_rises o b all size_rises)

      number_more : RangeBelow (n.bounds (number p).num) (n.bounds (number q).num)
      number_more = bounds_monotone b (number p).num (number q).num (num_rises o b all number_rises)

      trail_more : TrailsBelow (trail p) (trail q)
      trail_more = given_more o b g r all flow k arguments wanted p q h _ _
          (checked_below (trail_of (sink_violations (size p).labels)) (trail_of (sink_violations (size q).labels))
          (start_below (sink_violations (size p).labels) (sink_violations (size q).labels) (sinks_below (not (is_unlabelled (size p).labels)) (not (is_unlabelled (size q).labels)) (labelled_more (size p).labels (size q).labels (labels_rise o b all size_rises))))
          no_violations no_violations (same_below no_violations) (is_some (n.bounds (number p).num)) (is_some (n.bounds (number q).num)) (some_more (n.bounds (number p).num) (n.bounds (number q).num) number_more)) 0

      both : TargetsRise l n all (target p) (target q)
      both = targets o b g r all flow k arguments wanted (trail p) (trail q) trail_more (given p).rest (given q).rest given_rises (need p) (need q) need_more

      own : PointersBelow l (target p).rest (top_value n all).pointer
      own = small_own o b g r all flow k arguments wanted (trail p) (trail q) trail_more (given p).rest (given q).rest given_rises (need p) (need q) need_more

      -- the number of the byte is one
      numbered : (target p).trail.goes_on ≡ true → is_some (n.bounds (number p).num) ≡ true
      numbered on =
          let room = checked_on (room_trail n (trail p) (given p).rest (need p)) (literal_violations (writes_literal flow.bases.items (given p).rest.bases (count p))) (not (bases_empty (after_write flow.bases.items (given p).rest.bases (count p)))) on in
          let there = checked_on (trail p) (room_violations (passes_room n (need p) (given p).rest)) (is_some (count p)) room.0 in
          let byte = checked_on (checked (trail_of (sink_violations (size p).labels)) no_violations (is_some (n.bounds (number p).num))) (given p).violations (not (bases_empty (given p).rest.bases)) there.0 in
          (checked_on (trail_of (sink_violations (size p).labels)) no_violations (is_some (n.bounds (number p).num)) byte.0).1

      weak : (window start : Window) → int_le (pos 1) (lower_of (count q)) ≡ false → IsWeak (fill_of q window start)
      weak window start e = record {
        least = e;
        sure = idle_sure (offsets n (target q).rest) (count q) (λ a z. offsets_near o b all (target q).rest (pointer_parts l (target q).rest (top_value n all).pointer both.rest.own) a z) (λ c z. cut_is_count (need q) (rooms n (given q).rest) (rooms_in n (given q).rest) c z) e;
      }

      -- the larger write beside itself
      alone : (window start : Window) → bytes q ≡ Some window → begin q ≡ Some start → (e : int_le (pos 1) (lower_of (count q)) ≡ false) → FillBelow (fill_of q window start) (fill_of q window start)
      alone window start is_window is_start e = record {
        bases = bases_order.reflexive (writable_of flow.bases.items (target q).rest.bases);
        start = windows_at _ _ (within_same (offsets n (target q).rest)) start start is_start is_start;
        window = windows_at _ _ (touched_same n (target q).rest (count q)) window window is_window is_window;
        sure = subst (λ c. WindowsBelow c c) (sym (weak window start e).sure) tt;
        zero = λ z. z;
        labels = labels_order.reflexive (number q).labels;
        least = omega (arith, ints);
        begins = inl (weak window start e);
      }

      module _ (some : is_some (count p) ≡ true) (is_number : is_some (n.bounds (number p).num) ≡ true) where
        -- the bytes that surely are set are some that are written
        sure_bytes : (window start : Window) → bytes p ≡ Some window → begin p ≡ Some start → (c : Window) → sure_window (offsets n (target p).rest) (count p) ≡ Some c → (window.lo ≤ c.lo) × (c.hi ≤ window.hi)
        sure_bytes window start is_window is_start c e =
            let room = same_room o b all (given p).rest (pointer_parts l (given p).rest (top_value n all).pointer (smaller_own o b all (given p).rest (given q).rest given_rises)) (after_write flow.bases.items (given p).rest.bases (count p)) (some_of_window (offsets n (target p).rest) start is_start) in
            sure_in o b all (target p).rest own (need p) c window (subst (λ z. sure_window (offsets n (target p).rest) (cut_by (need p) z) ≡ Some c) (sym room) e) (subst (λ z. touched_window n (target p).rest (cut_by (need p) z) ≡ Some window) (sym room) is_window)

        below : (w s x y : Window) → bytes p ≡ Some w → begin p ≡ Some s → bytes q ≡ Some x → begin q ≡ Some y → FillBelow (fill_of p w s) (fill_of q x y)
        below w s x y is_w is_s is_x is_y = record {
          bases = writable_monotone flow.bases.items (target p).rest.bases (target q).rest.bases (pointer_parts l (target p).rest (target q).rest both.rest.below).bases;
          start = windows_at _ _ (start_rises o b all (target p).rest (target q).rest both.rest) s y is_s is_y;
          window = windows_at _ _ (touched_rises o b all (target p).rest (target q).rest both.rest (count p) (count q) both.count) w x is_w is_x;
          sure = sure_more (offsets n (target p).rest) (count p) (offsets n (target q).rest) (count q) (some_of_window (offsets n (target p).rest) s is_s) some
              (offsets_monotone o b (target p).rest (target q).rest (pointer_parts l (target p).rest (target q).rest both.rest.below)) both.count;
          zero = zero_less (n.bounds (number p).num) (n.bounds (number q).num) is_number (λ a z. b.proper (number p).num a.0 a.1 z) number_more;
          labels = labels_rise o b all number_rises;
          least = lower_less (count p) (count q) some both.count;
          begins = by_byte (int_le (pos 1) (lower_of (count q))) refl;
        }
          where
            by_byte : (z : Bool) → int_le (pos 1) (lower_of (count q)) ≡ z → IsWeak (fill_of q x y) ⊎ FillStarts (fill_of p w s) (fill_of q x y)
            by_byte false e = inl (weak x y e)
            by_byte true e = inr (record {
              starts = starts o b g r all flow k arguments wanted (trail p) (trail q) trail_more (given p).rest (given q).rest given_rises (need p) (need q) need_more (sure_less (count p) (count q) some both.count e) s w is_s is_w;
              sure = λ c z. sure_bytes w s is_w is_s c z;
            })

        module _ (to newest : Option ℕ) where
          abbrev top : List (Cell I)
          top = top_row n all flow.bases.items flow.temps

          abbrev done : Effect I → List (Cell I) → Option (List (Cell I))
          done e row = apply l n flow to newest e row

          written : (on : Bool) (w v : FillWrite) → FillBelow w v → (on ≡ false → IsWeak v) → FlowRows l n all flow (cond on (write_fill l n flow w p) p) (write_fill l n flow v q)
          written on w v below none = fill_rises o b all top flow (each o b flow.model flow.bases.items k.layout all flow.temps (row_near o b g r all flow k)) w v below on none p q h

          -- the larger call writes alone, or nothing
          larger_left : (x y : Option Window) → bytes q ≡ x → begin q ≡ y
              → (effect_of q x y ≡ nothing_written l (target q)) ⊎ (IsIdle o b g r all flow k (target p) (target q) → LeftRise l n top (done (effect.Result (pointer_value l (target p).rest)) p) (done (effect_of q x y) q))
          unfolding apply
          larger_left None y d e = inl refl
          larger_left (Some x) None d e = inl refl
          larger_left (Some x) (Some y) d e = inr (λ idle.
              let z = larger_idle o b g r all flow k (target p) (target q) some both.count idle in
              both_left o b g r all flow k (target p) (target q) some both.count (effect_of q (Some x) (Some y)) both.rest to newest p q p (write_fill l n flow (fill_of q x y) q)
              (written false (fill_of q x y) (fill_of q x y) (alone x y d e z) (λ f. weak x y z)))

          idle : (x y : Option Window) → bytes q ≡ x → begin q ≡ y → LeftRise l n top (done (nothing_written l (target p)) p) (done (effect_of q x y) q)
          idle x y d e = idle_left o b g r all flow k (target p) (target q) some both.count (effect_of q x y) both.rest to newest p q h (larger_left x y d e)

          left : (w s x y : Option Window) → bytes p ≡ w → begin p ≡ s → bytes q ≡ x → begin q ≡ y → LeftRise l n top (done (effect_of p w s) p) (done (effect_of q x y) q)
          unfolding apply
          left None s x y is_w is_s is_x is_y = idle x y is_x is_y
          left (Some w) None x y is_w is_s is_x is_y = idle x y is_x is_y
          left (Some w) (Some s) None y is_w is_s is_x is_y = absurd (subst₂ (λ c d. WindowsBelow c d) is_w is_x (touched_rises o b all (target p).rest (target q).rest both.rest (count p) (count q) both.count))
          left (Some w) (Some s) (Some x) None is_w is_s is_x is_y = absurd (subst₂ (λ c d. WindowsBelow c d) is_s is_y (start_rises o b all (target p).rest (target q).rest both.rest))
          left (Some w) (Some s) (Some x) (Some y) is_w is_s is_x is_y = both_left o b g r all flow k (target p) (target q) some both.count (effect_of q (Some x) (Some y)) both.rest to newest p q (write_fill l n flow (fill_of p w s) p) (write_fill l n flow (fill_of q x y) q)
              (written true (fill_of p w s) (fill_of q x y) (below w s x y is_w is_s is_x is_y) (λ f. absurd (cc)))

    fills : (to newest : Option ℕ) (row : List (Cell I)) (window start : Option Window) → LeavesFilled (apply l n flow to newest (effect_of row window start))
    unfolding apply
    fills to newest row None start x h = idle_fills o b g r all flow k to newest (target row) x h
    fills to newest row (Some window) None x h = idle_fills o b g r all flow k to newest (target row) x h
    fills to newest row (Some window) (Some start) x h = put_fills o b g r all flow k to (pointer_value l (target row).rest) _ (bytes_filled l n flow _ x h)

  pub memset_rises : CallRises l n all flow f.Memset
  unfolding call_step plan_call plan_fill
  memset_rises = record {
    step = λ to arguments newest wanted site p q h. planned_left o b g r all flow k to newest p q (target arguments wanted p).trail (target arguments wanted q).trail (both arguments wanted p q h).trail _ _
        (λ on. left arguments wanted p q h
        (counted o b g r all flow k arguments wanted (trail arguments wanted p) (trail arguments wanted q) (trail_more arguments wanted p q h) (given arguments wanted p).rest (given arguments wanted q).rest (given_rises arguments wanted p q h) (need arguments wanted p) (need arguments wanted q) (need_more arguments wanted p q h) on)
        (numbered arguments wanted p q h on) to newest (bytes arguments wanted p) (begin arguments wanted p) (bytes arguments wanted q) (begin arguments wanted q) refl refl refl refl);
    checks = λ arguments wanted p q h. (both arguments wanted p q h).trail.checks;
    fills = λ to arguments newest wanted p h. planned_fills o b g r all flow k to newest (target arguments wanted p).trail (effect_of arguments wanted p (bytes arguments wanted p) (begin arguments wanted p))
        (λ x j. fills arguments wanted to newest p (bytes arguments wanted p) (begin arguments wanted p) x j) p h;
  }
