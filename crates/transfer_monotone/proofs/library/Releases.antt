-- Releases by `free` and `realloc`, in rising rows.
use Rattle.std.specs.Prelude.{◌≡◌, ℕ, ℤ, pos, ◌+ℤ◌, ◌≤ℤ◌, int_le, Bool, true, false, cond, not, ◌||◌, Option, Some, None, is_some, List, refl}
use Rattle.std.specs.Ordering.{int_eq}
use Rattle.std.proofs.Common.{arith}
use Rattle.std.proofs.lemmas.Int.{ints}
use Rattle.cc_base.specs.Lattices.{LatticeOf, OrderLaws}
use Rattle.cc_base.specs.NumberRanges.{Range, range_sum}
use Rattle.cc_base.specs.IntegerDomains.{IntegersOf, BoundLaws, RangeLaws}
use Rattle.cc_base.specs.IntegerLaws.{MonotoneLaws}
use Rattle.c_layout.specs.declared.library_functions.LibFn.TheVariants as f
use Rattle.cfg.specs.declared.programs.Flow.{Flow}
use Rattle.cfg.specs.WellFormed.{is_site}
use Rattle.pointer_domain.specs.declared.base_sets.Bases.{Bases}
use Rattle.pointer_domain.specs.declared.pointer_sets.Pointers.{Pointers}
use Rattle.pointer_domain.specs.BaseSets.{bases_within, bases_empty}
use Rattle.pointer_domain.specs.PointerLattice.{no_pointer, pointer_order}
use Rattle.pointer_domain.specs.PointerTables.{offsets, is_any}
use Rattle.value_domain.specs.Strings.FirstZeros.{the_end}
use Rattle.value_domain.specs.declared.values.values.Value.{Value}
use Rattle.value_domain.specs.declared.values.row_cells.Cell.{Cell}
use Rattle.store_objects.specs.declared.allocation.Fresh.TheVariants as fresh
use Rattle.store_objects.specs.LiveBases.{live_of, is_live_in, any_freed}
use Rattle.domain_theorems.proofs.values.Bases.{empty_below}
use Rattle.domain_theorems.proofs.values.Flags.{Sets, flag_sets, or_sets, and_sets, not_sets}
use Rattle.domain_theorems.proofs.values.Moves.{offsets_monotone}
use Rattle.domain_theorems.proofs.values.Parts.{PointersBelow, pointer_parts, pointers_below}
use Rattle.domain_theorems.proofs.values.Ranges.{RangeBelow, bounds_monotone}
use Rattle.store_monotone.specs.Operations.TopCells.{top_value}
use Rattle.store_monotone.specs.Operations.TopRows.{top_row}
use Rattle.store_monotone.proofs.operations.ConsistentLives.{free_even}
use Rattle.store_monotone.proofs.operations.LiveBases.{live_of_monotone}
use Rattle.store_monotone.proofs.operations.StorePlaces.{any_monotone}
use Rattle.store_monotone.proofs.operations.Together.{frees}
use Rattle.transfer_checks.specs.declared.allocation_checks.Released.{Released}
use Rattle.transfer_checks.specs.declared.violation_sets.Violations.{Violations}
use Rattle.transfer_checks.specs.AllocationChecks.{allocation_violations, heap_of, may_be_zero, may_differ, is_misplaced, to_starts, check_release}
use Rattle.transfer_checks.specs.Touches.{into_bases}
use Rattle.transfer_checks.specs.ViolationSets.{no_violations, violations_union}
use Rattle.transfer_library_plans.specs.Allocations.{instance_size, released, plan_realloc, plan_free}
use Rattle.transfer_library_plans.specs.Arguments.{argument_value}
use Rattle.transfer_library_plans.specs.declared.call_plans.Trail.{Trail}
use Rattle.transfer_library_plans.specs.declared.call_plans.Effect.TheVariants as effect
use Rattle.transfer_system.specs.Effects.{apply}
use Rattle.transfer_system.specs.Planning.{plan_call}
use Rattle.transfer_system.specs.CallSteps.{call_of, call_step}
use Rattle.transfer_monotone.specs.Values.RisingRows.{LeftRise, PointersRise}
use Rattle.transfer_monotone.specs.Values.LaidOut.{IsLaidOut}
use Rattle.transfer_monotone.specs.Values.ViolationsBelow.{ViolationsBelow}
use Rattle.transfer_monotone.specs.Values.StepLaws.{FlowRows}
use Rattle.transfer_monotone.proofs.values.LiveParts.{live_empty, freed_more}
use Rattle.transfer_monotone.proofs.values.OwnBases.{words_less}
use Rattle.transfer_monotone.proofs.values.IntegerChecks.{some_more}
use Rattle.transfer_monotone.proofs.values.Results.{num_rises, smaller_own, none_rises, part_rises}
use Rattle.transfer_monotone.proofs.values.Touches.{into_rises, near_rises, placed_bases}
use Rattle.transfer_monotone.proofs.values.ViolationOrder.{same_below, union_below, union_left, releases_below}
use Rattle.transfer_monotone.specs.Edges.FilledRows.{AreFilled, IsLeftFilled}
use Rattle.transfer_monotone.specs.Edges.CallLaws.{CallRises}
use Rattle.transfer_monotone.proofs.edges.MemorySteps.{row_near}
use Rattle.transfer_monotone.proofs.edges.FilledSteps.{free_fills}
use Rattle.transfer_monotone.specs.Library.Sites.{HasSites}
use Rattle.transfer_monotone.proofs.library.AllocationCalls.{allocated_rises, allocated_fills, sizes_rise, size_count, sized_more}
use Rattle.transfer_monotone.proofs.library.HeapBases.{heap_more, heap_own, heap_empty, heap_fewer}
use Rattle.transfer_monotone.proofs.library.ResultCalls.{argument_rises}

-- ---- ranges

zero_more : (x u : Range) → RangeBelow x u → Sets (may_be_zero x) (may_be_zero u)
zero_more None u h e = absurd (cc)
zero_more (Some p) None h e = absurd h
zero_more (Some p) (Some q) h e = and_sets (int_le p.0 (pos 0)) (int_le (pos 0) p.1) (int_le q.0 (pos 0)) (int_le (pos 0) q.1) (λ f. lower p.0 q.0 h.0 f) (λ f. upper p.1 q.1 h.1 f) e
  where
    lower : (a c : ℤ) → c ≤ℤ a → int_le a (pos 0) ≡ true → int_le c (pos 0) ≡ true
    lower a c h f = grind (arith, ints)

    upper : (a c : ℤ) → a ≤ℤ c → int_le (pos 0) a ≡ true → int_le (pos 0) c ≡ true
    upper a c h f = grind (arith, ints)

abbrev IsOrdered : Range → Type 0
IsOrdered None = Unit {0}
IsOrdered (Some p) = p.0 ≤ℤ p.1

differ_at : (a c d e : ℤ) → a ≤ℤ c → d ≤ℤ a → c ≤ℤ e → Sets (not (int_eq a (pos 0)) || not (int_eq c (pos 0))) (not (int_eq d (pos 0)) || not (int_eq e (pos 0)))
differ_at a c d e h i j k = grind (arith, ints)

differ_more : (x u : Range) → IsOrdered x → RangeBelow x u → Sets (may_differ x) (may_differ u)
differ_more None u o h e = absurd (cc)
differ_more (Some p) None o h e = absurd h
differ_more (Some p) (Some q) o h e = differ_at p.0 p.1 q.0 q.1 o h.0 h.1 e

module _ {I : Type 0} {l : LatticeOf I} {n : IntegersOf I} {stands : I → ℤ → Type 0} (b : BoundLaws l n stands) where
  sum_ordered : (x y : I) (r s : Range) → n.bounds x ≡ r → n.bounds y ≡ s → IsOrdered (range_sum r s)
  sum_ordered x y None s e f = tt
  sum_ordered x y (Some p) None e f = tt
  sum_ordered x y (Some p) (Some q) e f = let c = b.proper x p.0 p.1 e in let d = b.proper y q.0 q.1 f in added p.0 p.1 q.0 q.1 c d
    where
      added : (a c d e : ℤ) → a ≤ℤ c → d ≤ℤ e → (a +ℤ d) ≤ℤ (c +ℤ e)
      added a c d e h k = omega (arith, ints)

module _ {I : Type 0} {l : LatticeOf I} {n : IntegersOf I} {stands : I → ℤ → Type 0} (o : OrderLaws l) (b : BoundLaws l n stands) (g : MonotoneLaws l n) (r : RangeLaws l n) (all : Bases) (flow : Flow) (k : IsLaidOut all flow) where
  -- ---- what is released

  module _ (x y : List (Cell I)) (h : FlowRows l n all flow x y) (p q : Pointers I) (j : PointersRise l n all p q) where
    abbrev live : List (Cell I) → Pointers I → Bases
    live row t = live_of l n flow.bases.items row t.bases

    c : PointersBelow l p q
    c = pointer_parts l p q j.below

    d : PointersBelow l q (top_value n all).pointer
    d = pointer_parts l q (top_value n all).pointer j.own

    live_more : bases_within (live x p) (live y q) ≡ true
    live_more = live_of_monotone l n all (top_row n all flow.bases.items flow.temps) flow.bases.items p.bases q.bases x y (placed_bases o b all flow k) h.below c.bases

    into_heap : PointersRise l n all (into_bases l n p (heap_of flow.bases.items (live x p)) p.rel) (into_bases l n q (heap_of flow.bases.items (live y q)) q.rel)
    into_heap = into_rises o b all p q j (heap_of flow.bases.items (live x p)) (heap_of flow.bases.items (live y q)) (heap_more flow.bases.items (live x p) (live y q) live_more) (heap_own all flow.bases.items k.named (live y q))
        (λ e. heap_empty flow.bases.items (live x p) (live_empty l n flow.bases.items x p.bases e)) p.rel q.rel c.rel d.rel

    starts_rise : PointersRise l n all (to_starts l n p (heap_of flow.bases.items (live x p))) (to_starts l n q (heap_of flow.bases.items (live y q)))
    starts_rise = by_zero (may_be_zero (offsets n p)) (may_be_zero (offsets n q)) (zero_more (offsets n p) (offsets n q) (offsets_monotone o b p q c))
      where
        by_zero : (a e : Bool) → Sets a e → PointersRise l n all (cond a (into_bases l n p (heap_of flow.bases.items (live x p)) p.rel) (no_pointer l)) (cond e (into_bases l n q (heap_of flow.bases.items (live y q)) q.rel) (no_pointer l))
        by_zero true true s = into_heap
        by_zero true false s = absurd (let z : false ≡ true = s refl in cc)
        by_zero false true s = none_rises o b all (into_bases l n q (heap_of flow.bases.items (live y q)) q.rel) into_heap.own
        by_zero false false s = none_rises o b all (no_pointer l) ((pointer_order o).least_below (top_value n all).pointer)

    -- with null where the whole has it
    with_null : (s t : Pointers I) → PointersRise l n all s t → PointersRise l n all (record s { null = p.null; ended = false }) (record t { null = q.null; ended = false })
    with_null s t i =
        let u = pointer_parts l s t i.below in
        let v = pointer_parts l t (top_value n all).pointer i.own in
        record {
          below = pointers_below l (record s { null = p.null; ended = false }) (record t { null = q.null; ended = false }) (record { bases = u.bases; lo = u.lo; rel = u.rel; len = u.len; part = u.part; null = c.null; ended = refl });
          own = pointers_below l (record t { null = q.null; ended = false }) (top_value n all).pointer (record { bases = v.bases; lo = v.lo; rel = v.rel; len = v.len; part = v.part; null = d.null; ended = refl });
          even = i.even;
        }

    pub rest_rises : PointersRise l n all (check_release l n flow.bases.items x p).rest (check_release l n flow.bases.items y q).rest
    unfolding check_release
    rest_rises = near_rises o b all (record (to_starts l n p (heap_of flow.bases.items (live x p))) { null = p.null; ended = false }) (record (to_starts l n q (heap_of flow.bases.items (live y q))) { null = q.null; ended = false })
        (with_null (to_starts l n p (heap_of flow.bases.items (live x p))) (to_starts l n q (heap_of flow.bases.items (live y q))) starts_rise)

    misplaced_more : Sets (is_misplaced (live x p) (heap_of flow.bases.items (live x p)) (offsets n p)) (is_misplaced (live y q) (heap_of flow.bases.items (live y q)) (offsets n q))
    misplaced_more = and_sets (not (bases_empty (live x p))) _ (not (bases_empty (live y q))) _ (not_sets (bases_empty (live x p)) (bases_empty (live y q)) (empty_below (live x p) (live y q) live_more))
        (or_sets (not (bases_within (live x p) (heap_of flow.bases.items (live x p)))) (may_differ (offsets n p)) (not (bases_within (live y q) (heap_of flow.bases.items (live y q)))) (may_differ (offsets n q))
        (not_sets (bases_within (live x p) (heap_of flow.bases.items (live x p))) (bases_within (live y q) (heap_of flow.bases.items (live y q))) (λ e. heap_fewer (is_live_in l n x p.bases) flow.bases.items (live y q) live_more e))
        (differ_more (offsets n p) (offsets n q) (sum_ordered b p.lo p.rel (n.bounds p.lo) (n.bounds p.rel) refl refl) (offsets_monotone o b p q c)))

    pub release_more : ViolationsBelow (check_release l n flow.bases.items x p).violations (check_release l n flow.bases.items y q).violations
    unfolding check_release
    release_more = releases_below (any_freed l n flow.bases.items x p.bases) (p.ended || is_misplaced (live x p) (heap_of flow.bases.items (live x p)) (offsets n p)) (any_freed l n flow.bases.items y q.bases) (q.ended || is_misplaced (live y q) (heap_of flow.bases.items (live y q)) (offsets n q))
        (freed_more o b all (top_row n all flow.bases.items flow.temps) x y h.below flow.bases.items (placed_bases o b all flow k) p.bases q.bases c.bases)
        (or_sets p.ended _ q.ended _ (flag_sets p.ended q.ended c.ended) misplaced_more)

  -- ---- free

  applied : (to newest : Option ℕ) (x y : List (Cell I)) → FlowRows l n all flow x y → (s t : Pointers I) → PointersRise l n all s t → (a c : Bool) → is_any s ≡ a → Sets a c → LeftRise l n (top_row n all flow.bases.items flow.temps) (apply l n flow to newest (cond a (effect.Free s) effect.Unreached) x) (apply l n flow to newest (cond c (effect.Free t) effect.Unreached) y)
  unfolding apply
  applied to newest x y h s t j true true e i = record {
    below = frees o b flow.model flow.bases.items k.layout all flow.temps (row_near o b g r all flow k) x y h.below s t j.below e;
    even = free_even o b flow.bases.items s x h.even;
  }
  applied to newest x y h s t j true false e i = absurd (let z : false ≡ true = i refl in cc)
  applied to newest x y h s t j false c e i = tt

  applied_fills : (to newest : Option ℕ) (s : Pointers I) (a : Bool) (x : List (Cell I)) → AreFilled x → IsLeftFilled (apply l n flow to newest (cond a (effect.Free s) effect.Unreached) x)
  unfolding apply
  applied_fills to newest s true x h = free_fills l n flow.bases.items s x h
  applied_fills to newest s false x h = tt

  pub free_rises : CallRises l n all flow f.Free
  unfolding call_step plan_call plan_free
  free_rises = record {
    step = λ to arguments newest wanted site x y h.
        let j = part_rises o b all _ _ (argument_rises o b g r all flow k arguments wanted x y h 0) in
        let i = rest_rises x y h _ _ j in
        applied to newest x y h (released l n (call_of flow arguments wanted) x).rest (released l n (call_of flow arguments wanted) y).rest i (is_any (released l n (call_of flow arguments wanted) x).rest) (is_any (released l n (call_of flow arguments wanted) y).rest) refl
        (any_monotone o b (released l n (call_of flow arguments wanted) x).rest (released l n (call_of flow arguments wanted) y).rest (pointer_parts l (released l n (call_of flow arguments wanted) x).rest (released l n (call_of flow arguments wanted) y).rest i.below));
    checks = λ arguments wanted x y h.
        let j = part_rises o b all _ _ (argument_rises o b g r all flow k arguments wanted x y h 0) in
        union_below no_violations (released l n (call_of flow arguments wanted) x).violations no_violations (released l n (call_of flow arguments wanted) y).violations (same_below no_violations) (release_more x y h _ _ j);
    fills = λ to arguments newest wanted x h. applied_fills to newest (released l n (call_of flow arguments wanted) x).rest (is_any (released l n (call_of flow arguments wanted) x).rest) x h;
  }

  -- ---- realloc

  -- the trail behind the checks of a size and of what is released
  abbrev trail_at : (a c : Bool) → Violations → Violations → Trail
  trail_at a c u v = cond a (record { violations = violations_union u v; goes_on = c }) (record { violations = u; goes_on = a })

  trails_below : (a c d e : Bool) → Sets a d → (u v s t : Violations) → ViolationsBelow u s → ViolationsBelow v t → ViolationsBelow (trail_at a c u v).violations (trail_at d e s t).violations
  trails_below true c true e i u v s t h j = union_below u v s t h j
  trails_below true c false e i u v s t h j = absurd (let z : false ≡ true = i refl in cc)
  trails_below false c true e i u v s t h j = union_left u s t h
  trails_below false c false e i u v s t h j = h

  module _ (sites : HasSites all flow) where
    again : (to newest : Option ℕ) → is_site flow.bases.items newest ≡ true → (a c d e : Bool) → Sets a d → Sets c e → (u v s t : Violations) → (x y : I) → l.leq x y ≡ true → l.leq y (n.between (pos 0) the_end) ≡ true → (i j : Pointers I) → PointersRise l n all i j → (p q : List (Cell I)) → FlowRows l n all flow p q
        → LeftRise l n (top_row n all flow.bases.items flow.temps) (apply l n flow to newest (cond (trail_at a c u v).goes_on (effect.Reallocate x i) effect.Unreached) p) (apply l n flow to newest (cond (trail_at d e s t).goes_on (effect.Reallocate y j) effect.Unreached) q)
    unfolding apply
    again to newest site true true true true z w u v s t x y h m i j below p q rows =
        allocated_rises o b g r all flow k sites (fresh.Old i) (fresh.Old j) (words_less i.bases all (pointer_parts l i (top_value n all).pointer (smaller_own o b all i j below)).bases k.words) below.below to newest site x y h m p q rows
    again to newest site true true true false z w u v s t x y h m i j below p q rows = absurd (let f : false ≡ true = w refl in cc)
    again to newest site true true false e z w u v s t x y h m i j below p q rows = absurd (let f : false ≡ true = z refl in cc)
    again to newest site true false d e z w u v s t x y h m i j below p q rows = tt
    again to newest site false c d e z w u v s t x y h m i j below p q rows = tt

    again_fills : (to newest : Option ℕ) (a c : Bool) (u v : Violations) (x : I) (i : Pointers I) (p : List (Cell I)) → AreFilled p → IsLeftFilled (apply l n flow to newest (cond (trail_at a c u v).goes_on (effect.Reallocate x i) effect.Unreached) p)
    unfolding apply
    again_fills to newest true true u v x i p h = allocated_fills o b g r all flow k sites (fresh.Old i) to newest x p h
    again_fills to newest true false u v x i p h = tt
    again_fills to newest false c u v x i p h = tt

    pub realloc_rises : CallRises l n all flow f.Realloc
    unfolding call_step plan_call plan_realloc
    realloc_rises = record {
      step = λ to arguments newest wanted site x y h.
          let v : Value I = argument_value l n (call_of flow arguments wanted) x 1 in
          let w : Value I = argument_value l n (call_of flow arguments wanted) y 1 in
          let i = bounds_monotone b v.num w.num (num_rises o b all (argument_rises o b g r all flow k arguments wanted x y h 1)) in
          let s : Released I = released l n (call_of flow arguments wanted) x in
          let t : Released I = released l n (call_of flow arguments wanted) y in
          let j = rest_rises x y h _ _ (part_rises o b all _ _ (argument_rises o b g r all flow k arguments wanted x y h 0)) in
          again to newest site (is_some (n.bounds v.num)) (is_any s.rest) (is_some (n.bounds w.num)) (is_any t.rest) (some_more (n.bounds v.num) (n.bounds w.num) i) (any_monotone o b s.rest t.rest (pointer_parts l s.rest t.rest j.below))
          (violations_union (allocation_violations (n.bounds v.num) v.labels wanted) no_violations) s.violations (violations_union (allocation_violations (n.bounds w.num) w.labels wanted) no_violations) t.violations
          (instance_size l n flow.model (n.bounds v.num)) (instance_size l n flow.model (n.bounds w.num)) (sizes_rise o b g r all flow k sites (n.bounds v.num) (n.bounds w.num) i) (size_count o b g r all flow k sites (n.bounds w.num)) s.rest t.rest j x y h;
      checks = λ arguments wanted x y h.
          let v : Value I = argument_value l n (call_of flow arguments wanted) x 1 in
          let w : Value I = argument_value l n (call_of flow arguments wanted) y 1 in
          let a = argument_rises o b g r all flow k arguments wanted x y h 1 in
          let s : Released I = released l n (call_of flow arguments wanted) x in
          let t : Released I = released l n (call_of flow arguments wanted) y in
          trails_below (is_some (n.bounds v.num)) (is_any s.rest) (is_some (n.bounds w.num)) (is_any t.rest) (some_more (n.bounds v.num) (n.bounds w.num) (bounds_monotone b v.num w.num (num_rises o b all a)))
          (violations_union (allocation_violations (n.bounds v.num) v.labels wanted) no_violations) s.violations (violations_union (allocation_violations (n.bounds w.num) w.labels wanted) no_violations) t.violations
          (sized_more o b g r all flow k sites wanted v w a) (release_more x y h _ _ (part_rises o b all _ _ (argument_rises o b g r all flow k arguments wanted x y h 0)));
      fills = λ to arguments newest wanted x h.
          let v : Value I = argument_value l n (call_of flow arguments wanted) x 1 in
          let s : Released I = released l n (call_of flow arguments wanted) x in
          again_fills to newest (is_some (n.bounds v.num)) (is_any s.rest) (violations_union (allocation_violations (n.bounds v.num) v.labels wanted) no_violations) s.violations (instance_size l n flow.model (n.bounds v.num)) s.rest x h;
    }
