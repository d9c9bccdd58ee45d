-- Allocations by `malloc`, in rising rows.
use Rattle.std.specs.Prelude.{◌≡◌, ℕ, ◌<◌, ℤ, pos, ◌≤ℤ◌, int_lt, int_le, Bool, true, false, cond, not, ◌&&◌, Option, Some, None, is_some, List, length, slice_get, nat_lt, refl}
use Rattle.std.specs.Int.{int_min, int_max}
use Rattle.std.proofs.Common.{arith, sym, subst, subst₂}
use lib.Signed.{≤ℤ_refl}
use Rattle.std.proofs.lemmas.Int.{ints, clamps}
use Rattle.std.proofs.lemmas.Bool.{and_parts, cond_both, cond-true, false_from_ne_true}
use Rattle.cc_base.specs.Lattices.{LatticeOf, OrderLaws}
use Rattle.cc_base.specs.NumberRanges.{Range, range_met}
use Rattle.cc_base.specs.IntegerDomains.{IntegersOf, BoundLaws, RangeLaws, of_range}
use Rattle.cc_base.specs.IntegerLaws.{MonotoneLaws}
use Rattle.cc_base.specs.IntegerTypes.{greatest_of}
use Rattle.c_layout.specs.declared.leaf_lists.Class.TheVariants.{Pointer}
use Rattle.c_layout.specs.declared.library_functions.LibFn.TheVariants as f
use Rattle.cfg.specs.declared.programs.Flow.{Flow}
use Rattle.cfg.specs.WellFormed.{is_site}
use Rattle.pointer_domain.specs.declared.base_sets.Bases.{Bases}
use Rattle.pointer_domain.specs.BaseSets.{no_base, bases_with, bases_within, bases_empty}
use Rattle.pointer_domain.specs.BaseFacts.{with_has_same}
use Rattle.pointer_domain.specs.BaseLattice.{bases_order}
use Rattle.pointer_domain.specs.PointerLattice.{pointers_leq}
use Rattle.value_domain.specs.Strings.FirstZeros.{the_end}
use Rattle.value_domain.specs.declared.values.values.Value.{Value}
use Rattle.value_domain.specs.declared.values.row_cells.Cell.{Cell}
use Rattle.value_domain.specs.Values.LabelSets.{is_unlabelled}
use Rattle.value_domain.specs.Values.ValueTables.{pointer_value}
use Rattle.store_objects.specs.declared.allocation.Fresh.{Fresh}
use Rattle.store_objects.specs.declared.allocation.Fresh.TheVariants as fresh
use Rattle.store_objects.specs.Allocations.{site_of, is_named, is_fresh, fresh_pointer, renewed_pointer, renew}
use Rattle.store_cells.specs.ByteWrites.{null_pointer}
use Rattle.store_objects.specs.LiveBases.{most_bases}
use Rattle.store_cells.specs.NearValues.{near_number}
use Rattle.store_cells.specs.ScalarTypes.{kind_of}
use Rattle.domain_theorems.proofs.values.BaseChanges.{has_none}
use Rattle.domain_theorems.proofs.values.Flags.{Sets, and_sets}
use Rattle.domain_theorems.proofs.values.Parts.{pointers_below}
use Rattle.domain_theorems.proofs.values.Ranges.{RangeBelow, met_monotone, bounds_monotone, of_range_monotone}
use Rattle.store_monotone.specs.Operations.StoreLaws.{FreshBelow, IsFreshOfWords}
use Rattle.store_monotone.specs.Operations.TopCells.{top_number, top_value}
use Rattle.store_monotone.specs.Operations.TopRows.{top_row}
use Rattle.store_monotone.proofs.operations.CellReads.{size_is}
use Rattle.store_monotone.proofs.operations.Consistent.{from_some}
use Rattle.store_monotone.proofs.operations.FirstZeros.{zero_near}
use Rattle.store_monotone.proofs.operations.NearCells.{near_is}
use Rattle.store_monotone.proofs.operations.Together.{renews, renews_consistent}
use Rattle.transfer_checks.specs.ViolationSets.{no_violations}
use Rattle.transfer_checks.specs.AllocationChecks.{is_too_small, allocation_violations}
use Rattle.transfer_library_plans.specs.Allocations.{sized_trail, instance_size, plan_malloc}
use Rattle.transfer_library_plans.specs.Arguments.{argument_value}
use Rattle.transfer_library_plans.specs.declared.call_plans.Effect.TheVariants as effect
use Rattle.transfer_system.specs.Effects.{older_of, allocated_at, allocated, apply}
use Rattle.transfer_system.specs.Planning.{plan_call}
use Rattle.transfer_system.specs.CallSteps.{call_of, call_step}
use Rattle.transfer_monotone.specs.Values.RisingRows.{LeftRise, PointersRise, ValuesRise}
use Rattle.transfer_monotone.specs.Values.LaidOut.{IsLaidOut}
use Rattle.transfer_monotone.specs.Values.ViolationsBelow.{ViolationsBelow}
use Rattle.transfer_monotone.specs.Values.StepLaws.{FlowRows}
use Rattle.transfer_monotone.proofs.values.RisingCells.{small_own}
use Rattle.transfer_monotone.proofs.values.Results.{num_rises, labels_rise, pointer_rises, bare_rises, bare_own}
use Rattle.transfer_monotone.proofs.values.IntegerSteps.{near_ends, one_near}
use Rattle.transfer_monotone.proofs.values.IntegerChecks.{some_more, labelled_more}
use Rattle.transfer_monotone.proofs.values.PointerSteps.{found_below, one_some}
use Rattle.transfer_monotone.proofs.values.ViolationOrder.{same_below, union_below, allocates_below}
use Rattle.transfer_monotone.specs.Edges.FilledRows.{AreFilled, IsLeftFilled}
use Rattle.transfer_monotone.specs.Edges.CallLaws.{CallRises}
use Rattle.transfer_monotone.proofs.edges.MemorySteps.{row_near}
use Rattle.transfer_monotone.proofs.edges.FilledSteps.{renew_fills}
use Rattle.transfer_monotone.specs.Library.Sites.{HasSites}
use Rattle.transfer_monotone.proofs.library.ResultCalls.{argument_rises, result_rises, put_fills}

pub small_more : (wanted : Option ℕ) (x u : Range) → RangeBelow x u → Sets (is_too_small x wanted) (is_too_small u wanted)
small_more wanted None u h e = absurd (cc)
small_more wanted (Some p) None h e = absurd h
small_more None (Some p) (Some q) h e = absurd (cc)
small_more (Some bytes) (Some p) (Some q) h e = less p.0 q.0 bytes h.0 e
  where
    less : (a c : ℤ) (m : ℕ) → c ≤ℤ a → int_lt a (pos m) ≡ true → int_lt c (pos m) ≡ true
    less a c m h e = grind (arith, ints)

met_in : (x : Range) (c d e f : ℤ) → e ≤ℤ c → d ≤ℤ f → RangeBelow (range_met x c d) (Some (e, f))
met_in None c d e f h k = tt
met_in (Some p) c d e f h k = cond_both (int_le (int_max p.0 c) (int_min p.1 d)) (Some (int_max p.0 c, int_min p.1 d)) None (λ r. RangeBelow r (Some (e, f))) (λ t. (omega (arith, ints, clamps), omega (arith, ints, clamps))) (λ t. tt)

some_base : {K : Type 0} (found : Option K) → is_some found ≡ true → (k : K) × (found ≡ Some k)
some_base None h = absurd (cc)
some_base (Some k) h = (k, refl)

module _ {I : Type 0} {l : LatticeOf I} {n : IntegersOf I} {stands : I → ℤ → Type 0} (o : OrderLaws l) (b : BoundLaws l n stands) (g : MonotoneLaws l n) (r : RangeLaws l n) (all : Bases) (flow : Flow) (k : IsLaidOut all flow) where
  -- ---- the pointer to the fresh instance

  module _ (newest older : ℕ) (there : newest < length flow.bases.items) (x y : I) (h : l.leq x y ≡ true) (m : l.leq y (n.between (pos 0) the_end) ≡ true) where
    fresh_own : nat_lt newest most_bases ≡ true → pointers_leq l (record { bases = bases_with no_base newest; lo = n.one (pos 0); rel = n.one (pos 0); len = y; part = false; null = true; ended = false }) (top_value n all).pointer ≡ true
    fresh_own e = pointers_below l (record { bases = bases_with no_base newest; lo = n.one (pos 0); rel = n.one (pos 0); len = y; part = false; null = true; ended = false }) (top_value n all).pointer (record {
      bases = subst (λ s. bases_within s all ≡ true) (cond-true (nat_lt newest most_bases) (bases_with no_base newest) no_base e) (k.named newest there);
      lo = one_near o b (pos 0) (omega (arith, ints)) (omega (arith, ints));
      rel = one_near o b (pos 0) (omega (arith, ints)) (omega (arith, ints));
      len = o.transitive y (n.between (pos 0) the_end) (top_number n) m (zero_near o b);
      part = refl;
      null = refl;
      ended = refl;
    })

    both_fresh : nat_lt newest most_bases ≡ true → is_some (n.bounds x) ≡ true → PointersRise l n all (record { bases = bases_with no_base newest; lo = n.one (pos 0); rel = n.one (pos 0); len = x; part = false; null = true; ended = false }) (record { bases = bases_with no_base newest; lo = n.one (pos 0); rel = n.one (pos 0); len = y; part = false; null = true; ended = false })
    both_fresh e some = record {
      below = pointers_below l (record { bases = bases_with no_base newest; lo = n.one (pos 0); rel = n.one (pos 0); len = x; part = false; null = true; ended = false }) (record { bases = bases_with no_base newest; lo = n.one (pos 0); rel = n.one (pos 0); len = y; part = false; null = true; ended = false })
          (record { bases = bases_order.reflexive (bases_with no_base newest); lo = o.reflexive (n.one (pos 0)); rel = o.reflexive (n.one (pos 0)); len = h; part = refl; null = refl; ended = refl });
      own = fresh_own e;
      even = from_some o b (record { bases = bases_with no_base newest; lo = n.one (pos 0); rel = n.one (pos 0); len = x; part = false; null = true; ended = false })
          (false_from_ne_true (bases_empty (bases_with no_base newest)) (λ (z : bases_empty (bases_with no_base newest) ≡ true). has_none (bases_with no_base newest) newest z (with_has_same no_base newest)))
          (record { lo = one_some o b (pos 0); rel = one_some o b (pos 0); len = some });
    }

    fresh_rises : PointersRise l n all (fresh_pointer l n (site_of newest older) x) (fresh_pointer l n (site_of newest older) y)
    unfolding fresh_pointer
    fresh_rises = by_fresh (is_fresh n (site_of newest older) x) (is_fresh n (site_of newest older) y) refl refl
        (and_sets (is_named (site_of newest older)) (is_some (n.bounds x)) (is_named (site_of newest older)) (is_some (n.bounds y)) (λ e. e) (some_more (n.bounds x) (n.bounds y) (bounds_monotone b x y h)))
      where
        by_fresh : (a c : Bool) → is_fresh n (site_of newest older) x ≡ a → is_fresh n (site_of newest older) y ≡ c → Sets a c
            → PointersRise l n all (cond a (record { bases = bases_with no_base newest; lo = n.one (pos 0); rel = n.one (pos 0); len = x; part = false; null = true; ended = false }) (null_pointer l)) (cond c (record { bases = bases_with no_base newest; lo = n.one (pos 0); rel = n.one (pos 0); len = y; part = false; null = true; ended = false }) (null_pointer l))
        by_fresh true true e d s = let p = and_parts (is_named (site_of newest older)) (is_some (n.bounds x)) e in both_fresh (and_parts (nat_lt newest most_bases) (nat_lt older most_bases) p.0).0 p.1
        by_fresh true false e d s = absurd (let z : false ≡ true = s refl in cc)
        by_fresh false true e d s = let p = and_parts (is_named (site_of newest older)) (is_some (n.bounds y)) d in bare_rises o b all true false (record { bases = bases_with no_base newest; lo = n.one (pos 0); rel = n.one (pos 0); len = y; part = false; null = true; ended = false }) refl refl (fresh_own (and_parts (nat_lt newest most_bases) (nat_lt older most_bases) p.0).0)
        by_fresh false false e d s = bare_rises o b all true false (null_pointer l) refl refl (bare_own o b all true false)

  renewed_rises : (newest older : ℕ) (x y : I) → l.leq x y ≡ true → l.leq y (n.between (pos 0) the_end) ≡ true → PointersRise l n all (renewed_pointer l n flow.bases.items (site_of newest older) x) (renewed_pointer l n flow.bases.items (site_of newest older) y)
  unfolding renewed_pointer
  renewed_rises newest older x y h m = by_found (is_some (slice_get flow.bases.items newest) && is_some (slice_get flow.bases.items older)) refl
    where
      by_found : (c : Bool) → (is_some (slice_get flow.bases.items newest) && is_some (slice_get flow.bases.items older)) ≡ c → PointersRise l n all (cond c (fresh_pointer l n (site_of newest older) x) (null_pointer l)) (cond c (fresh_pointer l n (site_of newest older) y) (null_pointer l))
      by_found true e = let q = some_base (slice_get flow.bases.items newest) (and_parts (is_some (slice_get flow.bases.items newest)) (is_some (slice_get flow.bases.items older)) e).0 in fresh_rises newest older (found_below flow.bases.items newest q.0 q.1) x y h m
      by_found false e = bare_rises o b all true false (null_pointer l) refl refl (bare_own o b all true false)

  -- ---- the row behind an allocation

  module _ (sites : HasSites all flow) where
    pub allocated_rises : (made more : Fresh I) → IsFreshOfWords made → FreshBelow l made more → (to newest : Option ℕ) → is_site flow.bases.items newest ≡ true → (x y : I) → l.leq x y ≡ true → l.leq y (n.between (pos 0) the_end) ≡ true → (p q : List (Cell I)) → FlowRows l n all flow p q
        → LeftRise l n (top_row n all flow.bases.items flow.temps) (allocated l n flow to newest x made p) (allocated l n flow to newest y more q)
    allocated_rises made more words below to None site x y h m p q j = tt
    allocated_rises made more words below to (Some newest) site x y h m p q j =
        let fits = sites newest site in
        let t = o.transitive y (n.between (pos 0) the_end) (top_number n) m (zero_near o b) in
        let ex = near_is o b x (o.transitive x y (top_number n) h t) in
        let ey = near_is o b y t in
        subst₂ (λ u v. FlowRows l n all flow (allocated_at l n flow to newest u made p) (allocated_at l n flow to newest v more q)) (sym ex) (sym ey)
        (result_rises o b g r all flow k to (pointer_value l (renewed_pointer l n flow.bases.items (site_of newest (older_of newest)) x)) (pointer_value l (renewed_pointer l n flow.bases.items (site_of newest (older_of newest)) y)) (pointer_rises o b all (renewed_pointer l n flow.bases.items (site_of newest (older_of newest)) x) (renewed_pointer l n flow.bases.items (site_of newest (older_of newest)) y) (renewed_rises newest (older_of newest) x y h m))
        (renew l n flow.model flow.bases.items newest (older_of newest) x made p) (renew l n flow.model flow.bases.items newest (older_of newest) y more q)
        (record {
          below = renews o b flow.model flow.bases.items k.layout all flow.temps (row_near o b g r all flow k) r g p q j.below j.even newest (older_of newest) fits.older fits.shapes x y h m made more words below;
          even = renews_consistent o b flow.model flow.bases.items k.layout all flow.temps (row_near o b g r all flow k) r g p (small_own o b all k.words (top_row n all flow.bases.items flow.temps) p q j) j.even newest (older_of newest) fits.older fits.shapes x made;
        }))

    pub allocated_fills : (made : Fresh I) (to newest : Option ℕ) (x : I) (p : List (Cell I)) → AreFilled p → IsLeftFilled (allocated l n flow to newest x made p)
    allocated_fills made to None x p h = tt
    allocated_fills made to (Some newest) x p h = put_fills o b g r all flow k to _ _ (renew_fills l n flow.model flow.bases.items newest (older_of newest) (near_number l n x) made p h)

    -- ---- malloc

    met_count : (u : Range) → l.leq (of_range l n (range_met u (pos 0) (greatest_of (kind_of flow.model Pointer true)))) (n.between (pos 0) the_end) ≡ true
    met_count u = of_range_monotone o b (range_met u (pos 0) (greatest_of (kind_of flow.model Pointer true))) (Some (pos 0, the_end)) (met_in u (pos 0) (greatest_of (kind_of flow.model Pointer true)) (pos 0) the_end (≤ℤ_refl (pos 0)) (near_ends (kind_of flow.model Pointer true) (size_is flow.model Pointer)).1)

    size_same : (u : Range) → instance_size l n flow.model u ≡ of_range l n (range_met u (pos 0) (greatest_of (kind_of flow.model Pointer true)))
    size_same u = near_is o b (of_range l n (range_met u (pos 0) (greatest_of (kind_of flow.model Pointer true)))) (o.transitive (of_range l n (range_met u (pos 0) (greatest_of (kind_of flow.model Pointer true)))) (n.between (pos 0) the_end) (top_number n) (met_count u) (zero_near o b))

    pub size_count : (u : Range) → l.leq (instance_size l n flow.model u) (n.between (pos 0) the_end) ≡ true
    size_count u = subst (λ x. l.leq x (n.between (pos 0) the_end) ≡ true) (sym (size_same u)) (met_count u)

    pub sizes_rise : (x u : Range) → RangeBelow x u → l.leq (instance_size l n flow.model x) (instance_size l n flow.model u) ≡ true
    sizes_rise x u h = subst₂ (λ y v. l.leq y v ≡ true) (sym (size_same x)) (sym (size_same u)) (of_range_monotone o b (range_met x (pos 0) (greatest_of (kind_of flow.model Pointer true))) (range_met u (pos 0) (greatest_of (kind_of flow.model Pointer true)))
        (met_monotone x u (pos 0) (greatest_of (kind_of flow.model Pointer true)) (pos 0) (greatest_of (kind_of flow.model Pointer true)) h (≤ℤ_refl (pos 0)) (≤ℤ_refl (greatest_of (kind_of flow.model Pointer true)))))

    -- where a size is asked for
    applied : (to newest : Option ℕ) → is_site flow.bases.items newest ≡ true → (a c : Bool) → Sets a c → (x y : I) → l.leq x y ≡ true → l.leq y (n.between (pos 0) the_end) ≡ true → (p q : List (Cell I)) → FlowRows l n all flow p q
        → LeftRise l n (top_row n all flow.bases.items flow.temps) (apply l n flow to newest (cond a (effect.Allocate x false) effect.Unreached) p) (apply l n flow to newest (cond c (effect.Allocate y false) effect.Unreached) q)
    unfolding apply
    applied to newest site true true s x y h m p q j = allocated_rises fresh.Blank fresh.Blank tt tt to newest site x y h m p q j
    applied to newest site true false s x y h m p q j = absurd (let z : false ≡ true = s refl in cc)
    applied to newest site false c s x y h m p q j = tt

    applied_fills : (to newest : Option ℕ) (a : Bool) (x : I) (p : List (Cell I)) → AreFilled p → IsLeftFilled (apply l n flow to newest (cond a (effect.Allocate x false) effect.Unreached) p)
    unfolding apply
    applied_fills to newest true x p h = allocated_fills fresh.Blank to newest x p h
    applied_fills to newest false x p h = tt

    pub sized_more : (wanted : Option ℕ) (v w : Value I) → ValuesRise l n all v w → ViolationsBelow (sized_trail (n.bounds v.num) v.labels wanted).violations (sized_trail (n.bounds w.num) w.labels wanted).violations
    sized_more wanted v w j = union_below (allocation_violations (n.bounds v.num) v.labels wanted) no_violations (allocation_violations (n.bounds w.num) w.labels wanted) no_violations
        (allocates_below (not (is_unlabelled v.labels)) (is_too_small (n.bounds v.num) wanted) (not (is_unlabelled w.labels)) (is_too_small (n.bounds w.num) wanted) (labelled_more v.labels w.labels (labels_rise o b all j)) (small_more wanted (n.bounds v.num) (n.bounds w.num) (bounds_monotone b v.num w.num (num_rises o b all j))))
        (same_below no_violations)

    pub malloc_rises : CallRises l n all flow f.Malloc
    unfolding call_step plan_call plan_malloc
    malloc_rises = record {
      step = λ to arguments newest wanted site p q h.
          let v : Value I = argument_value l n (call_of flow arguments wanted) p 0 in
          let w : Value I = argument_value l n (call_of flow arguments wanted) q 0 in
          let j = argument_rises o b g r all flow k arguments wanted p q h 0 in
          let i = bounds_monotone b v.num w.num (num_rises o b all j) in
          applied to newest site (is_some (n.bounds v.num)) (is_some (n.bounds w.num)) (some_more (n.bounds v.num) (n.bounds w.num) i) (instance_size l n flow.model (n.bounds v.num)) (instance_size l n flow.model (n.bounds w.num)) (sizes_rise (n.bounds v.num) (n.bounds w.num) i) (size_count (n.bounds w.num)) p q h;
      checks = λ arguments wanted p q h. sized_more wanted (argument_value l n (call_of flow arguments wanted) p 0) (argument_value l n (call_of flow arguments wanted) q 0) (argument_rises o b g r all flow k arguments wanted p q h 0);
      fills = λ to arguments newest wanted p h. applied_fills to newest (is_some (n.bounds (argument_value l n (call_of flow arguments wanted) p 0).num)) (instance_size l n flow.model (n.bounds (argument_value l n (call_of flow arguments wanted) p 0).num)) p h;
    }
