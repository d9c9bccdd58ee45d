-- What a release may violate is admitted, and the pointers that go on are into what is freed.
use Rattle.std.proofs.Common.{◌≡◌, ℕ, suc, ◌+◌, ◌<◌, ◌≤◌, Bool, true, false, not, ◌||◌, Some, None, List, [], ◌∷◌, arith, subst, sym, refl, ap, ◌∙◌, inl, inr}
use Rattle.std.specs.Prelude.{slice_get, length, ℤ, pos, ◌+ℤ◌, ◌-ℤ◌, ◌≤ℤ◌, nat_lt}
use Rattle.std.specs.Ordering.{int_eq}
use Rattle.std.proofs.lemmas.Int.{ints}
use Rattle.std.proofs.lemmas.Bool.{cases_Bool, and_parts, and_from, or_cases, or_left, or_right, lt-ltb, true≢false}
use Rattle.std.proofs.lemmas.Option.{same_Some}
use Rattle.cc_base.specs.Lattices.{LatticeOf, OrderLaws}
use Rattle.cc_base.specs.IntegerDomains.{IntegersOf, BoundLaws}
use Rattle.cc_base.specs.NumberRanges.{Range}
use Rattle.c_layout.specs.declared.shapes.BaseInfo.{BaseInfo}
use Rattle.cfg.specs.declared.programs.Flow.{Flow}
use Rattle.pointer_domain.specs.BaseSets.{no_base, bases_has, bases_within, bases_empty}
use Rattle.pointer_domain.specs.BaseFacts.{union_has, within_has}
use Rattle.pointer_domain.specs.PointerTables.{offsets}
use Rattle.pointer_domain.specs.declared.base_sets.Bases.{Bases}
use Rattle.pointer_domain.specs.declared.pointer_sets.Pointers.{Pointers}
use Rattle.value_domain.specs.declared.values.row_cells.Cell.{Cell}
use Rattle.domain_theorems.proofs.values.Numbers.{RangeHas, sum_has, bounds_have}
use Rattle.store_objects.specs.Freeing.{is_heap_in}
use Rattle.store_objects.specs.LiveBases.{most_bases, only_base, has_base, with_base_if, may_be_live, live_of}
use Rattle.store_cells.specs.RowPositions.{state_position, state_at}
use Rattle.store_cells.specs.Walks.{walk}
use Rattle.transfer_checks.specs.AllocationChecks.{with_heap, heap_of, may_be_zero, may_differ, check_release}
use Rattle.transfer_checks.specs.Touches.{is_nowhere}
use Rattle.memory_model.specs.Memory.Instances.{live, life_at, bytes_at}
use Rattle.store_sound.specs.Concretization.ValueMeaning.{Naming, InGammaInto, InGammaState}
use Rattle.store_sound.specs.Concretization.RowMeaning.{MachineState, InGamma}
use Rattle.store_sound.specs.Operations.Shapes.{AreShaped}
use Rattle.store_sound.proofs.operations.Sets.{if_keeps, if_adds, none_has, only_is, in_live}
use Rattle.store_sound.proofs.operations.Slices.{get_there}
use Rattle.store_sound.proofs.operations.StorePlaces.{not_empty}
use Rattle.store_sound.proofs.operations.TouchSound.{bounded, or_none}
use Rattle.store_sound.proofs.operations.Walks.{walk_meets}

-- ---- the heap bases of a set

module _ (bases : List BaseInfo) (b : ℕ) (base : BaseInfo) (at : slice_get bases b ≡ Some base) (small : b < most_bases) where
  heap_if : (wanted : Bool) (c : ℕ) (found : Bases) → (bases_has found b ≡ true → base.shape.heap ≡ true) → (b ≡ c → wanted ≡ true → base.shape.heap ≡ true) → bases_has (with_base_if wanted c found) b ≡ true → base.shape.heap ≡ true
  heap_if false c found h k g = h g
  heap_if true c found h k g = elim (or_cases (bases_has found b) (bases_has (only_base c) b) (sym (union_has found (only_base c) b) ∙ g)) [
    | inl e ↦ h e
    | inr e ↦ k (only_is c b small e) refl
  ]

  heap_walk : (set : Bases) (start : ℕ) (ks : List BaseInfo) (found : Bases) → ((j : ℕ) (k : BaseInfo) → slice_get ks j ≡ Some k → slice_get bases (start + j) ≡ Some k) → (bases_has found b ≡ true → base.shape.heap ≡ true) → bases_has (walk (with_heap set) start ks found) b ≡ true → base.shape.heap ≡ true
  heap_walk set start [] found h k g = k g
  heap_walk set start (x ∷ xs) found h k g = heap_walk set (start + 1) xs (with_heap set x start found)
      (λ j y e. subst (λ z. slice_get bases z ≡ Some y) (omega arith) (h (suc j) y e))
      (heap_if (is_heap_in set x start) start found k (λ d e.
      let f : slice_get bases (start + 0) ≡ Some x = h 0 x refl in
      let i : b ≡ start + 0 = omega arith in
      let w : base ≡ x = same_Some base x (sym at ∙ (ap (slice_get bases) i ∙ f)) in
      subst (λ z. z.shape.heap ≡ true) (sym w) (and_parts (has_base set start) x.shape.heap e).1)) g

  pub is_heap : (set : Bases) → bases_has (heap_of bases set) b ≡ true → base.shape.heap ≡ true
  unfolding heap_of
  is_heap set h = heap_walk set 0 bases no_base (λ j k e. subst (λ z. slice_get bases z ≡ Some k) (omega arith) e) (λ e. absurd (true≢false (sym e ∙ none_has b))) h

  pub heap_has : (set : Bases) → has_base set b ≡ true → base.shape.heap ≡ true → has_base (heap_of bases set) b ≡ true
  unfolding heap_of
  heap_has set h heap = walk_meets (λ z. has_base z b ≡ true) (with_heap set) (λ k c z e. if_keeps (is_heap_in set k c) c z b e) 0 bases no_base b b base at (omega arith) (λ z. if_adds (is_heap_in set base b) z b (and_from _ _ h heap) small)

-- ---- offsets

zero_there : (r : Range) (z : ℤ) → RangeHas r z → z ≡ pos 0 → may_be_zero r ≡ true
zero_there None z h e = absurd h
zero_there (Some p) z h e = let a = h.0 in let b = h.1 in grind (arith, ints)

other_there : (r : Range) (z : ℤ) → RangeHas r z → (z ≡ pos 0 → ⊥) → may_differ r ≡ true
other_there None z h e = absurd h
other_there (Some p) z h e = let a = h.0 in let b = h.1 in by_ends p.0 p.1 z a b e
  where
    by_ends : (x y z : ℤ) → x ≤ℤ z → z ≤ℤ y → (z ≡ pos 0 → ⊥) → (not (int_eq x (pos 0)) || not (int_eq y (pos 0))) ≡ true
    by_ends x y z h k e = grind (arith, ints)

module _ {I : Type 0} {l : LatticeOf I} {n : IntegersOf I} {gamma : I → ℤ → Type 0} (o : OrderLaws l) (q : BoundLaws l n gamma) (flow : Flow) (shaped : AreShaped flow.bases.items) (naming : Naming) (row : List (Cell I)) (state : MachineState) (s : InGamma l n gamma flow naming row state) (v : Pointers I)
    (i offset lo hi : ℕ) (above : lo ≤ offset) (alive : life_at state.memory i ≡ live) (st : InGammaInto gamma naming state.memory v i offset lo hi) where
  abbrev live_set : Bases
  live_set = live_of l n flow.bases.items row v.bases

  base_there : (base : BaseInfo) × (slice_get flow.bases.items st.base ≡ Some base)
  base_there = get_there flow.bases.items st.base (s.sane.few i st.base st.named)

  pub small_base : st.base < most_bases
  small_base = let few = shaped.few in let k = s.sane.few i st.base st.named in omega (arith, few, k)

  live_if : (heap b : Bool) → (heap ≡ true → b ≡ true) → (not heap || b) ≡ true
  live_if true b h = h refl
  live_if false b h = refl

  -- its base is among those that may be live
  in_set : has_base live_set st.base ≡ true
  in_set =
      let base = base_there in
      let may : may_be_live l n base.0 row ≡ true = live_if base.0.shape.heap _ (λ h.
      let y = s.states st.base i base.0 base.1 h st.named in
      (subst (λ z. InGammaState gamma naming state.memory (state_at l n row (state_position base.0)) z (length (bytes_at state.memory i))) alive y).1) in
      in_live l n flow.bases.items shaped.few row v.bases st.base base.0 base.1 (and_from _ _ (and_from _ _ (lt-ltb _ _ small_base) st.among) may)

  some_live : bases_empty live_set ≡ false
  some_live = not_empty live_set st.base (and_parts (nat_lt st.base most_bases) (bases_has live_set st.base) in_set).1

  place_there : RangeHas (offsets n v) (pos offset)
  place_there =
      let h = sum_has (n.bounds v.lo) (n.bounds v.rel) (pos lo) (pos offset -ℤ pos lo) (bounds_have q v.lo (pos lo) st.lower) (bounds_have q v.rel (pos offset -ℤ pos lo) st.relative) in
      let e : (pos lo +ℤ (pos offset -ℤ pos lo)) ≡ pos offset = omega (arith, ints) in
      subst (RangeHas (offsets n v)) e h

  -- no start of an allocated instance
  pub misplaced : ((base : BaseInfo) → slice_get flow.bases.items st.base ≡ Some base → base.shape.heap ≡ true → offset ≡ 0 → ⊥) → (check_release l n flow.bases.items row v).violations.xfree ≡ true
  unfolding check_release
  misplaced h = or_right v.ended _ (and_from _ _ (ap not some_live) (elim (cases_Bool (bases_within live_set (heap_of flow.bases.items live_set))) [
    | inr e ↦ or_left _ _ (ap not e)
    | inl e ↦ (let base = base_there in
        let has = within_has live_set (heap_of flow.bases.items live_set) st.base e (and_parts (nat_lt st.base most_bases) (bases_has live_set st.base) in_set).1 in
        let heap = is_heap flow.bases.items st.base base.0 base.1 small_base live_set has in
        or_right _ _ (other_there (offsets n v) (pos offset) place_there (λ z. h base.0 base.1 heap (omega (arith, ints, z)))))
  ]))

  -- a start of one goes on
  module _ (base : BaseInfo) (at : slice_get flow.bases.items st.base ≡ Some base) (heap : base.shape.heap ≡ true) (start : offset ≡ 0) where
    pub heap_there : has_base (heap_of flow.bases.items live_set) st.base ≡ true
    heap_there = heap_has flow.bases.items st.base base at small_base live_set in_set heap

    zero_start : may_be_zero (offsets n v) ≡ true
    zero_start = zero_there (offsets n v) (pos offset) place_there (ap pos start)

    somewhere : is_nowhere n (heap_of flow.bases.items live_set) v.rel ≡ false
    somewhere = or_none _ _ (not_empty (heap_of flow.bases.items live_set) st.base (and_parts (nat_lt st.base most_bases) (bases_has (heap_of flow.bases.items live_set) st.base) heap_there).1) (bounded o q v.rel (pos offset -ℤ pos lo) st.relative)

    pub rest_bases : (check_release l n flow.bases.items row v).rest.bases ≡ heap_of flow.bases.items live_set
    unfolding check_release
    rest_bases = rw (zero_start, somewhere) refl

    pub rest_any : bases_empty (check_release l n flow.bases.items row v).rest.bases ≡ false
    rest_any = ap bases_empty rest_bases ∙ not_empty (heap_of flow.bases.items live_set) st.base (and_parts (nat_lt st.base most_bases) (bases_has (heap_of flow.bases.items live_set) st.base) heap_there).1
