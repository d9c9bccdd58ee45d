-- A base whose leaves are written, then its class cells, then its first zeros.
use Rattle.std.proofs.Common.{◌≡◌, ℕ, zero, suc, ◌+◌, ◌<◌, ◌≤◌, true, cond, Some, List, length, arith, subst, sym, refl, ap, ◌∙◌, inl, inr}
use Rattle.std.specs.Prelude.{slice_get, ℤ}
use Rattle.std.proofs.lemmas.Bool.{cases_eq}
use Rattle.std.proofs.lemmas.Option.{slice_get_within}
use Rattle.cc_base.specs.Lattices.{LatticeOf, OrderLaws}
use Rattle.cc_base.specs.IntegerDomains.{IntegersOf, BoundLaws}
use Rattle.c_layout.specs.declared.leaf_lists.Leaf.{Leaf}
use Rattle.c_layout.specs.declared.shapes.BaseInfo.{BaseInfo}
use Rattle.c_layout.specs.declared.shapes.ZeroPart.{ZeroPart}
use Rattle.cfg.specs.WellFormed.{base_values, base_cells}
use Rattle.cfg.specs.declared.programs.Flow.{Flow}
use Rattle.value_domain.specs.declared.strings.first_zeros.FirstZero.{FirstZero}
use Rattle.value_domain.specs.declared.values.values.Value as values
use Rattle.value_domain.specs.declared.values.row_cells.Cell.{Cell}
use Rattle.store_cells.specs.ClassNumbers.{class_at}
use Rattle.store_cells.specs.RowPositions.{leaf_position, class_position, zero_position, state_position, cell_at, value_at, zero_at, state_at}
use Rattle.store_cells.specs.Walks.{walk, turns}
use Rattle.memory_model.specs.Memory.Instances.{Memory, bytes_at, life_at}
use Rattle.store_sound.specs.Concretization.ValueMeaning.{Naming, InGammaZero, InGammaState}
use Rattle.store_sound.specs.Concretization.RowMeaning.{array_bytes, IsLiveOf, InGammaLeaf, InGammaClass}
use Rattle.store_sound.proofs.operations.Only.{Leaves, Only, only_leaves, only_more, only_same, only_then, only_walk, Turned, walk_turn}
use Rattle.store_sound.proofs.operations.StoreRows.{Fits, leaf_is, class_is, zero_is}
use Rattle.store_sound.proofs.operations.StoreValues.{same_value, same_zero, same_state}
use Rattle.store_sound.specs.Regions.RegionWrites.{IsRegion, WritesWithin, InGammaBase}
use Rattle.store_sound.proofs.regions.BaseRows.{states_move}

pub writes_only : {I : Type 0} (lo hi : ℕ) (f : List (Cell I) → List (Cell I)) → Only lo hi f → WritesWithin lo hi f
writes_only lo hi f o = record { long = o.long; keeps = o.keeps }

-- ---- turns

module _ {I : Type 0} (f : ℕ → List (Cell I) → List (Cell I)) where
  pub only_turns : (lo hi count : ℕ) → ((k : ℕ) → k < count → Only lo hi (f k)) → Only lo hi (turns f count)
  only_turns lo hi zero h = only_same lo hi
  only_turns lo hi (suc count) h = only_then lo hi (turns f count) (f count) (only_turns lo hi count (λ k e. h k (omega (arith, e)))) (h count (omega arith))

  pub leaves_turns : (p count : ℕ) → ((k : ℕ) → k < count → Leaves p (f k)) → Leaves p (turns f count)
  leaves_turns p zero h = record { long = λ row. refl; keeps = λ row. refl }
  leaves_turns p (suc count) h =
      let a = leaves_turns p count (λ k e. h k (omega (arith, e))) in
      let b = h count (omega arith) in
      record { long = λ row. b.long (turns f count row) ∙ a.long row; keeps = λ row. b.keeps (turns f count row) ∙ a.keeps row }

  pub turn_of : (p count j : ℕ) → j < count → ((k : ℕ) → k < count → (k ≡ j → ⊥) → Leaves p (f k)) → (row : List (Cell I)) → Turned p (f j) row (turns f count row)
  turn_of p zero j h g row = absurd (omega (arith, h))
  turn_of p (suc count) j h g row = elim (cases_eq j count) [
    | inl e ↦ (let a = leaves_turns p count (λ k d. g k (omega (arith, d)) (λ (w : k ≡ j). omega (arith, d, e, w))) in
        record { before = turns f count row; long = a.long row; same = a.keeps row; turn = ap (λ k. cell_at (f k (turns f count row)) p) (sym e) })
    | inr e ↦ (let r = turn_of p count j (omega (arith, h, e)) (λ k d n. g k (omega (arith, d)) n) row in
        let b = g count (omega arith) (λ (w : count ≡ j). e (sym w)) in
        record { before = r.before; long = r.long; same = r.same; turn = b.keeps (turns f count row) ∙ r.turn })
  ]

-- ---- what a turn makes of a position

module _ {I : Type 0} (l : LatticeOf I) (n : IntegersOf I) where
  pub value_turn : (P Q : values.Value I → Type 0) (p : ℕ) (g : List (Cell I) → List (Cell I)) (row after : List (Cell I)) → Turned p g row after → ((r : List (Cell I)) → length r ≡ length row → P (value_at l n r p) → Q (value_at l n (g r) p)) → P (value_at l n row p) → Q (value_at l n after p)
  value_turn P Q p g row after t h a = subst Q (sym (same_value l n (g t.before) after p t.turn)) (h t.before t.long (subst P (sym (same_value l n row t.before p t.same)) a))

  pub zero_turn : (P Q : FirstZero I → Type 0) (p : ℕ) (g : List (Cell I) → List (Cell I)) (row after : List (Cell I)) → Turned p g row after → ((r : List (Cell I)) → length r ≡ length row → P (zero_at l n r p) → Q (zero_at l n (g r) p)) → P (zero_at l n row p) → Q (zero_at l n after p)
  zero_turn P Q p g row after t h a = subst Q (sym (same_zero l n (g t.before) after p t.turn)) (h t.before t.long (subst P (sym (same_zero l n row t.before p t.same)) a))

module _ {I : Type 0} (base : BaseInfo) (fits : Fits base) where
  module _ (f : Leaf → ℕ → List (Cell I) → List (Cell I)) (only : (j : ℕ) (leaf : Leaf) → Only (leaf_position base j) (leaf_position base j + 1) (f leaf j)) where
    pub leaves_within : Only base.first (base.first + length base.shape.cells) (walk f 0 base.shape.cells)
    leaves_within = only_walk f base.first (base.first + length base.shape.cells) 0 base.shape.cells (λ j a leaf e d.
        let same : a ≡ j = omega (arith, d) in
        let t = slice_get_within base.shape.cells j leaf e in
        let x = leaf_is base a fits (omega (arith, t, same)) in
        only_more _ _ (f leaf a) (omega (arith, x)) (omega (arith, x, t, same)) (only a leaf))

    pub leaf_turn : (j : ℕ) (leaf : Leaf) → slice_get base.shape.cells j ≡ Some leaf → (row : List (Cell I)) → Turned (leaf_position base j) (f leaf j) row (walk f 0 base.shape.cells row)
    leaf_turn j leaf e row = walk_turn f (leaf_position base j) 0 base.shape.cells j j leaf e (omega arith) (λ i a other g d ne.
        let t = slice_get_within base.shape.cells j leaf e in
        let u = slice_get_within base.shape.cells i other g in
        let same : a ≡ i = omega (arith, d) in
        let x = leaf_is base j fits t in
        let y = leaf_is base a fits (omega (arith, u, same)) in
        only_leaves (leaf_position base j) (f other a) (only a other) (λ v w. ne (omega (arith, same, x, y, v, w)))) row

  module _ (f : ZeroPart → ℕ → List (Cell I) → List (Cell I)) (only : (z : ℕ) (part : ZeroPart) → Only (zero_position base z) (zero_position base z + 1) (f part z)) where
    pub zeros_within : Only (base.first + base_cells base) ((base.first + base_cells base) + length base.shape.zeros) (walk f 0 base.shape.zeros)
    zeros_within = only_walk f _ _ 0 base.shape.zeros (λ j a part e d.
        let same : a ≡ j = omega (arith, d) in
        let t = slice_get_within base.shape.zeros j part e in
        let x = zero_is base a fits (omega (arith, t, same)) in
        only_more _ _ (f part a) (omega (arith, x)) (omega (arith, x, t, same)) (only a part))

    pub part_turn : (z : ℕ) (part : ZeroPart) → slice_get base.shape.zeros z ≡ Some part → (row : List (Cell I)) → Turned (zero_position base z) (f part z) row (walk f 0 base.shape.zeros row)
    part_turn z part e row = walk_turn f (zero_position base z) 0 base.shape.zeros z z part e (omega arith) (λ i a other g d ne.
        let t = slice_get_within base.shape.zeros z part e in
        let u = slice_get_within base.shape.zeros i other g in
        let same : a ≡ i = omega (arith, d) in
        let x = zero_is base z fits (omega (arith, t)) in
        let y = zero_is base a fits (omega (arith, u, same)) in
        only_leaves (zero_position base z) (f other a) (only a other) (λ v w. ne (omega (arith, same, x, y, v, w)))) row

  -- class cells by their numbers, from one on
  module _ (heap : base.shape.heap ≡ true) (first count : ℕ) (few : first + count ≤ 6) (f : ℕ → List (Cell I) → List (Cell I)) (only : (c : ℕ) → Only (class_position base (c + first)) (class_position base (c + first) + 1) (f c)) where
    six : cond {A = ℕ} base.shape.heap 6 0 ≡ 6
    six = rw heap refl

    place : (c : ℕ) → c < 6 → class_position base c ≡ (base.first + length base.shape.cells) + c
    place c h = let k = six in class_is base c fits (omega (arith, k, h))

    pub classes_within : Only (base.first + length base.shape.cells) (base.first + base_cells base) (turns f count)
    classes_within = only_turns f _ _ count (λ c h.
        let k = six in
        let x = place (c + first) (omega (arith, few, h)) in
        only_more _ _ (f c) (omega (arith, x)) (omega (arith, x, k, h, few)) (only c))

    pub class_turn : (c : ℕ) → c < count → (row : List (Cell I)) → Turned (class_position base (c + first)) (f c) row (turns f count row)
    class_turn c h row = turn_of f (class_position base (c + first)) count c h (λ d g ne.
        let x = place (c + first) (omega (arith, few, h)) in
        let y = place (d + first) (omega (arith, few, g)) in
        only_leaves (class_position base (c + first)) (f d) (only d) (λ v w. ne (omega (arith, x, y, v, w)))) row

    -- a class cell in front of those
    pub class_spared : (c : ℕ) → c < first → Leaves (class_position base c) (turns f count)
    class_spared c h = leaves_turns f (class_position base c) count (λ d g.
        let x = place c (omega (arith, few, h)) in
        let y = place (d + first) (omega (arith, few, g)) in
        only_leaves (class_position base c) (f d) (only d) (λ v w. omega (arith, x, y, v, w, h)))

-- ---- all cells of a base

module _ {I : Type 0} (base : BaseInfo) (f g h : List (Cell I) → List (Cell I)) (of_leaves : Only base.first (base.first + length base.shape.cells) f) (of_classes : Only (base.first + length base.shape.cells) (base.first + base_cells base) g) (of_zeros : Only (base.first + base_cells base) ((base.first + base_cells base) + length base.shape.zeros) h) where
  pub layers_within : WritesWithin base.first (base.first + base_values base) (λ row. h (g (f row)))
  layers_within = writes_only base.first (base.first + base_values base) (λ row. h (g (f row)))
      (only_then _ _ (λ row. g (f row)) h
      (only_then _ _ f g (only_more _ _ f (omega arith) (omega arith) of_leaves) (only_more _ _ g (omega arith) (omega arith) of_classes))
      (only_more _ _ h (omega arith) (omega arith) of_zeros))

module _ {I : Type 0} {l : LatticeOf I} {n : IntegersOf I} {gamma : I → ℤ → Type 0} (o : OrderLaws l) (q : BoundLaws l n gamma) (flow : Flow) (naming : Naming) {old new : Memory} {i offset size : ℕ} (s : IsRegion old new i offset size) (b : ℕ) (base : BaseInfo) (fits : Fits base)
    (f g h : List (Cell I) → List (Cell I)) (of_leaves : Only base.first (base.first + length base.shape.cells) f) (of_classes : Only (base.first + length base.shape.cells) (base.first + base_cells base) g) (of_zeros : Only (base.first + base_cells base) ((base.first + base_cells base) + length base.shape.zeros) h) where
  module _ (row : List (Cell I)) (t : InGammaBase l n gamma flow naming old b base row)
      (leaf_new : (j : ℕ) (leaf : Leaf) → slice_get base.shape.cells j ≡ Some leaf → InGammaLeaf gamma flow naming new b leaf (value_at l n (f row) (leaf_position base j)))
      (class_new : (r : List (Cell I)) → length r ≡ length row → ((j : ℕ) → base.shape.heap ≡ true → naming j ≡ Some b → InGammaState gamma naming old (state_at l n r (state_position base)) (life_at old j) (length (bytes_at old j))) → (c : ℕ) → base.shape.heap ≡ true → c < 6 → InGammaClass gamma flow naming old b base (class_at c) (value_at l n r (class_position base c)) → InGammaClass gamma flow naming new b base (class_at c) (value_at l n (g r) (class_position base c)))
      (zero_new : (r : List (Cell I)) → length r ≡ length row → (z : ℕ) (part : ZeroPart) → slice_get base.shape.zeros z ≡ Some part → ((j : ℕ) → IsLiveOf naming old b j → InGammaZero gamma naming old (zero_at l n r (zero_position base z)) (array_bytes part (bytes_at old j))) → (j : ℕ) → IsLiveOf naming old b j → InGammaZero gamma naming new (zero_at l n (h r) (zero_position base z)) (array_bytes part (bytes_at new j))) where
    leaf_at : (j : ℕ) (leaf : Leaf) → slice_get base.shape.cells j ≡ Some leaf → InGammaLeaf gamma flow naming new b leaf (value_at l n (h (g (f row))) (leaf_position base j))
    leaf_at j leaf e =
        let u = slice_get_within base.shape.cells j leaf e in
        let x = leaf_is base j fits u in
        subst (InGammaLeaf gamma flow naming new b leaf)
        (sym (same_value l n (f row) (h (g (f row))) (leaf_position base j)
        (of_zeros.keeps (g (f row)) (leaf_position base j) (λ v w. omega (arith, x, u, v)) ∙ of_classes.keeps (f row) (leaf_position base j) (λ v w. omega (arith, x, u, v)))))
        (leaf_new j leaf e)

    state_same : base.shape.heap ≡ true → cell_at (f row) (state_position base) ≡ cell_at row (state_position base)
    state_same heap =
        let one : cond {A = ℕ} base.shape.heap 1 0 ≡ 1 = rw heap refl in
        let x = zero_is base (length base.shape.zeros) fits (omega arith) in
        of_leaves.keeps row (state_position base) (λ v w. omega (arith, x, w))

    leaves_states : (j : ℕ) → base.shape.heap ≡ true → naming j ≡ Some b → InGammaState gamma naming old (state_at l n (f row) (state_position base)) (life_at old j) (length (bytes_at old j))
    leaves_states j heap named = subst (λ y. InGammaState gamma naming old y (life_at old j) (length (bytes_at old j))) (sym (same_state l n row (f row) (state_position base) (state_same heap))) (t.states j heap named)

    class_in : (c : ℕ) → base.shape.heap ≡ true → c < 6 → InGammaClass gamma flow naming new b base (class_at c) (value_at l n (h (g (f row))) (class_position base c))
    class_in c heap small =
        let k : cond {A = ℕ} base.shape.heap 6 0 ≡ 6 = rw heap refl in
        let x = class_is base c fits (omega (arith, k, small)) in
        subst (InGammaClass gamma flow naming new b base (class_at c))
        (sym (same_value l n (g (f row)) (h (g (f row))) (class_position base c) (of_zeros.keeps (g (f row)) (class_position base c) (λ v w. omega (arith, x, k, small, v)))))
        (class_new (f row) (of_leaves.long row) leaves_states c heap small
        (subst (InGammaClass gamma flow naming old b base (class_at c)) (sym (same_value l n row (f row) (class_position base c) (of_leaves.keeps row (class_position base c) (λ v w. omega (arith, x, w))))) (t.classes c heap small)))

    zero_in : (z j : ℕ) (part : ZeroPart) → slice_get base.shape.zeros z ≡ Some part → IsLiveOf naming old b j → InGammaZero gamma naming new (zero_at l n (h (g (f row))) (zero_position base z)) (array_bytes part (bytes_at new j))
    zero_in z j part e alive =
        let u = slice_get_within base.shape.zeros z part e in
        let x = zero_is base z fits (omega (arith, u)) in
        zero_new (g (f row)) (of_classes.long (f row) ∙ of_leaves.long row) z part e (λ d live_d.
        subst (λ y. InGammaZero gamma naming old y (array_bytes part (bytes_at old d)))
        (sym (same_zero l n row (g (f row)) (zero_position base z) (of_classes.keeps (f row) (zero_position base z) (λ v w. omega (arith, x, w)) ∙ of_leaves.keeps row (zero_position base z) (λ v w. omega (arith, x, w)))))
        (t.zeros z d part e live_d)) j alive

    state_in : (j : ℕ) → base.shape.heap ≡ true → naming j ≡ Some b → InGammaState gamma naming old (state_at l n (h (g (f row))) (state_position base)) (life_at old j) (length (bytes_at old j))
    state_in j heap named =
        let x = zero_is base (length base.shape.zeros) fits (omega arith) in
        subst (λ y. InGammaState gamma naming old y (life_at old j) (length (bytes_at old j)))
        (sym (same_state l n row (h (g (f row))) (state_position base)
        (of_zeros.keeps (g (f row)) (state_position base) (λ v w. omega (arith, x, w)) ∙ (of_classes.keeps (f row) (state_position base) (λ v w. omega (arith, x, w)) ∙ state_same heap))))
        (t.states j heap named)

    pub layers_stand : InGammaBase l n gamma flow naming new b base (h (g (f row)))
    layers_stand = record {
      leaves = leaf_at;
      classes = class_in;
      zeros = λ z j part e alive. zero_in z j part e (record { named = alive.named; alive = sym (s.lives j) ∙ alive.alive });
      states = λ j heap named. states_move o q flow naming s b base (h (g (f row))) state_in j heap named;
    }
