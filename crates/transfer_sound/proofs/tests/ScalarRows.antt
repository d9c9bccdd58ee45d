-- The one cell of a scalar object in a row, and the row with another value there.
use Rattle.std.proofs.Common.{◌≡◌, ℕ, zero, suc, ◌+◌, ◌-◌, ◌*◌, ◌<◌, ◌≤◌, ◌^◌, Some, List, [], ◌∷◌, length, arith, subst, sym, ap, ◌∙◌, false}
use Rattle.std.specs.Prelude.{slice_get}
use Rattle.std.specs.Option.{unwrap_or}
use Rattle.std.proofs.lemmas.Option.{same_Some}
use Rattle.cc_base.specs.Lattices.{LatticeOf}
use Rattle.cc_base.specs.IntegerDomains.{IntegersOf}
use Rattle.c_layout.specs.declared.leaf_lists.Leaf.{Leaf}
use Rattle.cfg.specs.WellFormed.{base_values}
use Rattle.cfg.specs.declared.programs.Flow.{Flow}
use Rattle.value_domain.specs.declared.values.values.Value as values
use Rattle.value_domain.specs.declared.values.row_cells.Cell.{Cell}
use Rattle.value_domain.specs.declared.values.row_cells.Cell.TheVariants.{Nothing, Value}
use Rattle.store_cells.specs.NearValues.{near_value}
use Rattle.store_cells.specs.RowPositions.{leaf_position, cell_at, value_in, value_at, put_value}
use Rattle.store_sound.specs.Concretization.Places.{IsPlaceOf}
use Rattle.store_sound.proofs.operations.Only.{cell_put}
use Rattle.store_sound.proofs.operations.Slices.{get_set_other}
use Rattle.store_sound.proofs.operations.StoreRows.{leaf_is}
use Rattle.store_sound.specs.Programs.Premises.{HasPremises}
use Rattle.transfer_sound.proofs.values.PartSteps.{declared_storage}
use Rattle.transfer_sound.specs.Tests.ScalarObjects.{IsScalarObject}

module _ {flow : Flow} {b : ℕ} {kind : _} (t : IsScalarObject flow b kind) where
  pub one_cell : length t.info.shape.cells ≡ 1
  one_cell = ap length t.cells

  pub leaf_there : slice_get t.info.shape.cells 0 ≡ Some t.leaf
  leaf_there = ap (λ z. slice_get z 0) t.cells

  -- what is so of the one leaf is so of each
  pub only_leaf : (P : ℕ → Leaf → Type 0) → P 0 t.leaf → (j : ℕ) (leaf : Leaf) → slice_get t.info.shape.cells j ≡ Some leaf → P j leaf
  only_leaf P h j leaf e = by_index j (sym (ap (λ z. slice_get z j) t.cells) ∙ e)
    where
      by_index : (j : ℕ) → slice_get (t.leaf ∷ []) j ≡ Some leaf → P j leaf
      by_index zero f = subst (P 0) (same_Some t.leaf leaf f) h
      by_index (suc j) f = cc

  pub place_here : IsPlaceOf t.leaf 0
  place_here = record { turn = 0; few = let k = t.count in omega (arith, k); there = let k = t.offset in omega (arith, k) }

  pub place_zero : (o : ℕ) → IsPlaceOf t.leaf o → o ≡ 0
  place_zero o h =
      let a = t.offset in
      let c = t.count in
      let few = h.few in
      let first : h.turn ≡ 0 = omega (arith, c, few) in
      let none : t.leaf.stride * h.turn ≡ t.leaf.stride * 0 = ap (λ z. t.leaf.stride * z) first in
      let there = h.there in
      omega (arith, a, none, there)

module _ {flow : Flow} (p : HasPremises flow) {b : ℕ} {kind : _} (t : IsScalarObject flow b kind) where
  pub not_heap : t.info.shape.heap ≡ false
  not_heap = sym (p.shaped.each b t.info t.is).kind ∙ declared_storage t.info.kind t.declared

  pub fits : t.info.first + base_values t.info ≤ 2 ^ 64 - 1
  fits = let k = p.laid.laid.close b t.info t.is in let small = p.laid.laid.small in omega (arith, k, small)

  pub place_is : leaf_position t.info 0 ≡ t.info.first + 0
  place_is = let c = one_cell t in leaf_is t.info 0 fits (omega (arith, c))

  -- ---- another value in the cell

  module _ {I : Type 0} (row : List (Cell I)) (v : values.Value I) where
    abbrev place : ℕ
    place = leaf_position t.info 0

    abbrev after : List (Cell I)
    after = put_value row place v

    pub keeps : (x : ℕ) → (x ≡ place → ⊥) → cell_at after x ≡ cell_at row x
    keeps x ne = ap (λ z. unwrap_or z Nothing) (get_set_other row place x (Value v) ne)

    pub outside : (x : ℕ) → (t.info.first ≤ x → x < t.info.first + base_values t.info → ⊥) → cell_at after x ≡ cell_at row x
    outside x h = keeps x (λ e. let c = one_cell t in let d = place_is in h (omega (arith, e, d)) (omega (arith, e, d, c)))

    pub own_value : (l : LatticeOf I) (n : IntegersOf I) → length row ≡ flow.width → value_at l n after place ≡ near_value l n v
    unfolding value_at
    own_value l n long =
        let k = p.laid.laid.close b t.info t.is in
        let far = p.laid.long in
        let c = one_cell t in
        let d = place_is in
        ap (λ z. near_value l n (value_in l z)) (cell_put row place (Value v) (omega (arith, k, far, long, c, d)))
