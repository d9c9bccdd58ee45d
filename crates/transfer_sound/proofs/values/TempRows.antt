-- The cell of a temporary in a row, and the row with another value there.
use Rattle.std.proofs.Common.{◌≡◌, ℕ, ◌<◌, List, length, arith, ap, Some}
use Rattle.std.specs.Prelude.{slice_get}
use Rattle.std.specs.Option.{unwrap_or}
use Rattle.std.proofs.lemmas.Option.{slice_get_within}
use Rattle.cc_base.specs.Lattices.{LatticeOf}
use Rattle.cc_base.specs.IntegerDomains.{IntegersOf}
use Rattle.c_layout.specs.declared.leaf_lists.Leaf.{Leaf}
use Rattle.c_layout.specs.declared.shapes.BaseInfo.{BaseInfo}
use Rattle.cfg.specs.declared.programs.Flow.{Flow}
use Rattle.value_domain.specs.declared.values.values.Value as values
use Rattle.value_domain.specs.declared.values.row_cells.Cell.{Cell}
use Rattle.value_domain.specs.declared.values.row_cells.Cell.TheVariants.{Nothing, Value}
use Rattle.store_cells.specs.NearValues.{near_value}
use Rattle.store_cells.specs.RowPositions.{leaf_position, cell_at, value_in, value_at}
use Rattle.transfer_checks.specs.Temporaries.{temp_position, temp_value, put_temp}
use Rattle.store_sound.proofs.operations.Only.{cell_put}
use Rattle.store_sound.proofs.operations.Slices.{get_set_other}
use Rattle.store_sound.proofs.operations.StoreRows.{leaf_is}
use Rattle.store_sound.proofs.operations.StoreValues.{same_value}
use Rattle.store_sound.specs.Programs.Premises.{HasPremises}

module _ {flow : Flow} (p : HasPremises flow) where
  pub leaf_below : (b j : ℕ) (base : BaseInfo) (leaf : Leaf) → slice_get flow.bases.items b ≡ Some base → slice_get base.shape.cells j ≡ Some leaf → leaf_position base j < p.laid.behind
  leaf_below b j base leaf e f =
      let c = p.laid.laid.close b base e in
      let k = p.laid.laid.small in
      let t = slice_get_within base.shape.cells j leaf f in
      let i = leaf_is base j (omega (arith, c, k)) t in
      omega (arith, c, t, i)

  module _ {I : Type 0} (row : List (Cell I)) (to : ℕ) (x : values.Value I) where
    abbrev after : List (Cell I)
    after = put_temp flow row to x

    keeps : (at : ℕ) → (at ≡ temp_position flow to → ⊥) → cell_at after at ≡ cell_at row at
    keeps at ne = ap (λ c. unwrap_or c Nothing) (get_set_other row (temp_position flow to) at (Value x) ne)

    -- a position of a base is none of a temporary
    pub base_keeps : (at : ℕ) → at < p.laid.behind → cell_at after at ≡ cell_at row at
    base_keeps at h = keeps at (λ e. let t = p.laid.temporaries in let k = p.laid.laid.small in omega (arith, e, h, t, k))

    module _ (l : LatticeOf I) (n : IntegersOf I) (few : to < flow.temps) where
      pub own_value : length row ≡ flow.width → temp_value l n flow after to ≡ near_value l n x
      unfolding value_at
      own_value long = ap (λ c. near_value l n (value_in l c)) (cell_put row (temp_position flow to) (Value x) (let t = p.temps in let k = p.short in omega (arith, few, t, k, long)))

      pub other_value : (t : ℕ) → (t ≡ to → ⊥) → temp_value l n flow after t ≡ temp_value l n flow row t
      other_value t ne = same_value l n row after (temp_position flow t) (keeps (temp_position flow t) (λ e. let a = p.temps in let k = p.short in ne (omega (arith, few, a, k, e))))
