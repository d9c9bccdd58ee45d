-- The row behind an object whose contents are forgotten: its cells have nothing, and its arrays no first zero.
use Rattle.std.proofs.Common.{◌≡◌, ℕ, ◌+◌, ◌-◌, ◌<◌, ◌≤◌, ◌^◌, false, cond, Some, List, length, arith, refl, ap, ◌∙◌}
use Rattle.std.specs.Prelude.{slice_get}
use Rattle.cc_base.specs.Lattices.{LatticeOf}
use Rattle.cc_base.specs.IntegerDomains.{IntegersOf}
use Rattle.c_layout.specs.declared.shapes.BaseInfo.{BaseInfo}
use Rattle.cfg.specs.WellFormed.{base_cells, base_values}
use Rattle.cfg.specs.declared.programs.Flow.{Flow}
use Rattle.value_domain.specs.Values.ValueTables.{blank_value}
use Rattle.value_domain.specs.declared.values.row_cells.Cell.{Cell}
use Rattle.value_domain.specs.declared.values.row_cells.Cell.TheVariants.{Value, First}
use Rattle.store_cells.specs.FirstZeroWrites.{no_zero, set_zeros}
use Rattle.store_cells.specs.NearValues.{near_value}
use Rattle.store_objects.specs.ObjectLives.{set_values, blank_object}
use Rattle.store_cells.specs.RowPositions.{leaf_position, zero_position, value_count, cell_at, value_in, value_at}
use Rattle.store_sound.proofs.operations.StoreRows.{leaf_is, zero_is}
use Rattle.store_sound.specs.Programs.Premises.{HasPremises}
use Rattle.transfer_sound.proofs.objects.SetCells.{set_long, set_keeps, set_puts}

module _ (flow : Flow) (p : HasPremises flow) (b : ℕ) (info : BaseInfo) (at : slice_get flow.bases.items b ≡ Some info) (declared : info.shape.heap ≡ false) where
  pub fits : info.first + base_values info ≤ 2 ^ 64 - 1
  fits = let k = p.laid.laid.close b info at in let small = p.laid.laid.small in omega (arith, k, small)

  pub cells_are : base_cells info ≡ length info.shape.cells
  cells_are = let z : cond {A = ℕ} info.shape.heap 6 0 ≡ 0 = rw declared refl in omega (arith, z)

  pub count_is : value_count info ≡ length info.shape.cells
  count_is = let z : cond {A = ℕ} info.shape.heap 6 0 ≡ 0 = rw declared refl in let k = fits in omega (arith, z, k)

  module _ {I : Type 0} (l : LatticeOf I) (n : IntegersOf I) (row : List (Cell I)) (long : length row ≡ flow.width) where
    pub in_row : (x : ℕ) → x < info.first + base_values info → x < length row
    in_row x h = let k = p.laid.laid.close b info at in let far = p.laid.long in omega (arith, h, k, far, long)

    abbrev values_row : List (Cell I)
    values_row = set_values info (blank_value l) row

    abbrev pub after : List (Cell I)
    after = blank_object l n info row

    pub outside : (x : ℕ) → (info.first ≤ x → x < info.first + base_values info → ⊥) → cell_at after x ≡ cell_at row x
    unfolding blank_object set_zeros set_values
    outside x h =
        let c = count_is in
        let d = cells_are in
        set_keeps (zero_position info) (First (no_zero n)) (length info.shape.zeros) values_row x (λ k small e. let f = zero_is info k fits (omega (arith, small)) in h (omega (arith, e, f)) (omega (arith, e, f, small)))
        ∙ set_keeps (leaf_position info) (Value (blank_value l)) (value_count info) row x (λ k small e. let f = leaf_is info k fits (omega (arith, small, c)) in h (omega (arith, e, f)) (omega (arith, e, f, small, c, d)))

    pub leaf_blank : (j : ℕ) → j < length info.shape.cells → value_at l n after (leaf_position info j) ≡ near_value l n (blank_value l)
    unfolding blank_object set_zeros set_values value_at
    leaf_blank j small =
        let c = count_is in
        let d = cells_are in
        let x = leaf_is info j fits small in
        let keeps = set_keeps (zero_position info) (First (no_zero n)) (length info.shape.zeros) values_row (leaf_position info j) (λ k less e. let f = zero_is info k fits (omega (arith, less)) in omega (arith, e, f, x, small, d)) in
        let puts = set_puts (leaf_position info) (Value (blank_value l)) (value_count info) row j (omega (arith, small, c)) (in_row (leaf_position info j) (omega (arith, x, small, d))) in
        ap (λ z. near_value l n (value_in l z)) (keeps ∙ puts)

    pub zero_blank : (z : ℕ) → z < length info.shape.zeros → cell_at after (zero_position info z) ≡ First (no_zero n)
    unfolding blank_object set_zeros set_values
    zero_blank z small =
        let x = zero_is info z fits (omega (arith, small)) in
        let long = set_long (leaf_position info) (Value (blank_value l)) (value_count info) row in
        let here = in_row (zero_position info z) (omega (arith, x, small)) in
        set_puts (zero_position info) (First (no_zero n)) (length info.shape.zeros) values_row z small (omega (arith, long, here))
