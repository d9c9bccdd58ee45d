-- The row behind an object that is left: elsewhere the pointers into it have ended.
use Rattle.std.proofs.Common.{◌≡◌, ℕ, zero, suc, ◌+◌, ◌<◌, ◌≤◌, false, Some, List, [], ◌∷◌, length, arith, sym, refl, ap, ◌∙◌}
use Rattle.std.specs.Prelude.{slice_get, map}
use Rattle.std.proofs.lemmas.Option.{slice_get_within}
use Rattle.cc_base.specs.Lattices.{LatticeOf}
use Rattle.cc_base.specs.IntegerDomains.{IntegersOf}
use Rattle.c_layout.specs.declared.shapes.BaseInfo.{BaseInfo}
use Rattle.cfg.specs.WellFormed.{base_values}
use Rattle.cfg.specs.declared.programs.Flow.{Flow}
use Rattle.value_domain.specs.Strings.FirstZeros.{zero_lattice}
use Rattle.value_domain.specs.Values.Values.{value_lattice}
use Rattle.value_domain.specs.declared.values.row_cells.Cell.{Cell}
use Rattle.value_domain.specs.declared.values.row_cells.Cell.TheVariants.{Nothing, Value, First, State, Mixed}
use Rattle.store_cells.specs.FirstZeroWrites.{set_zeros}
use Rattle.store_objects.specs.LiveBases.{most_bases}
use Rattle.store_cells.specs.NearValues.{near_value}
use Rattle.store_objects.specs.ObjectLives.{set_values, ended_cell, leave_object}
use Rattle.store_cells.specs.RowPositions.{leaf_position, zero_position, value_count, cell_at, value_in, value_at}
use Rattle.store_sound.proofs.operations.StoreRows.{leaf_is, zero_is}
use Rattle.store_sound.specs.Programs.Premises.{HasPremises}
use Rattle.transfer_sound.proofs.objects.BlankRows as blank
use Rattle.transfer_sound.proofs.objects.SetCells.{set_keeps}
use Rattle.transfer_sound.proofs.leave.EndedValues.{left_value, none_left}

module _ {I : Type 0} (l : LatticeOf I) (n : IntegersOf I) (flow : Flow) (p : HasPremises flow) (b : ℕ) (info : BaseInfo) (at : slice_get flow.bases.items b ≡ Some info) (declared : info.shape.heap ≡ false) where
  pub small : b < most_bases
  small = let k = slice_get_within flow.bases.items b info at in let few = p.shaped.few in omega (arith, k, few)

  -- the cell at a position of the row whose pointers have ended
  ended_at_position : (row : List (Cell I)) (x : ℕ) → cell_at (map (ended_cell l b) row) x ≡ ended_cell l b (cell_at row x)
  ended_at_position [] x = refl
  ended_at_position (c ∷ cs) zero = refl
  ended_at_position (c ∷ cs) (suc x) = ended_at_position cs x

  outside : (row : List (Cell I)) (x : ℕ) → (info.first ≤ x → x < info.first + base_values info → ⊥) → cell_at (leave_object l b info row) x ≡ ended_cell l b (cell_at row x)
  unfolding leave_object set_zeros set_values
  outside row x h =
      let fits = blank.fits flow p b info at declared in
      let c = blank.count_is flow p b info at declared in
      let d = blank.cells_are flow p b info at declared in
      set_keeps (zero_position info) (First ((zero_lattice l).least)) (length info.shape.zeros) (set_values info ((value_lattice l).least) (map (ended_cell l b) row)) x (λ k less e. let f = zero_is info k fits (omega (arith, less)) in h (omega (arith, e, f)) (omega (arith, e, f, less)))
      ∙ (set_keeps (leaf_position info) (Value ((value_lattice l).least)) (value_count info) (map (ended_cell l b) row) x (λ k less e. let f = leaf_is info k fits (omega (arith, less, c)) in h (omega (arith, e, f)) (omega (arith, e, f, less, c, d)))
      ∙ ended_at_position row x)

  value_of : (c : Cell I) → value_in l (ended_cell l b c) ≡ left_value l b (value_in l c)
  value_of Nothing = sym (none_left l b small (value_lattice l).least refl)
  value_of (Value v) = refl
  value_of (First f) = sym (none_left l b small (value_lattice l).least refl)
  value_of (State f) = sym (none_left l b small (value_lattice l).least refl)
  value_of Mixed = sym (none_left l b small (value_lattice l).least refl)

  -- what a cell elsewhere has is what is left of what it had
  pub value_left : (row : List (Cell I)) (x : ℕ) → (info.first ≤ x → x < info.first + base_values info → ⊥) → value_at l n (leave_object l b info row) x ≡ near_value l n (left_value l b (value_in l (cell_at row x)))
  unfolding value_at
  value_left row x h = ap (λ z. near_value l n (value_in l z)) (outside row x h) ∙ ap (near_value l n) (value_of (cell_at row x))
