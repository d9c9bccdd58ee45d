-- In a map whose rows tell the types of operands right operands are of their operators' types in the run.
use Rattle.std.specs.Prelude.{◌≡◌, ℕ, ℤ, true, Option, Some, List, []}
use Rattle.std.proofs.lemmas.Bool.{and_parts}
use Rattle.cc_base.specs.declared.int_types.IntType.{IntType}
use Rattle.cc_base.specs.declared.integer_operators.IntOp.{IntOp}
use Rattle.cc_base.specs.declared.integer_operators.IntOp.TheVariants.{Add, Sub, Mul, Div, Rem, And, Or, Xor, Shl, Shr}
use Rattle.c_layout.specs.CheckedUnits.{UnitView}
use Rattle.cfg.specs.declared.machine_instructions.Amount.{Amount}
use Rattle.cfg.specs.declared.machine_instructions.Amount.TheVariants as amount
use Rattle.cfg.specs.declared.machine_instructions.Operation.{Operation}
use Rattle.cfg.specs.declared.machine_instructions.Operation.TheVariants as op
use Rattle.cfg.specs.declared.programs.Flow.{Flow}
use Rattle.value_domain.specs.declared.values.row_cells.Cell.{Cell}
use Rattle.interval_domain.specs.declared.intervals.intervals.Interval.{Interval}
use Rattle.interval_domain.specs.Intervals.Spans.{Stands}
use Rattle.interval_domain.specs.Intervals.IntervalLattice.{interval_lattice}
use Rattle.interval_domain.specs.Intervals.IntervalNumbers.{interval_numbers, interval_bounding}
use Rattle.transfer_checks.specs.Temporaries.{temp_value}
use Rattle.cc_base.specs.IntegerTypes.{in_type}
use Rattle.diagnose.specs.Operands.TypedRows.{is_within, has_right, has_operands, is_typed_map}
use Rattle.memory_model.specs.Memory.Labels.{Labels}
use Rattle.memory_model.specs.Memory.Scalars.{integer}
use Rattle.store_sound.specs.Concretization.Coverage.{state_of, EachRunIsCovered}
use Rattle.store_sound.specs.Concretization.RowMeaning.{MachineState, InGamma}
use Rattle.store_sound.specs.Concretization.ValueMeaning.{Naming}
use Rattle.transfer_sound.specs.Induction.Covering.{row_before, Admits}
use Rattle.transfer_sound.proofs.operands.TypedOperands.{within_has}
use Rattle.transfer_sound.proofs.operands.TypedMaps.{typed_before}
use Rattle.transfer_exact.specs.Values.SingleLaws.{FitsAmount, HasRight}
use Rattle.run_exact.specs.Runs.SingleRuns.{HasRightOperands}

module _ (flow : Flow) (naming : Naming) (row : List (Cell Interval)) (state : MachineState) (there : InGamma interval_lattice interval_numbers Stands flow naming row state) where
  inside : (kind : IntType) (temp : ℕ) → is_within interval_numbers kind (temp_value interval_lattice interval_numbers flow row temp) ≡ true → (z : ℤ) (labels : Labels) → state.temps temp ≡ Some (integer z labels) → in_type kind z ≡ true
  inside kind temp h z labels e = within_has interval_bounding kind (temp_value interval_lattice interval_numbers flow row temp) z h (there.temps temp (integer z labels) e).0

  amount_fits : (o : IntOp) (kind : IntType) (right : Amount) → has_right interval_lattice interval_numbers flow row o kind right ≡ true → FitsAmount o kind right state.temps
  amount_fits o kind amount.One h = tt
  amount_fits Add kind (amount.Temp temp) h = inside kind temp h
  amount_fits Sub kind (amount.Temp temp) h = inside kind temp h
  amount_fits Mul kind (amount.Temp temp) h = inside kind temp h
  amount_fits Div kind (amount.Temp temp) h = inside kind temp h
  amount_fits Rem kind (amount.Temp temp) h = inside kind temp h
  amount_fits And kind (amount.Temp temp) h = inside kind temp h
  amount_fits Or kind (amount.Temp temp) h = inside kind temp h
  amount_fits Xor kind (amount.Temp temp) h = inside kind temp h
  amount_fits Shl kind (amount.Temp temp) h = λ z labels e. tt
  amount_fits Shr kind (amount.Temp temp) h = λ z labels e. tt

  right_has : (o : Operation) → has_operands interval_lattice interval_numbers flow row o ≡ true → HasRight o state.temps
  unfolding has_operands
  right_has (op.Binary to o left right kind) h = amount_fits o kind right (and_parts (is_within interval_numbers kind (temp_value interval_lattice interval_numbers flow row left)) (has_right interval_lattice interval_numbers flow row o kind right) h).1
  right_has _ h = tt

pub rights_of : (flow : Flow) (u : UnitView) (rows : List (Option (List (Cell Interval)))) → is_typed_map interval_lattice interval_numbers flow rows ≡ true → EachRunIsCovered interval_lattice interval_numbers Stands flow (row_before interval_lattice interval_numbers flow rows) (Admits interval_lattice interval_numbers flow rows) u → HasRightOperands flow u
rights_of flow u rows typed covers count s found i e there =
    let at = (covers [] count).here s found e in
    right_has flow at.naming at.row (state_of s) at.stands_for i.operation (typed_before interval_lattice interval_numbers flow rows s.block s.at i at.row typed there at.before)
