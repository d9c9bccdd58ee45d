-- Steps on integers, and conversions: the row after each, None where no run goes on.
use Rattle.std.specs.Prelude.{ℕ, ℤ, cond, Option, Some, None, List}
use Rattle.cc_base.specs.Lattices.{LatticeOf}
use Rattle.cc_base.specs.IntegerDomains.{IntegersOf}
use Rattle.cc_base.specs.IntegerTypes.{is_size}
use Rattle.cc_base.specs.declared.int_types.IntType.{IntType}
use Rattle.cc_base.specs.declared.integer_operators.IntOp.{IntOp}
use Rattle.cc_base.specs.declared.integer_operators.UnOp.{UnOp}
use Rattle.cc_base.specs.declared.integer_operators.Rel.{Rel}
use Rattle.cfg.specs.declared.programs.Flow.{Flow}
use Rattle.cfg.specs.declared.machine_instructions.Amount.{Amount}
use Rattle.cfg.specs.declared.machine_instructions.Scalar.{Scalar}
use Rattle.cfg.specs.declared.machine_instructions.Scalar.TheVariants as scalar
use Rattle.pointer_domain.specs.declared.pointer_sets.Pointers.{Pointers}
use Rattle.value_domain.specs.declared.values.values.Value.{Value}
use Rattle.value_domain.specs.declared.values.row_cells.Cell.{Cell}
use Rattle.value_domain.specs.Values.LabelSets.{no_labels}
use Rattle.value_domain.specs.Values.ValueTables.{number_value, value_truth, value_arith, value_unary, value_convert}
use Rattle.store_cells.specs.ByteWrites.{null_pointer}
use Rattle.transfer_checks.specs.declared.violation_sets.Violations.{Violations}
use Rattle.transfer_checks.specs.ViolationSets.{no_violations}
use Rattle.transfer_checks.specs.IntegerChecks.{binary_violations, unary_violations}
use Rattle.transfer_checks.specs.Temporaries.{temp_value, amount_value}
use Rattle.transfer_instructions.specs.Values.ResultTemps.{negated, put_number, put_truth, put_pointer}

module _ {I : Type 0} where
  unfoldable pub constant_step : LatticeOf I → IntegersOf I → Flow → List (Cell I) → ℕ → ℤ → Option (List (Cell I))
  constant_step l n flow row to number = put_number n flow row to (number_value l (n.one number) no_labels)

  unfoldable pub binary_step : LatticeOf I → IntegersOf I → Flow → List (Cell I) → ℕ → IntOp → ℕ → Amount → IntType → Option (List (Cell I))
  binary_step l n flow row to op left right kind =
      cond (is_size kind.bytes) (put_number n flow row to (value_arith l n op (temp_value l n flow row left) (amount_value l n flow row right) kind)) None

  abbrev pub binary_checks : LatticeOf I → IntegersOf I → Flow → List (Cell I) → IntOp → ℕ → Amount → IntType → Violations
  binary_checks l n flow row op left right kind =
      cond (is_size kind.bytes) (binary_violations n op kind (temp_value l n flow row left) (amount_value l n flow row right)) no_violations

  unfoldable pub unary_step : LatticeOf I → IntegersOf I → Flow → List (Cell I) → ℕ → UnOp → ℕ → IntType → Option (List (Cell I))
  unary_step l n flow row to op operand kind =
      cond (is_size kind.bytes) (put_number n flow row to (value_unary l n op (temp_value l n flow row operand) kind)) None

  abbrev pub unary_checks : LatticeOf I → IntegersOf I → Flow → List (Cell I) → UnOp → ℕ → IntType → Violations
  unary_checks l n flow row op operand kind = cond (is_size kind.bytes) (unary_violations n op kind (temp_value l n flow row operand)) no_violations

  unfoldable pub compare_step : LatticeOf I → IntegersOf I → Flow → List (Cell I) → ℕ → Rel → ℕ → ℕ → Option (List (Cell I))
  compare_step l n flow row to rel left right = put_truth l n flow row to (n.compare rel (temp_value l n flow row left).num (temp_value l n flow row right).num)

  unfoldable pub not_step : LatticeOf I → IntegersOf I → Flow → List (Cell I) → ℕ → ℕ → Option (List (Cell I))
  not_step l n flow row to operand = put_truth l n flow row to (negated (value_truth n (temp_value l n flow row operand)))

  -- an integer converted to an integer type
  unfoldable pub put_converted : LatticeOf I → IntegersOf I → Flow → List (Cell I) → ℕ → Value I → IntType → Option (List (Cell I))
  put_converted l n flow row to v kind = cond (is_size kind.bytes) (put_number n flow row to (value_convert l n v kind)) None

  -- the constant 0 becomes a null pointer, a pointer stays
  abbrev pub converted_pointer : LatticeOf I → Scalar → Value I → Pointers I
  converted_pointer l (scalar.Int kind) v = null_pointer l
  converted_pointer l scalar.Pointer v = v.pointer

  unfoldable pub convert_value : LatticeOf I → IntegersOf I → Flow → List (Cell I) → ℕ → Value I → Scalar → Scalar → Option (List (Cell I))
  convert_value l n flow row to v from (scalar.Int kind) = put_converted l n flow row to v kind
  convert_value l n flow row to v from scalar.Pointer = put_pointer l flow row to (converted_pointer l from v)

  unfoldable pub convert_step : LatticeOf I → IntegersOf I → Flow → List (Cell I) → ℕ → ℕ → Scalar → Scalar → Option (List (Cell I))
  convert_step l n flow row to operand from kind = convert_value l n flow row to (temp_value l n flow row operand) from kind
