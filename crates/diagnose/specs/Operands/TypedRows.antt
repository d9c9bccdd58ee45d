-- Whether, in the rows of a map, the operands of each instruction lie within the types that it names.
use Rattle.std.specs.Prelude.{ℕ, ◌+◌, pos, Bool, true, not, ◌&&◌, ◌||◌, int_le, Option, Some, None, is_none, List, [], ◌∷◌}
use Rattle.std.specs.List.{list_all}
use Rattle.cc_base.specs.Lattices.{LatticeOf}
use Rattle.cc_base.specs.IntegerDomains.{IntegersOf}
use Rattle.cc_base.specs.IntegerTypes.{is_size}
use Rattle.cc_base.specs.NumberRanges.{Range}
use Rattle.cc_base.specs.declared.int_types.IntType.{IntType}
use Rattle.cc_base.specs.declared.integer_operators.IntOp.{IntOp}
use Rattle.cc_base.specs.declared.integer_operators.IntOp.TheVariants.{Shl, Shr}
use Rattle.c_layout.specs.LibrarySignatures.{signature_of}
use Rattle.c_layout.specs.declared.library_functions.LibFn.{LibFn}
use Rattle.c_layout.specs.declared.library_signatures.SizeArguments.{SizeArguments}
use Rattle.c_layout.specs.declared.library_signatures.SizeArguments.TheVariants as sizes
use Rattle.cfg.specs.declared.machine_instructions.Amount.{Amount}
use Rattle.cfg.specs.declared.machine_instructions.Amount.TheVariants as amount
use Rattle.cfg.specs.declared.machine_instructions.Instruction.{Instruction}
use Rattle.cfg.specs.declared.machine_instructions.Operation.{Operation}
use Rattle.cfg.specs.declared.machine_instructions.Operation.TheVariants as op
use Rattle.cfg.specs.declared.machine_instructions.Scalar.{Scalar}
use Rattle.cfg.specs.declared.machine_instructions.Scalar.TheVariants as scalar
use Rattle.cfg.specs.declared.programs.Flow.{Flow}
use Rattle.pointer_domain.specs.PointerTables.{is_any}
use Rattle.value_domain.specs.Values.ValueTables.{range_fits}
use Rattle.value_domain.specs.declared.values.row_cells.Cell.{Cell}
use Rattle.value_domain.specs.declared.values.values.Value.{Value}
use Rattle.transfer_checks.specs.Temporaries.{temp_value}
use Rattle.diagnose.specs.Diagnostics.AdmittedRules.{instructions_of, row_behind}

-- no number is negative
abbrev pub is_natural : Range → Bool
is_natural None = true
is_natural (Some p) = int_le (pos 0) p.0

module _ {I : Type 0} where
  -- all numbers are of a type, which has a size
  abbrev pub is_within : IntegersOf I → IntType → Value I → Bool
  is_within n kind v = is_size kind.bytes && range_fits kind (n.bounds v.num)

  -- numbers alone, or pointers alone
  abbrev pub is_of_kind : IntegersOf I → Scalar → Value I → Bool
  is_of_kind n (scalar.Int kind) v = not (is_any v.pointer || v.pointer.ended)
  is_of_kind n scalar.Pointer v = is_none (n.bounds v.num)

  abbrev pub is_size_in : LatticeOf I → IntegersOf I → Flow → List (Cell I) → ℕ → Bool
  is_size_in l n flow row temp = is_natural (n.bounds (temp_value l n flow row temp).num)

  abbrev pub has_third_size : LatticeOf I → IntegersOf I → Flow → List (Cell I) → List ℕ → Bool
  has_third_size l n flow row (first ∷ (second ∷ (third ∷ []))) = is_size_in l n flow row third
  has_third_size l n flow row arguments = true

  abbrev pub are_sizes : LatticeOf I → IntegersOf I → Flow → List (Cell I) → SizeArguments → List ℕ → Bool
  are_sizes l n flow row sizes.All arguments = list_all (is_size_in l n flow row) arguments
  are_sizes l n flow row sizes.Third arguments = has_third_size l n flow row arguments
  are_sizes l n flow row sizes.None arguments = true

  -- what a function takes as a size is one
  abbrev pub takes_size : LatticeOf I → IntegersOf I → Flow → List (Cell I) → LibFn → List ℕ → Bool
  takes_size l n flow row function arguments = are_sizes l n flow row (signature_of function).sizes arguments

  -- the 1 of `++` and `--` is of each type
  abbrev pub is_amount_within : LatticeOf I → IntegersOf I → Flow → List (Cell I) → IntType → Amount → Bool
  is_amount_within l n flow row kind (amount.Temp temp) = is_within n kind (temp_value l n flow row temp)
  is_amount_within l n flow row kind amount.One = true

  -- the count of a shift may be of another type
  abbrev pub has_right : LatticeOf I → IntegersOf I → Flow → List (Cell I) → IntOp → IntType → Amount → Bool
  has_right l n flow row Shl kind right = true
  has_right l n flow row Shr kind right = true
  has_right l n flow row _ kind right = is_amount_within l n flow row kind right

  -- the operands of an operator lie in the operator's type, but for the count of a shift; what is converted is of the
  -- type from which it is converted, and no size is negative
  unfoldable pub has_operands : LatticeOf I → IntegersOf I → Flow → List (Cell I) → Operation → Bool
  has_operands l n flow row (op.Binary to o left right kind) = is_within n kind (temp_value l n flow row left) && has_right l n flow row o kind right
  has_operands l n flow row (op.Unary to o operand kind) = is_within n kind (temp_value l n flow row operand)
  has_operands l n flow row (op.Convert to operand from kind) = is_of_kind n from (temp_value l n flow row operand)
  has_operands l n flow row (op.Library to name arguments newest size) = takes_size l n flow row name arguments.items
  has_operands l n flow row _ = true

  -- ---- blocks and maps

  -- where the row before an instruction is reached
  abbrev pub is_typed_at : LatticeOf I → IntegersOf I → Flow → Instruction → Option (List (Cell I)) → Bool
  is_typed_at l n flow i None = true
  is_typed_at l n flow i (Some row) = has_operands l n flow row i.operation

  -- instructions in order, as far as the row goes on
  abbrev pub are_typed_from : LatticeOf I → IntegersOf I → Flow → Option (List (Cell I)) → List Instruction → Bool
  are_typed_from l n flow row [] = true
  are_typed_from l n flow row (i ∷ is) = is_typed_at l n flow i row && are_typed_from l n flow (row_behind l n flow i row) is

  unfoldable pub are_typed : LatticeOf I → IntegersOf I → Flow → List Instruction → List (Cell I) → Bool
  are_typed l n flow instructions row = are_typed_from l n flow (Some row) instructions

  -- the instructions of a block, from the row at its start
  unfoldable pub is_typed_block : LatticeOf I → IntegersOf I → Flow → ℕ → List (Cell I) → Bool
  is_typed_block l n flow number row = are_typed l n flow (instructions_of flow number) row

  abbrev pub is_typed_entry : LatticeOf I → IntegersOf I → Flow → ℕ → Option (List (Cell I)) → Bool
  is_typed_entry l n flow number None = true
  is_typed_entry l n flow number (Some row) = is_typed_block l n flow number row

  abbrev pub are_typed_rows : LatticeOf I → IntegersOf I → Flow → ℕ → List (Option (List (Cell I))) → Bool
  are_typed_rows l n flow number [] = true
  are_typed_rows l n flow number (entry ∷ entries) = is_typed_entry l n flow number entry && are_typed_rows l n flow (number + 1) entries

  -- by the rows of a map operands lie within their types
  unfoldable pub is_typed_map : LatticeOf I → IntegersOf I → Flow → List (Option (List (Cell I))) → Bool
  is_typed_map l n flow rows = are_typed_rows l n flow 0 rows
