-- Operations, as contracts see them: without the memory in which their lists stand.
use Rattle.std.specs.Prelude.{ℕ, ℤ, Bool, List, Option}
use Rattle.cc_base.specs.declared.diagnostics.Place.{Place}
use Rattle.cc_base.specs.declared.integer_operators.IntOp.{IntOp}
use Rattle.cc_base.specs.declared.integer_operators.UnOp.{UnOp}
use Rattle.cc_base.specs.declared.integer_operators.Rel.{Rel}
use Rattle.cc_base.specs.declared.int_types.IntType.{IntType}
use Rattle.c_layout.specs.declared.library_functions.LibFn.{LibFn}
use Rattle.cfg.specs.declared.machine_instructions.Amount.{Amount}
use Rattle.cfg.specs.declared.machine_instructions.Scalar.{Scalar}
use Rattle.cfg.specs.declared.machine_instructions.Instruction.{Instruction}
use Rattle.cfg.specs.declared.machine_instructions.Operation.{Operation}
use Rattle.cfg.specs.declared.machine_instructions.Operation.TheVariants as op

-- what an instruction does; unless it says otherwise the first temporary takes the result
pub data Act : Type 0 where
  Constant : (to : ℕ) (value : ℤ) (kind : IntType) → Act
  Address : (to base offset : ℕ) → Act
  Load : (to from : ℕ) (kind : Scalar) → Act
  Store : (to from : ℕ) (kind : Scalar) (kept : Option (ℕ × ℕ)) → Act
  Copy : (to from index : ℕ) → Act
  Narrow : (to from offset size : ℕ) → Act
  Shift : (to from : ℕ) (by : Amount) (size : ℕ) (backward : Bool) → Act
  Binary : (to : ℕ) (sign : IntOp) (left : ℕ) (right : Amount) (kind : IntType) → Act
  Unary : (to : ℕ) (sign : UnOp) (from : ℕ) (kind : IntType) → Act
  Compare : (to : ℕ) (sign : Rel) (left right : ℕ) → Act
  Not : (to from : ℕ) (kind : Scalar) → Act
  Difference : (to left right size : ℕ) → Act
  ComparePointers : (to : ℕ) (sign : Rel) (left right : ℕ) → Act
  Convert : (to from : ℕ) (old new : Scalar) → Act
  Library : (to : Option ℕ) (function : LibFn) (arguments : List ℕ) (newest size : Option ℕ) → Act
  Enter : (base : ℕ) → Act
  Leave : (base : ℕ) → Act
  Forget : (base : ℕ) → Act
  Clear : (base : ℕ) → Act
  Spell : (base offset room : ℕ) (text : List ℕ) → Act
  Jump : Act
  Branch : (from : ℕ) (kind : Scalar) → Act
  Switch : (from : ℕ) (kind : IntType) → Act
  ReadLine : (to : Option ℕ) (text count stream : ℕ) → Act
  Stop : Act

abbrev pub act : Operation → Act
act (op.Constant to value kind) = Constant to value kind
act (op.Address to base offset) = Address to base offset
act (op.Load to from kind) = Load to from kind
act (op.Store to from kind kept) = Store to from kind kept
act (op.Copy to from index) = Copy to from index
act (op.Narrow to from offset size) = Narrow to from offset size
act (op.Shift to from by size backward) = Shift to from by size backward
act (op.Binary to sign left right kind) = Binary to sign left right kind
act (op.Unary to sign from kind) = Unary to sign from kind
act (op.Compare to sign left right) = Compare to sign left right
act (op.Not to from kind) = Not to from kind
act (op.Difference to left right size) = Difference to left right size
act (op.ComparePointers to sign left right) = ComparePointers to sign left right
act (op.Convert to from old new) = Convert to from old new
act (op.Library to function arguments newest size) = Library to function arguments.items newest size
act (op.Enter base) = Enter base
act (op.Leave base) = Leave base
act (op.Forget base) = Forget base
act (op.Clear base) = Clear base
act (op.Spell base offset room text) = Spell base offset room text
act op.Jump = Jump
act (op.Branch from kind) = Branch from kind
act (op.Switch from kind) = Switch from kind
act (op.ReadLine to text count stream) = ReadLine to text count stream
act op.Stop = Stop

-- an instruction: the place of its violations, and what it does
pub record Step : Type 0 where
  pub at : Place
  pub does : Act

abbrev pub step : Instruction → Step
step i = record { at = i.place; does = act i.operation }
