-- Pointers of other types, and pointers that point to no number.
use Rattle.std.specs.Prelude.{◌≡◌, ℕ, suc, List, Option, Some, slice_get}
use Rattle.c_layout.specs.CheckedUnits.{UnitView}
use Rattle.c_layout.specs.StructViews.{StructView}
use Rattle.c_layout.specs.Types.{Ty, Int, Pointer}
use Rattle.cfg.specs.declared.machine_instructions.Instruction.{Instruction}
use Rattle.cfg.specs.declared.machine_instructions.Operation.{Operation}
use Rattle.cfg.specs.declared.machine_instructions.Operation.TheVariants as op
use Rattle.cfg.specs.declared.machine_instructions.Scalar.TheVariants as scalar
use Rattle.cfg.specs.declared.programs.Flow.{Flow}
use Rattle.diagnose.specs.Diagnostics.AdmittedRules.{instructions_of}
use Rattle.memory_model.specs.Memory.Bytes.{null, into}
use Rattle.typed_lowering.specs.StandingTypes.{Stands}
use Rattle.typed_lowering.specs.PointedTypes.{Target, Element, target_type, Points}
use Rattle.typed_lowering.specs.TypedPrograms.{Typing, IsTypedProgram}
use Rattle.worked_examples.specs.TypedUnit.DividesByPointed.{int}

-- ---- programs

-- the block has the operation there
pub record Does (flow : Flow) (block at : ℕ) (operation : Operation) : Type 0 where
  pub instruction : Instruction
  pub there : slice_get (instructions_of flow block) at ≡ Some instruction
  pub does : instruction.operation ≡ operation

-- `*(int*)&p`, as programs do it: a number is loaded through the address of an object
pub record Misreads (flow : Flow) (base temp block at : ℕ) : Type 0 where
  pub address : Does flow block at (op.Address temp base 0)
  pub cast : Does flow block (suc at) (op.Convert temp temp scalar.Pointer scalar.Pointer)
  pub load : Does flow block (suc (suc at)) (op.Load temp temp (scalar.Int int))

-- where that object is a pointer, no types of temporaries help
abbrev pub MisreadsAreUntyped : Type 0
MisreadsAreUntyped = (flow : Flow) (u : UnitView) (typing : Typing) (inner : Ty) (base temp block at : ℕ) → Misreads flow base temp block at → typing.objects base ≡ Pointer inner → IsTypedProgram flow u typing → ⊥

-- ---- pointers into an object that is a number

abbrev pub EndsPointToNumbers : Type 0
EndsPointToNumbers = (structs : List StructView) (pointer_size : ℕ) (types : ℕ → Option Ty) → types 0 ≡ Some (Int int) → Points structs pointer_size types (Element (Int int)) (into 0 4 0 4)

abbrev pub NoNumberStandsBehind : Type 0
NoNumberStandsBehind = (structs : List StructView) (pointer_size : ℕ) → Stands structs pointer_size (Int int) (Int int) 4 → ⊥

-- neither an element nor a place of the type
abbrev pub PartsPointToNoNumber : Type 0
PartsPointToNoNumber = (structs : List StructView) (pointer_size : ℕ) (types : ℕ → Option Ty) (target : Target) → target_type target ≡ Int int → types 0 ≡ Some (Int int) → Points structs pointer_size types target (into 0 2 0 4) → ⊥

abbrev pub NullPointsToAll : Type 0
NullPointsToAll = (structs : List StructView) (pointer_size : ℕ) (types : ℕ → Option Ty) (target : Target) → Points structs pointer_size types target null
