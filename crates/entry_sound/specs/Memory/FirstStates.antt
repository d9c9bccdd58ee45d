-- The state in which a run begins, and what its memory is made of.
use Rattle.std.specs.Prelude.{◌≡◌, ◌+◌, ℕ, ℤ, Some, List, length, slice_get}
use Rattle.cc_base.specs.declared.int_types.IntType.{IntType}
use Rattle.c_layout.specs.Types.{Ty, Int}
use Rattle.c_layout.specs.CheckedUnits.{LocalView, StaticView, LiteralView, UnitView}
use Rattle.memory_model.specs.Memory.Bytes.{Byte}
use Rattle.memory_model.specs.Memory.Instances.{automatic, Instance}
use Rattle.memory_model.specs.Memory.Labels.{input_labels}
use Rattle.memory_model.specs.Memory.Scalars.{integer}
use Rattle.memory_model.specs.Effects.ObjectEffects.{fresh}
use Rattle.memory_model.specs.Effects.ScalarBytes.{scalar_bytes, refilled}
use Rattle.memory_model.specs.Effects.UnitStarts.{typed_bytes, static_instance, literal_made, entry_parameters}
use Rattle.memory_model.specs.Effects.Worlds.{World}
use Rattle.lower_templates.specs.Views.ProgramViews.{FlowView}
use Rattle.semantics.specs.CfgMachine.FlowStates.{ProgramState}
use Rattle.semantics.specs.CfgMachine.FlowStarts.{first_standing}

module _ (u : UnitView) where
  -- the bytes of a parameter that took a number
  abbrev pub input_bytes : IntType → ℤ → List Byte
  input_bytes kind n = refilled (typed_bytes u (Int kind)) 0 (scalar_bytes kind.bytes (integer n (input_labels kind)))

  -- the instance of a parameter, which took a number
  pub record IsInput (t : Ty) (it : Instance) : Type 0 where
    pub kind : IntType
    pub is : t ≡ Int kind
    pub value : ℤ
    pub made : it ≡ fresh automatic (input_bytes kind value)

  -- how many instances stand before those of the parameters
  abbrev pub front : ℕ
  front = length u.objects + length u.literals

  -- the first state of a run: the objects of the unit, its literals, and the parameters of the entry
  pub record IsFirst (f : FlowView) (s : ProgramState) : Type 0 where
    pub world : World
    pub is : first_standing u f world ≡ s
    pub long : length world.memory ≡ front + length (entry_parameters u)
    pub objects : (k : ℕ) (o : StaticView) → slice_get u.objects k ≡ Some o → slice_get world.memory k ≡ Some (static_instance u o)
    pub literals : (k : ℕ) (l : LiteralView) → slice_get u.literals k ≡ Some l → slice_get world.memory (length u.objects + k) ≡ Some (literal_made l)
    pub inputs : (j : ℕ) (l : LocalView) → slice_get (entry_parameters u) j ≡ Some l → (it : Instance) × IsInput l.ctype it × (slice_get world.memory (front + j) ≡ Some it)
