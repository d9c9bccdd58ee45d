-- What the calls of the store, and the instructions around them, know of a scalar.
use Rattle.std.specs.Prelude.{◌≡◌, Bool, true, false}
use Rattle.cfg.specs.declared.machine_instructions.Scalar.TheVariants as of
use Rattle.cfg.specs.declared.machine_instructions.Scalar as declared
use Rattle.memory_model.specs.Memory.Instances.{Memory}
use Rattle.memory_model.specs.Memory.Scalars.{Scalar, integer, pointer}
use Rattle.memory_model.specs.Effects.Operands.{is_of_kind}
use Rattle.store_sound.specs.Concretization.ValueMeaning.{Naming}
use Rattle.store_sound.specs.Concretization.SoundMemory.{IsNamed}

-- whether the scalar is read as a signed number
abbrev pub signed_in : declared.Scalar → Bool
signed_in (of.Int kind) = kind.signed
signed_in of.Pointer = false

-- a number where a number is asked for, or a pointer where a pointer is
abbrev pub IsOfKind : declared.Scalar → Scalar → Type 0
IsOfKind kind v = is_of_kind kind v ≡ true

-- what a pointer points to has a base or has ended
abbrev pub IsScalarNamed : Naming → Memory → Scalar → Type 0
IsScalarNamed naming memory (integer n labels) = Unit {0}
IsScalarNamed naming memory (pointer p) = IsNamed naming memory p
