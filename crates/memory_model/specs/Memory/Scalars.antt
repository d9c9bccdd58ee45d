-- The scalars that a machine computes.
use Rattle.std.specs.Prelude.{ℤ, pos, Bool, true, false}
use Rattle.std.specs.Ordering.{int_eq}
use Rattle.memory_model.specs.Memory.Labels.{Labels}
use Rattle.memory_model.specs.Memory.Bytes.{MachinePointer, null, into}

pub data Scalar : Type 0 where
  integer : (n : ℤ) (labels : Labels) → Scalar
  pointer : (p : MachinePointer) → Scalar

abbrev pub is_null : MachinePointer → Bool
is_null null = true
is_null (into i offset lo hi) = false

-- whether a scalar is 0 or null
abbrev pub is_false : Scalar → Bool
is_false (integer n labels) = int_eq n (pos 0)
is_false (pointer p) = is_null p
