-- Operands of the kind that an operator needs; with one of the other kind the run is stuck.
use Rattle.std.specs.Prelude.{ℤ, Bool, true, false}
use Rattle.cfg.specs.declared.machine_instructions.Scalar as declared
use Rattle.cfg.specs.declared.machine_instructions.Scalar.TheVariants as of
use Rattle.memory_model.specs.Memory.Labels.{Labels}
use Rattle.memory_model.specs.Memory.Bytes.{MachinePointer}
use Rattle.memory_model.specs.Memory.Scalars.{Scalar, integer, pointer}
use Rattle.memory_model.specs.Effects.Worlds.{World, Reply, goes, stops, behind, Stuck}

abbrev pub with_number : {A : Type 0} → Scalar → World → (ℤ → Labels → World → Reply A) → Reply A
with_number (integer n labels) w use_it = use_it n labels w
with_number (pointer p) w use_it = stops Stuck w

abbrev pub with_pointer : {A : Type 0} → Scalar → World → (MachinePointer → World → Reply A) → Reply A
with_pointer (integer n labels) w use_it = stops Stuck w
with_pointer (pointer p) w use_it = use_it p w

abbrev pub is_of_kind : declared.Scalar → Scalar → Bool
is_of_kind (of.Int kind) (integer n labels) = true
is_of_kind (of.Int kind) (pointer p) = false
is_of_kind of.Pointer (integer n labels) = false
is_of_kind of.Pointer (pointer p) = true

abbrev pub as_pointer : Reply MachinePointer → Reply Scalar
as_pointer reply = behind reply (λ p w. goes (pointer p) w)
