-- Scalar types by class and signedness, and those of a model.
use Rattle.std.specs.Prelude.{Bool, true, false, ◌&&◌, ◌==◌, nat_le}
use Rattle.cc_base.specs.declared.int_types.IntType.{IntType}
use Rattle.c_layout.specs.declared.data_model.Model.{Model}
use Rattle.c_layout.specs.Leaves.{class_of}
use Rattle.cfg.specs.declared.machine_instructions.Scalar as declared
use Rattle.cfg.specs.declared.machine_instructions.Scalar.TheVariants as of
use Rattle.memory_model.specs.Memory.ScalarSizes.{class_bytes}

abbrev pub sign_of : declared.Scalar → Bool
sign_of (of.Int kind) = kind.signed
sign_of of.Pointer = false

-- a rank from 1 to 5, and the size that its class has
abbrev pub is_model_integer : Model → IntType → Bool
is_model_integer m kind = nat_le 1 kind.rank && (nat_le kind.rank 5 && (kind.bytes == class_bytes m (class_of kind)))

abbrev pub is_model_scalar : Model → declared.Scalar → Bool
is_model_scalar m (of.Int kind) = is_model_integer m kind
is_model_scalar m of.Pointer = true
