-- What calls give.
use Rattle.std.specs.Prelude.{Option, Some, None}
use Rattle.memory_model.specs.Memory.Scalars.{Scalar}
use Rattle.interp_memory.specs.ByteViews.{scalar_view}
use Rattle.interp_memory.specs.declared.byte_forms.Value7.{Value7}

abbrev pub result_view : Option Value7 → Option Scalar
result_view None = None
result_view (Some v) = Some (scalar_view v)
