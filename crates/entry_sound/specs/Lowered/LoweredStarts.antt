-- What typing says of the parameters of an entry, and that a lowered program begins with what is in its unit's tables.
use Rattle.std.specs.Prelude.{◌≡◌, ◌<◌, ℕ, Some, slice_get}
use Rattle.cc_base.specs.declared.int_types.IntType.{IntType}
use Rattle.cc_base.specs.declared.limit_table.Limits.{Limits}
use Rattle.c_layout.specs.Types.{Int}
use Rattle.c_layout.specs.CheckedUnits.{LocalView, FunctionView, UnitView}
use Rattle.cfg.specs.declared.programs.Flow.{Flow}
use Rattle.lower_templates.specs.Views.ProgramViews.{flow_view}
use Rattle.lower.specs.Inlining.Lowerings.{IsLowering}
use Rattle.entry_sound.specs.Tables.TypedInitializers.{HasTypedInitializers}
use Rattle.entry_sound.specs.Tables.UnitStarts.{StartsAs}

-- a local object of an integer type
pub record IsIntegerLocal (f : FunctionView) (k : ℕ) : Type 0 where
  pub local : LocalView
  pub among : slice_get f.locals k ≡ Some local
  pub kind : IntType
  pub is : local.ctype ≡ Int kind

-- the parameters of the entry are local objects of integer types
abbrev pub HasIntegerParameters : UnitView → Type 0
HasIntegerParameters u = (f : FunctionView) → slice_get u.functions u.entry ≡ Some f → (k : ℕ) → k < f.parameters → IsIntegerLocal f k

abbrev pub LoweredProgramsStart : Type 0
LoweredProgramsStart = (u : UnitView) (limits : Limits) (flow : Flow) → IsLowering u limits (flow_view flow) → HasTypedInitializers u → HasIntegerParameters u → StartsAs u flow
