-- The bases that name objects and literals when a run begins.
use Rattle.std.specs.Prelude.{◌≡◌, ℕ, List, [], Some, slice_get}
use Rattle.cc_base.specs.declared.limit_table.Limits.{Limits}
use Rattle.c_layout.specs.CheckedUnits.{UnitView}
use Rattle.c_layout.specs.Types.{Ty}
use Rattle.lower.specs.Inlining.Inlinings.{program}
use Rattle.cfg.specs.declared.programs.Flow.{Flow}
use Rattle.semantics.specs.CfgMachine.FlowStarts.{start_names}
use Rattle.typed_programs.specs.Types.TypedPrograms.{first_types}
use Rattle.lower_templates.specs.Views.ProgramViews.{flow_view}
use Rattle.simulation_units.specs.Units.UnitRuns.{IsProgramOf}
use Rattle.typed_lowering.specs.Conversions.TypedBases.{HasTypes}

-- they are of the types of what they name
abbrev pub FirstObjectsAreTyped : Type 0
FirstObjectsAreTyped = (u : UnitView) (limits : Limits) (flow : Flow) (o : IsProgramOf u limits flow) → flow.parameters.items ≡ [] → (types : List Ty) → HasTypes u types (program u o.is.templates o.is.entry.at).bases
    → (b i : ℕ) → start_names u (flow_view flow) b ≡ Some i → (t : Ty) × (slice_get types b ≡ Some t) × (first_types u i ≡ Some t)
