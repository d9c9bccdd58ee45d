-- When the pairs that an accepted certificate admits hold each pair that a run violates.
use Rattle.std.specs.Prelude.{List}
use Rattle.std.specs.List.{Contains}
use Rattle.cc_base.specs.declared.diagnostics.Diag.{Diag}
use Rattle.cc_base.specs.declared.limit_table.Limits.{Limits}
use Rattle.c_layout.specs.CheckedUnits.{UnitView}
use Rattle.cfg.specs.declared.programs.Flow.{Flow}
use Rattle.lower_templates.specs.Views.ProgramViews.{flow_view}
use Rattle.lower.specs.Inlining.Lowerings.{IsLowering}
use Rattle.memory_model.specs.Effects.Worlds.{Violation}
use Rattle.analysis_sound.specs.Analyses.SoundAnalyses.{IsViolatedIn}
use Rattle.entry_sound.specs.Tables.TypedInitializers.{HasTypedInitializers}
use Rattle.entry_sound.specs.Tables.UnitStarts.{StartsAs}
use Rattle.entry_sound.specs.Lowered.LoweredStarts.{HasIntegerParameters}
use Rattle.entry_sound.specs.Checked.CheckedStarts.{IsUnitOf}

-- each pair that a run of the unit by this program violates is found
abbrev pub HoldsPairsOf : Flow → List Diag → UnitView → Type 0
HoldsPairsOf flow found u = (v : Violation) → IsViolatedIn flow u v → Contains found (record { place = v.at; rule = v.rule })

-- of each unit with whose tables the program begins
abbrev pub HoldsPairsOfUnits : Flow → List Diag → Type 0
HoldsPairsOfUnits flow found = (u : UnitView) → StartsAs u flow → HoldsPairsOf flow found u

-- of the unit whose program it is, where the unit's initializers are typed and its entry takes integers
abbrev pub HoldsPairsOfLowered : Flow → List Diag → Type 0
HoldsPairsOfLowered flow found = (u : UnitView) (limits : Limits) → IsLowering u limits (flow_view flow) → HasTypedInitializers u → HasIntegerParameters u → HoldsPairsOf flow found u

-- of each checked unit whose program it is
abbrev pub HoldsPairsOfChecked : Flow → List Diag → Type 0
HoldsPairsOfChecked flow found = (u : UnitView) → IsUnitOf u flow → HoldsPairsOf flow found u
