-- The temporaries of well-formed programs.
use Rattle.std.specs.Prelude.{◌≡◌, ◌≤◌, ◌-◌, ◌^◌, true}
use Rattle.cc_base.specs.declared.limit_table.Limits.{Limits}
use Rattle.cfg.specs.declared.programs.Flow.{Flow}
use Rattle.cfg.specs.WellFormed.{is_well_formed}
use Rattle.lower_templates.specs.Views.ProgramViews.{flow_view}
use Rattle.simulation_layout.specs.Copies.LowTemporaries.{HasLowTemps}

-- each temporary of a well-formed program has a lower number than the last one, where the limit is not past it
abbrev pub WellFormedProgramsAreLow : Type 0
WellFormedProgramsAreLow = (limits : Limits) (flow : Flow) → is_well_formed limits flow ≡ true → limits.temps ≤ 2 ^ 32 - 1 → HasLowTemps (flow_view flow)
