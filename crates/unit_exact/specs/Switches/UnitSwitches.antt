-- Of each program that a checked unit is lowered to the labels of each switch are apart.
use Rattle.cc_base.specs.declared.limit_table.Limits.{Limits}
use Rattle.c_layout.specs.CheckedUnits.{UnitView}
use Rattle.cfg.specs.declared.programs.Flow.{Flow}
use Rattle.simulation_units.specs.Units.UnitRuns.{IsProgramOf}
use Rattle.run_exact.specs.Runs.SingleRuns.{SwitchesAreApart}

abbrev pub UnitSwitchesAreApart : Type 0
UnitSwitchesAreApart = (u : UnitView) (limits : Limits) (program : Flow) → IsProgramOf u limits program → SwitchesAreApart program
