-- No run of a unit that is answered is stuck.
use Rattle.c_layout.specs.CheckedUnits.{unit_view}
use Rattle.simulation_units.specs.CheckedUnits.LookedRuns.{LookedUnitsAreNeverStuck}
use Rattle.cli.specs.Command.DefinedRuns.{TypedUnitsPassLooks, RunsAreDefined}

pub runs_defined : TypedUnitsPassLooks → LookedUnitsAreNeverStuck → RunsAreDefined
runs_defined pass never = record {
  judged = λ unit s j is. never (unit_view is.checked) (pass unit s is.tree is.checked is.parsed is.typed is.looked is.regular);
  certified = λ unit s flow is. never (unit_view is.checked) (pass unit s is.tree is.checked is.parsed is.typed is.looked is.regular);
  replayed = λ unit s draws steps answer is. never (unit_view is.checked) (pass unit s is.tree is.checked is.parsed is.typed is.looked is.regular);
}
