-- Runs of the program of a checked unit.
use Rattle.cc_base.specs.declared.limit_table.Limits.{Limits}
use Rattle.c_layout.specs.CheckedUnits.{UnitView}
use Rattle.cfg.specs.declared.programs.Flow.{Flow}
use Rattle.lower_templates.specs.Views.ProgramViews.{flow_view}
use Rattle.simulation_layout.specs.InlinedRuns.InlinedRuns.{IsInlined, LoweredRunsAreTheSame}
use Rattle.simulation_layout.proofs.temporaries.LowPrograms.{low_programs}
use Rattle.simulation_layout.proofs.temporaries.EntryLocals.{checked_few}
use Rattle.simulation_layout.specs.Units.CheckedRuns.{IsProgramOf, CheckedRunsAreTheSame}
use Rattle.simulation_layout.proofs.units.FitPieces.{is_made}

is_inlined : (u : UnitView) (limits : Limits) (flow : Flow) → IsProgramOf u limits flow → IsInlined u limits (flow_view flow)
is_inlined u limits flow o = record {
  is = o.is;
  made = o.made;
  are_made = λ n reached. is_made u n (o.made n) (o.are_made n reached);
  few = checked_few o.model o.name o.tree u o.checked o.is.entry o.is.is_counted.is_entry;
  low = low_programs limits flow o.good o.room;
}

pub checked_runs : LoweredRunsAreTheSame → CheckedRunsAreTheSame
unfolding is_inlined
checked_runs lowered u limits flow o draws returns n = lowered u limits (flow_view flow) (is_inlined u limits flow o) draws returns n
