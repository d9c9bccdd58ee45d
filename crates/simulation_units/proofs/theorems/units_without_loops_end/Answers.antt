use Rattle.simulation_statements.proofs.entry.EntrySimulates.{body_simulates}
use Rattle.simulation_units.proofs.termination.EndedRuns.{unit_ends}
use Rattle.simulation_units.proofs.theorems.units_without_loops_end.Goals as goal

pub returns : goal.returns
returns c =
    λ u limits program o none draws. unit_ends
    (record {
      suit = c.regular_functions_suit.ensures;
      regular = c.functions_are_regular.ensures;
      labelled = c.functions_are_labelled.ensures;
      named = c.names_are_there.ensures;
      switches = c.switches_are_on_integers.ensures;
      apart = c.scopes_are_apart.ensures;
      jumps = c.regular_jumps_stand.ensures;
      not_called = c.entries_are_not_called.ensures;
      leave = c.called_functions_leave_all.ensures;
      start = λ t f e n. body_simulates t f e n;
      functions = c.functions_are_simulated.ensures;
      entries = c.entries_are_simulated.ensures;
      returns = c.returns_are_simulated.ensures;
      same = c.checked_runs_are_the_same.ensures;
    })
    u limits program o none draws
