use Rattle.std.proofs.Common.{◌≡◌}
use Rattle.transfer_library_plans.specs.Calls.{call_view}
use Rattle.transfer_library_plans.specs.Outputs.{pointer_trails}
use Rattle.transfer_library_plans.proofs.output_calls.pointer_trails.Given as goal

abbrev pub invariant-loop-at : goal.invariant-loop-at
invariant-loop-at g l = l.checked ≡ pointer_trails g.I.Lattice.lattice g.I.IntDomain.numbers (call_view l.call) l.row l.at l.initial.checked
