use Rattle.std.proofs.Common.{◌≡◌, drop}
use Rattle.transfer_system.specs.System.SystemChecks.{is_in_order}
use Rattle.transfer_system.proofs.system.system_checks.are_in_order.Given as goal

abbrev pub invariant-loop-at : goal.invariant-loop-at
invariant-loop-at l = is_in_order l.least (drop l.at l.edges) ≡ is_in_order 0 l.edges
