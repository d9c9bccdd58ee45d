use Rattle.std.proofs.Common.{◌≡◌, ◌≤◌, length, drop}
use Rattle.semantics.specs.SourceMachine.Scopes as machine
use Rattle.interp_stack.specs.Scans.{scopes_view}
use Rattle.interp_stack.proofs.scopes.entered_between.Given as goal

abbrev pub invariant-back : goal.invariant-back
invariant-back l = (l.k ≤ length l.to) × (l.entered.items ≡ machine.without (machine.all_of (scopes_view l.from)) (machine.inwards (scopes_view (drop l.k l.to))))

abbrev pub decreases-back : goal.decreases-back
decreases-back l = l.k
