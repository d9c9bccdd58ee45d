use Rattle.std.proofs.Common.{◌≡◌, ◌++◌, drop}
use Rattle.semantics.specs.SourceMachine.Scopes as machine
use Rattle.interp_stack.specs.Scans.{scopes_view}
use Rattle.interp_stack.proofs.scopes.left_between.Given as goal

abbrev pub invariant-loop-scope : goal.invariant-loop-scope
invariant-loop-scope l = l.left.items ++ machine.without (machine.all_of (scopes_view l.to)) (machine.all_of (scopes_view (drop l.scope-index l.from))) ≡ machine.without (machine.all_of (scopes_view l.to)) (machine.all_of (scopes_view l.from))
