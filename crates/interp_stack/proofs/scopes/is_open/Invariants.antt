use Rattle.std.proofs.Common.{◌≡◌, drop}
use Rattle.semantics.specs.SourceMachine.Scopes as machine
use Rattle.interp_stack.specs.Scans.{scopes_view}
use Rattle.interp_stack.proofs.scopes.is_open.Given as goal

abbrev pub invariant-loop-scope : goal.invariant-loop-scope
invariant-loop-scope l = machine.is_in l.object (machine.all_of (scopes_view (drop l.scope-index l.scopes))) ≡ machine.is_in l.object (machine.all_of (scopes_view l.scopes))
