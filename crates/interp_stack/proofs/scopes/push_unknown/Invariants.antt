use Rattle.std.proofs.Common.{◌≡◌, ◌++◌, drop}
use Rattle.semantics.specs.SourceMachine.Scopes as machine
use Rattle.interp_stack.specs.Scans.{scopes_view}
use Rattle.interp_stack.proofs.scopes.push_unknown.Given as goal

abbrev pub invariant-loop-object : goal.invariant-loop-object
invariant-loop-object l = l.list.items ++ machine.without (machine.all_of (scopes_view l.known)) (drop l.object-index l.scope) ≡ l.initial.list.items ++ machine.without (machine.all_of (scopes_view l.known)) l.scope
