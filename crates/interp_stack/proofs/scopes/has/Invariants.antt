use Rattle.std.proofs.Common.{◌≡◌, drop}
use Rattle.semantics.specs.SourceMachine.Scopes as machine
use Rattle.interp_stack.proofs.scopes.has.Given as goal

abbrev pub invariant-loop-one : goal.invariant-loop-one
invariant-loop-one l = machine.is_in l.object (drop l.one-index l.scope) ≡ machine.is_in l.object l.scope
