use Rattle.std.proofs.Common.{subst}
use Rattle.cc_base.specs.DiagnosticOrder.{IsOrderedSet}
use Rattle.syntactic_rules.proofs.syntactic_rules.syntactic.Goals as goal

pub returns : goal.returns
returns c = subst (λ l. IsOrderedSet l c.ordered_diagnostics.result.items) c.in_ok-all_places.ensures c.ordered_diagnostics.ensures
