use Rattle.std.proofs.Common.{subst}
use Rattle.cc_base.specs.DiagnosticOrder.{IsOrderedSet}
use Rattle.diagnose.proofs.diagnostics.map_diagnoses.diagnose.Goals as goal

pub returns : goal.returns
returns g c = subst (λ l. IsOrderedSet l c.ordered_diagnostics.result.items) c.in_ok-diagnose_map.ensures c.ordered_diagnostics.ensures
