use Rattle.cc_base.proofs.DiagnosticOrder.{ascends, contains_same}
use Rattle.cc_base.proofs.sorted_lists.ordered_diagnostics.Goals as goal

pub returns : goal.returns
returns c = record {
  ascending = ascends c.ordered.result.items c.ordered.ensures.ascending;
  kept = λ d h. contains_same c.ordered.result.items d (c.ordered.ensures.kept d h);
  made = c.ordered.ensures.made;
}
