use Rattle.std.proofs.Common.{◌≡◌, drop}
use Rattle.semantics.specs.SourceMachine.LabelSearch as search
use Rattle.interp_statements.proofs.label_search.case_of.Given as goal

abbrev pub invariant-loop-n : goal.invariant-loop-n
invariant-loop-n l = search.case_of (drop l.n l.labels) l.n l.value ≡ search.case_of l.labels 0 l.value
