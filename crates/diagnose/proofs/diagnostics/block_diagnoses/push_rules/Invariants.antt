use Rattle.std.proofs.Common.{◌≡◌, ◌++◌, drop}
use Rattle.diagnose.specs.Diagnostics.AdmittedRules.{pairs_among}
use Rattle.diagnose.proofs.diagnostics.block_diagnoses.push_rules.Given as goal

abbrev pub invariant-loop-at : goal.invariant-loop-at
invariant-loop-at l = l.out.items ++ pairs_among l.place l.violations (drop l.at l.rules) ≡ l.initial.out.items ++ pairs_among l.place l.violations l.rules
