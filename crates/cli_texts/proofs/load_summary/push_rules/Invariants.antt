use Rattle.std.proofs.Common.{◌≡◌, ◌++◌, drop}
use Rattle.cli_texts.specs.Summaries.{rule_parts}
use Rattle.cli_texts.proofs.load_summary.push_rules.Given as goal

abbrev pub invariant-loop-rule : goal.invariant-loop-rule
invariant-loop-rule l = l.text.items ++ rule_parts l.diags (drop l.rule-index l.rules) ≡ l.initial.text.items ++ rule_parts l.diags l.rules
