use Rattle.std.proofs.Common.{◌≡◌, ◌++◌, drop}
use Rattle.cli_texts.specs.HelpTexts.{help_parts}
use Rattle.cli_texts.proofs.help_text.push_rules.Given as goal

abbrev pub invariant-loop-rule : goal.invariant-loop-rule
invariant-loop-rule l = l.text.items ++ help_parts l.on_text (drop l.rule-index l.rules) ≡ l.initial.text.items ++ help_parts l.on_text l.rules
