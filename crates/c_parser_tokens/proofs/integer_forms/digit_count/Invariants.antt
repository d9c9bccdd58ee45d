use Rattle.std.proofs.Common.{◌≡◌, ◌+◌, drop}
use Rattle.c_parser_tokens.specs.IntegerForms.{digit_count}
use Rattle.c_parser_tokens.proofs.integer_forms.digit_count.Given as goal

abbrev pub invariant-loop-at : goal.invariant-loop-at
invariant-loop-at l = l.at + digit_count l.base (drop l.at l.text) ≡ digit_count l.base l.text
