use Rattle.std.proofs.Common.{◌≡◌, drop}
use Rattle.c_parser_tokens.specs.IntegerForms.{magnitude_after, magnitude}
use Rattle.c_parser_tokens.proofs.integer_forms.magnitude.Given as goal

abbrev pub invariant-loop-at : goal.invariant-loop-at
invariant-loop-at l = magnitude_after l.base l.total (drop l.at l.digits) ≡ magnitude l.base l.digits
