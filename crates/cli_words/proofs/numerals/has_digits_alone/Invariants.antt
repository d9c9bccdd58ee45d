use Rattle.std.proofs.Common.{◌≡◌, drop}
use Rattle.std.specs.Str.{all_ascii_digits}
use Rattle.cli_words.proofs.numerals.has_digits_alone.Given as goal

abbrev pub invariant-loop-at : goal.invariant-loop-at
invariant-loop-at l = all_ascii_digits (drop l.at l.word) ≡ all_ascii_digits l.word
