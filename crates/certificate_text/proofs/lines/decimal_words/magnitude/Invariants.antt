use Rattle.std.proofs.Common.{◌≡◌, drop}
use Rattle.certificate_text.specs.Lines.DecimalWords.{magnitude}
use Rattle.certificate_text.proofs.lines.decimal_words.magnitude.Given as goal

abbrev pub invariant-loop-at : goal.invariant-loop-at
invariant-loop-at l = magnitude l.number (drop l.at l.word) ≡ magnitude 0 l.word
