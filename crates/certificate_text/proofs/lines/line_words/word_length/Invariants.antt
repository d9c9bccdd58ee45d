use Rattle.std.proofs.Common.{◌≡◌, ◌+◌, drop}
use Rattle.certificate_text.specs.Lines.LineWords.{word_length}
use Rattle.certificate_text.proofs.lines.line_words.word_length.Given as goal

abbrev pub invariant-loop-at : goal.invariant-loop-at
invariant-loop-at l = l.at + word_length l.stop (drop l.at l.text) ≡ word_length l.stop l.text
