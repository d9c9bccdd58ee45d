use Rattle.std.proofs.Common.{◌≡◌, drop}
use Rattle.certificate_text.specs.Lines.LineWords.{same_all}
use Rattle.certificate_text.proofs.lines.line_words.same_all.Given as goal

abbrev pub invariant-loop-at : goal.invariant-loop-at
invariant-loop-at l = same_all (drop l.at l.one) (drop l.at l.other) ≡ same_all l.one l.other
