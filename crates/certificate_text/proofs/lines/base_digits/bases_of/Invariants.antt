use Rattle.std.proofs.Common.{◌≡◌, drop}
use Rattle.pointer_domain.specs.BaseSets.{no_base}
use Rattle.certificate_text.specs.Lines.BaseDigits.{bases_from}
use Rattle.certificate_text.proofs.lines.base_digits.bases_of.Given as goal

abbrev pub invariant-loop-at : goal.invariant-loop-at
invariant-loop-at l = bases_from l.set (drop l.at l.word) ≡ bases_from no_base l.word
