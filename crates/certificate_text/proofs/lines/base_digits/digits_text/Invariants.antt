use Rattle.std.proofs.Common.{◌≡◌, ◌≤◌, ◌++◌}
use Rattle.certificate_text.specs.Lines.BaseDigits.{digits_below}
use Rattle.certificate_text.proofs.lines.base_digits.digits_text.Given as goal

abbrev pub invariant-loop-left : goal.invariant-loop-left
invariant-loop-left l = (l.left ≤ 254) × (l.text.items ++ digits_below l.set l.left ≡ digits_below l.set l.count)

abbrev pub decreases-loop-left : goal.decreases-loop-left
decreases-loop-left l = l.left
