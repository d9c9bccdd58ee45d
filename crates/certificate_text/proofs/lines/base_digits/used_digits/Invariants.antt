use Rattle.std.proofs.Common.{◌≡◌, ◌≤◌}
use Rattle.certificate_text.specs.Lines.BaseDigits.{used_below}
use Rattle.certificate_text.proofs.lines.base_digits.used_digits.Given as goal

abbrev pub invariant-loop-at : goal.invariant-loop-at
invariant-loop-at l = (l.used ≡ used_below l.set l.at) × (l.used ≤ l.at) × (l.at ≤ l.count)
