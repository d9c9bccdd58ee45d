use Rattle.std.proofs.Common.{◌≡◌, drop, ◌+◌}
use Rattle.store.specs.Spelling.{text_length}
use Rattle.store.proofs.spelling.text_length.Given as goal

abbrev pub invariant-loop-at : goal.invariant-loop-at
invariant-loop-at l = text_length (drop l.at l.text) + l.at ≡ text_length l.text
