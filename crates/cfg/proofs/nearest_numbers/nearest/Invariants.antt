use Rattle.std.proofs.Common.{◌≡◌, ◌-◌, ◌+◌, length}
use Rattle.cfg.specs.Nearest.{left_after, nearest_of}
use Rattle.cfg.proofs.nearest_numbers.nearest.Given as goal

abbrev pub invariant-loop-at : goal.invariant-loop-at
invariant-loop-at l = (left_after (l.extra - l._at) l.kept ≡ nearest_of l.list) × (length l.kept + l._at ≡ length l.list)
