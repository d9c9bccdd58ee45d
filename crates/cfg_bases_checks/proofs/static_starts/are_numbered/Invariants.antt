use Rattle.std.proofs.Common.{◌≡◌, ◌+◌, drop}
use Rattle.cfg.specs.StaticStarts as spec
use Rattle.cfg_bases_checks.proofs.static_starts.are_numbered.Given as goal

abbrev pub invariant-loop-at : goal.invariant-loop-at
invariant-loop-at l = (spec.are_numbered l.objects l.literals (drop l.at l.all) ≡ spec.are_numbered 0 0 l.all) × (l.objects + l.literals ≡ l.at)
