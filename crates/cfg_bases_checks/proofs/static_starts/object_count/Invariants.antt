use Rattle.std.proofs.Common.{◌≡◌, ◌≤◌, ◌+◌, drop}
use Rattle.cfg.specs.StaticStarts as spec
use Rattle.cfg_bases_checks.proofs.static_starts.object_count.Given as goal

abbrev pub invariant-loop-at : goal.invariant-loop-at
invariant-loop-at l = (l.count + spec.object_count (drop l.at l.all) ≡ spec.object_count l.all) × (l.count ≤ l.at)
