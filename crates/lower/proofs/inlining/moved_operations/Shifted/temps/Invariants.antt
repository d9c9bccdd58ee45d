use Rattle.std.proofs.Common.{◌≡◌, ◌++◌, map, drop}
use Rattle.lower.specs.Inlining.MovedActs as spec
use Rattle.lower.proofs.inlining.moved_operations.Shifted.temps.Given as goal

abbrev pub invariant-loop-temp : goal.invariant-loop-temp
invariant-loop-temp l = l.list.items ++ map (spec.temp l.self.depth) (drop l.temp-index l.temps) ≡ map (spec.temp l.self.depth) l.temps
