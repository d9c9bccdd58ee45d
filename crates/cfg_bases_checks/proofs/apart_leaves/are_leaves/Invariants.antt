use Rattle.std.proofs.Common.{◌≡◌, true, drop}
use Rattle.cfg.specs.BaseShapes as spec
use Rattle.cfg_bases_checks.proofs.apart_leaves.are_leaves.Given as goal

abbrev pub invariant-loop-leaf : goal.invariant-loop-leaf
invariant-loop-leaf l =
    (spec.are_apart l.model l.room l.first l.taken (drop l.leaf-index l.leaves) ≡ spec.are_leaves l.model l.room l.leaves)
    × (spec.has_extents l.first ≡ true)
