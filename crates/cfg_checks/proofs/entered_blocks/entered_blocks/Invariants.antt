use Rattle.std.proofs.Common.{◌≡◌, drop}
use Rattle.cfg_checks.specs.EnteredBlocks as spec
use Rattle.cfg_checks.proofs.entered_blocks.entered_blocks.Given as goal

abbrev pub invariant-loop-edge : goal.invariant-loop-edge
invariant-loop-edge l = spec.marks_behind (drop l.edge-index l.edges) l.marks.items ≡ spec.entered_blocks l.count l.edges
