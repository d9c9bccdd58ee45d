use Rattle.std.proofs.Common.{◌≡◌, map, drop}
use Rattle.lower.specs.Inlining.Inlinings.{with_heads}
use Rattle.lower_templates.specs.Views.ProgramViews.{block, edge}
use Rattle.lower.proofs.inlining.resolved_edges.note_heads.Given as goal

abbrev pub invariant-loop-edge : goal.invariant-loop-edge
invariant-loop-edge l = with_heads (map edge (drop l.edge-index l.edges)) (map block l.blocks.items) ≡ with_heads (map edge l.edges) (map block l.initial.blocks.items)
