use Rattle.std.proofs.Common.{◌≡◌, drop}
use Rattle.c_layout.specs.CheckedUnits.{unit_view}
use Rattle.lower_templates.specs.Worklist.Pieces.{exits_view}
use Rattle.lower.specs.Inlining.Inlinings.{made, copy_view, placed, with_exits}
use Rattle.lower.proofs.inlining.inlined_program.Making.add_edges.Given as goal

abbrev pub invariant-loop-exit : goal.invariant-loop-exit
invariant-loop-exit l = with_exits (unit_view l.unit) l.from (exits_view (drop l.exit-index l.exits)) (placed (made l.self) (copy_view l.copy)) ≡ with_exits (unit_view l.unit) l.from (exits_view l.exits) (placed (made l.initial.self) (copy_view l.initial.copy))
