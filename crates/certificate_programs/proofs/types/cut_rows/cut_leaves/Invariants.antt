use Rattle.std.proofs.Common.{◌≡◌, drop}
use Rattle.certificate_programs.specs.Types.CutCells.{cut_all}
use Rattle.certificate_programs.specs.Types.RowKinds.{leaves_kinds}
use Rattle.certificate_programs.proofs.types.cut_rows.cut_leaves.Given as goal

abbrev pub invariant-loop-at : goal.invariant-loop-at
invariant-loop-at l = cut_all (leaves_kinds l.model l.first l.at (drop l.at l.cells)) l.row ≡ cut_all (leaves_kinds l.model l.first 0 l.cells) l.initial.row
