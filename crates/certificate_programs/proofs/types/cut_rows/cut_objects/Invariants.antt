use Rattle.std.proofs.Common.{◌≡◌, drop}
use Rattle.certificate_programs.specs.Types.CutCells.{cut_all}
use Rattle.certificate_programs.specs.Types.RowKinds.{objects_kinds}
use Rattle.certificate_programs.proofs.types.cut_rows.cut_objects.Given as goal

abbrev pub invariant-loop-at : goal.invariant-loop-at
invariant-loop-at l = cut_all (objects_kinds l.model (drop l.at l.bases)) l.row ≡ cut_all (objects_kinds l.model l.bases) l.initial.row
