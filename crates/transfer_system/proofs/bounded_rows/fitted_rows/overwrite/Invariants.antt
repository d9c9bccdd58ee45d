use Rattle.std.proofs.Common.{◌≡◌, ◌++◌, take, drop, map}
use Rattle.transfer_system.specs.BoundedRows.FittedRows.{filled_with}
use Rattle.transfer_system.proofs.bounded_rows.fitted_rows.overwrite.Given as goal

abbrev pub invariant-loop-at : goal.invariant-loop-at
invariant-loop-at g l = record {
  row : take l.at l.row ++ map (filled_with l.cell) (drop l.at l.fn.row) ≡ map (filled_with l.cell) l.fn.row;
  rest : drop l.at l.row ≡ drop l.at l.fn.row;
}
