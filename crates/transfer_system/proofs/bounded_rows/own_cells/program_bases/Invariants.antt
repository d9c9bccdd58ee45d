use Rattle.std.proofs.Common.{◌≡◌}
use Rattle.transfer_system.specs.BoundedRows.OwnRows.{bases_below}
use Rattle.transfer_system.proofs.bounded_rows.own_cells.program_bases.Given as goal

abbrev pub invariant-loop-base : goal.invariant-loop-base
invariant-loop-base l = l.all ≡ bases_below l.base
