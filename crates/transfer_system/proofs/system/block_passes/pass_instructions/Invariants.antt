use Rattle.std.proofs.Common.{◌≡◌, drop, length, Some}
use Rattle.transfer_system.specs.System.BlockPasses.{reached_row, rows_behind}
use Rattle.transfer_system.proofs.system.block_passes.pass_instructions.Given as goal

abbrev pub invariant-loop-at : goal.invariant-loop-at
invariant-loop-at g l = record {
  row : rows_behind g.I.Lattice.lattice g.I.IntDomain.numbers l.flow (reached_row l.reached l.row) (drop l.at l.instructions) ≡ rows_behind g.I.Lattice.lattice g.I.IntDomain.numbers l.flow (Some l.initial.row) l.instructions;
  length : length l.row ≡ length l.initial.row;
}
