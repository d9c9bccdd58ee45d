use Rattle.std.proofs.Common.{◌≡◌, drop, Some}
use Rattle.diagnose.specs.Diagnostics.AdmittedRules.{reached_row}
use Rattle.diagnose.specs.Operands.TypedRows.{are_typed_from}
use Rattle.diagnose.proofs.operands.typed_instructions.are_typed.Given as goal

abbrev pub invariant-loop-at : goal.invariant-loop-at
invariant-loop-at g l = are_typed_from g.I.Lattice.lattice g.I.IntDomain.numbers l.flow (reached_row l.reached l.row) (drop l.at l.instructions) ≡ are_typed_from g.I.Lattice.lattice g.I.IntDomain.numbers l.flow (Some l.initial.row) l.instructions
