use Rattle.std.proofs.Common.{◌≡◌, ◌++◌, drop, Some}
use Rattle.diagnose.specs.Diagnostics.AdmittedRules.{reached_row, pairs_from}
use Rattle.diagnose.proofs.diagnostics.block_diagnoses.diagnose_instructions.Given as goal

abbrev pub invariant-loop-at : goal.invariant-loop-at
invariant-loop-at g l = l.out.items ++ pairs_from g.I.Lattice.lattice g.I.IntDomain.numbers l.flow (reached_row l.reached l.row) (drop l.at l.instructions) ≡ l.initial.out.items ++ pairs_from g.I.Lattice.lattice g.I.IntDomain.numbers l.flow (Some l.initial.row) l.instructions
