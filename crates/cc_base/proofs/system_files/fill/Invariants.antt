use Rattle.std.proofs.Common.{length}
use Rattle.cc_base.proofs.Filling.{Fills}
use Rattle.cc_base.proofs.system_files.fill.Given as goal

abbrev pub invariant-loop-turn : goal.invariant-loop-turn
invariant-loop-turn g l = Fills l.initial.taken l.taken l.initial.faults l.faults l.total (length l.into.items) l._turn
