use Rattle.c_preproc_macros.specs.Expanding.{expansion}
use Rattle.c_preproc_macros.specs.States.{state_of, setting_of}
use Rattle.c_preproc_macros.proofs.Moves.{Stands}
use Rattle.c_preproc_macros.proofs.Measure.{measure}
use Rattle.c_preproc_macros.proofs.machine.run.Given as goal

abbrev pub invariant-turns : goal.invariant-turns
invariant-turns l = Stands (setting_of l.macros) (state_of l.machine) (expansion (setting_of l.macros) l.text l.used)

abbrev pub decreases-turns : goal.decreases-turns
decreases-turns l = measure (setting_of l.macros) (state_of l.machine)
