use Rattle.std.proofs.Common.{◌≡◌, drop}
use Rattle.c_preproc.specs.Known.{known_of, appended}
use Rattle.c_preproc.proofs.preprocessor_state.State.append.Given as goal

abbrev pub invariant-loop-x : goal.invariant-loop-x
invariant-loop-x l = appended (drop l.x-index l.x-items) (known_of l.self) ≡ appended l.x-items (known_of l.initial.self)
