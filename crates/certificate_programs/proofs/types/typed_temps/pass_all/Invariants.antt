use Rattle.std.proofs.Common.{◌≡◌, drop}
use Rattle.certificate_programs.specs.Types.TypedTemps.{pass_all}
use Rattle.certificate_programs.proofs.types.typed_temps.pass_all.Given as goal

abbrev pub invariant-loop-at : goal.invariant-loop-at
invariant-loop-at l = pass_all l.model l.kinds (drop l.at l.instructions) ≡ pass_all l.model l.initial.kinds l.instructions
