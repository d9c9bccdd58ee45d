use Rattle.std.proofs.Common.{◌≡◌, drop, length}
use Rattle.certificate_programs.specs.Types.TypedTemps.{arrive, arrive_from}
use Rattle.certificate_programs.proofs.types.typed_temps.arrive.Given as goal

abbrev pub invariant-loop-temp : goal.invariant-loop-temp
invariant-loop-temp l = arrive_from l.model (length l.kinds) l.edge l.temp (drop l.temp l.kinds) (record { all = l.all; grew = l.grew }) ≡ arrive l.model l.kinds l.edge l.initial.all
