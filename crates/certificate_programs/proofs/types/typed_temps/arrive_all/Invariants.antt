use Rattle.std.proofs.Common.{◌≡◌, drop}
use Rattle.certificate_programs.specs.Types.TypedTemps.{along, arrive_all}
use Rattle.certificate_programs.proofs.types.typed_temps.arrive_all.Given as goal

abbrev pub invariant-loop-at : goal.invariant-loop-at
invariant-loop-at l = along l.model l.kinds (drop l.at l.edges) (record { all = l.all; grew = l.grew }) ≡ arrive_all l.model l.kinds l.edges l.initial.all
