use Rattle.std.proofs.Common.{◌≡◌, take, map, length}
use Rattle.std.specs.List.{range_with_len}
use Rattle.certificate_programs.specs.Types.TypedTemps.{temp_before}
use Rattle.certificate_programs.proofs.types.typed_temps.enter.Given as goal

abbrev pub invariant-loop-temp : goal.invariant-loop-temp
invariant-loop-temp l = take l.temp l.kinds ≡ map (temp_before l.all (length l.initial.kinds) l.number) (range_with_len 0 l.temp)
