use Rattle.std.proofs.Common.{◌≡◌, drop, length}
use Rattle.certificate_programs.specs.Types.TypedTemps.{spread, follow_from}
use Rattle.certificate_programs.proofs.types.typed_temps.spread.Given as goal

abbrev pub invariant-loop-number : goal.invariant-loop-number
invariant-loop-number l = follow_from l.flow (length l.initial.kinds) l.number (drop l.number l.flow.blocks.items) (record { all = l.all; grew = l.grew }) ≡ spread l.flow (length l.initial.kinds) l.initial.all
