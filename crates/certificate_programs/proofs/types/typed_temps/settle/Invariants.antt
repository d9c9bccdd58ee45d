use Rattle.std.proofs.Common.{◌≡◌, ◌-◌, ◌+◌, length}
use Rattle.certificate_programs.specs.Types.TypedTemps.{settle}
use Rattle.certificate_programs.proofs.types.typed_temps.settle.Given as goal

abbrev pub invariant-loop-pass : goal.invariant-loop-pass
invariant-loop-pass l = settle l.flow (length l.initial.kinds) (length l.flow.blocks.items + 1 - l._pass) l.all ≡ settle l.flow (length l.initial.kinds) (length l.flow.blocks.items + 1) l.initial.all
