use Rattle.std.proofs.Common.{◌≡◌, ◌∷◌, drop}
use Rattle.cc_base.specs.Ascending as spec
use Rattle.cli_units.proofs.unit_thresholds.is_ascending.Given as goal

abbrev pub invariant-loop-number : goal.invariant-loop-number
invariant-loop-number l = spec.is_ascending (l.last ∷ drop l.number-index l.others) ≡ spec.is_ascending l.numbers
