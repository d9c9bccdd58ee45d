use Rattle.std.proofs.Common.{◌≡◌, ◌++◌, ◌-◌, ◌≤◌}
use Rattle.cli_texts.specs.LoadUnits.{calls_from}
use Rattle.cli_texts.proofs.loaded_units.push_calls.Given as goal

abbrev pub invariant-loop-k : goal.invariant-loop-k
invariant-loop-k l = (l.k ≤ l.count) × (l.text.items ++ calls_from l.k (l.count - l.k) ≡ l.initial.text.items ++ calls_from 0 l.count)
