use Rattle.std.proofs.Common.{◌≡◌, ◌++◌, ◌-◌, ◌≤◌}
use Rattle.cli_texts.specs.LoadUnits.{function_lines}
use Rattle.cli_texts.proofs.loaded_units.push_functions.Given as goal

abbrev pub invariant-loop-k : goal.invariant-loop-k
invariant-loop-k l = (l.k ≤ l.count) × (l.text.items ++ function_lines l.s l.k (l.count - l.k) ≡ l.initial.text.items ++ function_lines l.seed 0 l.count)
