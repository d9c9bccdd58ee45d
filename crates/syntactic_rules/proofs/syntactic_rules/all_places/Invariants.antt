use Rattle.std.proofs.Common.{◌≡◌, ◌++◌, drop}
use Rattle.std.specs.List.{flat_map}
use Rattle.syntactic_rules.specs.StatementPlaces.{function_places}
use Rattle.syntactic_rules.proofs.syntactic_rules.all_places.Given as goal

abbrev pub invariant-loop-function : goal.invariant-loop-function
invariant-loop-function l = l.found.items ++ flat_map function_places (drop l.function-index l.unit.functions.items) ≡ flat_map function_places l.unit.functions.items
