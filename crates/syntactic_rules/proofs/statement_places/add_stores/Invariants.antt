use Rattle.std.proofs.Common.{◌≡◌, ◌++◌, drop}
use Rattle.syntactic_rules.specs.StatementPlaces.{stores_places}
use Rattle.syntactic_rules.proofs.statement_places.add_stores.Given as goal

abbrev pub invariant-loop-store : goal.invariant-loop-store
invariant-loop-store l = l.found.items ++ stores_places (drop l.store-index l.stores) ≡ l.initial.found.items ++ stores_places l.stores
