use Rattle.std.proofs.Common.{◌≡◌, ◌++◌, drop}
use Rattle.syntactic_rules.specs.StatementPlaces.{statements_places}
use Rattle.syntactic_rules.proofs.statement_places.+statements.Given as goal

abbrev pub invariant-add_statements-loop-statement : goal.invariant-add_statements-loop-statement
invariant-add_statements-loop-statement l = l.found.items ++ statements_places (drop l.statement-index l.statements) ≡ l.initial.found.items ++ statements_places l.statements
