use Rattle.std.proofs.Common.{◌≡◌, map, drop}
use Rattle.c_layout.specs.CheckedTrees.{statement_tree, statement_trees}
use Rattle.c_layout.specs.CheckedUnits.{function_view, unit_view}
use Rattle.lower_preconditions.specs.Units.RegularStatements.{are_regular_statements}
use Rattle.lower_preconditions.proofs.units.regular_statements.+statements.Given as goal

abbrev pub invariant-are_regular_statements-loop-statement : goal.invariant-are_regular_statements-loop-statement
invariant-are_regular_statements-loop-statement l = are_regular_statements (unit_view l.unit) (function_view l.function) l.breaks l.loops (statement_trees (map statement_tree (drop l.statement-index l.list))) ≡ are_regular_statements (unit_view l.unit) (function_view l.function) l.breaks l.loops (statement_trees (map statement_tree l.list))
