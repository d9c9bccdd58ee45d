use Rattle.std.proofs.Common.{◌≡◌, map, drop}
use Rattle.c_layout.specs.CheckedTrees.{statement_tree, statement_trees}
use Rattle.lower_preconditions.specs.Units.RegularStatements.{are_plain}
use Rattle.lower_preconditions.proofs.units.regular_statements.are_plain.Given as goal

abbrev pub invariant-loop-statement : goal.invariant-loop-statement
invariant-loop-statement l = are_plain (statement_trees (map statement_tree (drop l.statement-index l.list))) ≡ are_plain (statement_trees (map statement_tree l.list))
