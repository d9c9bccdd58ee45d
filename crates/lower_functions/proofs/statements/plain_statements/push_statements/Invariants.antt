use Rattle.std.proofs.Common.{◌≡◌, map, drop}
use Rattle.c_layout.specs.CheckedTrees.{statement_tree, statement_trees}
use Rattle.lower_templates.specs.Worklist.Plans.{plan}
use Rattle.lower_functions.specs.Statements.PlainStatements.{all_statements}
use Rattle.lower_functions.proofs.statements.plain_statements.push_statements.Given as goal

abbrev pub invariant-loop-statement : goal.invariant-loop-statement
invariant-loop-statement l = all_statements (statement_trees (map statement_tree (drop l.statement-index l.list))) l.around (plan l.builder) ≡ all_statements (statement_trees (map statement_tree l.list)) l.around (plan l.initial.builder)
