use Rattle.std.proofs.Common.{◌≡◌, map, drop}
use Rattle.c_layout.specs.CheckedTrees.{statement_tree, statement_trees}
use Rattle.lower_preconditions.specs.Units.LabelNumbers.{all_numbered}
use Rattle.lower_preconditions.proofs.units.label_numbers.+labels.Given as goal

abbrev pub invariant-all_numbered-loop-statement : goal.invariant-all_numbered-loop-statement
invariant-all_numbered-loop-statement l = all_numbered (statement_trees (map statement_tree (drop l.statement-index l.list))) l.met ≡ all_numbered (statement_trees (map statement_tree l.list)) l.fn.before
