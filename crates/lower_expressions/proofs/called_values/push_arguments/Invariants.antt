use Rattle.std.proofs.Common.{◌≡◌, map, drop}
use Rattle.c_layout.specs.CheckedTrees.{term_tree, term_trees}
use Rattle.lower_templates.specs.Worklist.Plans.{plan}
use Rattle.lower_expressions.specs.Calls.{argued}
use Rattle.lower_expressions.proofs.called_values.push_arguments.Given as goal

abbrev pub invariant-loop-argument : goal.invariant-loop-argument
invariant-loop-argument l = argued (term_trees (map term_tree (drop l.argument-index l.arguments))) l.temp (plan l.builder) ≡ argued (term_trees (map term_tree l.arguments)) l.fn.depth (plan l.initial.builder)
