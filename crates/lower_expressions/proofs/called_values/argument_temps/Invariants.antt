use Rattle.std.proofs.Common.{◌≡◌, ◌++◌, map, drop}
use Rattle.c_layout.specs.CheckedTrees.{term_tree, term_trees}
use Rattle.lower_expressions.specs.Calls as spec
use Rattle.lower_expressions.proofs.called_values.argument_temps.Given as goal

abbrev pub invariant-loop-argument : goal.invariant-loop-argument
invariant-loop-argument l = l.temps.items ++ spec.argument_temps (term_trees (map term_tree (drop l._argument-index l.arguments))) l.temp ≡ spec.argument_temps (term_trees (map term_tree l.arguments)) l.fn.depth
