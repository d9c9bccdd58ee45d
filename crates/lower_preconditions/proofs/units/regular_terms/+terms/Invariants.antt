use Rattle.std.proofs.Common.{◌≡◌, map, drop}
use Rattle.c_layout.specs.CheckedTrees.{term_tree, term_trees}
use Rattle.c_layout.specs.CheckedUnits.{function_view, unit_view}
use Rattle.lower_preconditions.specs.Units.RegularTerms.{are_regular_terms}
use Rattle.lower_preconditions.proofs.units.regular_terms.+terms.Given as goal

abbrev pub invariant-are_regular_terms-loop-term : goal.invariant-are_regular_terms-loop-term
invariant-are_regular_terms-loop-term l = are_regular_terms (unit_view l.unit) (function_view l.function) l.at (term_trees (map term_tree (drop l.term-index l.terms))) ≡ are_regular_terms (unit_view l.unit) (function_view l.function) l.depth (term_trees (map term_tree l.terms))
