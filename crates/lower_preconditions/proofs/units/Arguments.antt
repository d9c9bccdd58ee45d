-- How many arguments a list has.
use Rattle.std.proofs.Common.{◌≡◌, suc, ◌+◌, List, [], ◌∷◌, length, map, refl, ap, arith, ◌∙◌}
use Rattle.c_layout.specs.CheckedTrees.{term_trees, term_tree}
use Rattle.c_layout.specs.declared.checked_tree.checked_terms.CheckedTerm.{CheckedTerm}
use Rattle.lower_preconditions.specs.Units.RegularTerms.{argument_count}

pub arguments_counted : (terms : List CheckedTerm) → length terms ≡ argument_count (term_trees (map term_tree terms))
arguments_counted [] = refl
arguments_counted (e ∷ rest) = let e : suc (length rest) ≡ length rest + 1 = omega arith in e ∙ ap (λ n. n + 1) (arguments_counted rest)
