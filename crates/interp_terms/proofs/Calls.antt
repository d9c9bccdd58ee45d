-- How many arguments a call has.
use Rattle.std.proofs.Common.{◌≡◌, suc, List, [], ◌∷◌, length, map, refl, ap, sym, ◌∙◌, add-one}
use Rattle.c_layout.specs.CheckedTrees.{term_tree, term_trees}
use Rattle.c_layout.specs.declared.checked_tree.checked_terms.CheckedTerm.{CheckedTerm}
use Rattle.semantics.specs.SourceMachine.TermItems.{argument_count}

pub count_is : (es : List CheckedTerm) → length es ≡ argument_count (term_trees (map term_tree es))
count_is [] = refl
count_is (e ∷ es) = ap suc (count_is es) ∙ sym (add-one (argument_count (term_trees (map term_tree es))))
