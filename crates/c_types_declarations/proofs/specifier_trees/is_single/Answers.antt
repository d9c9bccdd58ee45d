use Rattle.std.proofs.Common.{◌≡◌, ◌≤◌, ◌<◌, List, [], ◌∷◌, map, length, true, false, refl, arith}
use Rattle.c_layout.specs.DeclarationTrees.{spec_tree, spec_trees}
use Rattle.c_layout.specs.declared.syntax_tree.declarations.SpecWord.{SpecWord}
use Rattle.c_types_declarations.specs.SpecifierTrees.{is_single}
use Rattle.c_types_declarations.proofs.specifier_trees.is_single.Goals as goal

one_is_single : (words : List SpecWord) → 1 ≤ length words → length words < 2 → true ≡ is_single (spec_trees (map spec_tree words))
one_is_single [] some few = absurd (omega (arith, some))
one_is_single (w ∷ []) some few = refl
one_is_single (w ∷ v ∷ words) some few = absurd (omega (arith, few))

several_are_none : (words : List SpecWord) → 2 ≤ length words → false ≡ is_single (spec_trees (map spec_tree words))
several_are_none [] several = absurd (omega (arith, several))
several_are_none (w ∷ []) several = absurd (omega (arith, several))
several_are_none (w ∷ v ∷ words) several = refl

pub returns-in-len1 : goal.returns-in-len1
returns-in-len1 c = one_is_single c.args.words.now c.in-len1.len_at_least c.in-len1.len_below

pub returns-in-len2-up : goal.returns-in-len2-up
returns-in-len2-up c = several_are_none c.args.words.now c.in-len2-up.len_at_least
