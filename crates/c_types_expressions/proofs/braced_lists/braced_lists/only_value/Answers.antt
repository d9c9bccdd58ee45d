use Rattle.std.proofs.Common.{◌≡◌, ◌≤◌, List, [], ◌∷◌, map, length, None, refl, arith}
use Rattle.c_layout.specs.DeclarationTrees.{initializer_tree, initializer_trees}
use Rattle.c_layout.specs.declared.syntax_tree.declarations.Initializer.{Initializer}
use Rattle.c_types_expressions.specs.BracedLists.BracedLists.{only_value}
use Rattle.c_types_expressions.proofs.braced_lists.braced_lists.only_value.Goals as goal

none_of_several : (items : List Initializer) → 2 ≤ length items → None ≡ only_value (initializer_trees (map initializer_tree items))
none_of_several [] several = absurd (omega (arith, several))
none_of_several (i ∷ []) several = absurd (omega (arith, several))
none_of_several (i ∷ j ∷ items) several = refl

pub returns-in-len2-up : goal.returns-in-len2-up
returns-in-len2-up c = none_of_several c.args.items.now c.in-len2-up.len_at_least
