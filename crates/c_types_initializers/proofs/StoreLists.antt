-- Stores whose expressions are kept, one after another.
use Rattle.std.proofs.Common.{◌≡◌, List, [], ◌∷◌, ◌++◌, map, refl}
use Rattle.c_layout.specs.CheckedTrees.{store_tree}
use Rattle.c_layout.specs.declared.checked_tree.checked_statements.InitStore.{InitStore}
use Rattle.c_types_scopes.specs.States.{State}
use Rattle.c_types_initializers.specs.StaticStores.{with_expression, with_list}

-- a store more
pub list_more : (s : State) (stores : List InitStore) (x : InitStore) → with_list s (map store_tree (stores ++ x ∷ [])) ≡ with_expression (with_list s (map store_tree stores)) (store_tree x)
unfolding with_list
list_more s [] x = refl
list_more s (y ∷ stores) x = list_more (with_expression s (store_tree y)) stores x
