-- Items that no jump looks for, in front of other items.
use Rattle.std.proofs.Common.{◌≡◌, ℕ, zero, suc, List, [], ◌∷◌, ◌++◌, replicate, refl, ◌∙◌}
use Rattle.cc_base.specs.declared.diagnostics.Place.{Place}
use Rattle.c_layout.specs.CheckedTrees as tree
use Rattle.c_layout.specs.CheckedTrees.{TermTrees, StatementTree, StoreTree, StoreValue, StoreCopy, StoreText}
use Rattle.semantics.specs.SourceMachine.Items as item
use Rattle.semantics.specs.SourceMachine.Items.{Item}
use Rattle.semantics.specs.SourceMachine.TermItems.{arguments}
use Rattle.semantics.specs.SourceMachine.StatementItems.{list_statements, all_stored}
use Rattle.semantics.specs.SourceMachine.Scopes.{open_scopes, past_loop, past_iteration}
use Rattle.interp_stack.specs.ItemViews.{bindings}

-- items in front, of which none is the end of a scope, of a turn or of a loop
pub data Plain : List Item → List Item → Type 0 where
  none : {xs : List Item} → Plain xs xs
  one : {i : Item} {xs ys : List Item} → (open_scopes (i ∷ xs) ≡ open_scopes xs) × (past_loop (i ∷ xs) ≡ past_loop xs) × (past_iteration (i ∷ xs) ≡ past_iteration xs) → Plain xs ys → Plain (i ∷ xs) ys

pub plain_scopes : {xs ys : List Item} → Plain xs ys → open_scopes xs ≡ open_scopes ys
plain_scopes none = refl
plain_scopes (one h r) = h.0 ∙ plain_scopes r

pub plain_loop : {xs ys : List Item} → Plain xs ys → past_loop xs ≡ past_loop ys
plain_loop none = refl
plain_loop (one h r) = h.1 ∙ plain_loop r

pub plain_turn : {xs ys : List Item} → Plain xs ys → past_iteration xs ≡ past_iteration ys
plain_turn none = refl
plain_turn (one h r) = h.2 ∙ plain_turn r

pub plain_arguments : (es : TermTrees) (ys : List Item) → Plain (arguments es ++ ys) ys
plain_arguments tree.End ys = none
plain_arguments (tree.More e es) ys = one (refl, refl, refl) (plain_arguments es ys)

pub plain_drops : (n : ℕ) (ys : List Item) → Plain (replicate n item.Drop ++ ys) ys
plain_drops zero ys = none
plain_drops (suc n) ys = one (refl, refl, refl) (plain_drops n ys)

pub plain_statements : (ss : List StatementTree) (ys : List Item) → Plain (list_statements ss ++ ys) ys
plain_statements [] ys = none
plain_statements (s ∷ ss) ys = one (refl, refl, refl) (plain_statements ss ys)

pub plain_bindings : (at : Place) (count : ℕ) (ns : List ℕ) (ys : List Item) → Plain (bindings at count ns ++ ys) ys
plain_bindings at count [] ys = none
plain_bindings at count (n ∷ ns) ys = one (refl, refl, refl) (one (refl, refl, refl) (plain_bindings at count ns ys))

pub plain_stores : (at : Place) (local : ℕ) (xs : List StoreTree) (ys : List Item) → Plain (all_stored at local xs ++ ys) ys
plain_stores at local [] ys = none
plain_stores at local (StoreValue offset e ∷ xs) ys = one (refl, refl, refl) (one (refl, refl, refl) (one (refl, refl, refl) (one (refl, refl, refl) (plain_stores at local xs ys))))
plain_stores at local (StoreCopy offset l ∷ xs) ys = one (refl, refl, refl) (one (refl, refl, refl) (one (refl, refl, refl) (one (refl, refl, refl) (plain_stores at local xs ys))))
plain_stores at local (StoreText offset room text ∷ xs) ys = one (refl, refl, refl) (plain_stores at local xs ys)
