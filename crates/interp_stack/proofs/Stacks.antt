-- Stacks with one entry more.
use Rattle.std.proofs.Common.{◌≡◌, Bool, true, false, ◌||◌, not, List, [], ◌∷◌, ◌++◌, refl, sym, ap, ◌∙◌, append_assoc}
use Rattle.std.proofs.lemmas.List.{reverse-append}
use Rattle.semantics.specs.SourceMachine.Items as item
use Rattle.semantics.specs.SourceMachine.Items.{Item}
use Rattle.semantics.specs.SourceMachine.TermItems.{if_used, left_if}
use Rattle.c_layout.specs.CheckedUnits.{UnitView}
use Rattle.interp_stack.specs.StackViews.{StackView, nothing_left, with_items, unless_used, on_item, newest_first, standing}
use Rattle.interp_stack.specs.declared.items.Item7.{Item7}

pub standing_none : (u : UnitView) → standing u [] ≡ nothing_left
unfolding standing
standing_none u = refl

pub standing_more : (u : UnitView) (xs : List Item7) (i : Item7) → standing u (xs ++ i ∷ []) ≡ on_item u i (standing u xs)
unfolding standing
standing_more u xs i = ap (newest_first u) (reverse-append xs (i ∷ []))

pub stacked : (u : UnitView) (xs ys : List Item7) (i : Item7) → ys ≡ xs ++ i ∷ [] → standing u ys ≡ on_item u i (standing u xs)
stacked u xs ys i e = ap (standing u) e ∙ standing_more u xs i

-- items in front of items
pub with_again : (xs ys : List Item) (s : StackView) → with_items xs (with_items ys s) ≡ with_items (xs ++ ys) s
with_again xs ys s = ap (λ is. record { items = is; yes = []; no = []; objects = [] }) (sym (append_assoc xs ys s.items))

-- a value that is not used is dropped
pub dropped : (used : Bool) (xs : List Item) (s : StackView) → with_items xs (unless_used used s) ≡ with_items (if_used used xs) s
dropped true xs s = refl
dropped false xs s = with_again xs (item.Drop ∷ []) s

pub left_dropped : (gives used : Bool) (xs : List Item) (s : StackView) → with_items xs (unless_used (used || not gives) s) ≡ with_items (left_if gives used xs) s
left_dropped true true xs s = refl
left_dropped true false xs s = dropped false xs s
left_dropped false true xs s = refl
left_dropped false false xs s = refl
