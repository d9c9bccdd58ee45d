-- The newest entry of a stack.
use Rattle.std.proofs.Common.{◌≡◌, ◌+◌, ◌-◌, true, List, [], ◌∷◌, ◌++◌, length, length-append, Option, Some, None, refl, ap, sym, ◌∙◌, arith}
use Rattle.std.specs.List.{slice_get}
use Rattle.std.specs.Option.{option_to_list}
use Rattle.std.proofs.lemmas.List.{append-nil}
use Rattle.c_layout.specs.CheckedUnits.{UnitView}
use Rattle.interp_stack.specs.StackViews.{standing}
use Rattle.interp_stack.specs.declared.items.Item7.{Item7}
use Rattle.interp_stack.proofs.Stacks.{stacked}
use Rattle.interp_statements.specs.Choices.{is_target}
use Rattle.interp_statements.proofs.Entries.{target_items}

last_at : {A : Type 0} (xs : List A) (x : A) → slice_get (xs ++ x ∷ []) (length xs) ≡ Some x
last_at [] x = refl
last_at (y ∷ xs) x = last_at xs x

pub last_is : {A : Type 0} (all xs : List A) (x : A) → all ≡ xs ++ x ∷ [] → slice_get all (length all - 1) ≡ Some x
last_is all xs x e =
    let before : length (xs ++ x ∷ []) - 1 ≡ length xs = omega (arith, length-append xs (x ∷ [])) in
    ap (λ l. slice_get l (length l - 1)) e ∙ ap (slice_get (xs ++ x ∷ [])) before ∙ last_at xs x

pub taken_target : (u : UnitView) (old new : List Item7) (taken : Option Item7) → old ≡ new ++ option_to_list taken → ((items : List Item7) (item : Item7) → old ≡ items ++ item ∷ [] → true ≡ is_target item) → (standing u new).items ≡ (standing u old).items
taken_target u old new None e target = sym (ap (λ xs. (standing u xs).items) (e ∙ append-nil new))
taken_target u old new (Some item) e target = sym (ap (λ s. s.items) (stacked u new old item e) ∙ target_items u item (standing u new) (sym (target new item e)))
