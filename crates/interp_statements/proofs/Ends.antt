-- What is met behind a condition.
use Rattle.std.proofs.Common.{◌≡◌, Bool, true, false, List, [], ◌++◌, Option, Some, None, Result, Ok, Err, IfOk, ap, sym, subst, ◌∙◌}
use Rattle.c_layout.specs.CheckedUnits.{UnitView}
use Rattle.semantics.specs.SourceMachine.Items.{Item}
use Rattle.interp_stack.specs.StackViews.{StackView, standing}
use Rattle.interp_stack.specs.declared.items.Item7.{Item7}
use Rattle.interp_statements.specs.Choices.{followed, IsMet, Stays}

pub no_followed : (holds : Bool) (t : StackView) → (t.yes ≡ []) × (t.no ≡ []) → followed holds t ≡ t.items
no_followed true t none = ap (λ xs. xs ++ t.items) none.0
no_followed false t none = ap (λ xs. xs ++ t.items) none.1

pub no_some : {A : Type 0} (x : A) → Some x ≡ None → ⊥
no_some x e = cc

pub some_same : {A : Type 0} (x y : A) → Some x ≡ Some y → x ≡ y
some_same x y e = cc

pub met_item : {E : Type 0} (u : UnitView) (holds : Bool) (t : StackView) (result : Result (Option Bool) E) (new : List Item7) → (t.yes ≡ []) × (t.no ≡ []) → IfOk result (λ found. found ≡ None) → IfOk result (λ _. (standing u new).items ≡ t.items) → IfOk result (IsMet u (followed holds t) new)
met_item u holds t (Ok None) new none found pushed = pushed ∙ sym (no_followed holds t none)
met_item u holds t (Ok (Some b)) new none found pushed = absurd (no_some b found)
met_item u holds t (Err e) new none found pushed = tt

pub stays_item : {E : Type 0} (old : List Item7) (result : Result (Option Bool) E) (new : List Item7) → IfOk result (λ found. found ≡ None) → IfOk result (λ found. Stays old found new)
stays_item old (Ok None) new found = tt
stays_item old (Ok (Some b)) new found = absurd (no_some b found)
stays_item old (Err e) new found = tt

pub met_as : {E : Type 0} (u : UnitView) (result : Result (Option Bool) E) (new : List Item7) (items others : List Item) → items ≡ others → IfOk result (IsMet u items new) → IfOk result (IsMet u others new)
met_as u result new items others e h = let family : List Item → Type 0 = λ xs. IfOk result (IsMet u xs new) in subst family e h

pub met_alone : (u : UnitView) (found : Option Bool) (new : List Item7) (items others : List Item) → items ≡ others → IsMet u items new found → IsMet u others new found
met_alone u found new items others e h = let family : List Item → Type 0 = λ xs. IsMet u xs new found in subst family e h
