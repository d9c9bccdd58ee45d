-- What is found, one equation on.
use Rattle.std.proofs.Common.{◌≡◌, Bool, true, false, List, Option, Some, None, is_some, Result, Ok, Err, IfOk, refl, ap, sym, subst, ◌∙◌}
use Rattle.semantics.specs.SourceMachine.Items.{Item}
use Rattle.semantics.specs.SourceMachine.LabelSearch as search
use Rattle.semantics.specs.SourceMachine.LabelSearch.{Sought, first, here_or, inside_switch}
use Rattle.interp_stack.specs.StackViews.{StackView}
use Rattle.interp_statements.specs.LabelViews.{Finds}

pub finds_as : {E : Type 0} (result : Result (Unit {0}) E) (found other : Option (List Item)) (items : List Item) → found ≡ other → IfOk result (λ _. Finds found items) → IfOk result (λ _. Finds other items)
finds_as result found other items e h = let family : Option (List Item) → Type 0 = λ o. IfOk result (λ _. Finds o items) in subst family e h

pub finds_nothing : (other : Option (List Item)) (items : List Item) → None ≡ other → Finds other items
finds_nothing other items e = let family : Option (List Item) → Type 0 = λ o. Finds o items in subst family e tt

apart : false ≡ true → ⊥
apart e = cc

pub finds_here : {E : Type 0} (result : Result (Unit {0}) E) (new before : StackView) (here : Bool) (items : List Item) (later : Option (List Item)) → here ≡ true → before.items ≡ items → IfOk result (λ _. new ≡ before) → IfOk result (λ _. Finds (here_or here items later) new.items)
finds_here (Ok r) new before true items later h e pushed = ap (λ s. s.items) pushed ∙ e
finds_here (Ok r) new before false items later h e pushed = absurd (apart h)
finds_here (Err r) new before here items later h e pushed = tt

inside : (l : Sought) (found : Option (List Item)) (items : List Item) → Finds found items → Finds (inside_switch l found) items
inside (search.label n) found items h = h
inside (search.case n) found items h = tt
inside search.other found items h = tt

pub finds_inside : {E : Type 0} (l : Sought) (result : Result (Unit {0}) E) (found : Option (List Item)) (items : List Item) → IfOk result (λ _. Finds found items) → IfOk result (λ _. Finds (inside_switch l found) items)
finds_inside l (Ok r) found items h = inside l found items h
finds_inside l (Err r) found items h = tt

pub first_some : (a b : Option (List Item)) → true ≡ is_some a → a ≡ first a b
first_some (Some items) b h = refl
first_some None b h = absurd (apart (sym h))

pub first_none : (a b : Option (List Item)) → false ≡ is_some a → b ≡ first a b
first_none (Some items) b h = absurd (apart h)
first_none None b h = refl
