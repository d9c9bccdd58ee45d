-- What is known of a result that is Ok, one equation on.
use Rattle.std.proofs.Common.{◌≡◌, List, Result, Ok, Err, IfOk, ap, ◌∙◌}
use Rattle.semantics.specs.SourceMachine.Items.{Item}
use Rattle.interp_stack.specs.StackViews.{StackView}

pub goes_on : {E A : Type 0} (result : Result (Unit {0}) E) (x y z : A) → y ≡ z → IfOk result (λ _. x ≡ y) → IfOk result (λ _. x ≡ z)
goes_on (Ok r) x y z e h = h ∙ e
goes_on (Err r) x y z e h = tt

pub items_go_on : {E : Type 0} (result : Result (Unit {0}) E) (x y : StackView) (items : List Item) → y.items ≡ items → IfOk result (λ _. x ≡ y) → IfOk result (λ _. x.items ≡ items)
items_go_on (Ok r) x y items e h = ap (λ s. s.items) h ∙ e
items_go_on (Err r) x y items e h = tt
