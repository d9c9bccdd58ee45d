-- What is known at labels, from parts of their numbers.
use Rattle.std.proofs.Common.{◌≡◌, ◌≤◌, ◌<◌, ℕ, cond, nat_lt, arith, ap, ◌∙◌}
use Rattle.std.proofs.lemmas.Bool.{lt-ltb, le-ltb}
use Rattle.typed_lowering.specs.Conversions.WorkLaws.{Labelled}
use Rattle.typed_lowering.proofs.worklists.PlannedWorks.{Labels}

pub labelled_more : {from to : ℕ} {A B : Labels → Type 0} → ((labels : Labels) → A labels → B labels) → Labelled from to A → Labelled from to B
labelled_more more x = record { own = x.own; is = λ labels agree. more labels (x.is labels agree) }

-- whatever is known at labels
pub labelled_any : {from to : ℕ} {A : Labels → Type 0} (own : Labels) → ((labels : Labels) → A labels) → Labelled from to A
labelled_any own all = record { own = own; is = λ labels agree. all labels }

-- what is known at labels from a number on to another one
pub labelled_own : {from to : ℕ} (own : Labels) → Labelled from to (λ labels. (l : ℕ) → from ≤ l → l < to → labels l ≡ own l)
labelled_own own = record { own = own; is = λ labels agree. agree }

through : (a b c : ℕ) → a ≤ b → b ≤ c → a ≤ c
through a b c x y = omega (arith, x, y)

sooner : (a b c : ℕ) → a < b → b ≤ c → a < c
sooner a b c x y = omega (arith, x, y)

-- labels up to a number, and those from it on
pub labelled_both : {a c : ℕ} (b : ℕ) {A B : Labels → Type 0} → a ≤ b → b ≤ c → Labelled a b A → Labelled b c B → Labelled a c (λ labels. A labels × B labels)
labelled_both {a = a} {c = c} b less more x y = record {
  own = λ l. cond (nat_lt l b) (x.own l) (y.own l);
  is = λ labels agree. (
    x.is labels (λ l lo hi. agree l lo (sooner l b c hi more) ∙ ap (λ z. cond z (x.own l) (y.own l)) (lt-ltb l b hi)),
    y.is labels (λ l lo hi. agree l (through a b l less lo) hi ∙ ap (λ z. cond z (x.own l) (y.own l)) (le-ltb l b lo)),
  );
}
