-- Which operands of `&&`, `||` and `?:` are come to where the first one is known, and what their values say of the whole.
use Rattle.std.proofs.Common.{◌≡◌, ◌⊎◌, ℤ, pos, Bool, true, false, not, inl, inr, refl, ap, ◌∙◌}
use Rattle.std.specs.Ordering.{int_eq}
use Rattle.c_layout.specs.CheckedTrees.{TermTree}
use Rattle.c_layout.specs.declared.data_model.Model.{Model}
use Rattle.source_preservation.specs.ValueTyping.MarkOperations.{number_of_truth}
use Rattle.source_preservation.specs.WellTyped.ExactTerms.{is_true, ExactTerm}

pub never : {A : Type 0} (b : Bool) → b ≡ true → b ≡ false → A
never b one other = let no : ⊥ = cc in absurd no

true_truth : (b : Bool) → is_true (number_of_truth b) ≡ b
true_truth true = refl
true_truth false = refl

twice : (b : Bool) → b ≡ not (not b)
twice true = refl
twice false = refl

pub negation_is : (k n : ℤ) → n ≡ number_of_truth (int_eq k (pos 0)) → is_true n ≡ not (is_true k)
negation_is k n is = ap is_true is ∙ (true_truth (int_eq k (pos 0)) ∙ twice (int_eq k (pos 0)))

module _ (m : Model) (k n : ℤ) where
  -- a right operand that gives the truth value of the whole
  abbrev pub Right : TermTree → Type 0
  Right b = (l : ℤ) × ExactTerm m b l × (n ≡ number_of_truth (is_true l))

  pub right_is : (b : TermTree) (r : Right b) → is_true n ≡ is_true r.0
  right_is b r = ap is_true r.2 ∙ true_truth (is_true r.0)

  -- ---- `&&`

  abbrev pub Both : TermTree → Type 0
  Both b = ((is_true k ≡ false) × (n ≡ pos 0)) ⊎ ((is_true k ≡ true) × Right b)

  pub both_right : (b : TermTree) → Both b → is_true k ≡ true → Right b
  both_right b (inl d) holds = never (is_true k) holds d.0
  both_right b (inr d) holds = d.1

  pub both_failed : (b : TermTree) → Both b → is_true k ≡ false → n ≡ pos 0
  both_failed b (inl d) fails = d.1
  both_failed b (inr d) fails = never (is_true k) d.0 fails

  -- ---- `||`

  abbrev pub Either : TermTree → Type 0
  Either b = ((is_true k ≡ true) × (n ≡ pos 1)) ⊎ ((is_true k ≡ false) × Right b)

  pub either_right : (b : TermTree) → Either b → is_true k ≡ false → Right b
  either_right b (inl d) fails = never (is_true k) d.0 fails
  either_right b (inr d) fails = d.1

  pub either_held : (b : TermTree) → Either b → is_true k ≡ true → n ≡ pos 1
  either_held b (inl d) holds = d.1
  either_held b (inr d) holds = never (is_true k) holds d.0

  -- ---- `?:`

  abbrev pub Arms : TermTree → TermTree → Type 0
  Arms a b = ((is_true k ≡ true) × ExactTerm m a n) ⊎ ((is_true k ≡ false) × ExactTerm m b n)

  pub first_arm : (a b : TermTree) → Arms a b → is_true k ≡ true → ExactTerm m a n
  first_arm a b (inl d) holds = d.1
  first_arm a b (inr d) holds = never (is_true k) holds d.0

  pub second_arm : (a b : TermTree) → Arms a b → is_true k ≡ false → ExactTerm m b n
  second_arm a b (inl d) fails = never (is_true k) d.0 fails
  second_arm a b (inr d) fails = d.1
