-- Terms that a look has the numbers of, and null pointer constants.
use Rattle.std.proofs.Common.{◌≡◌, ◌⊎◌, inl, inr, ℤ, pos, Bool, true, false, ◌||◌, cond, Option, Some, None, option_map, refl, sym, subst}
use Rattle.std.specs.Option.{option_and_then}
use Rattle.cc_base.specs.IntegerTypes.{wrap_into}
use Rattle.cc_base.specs.MachineArithmetic.{unary_result}
use Rattle.cc_base.specs.declared.int_types.IntType.{IntType}
use Rattle.cc_base.specs.declared.integer_operators.UnOp.TheVariants.{Neg, Compl}
use Rattle.c_layout.specs.Types.{Ty, Int, Pointer, Array, Struct, Void}
use Rattle.c_layout.specs.CheckedTrees as tree
use Rattle.c_layout.specs.CheckedTrees.{TermTree, Typed}
use Rattle.c_layout.specs.declared.data_model.Model.{Model}
use Rattle.c_layout.specs.declared.syntax_tree.expressions.LogicalOp.TheVariants.{And, Or}
use Rattle.lower_templates.specs.Worklist.TermKinds.{meaning, is_zero, integer_type, scalar_of}
use Rattle.lower_templates.specs.declared.worklist.term_kinds.OperatorMeaning.{OperatorMeaning}
use Rattle.lower_templates.specs.declared.worklist.term_kinds.OperatorMeaning.TheVariants as meant
use Rattle.source_preservation.specs.ValueTyping.MarkOperations.{IsKind, number_of_truth}
use Rattle.source_preservation.specs.WellTyped.ExactTerms.{is_true, Results, ExactTerm, NullTerm}
use Rattle.source_preservation.specs.Checks.LookedTypes.{is_kind, is_address}
use Rattle.source_preservation.specs.Checks.LookedTerms.{converted_in, negation, result, results, truth_of, logical, chosen, exact, is_exact_zero, is_null}
use Rattle.source_preservation.proofs.checks.Truths.{never, no_some, some_is, if_true, both, one_of}
use Rattle.source_preservation.proofs.checks.SameTypes.{kind_there, pointer_is}
use Rattle.source_preservation.proofs.checks.DecidedTests.{number_is}

-- ---- one operand

mapped : (A : ℤ → Type 0) (f : ℤ → ℤ) (o : Option ℤ) (n : ℤ) → ((k : ℤ) → o ≡ Some k → A k) → option_map f o ≡ Some n → (k : ℤ) × A k × (n ≡ f k)
mapped A f None n at h = no_some n h
mapped A f (Some k) n at h = (k, at k refl, sym (some_is (f k) n h))

followed : (A : ℤ → Type 0) (f : ℤ → Option ℤ) (o : Option ℤ) (n : ℤ) → ((k : ℤ) → o ≡ Some k → A k) → option_and_then f o ≡ Some n → (k : ℤ) × A k × (f k ≡ Some n)
followed A f None n at h = no_some n h
followed A f (Some k) n at h = (k, at k refl, h)

converted : (m : Model) (A : ℤ → Type 0) (t : Ty) (o : Option ℤ) (n : ℤ) → ((k : ℤ) → o ≡ Some k → A k) → converted_in m t o ≡ Some n → (kind : IntType) × (k : ℤ) × (t ≡ Int kind) × IsKind m kind × A k × (n ≡ wrap_into kind k)
converted m A (Int kind) (Some k) n at h = if_true (is_kind m kind) (Some (wrap_into kind k)) n (λ is e. (kind, k, refl, kind_there m kind is, at k refl, sym (some_is (wrap_into kind k) n e))) h
converted m A (Int kind) None n at h = no_some n h
converted m A (Pointer t) o n at h = no_some n h
converted m A (Array t l) o n at h = no_some n h
converted m A (Struct i) o n at h = no_some n h
converted m A Void o n at h = no_some n h

-- ---- two operands

resulted : (how : OperatorMeaning) (kind : IntType) (a b n : ℤ) → result how kind a b ≡ Some n → Results how kind a b n
resulted (meant.Number sign) kind a b n h = h
resulted (meant.Truth rel) kind a b n h = sym (some_is _ n h)

computed : (A B : ℤ → Type 0) (how : OperatorMeaning) (kind : IntType) (o p : Option ℤ) (n : ℤ) → ((k : ℤ) → o ≡ Some k → A k) → ((l : ℤ) → p ≡ Some l → B l) → results how kind o p ≡ Some n → (k : ℤ) × (l : ℤ) × A k × B l × Results how kind k l n
computed A B how kind None p n at behind h = no_some n h
computed A B how kind (Some k) None n at behind h = no_some n h
computed A B how kind (Some k) (Some l) n at behind h = (k, l, at k refl, behind l refl, resulted how kind k l n h)

-- the truth of the right operand
abbrev Second : (ℤ → Type 0) → ℤ → Type 0
Second B n = (l : ℤ) × B l × (n ≡ number_of_truth (is_true l))

second : (B : ℤ → Type 0) (p : Option ℤ) (n : ℤ) → ((l : ℤ) → p ≡ Some l → B l) → truth_of p ≡ Some n → Second B n
second B p n at h = mapped B (λ l. number_of_truth (is_true l)) p n at h

module _ (A B : ℤ → Type 0) (p : Option ℤ) (n : ℤ) (behind : (l : ℤ) → p ≡ Some l → B l) where
  both_hold : (o : Option ℤ) → ((k : ℤ) → o ≡ Some k → A k) → logical And o p ≡ Some n → (k : ℤ) × A k × (((is_true k ≡ false) × (n ≡ pos 0)) ⊎ ((is_true k ≡ true) × Second B n))
  both_hold None at h = no_some n h
  both_hold (Some k) at h = (k, at k refl, by (is_true k) refl h)
    where
      by : (b : Bool) → is_true k ≡ b → cond b (truth_of p) (Some (pos 0)) ≡ Some n → ((is_true k ≡ false) × (n ≡ pos 0)) ⊎ ((is_true k ≡ true) × Second B n)
      by true is h = inr (is, second B p n behind h)
      by false is h = inl (is, sym (some_is (pos 0) n h))

  either_holds : (o : Option ℤ) → ((k : ℤ) → o ≡ Some k → A k) → logical Or o p ≡ Some n → (k : ℤ) × A k × (((is_true k ≡ true) × (n ≡ pos 1)) ⊎ ((is_true k ≡ false) × Second B n))
  either_holds None at h = no_some n h
  either_holds (Some k) at h = (k, at k refl, by (is_true k) refl h)
    where
      by : (b : Bool) → is_true k ≡ b → cond b (Some (pos 1)) (truth_of p) ≡ Some n → ((is_true k ≡ true) × (n ≡ pos 1)) ⊎ ((is_true k ≡ false) × Second B n)
      by true is h = inl (is, sym (some_is (pos 1) n h))
      by false is h = inr (is, second B p n behind h)

-- ---- `?:`

selected : (C A B : ℤ → Type 0) (o a b : Option ℤ) (n : ℤ) → ((k : ℤ) → o ≡ Some k → C k) → ((k : ℤ) → a ≡ Some k → A k) → ((k : ℤ) → b ≡ Some k → B k) → chosen o a b ≡ Some n → (k : ℤ) × C k × (((is_true k ≡ true) × A n) ⊎ ((is_true k ≡ false) × B n))
selected C A B None a b n at first other h = no_some n h
selected C A B (Some k) a b n at first other h = (k, at k refl, by (is_true k) refl h)
  where
    by : (x : Bool) → is_true k ≡ x → cond x a b ≡ Some n → ((is_true k ≡ true) × A n) ⊎ ((is_true k ≡ false) × B n)
    by true is h = inl (is, first n h)
    by false is h = inr (is, other n h)

-- ---- terms

module _ (m : Model) where
  pub exact_is : (e : TermTree) (n : ℤ) → exact m e ≡ Some n → ExactTerm m e n
  exact_is (Typed at t parens fixed (tree.Number k)) n h = sym (some_is k n h)
  exact_is (Typed at t parens fixed (tree.SizeofType size is_pointer)) n h = sym (some_is (pos size) n h)
  exact_is (Typed at t parens fixed (tree.Sizeof size operand is_pointer)) n h = sym (some_is (pos size) n h)
  exact_is (Typed at t parens fixed (tree.Convert sort a)) n h = converted m (ExactTerm m a) t (exact m a) n (λ k e. exact_is a k e) h
  exact_is (Typed at t parens fixed (tree.Plus a)) n h = exact_is a n h
  exact_is (Typed at t parens fixed (tree.Minus a)) n h = followed (ExactTerm m a) (λ k. unary_result Neg (integer_type t) k) (exact m a) n (λ k e. exact_is a k e) h
  exact_is (Typed at t parens fixed (tree.Complement a)) n h = followed (ExactTerm m a) (λ k. unary_result Compl (integer_type t) k) (exact m a) n (λ k e. exact_is a k e) h
  exact_is (Typed at t parens fixed (tree.Not a)) n h = mapped (ExactTerm m a) negation (exact m a) n (λ k e. exact_is a k e) h
  exact_is (Typed at t parens fixed (tree.Integer sign a b)) n h = computed (ExactTerm m a) (ExactTerm m b) (meaning sign) (integer_type t) (exact m a) (exact m b) n (λ k e. exact_is a k e) (λ k e. exact_is b k e) h
  exact_is (Typed at t parens fixed (tree.Logical And a b)) n h = both_hold (ExactTerm m a) (ExactTerm m b) (exact m b) n (λ k e. exact_is b k e) (exact m a) (λ k e. exact_is a k e) h
  exact_is (Typed at t parens fixed (tree.Logical Or a b)) n h = either_holds (ExactTerm m a) (ExactTerm m b) (exact m b) n (λ k e. exact_is b k e) (exact m a) (λ k e. exact_is a k e) h
  exact_is (Typed at t parens fixed (tree.Conditional c a b)) n h = selected (ExactTerm m c) (ExactTerm m a) (ExactTerm m b) (exact m c) (exact m a) (exact m b) n (λ k e. exact_is c k e) (λ k e. exact_is a k e) (λ k e. exact_is b k e) h
  exact_is e n h = no_some n h

  pub zero_is : (e : TermTree) → is_exact_zero m e ≡ true → ExactTerm m e (pos 0)
  zero_is e h = by (exact m e) refl h
    where
      by : (o : Option ℤ) → exact m e ≡ o → is_zero o ≡ true → ExactTerm m e (pos 0)
      by None is h = never h
      by (Some n) is h = subst (λ k. ExactTerm m e k) (number_is n (pos 0) h) (exact_is e n is)

  pub null_is : (e : TermTree) → is_null m e ≡ true → NullTerm m e
  null_is (Typed at t parens fixed (tree.Convert sort a)) h = both (is_address t) (is_null m a || is_exact_zero m a) (pointer_is (scalar_of t)) (one_of (is_null m a) (is_exact_zero m a) (λ e. null_is a e) (zero_is a)) h
  null_is e h = never h
