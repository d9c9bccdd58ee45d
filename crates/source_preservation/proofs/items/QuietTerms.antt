-- The items of terms that read memory and do not change it lead to what is known of their values.
use Rattle.std.proofs.Common.{◌≡◌, ℤ, pos, Bool, true, false, List, [], ◌∷◌, Option, inl, inr, refl, ap, sym, subst, ◌∙◌}
use Rattle.cc_base.specs.IntegerTypes.{wrap_into}
use Rattle.cc_base.specs.declared.diagnostics.Place.{Place}
use Rattle.cc_base.specs.declared.int_types.IntType.{IntType}
use Rattle.cc_base.specs.declared.integer_operators.UnOp.TheVariants.{Neg, Compl}
use Rattle.c_layout.specs.Types.{Ty, Int}
use Rattle.c_layout.specs.CheckedTrees as tree
use Rattle.c_layout.specs.CheckedTrees.{TermTree, Typed, Designates}
use Rattle.c_layout.specs.CheckedUnits.{UnitView, FunctionView}
use Rattle.c_layout.specs.declared.data_model.Model.{Model}
use Rattle.c_layout.specs.declared.syntax_tree.expressions.LogicalOp.TheVariants.{And, Or}
use Rattle.lower_templates.specs.Worklist.TermKinds.{meaning, integer_type, scalar_of}
use Rattle.lower_templates.specs.declared.worklist.term_kinds.OperatorMeaning.{OperatorMeaning}
use Rattle.lower_templates.specs.declared.worklist.term_kinds.OperatorMeaning.TheVariants as meant
use Rattle.cfg.specs.declared.machine_instructions.Scalar.TheVariants as of
use Rattle.semantics.specs.SourceMachine.Operations as op
use Rattle.semantics.specs.SourceMachine.Operations.{Operation}
use Rattle.semantics.specs.SourceMachine.Items as item
use Rattle.semantics.specs.SourceMachine.Items.{Item}
use Rattle.semantics.specs.SourceMachine.TermItems.{operating}
use Rattle.semantics.specs.SourceMachine.ConditionItems.{choice_of, truth_of, term_items}
use Rattle.source_preservation.specs.ValueTyping.Marks.{Mark, Exactly, Naming, Null, Loaded}
use Rattle.source_preservation.specs.ValueTyping.MarkOperations as marks
use Rattle.source_preservation.specs.ValueTyping.MarkOperations.{number_of_truth, IsKind, IsScalar, ConvertsTo, MarkOperates}
use Rattle.source_preservation.specs.WellTyped.ExactTerms.{is_true, Results, ExactTerm, NullTerm}
use Rattle.source_preservation.specs.WellTyped.WellTypedTerms.{SideTerm, Quiet}
use Rattle.source_preservation.specs.WellTyped.WellTypedItems.{quietly, named, Effect}
use Rattle.source_preservation.proofs.items.ExactOperands.{Right, both_right, both_failed, either_right, either_held, first_arm, second_arm}
use Rattle.source_items.proofs.stack_kinds.ItemWalks.{Through, Leads, leads_to}
use Rattle.source_preservation.proofs.items.Leading.{marks}
use Rattle.source_preservation.proofs.items.LeadingConditions.{exact_choice_through, exact_condition_through}

-- ---- types

is_scalar : (m : Model) (t : Ty) (kind : IntType) → t ≡ Int kind → IsKind m kind → IsScalar m (scalar_of t)
is_scalar m t kind is has = subst (λ t. IsScalar m (scalar_of t)) (sym is) has

pointer_scalar : (m : Model) (t : Ty) → scalar_of t ≡ of.Pointer → IsScalar m (scalar_of t)
pointer_scalar m t is = subst (IsScalar m) (sym is) tt

number_converts : (m : Model) (t : Ty) (kind : IntType) (k n : ℤ) → t ≡ Int kind → n ≡ wrap_into kind k → ConvertsTo m (scalar_of t) (Exactly k) (Exactly n)
number_converts m t kind k n is value = subst (λ t. ConvertsTo m (scalar_of t) (Exactly k) (Exactly n)) (sym is) (ap Exactly value)

null_converts : (m : Model) (t : Ty) → scalar_of t ≡ of.Pointer → ConvertsTo m (scalar_of t) Null Null
null_converts m t is = subst (λ s. ConvertsTo m s Null Null) (sym is) refl

zero_is_null : (m : Model) (t : Ty) → scalar_of t ≡ of.Pointer → ConvertsTo m (scalar_of t) (Exactly (pos 0)) Null
zero_is_null m t is = subst (λ s. ConvertsTo m s (Exactly (pos 0)) Null) (sym is) (refl, inl refl)

module _ (u : UnitView) (f : FunctionView) (called : Option Bool) where
  known : (e : TermTree) (n : ℤ) (rest : List Item) (ks : List Mark) → ExactTerm u.model e n → Effect u f called (item.Value e) rest ks (Exactly n ∷ ks)
  known e n rest ks exact = quietly (Exactly n) (inr (inl (n, exact, refl))) refl

  -- ---- operators

  constant_leads : (at : Place) (k n : ℤ) (ks : List Mark) → n ≡ k → Leads (marks u f called) (item.Do at (op.Constant k) ∷ []) ks (Exactly n ∷ ks)
  constant_leads at k n ks is rest = (Exactly n ∷ ks, (Exactly n, is, (ks, refl, refl)), refl)

  one_known : (a : TermTree) (k n : ℤ) (at : Place) (operation : Operation) (ks : List Mark) → ExactTerm u.model a k → MarkOperates u.model operation (Exactly k ∷ ks) (Exactly n ∷ ks) → Leads (marks u f called) (item.Value a ∷ (item.Do at operation ∷ [])) ks (Exactly n ∷ ks)
  one_known a k n at operation ks exact operates rest = (Exactly k ∷ ks, known a k (item.Do at operation ∷ rest) ks exact, (Exactly n ∷ ks, operates, refl))

  two_known : (a b : TermTree) (k l n : ℤ) (at : Place) (operation : Operation) (ks : List Mark) → ExactTerm u.model a k → ExactTerm u.model b l → MarkOperates u.model operation (Exactly l ∷ (Exactly k ∷ ks)) (Exactly n ∷ ks) → Leads (marks u f called) (item.Value a ∷ (item.Value b ∷ (item.Do at operation ∷ []))) ks (Exactly n ∷ ks)
  two_known a b k l n at operation ks one other operates rest = (Exactly k ∷ ks, known a k (item.Value b ∷ (item.Do at operation ∷ rest)) ks one, (Exactly l ∷ (Exactly k ∷ ks), known b l (item.Do at operation ∷ rest) (Exactly k ∷ ks) other, (Exactly n ∷ ks, operates, refl)))

  results : (sign : OperatorMeaning) (t : Ty) (k l n : ℤ) (ks : List Mark) → Results sign (integer_type t) k l n → MarkOperates u.model (operating sign t) (Exactly l ∷ (Exactly k ∷ ks)) (Exactly n ∷ ks)
  results (meant.Number sign) t k l n ks is = marks.Computes.exact k l n is (ks, refl, refl)
  results (meant.Truth rel) t k l n ks is = marks.Compares.exact k l (ks, refl, ap (λ n. Exactly n ∷ ks) is)

  truth_through : (b : Bool) (n : ℤ) (rest : List Item) (ks : List Mark) → n ≡ number_of_truth b → Through (marks u f called) (truth_of b) rest ks (Exactly n ∷ ks)
  truth_through b n rest ks is = (Exactly n ∷ ks, (Exactly n, is, refl), refl)

  -- a value that is true or false
  truth_chosen : (b : TermTree) (l n : ℤ) (rest : List Item) (ks : List Mark) → ExactTerm u.model b l → n ≡ number_of_truth (is_true l) → Through (marks u f called) (choice_of b (truth_of true) (truth_of false)) rest ks (Exactly n ∷ ks)
  truth_chosen b l n rest ks exact is = exact_choice_through u f called b l (truth_of true) (truth_of false) rest ks (Exactly n ∷ ks) exact (λ yes. truth_through true n rest ks (is ∙ ap number_of_truth yes)) (λ no. truth_through false n rest ks (is ∙ ap number_of_truth no))

  -- an operand of a conversion whose value is known quietly
  converted_leads : (a : TermTree) (t : Ty) (old new : Mark) (at : Place) (ks : List Mark) → Quiet u a old → IsScalar u.model (scalar_of t) → ConvertsTo u.model (scalar_of t) old new → Leads (marks u f called) (item.Value a ∷ (item.Do at (op.Convert (scalar_of t)) ∷ [])) ks (new ∷ ks)
  converted_leads a t old new at ks quiet scalar converts rest = (old ∷ ks, quietly old quiet refl, (new ∷ ks, (old, new, scalar, converts, (ks, refl, refl)), refl))

  -- ---- terms

  exact_leads : (e : TermTree) (n : ℤ) (ks : List Mark) → ExactTerm u.model e n → Leads (marks u f called) (term_items u true e) ks (Exactly n ∷ ks)
  exact_leads (Typed at t parens fixed (tree.Number k)) n ks exact = constant_leads at k n ks exact
  exact_leads (Typed at t parens fixed (tree.SizeofType size is_pointer)) n ks exact = constant_leads at (pos size) n ks exact
  exact_leads (Typed at t parens fixed (tree.Sizeof size operand is_pointer)) n ks exact = constant_leads at (pos size) n ks exact
  exact_leads (Typed at t parens fixed (tree.Convert sort a)) n ks exact = converted_leads a t (Exactly exact.1) (Exactly n) at ks (inr (inl (exact.1, exact.4, refl))) (is_scalar u.model t exact.0 exact.2 exact.3) (number_converts u.model t exact.0 exact.1 n exact.2 exact.5)
  exact_leads (Typed at t parens fixed (tree.Plus a)) n ks exact = λ rest. (Exactly n ∷ ks, known a n rest ks exact, refl)
  exact_leads (Typed at t parens fixed (tree.Minus a)) n ks exact = one_known a exact.0 n at (op.Unary Neg (integer_type t)) ks exact.1 (marks.ComputesOne.exact exact.0 n exact.2 (ks, refl, refl))
  exact_leads (Typed at t parens fixed (tree.Complement a)) n ks exact = one_known a exact.0 n at (op.Unary Compl (integer_type t)) ks exact.1 (marks.ComputesOne.exact exact.0 n exact.2 (ks, refl, refl))
  exact_leads (Typed at t parens fixed (tree.Not a)) n ks exact = one_known a exact.0 n at op.Not ks exact.1 (marks.Negates.exact exact.0 (ks, refl, ap (λ n. Exactly n ∷ ks) exact.2))
  exact_leads (Typed at t parens fixed (tree.Integer sign a b)) n ks exact = two_known a b exact.0 exact.1 n at (operating (meaning sign) t) ks exact.2 exact.3 (results (meaning sign) t exact.0 exact.1 n ks exact.4)
  exact_leads (Typed at t parens fixed (tree.Logical And a b)) n ks exact = λ rest. exact_choice_through u f called a exact.0 (choice_of b (truth_of true) (truth_of false)) (truth_of false) rest ks (Exactly n ∷ ks) exact.1 (λ yes. let r : Right u.model exact.0 n b = both_right u.model exact.0 n b exact.2 yes in truth_chosen b r.0 n rest ks r.1 r.2) (λ no. truth_through false n rest ks (both_failed u.model exact.0 n b exact.2 no))
  exact_leads (Typed at t parens fixed (tree.Logical Or a b)) n ks exact = λ rest. exact_choice_through u f called a exact.0 (truth_of true) (choice_of b (truth_of true) (truth_of false)) rest ks (Exactly n ∷ ks) exact.1 (λ yes. truth_through true n rest ks (either_held u.model exact.0 n b exact.2 yes)) (λ no. let r : Right u.model exact.0 n b = either_right u.model exact.0 n b exact.2 no in truth_chosen b r.0 n rest ks r.1 r.2)
  exact_leads (Typed at t parens fixed (tree.Conditional c a b)) n ks exact =
      let after : List Mark = Exactly n ∷ ks in
      λ rest. exact_condition_through u f called true c exact.0 (item.Value a ∷ (item.Hop ∷ [])) (item.Value b ∷ []) rest ks after exact.1 (λ yes. (after, known a n (item.Hop ∷ rest) ks (first_arm u.model exact.0 n a b exact.2 yes), (after, refl, refl))) (λ no. (after, known b n rest ks (second_arm u.model exact.0 n a b exact.2 no), refl))
  exact_leads e n ks exact = absurd exact

  null_leads : (e : TermTree) (ks : List Mark) → NullTerm u.model e → Leads (marks u f called) (term_items u true e) ks (Null ∷ ks)
  null_leads (Typed at t parens fixed (tree.Convert sort a)) ks null = elim null.1 [ inl other ↦ converted_leads a t Null Null at ks (inr (inr (other, refl))) (pointer_scalar u.model t null.0) (null_converts u.model t null.0) | inr zero ↦ converted_leads a t (Exactly (pos 0)) Null at ks (inr (inl (pos 0, zero, refl))) (pointer_scalar u.model t null.0) (zero_is_null u.model t null.0) ]
  null_leads e ks null = absurd null

  side_leads : (e : TermTree) (k : Mark) (ks : List Mark) → SideTerm u e k → Leads (marks u f called) (term_items u true e) ks (k ∷ ks)
  side_leads (Typed at t parens fixed (tree.Load (Designates place s wrapped (tree.Object o)))) k ks side = leads_to (marks u f called) (item.Address (Designates place s wrapped (tree.Object o)) ∷ (item.Do place (op.Load (scalar_of s)) ∷ [])) ks (Loaded (record { object = o; kind = scalar_of s }) ∷ ks) (k ∷ ks) (ap (λ k. k ∷ ks) (sym side.2)) (λ rest. (Naming o ∷ ks, named o refl side.0 refl, (Loaded (record { object = o; kind = scalar_of s }) ∷ ks, (side.1, marks.Loads.named (record { object = o; kind = scalar_of s }) refl (ks, refl, refl)), refl)))
  side_leads (Typed at t parens fixed (tree.Convert sort a)) k ks side = converted_leads a t side.1.0 k at ks (inl side.1.1) side.0 side.1.2
  side_leads e k ks side = absurd side

  pub quiet_leads : (e : TermTree) (k : Mark) (ks : List Mark) → Quiet u e k → Leads (marks u f called) (term_items u true e) ks (k ∷ ks)
  quiet_leads e k ks (inl side) = side_leads e k ks side
  quiet_leads e k ks (inr (inl exact)) = subst (λ k. Leads (marks u f called) (term_items u true e) ks (k ∷ ks)) (sym exact.2) (exact_leads e exact.0 ks exact.1)
  quiet_leads e k ks (inr (inr null)) = subst (λ k. Leads (marks u f called) (term_items u true e) ks (k ∷ ks)) (sym null.1) (null_leads e ks null.0)
