-- The items of terms and lvalues lead to what is known of their values.
use Rattle.std.proofs.Common.{◌≡◌, ◌≤◌, ℕ, ◌+◌, ℤ, pos, Bool, true, false, cond, List, [], ◌∷◌, ◌++◌, Option, Some, inl, inr, refl, ap, sym, subst, ◌∙◌, arith}
use Rattle.cc_base.specs.IntegerTypes.{in_type}
use Rattle.cc_base.specs.declared.diagnostics.Place.{Place}
use Rattle.cc_base.specs.declared.int_types.IntType.{IntType}
use Rattle.cc_base.specs.declared.integer_operators.UnOp.{UnOp}
use Rattle.cc_base.specs.declared.integer_operators.UnOp.TheVariants.{Neg, Compl}
use Rattle.c_layout.specs.Types.{Ty, Int, same_kind}
use Rattle.c_layout.specs.CheckedTrees as tree
use Rattle.c_layout.specs.CheckedTrees.{TermTree, TermTrees, Typed, LvalueTree, Designates}
use Rattle.c_layout.specs.CheckedUnits.{UnitView, FunctionView}
use Rattle.c_layout.specs.declared.checked_tree.checked_terms.ObjectRef.{ObjectRef}
use Rattle.c_layout.specs.declared.library_functions.LibFn.{LibFn}
use Rattle.c_layout.specs.declared.syntax_tree.expressions.LogicalOp.{LogicalOp}
use Rattle.c_layout.specs.declared.syntax_tree.expressions.LogicalOp.TheVariants.{And, Or}
use Rattle.c_layout.specs.declared.syntax_tree.expressions.StepOp.{StepOp}
use Rattle.lower_conditions.specs.declared.branch_tests.NamedObject.{NamedObject}
use Rattle.cfg.specs.declared.machine_instructions.Scalar.TheVariants as of
use Rattle.lower_templates.specs.Worklist.TermKinds.{meaning, relation, step_operator, is_backward, scalar_of, integer_type, is_void, term_type, lvalue_at, lvalue_type}
use Rattle.lower_templates.specs.declared.worklist.term_kinds.OperatorMeaning.{OperatorMeaning}
use Rattle.lower_templates.specs.declared.worklist.term_kinds.OperatorMeaning.TheVariants as meant
use Rattle.lower_expressions.specs.Assignments.{keeps_old, number_operator}
use Rattle.lower_expressions.specs.Calls.{gives}
use Rattle.memory_model.specs.Effects.LibraryChecks.{most_size}
use Rattle.semantics.specs.SourceMachine.Operations as op
use Rattle.semantics.specs.SourceMachine.Operations.{LeftFirst, RightFirst, Operation, size_of}
use Rattle.semantics.specs.SourceMachine.Items as item
use Rattle.semantics.specs.SourceMachine.Items.{Item, NamedTest}
use Rattle.semantics.specs.SourceMachine.TermItems.{address_items, if_used, left_if, operating, order_of, integer_kind, converted, assignment, compound, compound_shift, kept, store_step, step, pointer_step, arguments, argument_count, library_items}
use Rattle.semantics.specs.SourceMachine.ConditionItems.{choice_of, truth_of, logical, arm, conditional, term_items}
use Rattle.source_items.specs.StackKinds.KindedTerms.{HasObject}
use Rattle.source_items.proofs.stack_kinds.Loops.{apart}
use Rattle.source_preservation.specs.ValueTyping.Marks.{Mark, Ranged, Exactly, Pointing, Naming, Loaded, Tested, mark_of_type, AreStable}
use Rattle.source_preservation.specs.ValueTyping.MarkOperations as marks
use Rattle.source_preservation.specs.ValueTyping.MarkOperations.{IsKind, HasTruths, CountsAs, null_test_of, with_given, MarkOperates, number_of_truth}
use Rattle.source_preservation.specs.WellTyped.ExactTerms.{ExactTerm}
use Rattle.source_preservation.specs.WellTyped.WellTypedTerms.{term_mark, lvalue_mark, IsInteger, IsTruth, IsScalarType, argument_marks, CallsFunction, CallsLibrary, Combines, Compounds, StepsIn, AddsTo, StoredTerm, ComparisonTerm, HasTests, WellTypedTerm, WellTypedPlace, WellTypedTerms}
use Rattle.source_preservation.specs.WellTyped.WellTypedItems.{Evaluates, by_type, quietly, Locates, NamesObject, left_marks, parameter_marks, Effect}
use Rattle.source_preservation.specs.WellTyped.WellTypedItems as items
use Rattle.c_types_rules.proofs.SameTypes.{kind_is}
use Rattle.source_preservation.proofs.items.TypeMarks.{zero_converts, pointer_order}
use Rattle.source_items.proofs.stack_kinds.ItemWalks.{with_value, Through, Leads, all_through, leads_both, leads_to, leads_if_used}
use Rattle.source_preservation.proofs.items.Leading.{marks, stable_above, valued}
use Rattle.source_preservation.proofs.items.LeadingArguments.{stacked, arguments_lead, stacked_reverse, stacked_parameters, parameters_counted, marks_counted}
use Rattle.source_preservation.proofs.items.LeadingConditions.{operand_evaluates, condition_through}
use Rattle.source_preservation.proofs.items.QuietTerms.{quiet_leads}

-- ---- types

own_kind : (u : UnitView) (t : Ty) (kind : IntType) → IsInteger u t kind → IsKind u.model (integer_type t)
own_kind u t kind is = subst (IsKind u.model) (sym (ap integer_type is.0)) is.1

own_mark : (t : Ty) (kind : IntType) → t ≡ Int kind → mark_of_type t ≡ Ranged (integer_type t)
own_mark t kind is = ap mark_of_type is ∙ ap Ranged (sym (ap integer_type is))

-- a term that assigns is not computed without memory
not_exact : (u : UnitView) (e : TermTree) (k : Mark) (n : ℤ) → StoredTerm u e k → ExactTerm u.model e n → ⊥
not_exact u (Typed at t parens fixed (tree.Convert sort a)) k n stored exact = not_exact u a stored.1.0 exact.1 stored.1.1 exact.4
not_exact u (Typed at t parens fixed (tree.Assign l a)) k n stored exact = exact
not_exact u e k n stored exact = stored

module _ (u : UnitView) (f : FunctionView) (called : Option Bool) where
  -- ---- lvalues

  placed : (l : LvalueTree) (rest : List Item) (ks : List Mark) → WellTypedPlace u l → AreStable ks → Effect u f called (item.Address l) rest ks (Pointing ∷ ks)
  placed l rest ks well_typed stable = items.Locates.any well_typed stable refl

  nothing_small : 0 ≤ most_size u.model
  nothing_small = omega arith

  place_leads : (l : LvalueTree) (ks : List Mark) → WellTypedPlace u l → AreStable ks → Leads (marks u f called) (address_items u l) ks (Pointing ∷ ks)
  place_leads (Designates at t parens (tree.Object o)) ks well_typed stable rest = (Pointing ∷ ks, (well_typed, items.PointsInto.any nothing_small refl), refl)
  place_leads (Designates at t parens (tree.Literal n)) ks well_typed stable rest = (Pointing ∷ ks, (well_typed, refl), refl)
  place_leads (Designates at t parens (tree.Target e)) ks well_typed stable rest = (Pointing ∷ ks, valued u f called e Pointing rest ks well_typed.0 well_typed.1 stable, refl)
  place_leads (Designates at t parens (tree.Member outer offset)) ks well_typed stable rest = (Pointing ∷ ks, placed outer (item.Do at (op.Narrow offset (size_of u t)) ∷ rest) ks well_typed stable, (Pointing ∷ ks, (ks, refl, refl), refl))
  place_leads (Designates at t parens (tree.Copied to from)) ks well_typed stable rest =
      let copy : Item = item.Do (lvalue_at to) (op.Copy (lvalue_type to)) in
      (Pointing ∷ ks, placed to (item.Address from ∷ (copy ∷ rest)) ks well_typed.0 stable, (Pointing ∷ (Pointing ∷ ks), placed from (copy ∷ rest) (Pointing ∷ ks) well_typed.1 (refl, stable), (Pointing ∷ ks, (ks, stable, refl, refl), refl)))
  place_leads (Designates at t parens (tree.Then left right)) ks well_typed stable rest = (ks, (well_typed.0, stable, refl), (Pointing ∷ ks, placed right rest ks well_typed.1 stable, refl))

  name_leads : (l : LvalueTree) (o : ObjectRef) (ks : List Mark) → NamesObject l o → HasObject u o → Leads (marks u f called) (address_items u l) ks (Naming o ∷ ks)
  name_leads (Designates at t parens (tree.Object p)) o ks names has = λ rest. (Naming o ∷ ks, (subst (HasObject u) (sym names) has, items.PointsInto.whole refl (ap (λ p. Naming p ∷ ks) (sym names))), refl)
  name_leads l o ks names has = absurd names

  pub address_leads : (l : LvalueTree) (before after : List Mark) → Locates u l before after → Leads (marks u f called) (address_items u l) before after
  address_leads l before after (items.Locates.any well_typed stable is) = leads_to (marks u f called) (address_items u l) before (Pointing ∷ before) after (sym is) (place_leads l before well_typed stable)
  address_leads l before after (items.Locates.named o names has is) = leads_to (marks u f called) (address_items u l) before (Naming o ∷ before) after (sym is) (name_leads l o before names has)

  -- ---- operators

  one_operand : (a : TermTree) (k m : Mark) (at : Place) (operation : Operation) (ks : List Mark) → WellTypedTerm u true a → term_mark a ≡ k → AreStable ks → MarkOperates u.model operation (k ∷ ks) (m ∷ ks) → Leads (marks u f called) (item.Value a ∷ (item.Do at operation ∷ [])) ks (m ∷ ks)
  one_operand a k m at operation ks well_typed is stable operates rest = (k ∷ ks, valued u f called a k (item.Do at operation ∷ rest) ks well_typed is stable, (m ∷ ks, operates, refl))

  two_operands : (a b : TermTree) (j k m : Mark) (at : Place) (operation : Operation) (ks : List Mark) → WellTypedTerm u true a → term_mark a ≡ j → WellTypedTerm u true b → term_mark b ≡ k → AreStable ks → MarkOperates u.model operation (k ∷ (j ∷ ks)) (m ∷ ks) → Leads (marks u f called) (item.Value a ∷ (item.Value b ∷ (item.Do at operation ∷ []))) ks (m ∷ ks)
  two_operands a b j k m at operation ks one is_j other is_k stable operates rest =
      let above : AreStable (j ∷ ks) = subst (λ j. AreStable (j ∷ ks)) is_j (stable_above a ks stable) in
      (j ∷ ks, valued u f called a j (item.Value b ∷ (item.Do at operation ∷ rest)) ks one is_j stable, (k ∷ (j ∷ ks), valued u f called b k (item.Do at operation ∷ rest) (j ∷ ks) other is_k above, (m ∷ ks, operates, refl)))

  unary_leads : (a : TermTree) (sign : UnOp) (t : Ty) (at : Place) (ks : List Mark) → WellTypedTerm u true a → term_type a ≡ t → (kind : IntType) × IsInteger u t kind → AreStable ks → Leads (marks u f called) (item.Value a ∷ (item.Do at (op.Unary sign (integer_type t)) ∷ [])) ks (mark_of_type t ∷ ks)
  unary_leads a sign t at ks well_typed is integer stable =
      let kind : IntType = integer_type t in
      let mark : mark_of_type t ≡ Ranged kind = own_mark t integer.0 integer.1.0 in
      leads_to (marks u f called) (item.Value a ∷ (item.Do at (op.Unary sign kind) ∷ [])) ks (Ranged kind ∷ ks) (mark_of_type t ∷ ks) (ap (λ k. k ∷ ks) (sym mark)) (one_operand a (Ranged kind) (Ranged kind) at (op.Unary sign kind) ks well_typed (ap mark_of_type is ∙ mark) stable (marks.ComputesOne.ranged (own_kind u t integer.0 integer.1) (ks, refl, refl)))

  integer_leads : (a b : TermTree) (sign : OperatorMeaning) (t : Ty) (at : Place) (ks : List Mark) → WellTypedTerm u true a → WellTypedTerm u true b → Combines u sign (term_type a) (term_type b) t → AreStable ks → Leads (marks u f called) (item.Value a ∷ (item.Value b ∷ (item.Do at (operating sign t) ∷ []))) ks (mark_of_type t ∷ ks)
  integer_leads a b (meant.Number sign) t at ks one other combines stable =
      let kind : IntType = combines.0 in
      let family : Ty → Type 0 = λ t. Leads (marks u f called) (item.Value a ∷ (item.Value b ∷ (item.Do at (operating (meant.Number sign) t) ∷ []))) ks (mark_of_type t ∷ ks) in
      subst family (sym combines.2.0) (two_operands a b (Ranged kind) (Ranged combines.1) (Ranged kind) at (op.Binary LeftFirst sign kind) ks one (ap mark_of_type combines.3) other (ap mark_of_type combines.4) stable (marks.Computes.ranged combines.1 combines.2.1 combines.5 (ks, refl, refl)))
  integer_leads a b (meant.Truth rel) t at ks one other combines stable =
      let truth : IsTruth t = combines.4 in
      let items : List Item = item.Value a ∷ (item.Value b ∷ (item.Do at (op.Compare rel) ∷ [])) in
      leads_to (marks u f called) items ks (Ranged truth.0 ∷ ks) (mark_of_type t ∷ ks) (ap (λ t. mark_of_type t ∷ ks) (sym truth.1)) (two_operands a b (Ranged combines.0) (Ranged combines.1) (Ranged truth.0) at (op.Compare rel) ks one (ap mark_of_type combines.2) other (ap mark_of_type combines.3) stable (marks.Compares.ranged combines.0 combines.1 truth.0 truth.2 (ks, refl, refl)))

  shift_leads : (a b : TermTree) (back : Bool) (size : ℕ) (at : Place) (ks : List Mark) → WellTypedTerm u true a → WellTypedTerm u true b → AddsTo (term_type a) (term_type b) → AreStable ks → Leads (marks u f called) (item.Value a ∷ (item.Value b ∷ (item.Do at (op.Shift (order_of (term_type a)) size back) ∷ []))) ks (Pointing ∷ ks)
  shift_leads a b back size at ks one other (inl adds) stable = subst (λ order. Leads (marks u f called) (item.Value a ∷ (item.Value b ∷ (item.Do at (op.Shift order size back) ∷ []))) ks (Pointing ∷ ks)) (sym (pointer_order (term_type a) adds.0)) (two_operands a b Pointing (Ranged adds.1.0) Pointing at (op.Shift LeftFirst size back) ks one adds.0 other (ap mark_of_type adds.1.1) stable (adds.1.0, (ks, refl, refl)))
  shift_leads a b back size at ks one other (inr adds) stable = subst (λ t. Leads (marks u f called) (item.Value a ∷ (item.Value b ∷ (item.Do at (op.Shift (order_of t) size back) ∷ []))) ks (Pointing ∷ ks)) (sym adds.0.1) (two_operands a b (Ranged adds.0.0) Pointing Pointing at (op.Shift RightFirst size back) ks one (ap mark_of_type adds.0.1) other adds.1 stable (adds.0.0, (ks, refl, refl)))

  -- ---- assignments and steps

  converted_leads : (at : Place) (old new : IntType) (ks : List Mark) → IsKind u.model new → Leads (marks u f called) (converted at old new) (Ranged old ∷ ks) (Ranged new ∷ ks)
  converted_leads at old new ks has = by (same_kind old new) refl
    where
      by : (b : Bool) → same_kind old new ≡ b → Leads (marks u f called) (cond b [] (item.Do at (op.Convert (of.Int new)) ∷ [])) (Ranged old ∷ ks) (Ranged new ∷ ks)
      by true is rest = ap (λ kind. Ranged kind ∷ ks) (kind_is old new is)
      by false is rest = (Ranged new ∷ ks, (Ranged old, Ranged new, has, refl, (ks, refl, refl)), refl)

  assignment_leads : (l : LvalueTree) (a : TermTree) (ks : List Mark) → WellTypedPlace u l → WellTypedTerm u true a → IsScalarType u (lvalue_type l) → term_mark a ≡ lvalue_mark l → AreStable ks → Leads (marks u f called) (assignment l a) ks (lvalue_mark l ∷ ks)
  assignment_leads l a ks place well_typed scalar is stable rest =
      let store : Item = item.Do (lvalue_at l) (op.Store (scalar_of (lvalue_type l))) in
      (Pointing ∷ ks, placed l (item.Value a ∷ (store ∷ rest)) ks place stable, (lvalue_mark l ∷ (Pointing ∷ ks), valued u f called a (lvalue_mark l) (store ∷ rest) (Pointing ∷ ks) well_typed is (refl, stable), (lvalue_mark l ∷ ks, (scalar, marks.Stores.any (ks, stable, refl, refl)), refl)))

  compound_leads : (at : Place) (sign : OperatorMeaning) (sort count : IntType) (l : LvalueTree) (a : TermTree) (ks : List Mark) → WellTypedPlace u l → WellTypedTerm u true a → IsKind u.model (integer_kind l) → IsKind u.model sort → term_mark a ≡ Ranged count → CountsAs (number_operator sign) sort count → AreStable ks → Leads (marks u f called) (compound at sign sort l a) ks (Ranged (integer_kind l) ∷ ks)
  compound_leads at sign sort count l a ks place well_typed has_old has_new is counts stable =
      let own : IntType = integer_kind l in
      let store : List Item = item.Do (lvalue_at l) (op.Store (of.Int own)) ∷ [] in
      let back : Leads (marks u f called) (converted at sort own ++ store) (Ranged sort ∷ (Pointing ∷ ks)) (Ranged own ∷ ks) = leads_both (marks u f called) (converted at sort own) store (Ranged sort ∷ (Pointing ∷ ks)) (Ranged own ∷ (Pointing ∷ ks)) (Ranged own ∷ ks) (converted_leads at sort own (Pointing ∷ ks) has_old) (λ rest. (Ranged own ∷ ks, (has_old, marks.Stores.any (ks, stable, refl, refl)), refl)) in
      let both : List Item = item.Do at (op.Binary RightFirst (number_operator sign) sort) ∷ (converted at sort own ++ store) in
      let done : Leads (marks u f called) both (Ranged sort ∷ (Ranged count ∷ (Pointing ∷ ks))) (Ranged own ∷ ks) = λ rest. (Ranged sort ∷ (Pointing ∷ ks), marks.Computes.ranged count has_new counts (Pointing ∷ ks, refl, refl), back rest) in
      let there : Leads (marks u f called) (converted at own sort ++ both) (Ranged own ∷ (Ranged count ∷ (Pointing ∷ ks))) (Ranged own ∷ ks) = leads_both (marks u f called) (converted at own sort) both (Ranged own ∷ (Ranged count ∷ (Pointing ∷ ks))) (Ranged sort ∷ (Ranged count ∷ (Pointing ∷ ks))) (Ranged own ∷ ks) (converted_leads at own sort (Ranged count ∷ (Pointing ∷ ks)) has_new) done in
      λ rest. (Pointing ∷ ks, items.Locates.any place stable refl, (Ranged count ∷ (Pointing ∷ ks), by_type well_typed (refl, stable) (ap (λ k. k ∷ (Pointing ∷ ks)) (sym is)), (Ranged own ∷ (Ranged count ∷ (Pointing ∷ ks)), (Ranged count, has_old, (ks, refl, refl)), there rest)))

  compound_shift_leads : (at : Place) (back : Bool) (size : ℕ) (count : IntType) (l : LvalueTree) (a : TermTree) (ks : List Mark) → WellTypedPlace u l → WellTypedTerm u true a → term_mark a ≡ Ranged count → AreStable ks → Leads (marks u f called) (compound_shift at back size l a) ks (Pointing ∷ ks)
  compound_shift_leads at back size count l a ks place well_typed is stable rest = (Pointing ∷ ks, items.Locates.any place stable refl, (Ranged count ∷ (Pointing ∷ ks), by_type well_typed (refl, stable) (ap (λ k. k ∷ (Pointing ∷ ks)) (sym is)), (Pointing ∷ (Ranged count ∷ (Pointing ∷ ks)), (Ranged count, tt, (ks, refl, refl)), (Pointing ∷ (Pointing ∷ ks), (count, (Pointing ∷ ks, refl, refl)), (Pointing ∷ ks, (tt, marks.Stores.any (ks, stable, refl, refl)), refl)))))

  -- an old value that is kept lies below the new one
  abbrev below_new : Bool → Mark → List Mark → List Mark
  below_new true k ks = k ∷ (Pointing ∷ ks)
  below_new false k ks = Pointing ∷ ks

  kept_leads : (keeps : Bool) (k : Mark) (ks : List Mark) → Leads (marks u f called) (kept keeps) (k ∷ (Pointing ∷ ks)) (k ∷ below_new keeps k ks)
  kept_leads true k ks rest = (k ∷ (k ∷ (Pointing ∷ ks)), (k, Pointing ∷ ks, refl, refl), refl)
  kept_leads false k ks rest = refl

  number_stored : (l : LvalueTree) (sort : IntType) (keeps : Bool) (ks : List Mark) → IsKind u.model sort → AreStable ks → Leads (marks u f called) (store_step l (of.Int sort) keeps) (Ranged sort ∷ below_new keeps (Ranged sort) ks) (Ranged sort ∷ ks)
  number_stored l sort true ks has stable rest = (Ranged sort ∷ ks, (Ranged sort, has, refl, (ks, stable, refl, refl)), refl)
  number_stored l sort false ks has stable rest = (Ranged sort ∷ ks, (has, marks.Stores.any (ks, stable, refl, refl)), refl)

  pointer_stored : (l : LvalueTree) (keeps : Bool) (ks : List Mark) → AreStable ks → Leads (marks u f called) (store_step l of.Pointer keeps) (Pointing ∷ below_new keeps Pointing ks) (Pointing ∷ ks)
  pointer_stored l true ks stable rest = (Pointing ∷ ks, (Pointing, tt, refl, (ks, stable, refl, refl)), refl)
  pointer_stored l false ks stable rest = (Pointing ∷ ks, (tt, marks.Stores.any (ks, stable, refl, refl)), refl)

  step_leads : (at : Place) (sign : StepOp) (sort : IntType) (l : LvalueTree) (keeps : Bool) (ks : List Mark) → WellTypedPlace u l → IsKind u.model (integer_kind l) → IsKind u.model sort → AreStable ks → Leads (marks u f called) (step at sign sort l keeps) ks (Ranged (integer_kind l) ∷ ks)
  step_leads at sign sort l keeps ks place has_old has_new stable =
      let own : IntType = integer_kind l in
      let below : List Mark = below_new keeps (Ranged own) ks in
      let store : List Item = store_step l (of.Int own) keeps in
      let back : Leads (marks u f called) (converted at sort own ++ store) (Ranged sort ∷ below) (Ranged own ∷ ks) = leads_both (marks u f called) (converted at sort own) store (Ranged sort ∷ below) (Ranged own ∷ below) (Ranged own ∷ ks) (converted_leads at sort own below has_old) (number_stored l own keeps ks has_old stable) in
      let both : List Item = item.Do at (op.BinaryByOne (step_operator sign) sort) ∷ (converted at sort own ++ store) in
      let done : Leads (marks u f called) both (Ranged sort ∷ below) (Ranged own ∷ ks) = λ rest. (Ranged sort ∷ below, (has_new, (below, refl, refl)), back rest) in
      let there : Leads (marks u f called) (converted at own sort ++ both) (Ranged own ∷ below) (Ranged own ∷ ks) = leads_both (marks u f called) (converted at own sort) both (Ranged own ∷ below) (Ranged sort ∷ below) (Ranged own ∷ ks) (converted_leads at own sort below has_new) done in
      λ rest. (Pointing ∷ ks, items.Locates.any place stable refl, (Ranged own ∷ (Pointing ∷ ks), (has_old, (ks, refl, refl)), leads_both (marks u f called) (kept keeps) _ (Ranged own ∷ (Pointing ∷ ks)) (Ranged own ∷ below) (Ranged own ∷ ks) (kept_leads keeps (Ranged own) ks) there rest))

  pointer_step_leads : (at : Place) (sign : StepOp) (size : ℕ) (l : LvalueTree) (keeps : Bool) (ks : List Mark) → WellTypedPlace u l → AreStable ks → Leads (marks u f called) (pointer_step at sign size l keeps) ks (Pointing ∷ ks)
  pointer_step_leads at sign size l keeps ks place stable =
      let below : List Mark = below_new keeps Pointing ks in
      let done : Leads (marks u f called) (item.Do at (op.ShiftByOne size (is_backward sign)) ∷ store_step l of.Pointer keeps) (Pointing ∷ below) (Pointing ∷ ks) = λ rest. (Pointing ∷ below, (below, refl, refl), pointer_stored l keeps ks stable rest) in
      λ rest. (Pointing ∷ ks, items.Locates.any place stable refl, (Pointing ∷ (Pointing ∷ ks), (tt, (ks, refl, refl)), leads_both (marks u f called) (kept keeps) _ (Pointing ∷ (Pointing ∷ ks)) (Pointing ∷ below) (Pointing ∷ ks) (kept_leads keeps Pointing ks) done rest))

  -- ---- choices

  choice_through : (e : TermTree) (held failed rest : List Item) (ks after : List Mark) → WellTypedTerm u true e → AreStable ks → Through (marks u f called) held rest ks after → Through (marks u f called) failed rest ks after → Through (marks u f called) (choice_of e held failed) rest ks after
  choice_through e held failed rest ks after well_typed stable one other = (term_mark e ∷ ks, by_type well_typed stable refl, (after, (term_mark e, ks, refl, (λ may. all_through (marks u f called) held rest ks after one), (λ may. all_through (marks u f called) failed rest ks after other)), refl))

  truth_in : (b : Bool) (kind : IntType) → HasTruths kind → in_type kind (number_of_truth b) ≡ true
  truth_in true kind has = has.one
  truth_in false kind has = has.zero

  truth_through : (b : Bool) (kind : IntType) (rest : List Item) (ks : List Mark) → HasTruths kind → Through (marks u f called) (truth_of b) rest ks (Ranged kind ∷ ks)
  truth_through b kind rest ks has = (Ranged kind ∷ ks, (Ranged kind, truth_in b kind has, refl), refl)

  logical_leads : (sign : LogicalOp) (a b : TermTree) (kind : IntType) (ks : List Mark) → WellTypedTerm u true a → WellTypedTerm u true b → HasTruths kind → AreStable ks → Leads (marks u f called) (logical sign a b) ks (Ranged kind ∷ ks)
  logical_leads And a b kind ks one other has stable rest = choice_through a (choice_of b (truth_of true) (truth_of false)) (truth_of false) rest ks (Ranged kind ∷ ks) one stable (choice_through b (truth_of true) (truth_of false) rest ks (Ranged kind ∷ ks) other stable (truth_through true kind rest ks has) (truth_through false kind rest ks has)) (truth_through false kind rest ks has)
  logical_leads Or a b kind ks one other has stable rest = choice_through a (truth_of true) (choice_of b (truth_of true) (truth_of false)) rest ks (Ranged kind ∷ ks) one stable (truth_through true kind rest ks has) (choice_through b (truth_of true) (truth_of false) rest ks (Ranged kind ∷ ks) other stable (truth_through true kind rest ks has) (truth_through false kind rest ks has))

  armed : (used : Bool) (e : TermTree) (k : Mark) (rest : List Item) (ks : List Mark) → WellTypedTerm u used e → term_mark e ≡ k → AreStable ks → Effect u f called (arm used e) rest ks (with_value used k ks)
  armed true e k rest ks well_typed is stable = valued u f called e k rest ks well_typed is stable
  armed false e k rest ks well_typed is stable = (well_typed, stable, refl)

  conditional_leads : (used : Bool) (c a b : TermTree) (k : Mark) (ks : List Mark) → WellTypedTerm u true c → HasTests u true c → WellTypedTerm u used a → WellTypedTerm u used b → term_mark a ≡ k → term_mark b ≡ k → AreStable ks → Leads (marks u f called) (conditional u used c a b) ks (with_value used k ks)
  conditional_leads used c a b k ks test tested one other is_a is_b stable rest =
      let after : List Mark = with_value used k ks in
      condition_through u f called true c (arm used a ∷ (item.Hop ∷ [])) (arm used b ∷ []) rest ks after test tested stable (after, armed used a k (item.Hop ∷ rest) ks one is_a stable, (after, refl, refl)) (after, armed used b k rest ks other is_b stable, refl)

  -- ---- calls

  module _ (t : Ty) (at : Place) (args : TermTrees) (ks : List Mark) (well_typed : WellTypedTerms u args) (stable : AreStable ks) where
    module _ (g : ℕ) (used is_used : Bool) (calls : CallsFunction u used is_used t g args) where
      counted : argument_count args ≡ calls.function.parameters
      counted = let none : argument_count args ≡ 0 + argument_count args = omega arith in none ∙ parameters_counted calls.function 0 args calls.arguments

      taken_by : stacked args ks ≡ parameter_marks calls.function (argument_count args) ++ ks
      taken_by = stacked_parameters calls.function 0 args ks calls.arguments ∙ ap (λ n. parameter_marks calls.function n ++ ks) (sym counted)

      invoked : (b : Bool) → Leads (marks u f called) (arguments args ++ item.Invoke at g (argument_count args) b ∷ []) ks (left_marks calls.function (Some b) ++ ks)
      invoked b =
          let after : List Mark = left_marks calls.function (Some b) ++ ks in
          leads_both (marks u f called) (arguments args) (item.Invoke at g (argument_count args) b ∷ []) ks (stacked args ks) after (arguments_lead u f called args ks well_typed stable) (λ rest. (after, record { function = calls.function; below = ks; is = calls.is; counted = counted; stable = stable; taken = taken_by; given = refl }, refl))

    nothing_left : (v : Bool) → cond v [] [] ++ ks ≡ ks
    nothing_left true = refl
    nothing_left false = refl

    call_leads : (g : ℕ) (used is_used : Bool) → CallsFunction u used is_used t g args → Leads (marks u f called) (left_if is_used used (arguments args ++ item.Invoke at g (argument_count args) is_used ∷ [])) ks (with_value used (mark_of_type t) ks)
    call_leads g used true calls =
        let items : List Item = arguments args ++ item.Invoke at g (argument_count args) true ∷ [] in
        let one : left_marks calls.function (Some true) ++ ks ≡ mark_of_type calls.function.returns ∷ ks = ap (λ v. cond v [] (mark_of_type calls.function.returns ∷ []) ++ ks) (calls.result refl).0 in
        leads_if_used (marks u f called) used (mark_of_type t) ks items (λ rest. (mark_of_type t, refl)) (leads_to (marks u f called) items ks (left_marks calls.function (Some true) ++ ks) (mark_of_type t ∷ ks) (one ∙ ap (λ k. k ∷ ks) (sym (calls.result refl).1)) (invoked g used true calls true))
    call_leads g true false calls = absurd (apart (calls.given refl))
    call_leads g false false calls = leads_to (marks u f called) (arguments args ++ item.Invoke at g (argument_count args) false ∷ []) ks (left_marks calls.function (Some false) ++ ks) ks (nothing_left (is_void calls.function.returns)) (invoked g false false calls false)

    library_called : (used : Bool) (function : LibFn) (allocated : Option Ty) → CallsLibrary u used t function args → Leads (marks u f called) (library_items at function args allocated) ks (with_given function (mark_of_type t) ks)
    library_called used function allocated calls =
        let after : List Mark = with_given function (mark_of_type t) ks in
        leads_both (marks u f called) (arguments args) (item.Do at (op.Library function (argument_count args) allocated) ∷ []) ks (stacked args ks) after (arguments_lead u f called args ks well_typed stable) (λ rest. (after, record { arguments = argument_marks args; kinds = calls.kinds; below = ks; result = mark_of_type t; stable = stable; counted = marks_counted args; are = calls.are; accepts = calls.accepts; taken = stacked_reverse args ks; result_is = calls.result; given = refl }, refl))

    library_leads : (used : Bool) (function : LibFn) (allocated : Option Ty) → CallsLibrary u used t function args → Leads (marks u f called) (left_if (gives function) used (library_items at function args allocated)) ks (with_value used (mark_of_type t) ks)
    library_leads used function allocated calls = by (gives function) refl used calls.given
      where
        items : List Item
        items = library_items at function args allocated

        left : (b : Bool) → gives function ≡ b → with_given function (mark_of_type t) ks ≡ cond b (mark_of_type t ∷ ks) ks
        left b is = ap (λ b. cond b (mark_of_type t ∷ ks) ks) is

        by : (b : Bool) → gives function ≡ b → (asked : Bool) → (asked ≡ true → gives function ≡ true) → Leads (marks u f called) (left_if b asked items) ks (with_value asked (mark_of_type t) ks)
        by true is asked given = leads_if_used (marks u f called) asked (mark_of_type t) ks items (λ rest. (mark_of_type t, refl)) (leads_to (marks u f called) items ks (with_given function (mark_of_type t) ks) (mark_of_type t ∷ ks) (left true is) (library_called used function allocated calls))
        by false is true given = absurd (apart (sym is ∙ given refl))
        by false is false given = leads_to (marks u f called) items ks (with_given function (mark_of_type t) ks) ks (left false is) (library_called used function allocated calls)

  -- ---- terms

  zero_leads : (a : TermTree) (t : Ty) (at : Place) (ks : List Mark) → IsScalarType u t → mark_of_type t ≡ Pointing → ExactTerm u.model a (pos 0) → Leads (marks u f called) (item.Value a ∷ (item.Do at (op.Convert (scalar_of t)) ∷ [])) ks (mark_of_type t ∷ ks)
  zero_leads a t at ks scalar is exact rest = (Exactly (pos 0) ∷ ks, quietly (Exactly (pos 0)) (inr (inl (pos 0, exact, refl))) refl, (mark_of_type t ∷ ks, (Exactly (pos 0), mark_of_type t, scalar, zero_converts u.model (scalar_of t) is, (ks, refl, refl)), refl))

  typed : (used : Bool) (t : Ty) (k : Mark) (items : List Item) (ks : List Mark) → mark_of_type t ≡ k → Leads (marks u f called) items ks (k ∷ ks) → Leads (marks u f called) (if_used used items) ks (with_value used (mark_of_type t) ks)
  typed used t k items ks is leads = leads_if_used (marks u f called) used (mark_of_type t) ks items (λ rest. (mark_of_type t, refl)) (leads_to (marks u f called) items ks (k ∷ ks) (mark_of_type t ∷ ks) (ap (λ k. k ∷ ks) (sym is)) leads)

  constant_leads : (at : Place) (n : ℤ) (t : Ty) (kind : IntType) (ks : List Mark) → t ≡ Int kind → in_type kind n ≡ true → Leads (marks u f called) (item.Do at (op.Constant n) ∷ []) ks (mark_of_type t ∷ ks)
  constant_leads at n t kind ks is within = leads_to (marks u f called) (item.Do at (op.Constant n) ∷ []) ks (Ranged kind ∷ ks) (mark_of_type t ∷ ks) (ap (λ t. mark_of_type t ∷ ks) (sym is)) (λ rest. (Ranged kind ∷ ks, (Ranged kind, within, (ks, refl, refl)), refl))

  -- the pointer to an lvalue is the value
  pointed : (used : Bool) (t : Ty) (l : LvalueTree) (ks : List Mark) → WellTypedPlace u l → mark_of_type t ≡ Pointing → AreStable ks → Leads (marks u f called) (if_used used (item.Address l ∷ [])) ks (with_value used (mark_of_type t) ks)
  pointed used t l ks place is stable = typed used t Pointing (item.Address l ∷ []) ks is (λ rest. (Pointing ∷ ks, placed l rest ks place stable, refl))

  pub term_leads : (used : Bool) (e : TermTree) (ks : List Mark) → WellTypedTerm u used e → AreStable ks → Leads (marks u f called) (term_items u used e) ks (with_value used (term_mark e) ks)
  term_leads used (Typed at t parens fixed (tree.Number n)) ks well_typed stable = typed used t (mark_of_type t) _ ks refl (constant_leads at n t well_typed.0 ks well_typed.1 well_typed.2)
  term_leads used (Typed at t parens fixed (tree.SizeofType n is_pointer)) ks well_typed stable = typed used t (mark_of_type t) _ ks refl (constant_leads at (pos n) t well_typed.0 ks well_typed.1 well_typed.2)
  term_leads used (Typed at t parens fixed (tree.Sizeof n operand is_pointer)) ks well_typed stable = typed used t (mark_of_type t) _ ks refl (constant_leads at (pos n) t well_typed.0 ks well_typed.1 well_typed.2)
  term_leads used (Typed at t parens fixed (tree.Load l)) ks well_typed stable = typed used t (lvalue_mark l) _ ks (sym well_typed.2) (λ rest. (Pointing ∷ ks, items.Locates.any well_typed.0 stable refl, (lvalue_mark l ∷ ks, (well_typed.1, marks.Loads.any (ks, refl, refl)), refl)))
  term_leads used (Typed at t parens fixed (tree.AddressOf l)) ks well_typed stable = pointed used t l ks well_typed.0 well_typed.1 stable
  term_leads used (Typed at t parens fixed (tree.Decay l)) ks well_typed stable = typed used t Pointing _ ks well_typed.1 (λ rest. (Pointing ∷ ks, items.Locates.any well_typed.0 stable refl, (Pointing ∷ ks, (ks, refl, refl), refl)))
  term_leads used (Typed at t parens fixed (tree.Convert sort a)) ks well_typed stable = typed used t (mark_of_type t) _ ks refl (elim well_typed.1 [ inl m ↦ one_operand a (term_mark a) (mark_of_type t) at (op.Convert (scalar_of t)) ks m.0 refl stable (term_mark a, mark_of_type t, well_typed.0, m.1, (ks, refl, refl)) | inr exact ↦ zero_leads a t at ks well_typed.0 exact.0 exact.1 ])
  term_leads used (Typed at t parens fixed (tree.Discard a)) ks well_typed stable = λ rest. (ks, (well_typed.0, stable, refl), ap (λ b. with_value b (mark_of_type t) ks) (sym well_typed.1))
  term_leads used (Typed at t parens fixed (tree.Plus a)) ks well_typed stable = typed used t (mark_of_type t) _ ks refl (λ rest. (mark_of_type t ∷ ks, valued u f called a (mark_of_type t) rest ks well_typed.0 well_typed.1 stable, refl))
  term_leads used (Typed at t parens fixed (tree.Minus a)) ks well_typed stable = typed used t (mark_of_type t) _ ks refl (unary_leads a Neg t at ks well_typed.0 well_typed.1 well_typed.2 stable)
  term_leads used (Typed at t parens fixed (tree.Complement a)) ks well_typed stable = typed used t (mark_of_type t) _ ks refl (unary_leads a Compl t at ks well_typed.0 well_typed.1 well_typed.2 stable)
  term_leads used (Typed at t parens fixed (tree.Not a)) ks well_typed stable = typed used t (Ranged well_typed.1.0) _ ks (ap mark_of_type well_typed.1.1) (one_operand a (term_mark a) (Ranged well_typed.1.0) at op.Not ks well_typed.0 refl stable (marks.Negates.any (term_mark a) well_typed.1.0 well_typed.1.2 (ks, refl, refl)))
  term_leads used (Typed at t parens fixed (tree.Integer sign a b)) ks well_typed stable = typed used t (mark_of_type t) _ ks refl (integer_leads a b (meaning sign) t at ks well_typed.0 well_typed.1 well_typed.2 stable)
  term_leads used (Typed at t parens fixed (tree.Shift back size a b)) ks well_typed stable = typed used t Pointing _ ks well_typed.3 (shift_leads a b back size at ks well_typed.0 well_typed.1 well_typed.2 stable)
  term_leads used (Typed at t parens fixed (tree.Difference size a b)) ks well_typed stable = typed used t (Ranged well_typed.4.0) _ ks (ap mark_of_type well_typed.4.1) (two_operands a b Pointing Pointing (Ranged well_typed.4.0) at (op.Difference size) ks well_typed.0 well_typed.2 well_typed.1 well_typed.3 stable (well_typed.4.0, well_typed.4.2, well_typed.4.3, (ks, refl, refl)))
  term_leads used (Typed at t parens fixed (tree.Compare sign a b)) ks well_typed stable = typed used t (Ranged well_typed.4.0) _ ks (ap mark_of_type well_typed.4.1) (two_operands a b Pointing Pointing (Ranged well_typed.4.0) at (op.ComparePointers (relation sign)) ks well_typed.0 well_typed.2 well_typed.1 well_typed.3 stable (marks.ComparesPointers.any well_typed.4.0 well_typed.4.2 (ks, refl, refl)))
  term_leads used (Typed at t parens fixed (tree.Logical sign a b)) ks well_typed stable = typed used t (Ranged well_typed.2.0) _ ks (ap mark_of_type well_typed.2.1) (logical_leads sign a b well_typed.2.0 ks well_typed.0 well_typed.1 well_typed.2.2 stable)
  term_leads used (Typed at t parens fixed (tree.Conditional c a b)) ks well_typed stable = conditional_leads used c a b (mark_of_type t) ks well_typed.0 well_typed.1 well_typed.2 well_typed.3 well_typed.4 well_typed.5 stable
  term_leads used (Typed at t parens fixed (tree.Comma a b)) ks well_typed stable = λ rest. (ks, (well_typed.0, stable, refl), (with_value used (mark_of_type t) ks, armed used b (mark_of_type t) rest ks well_typed.1 well_typed.2 stable, refl))
  term_leads used (Typed at t parens fixed (tree.Assign l a)) ks well_typed stable = typed used t (lvalue_mark l) _ ks (sym well_typed.4) (assignment_leads l a ks well_typed.0 well_typed.1 well_typed.2 well_typed.3 stable)
  term_leads used (Typed at t parens fixed (tree.Compound sign sort l a)) ks well_typed stable =
      let c : Compounds u (number_operator (meaning sign)) (integer_type sort) (lvalue_type l) (term_type a) t = well_typed.2 in
      typed used t (Ranged (integer_kind l)) _ ks (ap mark_of_type c.is ∙ own_mark (lvalue_type l) c.old c.lvalue.0) (compound_leads at (meaning sign) (integer_type sort) c.count l a ks well_typed.0 well_typed.1 (own_kind u (lvalue_type l) c.old c.lvalue) c.is_kind (ap mark_of_type c.right) c.counts stable)
  term_leads used (Typed at t parens fixed (tree.CompoundShift back size l a)) ks well_typed stable = typed used t Pointing _ ks well_typed.4 (compound_shift_leads at back size well_typed.2.0 l a ks well_typed.0 well_typed.1 (ap mark_of_type well_typed.2.1) stable)
  term_leads used (Typed at t parens fixed (tree.Step sign time sort l)) ks well_typed stable =
      let c : StepsIn u (integer_type sort) (lvalue_type l) t = well_typed.1 in
      typed used t (Ranged (integer_kind l)) _ ks (ap mark_of_type c.is ∙ own_mark (lvalue_type l) c.old c.lvalue.0) (step_leads at sign (integer_type sort) l (keeps_old time used) ks well_typed.0 (own_kind u (lvalue_type l) c.old c.lvalue) c.is_kind stable)
  term_leads used (Typed at t parens fixed (tree.StepPointer sign time size l)) ks well_typed stable = typed used t Pointing _ ks well_typed.2 (pointer_step_leads at sign size l (keeps_old time used) ks well_typed.0 stable)
  term_leads used (Typed at t parens fixed (tree.Struct l)) ks well_typed stable = pointed used t l ks well_typed.0 well_typed.1 stable
  term_leads used (Typed at t parens fixed (tree.Call g args is_used)) ks well_typed stable = call_leads t at args ks well_typed.0 stable g used is_used well_typed.1
  term_leads used (Typed at t parens fixed (tree.Library function args allocated)) ks well_typed stable = library_leads t at args ks well_typed.0 stable used function allocated well_typed.1

  pub unused_leads : (e : TermTree) (ks : List Mark) → WellTypedTerm u false e → AreStable ks → Leads (marks u f called) (term_items u false e) ks ks
  unused_leads e ks well_typed stable = term_leads false e ks well_typed stable

  -- ---- values that say more than their types

  stored_leads : (e : TermTree) (k : Mark) (ks : List Mark) → StoredTerm u e k → WellTypedTerm u true e → AreStable ks → Leads (marks u f called) (term_items u true e) ks (k ∷ ks)
  stored_leads (Typed at t parens fixed (tree.Assign (Designates place s wrapped (tree.Object o)) a)) k ks stored well_typed stable =
      let l : LvalueTree = Designates place s wrapped (tree.Object o) in
      let object : NamedObject = record { object = o; kind = scalar_of s } in
      let store : Item = item.Do place (op.Store (scalar_of s)) in
      leads_to (marks u f called) (assignment l a) ks (Loaded object ∷ ks) (k ∷ ks) (ap (λ k. k ∷ ks) (sym stored)) (λ rest. (Naming o ∷ ks, items.Locates.named o refl well_typed.0 refl, (lvalue_mark l ∷ (Naming o ∷ ks), valued u f called a (lvalue_mark l) (store ∷ rest) (Naming o ∷ ks) well_typed.1 well_typed.3 (refl, stable), (Loaded object ∷ ks, (well_typed.2, marks.Stores.named object refl (ks, stable, refl, refl)), refl))))
  stored_leads (Typed at t parens fixed (tree.Convert sort a)) k ks stored well_typed stable = elim well_typed.1 [ inl m ↦ (λ rest. (stored.1.0 ∷ ks, items.Evaluates.as_stored stored.1.0 stored.1.1 m.0 stable refl, (k ∷ ks, (stored.1.0, k, stored.0, stored.1.2, (ks, refl, refl)), refl))) | inr exact ↦ absurd (not_exact u a stored.1.0 (pos 0) stored.1.1 exact.1) ]
  stored_leads e k ks stored well_typed stable = absurd stored

  comparison_leads : (e : TermTree) (test : NamedTest) (ks : List Mark) → ComparisonTerm u e test → WellTypedTerm u true e → AreStable ks → Leads (marks u f called) (term_items u true e) ks (Tested test ∷ ks)
  comparison_leads (Typed at t parens fixed (tree.Integer sign a b)) test ks compares well_typed stable =
      let left : Mark = compares.1 in
      let right : Mark = compares.2 in
      let family : OperatorMeaning → Type 0 = λ m. Leads (marks u f called) (item.Value a ∷ (item.Value b ∷ (item.Do at (operating m t) ∷ []))) ks (Tested test ∷ ks) in
      subst family (sym compares.3) (λ rest. (left ∷ ks, operand_evaluates u f called a left ks compares.4 well_typed.0 stable, (right ∷ (left ∷ ks), quietly right compares.5 refl, (Tested test ∷ ks, marks.Compares.tested left right test compares.6 (ks, refl, refl), refl))))
  comparison_leads (Typed at t parens fixed (tree.Compare sign a b)) test ks compares well_typed stable =
      let o : NamedObject = compares.0 in
      let left : Mark = compares.1 in
      let right : Mark = compares.2 in
      let items : List Item = item.Value a ∷ (item.Value b ∷ (item.Do at (op.ComparePointers (relation sign)) ∷ [])) in
      leads_to (marks u f called) items ks (Tested (null_test_of o (relation sign)) ∷ ks) (Tested test ∷ ks) (ap (λ test. Tested test ∷ ks) (sym compares.7)) (λ rest. (left ∷ ks, operand_evaluates u f called a left ks compares.4 well_typed.0 stable, (right ∷ (left ∷ ks), quietly right compares.5 refl, (Tested (null_test_of o (relation sign)) ∷ ks, marks.ComparesPointers.tested o left right compares.3 compares.6 (ks, refl, refl), refl))))
  comparison_leads e test ks compares well_typed stable = absurd compares

  pub value_leads : (e : TermTree) (before after : List Mark) → Evaluates u e before after → Leads (marks u f called) (term_items u true e) before after
  value_leads e before after (items.Evaluates.by_type well_typed stable is) = leads_to (marks u f called) (term_items u true e) before (term_mark e ∷ before) after (sym is) (term_leads true e before well_typed stable)
  value_leads e before after (items.Evaluates.quietly k quiet is) = leads_to (marks u f called) (term_items u true e) before (k ∷ before) after (sym is) (quiet_leads u f called e k before quiet)
  value_leads e before after (items.Evaluates.as_stored k stored well_typed stable is) = leads_to (marks u f called) (term_items u true e) before (k ∷ before) after (sym is) (stored_leads e k before stored well_typed stable)
  value_leads e before after (items.Evaluates.as_test test compares well_typed stable is) = leads_to (marks u f called) (term_items u true e) before (Tested test ∷ before) after (sym is) (comparison_leads e test before compares well_typed stable)
