-- Statements that pass the looks have operands of their marks, and their labels are there.
use Rattle.std.proofs.Common.{◌≡◌, ◌≤◌, ◌<◌, ℕ, Bool, true, false, not, ◌&&◌, nat_le, List, [], ◌∷◌, length, Option, Some, None, refl, arith}
use Rattle.std.specs.List.{list_all}
use Rattle.std.proofs.lemmas.Bool.{ltb-true, leb-true}
use Rattle.cc_base.specs.declared.int_types.IntType.{IntType}
use Rattle.c_layout.specs.CheckedTrees as tree
use Rattle.c_layout.specs.CheckedTrees.{TermTree, StatementTree, StatementTrees, StoreTree, StoreValue, StoreCopy, StoreText}
use Rattle.c_layout.specs.CheckedUnits.{FunctionView, UnitView}
use Rattle.c_layout.specs.declared.checked_tree.checked_statements.CaseLabel.{CaseLabel}
use Rattle.lower_conditions.specs.Tests.{named}
use Rattle.lower_conditions.specs.declared.branch_tests.NamedObject.{NamedObject}
use Rattle.lower_template_theorems.specs.PendingLabels.Marks.{below, cases_in}
use Rattle.lower_template_theorems.proofs.pending_labels.MarkArithmetic.{below_yes}
use Rattle.lower_templates.specs.Worklist.TermKinds.{is_void, term_type}
use Rattle.lower_preconditions.specs.Units.RegularTerms.{is_regular_term}
use Rattle.lower_preconditions.specs.Units.RegularStatements.{are_plain, are_regular_clauses, is_regular_switch, is_regular_statement, are_regular_statements}
use Rattle.simulation_layout.specs.FunctionChecks.LabelsOnce.{IsSelectedOnce, AreSelectedOnce, AllSelectedOnce}
use Rattle.cfg.specs.declared.machine_instructions.Scalar.{Scalar}
use Rattle.cfg.specs.declared.machine_instructions.Scalar.TheVariants as of
use Rattle.memory_model.specs.Effects.LibraryChecks.{most_size}
use Rattle.semantics.specs.SourceMachine.LabelSearch.{from_label}
use Rattle.source_items.specs.StackKinds.KindedTerms.{IsThere}
use Rattle.source_items.specs.StackKinds.KindedStatements.{HasCases}
use Rattle.source_preservation.specs.ValueTyping.Marks.{Mark, Loaded, Converted}
use Rattle.source_preservation.specs.ValueTyping.MarkOperations.{IsKind, IsWider}
use Rattle.source_preservation.specs.WellTyped.WellTypedTerms.{SideTerm}
use Rattle.source_preservation.specs.WellTyped.WellTypedStatements.{WellTypedIf, WellTypedStep, Matches, SelectsBy, AreBytes, WellTypedStore, WellTypedStores, WellTypedReturn, WellTypedStatement, WellTypedStatements}
use Rattle.source_preservation.specs.Checks.LookedTypes.{is_kind, is_wider, is_scalar_type, is_integer}
use Rattle.source_preservation.specs.Checks.LookedTests.{same_object}
use Rattle.source_preservation.specs.Checks.LookedTerms.{is_well_typed_term, is_well_typed_place, is_well_typed_condition, side}
use Rattle.c_layout.specs.ByteTexts.{is_byte, are_bytes}
use Rattle.source_preservation.specs.UnitChecks.LookedStatements.{is_well_typed_if, is_well_typed_step, is_of_kind, is_within, matches, selects_by, is_well_typed_store, is_well_typed_return, is_well_typed_statement, are_well_typed_statements}
use Rattle.source_preservation.proofs.checks.Truths.{never, is_false, both_true, both, three, four}
use Rattle.source_preservation.proofs.checks.SameTypes.{kind_there, wider, scalar_type, integer}
use Rattle.source_preservation.proofs.checks.DecidedTests.{object_is}
use Rattle.source_preservation.proofs.checks.LookedOperands.{side_is}
use Rattle.source_preservation.proofs.checks.LookedTerms.{well_typed, placed, condition}
use Rattle.source_preservation.proofs.unit_checks.FoundLabels.{case_found}

-- ---- conditions and switches

module _ (u : UnitView) where
  if_there : (c : Option TermTree) → is_well_typed_if u c ≡ true → WellTypedIf u c
  if_there None h = tt
  if_there (Some c) h = condition u true c h

  step_there : (e : Option TermTree) → is_well_typed_step u e ≡ true → WellTypedStep u e
  step_there None h = tt
  step_there (Some e) h = well_typed u false e h

  of_kind : (k : Scalar) → is_of_kind u k ≡ true → (kind : IntType) × (k ≡ of.Int kind) × IsKind u.model kind
  of_kind (of.Int kind) h = (kind, refl, kind_there u.model kind h)
  of_kind of.Pointer h = never h

  within : (wide : IntType) (k : Scalar) → is_within u wide k ≡ true → (kind : IntType) × (k ≡ of.Int kind) × IsKind u.model kind × IsKind u.model wide × IsWider kind wide
  within wide (of.Int kind) h = let x = three (is_kind u.model kind) (is_kind u.model wide) (is_wider kind wide) (kind_there u.model kind) (kind_there u.model wide) (wider kind wide) h in (kind, refl, x.0, x.1, x.2)
  within wide of.Pointer h = never h

  matched : (o : NamedObject) (mark : Mark) → matches u o (Some mark) ≡ true → Matches u o mark
  matched o (Loaded p) h = both (same_object p o) (is_of_kind u o.kind) (object_is p o) (of_kind o.kind) h
  matched o (Converted p wide) h = both (same_object p o) (is_within u wide o.kind) (object_is p o) (within wide o.kind) h
  matched o other h = never h

  selected : (e : TermTree) (o : Option NamedObject) → selects_by u e o ≡ true → SelectsBy u e o
  selected e None h = both (is_well_typed_term u true e) (is_integer (term_type e)) (well_typed u true e) (integer (term_type e)) h
  selected e (Some o) h = by (side u e) (λ mark is. side_is u e mark is) h
    where
      by : (s : Option Mark) → ((mark : Mark) → s ≡ Some mark → SideTerm u e mark) → matches u o s ≡ true → SelectsBy u e (Some o)
      by None at h = never h
      by (Some mark) at h = (mark, at mark refl, matched o mark h)

  -- ---- initializers

  pub bytes_are : (text : List ℕ) → are_bytes text ≡ true → AreBytes text
  bytes_are [] h = tt
  bytes_are (b ∷ bs) h = both (is_byte b) (are_bytes bs) (ltb-true b 256) (λ x. bytes_are bs x) h

  store : (x : StoreTree) → is_well_typed_store u x ≡ true → WellTypedStore u x
  store (StoreValue offset e) h = three (is_well_typed_term u true e) (is_scalar_type u (term_type e)) (nat_le offset (most_size u.model)) (well_typed u true e) (scalar_type u (term_type e)) (leb-true offset (most_size u.model)) h
  store (StoreCopy offset l) h = both (is_well_typed_place u l) (nat_le offset (most_size u.model)) (placed u l) (leb-true offset (most_size u.model)) h
  store (StoreText offset room text) h = bytes_are text h

  stores : (xs : List StoreTree) → list_all (is_well_typed_store u) xs ≡ true → WellTypedStores u xs
  stores [] h = tt
  stores (x ∷ xs) h = both (is_well_typed_store u x) (list_all (is_well_typed_store u) xs) (store x) (λ y. stores xs y) h

  returned : (f : FunctionView) (e : Option TermTree) → is_well_typed_return u f e ≡ true → WellTypedReturn u f e
  returned f None h = tt
  returned f (Some e) h = three (is_well_typed_term u true e) (is_scalar_type u (term_type e)) (not (is_void f.returns)) (well_typed u true e) (scalar_type u (term_type e)) (is_false (is_void f.returns)) h

  -- ---- statements

  module _ (f : FunctionView) (there : (l : ℕ) → l < f.labels → IsThere (from_label u f l)) where
    some : (a b : ℕ) → a ≡ b → b ≡ 1 → 1 ≤ a
    some a b e is = omega (arith, e, is)

    cases : (labels : List CaseLabel) (has_default loops : Bool) (body : StatementTree) → IsSelectedOnce (length labels) has_default body → is_regular_statement u f true loops body ≡ true → HasCases u labels body
    cases labels has_default loops body once is n less rest = case_found u f n true loops body rest is (some (cases_in n body) (below n (length labels)) (once.cases n) (below_yes n (length labels) less))

    mutual
      statement : (breaks loops : Bool) (i : StatementTree) → is_regular_statement u f breaks loops i ≡ true → AreSelectedOnce i → is_well_typed_statement u f i ≡ true → WellTypedStatement u f i
      statement breaks loops (tree.Value e) is once h = well_typed u false e h
      statement breaks loops (tree.Start at local e) is once h = both (is_well_typed_term u true e) (is_scalar_type u (term_type e)) (well_typed u true e) (scalar_type u (term_type e)) h
      statement breaks loops (tree.StartCopy at local l) is once h = placed u l h
      statement breaks loops (tree.StartList at local xs) is once h = stores xs h
      statement breaks loops (tree.Block objects items) is once h = statements breaks loops items is once h
      statement breaks loops (tree.If c body) is once h =
          let x = (both_true (is_regular_term u f true 0 c) (is_regular_statement u f breaks loops body) is).1 in
          both (is_well_typed_condition u true c) (is_well_typed_statement u f body) (condition u true c) (λ y. statement breaks loops body x once y) h
      statement breaks loops (tree.IfElse c first second) is once h =
          let x = both_true (is_regular_term u f true 0 c) (is_regular_statement u f breaks loops first && is_regular_statement u f breaks loops second) is in
          let y = both_true (is_regular_statement u f breaks loops first) (is_regular_statement u f breaks loops second) x.1 in
          three (is_well_typed_condition u true c) (is_well_typed_statement u f first) (is_well_typed_statement u f second) (condition u true c) (λ z. statement breaks loops first y.0 once.0 z) (λ z. statement breaks loops second y.1 once.1 z) h
      statement breaks loops (tree.While c body) is once h =
          let x = (both_true (is_regular_term u f true 0 c) (is_regular_statement u f true true body) is).1 in
          both (is_well_typed_condition u true c) (is_well_typed_statement u f body) (condition u true c) (λ y. statement true true body x once y) h
      statement breaks loops (tree.Do body c) is once h =
          let x = (both_true (is_regular_term u f true 0 c) (is_regular_statement u f true true body) is).1 in
          both (is_well_typed_condition u true c) (is_well_typed_statement u f body) (condition u true c) (λ y. statement true true body x once y) h
      statement breaks loops (tree.For objects first c step body) is once h =
          let clauses : Bool = are_regular_clauses u f c step in
          let x = both_true (are_plain first && (are_regular_statements u f false false first && clauses)) (is_regular_statement u f true true body) is in
          let y = both_true (are_plain first) (are_regular_statements u f false false first && clauses) x.0 in
          let z = both_true (are_regular_statements u f false false first) clauses y.1 in
          four (are_well_typed_statements u f first) (is_well_typed_if u c) (is_well_typed_step u step) (is_well_typed_statement u f body) (λ w. statements false false first z.0 once.0 w) (if_there c) (step_there step) (λ w. statement true true body x.1 once.1 w) h
      statement breaks loops (tree.Switch at e labels has_default enumerators body) is once h =
          let x = (both_true (is_regular_switch u f e) (is_regular_statement u f true loops body) is).1 in
          let y = both_true (selects_by u e (named e)) (is_well_typed_statement u f body) h in
          (selected e (named e) y.0, cases labels has_default loops body once.0 x, statement true loops body x once.1 y.1)
      statement breaks loops (tree.Case n body) is once h = statement breaks loops body is once h
      statement breaks loops (tree.Default body) is once h = statement breaks loops body is once h
      statement breaks loops (tree.Label n body) is once h = statement breaks loops body is once h
      statement breaks loops (tree.Goto n) is once h = there n (ltb-true n f.labels is)
      statement breaks loops (tree.Return at e) is once h = returned f e h
      statement breaks loops other is once h = tt

      pub statements : (breaks loops : Bool) (items : StatementTrees) → are_regular_statements u f breaks loops items ≡ true → AllSelectedOnce items → are_well_typed_statements u f items ≡ true → WellTypedStatements u f items
      statements breaks loops tree.NoMore is once h = tt
      statements breaks loops (tree.And first rest) is once h =
          let x = both_true (is_regular_statement u f breaks loops first) (are_regular_statements u f breaks loops rest) is in
          both (is_well_typed_statement u f first) (are_well_typed_statements u f rest) (λ y. statement breaks loops first x.0 once.0 y) (λ y. statements breaks loops rest x.1 once.1 y) h
