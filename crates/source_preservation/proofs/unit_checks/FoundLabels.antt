-- Labels that stand in statements that were looked at are found there.
use Rattle.std.proofs.Common.{◌≡◌, ◌≤◌, ℕ, ◌+◌, Bool, true, false, ◌&&◌, List, [], ◌∷◌, Option, refl, arith, sym, subst}
use Rattle.c_layout.specs.CheckedTrees as tree
use Rattle.c_layout.specs.CheckedTrees.{TermTree, StatementTree, StatementTrees, statement_trees}
use Rattle.c_layout.specs.CheckedUnits.{FunctionView, UnitView}
use Rattle.lower_template_theorems.specs.PendingLabels.Marks.{all_labels_in, cases_in}
use Rattle.lower_template_theorems.proofs.pending_labels.LabelCounts.{all_same_labels, same_cases}
use Rattle.lower_preconditions.specs.Units.RegularTerms.{is_regular_term}
use Rattle.lower_preconditions.specs.Units.RegularStatements.{are_regular_clauses, is_plain, are_plain, is_regular_switch, is_regular_statement, are_regular_statements}
use Rattle.semantics.specs.SourceMachine.Items as item
use Rattle.semantics.specs.SourceMachine.Items.{Item}
use Rattle.semantics.specs.SourceMachine.LabelSearch as sought
use Rattle.semantics.specs.SourceMachine.LabelSearch.{Sought, found, from_label}
use Rattle.semantics.proofs.source_machine.CountedLabels.{counted, all_counted, ClausesLack, AllClausesLack, found_there, all_found_there}
use Rattle.source_items.specs.StackKinds.KindedTerms.{IsThere}
use Rattle.source_items.proofs.stack_kinds.Labels.{found_listed}
use Rattle.source_preservation.proofs.checks.Truths.{never, both_true}

no_sum : (a b : ℕ) → a ≡ 0 → b ≡ 0 → a + b ≡ 0
no_sum a b x y = omega (arith, x, y)

-- the first clause of a `for` is plain, and its body is regular
for_parts : (u : UnitView) (f : FunctionView) (begin : StatementTrees) (e step : Option TermTree) (body : StatementTree) → ((are_plain begin && (are_regular_statements u f false false begin && are_regular_clauses u f e step)) && is_regular_statement u f true true body) ≡ true → (are_plain begin ≡ true) × (is_regular_statement u f true true body ≡ true)
for_parts u f begin e step body is =
    let x = both_true (are_plain begin && (are_regular_statements u f false false begin && are_regular_clauses u f e step)) (is_regular_statement u f true true body) is in
    ((both_true (are_plain begin) (are_regular_statements u f false false begin && are_regular_clauses u f e step) x.0).0, x.1)

module _ (l : Sought) where
  plain_lacks : (i : StatementTree) → is_plain i ≡ true → counted l i ≡ 0
  plain_lacks (tree.Value e) h = refl
  plain_lacks tree.Nothing h = refl
  plain_lacks (tree.Forget at local) h = refl
  plain_lacks (tree.Start at local e) h = refl
  plain_lacks (tree.StartCopy at local x) h = refl
  plain_lacks (tree.StartList at local stores) h = refl
  plain_lacks i h = never h

  plains_lack : (items : StatementTrees) → are_plain items ≡ true → all_counted l items ≡ 0
  plains_lack tree.NoMore h = refl
  plains_lack (tree.And one rest) h = let x = both_true (is_plain one) (are_plain rest) h in no_sum (counted l one) (all_counted l rest) (plain_lacks one x.0) (plains_lack rest x.1)

  module _ (u : UnitView) (f : FunctionView) where
    mutual
      clauses_lack : (breaks loops : Bool) (i : StatementTree) → is_regular_statement u f breaks loops i ≡ true → ClausesLack l i
      clauses_lack breaks loops (tree.Block objects items) is = all_clauses_lack breaks loops items is
      clauses_lack breaks loops (tree.If e body) is = clauses_lack breaks loops body (both_true (is_regular_term u f true 0 e) _ is).1
      clauses_lack breaks loops (tree.IfElse e one two) is =
          let x = both_true (is_regular_term u f true 0 e) (is_regular_statement u f breaks loops one && is_regular_statement u f breaks loops two) is in
          let y = both_true (is_regular_statement u f breaks loops one) (is_regular_statement u f breaks loops two) x.1 in
          (clauses_lack breaks loops one y.0, clauses_lack breaks loops two y.1)
      clauses_lack breaks loops (tree.While e body) is = clauses_lack true true body (both_true (is_regular_term u f true 0 e) _ is).1
      clauses_lack breaks loops (tree.Do body e) is = clauses_lack true true body (both_true (is_regular_term u f true 0 e) _ is).1
      clauses_lack breaks loops (tree.For objects begin e step body) is = let x = for_parts u f begin e step body is in (plains_lack begin x.0, clauses_lack true true body x.1)
      clauses_lack breaks loops (tree.Switch at e labels has_default values body) is = clauses_lack true loops body (both_true (is_regular_switch u f e) _ is).1
      clauses_lack breaks loops (tree.Case n body) is = clauses_lack breaks loops body is
      clauses_lack breaks loops (tree.Default body) is = clauses_lack breaks loops body is
      clauses_lack breaks loops (tree.Label n body) is = clauses_lack breaks loops body is
      clauses_lack breaks loops i is = tt

      all_clauses_lack : (breaks loops : Bool) (items : StatementTrees) → are_regular_statements u f breaks loops items ≡ true → AllClausesLack l items
      all_clauses_lack breaks loops tree.NoMore is = tt
      all_clauses_lack breaks loops (tree.And one rest) is =
          let x = both_true (is_regular_statement u f breaks loops one) (are_regular_statements u f breaks loops rest) is in
          (clauses_lack breaks loops one x.0, all_clauses_lack breaks loops rest x.1)

pub case_found : (u : UnitView) (f : FunctionView) (n : ℕ) (breaks loops : Bool) (i : StatementTree) (rest : List Item) → is_regular_statement u f breaks loops i ≡ true → 1 ≤ cases_in n i → IsThere (found u (sought.case n) i rest)
case_found u f n breaks loops i rest is some = found_there u (sought.case n) i rest (clauses_lack (sought.case n) u f breaks loops i is) (subst (λ m. 1 ≤ m) (same_cases n i) some)

-- each label of a function whose labels are counted is there
pub label_there : (u : UnitView) (f : FunctionView) (l : ℕ) → are_regular_statements u f false false (statement_trees f.body) ≡ true → 1 ≤ all_labels_in l (statement_trees f.body) → IsThere (from_label u f l)
label_there u f l is some =
    let items : StatementTrees = statement_trees f.body in
    let rest : List Item = item.Leaves f.scope ∷ (item.EndBody ∷ []) in
    subst (λ o. IsThere o) (sym (found_listed u (sought.label l) f.body rest)) (all_found_there u (sought.label l) items rest (all_clauses_lack (sought.label l) u f false false items is) (subst (λ m. 1 ≤ m) (all_same_labels l items) some))
