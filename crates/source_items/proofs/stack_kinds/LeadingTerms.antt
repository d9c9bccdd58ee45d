-- The items of terms and lvalues lead to their values.
use Rattle.std.proofs.Common.{◌≡◌, ℕ, ◌+◌, Bool, true, false, cond, List, [], ◌∷◌, ◌++◌, Option, Some, refl, ap, sym, ◌∙◌, arith}
use Rattle.cc_base.specs.declared.diagnostics.Place.{Place}
use Rattle.cc_base.specs.declared.int_types.IntType.{IntType}
use Rattle.cc_base.specs.declared.integer_operators.UnOp.TheVariants.{Neg, Compl}
use Rattle.c_layout.specs.Types.{Ty, same_kind}
use Rattle.c_layout.specs.CheckedTrees as tree
use Rattle.c_layout.specs.CheckedTrees.{TermTree, TermTrees, Typed, LvalueTree, Designates}
use Rattle.c_layout.specs.CheckedUnits.{UnitView, FunctionView}
use Rattle.c_layout.specs.declared.library_functions.LibFn.{LibFn}
use Rattle.c_layout.specs.declared.syntax_tree.expressions.LogicalOp.{LogicalOp}
use Rattle.c_layout.specs.declared.syntax_tree.expressions.LogicalOp.TheVariants.{And, Or}
use Rattle.c_layout.specs.declared.syntax_tree.expressions.StepOp.{StepOp}
use Rattle.cfg.specs.declared.machine_instructions.Scalar.TheVariants as of
use Rattle.lower_templates.specs.Worklist.TermKinds.{meaning, relation, step_operator, is_backward, integer_type, is_void, term_type, lvalue_at}
use Rattle.lower_templates.specs.declared.worklist.term_kinds.OperatorMeaning.{OperatorMeaning}
use Rattle.lower_templates.specs.declared.worklist.term_kinds.OperatorMeaning.TheVariants as meant
use Rattle.lower_expressions.specs.Assignments.{keeps_old, number_operator}
use Rattle.lower_expressions.specs.Calls.{gives}
use Rattle.semantics.specs.SourceMachine.Operations as op
use Rattle.semantics.specs.SourceMachine.Operations.{RightFirst, Operation}
use Rattle.semantics.specs.SourceMachine.Items as item
use Rattle.semantics.specs.SourceMachine.Items.{Item}
use Rattle.semantics.specs.SourceMachine.TermItems.{address_items, if_used, left_if, operating, order_of, integer_kind, converted, assignment, compound, compound_shift, kept, store_step, step, pointer_step, arguments, argument_count, library_items}
use Rattle.semantics.specs.SourceMachine.ConditionItems.{choice_of, truth_of, logical, arm, conditional, term_items}
use Rattle.source_items.specs.Operations.Kinds.{Kind, Number, Address, kind_of_type}
use Rattle.source_items.specs.Operations.TakenKinds.{Operates, result_kind}
use Rattle.source_items.specs.Operations.TakenKinds as taken
use Rattle.source_items.specs.StackKinds.KindedTerms.{term_kind, lvalue_kind, argument_kinds, CallsFunction, CallsLibrary, KindedTerm, KindedPlace, KindedTerms}
use Rattle.source_items.specs.StackKinds.KindedItems.{left_kinds, parameter_kinds, Effect}
use Rattle.source_items.proofs.stack_kinds.Loops.{apart}
use Rattle.source_items.proofs.stack_kinds.ItemWalks.{with_value, Through, Leads, all_through, leads_both, leads_to, leads_if_used}
use Rattle.source_items.proofs.stack_kinds.Leading.{kinds, valued}
use Rattle.source_items.proofs.stack_kinds.LeadingArguments.{stacked, arguments_lead, stacked_reverse, stacked_parameters, parameters_counted, kinds_counted}
use Rattle.source_items.proofs.stack_kinds.LeadingConditions.{condition_through}

module _ (u : UnitView) (f : FunctionView) (called : Option Bool) where
  pub address_leads : (l : LvalueTree) (ks : List Kind) → KindedPlace u l → Leads (kinds u f called) (address_items u l) ks (Address ∷ ks)
  address_leads (Designates at t parens (tree.Object o)) ks kinded rest = (Address ∷ ks, (kinded, refl), refl)
  address_leads (Designates at t parens (tree.Literal n)) ks kinded rest = (Address ∷ ks, (kinded, refl), refl)
  address_leads (Designates at t parens (tree.Target e)) ks kinded rest = (Address ∷ ks, valued u f called e Address rest ks kinded.0 kinded.1, refl)
  address_leads (Designates at t parens (tree.Member outer offset)) ks kinded rest = (Address ∷ ks, (kinded, refl), (Address ∷ ks, (ks, refl, refl), refl))
  address_leads (Designates at t parens (tree.Copied to from)) ks kinded rest = (Address ∷ ks, (kinded.0, refl), (Address ∷ (Address ∷ ks), (kinded.1, refl), (Address ∷ ks, (ks, refl, refl), refl)))
  address_leads (Designates at t parens (tree.Then left right)) ks kinded rest = (ks, (kinded.0, refl), (Address ∷ ks, (kinded.1, refl), refl))

  -- ---- operators

  one_operand : (a : TermTree) (k : Kind) (at : Place) (operation : Operation) (ks : List Kind) → KindedTerm u true a → term_kind a ≡ k → Operates operation (k ∷ ks) (Number ∷ ks) → Leads (kinds u f called) (item.Value a ∷ (item.Do at operation ∷ [])) ks (Number ∷ ks)
  one_operand a k at operation ks kinded is operates rest = (k ∷ ks, valued u f called a k (item.Do at operation ∷ rest) ks kinded is, (Number ∷ ks, operates, refl))

  two_operands : (a b : TermTree) (j k m : Kind) (at : Place) (operation : Operation) (ks : List Kind) → KindedTerm u true a → term_kind a ≡ j → KindedTerm u true b → term_kind b ≡ k → Operates operation (k ∷ (j ∷ ks)) (m ∷ ks) → Leads (kinds u f called) (item.Value a ∷ (item.Value b ∷ (item.Do at operation ∷ []))) ks (m ∷ ks)
  two_operands a b j k m at operation ks one is_j other is_k operates rest = (j ∷ ks, valued u f called a j (item.Value b ∷ (item.Do at operation ∷ rest)) ks one is_j, (k ∷ (j ∷ ks), valued u f called b k (item.Do at operation ∷ rest) (j ∷ ks) other is_k, (m ∷ ks, operates, refl)))

  integers : (sign : OperatorMeaning) (t : Ty) (ks : List Kind) → Operates (operating sign t) (Number ∷ (Number ∷ ks)) (Number ∷ ks)
  integers (meant.Number sign) t ks = (ks, refl, refl)
  integers (meant.Truth rel) t ks = (ks, refl, refl)

  -- ---- assignments and steps

  converted_leads : (at : Place) (old new : IntType) (ks : List Kind) → Leads (kinds u f called) (converted at old new) (Number ∷ ks) (Number ∷ ks)
  converted_leads at old new ks = by (same_kind old new)
    where
      by : (b : Bool) → Leads (kinds u f called) (cond b [] (item.Do at (op.Convert (of.Int new)) ∷ [])) (Number ∷ ks) (Number ∷ ks)
      by true rest = refl
      by false rest = (Number ∷ ks, (Number, refl, (ks, refl, refl)), refl)

  assignment_leads : (l : LvalueTree) (a : TermTree) (ks : List Kind) → KindedPlace u l → KindedTerm u true a → term_kind a ≡ lvalue_kind l → Leads (kinds u f called) (assignment l a) ks (lvalue_kind l ∷ ks)
  assignment_leads l a ks place kinded is rest = (Address ∷ ks, (place, refl), (lvalue_kind l ∷ (Address ∷ ks), (kinded, ap (λ k. k ∷ (Address ∷ ks)) (sym is)), (lvalue_kind l ∷ ks, (ks, refl, refl), refl)))

  compound_leads : (at : Place) (sign : OperatorMeaning) (sort : IntType) (l : LvalueTree) (a : TermTree) (ks : List Kind) → KindedPlace u l → KindedTerm u true a → term_kind a ≡ Number → Leads (kinds u f called) (compound at sign sort l a) ks (Number ∷ ks)
  compound_leads at sign sort l a ks place kinded is =
      let store : List Item = item.Do (lvalue_at l) (op.Store (of.Int (integer_kind l))) ∷ [] in
      let back : Leads (kinds u f called) (converted at sort (integer_kind l) ++ store) (Number ∷ (Address ∷ ks)) (Number ∷ ks) = leads_both (kinds u f called) (converted at sort (integer_kind l)) store (Number ∷ (Address ∷ ks)) (Number ∷ (Address ∷ ks)) (Number ∷ ks) (converted_leads at sort (integer_kind l) (Address ∷ ks)) (λ rest. (Number ∷ ks, (ks, refl, refl), refl)) in
      let both : List Item = item.Do at (op.Binary RightFirst (number_operator sign) sort) ∷ (converted at sort (integer_kind l) ++ store) in
      let done : Leads (kinds u f called) both (Number ∷ (Number ∷ (Address ∷ ks))) (Number ∷ ks) = λ rest. (Number ∷ (Address ∷ ks), (Address ∷ ks, refl, refl), back rest) in
      let there : Leads (kinds u f called) (converted at (integer_kind l) sort ++ both) (Number ∷ (Number ∷ (Address ∷ ks))) (Number ∷ ks) = leads_both (kinds u f called) (converted at (integer_kind l) sort) both (Number ∷ (Number ∷ (Address ∷ ks))) (Number ∷ (Number ∷ (Address ∷ ks))) (Number ∷ ks) (converted_leads at (integer_kind l) sort (Number ∷ (Address ∷ ks))) done in
      λ rest. (Address ∷ ks, (place, refl), (Number ∷ (Address ∷ ks), (kinded, ap (λ k. k ∷ (Address ∷ ks)) (sym is)), (Number ∷ (Number ∷ (Address ∷ ks)), (Number, (ks, refl, refl)), there rest)))

  compound_shift_leads : (at : Place) (back : Bool) (size : ℕ) (l : LvalueTree) (a : TermTree) (ks : List Kind) → KindedPlace u l → KindedTerm u true a → term_kind a ≡ Number → Leads (kinds u f called) (compound_shift at back size l a) ks (Address ∷ ks)
  compound_shift_leads at back size l a ks place kinded is rest = (Address ∷ ks, (place, refl), (Number ∷ (Address ∷ ks), (kinded, ap (λ k. k ∷ (Address ∷ ks)) (sym is)), (Address ∷ (Number ∷ (Address ∷ ks)), (Number, (ks, refl, refl)), (Address ∷ (Address ∷ ks), (Address ∷ ks, refl, refl), (Address ∷ ks, (ks, refl, refl), refl)))))

  -- an old value that is kept lies below the new one
  abbrev below_new : Bool → Kind → List Kind → List Kind
  below_new true k ks = k ∷ (Address ∷ ks)
  below_new false k ks = Address ∷ ks

  kept_leads : (keeps : Bool) (k : Kind) (ks : List Kind) → Leads (kinds u f called) (kept keeps) (k ∷ (Address ∷ ks)) (k ∷ below_new keeps k ks)
  kept_leads true k ks rest = (k ∷ (k ∷ (Address ∷ ks)), (k, Address ∷ ks, refl, refl), refl)
  kept_leads false k ks rest = refl

  number_stored : (l : LvalueTree) (sort : IntType) (keeps : Bool) (ks : List Kind) → Leads (kinds u f called) (store_step l (of.Int sort) keeps) (Number ∷ below_new keeps Number ks) (Number ∷ ks)
  number_stored l sort true ks rest = (Number ∷ ks, (Number, (ks, refl, refl)), refl)
  number_stored l sort false ks rest = (Number ∷ ks, (ks, refl, refl), refl)

  pointer_stored : (l : LvalueTree) (keeps : Bool) (ks : List Kind) → Leads (kinds u f called) (store_step l of.Pointer keeps) (Address ∷ below_new keeps Address ks) (Address ∷ ks)
  pointer_stored l true ks rest = (Address ∷ ks, (Address, (ks, refl, refl)), refl)
  pointer_stored l false ks rest = (Address ∷ ks, (ks, refl, refl), refl)

  step_leads : (at : Place) (sign : StepOp) (sort : IntType) (l : LvalueTree) (keeps : Bool) (ks : List Kind) → KindedPlace u l → Leads (kinds u f called) (step at sign sort l keeps) ks (Number ∷ ks)
  step_leads at sign sort l keeps ks place =
      let below : List Kind = below_new keeps Number ks in
      let store : List Item = store_step l (of.Int (integer_kind l)) keeps in
      let back : Leads (kinds u f called) (converted at sort (integer_kind l) ++ store) (Number ∷ below) (Number ∷ ks) = leads_both (kinds u f called) (converted at sort (integer_kind l)) store (Number ∷ below) (Number ∷ below) (Number ∷ ks) (converted_leads at sort (integer_kind l) below) (number_stored l (integer_kind l) keeps ks) in
      let done : Leads (kinds u f called) (item.Do at (op.BinaryByOne (step_operator sign) sort) ∷ (converted at sort (integer_kind l) ++ store)) (Number ∷ below) (Number ∷ ks) = λ rest. (Number ∷ below, (below, refl, refl), back rest) in
      let there : Leads (kinds u f called) (converted at (integer_kind l) sort ++ (item.Do at (op.BinaryByOne (step_operator sign) sort) ∷ (converted at sort (integer_kind l) ++ store))) (Number ∷ below) (Number ∷ ks) = leads_both (kinds u f called) (converted at (integer_kind l) sort) _ (Number ∷ below) (Number ∷ below) (Number ∷ ks) (converted_leads at (integer_kind l) sort below) done in
      λ rest. (Address ∷ ks, (place, refl), (Number ∷ (Address ∷ ks), (ks, refl, refl), leads_both (kinds u f called) (kept keeps) _ (Number ∷ (Address ∷ ks)) (Number ∷ below) (Number ∷ ks) (kept_leads keeps Number ks) there rest))

  pointer_step_leads : (at : Place) (sign : StepOp) (size : ℕ) (l : LvalueTree) (keeps : Bool) (ks : List Kind) → KindedPlace u l → Leads (kinds u f called) (pointer_step at sign size l keeps) ks (Address ∷ ks)
  pointer_step_leads at sign size l keeps ks place =
      let below : List Kind = below_new keeps Address ks in
      let done : Leads (kinds u f called) (item.Do at (op.ShiftByOne size (is_backward sign)) ∷ store_step l of.Pointer keeps) (Address ∷ below) (Address ∷ ks) = λ rest. (Address ∷ below, (below, refl, refl), pointer_stored l keeps ks rest) in
      λ rest. (Address ∷ ks, (place, refl), (Address ∷ (Address ∷ ks), (ks, refl, refl), leads_both (kinds u f called) (kept keeps) _ (Address ∷ (Address ∷ ks)) (Address ∷ below) (Address ∷ ks) (kept_leads keeps Address ks) done rest))

  -- ---- choices

  choice_through : (e : TermTree) (held failed rest : List Item) (ks after : List Kind) → KindedTerm u true e → Through (kinds u f called) held rest ks after → Through (kinds u f called) failed rest ks after → Through (kinds u f called) (choice_of e held failed) rest ks after
  choice_through e held failed rest ks after kinded one other = (term_kind e ∷ ks, (kinded, refl), (after, (term_kind e, ks, refl, all_through (kinds u f called) held rest ks after one, all_through (kinds u f called) failed rest ks after other), refl))

  truth_through : (b : Bool) (rest : List Item) (ks : List Kind) → Through (kinds u f called) (truth_of b) rest ks (Number ∷ ks)
  truth_through b rest ks = (Number ∷ ks, refl, refl)

  logical_leads : (sign : LogicalOp) (a b : TermTree) (ks : List Kind) → KindedTerm u true a → KindedTerm u true b → Leads (kinds u f called) (logical sign a b) ks (Number ∷ ks)
  logical_leads And a b ks one other rest = choice_through a (choice_of b (truth_of true) (truth_of false)) (truth_of false) rest ks (Number ∷ ks) one (choice_through b (truth_of true) (truth_of false) rest ks (Number ∷ ks) other (truth_through true rest ks) (truth_through false rest ks)) (truth_through false rest ks)
  logical_leads Or a b ks one other rest = choice_through a (truth_of true) (choice_of b (truth_of true) (truth_of false)) rest ks (Number ∷ ks) one (truth_through true rest ks) (choice_through b (truth_of true) (truth_of false) rest ks (Number ∷ ks) other (truth_through true rest ks) (truth_through false rest ks))

  armed : (used : Bool) (e : TermTree) (k : Kind) (rest : List Item) (ks : List Kind) → KindedTerm u used e → term_kind e ≡ k → Effect u f called (arm used e) rest ks (with_value used k ks)
  armed true e k rest ks kinded is = valued u f called e k rest ks kinded is
  armed false e k rest ks kinded is = (kinded, refl)

  conditional_leads : (used : Bool) (c a b : TermTree) (k : Kind) (ks : List Kind) → KindedTerm u true c → KindedTerm u used a → KindedTerm u used b → term_kind a ≡ k → term_kind b ≡ k → Leads (kinds u f called) (conditional u used c a b) ks (with_value used k ks)
  conditional_leads used c a b k ks test one other is_a is_b rest =
      let after : List Kind = with_value used k ks in
      condition_through u f called true c (arm used a ∷ (item.Hop ∷ [])) (arm used b ∷ []) rest ks after test (after, armed used a k (item.Hop ∷ rest) ks one is_a, (after, refl, refl)) (after, armed used b k rest ks other is_b, refl)

  -- ---- calls

  module _ (t : Ty) (at : Place) (args : TermTrees) (ks : List Kind) (kinded : KindedTerms u args) where
    module _ (g : ℕ) (used is_used : Bool) (calls : CallsFunction u used is_used t g args) where
      counted : argument_count args ≡ calls.function.parameters
      counted = let none : argument_count args ≡ 0 + argument_count args = omega arith in none ∙ parameters_counted calls.function 0 args calls.arguments

      taken_by : stacked args ks ≡ parameter_kinds calls.function (argument_count args) ++ ks
      taken_by = stacked_parameters calls.function 0 args ks calls.arguments ∙ ap (λ n. parameter_kinds calls.function n ++ ks) (sym counted)

      invoked : (b : Bool) → Leads (kinds u f called) (arguments args ++ item.Invoke at g (argument_count args) b ∷ []) ks (left_kinds calls.function (Some b) ++ ks)
      invoked b =
          let after : List Kind = left_kinds calls.function (Some b) ++ ks in
          leads_both (kinds u f called) (arguments args) (item.Invoke at g (argument_count args) b ∷ []) ks (stacked args ks) after (arguments_lead u f called args ks kinded) (λ rest. (after, record { function = calls.function; below = ks; is = calls.is; counted = counted; taken = taken_by; given = refl }, refl))

    nothing_left : (v : Bool) → cond v [] [] ++ ks ≡ ks
    nothing_left true = refl
    nothing_left false = refl

    call_leads : (g : ℕ) (used is_used : Bool) → CallsFunction u used is_used t g args → Leads (kinds u f called) (left_if is_used used (arguments args ++ item.Invoke at g (argument_count args) is_used ∷ [])) ks (with_value used (kind_of_type t) ks)
    call_leads g used true calls =
        let items : List Item = arguments args ++ item.Invoke at g (argument_count args) true ∷ [] in
        let own : Kind = kind_of_type calls.function.returns in
        let one : left_kinds calls.function (Some true) ++ ks ≡ own ∷ ks = ap (λ v. cond v [] (own ∷ []) ++ ks) (calls.result refl).0 in
        leads_if_used (kinds u f called) used (kind_of_type t) ks items (λ rest. (kind_of_type t, refl)) (leads_to (kinds u f called) items ks (left_kinds calls.function (Some true) ++ ks) (kind_of_type t ∷ ks) (one ∙ ap (λ k. k ∷ ks) (sym (calls.result refl).1)) (invoked g used true calls true))
    call_leads g true false calls = absurd (apart (calls.given refl))
    call_leads g false false calls = leads_to (kinds u f called) (arguments args ++ item.Invoke at g (argument_count args) false ∷ []) ks (left_kinds calls.function (Some false) ++ ks) ks (nothing_left (is_void calls.function.returns)) (invoked g false false calls false)

    library_called : (used : Bool) (function : LibFn) (allocated : Option Ty) → CallsLibrary used t function args → Leads (kinds u f called) (library_items at function args allocated) ks (taken.with_result function ks)
    library_called used function allocated calls =
        let after : List Kind = taken.with_result function ks in
        leads_both (kinds u f called) (arguments args) (item.Do at (op.Library function (argument_count args) allocated) ∷ []) ks (stacked args ks) after (arguments_lead u f called args ks kinded) (λ rest. (after, record { arguments = argument_kinds args; below = ks; counted = kinds_counted args; accepts = calls.accepts; taken = stacked_reverse args ks; given = refl }, refl))

    library_leads : (used : Bool) (function : LibFn) (allocated : Option Ty) → CallsLibrary used t function args → Leads (kinds u f called) (left_if (gives function) used (library_items at function args allocated)) ks (with_value used (kind_of_type t) ks)
    library_leads used function allocated calls = by (gives function) refl used calls.given
      where
        items : List Item
        items = library_items at function args allocated

        left : (b : Bool) → gives function ≡ b → taken.with_result function ks ≡ cond b (result_kind function ∷ ks) ks
        left b is = ap (λ b. cond b (result_kind function ∷ ks) ks) is

        by : (b : Bool) → gives function ≡ b → (asked : Bool) → (asked ≡ true → gives function ≡ true) → Leads (kinds u f called) (left_if b asked items) ks (with_value asked (kind_of_type t) ks)
        by true is asked given = leads_if_used (kinds u f called) asked (kind_of_type t) ks items (λ rest. (kind_of_type t, refl)) (leads_to (kinds u f called) items ks (taken.with_result function ks) (kind_of_type t ∷ ks) (left true is ∙ ap (λ k. k ∷ ks) (sym (calls.result is))) (library_called used function allocated calls))
        by false is true given = absurd (apart (sym is ∙ given refl))
        by false is false given = leads_to (kinds u f called) items ks (taken.with_result function ks) ks (left false is) (library_called used function allocated calls)

  -- ---- terms

  typed : (used : Bool) (t : Ty) (k : Kind) (items : List Item) (ks : List Kind) → kind_of_type t ≡ k → Leads (kinds u f called) items ks (k ∷ ks) → Leads (kinds u f called) (if_used used items) ks (with_value used (kind_of_type t) ks)
  typed used t k items ks is leads = leads_if_used (kinds u f called) used (kind_of_type t) ks items (λ rest. (kind_of_type t, refl)) (leads_to (kinds u f called) items ks (k ∷ ks) (kind_of_type t ∷ ks) (ap (λ k. k ∷ ks) (sym is)) leads)

  pub term_leads : (used : Bool) (e : TermTree) (ks : List Kind) → KindedTerm u used e → Leads (kinds u f called) (term_items u used e) ks (with_value used (term_kind e) ks)
  term_leads used (Typed at t parens fixed (tree.Number n)) ks kinded = typed used t Number _ ks kinded (λ rest. (Number ∷ ks, (ks, refl, refl), refl))
  term_leads used (Typed at t parens fixed (tree.SizeofType n is_pointer)) ks kinded = typed used t Number _ ks kinded (λ rest. (Number ∷ ks, (ks, refl, refl), refl))
  term_leads used (Typed at t parens fixed (tree.Sizeof n operand is_pointer)) ks kinded = typed used t Number _ ks kinded (λ rest. (Number ∷ ks, (ks, refl, refl), refl))
  term_leads used (Typed at t parens fixed (tree.Load l)) ks kinded = typed used t (lvalue_kind l) _ ks (sym kinded.1) (λ rest. (Address ∷ ks, (kinded.0, refl), (lvalue_kind l ∷ ks, (ks, refl, refl), refl)))
  term_leads used (Typed at t parens fixed (tree.AddressOf l)) ks kinded = typed used t Address _ ks kinded.1 (λ rest. (Address ∷ ks, (kinded.0, refl), refl))
  term_leads used (Typed at t parens fixed (tree.Decay l)) ks kinded = typed used t Address _ ks kinded.1 (λ rest. (Address ∷ ks, (kinded.0, refl), (Address ∷ ks, (ks, refl, refl), refl)))
  term_leads used (Typed at t parens fixed (tree.Convert sort a)) ks kinded = typed used t (kind_of_type t) _ ks refl (λ rest. (term_kind a ∷ ks, (kinded.0, refl), (kind_of_type t ∷ ks, (term_kind a, kinded.1, (ks, refl, refl)), refl)))
  term_leads used (Typed at t parens fixed (tree.Discard a)) ks kinded = λ rest. (ks, (kinded.0, refl), ap (λ b. with_value b (kind_of_type t) ks) (sym kinded.1))
  term_leads used (Typed at t parens fixed (tree.Plus a)) ks kinded = typed used t Number _ ks kinded.2 (λ rest. (Number ∷ ks, valued u f called a Number rest ks kinded.0 kinded.1, refl))
  term_leads used (Typed at t parens fixed (tree.Minus a)) ks kinded = typed used t Number _ ks kinded.2 (one_operand a Number at (op.Unary Neg (integer_type t)) ks kinded.0 kinded.1 (ks, refl, refl))
  term_leads used (Typed at t parens fixed (tree.Complement a)) ks kinded = typed used t Number _ ks kinded.2 (one_operand a Number at (op.Unary Compl (integer_type t)) ks kinded.0 kinded.1 (ks, refl, refl))
  term_leads used (Typed at t parens fixed (tree.Not a)) ks kinded = typed used t Number _ ks kinded.1 (one_operand a (term_kind a) at op.Not ks kinded.0 refl (term_kind a, (ks, refl, refl)))
  term_leads used (Typed at t parens fixed (tree.Integer sign a b)) ks kinded = typed used t Number _ ks kinded.4 (two_operands a b Number Number Number at (operating (meaning sign) t) ks kinded.0 kinded.2 kinded.1 kinded.3 (integers (meaning sign) t ks))
  term_leads used (Typed at t parens fixed (tree.Shift back size a b)) ks kinded = typed used t Address _ ks kinded.3 (two_operands a b (term_kind a) (term_kind b) Address at (op.Shift (order_of (term_type a)) size back) ks kinded.0 refl kinded.1 refl (ks, ap (λ xs. xs ++ ks) kinded.2, refl))
  term_leads used (Typed at t parens fixed (tree.Difference size a b)) ks kinded = typed used t Number _ ks kinded.4 (two_operands a b Address Address Number at (op.Difference size) ks kinded.0 kinded.2 kinded.1 kinded.3 (ks, refl, refl))
  term_leads used (Typed at t parens fixed (tree.Compare sign a b)) ks kinded = typed used t Number _ ks kinded.4 (two_operands a b Address Address Number at (op.ComparePointers (relation sign)) ks kinded.0 kinded.2 kinded.1 kinded.3 (ks, refl, refl))
  term_leads used (Typed at t parens fixed (tree.Logical sign a b)) ks kinded = typed used t Number _ ks kinded.2 (logical_leads sign a b ks kinded.0 kinded.1)
  term_leads used (Typed at t parens fixed (tree.Conditional c a b)) ks kinded = conditional_leads used c a b (kind_of_type t) ks kinded.0 kinded.1 kinded.2 kinded.3 kinded.4
  term_leads used (Typed at t parens fixed (tree.Comma a b)) ks kinded = λ rest. (ks, (kinded.0, refl), (with_value used (kind_of_type t) ks, armed used b (kind_of_type t) rest ks kinded.1 kinded.2, refl))
  term_leads used (Typed at t parens fixed (tree.Assign l a)) ks kinded = typed used t (lvalue_kind l) _ ks (sym kinded.3) (assignment_leads l a ks kinded.0 kinded.1 kinded.2)
  term_leads used (Typed at t parens fixed (tree.Compound sign sort l a)) ks kinded = typed used t Number _ ks kinded.4 (compound_leads at (meaning sign) (integer_type sort) l a ks kinded.0 kinded.1 kinded.2)
  term_leads used (Typed at t parens fixed (tree.CompoundShift back size l a)) ks kinded = typed used t Address _ ks kinded.4 (compound_shift_leads at back size l a ks kinded.0 kinded.1 kinded.2)
  term_leads used (Typed at t parens fixed (tree.Step sign time sort l)) ks kinded = typed used t Number _ ks kinded.2 (step_leads at sign (integer_type sort) l (keeps_old time used) ks kinded.0)
  term_leads used (Typed at t parens fixed (tree.StepPointer sign time size l)) ks kinded = typed used t Address _ ks kinded.2 (pointer_step_leads at sign size l (keeps_old time used) ks kinded.0)
  term_leads used (Typed at t parens fixed (tree.Struct l)) ks kinded = typed used t Address _ ks kinded.1 (λ rest. (Address ∷ ks, (kinded.0, refl), refl))
  term_leads used (Typed at t parens fixed (tree.Call g args is_used)) ks kinded = call_leads t at args ks kinded.0 g used is_used kinded.1
  term_leads used (Typed at t parens fixed (tree.Library function args allocated)) ks kinded = library_leads t at args ks kinded.0 used function allocated kinded.1
