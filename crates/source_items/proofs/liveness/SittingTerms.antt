-- The items of terms sit where the objects of the terms live.
use Rattle.std.proofs.Common.{ℕ, Bool, true, false, cond, List, [], ◌∷◌, ◌++◌, Option, refl, sym, subst}
use Rattle.cc_base.specs.declared.diagnostics.Place.{Place}
use Rattle.cc_base.specs.declared.int_types.IntType.{IntType}
use Rattle.c_layout.specs.Types.{Ty, same_kind}
use Rattle.c_layout.specs.CheckedTrees as tree
use Rattle.c_layout.specs.CheckedTrees.{TermTree, Typed, FormTree, LvalueTree, Designates}
use Rattle.c_layout.specs.CheckedUnits.{UnitView, FunctionView}
use Rattle.c_layout.specs.declared.library_functions.LibFn.{LibFn}
use Rattle.c_layout.specs.declared.syntax_tree.expressions.LogicalOp.{LogicalOp}
use Rattle.c_layout.specs.declared.syntax_tree.expressions.LogicalOp.TheVariants.{And, Or}
use Rattle.c_layout.specs.declared.syntax_tree.expressions.StepOp.{StepOp}
use Rattle.cfg.specs.declared.machine_instructions.Scalar as declared
use Rattle.cfg.specs.declared.machine_instructions.Scalar.TheVariants as of
use Rattle.lower_templates.specs.Worklist.TermKinds.{meaning, step_operator, is_backward, integer_type, term_at, lvalue_at}
use Rattle.lower_templates.specs.declared.worklist.term_kinds.OperatorMeaning.{OperatorMeaning}
use Rattle.lower_expressions.specs.Assignments.{keeps_old, number_operator}
use Rattle.lower_expressions.specs.Calls.{gives}
use Rattle.semantics.specs.SourceMachine.Operations as op
use Rattle.semantics.specs.SourceMachine.Operations.{RightFirst}
use Rattle.semantics.specs.SourceMachine.Items as item
use Rattle.semantics.specs.SourceMachine.Items.{Item}
use Rattle.semantics.specs.SourceMachine.TermItems.{address_items, integer_kind, converted, sides, compound, kept, store_step, target, step, pointer_step, arguments, argument_count, library_items}
use Rattle.semantics.specs.SourceMachine.ConditionItems.{logical, arm, conditional, of_form, term_items}
use Rattle.source_items.specs.Liveness.Lives.{Lives, lives}
use Rattle.source_items.specs.Liveness.ScopedTerms.{ScopedPlace, ScopedTerm, ScopedForm, ScopedArguments}
use Rattle.source_items.proofs.liveness.Sitting.{Leads, Adds, adds_both, adds_if_used, adds_left_if}
use Rattle.source_items.proofs.liveness.SittingConditions.{arguments_add, condition_leads}

module _ (u : UnitView) (f : FunctionView) (first : Bool) where
  abbrev AddsWhere : (Lives → Type 0) → List Item → Type 0
  AddsWhere = Adds f first

  pub address_adds : (l : LvalueTree) → AddsWhere (λ alive. ScopedPlace alive l) (address_items u l)
  address_adds (Designates at t parens (tree.Object o)) = λ rest scoped sit. (refl, (scoped, sit))
  address_adds (Designates at t parens (tree.Literal n)) = λ rest scoped sit. (refl, (tt, sit))
  address_adds (Designates at t parens (tree.Target e)) = λ rest scoped sit. (refl, (scoped, sit))
  address_adds (Designates at t parens (tree.Member outer offset)) = λ rest scoped sit. (refl, (scoped, (tt, sit)))
  address_adds (Designates at t parens (tree.Copied to from)) = λ rest scoped sit. (refl, (scoped.0, (scoped.1, (tt, sit))))
  address_adds (Designates at t parens (tree.Then left right)) = λ rest scoped sit. (refl, (scoped.0, (scoped.1, sit)))

  -- ---- assignments and steps

  -- an operation before others
  done_adds : (P : Lives → Type 0) (at : Place) (operation : op.Operation) (items : List Item) → AddsWhere P items → AddsWhere P (item.Do at operation ∷ items)
  done_adds P at operation items adds rest holds sit = let later : Leads f first items rest = adds rest holds sit in (later.0, (tt, later.1))

  converted_adds : (P : Lives → Type 0) (at : Place) (old new : IntType) → AddsWhere P (converted at old new)
  converted_adds P at old new = by (same_kind old new)
    where
      by : (b : Bool) → AddsWhere P (cond b [] (item.Do at (op.Convert (of.Int new)) ∷ []))
      by true = λ rest holds sit. (refl, sit)
      by false = λ rest holds sit. (refl, (tt, sit))

  compound_adds : (at : Place) (sign : OperatorMeaning) (kind : IntType) (l : LvalueTree) (e : TermTree) → AddsWhere (λ alive. ScopedPlace alive l × ScopedTerm alive e) (compound at sign kind l e)
  compound_adds at sign kind l e =
      let P : Lives → Type 0 = λ alive. ScopedPlace alive l × ScopedTerm alive e in
      let store : List Item = item.Do (lvalue_at l) (op.Store (of.Int (integer_kind l))) ∷ [] in
      let back : AddsWhere P (converted at kind (integer_kind l) ++ store) = adds_both f first P (converted at kind (integer_kind l)) store (converted_adds P at kind (integer_kind l)) (λ rest holds sit. (refl, (tt, sit))) in
      let done = done_adds P at (op.Binary RightFirst (number_operator sign) kind) _ back in
      let there = adds_both f first P (converted at (integer_kind l) kind) _ (converted_adds P at (integer_kind l) kind) done in
      adds_both f first P (sides l e (of.Int (integer_kind l))) _ (λ rest holds sit. (refl, (holds.0, (holds.1, (tt, sit))))) there

  kept_adds : (P : Lives → Type 0) (keeps : Bool) → AddsWhere P (kept keeps)
  kept_adds P true = λ rest holds sit. (refl, (tt, sit))
  kept_adds P false = λ rest holds sit. (refl, sit)

  store_adds : (P : Lives → Type 0) (l : LvalueTree) (kind : declared.Scalar) (keeps : Bool) → AddsWhere P (store_step l kind keeps)
  store_adds P l kind true = λ rest holds sit. (refl, (tt, sit))
  store_adds P l kind false = λ rest holds sit. (refl, (tt, sit))

  step_adds : (at : Place) (sign : StepOp) (kind : IntType) (l : LvalueTree) (keeps : Bool) → AddsWhere (λ alive. ScopedPlace alive l) (step at sign kind l keeps)
  step_adds at sign kind l keeps =
      let P : Lives → Type 0 = λ alive. ScopedPlace alive l in
      let store : List Item = store_step l (of.Int (integer_kind l)) keeps in
      let back : AddsWhere P (converted at kind (integer_kind l) ++ store) = adds_both f first P (converted at kind (integer_kind l)) store (converted_adds P at kind (integer_kind l)) (store_adds P l (of.Int (integer_kind l)) keeps) in
      let done = done_adds P at (op.BinaryByOne (step_operator sign) kind) _ back in
      let there = adds_both f first P (converted at (integer_kind l) kind) _ (converted_adds P at (integer_kind l) kind) done in
      let over = adds_both f first P (kept keeps) _ (kept_adds P keeps) there in
      adds_both f first P (target l (of.Int (integer_kind l))) _ (λ rest holds sit. (refl, (holds, (tt, sit)))) over

  pointer_step_adds : (at : Place) (sign : StepOp) (size : ℕ) (l : LvalueTree) (keeps : Bool) → AddsWhere (λ alive. ScopedPlace alive l) (pointer_step at sign size l keeps)
  pointer_step_adds at sign size l keeps =
      let P : Lives → Type 0 = λ alive. ScopedPlace alive l in
      let done = done_adds P at (op.ShiftByOne size (is_backward sign)) _ (store_adds P l of.Pointer keeps) in
      let over = adds_both f first P (kept keeps) _ (kept_adds P keeps) done in
      adds_both f first P (target l of.Pointer) _ (λ rest holds sit. (refl, (holds, (tt, sit)))) over

  -- ---- choices and calls

  logical_adds : (sign : LogicalOp) (a b : TermTree) → AddsWhere (λ alive. ScopedTerm alive a × ScopedTerm alive b) (logical sign a b)
  logical_adds And a b = λ rest holds sit. (refl, (holds.0, ((refl, (holds.1, ((refl, (tt, tt), refl, (tt, tt)), tt)), refl, (tt, tt)), sit)))
  logical_adds Or a b = λ rest holds sit. (refl, (holds.0, ((refl, (tt, tt), refl, (holds.1, ((refl, (tt, tt), refl, (tt, tt)), tt))), sit)))

  arm_leads : (used : Bool) (e : TermTree) (others rest : List Item) → ScopedTerm (lives f first rest) e → Leads f first others rest → Leads f first (arm used e ∷ others) rest
  arm_leads true e others rest scoped leads = (leads.0, (subst (λ alive. ScopedTerm alive e) (sym leads.0) scoped, leads.1))
  arm_leads false e others rest scoped leads = (leads.0, (subst (λ alive. ScopedTerm alive e) (sym leads.0) scoped, leads.1))

  conditional_adds : (used : Bool) (c a b : TermTree) → AddsWhere (λ alive. ScopedTerm alive c × ScopedTerm alive a × ScopedTerm alive b) (conditional u used c a b)
  conditional_adds used c a b rest holds sit = condition_leads u f first true c (arm used a ∷ (item.Hop ∷ [])) (arm used b ∷ []) rest holds.0 (arm_leads used a (item.Hop ∷ []) rest holds.1 (refl, (tt, sit))) (arm_leads used b [] rest holds.2 (refl, sit))

  library_adds : (at : Place) (function : LibFn) (args : tree.TermTrees) (allocated : Option Ty) → AddsWhere (λ alive. ScopedArguments alive args) (library_items at function args allocated)
  library_adds at function args allocated = adds_both f first (λ alive. ScopedArguments alive args) (arguments args) _ (arguments_add f first args) (λ rest holds sit. (refl, (tt, sit)))

  call_adds : (at : Place) (g : ℕ) (args : tree.TermTrees) (is_used : Bool) → AddsWhere (λ alive. ScopedArguments alive args) (arguments args ++ item.Invoke at g (argument_count args) is_used ∷ [])
  call_adds at g args is_used = adds_both f first (λ alive. ScopedArguments alive args) (arguments args) _ (arguments_add f first args) (λ rest holds sit. (refl, (tt, sit)))

  -- ---- terms

  module _ (used : Bool) (e : TermTree) where
    abbrev FormAdds : FormTree → List Item → Type 0
    FormAdds form items = AddsWhere (λ alive. ScopedForm alive form) items

    form_adds : (form : FormTree) → FormAdds form (of_form u used e form)
    form_adds (tree.Number n) = adds_if_used f first (λ alive. ScopedForm alive (tree.Number n)) used _ (λ rest s sit. (refl, (tt, sit)))
    form_adds (tree.SizeofType n is_pointer) = adds_if_used f first (λ alive. ScopedForm alive (tree.SizeofType n is_pointer)) used _ (λ rest s sit. (refl, (tt, sit)))
    form_adds (tree.Sizeof n operand is_pointer) = adds_if_used f first (λ alive. ScopedForm alive (tree.Sizeof n operand is_pointer)) used _ (λ rest s sit. (refl, (tt, sit)))
    form_adds (tree.Load l) = adds_if_used f first (λ alive. ScopedForm alive (tree.Load l)) used _ (λ rest s sit. (refl, (s, (tt, sit))))
    form_adds (tree.AddressOf l) = adds_if_used f first (λ alive. ScopedForm alive (tree.AddressOf l)) used _ (λ rest s sit. (refl, (s, sit)))
    form_adds (tree.Decay l) = adds_if_used f first (λ alive. ScopedForm alive (tree.Decay l)) used _ (λ rest s sit. (refl, (s, (tt, sit))))
    form_adds (tree.Convert kind a) = adds_if_used f first (λ alive. ScopedForm alive (tree.Convert kind a)) used _ (λ rest s sit. (refl, (s, (tt, sit))))
    form_adds (tree.Discard a) = λ rest s sit. (refl, (s, sit))
    form_adds (tree.Plus a) = adds_if_used f first (λ alive. ScopedForm alive (tree.Plus a)) used _ (λ rest s sit. (refl, (s, sit)))
    form_adds (tree.Minus a) = adds_if_used f first (λ alive. ScopedForm alive (tree.Minus a)) used _ (λ rest s sit. (refl, (s, (tt, sit))))
    form_adds (tree.Complement a) = adds_if_used f first (λ alive. ScopedForm alive (tree.Complement a)) used _ (λ rest s sit. (refl, (s, (tt, sit))))
    form_adds (tree.Not a) = adds_if_used f first (λ alive. ScopedForm alive (tree.Not a)) used _ (λ rest s sit. (refl, (s, (tt, sit))))
    form_adds (tree.Integer sign a b) = adds_if_used f first (λ alive. ScopedForm alive (tree.Integer sign a b)) used _ (λ rest s sit. (refl, (s.0, (s.1, (tt, sit)))))
    form_adds (tree.Shift back size a b) = adds_if_used f first (λ alive. ScopedForm alive (tree.Shift back size a b)) used _ (λ rest s sit. (refl, (s.0, (s.1, (tt, sit)))))
    form_adds (tree.Difference size a b) = adds_if_used f first (λ alive. ScopedForm alive (tree.Difference size a b)) used _ (λ rest s sit. (refl, (s.0, (s.1, (tt, sit)))))
    form_adds (tree.Compare sign a b) = adds_if_used f first (λ alive. ScopedForm alive (tree.Compare sign a b)) used _ (λ rest s sit. (refl, (s.0, (s.1, (tt, sit)))))
    form_adds (tree.Logical sign a b) = adds_if_used f first (λ alive. ScopedForm alive (tree.Logical sign a b)) used _ (logical_adds sign a b)
    form_adds (tree.Conditional c a b) = conditional_adds used c a b
    form_adds (tree.Comma a b) = λ rest s sit. let later : Leads f first (arm used b ∷ []) rest = arm_leads used b [] rest s.1 (refl, sit) in (later.0, (subst (λ alive. ScopedTerm alive a) (sym later.0) s.0, later.1))
    form_adds (tree.Assign l a) = adds_if_used f first (λ alive. ScopedForm alive (tree.Assign l a)) used _ (λ rest s sit. (refl, (s.0, (s.1, (tt, sit)))))
    form_adds (tree.Compound sign kind l a) = adds_if_used f first (λ alive. ScopedForm alive (tree.Compound sign kind l a)) used _ (compound_adds (term_at e) (meaning sign) (integer_type kind) l a)
    form_adds (tree.CompoundShift back size l a) = adds_if_used f first (λ alive. ScopedForm alive (tree.CompoundShift back size l a)) used _ (λ rest s sit. (refl, (s.0, (s.1, (tt, (tt, (tt, sit)))))))
    form_adds (tree.Step sign time kind l) = adds_if_used f first (λ alive. ScopedForm alive (tree.Step sign time kind l)) used _ (step_adds (term_at e) sign (integer_type kind) l (keeps_old time used))
    form_adds (tree.StepPointer sign time size l) = adds_if_used f first (λ alive. ScopedForm alive (tree.StepPointer sign time size l)) used _ (pointer_step_adds (term_at e) sign size l (keeps_old time used))
    form_adds (tree.Struct l) = adds_if_used f first (λ alive. ScopedForm alive (tree.Struct l)) used _ (λ rest s sit. (refl, (s, sit)))
    form_adds (tree.Call g args is_used) = adds_left_if f first (λ alive. ScopedArguments alive args) is_used used _ (call_adds (term_at e) g args is_used)
    form_adds (tree.Library function args allocated) = adds_left_if f first (λ alive. ScopedArguments alive args) (gives function) used _ (library_adds (term_at e) function args allocated)

  pub term_adds : (used : Bool) (e : TermTree) → AddsWhere (λ alive. ScopedTerm alive e) (term_items u used e)
  term_adds used (Typed at t parens fixed form) = form_adds used (Typed at t parens fixed form) form
