-- The items of terms fit wherever they stand.
use Rattle.std.proofs.Common.{ℕ, Bool, true, false, cond, List, [], ◌∷◌, ◌++◌, Option}
use Rattle.cc_base.specs.declared.diagnostics.Place.{Place}
use Rattle.cc_base.specs.declared.int_types.IntType.{IntType}
use Rattle.c_layout.specs.Types.{Ty, same_kind}
use Rattle.c_layout.specs.CheckedTrees as tree
use Rattle.c_layout.specs.CheckedTrees.{TermTree, Typed, FormTree, LvalueTree, Designates}
use Rattle.c_layout.specs.CheckedUnits.{UnitView, FunctionView}
use Rattle.c_layout.specs.declared.library_functions.LibFn.{LibFn}
use Rattle.c_layout.specs.declared.syntax_tree.expressions.LogicalOp.{LogicalOp}
use Rattle.c_layout.specs.declared.syntax_tree.expressions.LogicalOp.TheVariants.{And, Or}
use Rattle.c_layout.specs.declared.syntax_tree.expressions.StepOp.{StepOp}
use Rattle.cfg.specs.declared.machine_instructions.Scalar as declared
use Rattle.cfg.specs.declared.machine_instructions.Scalar.TheVariants as of
use Rattle.lower_templates.specs.Worklist.TermKinds.{meaning, step_operator, is_backward, integer_type, term_at, lvalue_at}
use Rattle.lower_templates.specs.declared.worklist.term_kinds.OperatorMeaning.{OperatorMeaning}
use Rattle.lower_expressions.specs.Assignments.{keeps_old, number_operator}
use Rattle.lower_expressions.specs.Calls.{gives}
use Rattle.semantics.specs.SourceMachine.Operations as op
use Rattle.semantics.specs.SourceMachine.Operations.{RightFirst}
use Rattle.semantics.specs.SourceMachine.Items as item
use Rattle.semantics.specs.SourceMachine.Items.{Item}
use Rattle.semantics.specs.SourceMachine.TermItems.{address_items, integer_kind, converted, compound, kept, store_step, step, pointer_step, arguments, argument_count, library_items}
use Rattle.semantics.specs.SourceMachine.ConditionItems.{logical, arm, conditional, of_form, term_items}
use Rattle.source_items.specs.Returns.Leavings.{Fit}
use Rattle.source_items.proofs.returns.Fitting.{Adds, adds_both, adds_if_used, adds_left_if}
use Rattle.source_items.proofs.returns.FittingConditions.{arguments_add, condition_fits}

module _ (u : UnitView) (f : FunctionView) where
  pub address_adds : (l : LvalueTree) → Adds f (address_items u l)
  address_adds (Designates at t parens (tree.Object o)) = λ rest fit. (tt, fit)
  address_adds (Designates at t parens (tree.Literal n)) = λ rest fit. (tt, fit)
  address_adds (Designates at t parens (tree.Target e)) = λ rest fit. (tt, fit)
  address_adds (Designates at t parens (tree.Member outer offset)) = λ rest fit. (tt, (tt, fit))
  address_adds (Designates at t parens (tree.Copied to from)) = λ rest fit. (tt, (tt, (tt, fit)))
  address_adds (Designates at t parens (tree.Then left right)) = λ rest fit. (tt, (tt, fit))

  -- ---- assignments and steps

  converted_adds : (at : Place) (old new : IntType) → Adds f (converted at old new)
  converted_adds at old new = by (same_kind old new)
    where
      by : (b : Bool) → Adds f (cond b [] (item.Do at (op.Convert (of.Int new)) ∷ []))
      by true = λ rest fit. fit
      by false = λ rest fit. (tt, fit)

  compound_adds : (at : Place) (sign : OperatorMeaning) (kind : IntType) (l : LvalueTree) (e : TermTree) → Adds f (compound at sign kind l e)
  compound_adds at sign kind l e =
      let store : List Item = item.Do (lvalue_at l) (op.Store (of.Int (integer_kind l))) ∷ [] in
      let back : Adds f (converted at kind (integer_kind l) ++ store) = adds_both f (converted at kind (integer_kind l)) store (converted_adds at kind (integer_kind l)) (λ rest fit. (tt, fit)) in
      let done : Adds f (item.Do at (op.Binary RightFirst (number_operator sign) kind) ∷ (converted at kind (integer_kind l) ++ store)) = λ rest fit. (tt, back rest fit) in
      λ rest fit. (tt, (tt, (tt, adds_both f (converted at (integer_kind l) kind) _ (converted_adds at (integer_kind l) kind) done rest fit)))

  kept_adds : (keeps : Bool) → Adds f (kept keeps)
  kept_adds true = λ rest fit. (tt, fit)
  kept_adds false = λ rest fit. fit

  store_adds : (l : LvalueTree) (kind : declared.Scalar) (keeps : Bool) → Adds f (store_step l kind keeps)
  store_adds l kind true = λ rest fit. (tt, fit)
  store_adds l kind false = λ rest fit. (tt, fit)

  step_adds : (at : Place) (sign : StepOp) (kind : IntType) (l : LvalueTree) (keeps : Bool) → Adds f (step at sign kind l keeps)
  step_adds at sign kind l keeps =
      let store : List Item = store_step l (of.Int (integer_kind l)) keeps in
      let back : Adds f (converted at kind (integer_kind l) ++ store) = adds_both f (converted at kind (integer_kind l)) store (converted_adds at kind (integer_kind l)) (store_adds l (of.Int (integer_kind l)) keeps) in
      let done : Adds f (item.Do at (op.BinaryByOne (step_operator sign) kind) ∷ (converted at kind (integer_kind l) ++ store)) = λ rest fit. (tt, back rest fit) in
      let there : Adds f (converted at (integer_kind l) kind ++ (item.Do at (op.BinaryByOne (step_operator sign) kind) ∷ (converted at kind (integer_kind l) ++ store))) = adds_both f (converted at (integer_kind l) kind) _ (converted_adds at (integer_kind l) kind) done in
      λ rest fit. (tt, (tt, adds_both f (kept keeps) _ (kept_adds keeps) there rest fit))

  pointer_step_adds : (at : Place) (sign : StepOp) (size : ℕ) (l : LvalueTree) (keeps : Bool) → Adds f (pointer_step at sign size l keeps)
  pointer_step_adds at sign size l keeps =
      let done : Adds f (item.Do at (op.ShiftByOne size (is_backward sign)) ∷ store_step l of.Pointer keeps) = λ rest fit. (tt, store_adds l of.Pointer keeps rest fit) in
      λ rest fit. (tt, (tt, adds_both f (kept keeps) _ (kept_adds keeps) done rest fit))

  -- ---- choices and calls

  logical_adds : (sign : LogicalOp) (a b : TermTree) → Adds f (logical sign a b)
  logical_adds And a b = λ rest fit. (tt, (((tt, (((tt, tt), (tt, tt)), tt)), (tt, tt)), fit))
  logical_adds Or a b = λ rest fit. (tt, (((tt, tt), (tt, (((tt, tt), (tt, tt)), tt))), fit))

  arm_adds : (used : Bool) (e : TermTree) (others : List Item) → Fit f others → Fit f (arm used e ∷ others)
  arm_adds true e others fit = (tt, fit)
  arm_adds false e others fit = (tt, fit)

  conditional_adds : (used : Bool) (c a b : TermTree) → Adds f (conditional u used c a b)
  conditional_adds used c a b rest fit = condition_fits u f true c (arm used a ∷ (item.Hop ∷ [])) (arm used b ∷ []) rest (arm_adds used a (item.Hop ∷ rest) (tt, fit)) (arm_adds used b rest fit)

  library_adds : (at : Place) (function : LibFn) (args : tree.TermTrees) (allocated : Option Ty) → Adds f (library_items at function args allocated)
  library_adds at function args allocated = adds_both f (arguments args) _ (arguments_add f args) (λ rest fit. (tt, fit))

  call_adds : (at : Place) (g : ℕ) (args : tree.TermTrees) (is_used : Bool) → Adds f (arguments args ++ item.Invoke at g (argument_count args) is_used ∷ [])
  call_adds at g args is_used = adds_both f (arguments args) _ (arguments_add f args) (λ rest fit. (tt, fit))

  -- ---- terms

  form_adds : (used : Bool) (e : TermTree) (form : FormTree) → Adds f (of_form u used e form)
  form_adds used e (tree.Load l) = adds_if_used f used _ (λ rest fit. (tt, (tt, fit)))
  form_adds used e (tree.Decay l) = adds_if_used f used _ (λ rest fit. (tt, (tt, fit)))
  form_adds used e (tree.Convert kind a) = adds_if_used f used _ (λ rest fit. (tt, (tt, fit)))
  form_adds used e (tree.Discard a) = λ rest fit. (tt, fit)
  form_adds used e (tree.Minus a) = adds_if_used f used _ (λ rest fit. (tt, (tt, fit)))
  form_adds used e (tree.Complement a) = adds_if_used f used _ (λ rest fit. (tt, (tt, fit)))
  form_adds used e (tree.Not a) = adds_if_used f used _ (λ rest fit. (tt, (tt, fit)))
  form_adds used e (tree.Integer sign a b) = adds_if_used f used _ (λ rest fit. (tt, (tt, (tt, fit))))
  form_adds used e (tree.Shift back size a b) = adds_if_used f used _ (λ rest fit. (tt, (tt, (tt, fit))))
  form_adds used e (tree.Difference size a b) = adds_if_used f used _ (λ rest fit. (tt, (tt, (tt, fit))))
  form_adds used e (tree.Compare sign a b) = adds_if_used f used _ (λ rest fit. (tt, (tt, (tt, fit))))
  form_adds used e (tree.Logical sign a b) = adds_if_used f used _ (logical_adds sign a b)
  form_adds used e (tree.Conditional c a b) = conditional_adds used c a b
  form_adds used e (tree.Comma a b) = λ rest fit. (tt, arm_adds used b rest fit)
  form_adds used e (tree.Assign l a) = adds_if_used f used _ (λ rest fit. (tt, (tt, (tt, fit))))
  form_adds used e (tree.Compound sign kind l a) = adds_if_used f used _ (compound_adds (term_at e) (meaning sign) (integer_type kind) l a)
  form_adds used e (tree.CompoundShift back size l a) = adds_if_used f used _ (λ rest fit. (tt, (tt, (tt, (tt, (tt, fit))))))
  form_adds used e (tree.Step sign time kind l) = adds_if_used f used _ (step_adds (term_at e) sign (integer_type kind) l (keeps_old time used))
  form_adds used e (tree.StepPointer sign time size l) = adds_if_used f used _ (pointer_step_adds (term_at e) sign size l (keeps_old time used))
  form_adds used e (tree.Call g args is_used) = adds_left_if f is_used used _ (call_adds (term_at e) g args is_used)
  form_adds used e (tree.Library function args allocated) = adds_left_if f (gives function) used _ (library_adds (term_at e) function args allocated)
  form_adds used e other = adds_if_used f used _ (λ rest fit. (tt, fit))

  pub term_adds : (used : Bool) (e : TermTree) → Adds f (term_items u used e)
  term_adds used (Typed at t parens fixed form) = form_adds used (Typed at t parens fixed form) form
