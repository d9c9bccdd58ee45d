-- Terms and lvalues whose operands have the kinds that their operators take.
use Rattle.std.specs.Prelude.{◌≡◌, ℕ, ◌+◌, Bool, true, false, List, [], ◌∷◌, Option, Some, slice_get}
use Rattle.c_layout.specs.Types.{Ty}
use Rattle.c_layout.specs.CheckedTrees as tree
use Rattle.c_layout.specs.CheckedTrees.{TermTree, TermTrees, Typed, LvalueTree, Designates}
use Rattle.c_layout.specs.CheckedUnits.{FunctionView, UnitView}
use Rattle.c_layout.specs.declared.checked_tree.checked_terms.ObjectRef.{ObjectRef}
use Rattle.c_layout.specs.declared.checked_tree.checked_terms.ObjectRef.TheVariants.{Static, Local}
use Rattle.c_layout.specs.declared.library_functions.LibFn.{LibFn}
use Rattle.lower_templates.specs.Worklist.TermKinds.{is_void, scalar_of, term_type, lvalue_type}
use Rattle.lower_expressions.specs.Calls.{gives}
use Rattle.lower_functions.specs.Functions.Functions.{local_type}
use Rattle.semantics.specs.SourceMachine.TermItems.{order_of}
use Rattle.semantics.specs.SourceMachine.SourceStates.{function_at}
use Rattle.source_items.specs.Operations.Kinds.{Kind, Number, Address, kind_of_type}
use Rattle.source_items.specs.Operations.TakenKinds.{Accepts, result_kind, pointer_and_number, convertible}

-- something is there
abbrev pub IsThere : {A : Type 0} → Option A → Type 0
IsThere o = (x : _) × (o ≡ Some x)

abbrev pub term_kind : TermTree → Kind
term_kind e = kind_of_type (term_type e)

abbrev pub lvalue_kind : LvalueTree → Kind
lvalue_kind l = kind_of_type (lvalue_type l)

abbrev pub local_kind : FunctionView → ℕ → Kind
local_kind f n = kind_of_type (local_type f n)

-- an object of static storage is one of the unit
abbrev pub HasObject : UnitView → ObjectRef → Type 0
HasObject u (Static n) = IsThere (slice_get u.objects n)
HasObject u (Local n) = Unit {0}

-- ---- calls

abbrev pub argument_kinds : TermTrees → List Kind
argument_kinds tree.End = []
argument_kinds (tree.More e rest) = term_kind e ∷ argument_kinds rest

-- the arguments from one on are of the kinds of their parameters
abbrev pub HaveParameters : FunctionView → ℕ → TermTrees → Type 0
HaveParameters f n tree.End = n ≡ f.parameters
HaveParameters f n (tree.More e rest) = (term_kind e ≡ local_kind f n) × HaveParameters f (n + 1) rest

-- a call's value is used only where the call gives it, and is that of its function
pub record CallsFunction (u : UnitView) (used is_used : Bool) (t : Ty) (g : ℕ) (args : TermTrees) : Type 0 where
  pub function : FunctionView
  pub is : function_at u g ≡ Some function
  pub arguments : HaveParameters function 0 args
  pub given : used ≡ true → is_used ≡ true
  pub result : is_used ≡ true → (is_void function.returns ≡ false) × (kind_of_type t ≡ kind_of_type function.returns)

pub record CallsLibrary (used : Bool) (t : Ty) (function : LibFn) (args : TermTrees) : Type 0 where
  pub accepts : Accepts function (argument_kinds args)
  pub given : used ≡ true → gives function ≡ true
  pub result : gives function ≡ true → kind_of_type t ≡ result_kind function

-- ---- terms

module _ (u : UnitView) where
  abbrev mutual
    -- a term whose value is used or not
    pub KindedTerm : Bool → TermTree → Type 0
    KindedTerm used (Typed at t parens fixed (tree.Number n)) = kind_of_type t ≡ Number
    KindedTerm used (Typed at t parens fixed (tree.SizeofType n is_pointer)) = kind_of_type t ≡ Number
    KindedTerm used (Typed at t parens fixed (tree.Sizeof n operand is_pointer)) = kind_of_type t ≡ Number
    KindedTerm used (Typed at t parens fixed (tree.Load l)) = KindedPlace l × (lvalue_kind l ≡ kind_of_type t)
    KindedTerm used (Typed at t parens fixed (tree.AddressOf l)) = KindedPlace l × (kind_of_type t ≡ Address)
    KindedTerm used (Typed at t parens fixed (tree.Decay l)) = KindedPlace l × (kind_of_type t ≡ Address)
    KindedTerm used (Typed at t parens fixed (tree.Convert sort a)) = KindedTerm true a × convertible (scalar_of t) (term_kind a)
    KindedTerm used (Typed at t parens fixed (tree.Discard a)) = KindedTerm false a × (used ≡ false)
    KindedTerm used (Typed at t parens fixed (tree.Plus a)) = KindedTerm true a × (term_kind a ≡ Number) × (kind_of_type t ≡ Number)
    KindedTerm used (Typed at t parens fixed (tree.Minus a)) = KindedTerm true a × (term_kind a ≡ Number) × (kind_of_type t ≡ Number)
    KindedTerm used (Typed at t parens fixed (tree.Complement a)) = KindedTerm true a × (term_kind a ≡ Number) × (kind_of_type t ≡ Number)
    KindedTerm used (Typed at t parens fixed (tree.Not a)) = KindedTerm true a × (kind_of_type t ≡ Number)
    KindedTerm used (Typed at t parens fixed (tree.Integer sign a b)) = KindedTerm true a × KindedTerm true b × (term_kind a ≡ Number) × (term_kind b ≡ Number) × (kind_of_type t ≡ Number)
    KindedTerm used (Typed at t parens fixed (tree.Shift back size a b)) = KindedTerm true a × KindedTerm true b × (term_kind b ∷ (term_kind a ∷ []) ≡ pointer_and_number (order_of (term_type a))) × (kind_of_type t ≡ Address)
    KindedTerm used (Typed at t parens fixed (tree.Difference size a b)) = KindedTerm true a × KindedTerm true b × (term_kind a ≡ Address) × (term_kind b ≡ Address) × (kind_of_type t ≡ Number)
    KindedTerm used (Typed at t parens fixed (tree.Compare sign a b)) = KindedTerm true a × KindedTerm true b × (term_kind a ≡ Address) × (term_kind b ≡ Address) × (kind_of_type t ≡ Number)
    KindedTerm used (Typed at t parens fixed (tree.Logical sign a b)) = KindedTerm true a × KindedTerm true b × (kind_of_type t ≡ Number)
    KindedTerm used (Typed at t parens fixed (tree.Conditional c a b)) = KindedTerm true c × KindedTerm used a × KindedTerm used b × (term_kind a ≡ kind_of_type t) × (term_kind b ≡ kind_of_type t)
    KindedTerm used (Typed at t parens fixed (tree.Comma a b)) = KindedTerm false a × KindedTerm used b × (term_kind b ≡ kind_of_type t)
    KindedTerm used (Typed at t parens fixed (tree.Assign l a)) = KindedPlace l × KindedTerm true a × (term_kind a ≡ lvalue_kind l) × (lvalue_kind l ≡ kind_of_type t)
    KindedTerm used (Typed at t parens fixed (tree.Compound sign sort l a)) = KindedPlace l × KindedTerm true a × (term_kind a ≡ Number) × (lvalue_kind l ≡ Number) × (kind_of_type t ≡ Number)
    KindedTerm used (Typed at t parens fixed (tree.CompoundShift back size l a)) = KindedPlace l × KindedTerm true a × (term_kind a ≡ Number) × (lvalue_kind l ≡ Address) × (kind_of_type t ≡ Address)
    KindedTerm used (Typed at t parens fixed (tree.Step sign time sort l)) = KindedPlace l × (lvalue_kind l ≡ Number) × (kind_of_type t ≡ Number)
    KindedTerm used (Typed at t parens fixed (tree.StepPointer sign time size l)) = KindedPlace l × (lvalue_kind l ≡ Address) × (kind_of_type t ≡ Address)
    KindedTerm used (Typed at t parens fixed (tree.Struct l)) = KindedPlace l × (kind_of_type t ≡ Address)
    KindedTerm used (Typed at t parens fixed (tree.Call g args is_used)) = KindedTerms args × CallsFunction u used is_used t g args
    KindedTerm used (Typed at t parens fixed (tree.Library function args allocated)) = KindedTerms args × CallsLibrary used t function args

    pub KindedPlace : LvalueTree → Type 0
    KindedPlace (Designates at t parens (tree.Object o)) = HasObject u o
    KindedPlace (Designates at t parens (tree.Literal n)) = IsThere (slice_get u.literals n)
    KindedPlace (Designates at t parens (tree.Target e)) = KindedTerm true e × (term_kind e ≡ Address)
    KindedPlace (Designates at t parens (tree.Member outer offset)) = KindedPlace outer
    KindedPlace (Designates at t parens (tree.Copied target source)) = KindedPlace target × KindedPlace source
    KindedPlace (Designates at t parens (tree.Then left right)) = KindedTerm false left × KindedPlace right

    -- arguments
    pub KindedTerms : TermTrees → Type 0
    KindedTerms tree.End = Unit {0}
    KindedTerms (tree.More e rest) = KindedTerm true e × KindedTerms rest
