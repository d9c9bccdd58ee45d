-- The items of terms: operands from left to right, and then the operator.
use Rattle.std.specs.Prelude.{ℕ, ◌+◌, Bool, true, false, cond, List, [], ◌∷◌, ◌++◌, Option}
use Rattle.cc_base.specs.declared.diagnostics.Place.{Place}
use Rattle.cc_base.specs.declared.int_types.IntType.{IntType}
use Rattle.c_layout.specs.Types.{Ty, Int, same_kind}
use Rattle.c_layout.specs.CheckedTrees as tree
use Rattle.c_layout.specs.CheckedTrees.{TermTree, TermTrees, LvalueTree, Designates}
use Rattle.c_layout.specs.CheckedUnits.{UnitView}
use Rattle.c_layout.specs.declared.library_functions.LibFn.{LibFn}
use Rattle.c_layout.specs.declared.syntax_tree.expressions.StepOp.{StepOp}
use Rattle.cfg.specs.declared.machine_instructions.Scalar.TheVariants as of
use Rattle.cfg.specs.declared.machine_instructions.Scalar as declared
use Rattle.lower_templates.specs.Worklist.TermKinds.{step_operator, is_backward, scalar_of, integer_type, lvalue_at, lvalue_type}
use Rattle.lower_templates.specs.declared.worklist.term_kinds.OperatorMeaning.{OperatorMeaning}
use Rattle.lower_templates.specs.declared.worklist.term_kinds.OperatorMeaning.TheVariants as meant
use Rattle.lower_expressions.specs.Assignments.{number_operator}
use Rattle.semantics.specs.SourceMachine.Operations as op
use Rattle.semantics.specs.SourceMachine.Operations.{Order, LeftFirst, RightFirst, Operation, size_of}
use Rattle.semantics.specs.SourceMachine.Items.{Item, Value, Unused, Address, Do, Again, Drop, Object, Literal}

-- ---- lvalues

abbrev pub address_items : UnitView → LvalueTree → List Item
address_items u (Designates at t parens (tree.Object o)) = Object at o 0 ∷ []
address_items u (Designates at t parens (tree.Literal n)) = Literal at n ∷ []
address_items u (Designates at t parens (tree.Target e)) = Value e ∷ []
address_items u (Designates at t parens (tree.Member outer offset)) = Address outer ∷ (Do at (op.Narrow offset (size_of u t)) ∷ [])
address_items u (Designates at t parens (tree.Copied target source)) = Address target ∷ (Address source ∷ (Do (lvalue_at target) (op.Copy (lvalue_type target)) ∷ []))
address_items u (Designates at t parens (tree.Then left right)) = Unused left ∷ (Address right ∷ [])

-- ---- operators

-- a value that is not used is dropped
abbrev pub if_used : Bool → List Item → List Item
if_used true items = items
if_used false items = items ++ Drop ∷ []

abbrev pub lvalue_kind : LvalueTree → declared.Scalar
lvalue_kind l = scalar_of (lvalue_type l)

abbrev pub integer_kind : LvalueTree → IntType
integer_kind l = integer_type (lvalue_type l)

abbrev pub operating : OperatorMeaning → Ty → Operation
operating (meant.Number sign) t = op.Binary LeftFirst sign (integer_type t)
operating (meant.Truth rel) t = op.Compare rel

-- in a sum of a pointer and an integer either may stand first
abbrev pub order_of : Ty → Order
order_of (Int kind) = RightFirst
order_of t = LeftFirst

-- a conversion is a step only where the types differ
abbrev pub converted : Place → IntType → IntType → List Item
converted at old new = cond (same_kind old new) [] (Do at (op.Convert (of.Int new)) ∷ [])

-- ---- assignments

abbrev pub assignment : LvalueTree → TermTree → List Item
assignment l e = Address l ∷ (Value e ∷ (Do (lvalue_at l) (op.Store (lvalue_kind l)) ∷ []))

-- the address is formed once, then the right value is computed, then the old value is loaded
abbrev pub sides : LvalueTree → TermTree → declared.Scalar → List Item
sides l e kind = Address l ∷ (Value e ∷ (Do (lvalue_at l) (op.LoadUnder kind) ∷ []))

-- the right value lies below the old one
abbrev pub compound : Place → OperatorMeaning → IntType → LvalueTree → TermTree → List Item
compound at sign kind l e =
    sides l e (of.Int (integer_kind l))
    ++ (converted at (integer_kind l) kind
    ++ (Do at (op.Binary RightFirst (number_operator sign) kind)
    ∷ (converted at kind (integer_kind l)
    ++ Do (lvalue_at l) (op.Store (of.Int (integer_kind l))) ∷ [])))

abbrev pub compound_shift : Place → Bool → ℕ → LvalueTree → TermTree → List Item
compound_shift at back size l e = sides l e of.Pointer ++ (Do at (op.Shift RightFirst size back) ∷ (Do (lvalue_at l) (op.Store of.Pointer) ∷ []))

-- ---- steps

-- the old value of a postfix step that is used stays below the new one
abbrev pub kept : Bool → List Item
kept true = Again ∷ []
kept false = []

abbrev pub store_step : LvalueTree → declared.Scalar → Bool → List Item
store_step l kind true = Do (lvalue_at l) (op.StoreOver kind) ∷ []
store_step l kind false = Do (lvalue_at l) (op.Store kind) ∷ []

abbrev pub target : LvalueTree → declared.Scalar → List Item
target l kind = Address l ∷ (Do (lvalue_at l) (op.LoadOver kind) ∷ [])

abbrev pub step : Place → StepOp → IntType → LvalueTree → Bool → List Item
step at sign kind l keeps =
    target l (of.Int (integer_kind l))
    ++ (kept keeps
    ++ (converted at (integer_kind l) kind
    ++ (Do at (op.BinaryByOne (step_operator sign) kind)
    ∷ (converted at kind (integer_kind l)
    ++ store_step l (of.Int (integer_kind l)) keeps))))

abbrev pub pointer_step : Place → StepOp → ℕ → LvalueTree → Bool → List Item
pointer_step at sign size l keeps = target l of.Pointer ++ (kept keeps ++ (Do at (op.ShiftByOne size (is_backward sign)) ∷ store_step l of.Pointer keeps))

-- ---- calls

abbrev pub arguments : TermTrees → List Item
arguments tree.End = []
arguments (tree.More e rest) = Value e ∷ arguments rest

abbrev pub argument_count : TermTrees → ℕ
argument_count tree.End = 0
argument_count (tree.More e rest) = argument_count rest + 1

abbrev pub library_items : Place → LibFn → TermTrees → Option Ty → List Item
library_items at function args allocated = arguments args ++ Do at (op.Library function (argument_count args) allocated) ∷ []

-- what a call leaves is dropped where it is not used
abbrev pub left_if : Bool → Bool → List Item → List Item
left_if gives used items = cond gives (if_used used items) items
