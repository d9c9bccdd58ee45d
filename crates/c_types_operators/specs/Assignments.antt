-- Assignments (6.5.16).
use Rattle.std.specs.Prelude.{ℕ, Bool, true, false, cond, Option, Some, None, Ok, Err}
use Rattle.cc_base.specs.declared.diagnostics.Place.{Place}
use Rattle.cc_base.specs.declared.int_types.IntType.{IntType}
use Rattle.c_layout.specs.Types.{Ty, Int, Struct, same_type}
use Rattle.c_layout.specs.CheckedTrees as tree
use Rattle.c_layout.specs.CheckedTrees.{TermTree, LvalueTree}
use Rattle.c_layout.specs.declared.syntax_tree.expressions.BinaryOp.{BinaryOp}
use Rattle.c_layout.specs.declared.syntax_tree.expressions.BinaryOp.TheVariants as op
use Rattle.c_layout.specs.declared.syntax_tree.expressions.AssignOp.{AssignOp}
use Rattle.c_layout.specs.declared.syntax_tree.expressions.AssignOp.TheVariants as assign
use Rattle.c_types_rules.specs.Rules.IntegerKinds.{promoted, common}
use Rattle.c_types_scopes.specs.Known.{Known, size_of}
use Rattle.c_types_scopes.specs.Refusals.{Ruled, type_fault}
use Rattle.c_types_operands.specs.Operands.{OperandView, OperandForm, AsValue, AsLvalue, node, plain, lvalue, term_of, own_lvalue, lvalue_type, term_type, is_scalar, is_integer, is_struct}
use Rattle.c_types_operands.specs.Conversions.{integer_as, assigned}
use Rattle.c_types_operands.specs.Arithmetic.{integer_kinds}
use Rattle.c_types_operands.specs.PointerArithmetic.{target_size}
use Rattle.c_types_operands.specs.declared.arithmetic.KindPair.{KindPair}
use Rattle.c_types_operators.specs.declared.assignments.CompoundKind.{CompoundKind}
use Rattle.c_types_operators.specs.declared.assignments.CompoundKind.TheVariants as compound

abbrev pub source_if : LvalueTree → Ty → Option LvalueTree
source_if l t = cond (same_type (lvalue_type l) t) (Some l) None

abbrev pub source_form : OperandForm → Ty → Option LvalueTree
source_form (AsLvalue l) t = source_if l t
source_form (AsValue e) t = None

-- the lvalue that an operand is, where it has a type
abbrev pub struct_source : OperandView → Ty → Option LvalueTree
struct_source o t = source_form o.form t

abbrev pub source_of_size : OperandView → Ty → Option ℕ → Option LvalueTree
source_of_size o t None = None
source_of_size o t (Some size) = struct_source o t

-- the lvalue of a complete struct type that is assigned
abbrev pub complete_source : Known → OperandView → Ty → Option LvalueTree
complete_source k o t = source_of_size o t (size_of k t)

abbrev pub copied_from : Place → LvalueTree → Option LvalueTree → Ruled OperandView
copied_from at left None = type_fault at
copied_from at left (Some source) = Ok (lvalue (tree.Designates at (lvalue_type left) 0 (tree.Copied left source)) None)

-- the assignment of a struct: its value is its left side
abbrev pub copied : Known → Place → LvalueTree → OperandView → Ruled OperandView
copied k at left right = copied_from at left (complete_source k right (lvalue_type left))

abbrev pub simple_by : Place → LvalueTree → Ruled TermTree → Ruled OperandView
simple_by at left (Err f) = Err f
simple_by at left (Ok e) = Ok (plain (node at (lvalue_type left) (tree.Assign left e)))

-- the simple assignment of a scalar
abbrev pub simple : Known → Place → LvalueTree → OperandView → Ruled OperandView
simple k at left right = simple_by at left (assigned k at (term_of right) (lvalue_type left))

-- ---- compound assignments

abbrev pub promoted_compound : Known → KindPair → CompoundKind
promoted_compound k kinds = compound.Integer (promoted k.numbers kinds.left) (promoted k.numbers kinds.right)

abbrev pub common_compound : Known → KindPair → CompoundKind
common_compound k kinds = compound.Integer (common k.numbers kinds.left kinds.right) (common k.numbers kinds.left kinds.right)

-- the types of a compound assignment of an integer: the common one, or for a shift the promoted ones
abbrev pub integer_compound : Known → BinaryOp → KindPair → CompoundKind
integer_compound k op.ShiftLeft kinds = promoted_compound k kinds
integer_compound k op.ShiftRight kinds = promoted_compound k kinds
integer_compound k _ kinds = common_compound k kinds

abbrev pub pointer_step : Bool → Option ℕ → Option CompoundKind
pointer_step down None = None
pointer_step down (Some size) = Some (compound.Pointer down size)

-- `+=` or `-=` of a pointer to a complete type
abbrev pub moved_pointer : Known → BinaryOp → Ty → Option CompoundKind
moved_pointer k op.Add left = pointer_step false (target_size k left)
moved_pointer k op.Subtract left = pointer_step true (target_size k left)
moved_pointer k _ left = None

abbrev pub pointer_compound : Known → BinaryOp → Ty → Ty → Option CompoundKind
pointer_compound k sign left right = cond (is_integer right) (moved_pointer k sign left) None

abbrev pub compound_by : Known → BinaryOp → Ty → Ty → Option KindPair → Option CompoundKind
compound_by k sign left right (Some kinds) = Some (integer_compound k sign kinds)
compound_by k sign left right None = pointer_compound k sign left right

-- how a compound assignment of two types is computed
abbrev pub compound_kind : Known → BinaryOp → Ty → Ty → Option CompoundKind
compound_kind k sign left right = compound_by k sign left right (integer_kinds left right)

abbrev pub compound_number : Known → Place → BinaryOp → KindPair → LvalueTree → TermTree → Ruled OperandView
compound_number k at sign kinds left right = Ok (plain (node at (lvalue_type left) (tree.Compound sign (Int kinds.left) left (integer_as k right kinds.right))))

abbrev pub compound_move : Place → Bool → ℕ → LvalueTree → TermTree → Ruled OperandView
compound_move at down size left right = Ok (plain (node at (lvalue_type left) (tree.CompoundShift down size left right)))

abbrev pub compound_as : Known → Place → BinaryOp → LvalueTree → TermTree → Option CompoundKind → Ruled OperandView
compound_as k at sign left right None = type_fault at
compound_as k at sign left right (Some (compound.Integer computed kind)) = compound_number k at sign (record { left = computed; right = kind }) left right
compound_as k at sign left right (Some (compound.Pointer down size)) = compound_move at down size left right

abbrev pub compound_of : Known → Place → BinaryOp → LvalueTree → TermTree → Ruled OperandView
compound_of k at sign left right = compound_as k at sign left right (compound_kind k sign (lvalue_type left) (term_type right))

abbrev pub compound_with : Known → Place → BinaryOp → LvalueTree → OperandView → Ruled OperandView
compound_with k at sign left right = compound_of k at sign left (term_of right)

-- a simple assignment to an lvalue
abbrev pub assigned_to : Known → Place → LvalueTree → OperandView → Ruled OperandView
assigned_to k at left right = cond (is_struct (lvalue_type left)) (copied k at left right) (cond (is_scalar (lvalue_type left)) (simple k at left right) (type_fault at))

abbrev pub assignment_by : Known → Place → AssignOp → LvalueTree → OperandView → Ruled OperandView
assignment_by k at assign.Simple left right = assigned_to k at left right
assignment_by k at (assign.Compound sign) left right = compound_with k at sign left right

abbrev pub assignment_to : Known → Place → AssignOp → OperandView → Option LvalueTree → Ruled OperandView
assignment_to k at how right None = type_fault at
assignment_to k at how right (Some left) = assignment_by k at how left right

-- an assignment
abbrev pub assignment : Known → Place → AssignOp → OperandView → OperandView → Ruled OperandView
assignment k at how left right = assignment_to k at how right (own_lvalue left)
