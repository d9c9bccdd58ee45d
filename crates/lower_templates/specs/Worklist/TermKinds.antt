-- What terms and types are to the control-flow program.
use Rattle.std.specs.Prelude.{ℕ, ℤ, pos, Bool, true, false, not, ◌&&◌, ◌||◌, cond, nat_le, nat_lt, Option, Some, None}
use Rattle.std.specs.Ordering.{int_eq}
use Rattle.std.specs.Borrow.{Bor}
use Rattle.cc_base.specs.declared.diagnostics.Place.{Place}
use Rattle.cc_base.specs.declared.integer_operators.IntOp.{IntOp}
use Rattle.cc_base.specs.declared.integer_operators.IntOp.TheVariants.{Add, Sub, Mul, Div, Rem, And, Or, Xor, Shl, Shr}
use Rattle.cc_base.specs.declared.integer_operators.Rel.{Rel}
use Rattle.cc_base.specs.declared.integer_operators.Rel.TheVariants.{Lt, Le, Gt, Ge, Eq, Ne}
use Rattle.cc_base.specs.declared.int_types.IntType.{IntType}
use Rattle.c_layout.specs.Types.{Ty, Int, Pointer, Array, Struct, Void}
use Rattle.c_layout.specs.CheckedTrees as tree
use Rattle.c_layout.specs.CheckedTrees.{TermTree, FormTree, Typed, term_tree, LvalueTree, LvalueFormTree, Designates, lvalue_tree}
use Rattle.c_layout.specs.declared.checked_tree.checked_terms.CheckedTerm.{CheckedTerm}
use Rattle.c_layout.specs.declared.checked_tree.checked_terms.Lvalue.{Lvalue}
use Rattle.c_layout.specs.declared.syntax_tree.expressions.BinaryOp.{BinaryOp}
use Rattle.c_layout.specs.declared.syntax_tree.expressions.BinaryOp.TheVariants as op
use Rattle.c_layout.specs.declared.syntax_tree.expressions.StepOp.{StepOp}
use Rattle.c_layout.specs.declared.syntax_tree.expressions.StepOp.TheVariants.{Increment, Decrement}
use Rattle.c_layout.specs.declared.checked_tree.checked_terms.ConversionKind.{ConversionKind}
use Rattle.c_layout.specs.declared.checked_tree.checked_terms.ConversionKind.TheVariants.{Implicit, Cast}
use Rattle.cfg.specs.declared.machine_instructions.Scalar.{Scalar}
use Rattle.cfg.specs.declared.machine_instructions.Scalar.TheVariants as scalar
use Rattle.lower_templates.specs.declared.worklist.term_kinds.OperatorMeaning.{OperatorMeaning}
use Rattle.lower_templates.specs.declared.worklist.term_kinds.OperatorMeaning.TheVariants.{Number, Truth}

-- the meaning of a binary operator on integers (6.5.5 to 6.5.12)
abbrev pub meaning : BinaryOp → OperatorMeaning
meaning op.Multiply = Number Mul
meaning op.Divide = Number Div
meaning op.Remainder = Number Rem
meaning op.Add = Number Add
meaning op.Subtract = Number Sub
meaning op.ShiftLeft = Number Shl
meaning op.ShiftRight = Number Shr
meaning op.Less = Truth Lt
meaning op.Greater = Truth Gt
meaning op.LessEqual = Truth Le
meaning op.GreaterEqual = Truth Ge
meaning op.Equal = Truth Eq
meaning op.NotEqual = Truth Ne
meaning op.And = Number And
meaning op.Xor = Number Xor
meaning op.Or = Number Or

-- the relation of a meaning; that of `!=` for a number
abbrev pub relation_of : OperatorMeaning → Rel
relation_of (Truth rel) = rel
relation_of (Number sign) = Ne

abbrev pub relation : BinaryOp → Rel
relation sign = relation_of (meaning sign)

-- the relation that holds where this one does not
abbrev pub opposite : Rel → Rel
opposite Lt = Ge
opposite Le = Gt
opposite Gt = Le
opposite Ge = Lt
opposite Eq = Ne
opposite Ne = Eq

-- the relation with its sides exchanged
abbrev pub turned : Rel → Rel
turned Lt = Gt
turned Le = Ge
turned Gt = Lt
turned Ge = Le
turned Eq = Eq
turned Ne = Ne

-- `++` adds 1 and `--` subtracts it (6.5.2.4)
abbrev pub step_operator : StepOp → IntOp
step_operator Increment = Add
step_operator Decrement = Sub

abbrev pub is_backward : StepOp → Bool
is_backward Increment = false
is_backward Decrement = true

-- the scalar type of a value
abbrev pub scalar_of : Ty → Scalar
scalar_of (Int kind) = scalar.Int kind
scalar_of (Pointer t) = scalar.Pointer
scalar_of (Array t n) = scalar.Pointer
scalar_of (Struct i) = scalar.Pointer
scalar_of Void = scalar.Pointer

abbrev pub rank_of_int : IntType
rank_of_int = record { bytes = 4; signed = true; rank = 3 }

-- the integer type of a value
abbrev pub integer_type : Ty → IntType
integer_type (Int kind) = kind
integer_type (Pointer t) = rank_of_int
integer_type (Array t n) = rank_of_int
integer_type (Struct i) = rank_of_int
integer_type Void = rank_of_int

abbrev pub struct_number : Ty → ℕ
struct_number (Int kind) = 0
struct_number (Pointer t) = 0
struct_number (Array t n) = 0
struct_number (Struct i) = i
struct_number Void = 0

abbrev pub is_void : Ty → Bool
is_void (Int kind) = false
is_void (Pointer t) = false
is_void (Array t n) = false
is_void (Struct i) = false
is_void Void = true

-- the type of a comparison of an integer type with int (6.3.1.8), where int has so many bytes
abbrev pub common_with_int : IntType → ℕ → IntType
common_with_int kind bytes = cond (nat_le 3 kind.rank) kind (record { bytes = bytes; signed = kind.signed || nat_lt kind.bytes bytes; rank = 3 })

abbrev pub term_at : TermTree → Place
term_at (Typed at t parens constant form) = at

abbrev pub term_type : TermTree → Ty
term_type (Typed at t parens constant form) = t

abbrev pub term_constant : TermTree → Option ℤ
term_constant (Typed at t parens constant form) = constant

abbrev pub term_form : TermTree → FormTree
term_form (Typed at t parens constant form) = form

abbrev pub lvalue_at : LvalueTree → Place
lvalue_at (Designates at t parens form) = at

abbrev pub lvalue_type : LvalueTree → Ty
lvalue_type (Designates at t parens form) = t

abbrev pub lvalue_form : LvalueTree → LvalueFormTree
lvalue_form (Designates at t parens form) = form

-- a term without the implicit conversions round it
abbrev pub peeled : TermTree → TermTree
peeled (Typed at t parens constant (tree.Convert Implicit e)) = peeled e
peeled e = e

abbrev pub is_zero : Option ℤ → Bool
is_zero None = false
is_zero (Some n) = int_eq n (pos 0)

abbrev pub is_void_pointer : Ty → Bool
is_void_pointer (Int kind) = false
is_void_pointer (Pointer t) = is_void t
is_void_pointer (Array t n) = false
is_void_pointer (Struct i) = false
is_void_pointer Void = false

abbrev pub seen_term : Option (Bor CheckedTerm) → Option TermTree
seen_term None = None
seen_term (Some e) = Some (term_tree e.now)

abbrev pub seen_lvalue : Option (Bor Lvalue) → Option LvalueTree
seen_lvalue None = None
seen_lvalue (Some l) = Some (lvalue_tree l.now)

-- what a conversion converts
abbrev pub converted : FormTree → Option TermTree
converted (tree.Convert kind e) = Some e
converted _ = None

-- the lvalue whose value a term is
abbrev pub loaded : FormTree → Option LvalueTree
loaded (tree.Load l) = Some l
loaded _ = None

-- the lvalue that a term assigns to by `=`
abbrev pub assigned : FormTree → Option LvalueTree
assigned (tree.Assign l e) = Some l
assigned _ = None

-- 0, or a conversion of 0 to a pointer to void (6.3.2.3)
abbrev pub is_zero_cast : Ty → Option TermTree → Bool
is_zero_cast t None = false
is_zero_cast t (Some e) = is_void_pointer t && is_zero (term_constant e)

abbrev pub is_null_term : TermTree → Bool
is_null_term (Typed at t parens constant form) = is_zero constant || is_zero_cast t (converted form)

-- whether a term is a null pointer constant
abbrev pub is_null_constant : TermTree → Bool
is_null_constant e = is_null_term (peeled e)
