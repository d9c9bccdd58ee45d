-- Operands, as contracts see them: what an expression is to the operator above it (6.3.2.1).
use Rattle.std.specs.Prelude.{ℕ, ℤ, pos, ◌+◌, ◌==◌, Bool, true, false, ◌&&◌, ◌||◌, cond, Option, Some, None}
use Rattle.std.specs.Int.{w32, int_min, saturate_unsigned}
use Rattle.std.specs.Ordering.{int_eq}
use Rattle.std.specs.Global.{Box}
use Rattle.cc_base.specs.declared.diagnostics.Place.{Place}
use Rattle.c_types_operands.specs.declared.operands.LvalueUse.{LvalueUse}
use Rattle.c_types_operands.specs.declared.operands.LvalueUse.TheVariants as uses
use Rattle.c_layout.specs.Types.{view, Ty, Int, Pointer, Array, Struct, Void}
use Rattle.c_layout.specs.CheckedTrees as tree
use Rattle.c_layout.specs.CheckedTrees.{TermTree, FormTree, LvalueTree, LvalueFormTree, term_tree, lvalue_tree}
use Rattle.c_layout.specs.declared.type_terms.CType.{CType}
use Rattle.c_layout.specs.declared.checked_tree.checked_terms.ConversionKind.TheVariants as kind
use Rattle.c_layout.specs.declared.checked_tree.checked_terms.LvalueForm.{LvalueForm}
use Rattle.c_layout.specs.declared.checked_tree.checked_terms.TermForm.{TermForm}
use Rattle.c_layout.specs.declared.checked_tree.checked_terms.Lvalue.{Lvalue}
use Rattle.c_layout.specs.declared.checked_tree.checked_terms.CheckedTerm.{CheckedTerm}
use Rattle.c_types_operands.specs.declared.operands.Form.{Form}
use Rattle.c_types_operands.specs.declared.operands.Form.TheVariants as form
use Rattle.c_types_operands.specs.declared.operands.Operand.{Operand}
use Rattle.c_types_operands.specs.declared.operands.Value.{Value}

pub data OperandForm : Type 0 where
  AsValue : (term : TermTree) → OperandForm
  AsLvalue : (lvalue : LvalueTree) → OperandForm

-- what an expression is, whether it has the form of an integer constant expression, and the enumerated
-- type that its declaration names
pub record OperandView : Type 0 where
  pub form : OperandForm
  pub fixed : Bool
  pub enumeration : Option ℕ

-- a value, and whether it has the form of an integer constant expression
pub record ValueView : Type 0 where
  pub term : TermTree
  pub fixed : Bool

abbrev pub form_view : Form → OperandForm
form_view (form.Value term) = AsValue (term_tree term.value)
form_view (form.Lvalue lvalue) = AsLvalue (lvalue_tree lvalue.value)

abbrev pub operand_view : Operand → OperandView
operand_view o = record { form = form_view o.form; fixed = o.fixed; enumeration = o.enumeration }

abbrev pub value_view : Value → ValueView
value_view v = record { term = term_tree v.term.value; fixed = v.fixed }

-- ---- the parts of terms and lvalues

abbrev pub term_place : TermTree → Place
term_place (tree.Typed at t parens constant f) = at

abbrev pub term_type : TermTree → Ty
term_type (tree.Typed at t parens constant f) = t

abbrev pub term_constant : TermTree → Option ℤ
term_constant (tree.Typed at t parens constant f) = constant

abbrev pub lvalue_type : LvalueTree → Ty
lvalue_type (tree.Designates at t parens f) = t

-- ---- what rules make

-- a term without parentheses that is no constant
abbrev pub made : Place → CType → TermForm → CheckedTerm
made at t f = record { place = at; ctype = t; parens = 0; constant = None; form = f }

abbrev pub made_lvalue : Place → CType → LvalueForm → Lvalue
made_lvalue at t f = record { place = at; ctype = t; parens = 0; form = f }

abbrev pub node : Place → Ty → FormTree → TermTree
node at t f = tree.Typed at t 0 None f

abbrev pub with_constant : Option ℤ → TermTree → TermTree
with_constant constant (tree.Typed at t parens had f) = tree.Typed at t parens constant f

abbrev pub plain : TermTree → OperandView
plain e = record { form = AsValue e; fixed = false; enumeration = None }

-- a value that may be a constant
abbrev pub number : TermTree → Option ℤ → Bool → OperandView
number e constant fixed = record { form = AsValue (with_constant (cond fixed constant None) e); fixed = fixed; enumeration = None }

abbrev pub lvalue : LvalueTree → Option ℕ → OperandView
lvalue l enumeration = record { form = AsLvalue l; fixed = false; enumeration = enumeration }

-- a pair of parentheses more
abbrev pub one_more : ℕ → ℕ
one_more n = saturate_unsigned w32 (pos (n + 1))

abbrev pub wrapped : OperandForm → OperandForm
wrapped (AsValue (tree.Typed at t parens constant f)) = AsValue (tree.Typed at t (one_more parens) constant f)
wrapped (AsLvalue (tree.Designates at t parens f)) = AsLvalue (tree.Designates at t (one_more parens) f)

abbrev pub parenthesized : OperandView → OperandView
parenthesized o = record o { form = wrapped o.form }

-- ---- values of lvalues

-- what becomes of an lvalue, and the type of its value
pub data UseView : Type 0 where
  Decays : (ctype : Ty) → UseView
  Begins : (ctype : Ty) → UseView
  Stays : (ctype : Ty) → UseView
  Loads : (ctype : Ty) → UseView

abbrev pub use_view : LvalueUse → UseView
use_view (uses.Decay t) = Decays (view t)
use_view (uses.Begin t) = Begins (view t)
use_view (uses.Struct t) = Stays (view t)
use_view (uses.Load t) = Loads (view t)

-- where an array has no length yet, the pointer to its first element reaches as far as the object does in the end
abbrev pub array_use : ℕ → Ty → UseView
array_use count t = cond (count == 0) (Begins t) (Decays t)

-- an array becomes a pointer to its first element, a struct stays what it is, a scalar is loaded
abbrev pub use_of : Ty → UseView
use_of (Array element count) = array_use count (Pointer element)
use_of (Struct i) = Stays (Struct i)
use_of (Int k) = Loads (Int k)
use_of (Pointer t) = Loads (Pointer t)
use_of Void = Loads Void

abbrev pub loaded : Place → Ty → ℕ → LvalueTree → TermTree
loaded at t parens l = tree.Typed at t parens None (tree.Load l)

abbrev pub value_by : Place → ℕ → LvalueTree → UseView → TermTree
value_by at parens l (Decays t) = node at t (tree.Decay l)
value_by at parens l (Begins t) = node at t (tree.AddressOf l)
value_by at parens l (Stays t) = node at t (tree.Struct l)
value_by at parens l (Loads t) = loaded at t parens l

abbrev pub lvalue_value : LvalueTree → TermTree
lvalue_value (tree.Designates at t parens f) = value_by at parens (tree.Designates at t parens f) (use_of t)

abbrev pub form_value : OperandForm → Bool → ValueView
form_value (AsValue e) fixed = record { term = e; fixed = fixed }
form_value (AsLvalue l) fixed = record { term = lvalue_value l; fixed = false }

abbrev pub value_of : OperandView → ValueView
value_of o = form_value o.form o.fixed

abbrev pub term_of : OperandView → TermTree
term_of o = (value_of o).term

-- the value of a struct assignment or of a comma expression may not be assigned to, nor may a member of it
abbrev mutual
  pub is_lvalue : LvalueTree → Bool
  is_lvalue (tree.Designates at t parens f) = is_lvalue_form f

  pub is_lvalue_form : LvalueFormTree → Bool
  is_lvalue_form (tree.Object object) = true
  is_lvalue_form (tree.Literal index) = true
  is_lvalue_form (tree.Target pointer) = true
  is_lvalue_form (tree.Member whole offset) = is_lvalue whole
  is_lvalue_form (tree.Copied target source) = false
  is_lvalue_form (tree.Then first last) = false

abbrev pub if_lvalue : LvalueTree → Option LvalueTree
if_lvalue l = cond (is_lvalue l) (Some l) None

abbrev pub own_form : OperandForm → Option LvalueTree
own_form (AsLvalue l) = if_lvalue l
own_form (AsValue e) = None

-- the lvalue that an operand is, where it may be assigned to or its address be taken
abbrev pub own_lvalue : OperandView → Option LvalueTree
own_lvalue o = own_form o.form

-- ---- scalars and null pointer constants

abbrev pub is_scalar : Ty → Bool
is_scalar (Int k) = true
is_scalar (Pointer t) = true
is_scalar _ = false

abbrev pub is_integer : Ty → Bool
is_integer (Int k) = true
is_integer _ = false

abbrev pub is_0 : Option ℤ → Bool
is_0 None = false
is_0 (Some n) = int_eq n (pos 0)

abbrev pub is_void : Ty → Bool
is_void Void = true
is_void _ = false

abbrev pub is_void_pointer : Ty → Bool
is_void_pointer (Pointer t) = is_void t
is_void_pointer _ = false

abbrev pub is_struct : Ty → Bool
is_struct (Struct i) = true
is_struct _ = false

-- the constant 0
abbrev pub is_zero : TermTree → Bool
is_zero e = is_integer (term_type e) && is_0 (term_constant e)

abbrev pub is_null_cast : Ty → FormTree → Bool
is_null_cast t (tree.Convert kind.Cast e) = is_void_pointer t && is_zero e
is_null_cast t _ = false

abbrev pub is_null_form : TermTree → Bool
is_null_form (tree.Typed at t parens constant f) = is_null_cast t f

-- a null pointer constant (6.3.2.3): the constant 0, or one cast to a pointer to void
abbrev pub is_null : TermTree → Bool
is_null e = is_zero e || is_null_form e

-- ---- what stands behind a box

abbrev pub boxed_term : Box CheckedTerm → TermTree
boxed_term b = term_tree b.value

abbrev pub boxed_lvalue : Box Lvalue → LvalueTree
boxed_lvalue b = lvalue_tree b.value
