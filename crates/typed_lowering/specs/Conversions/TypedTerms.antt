-- Terms that convert no pointer but 0, and whose pointers point to what their types say.
use Rattle.std.specs.Prelude.{ℕ, pos, ◌==◌, Bool, true, false, ◌&&◌, ◌||◌, nat_lt, List, [], ◌∷◌, length, take, Option, Some, None, slice_get}
use Rattle.std.specs.List.{list_any}
use Rattle.std.specs.Ordering.{int_eq}
use Rattle.c_layout.specs.CheckedTrees as tree
use Rattle.c_layout.specs.CheckedTrees.{TermTree, TermTrees, Typed, FormTree, LvalueTree, LvalueFormTree, Designates}
use Rattle.c_layout.specs.CheckedUnits.{LocalView, FunctionView, LiteralView, UnitView}
use Rattle.c_layout.specs.Layout.{size_of_type}
use Rattle.c_layout.specs.StructViews.{FieldView, StructView, struct_at}
use Rattle.c_layout.specs.Types.{Ty, Int, Pointer, Array, Struct, Void, same_type}
use Rattle.lower_objects.specs.Counts.SharedObjects.{literal_type}
use Rattle.lower_templates.specs.Worklist.TermKinds.{term_type, lvalue_type, is_void}
use Rattle.lower_preconditions.specs.Units.RegularStatements.{object_type}

-- ---- types

abbrev pub is_integer : Ty → Bool
is_integer (Int k) = nat_lt 0 k.bytes
is_integer t = false

abbrev pub is_struct : Ty → Bool
is_struct (Struct i) = true
is_struct t = false

-- a scalar that has bytes
abbrev pub is_scalar : Ty → Bool
is_scalar (Int k) = nat_lt 0 k.bytes
is_scalar (Pointer t) = true
is_scalar t = false

abbrev pub points_to : Ty → Ty → Bool
points_to (Pointer t) s = same_type t s
points_to t s = false

-- a pointer to the element of an array
abbrev pub points_into : Ty → Ty → Bool
points_into t (Array e n) = points_to t e
points_into t s = false

abbrev pub has_type : Ty → Option Ty → Bool
has_type t None = false
has_type t (Some s) = same_type s t

abbrev pub literal_or : UnitView → Option LiteralView → Option Ty
literal_or u None = None
literal_or u (Some l) = Some (literal_type u.model.char_signed (length l.bytes))

-- a member of the structure stands at the offset and has the type
abbrev pub has_member : List StructView → Ty → ℕ → Ty → Bool
has_member structs (Struct i) offset t = list_any (λ (m : FieldView). (m.offset == offset) && same_type m.ctype t) (struct_at structs i).fields
has_member structs s offset t = false

-- ---- 0 and null

abbrev pub is_zero_form : Ty → FormTree → Bool
is_zero_form (Int k) (tree.Number n) = int_eq n (pos 0)
is_zero_form t form = false

abbrev pub is_zero : TermTree → Bool
is_zero (Typed at t parens constant form) = is_zero_form t form

abbrev mutual
  -- 0 that is converted to a pointer, however often
  pub is_null : TermTree → Bool
  is_null (Typed at t parens constant form) = is_null_form t form

  pub is_null_form : Ty → FormTree → Bool
  is_null_form (Pointer t) (tree.Convert kind a) = is_zero a || is_null a
  is_null_form t form = false

-- a value of the term is one of the type: of a pointer or a structure just that type, or null
abbrev pub fits : Ty → TermTree → Bool
fits (Pointer t) e = is_null e || same_type (term_type e) (Pointer t)
fits (Struct i) e = same_type (term_type e) (Struct i)
fits t e = true

-- a value that is stored as a scalar of the type
abbrev pub is_stored_as : Ty → TermTree → Bool
is_stored_as (Int k) e = nat_lt 0 k.bytes && same_type (term_type e) (Int k)
is_stored_as (Pointer t) e = same_type (term_type e) (Pointer t)
is_stored_as t e = false

-- 0, null and pointers to the type are converted to a pointer; whatever is converted to an integer
abbrev pub converts : Ty → TermTree → Bool
converts (Int k) a = true
converts (Pointer t) a = is_zero a || (is_null a || same_type (term_type a) (Pointer t))
converts t a = false

abbrev pub integer_first : Ty → TermTree → TermTree → TermTree
integer_first (Int k) a b = b
integer_first t a b = a

-- the operand that is the pointer, in either order
abbrev pub pointer_of : TermTree → TermTree → TermTree
pointer_of a b = integer_first (term_type a) a b

-- ---- functions that are called

abbrev pub local_types : List LocalView → List Ty
local_types [] = []
local_types (l ∷ ls) = l.ctype ∷ local_types ls

abbrev pub parameter_types : FunctionView → List Ty
parameter_types f = local_types (take f.parameters f.locals)

abbrev pub are_passed : List Ty → TermTrees → Bool
are_passed [] tree.End = true
are_passed (t ∷ ts) (tree.More e rest) = is_stored_as t e && are_passed ts rest
are_passed ts es = false

-- the type of a call is that of the result, which is a scalar or none
abbrev pub gives_type : Ty → Ty → Bool
gives_type s t = (is_void s || is_scalar s) && same_type s t

abbrev pub is_typed_call : Ty → TermTrees → Option FunctionView → Bool
is_typed_call t es None = false
is_typed_call t es (Some g) = are_passed (parameter_types g) es && gives_type g.returns t

-- ---- terms

module _ (u : UnitView) (f : FunctionView) where
  abbrev pub size : Ty → ℕ
  size t = size_of_type u.structs u.model.pointer t

  -- a pointer that is moved by elements of the size
  abbrev pub moves : Ty → ℕ → Bool
  moves (Pointer e) n = (n == size e) && nat_lt 0 n
  moves t n = false

  abbrev mutual
    pub is_typed_term : TermTree → Bool
    is_typed_term (Typed at t parens constant form) = is_typed_form t form

    pub is_typed_form : Ty → FormTree → Bool
    is_typed_form t (tree.Number n) = is_integer t
    is_typed_form t (tree.SizeofType n is_pointer) = is_integer t
    is_typed_form t (tree.Sizeof n operand is_pointer) = is_integer t
    is_typed_form t (tree.Load l) = is_typed_place l && (is_scalar t && same_type t (lvalue_type l))
    is_typed_form t (tree.AddressOf l) = is_typed_place l && points_to t (lvalue_type l)
    is_typed_form t (tree.Decay l) = is_typed_place l && (points_into t (lvalue_type l) && nat_lt 0 (size (lvalue_type l)))
    is_typed_form t (tree.Convert kind a) = is_typed_term a && converts t a
    is_typed_form t (tree.Discard a) = is_typed_term a
    is_typed_form t (tree.Plus a) = is_typed_term a && is_integer t
    is_typed_form t (tree.Minus a) = is_typed_term a && is_integer t
    is_typed_form t (tree.Complement a) = is_typed_term a && is_integer t
    is_typed_form t (tree.Not a) = is_typed_term a && is_integer t
    is_typed_form t (tree.Integer sign a b) = is_integer t && (is_typed_term a && is_typed_term b)
    is_typed_form t (tree.Shift back n a b) = (moves t n && same_type (term_type (pointer_of a b)) t) && (is_typed_term a && is_typed_term b)
    is_typed_form t (tree.Difference n a b) = is_integer t && (is_typed_term a && is_typed_term b)
    is_typed_form t (tree.Compare sign a b) = is_integer t && (is_typed_term a && is_typed_term b)
    is_typed_form t (tree.Logical sign a b) = is_integer t && (is_typed_term a && is_typed_term b)
    is_typed_form t (tree.Conditional c a b) = is_typed_term c && ((is_typed_term a && fits t a) && (is_typed_term b && fits t b))
    is_typed_form t (tree.Comma a b) = is_typed_term a && (is_typed_term b && fits t b)
    is_typed_form t (tree.Assign l a) = (is_typed_place l && is_typed_term a) && (is_stored_as (lvalue_type l) a && same_type t (lvalue_type l))
    is_typed_form t (tree.Compound sign kind l a) = (is_integer t && is_integer (lvalue_type l)) && (is_typed_place l && is_typed_term a)
    is_typed_form t (tree.CompoundShift back n l a) = (moves t n && same_type t (lvalue_type l)) && (is_typed_place l && is_typed_term a)
    is_typed_form t (tree.Step sign time kind l) = (is_integer t && is_integer (lvalue_type l)) && is_typed_place l
    is_typed_form t (tree.StepPointer sign time n l) = (moves t n && same_type t (lvalue_type l)) && is_typed_place l
    is_typed_form t (tree.Struct l) = is_typed_place l && (is_struct t && same_type t (lvalue_type l))
    is_typed_form t (tree.Call function es is_used) = are_typed_terms es && is_typed_call t es (slice_get u.functions function)
    is_typed_form t (tree.Library function es target) = are_typed_terms es && (is_integer t || same_type t Void)

    pub are_typed_terms : TermTrees → Bool
    are_typed_terms tree.End = true
    are_typed_terms (tree.More e rest) = is_typed_term e && are_typed_terms rest

    pub is_typed_place : LvalueTree → Bool
    is_typed_place (Designates at t parens form) = is_typed_designator t form

    pub is_typed_designator : Ty → LvalueFormTree → Bool
    is_typed_designator t (tree.Object o) = has_type t (object_type u f o)
    is_typed_designator t (tree.Literal n) = has_type t (literal_or u (slice_get u.literals n))
    is_typed_designator t (tree.Target e) = is_typed_term e && points_to (term_type e) t
    is_typed_designator t (tree.Member outer offset) = is_typed_place outer && (has_member u.structs (lvalue_type outer) offset t && nat_lt 0 (size t))
    is_typed_designator t (tree.Copied to from) = (is_typed_place to && is_typed_place from) && ((is_struct t && nat_lt 0 (size t)) && (same_type t (lvalue_type to) && same_type t (lvalue_type from)))
    is_typed_designator t (tree.Then first last) = is_typed_term first && (is_typed_place last && same_type t (lvalue_type last))
