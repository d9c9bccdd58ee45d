-- Whether a term of a function names what is there, calls what may be called as it does, takes values only from what has
-- some, copies structs alone, and needs no more temporaries than there are numbers. What is not evaluated is not looked at.
use Rattle.std.specs.Prelude.{ℕ, ◌+◌, ◌-◌, ◌^◌, ◌==◌, Bool, true, false, not, ◌&&◌, ◌||◌, nat_le, nat_lt, length, slice_get, Option, Some, None}
use Rattle.c_layout.specs.Types.{Ty, Int, Pointer, Array, Struct, Void}
use Rattle.c_layout.specs.CheckedTrees as tree
use Rattle.c_layout.specs.CheckedTrees.{TermTree, TermTrees, Typed, LvalueTree, Designates}
use Rattle.c_layout.specs.CheckedUnits.{FunctionView, UnitView}
use Rattle.c_layout.specs.declared.checked_tree.checked_terms.ObjectRef.{ObjectRef}
use Rattle.c_layout.specs.declared.checked_tree.checked_terms.ObjectRef.TheVariants as ref
use Rattle.c_layout.specs.declared.library_functions.LibFn.{LibFn}
use Rattle.lower_templates.specs.Worklist.TermKinds.{is_void, lvalue_type}
use Rattle.lower_expressions.specs.Calls.{gives, reads_line}

-- the greatest number of 32 bits is that of a temporary still
abbrev pub has_room : ℕ → Bool
has_room temps = nat_le temps (2 ^ 32 - 1)

-- two operands, of which the second one has a temporary behind that of the first one
abbrev pub are_behind : ℕ → Bool → Bool → Bool
are_behind depth first second = first && (has_room (depth + 1) && second)

abbrev pub is_struct : Ty → Bool
is_struct (Int k) = false
is_struct (Pointer t) = false
is_struct (Array t n) = false
is_struct (Struct i) = true
is_struct Void = false

abbrev pub has_local : FunctionView → ℕ → Bool
has_local f n = nat_lt n (length f.locals)

-- an object that is named is one of the unit or of the function
abbrev pub has_object : UnitView → FunctionView → ObjectRef → Bool
has_object u f (ref.Static n) = nat_lt n (length u.objects)
has_object u f (ref.Local n) = has_local f n

abbrev pub has_literal : UnitView → ℕ → Bool
has_literal u n = nat_lt n (length u.literals)

-- a function that is called is there and has as many parameters as arguments; its value is taken where it is used, and
-- only if it has one
abbrev pub is_callable : Bool → Bool → ℕ → Option FunctionView → Bool
is_callable used is_used count None = false
is_callable used is_used count (Some f) = f.parameters == count && ((not used || is_used) && (not is_used || not (is_void f.returns)))

-- a library call whose value is used gives one, and a line is read with three arguments
abbrev pub is_library_call : Bool → ℕ → LibFn → Bool
is_library_call used count function = (not used || gives function) && (not (reads_line function) || count == 3)

abbrev pub argument_count : TermTrees → ℕ
argument_count tree.End = 0
argument_count (tree.More e rest) = argument_count rest + 1

abbrev mutual
  -- a term whose value is used or not, and behind whose temporaries so many others are taken
  pub is_regular_term : UnitView → FunctionView → Bool → ℕ → TermTree → Bool
  is_regular_term u f used d (Typed at t parens constant (tree.Number n)) = true
  is_regular_term u f used d (Typed at t parens constant (tree.SizeofType n is_pointer)) = true
  is_regular_term u f used d (Typed at t parens constant (tree.Sizeof n operand is_pointer)) = true
  is_regular_term u f used d (Typed at t parens constant (tree.Load l)) = is_regular_place u f d l
  is_regular_term u f used d (Typed at t parens constant (tree.AddressOf l)) = is_regular_place u f d l
  is_regular_term u f used d (Typed at t parens constant (tree.Decay l)) = is_regular_place u f d l
  is_regular_term u f used d (Typed at t parens constant (tree.Convert kind a)) = is_regular_term u f true d a
  is_regular_term u f used d (Typed at t parens constant (tree.Discard a)) = not used && is_regular_term u f false d a
  is_regular_term u f used d (Typed at t parens constant (tree.Plus a)) = is_regular_term u f true d a
  is_regular_term u f used d (Typed at t parens constant (tree.Minus a)) = is_regular_term u f true d a
  is_regular_term u f used d (Typed at t parens constant (tree.Complement a)) = is_regular_term u f true d a
  is_regular_term u f used d (Typed at t parens constant (tree.Not a)) = is_regular_term u f true d a
  is_regular_term u f used d (Typed at t parens constant (tree.Integer sign a b)) = are_behind d (is_regular_term u f true d a) (is_regular_term u f true (d + 1) b)
  is_regular_term u f used d (Typed at t parens constant (tree.Shift back size a b)) = are_behind d (is_regular_term u f true d a) (is_regular_term u f true (d + 1) b)
  is_regular_term u f used d (Typed at t parens constant (tree.Difference size a b)) = are_behind d (is_regular_term u f true d a) (is_regular_term u f true (d + 1) b)
  is_regular_term u f used d (Typed at t parens constant (tree.Compare sign a b)) = are_behind d (is_regular_term u f true d a) (is_regular_term u f true (d + 1) b)
  is_regular_term u f used d (Typed at t parens constant (tree.Logical sign a b)) = is_regular_term u f true d a && is_regular_term u f true d b
  is_regular_term u f used d (Typed at t parens constant (tree.Conditional c a b)) = is_regular_term u f true d c && (is_regular_term u f used d a && is_regular_term u f used d b)
  is_regular_term u f used d (Typed at t parens constant (tree.Comma a b)) = is_regular_term u f false d a && is_regular_term u f used d b
  is_regular_term u f used d (Typed at t parens constant (tree.Assign l a)) = are_behind d (is_regular_place u f d l) (is_regular_term u f true (d + 1) a)
  is_regular_term u f used d (Typed at t parens constant (tree.Compound sign kind l a)) = has_room (d + 2) && are_behind d (is_regular_place u f d l) (is_regular_term u f true (d + 1) a)
  is_regular_term u f used d (Typed at t parens constant (tree.CompoundShift back size l a)) = has_room (d + 2) && are_behind d (is_regular_place u f d l) (is_regular_term u f true (d + 1) a)
  is_regular_term u f used d (Typed at t parens constant (tree.Step sign time kind l)) = has_room (d + 2) && is_regular_place u f d l
  is_regular_term u f used d (Typed at t parens constant (tree.StepPointer sign time size l)) = has_room (d + 2) && is_regular_place u f d l
  is_regular_term u f used d (Typed at t parens constant (tree.Struct l)) = is_regular_place u f d l
  is_regular_term u f used d (Typed at t parens constant (tree.Call function args is_used)) = are_regular_terms u f d args && is_callable used is_used (argument_count args) (slice_get u.functions function)
  is_regular_term u f used d (Typed at t parens constant (tree.Library function args target)) = are_regular_terms u f d args && is_library_call used (argument_count args) function

  pub is_regular_place : UnitView → FunctionView → ℕ → LvalueTree → Bool
  is_regular_place u f d (Designates at t parens (tree.Object o)) = has_object u f o
  is_regular_place u f d (Designates at t parens (tree.Literal n)) = has_literal u n
  is_regular_place u f d (Designates at t parens (tree.Target e)) = is_regular_term u f true d e
  is_regular_place u f d (Designates at t parens (tree.Member outer offset)) = is_regular_place u f d outer
  is_regular_place u f d (Designates at t parens (tree.Copied target source)) = is_struct (lvalue_type target) && are_behind d (is_regular_place u f d target) (is_regular_place u f (d + 1) source)
  is_regular_place u f d (Designates at t parens (tree.Then left right)) = is_regular_term u f false d left && is_regular_place u f d right

  -- arguments, each one temporary behind the one before it
  pub are_regular_terms : UnitView → FunctionView → ℕ → TermTrees → Bool
  are_regular_terms u f d tree.End = true
  are_regular_terms u f d (tree.More e rest) = are_behind d (is_regular_term u f true d e) (are_regular_terms u f (d + 1) rest)
