-- `sizeof` and casts (6.5.3.4, 6.5.4).
use Rattle.std.specs.Prelude.{ℕ, ℤ, pos, Bool, true, false, cond, Option, Some, None, Ok}
use Rattle.cc_base.specs.declared.diagnostics.Place.{Place}
use Rattle.cc_base.specs.declared.int_types.IntType.{IntType}
use Rattle.c_layout.specs.Types.{Ty, Int, Pointer, Void}
use Rattle.c_layout.specs.CheckedTrees as tree
use Rattle.c_layout.specs.CheckedTrees.{TermTree, FormTree, LvalueTree, LvalueFormTree}
use Rattle.c_layout.specs.declared.checked_tree.checked_terms.ConversionKind.TheVariants as kind
use Rattle.c_types_rules.specs.Rules.IntegerKinds.{kind_of, size_rank}
use Rattle.c_types_rules.specs.Rules.ConstantFolding.{converted}
use Rattle.c_types_rules.specs.Rules.TypeConversions as types
use Rattle.c_types_rules.specs.declared.rules.type_conversions.Conversion.{Conversion}
use Rattle.c_types_rules.specs.declared.rules.type_conversions.Conversion.TheVariants as conversion
use Rattle.c_types_scopes.specs.Known.{Known, size_of}
use Rattle.c_types_scopes.specs.Refusals.{Ruled, type_fault, pointer_integer}
use Rattle.c_types_operands.specs.Operands.{OperandView, OperandForm, AsValue, AsLvalue, ValueView, node, with_constant, plain, number, value_of, lvalue_type, term_type, term_constant, is_null, is_void}
use Rattle.c_types_operands.specs.Conversions.{converted_term, unused}
use Rattle.c_types_operators.specs.UnaryOperators.{converted_if}

abbrev pub size_form : ℕ → Option TermTree → Bool → FormTree
size_form size None is_pointer = tree.SizeofType size is_pointer
size_form size (Some e) is_pointer = tree.Sizeof size e is_pointer

-- a size, of the type size_t
abbrev pub size_operand : Known → Place → ℕ → Option TermTree → Bool → OperandView
size_operand k at size operand is_pointer = number (node at (Int (kind_of k.numbers (size_rank k.numbers) false)) (size_form size operand is_pointer)) (Some (pos size)) true

abbrev pub is_pointer : Ty → Bool
is_pointer (Pointer t) = true
is_pointer _ = false

abbrev pub is_named_form : LvalueFormTree → Bool
is_named_form (tree.Object object) = true
is_named_form (tree.Member whole offset) = true
is_named_form _ = false

-- a name or a member
abbrev pub is_named : LvalueTree → Bool
is_named (tree.Designates at t parens f) = is_named_form f

abbrev pub is_pointer_named : LvalueTree → Bool
is_pointer_named l = cond (is_named l) (is_pointer (lvalue_type l)) false

abbrev pub is_named_pointer : OperandForm → Bool
is_named_pointer (AsLvalue l) = is_pointer_named l
is_named_pointer (AsValue e) = false

-- the value of an lvalue of any type, as it stands under `sizeof`
abbrev pub unconverted : LvalueTree → TermTree
unconverted (tree.Designates at t parens f) = tree.Typed at t parens None (tree.Load (tree.Designates at t parens f))

abbrev pub sized_term : OperandForm → TermTree
sized_term (AsValue e) = e
sized_term (AsLvalue l) = unconverted l

abbrev pub size_by : Known → Place → Option TermTree → Bool → Option ℕ → Ruled OperandView
size_by k at operand named None = type_fault at
size_by k at operand named (Some size) = Ok (size_operand k at size operand named)

-- `sizeof` of an expression: an array is not converted
abbrev pub size_of_operand : Known → Place → OperandView → Ruled OperandView
size_of_operand k at o = size_by k at (Some (sized_term o.form)) (is_named_pointer o.form) (size_of k (term_type (sized_term o.form)))

-- `sizeof` of a type
abbrev pub size_of_type : Known → Place → Ty → Ruled OperandView
size_of_type k at t = size_by k at None false (size_of k t)

-- ---- casts

-- only a cast to an integer type has the form of a constant expression
abbrev pub cast_value : Ty → Option ℤ → Option ℤ
cast_value (Int kind) constant = converted_if kind constant
cast_value _ constant = None

abbrev pub cast_fixed : Ty → Bool → Bool
cast_fixed (Int kind) fixed = fixed
cast_fixed _ fixed = false

abbrev pub with_constancy : TermTree → Option ℤ → Bool → OperandView
with_constancy e constant fixed = number e constant fixed

-- a cast to a scalar type that a conversion allows
abbrev pub scalar_cast : Known → Place → Ty → ValueView → OperandView
scalar_cast k at to v = number (converted_term k kind.Cast at v.term to) (cast_value to (term_constant v.term)) (cast_fixed to v.fixed)

abbrev pub cast_by : Known → Place → Ty → ValueView → Conversion → Ruled OperandView
cast_by k at to v conversion.Same = Ok (scalar_cast k at to v)
cast_by k at to v conversion.Converted = Ok (scalar_cast k at to v)
cast_by k at to v conversion.Crossing = pointer_integer at
cast_by k at to v conversion.Nothing = type_fault at

-- a cast to a type other than void
abbrev pub value_cast : Known → Place → Ty → ValueView → Ruled OperandView
value_cast k at to v = cast_by k at to v (types.cast (term_type v.term) (is_null v.term) to)

-- a cast to void
abbrev pub discarded : Place → TermTree → OperandView
discarded at e = plain (node at Void (tree.Discard (unused e)))

abbrev pub cast_of : Known → Place → Ty → ValueView → Ruled OperandView
cast_of k at to v = cond (is_void to) (Ok (discarded at v.term)) (value_cast k at to v)

-- a cast
abbrev pub cast : Known → Place → Ty → OperandView → Ruled OperandView
cast k at to o = cast_of k at to (value_of o)
