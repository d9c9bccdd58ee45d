-- Conversions that no cast writes (6.3).
use Rattle.std.specs.Prelude.{ℕ, false, cond, Option, Some, None, Ok}
use Rattle.cc_base.specs.declared.diagnostics.Place.{Place}
use Rattle.cc_base.specs.declared.int_types.IntType.{IntType}
use Rattle.c_layout.specs.Types.{Ty, Int, Pointer, same_type}
use Rattle.c_layout.specs.CheckedTrees as tree
use Rattle.c_layout.specs.LibrarySignatures.{signature_of}
use Rattle.c_layout.specs.CheckedTrees.{TermTree, FormTree}
use Rattle.c_layout.specs.declared.checked_tree.checked_terms.ConversionKind.{ConversionKind}
use Rattle.c_layout.specs.declared.checked_tree.checked_terms.ConversionKind.TheVariants as kind
use Rattle.c_types_rules.specs.Rules.TypeConversions as types
use Rattle.c_types_rules.specs.declared.rules.type_conversions.Conversion.{Conversion}
use Rattle.c_types_rules.specs.declared.rules.type_conversions.Conversion.TheVariants as conversion
use Rattle.c_types_scopes.specs.Known.{Known, size_of}
use Rattle.c_types_scopes.specs.Refusals.{Ruled, type_fault, pointer_integer}
use Rattle.c_types_operands.specs.Operands.{term_place, term_type, term_constant, is_null}

abbrev pub kept_if : Ty → Option ℕ → Option Ty
kept_if t None = None
kept_if t (Some size) = Some t

-- a type, where it is complete
abbrev pub if_complete : Known → Ty → Option Ty
if_complete k t = kept_if t (size_of k t)

-- the type to which a type points, where it is complete
abbrev pub complete_target : Known → Ty → Option Ty
complete_target k (Pointer t) = if_complete k t
complete_target k _ = None

abbrev pub noted_form : Known → Ty → FormTree → FormTree
noted_form k to (tree.Library f arguments allocated) = tree.Library f arguments (cond (signature_of f).allocates (complete_target k to) allocated)
noted_form k to f = f

-- an allocation that is converted at once to a pointer to a complete type keeps that type
abbrev pub noted : Known → Ty → TermTree → TermTree
noted k to (tree.Typed at t parens constant f) = tree.Typed at t parens constant (noted_form k to f)

-- a term converted to a type
abbrev pub converted_term : Known → ConversionKind → Place → TermTree → Ty → TermTree
converted_term k how at e to = tree.Typed at to 0 (term_constant e) (tree.Convert how (noted k to e))

-- a term converted without a cast, at its own place
abbrev pub implicit : Known → TermTree → Ty → TermTree
implicit k e to = converted_term k kind.Implicit (term_place e) e to

-- a term in a type; one that has it already is not converted
abbrev pub in_type : Known → TermTree → Ty → TermTree
in_type k e to = cond (same_type (term_type e) to) e (implicit k e to)

-- an integer in an integer type
abbrev pub integer_as : Known → TermTree → IntType → TermTree
integer_as k e to = in_type k e (Int to)

abbrev pub assigned_by : Known → Place → TermTree → Ty → Conversion → Ruled TermTree
assigned_by k at e to conversion.Same = Ok e
assigned_by k at e to conversion.Converted = Ok (implicit k e to)
assigned_by k at e to conversion.Crossing = pointer_integer at
assigned_by k at e to conversion.Nothing = type_fault at

-- a value that is assigned, passed or returned to a type (6.5.16.1), or the refusal at a place
abbrev pub assigned : Known → Place → TermTree → Ty → Ruled TermTree
assigned k at e to = assigned_by k at e to (types.assigned (term_type e) (is_null e) to)

abbrev pub unused_form : FormTree → FormTree
unused_form (tree.Call function arguments used) = tree.Call function arguments false
unused_form f = f

-- a term whose value is not used: a call that stands there alone gives none
abbrev pub unused : TermTree → TermTree
unused (tree.Typed at t parens constant f) = tree.Typed at t parens constant (unused_form f)
