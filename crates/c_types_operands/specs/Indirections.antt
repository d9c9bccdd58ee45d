-- Indirection and subscripts (6.5.2.1, 6.5.3.2).
use Rattle.std.specs.Prelude.{Option, Some, None, Ok, Err}
use Rattle.cc_base.specs.declared.diagnostics.Place.{Place}
use Rattle.c_layout.specs.Types.{Ty}
use Rattle.c_layout.specs.CheckedTrees as tree
use Rattle.c_layout.specs.CheckedTrees.{TermTree}
use Rattle.c_types_scopes.specs.Known.{Known}
use Rattle.c_types_scopes.specs.Refusals.{Ruled, type_fault}
use Rattle.c_types_operands.specs.Operands.{OperandView, lvalue, term_of, term_type}
use Rattle.c_types_operands.specs.Conversions.{complete_target}
use Rattle.c_types_operands.specs.PointerArithmetic.{pointer_sum}

abbrev pub target_by : Place → TermTree → Option Ty → Ruled OperandView
target_by at pointer None = type_fault at
target_by at pointer (Some t) = Ok (lvalue (tree.Designates at t 0 (tree.Target pointer)) None)

-- what a pointer to a complete type points to
abbrev pub indirection : Known → Place → TermTree → Ruled OperandView
indirection k at pointer = target_by at pointer (complete_target k (term_type pointer))

abbrev pub at_sum : Known → Place → Ruled TermTree → Ruled OperandView
at_sum k at (Ok e) = indirection k at e
at_sum k at (Err f) = Err f

-- a subscript: what the sum of a pointer and an integer points to
abbrev pub subscript : Known → Place → OperandView → OperandView → Ruled OperandView
subscript k at left right = at_sum k at (pointer_sum k at (term_of left) (term_of right))
