-- Pointers with integers, and differences of pointers (6.5.6).
use Rattle.std.specs.Prelude.{ℕ, Bool, true, false, cond, Option, Some, None, Ok, Err}
use Rattle.cc_base.specs.declared.diagnostics.Place.{Place}
use Rattle.c_layout.specs.Types.{Ty, Int, Pointer, same_type}
use Rattle.c_layout.specs.CheckedTrees as tree
use Rattle.c_layout.specs.CheckedTrees.{TermTree}
use Rattle.c_layout.specs.declared.syntax_tree.expressions.BinaryOp.{BinaryOp}
use Rattle.c_layout.specs.declared.syntax_tree.expressions.BinaryOp.TheVariants as op
use Rattle.c_types_rules.specs.Rules.IntegerKinds.{kind_of, size_rank}
use Rattle.c_types_scopes.specs.Known.{Known, size_of}
use Rattle.c_types_scopes.specs.Refusals.{Ruled, type_fault}
use Rattle.c_types_operands.specs.Operands.{OperandView, ValueView, node, plain, term_type, is_integer}
use Rattle.c_types_operands.specs.Arithmetic.{value_kinds, in_common_kind}
use Rattle.c_types_operands.specs.declared.arithmetic.KindPair.{KindPair}
use Rattle.c_types_operands.specs.declared.pointer_arithmetic.Sum.{Sum}
use Rattle.c_layout.specs.Types.{view}

-- the size of what a pointer points to, where that is complete
abbrev pub target_size : Known → Ty → Option ℕ
target_size k (Pointer t) = size_of k t
target_size k _ = None

-- the type of a sum or a difference, and the size of an element
pub record SumView : Type 0 where
  pub ctype : Ty
  pub size : ℕ

abbrev pub sum_view : Sum → SumView
sum_view s = record { ctype = view s.ctype; size = s.size }

abbrev pub sum_by : Ty → Option ℕ → Option SumView
sum_by pointer None = None
sum_by pointer (Some size) = Some (record { ctype = pointer; size = size })

-- the sum of a pointer to a complete type and a number
abbrev pub sum_of : Known → Ty → Option SumView
sum_of k pointer = sum_by pointer (target_size k pointer)

-- the type of the sum of a pointer to a complete type and an integer
abbrev pub one_sided : Known → Ty → Ty → Option SumView
one_sided k pointer (Int kind) = sum_of k pointer
one_sided k pointer _ = None

abbrev pub first_of : Option SumView → Option SumView → Option SumView
first_of (Some s) other = Some s
first_of None other = other

-- the type of the sum of a pointer and an integer, on either side
abbrev pub sum_type : Known → Ty → Ty → Option SumView
sum_type k left right = first_of (one_sided k left right) (one_sided k right left)

abbrev pub moved_by : Place → Bool → TermTree → TermTree → Option SumView → Ruled TermTree
moved_by at down left right None = type_fault at
moved_by at down left right (Some s) = Ok (node at s.ctype (tree.Shift down s.size left right))

-- the sum of a pointer to a complete type and an integer, on either side, which stay in the order in which they stand
abbrev pub pointer_sum : Known → Place → TermTree → TermTree → Ruled TermTree
pointer_sum k at left right = moved_by at false left right (sum_type k (term_type left) (term_type right))

-- the size of an element where two types are pointers to one complete type
abbrev pub common_target : Known → Ty → Ty → Option ℕ
common_target k left right = cond (same_type left right) (target_size k left) None

abbrev pub difference_by : Known → Place → TermTree → TermTree → Option ℕ → Ruled TermTree
difference_by k at left right None = type_fault at
difference_by k at left right (Some size) = Ok (node at (Int (kind_of k.numbers (size_rank k.numbers) true)) (tree.Difference size left right))

-- the difference of two pointers to one complete type
abbrev pub pointer_difference : Known → Place → TermTree → TermTree → Ruled TermTree
pointer_difference k at left right = difference_by k at left right (common_target k (term_type left) (term_type right))

-- a pointer to a complete type less an integer
abbrev pub pointer_less : Known → Place → TermTree → TermTree → Ruled TermTree
pointer_less k at left right = moved_by at true left right (one_sided k (term_type left) (term_type right))

-- `-`, where not both operands are integers
abbrev pub pointer_minus : Known → Place → TermTree → TermTree → Ruled TermTree
pointer_minus k at left right = cond (is_integer (term_type right)) (pointer_less k at left right) (pointer_difference k at left right)

abbrev pub as_plain : Ruled TermTree → Ruled OperandView
as_plain (Ok e) = Ok (plain e)
as_plain (Err f) = Err f

abbrev pub pointer_additive : Known → Place → BinaryOp → TermTree → TermTree → Ruled OperandView
pointer_additive k at op.Subtract left right = as_plain (pointer_minus k at left right)
pointer_additive k at _ left right = as_plain (pointer_sum k at left right)

abbrev pub additive_by : Known → Place → BinaryOp → ValueView → ValueView → Option KindPair → Ruled OperandView
additive_by k at sign left right (Some kinds) = Ok (in_common_kind k at sign false kinds left right)
additive_by k at sign left right None = pointer_additive k at sign left.term right.term

-- `+` or `-`
abbrev pub additive : Known → Place → BinaryOp → ValueView → ValueView → Ruled OperandView
additive k at sign left right = additive_by k at sign left right (value_kinds left right)
