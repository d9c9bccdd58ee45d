-- Terms that are computed without memory, and the numbers that they are.
use Rattle.std.specs.Prelude.{◌≡◌, ◌⊎◌, ℤ, pos, Bool, true, false, not, Some}
use Rattle.std.specs.Ordering.{int_eq}
use Rattle.cc_base.specs.IntegerTypes.{wrap_into}
use Rattle.cc_base.specs.MachineArithmetic.{binary_result, unary_result, holds}
use Rattle.cc_base.specs.declared.int_types.IntType.{IntType}
use Rattle.cc_base.specs.declared.integer_operators.UnOp.TheVariants.{Neg, Compl}
use Rattle.c_layout.specs.Types.{Int}
use Rattle.c_layout.specs.CheckedTrees as tree
use Rattle.c_layout.specs.CheckedTrees.{TermTree, Typed}
use Rattle.c_layout.specs.declared.syntax_tree.expressions.LogicalOp.TheVariants.{And, Or}
use Rattle.lower_templates.specs.Worklist.TermKinds.{meaning, integer_type, scalar_of}
use Rattle.lower_templates.specs.declared.worklist.term_kinds.OperatorMeaning.{OperatorMeaning}
use Rattle.lower_templates.specs.declared.worklist.term_kinds.OperatorMeaning.TheVariants as meant
use Rattle.cfg.specs.declared.machine_instructions.Scalar.TheVariants as of
use Rattle.source_preservation.specs.ValueTyping.MarkOperations.{IsKind, number_of_truth}
use Rattle.c_layout.specs.declared.data_model.Model.{Model}

-- whether a number is true
abbrev pub is_true : ℤ → Bool
is_true n = not (int_eq n (pos 0))

-- what an operator gives
abbrev pub Results : OperatorMeaning → IntType → ℤ → ℤ → ℤ → Type 0
Results (meant.Number sign) kind a b n = binary_result sign kind a b ≡ Some n
Results (meant.Truth rel) kind a b n = n ≡ number_of_truth (holds rel a b)

module _ (m : Model) where
  -- a term that computes a number from numbers, whatever memory is; operands that are not come to are not looked at
  abbrev pub ExactTerm : TermTree → ℤ → Type 0
  ExactTerm (Typed at t parens fixed (tree.Number k)) n = n ≡ k
  ExactTerm (Typed at t parens fixed (tree.SizeofType size is_pointer)) n = n ≡ pos size
  ExactTerm (Typed at t parens fixed (tree.Sizeof size operand is_pointer)) n = n ≡ pos size
  ExactTerm (Typed at t parens fixed (tree.Convert sort a)) n = (kind : IntType) × (k : ℤ) × (t ≡ Int kind) × IsKind m kind × ExactTerm a k × (n ≡ wrap_into kind k)
  ExactTerm (Typed at t parens fixed (tree.Plus a)) n = ExactTerm a n
  ExactTerm (Typed at t parens fixed (tree.Minus a)) n = (k : ℤ) × ExactTerm a k × (unary_result Neg (integer_type t) k ≡ Some n)
  ExactTerm (Typed at t parens fixed (tree.Complement a)) n = (k : ℤ) × ExactTerm a k × (unary_result Compl (integer_type t) k ≡ Some n)
  ExactTerm (Typed at t parens fixed (tree.Not a)) n = (k : ℤ) × ExactTerm a k × (n ≡ number_of_truth (int_eq k (pos 0)))
  ExactTerm (Typed at t parens fixed (tree.Integer sign a b)) n = (k : ℤ) × (l : ℤ) × ExactTerm a k × ExactTerm b l × Results (meaning sign) (integer_type t) k l n
  ExactTerm (Typed at t parens fixed (tree.Logical And a b)) n = (k : ℤ) × ExactTerm a k × (((is_true k ≡ false) × (n ≡ pos 0)) ⊎ ((is_true k ≡ true) × ((l : ℤ) × ExactTerm b l × (n ≡ number_of_truth (is_true l)))))
  ExactTerm (Typed at t parens fixed (tree.Logical Or a b)) n = (k : ℤ) × ExactTerm a k × (((is_true k ≡ true) × (n ≡ pos 1)) ⊎ ((is_true k ≡ false) × ((l : ℤ) × ExactTerm b l × (n ≡ number_of_truth (is_true l)))))
  ExactTerm (Typed at t parens fixed (tree.Conditional c a b)) n = (k : ℤ) × ExactTerm c k × (((is_true k ≡ true) × ExactTerm a n) ⊎ ((is_true k ≡ false) × ExactTerm b n))
  ExactTerm e n = ⊥

  -- a null pointer constant, converted to a type of pointers or to several, one after the other
  abbrev pub NullTerm : TermTree → Type 0
  NullTerm (Typed at t parens fixed (tree.Convert sort a)) = (scalar_of t ≡ of.Pointer) × (NullTerm a ⊎ ExactTerm a (pos 0))
  NullTerm e = ⊥
