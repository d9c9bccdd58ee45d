-- The laws of constants: what typing folds is what operators give.
use Rattle.std.specs.Prelude.{◌≡◌, ℤ, true, Some}
use Rattle.cc_base.specs.IntegerTypes.{is_size, in_type, wrap_into}
use Rattle.cc_base.specs.MachineArithmetic.{binary_result, unary_result}
use Rattle.cc_base.specs.declared.int_types.IntType.{IntType}
use Rattle.cc_base.specs.declared.integer_operators.IntOp.TheVariants.{Shl, Shr}
use Rattle.cc_base.specs.declared.integer_operators.UnOp.TheVariants.{Neg, Compl}
use Rattle.c_layout.specs.declared.syntax_tree.expressions.BinaryOp.{BinaryOp}
use Rattle.c_layout.specs.declared.syntax_tree.expressions.BinaryOp.TheVariants as op
use Rattle.c_types_rules.specs.Rules.ConstantFolding.{converted, folded, shifted, negated, complemented}
use Rattle.lower_templates.specs.Worklist.TermKinds.{meaning}
use Rattle.source_preservation.specs.Checks.LookedTerms.{result}

-- of a type with a size that types have
pub record FoldsAsComputedIn (kind : IntType) : Type 0 where
  pub converts : (n : ℤ) → converted kind n ≡ wrap_into kind n
  pub operates : (sign : BinaryOp) (a b n : ℤ) → folded sign kind a b ≡ Some n → result (meaning sign) kind (wrap_into kind a) (wrap_into kind b) ≡ Some n
  pub shifts_left : (a b n : ℤ) → in_type kind a ≡ true → shifted op.ShiftLeft kind a b ≡ Some n → binary_result Shl kind a b ≡ Some n
  pub shifts_right : (a b n : ℤ) → in_type kind a ≡ true → shifted op.ShiftRight kind a b ≡ Some n → binary_result Shr kind a b ≡ Some n
  pub negates : (a n : ℤ) → in_type kind a ≡ true → negated kind a ≡ Some n → unary_result Neg kind a ≡ Some n
  pub complements : (a : ℤ) → in_type kind a ≡ true → unary_result Compl kind a ≡ Some (complemented kind a)

abbrev pub FoldsAsComputed : Type 0
FoldsAsComputed = (kind : IntType) → is_size kind.bytes ≡ true → FoldsAsComputedIn kind
