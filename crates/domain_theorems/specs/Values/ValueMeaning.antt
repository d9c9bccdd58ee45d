-- The operations on values stand for what they do to each number, and their labels tell of each change.
use Rattle.std.specs.Prelude.{◌≡◌, ℤ, pos, true, false, Some}
use Rattle.cc_base.specs.Lattices.{LatticeOf}
use Rattle.cc_base.specs.IntegerDomains.{IntegersOf}
use Rattle.cc_base.specs.IntegerTypes.{is_size, in_type, wrap_into}
use Rattle.cc_base.specs.MachineArithmetic.{binary_result, unary_result, holds}
use Rattle.cc_base.specs.Truths.{can_hold, can_fail}
use Rattle.cc_base.specs.declared.int_types.IntType.{IntType}
use Rattle.cc_base.specs.declared.integer_operators.IntOp.{IntOp}
use Rattle.cc_base.specs.declared.integer_operators.UnOp.{UnOp}
use Rattle.cc_base.specs.declared.integer_operators.Rel.TheVariants.{Ne}
use Rattle.value_domain.specs.declared.values.values.Value.{Value}
use Rattle.value_domain.specs.Values.ValueTables.{value_arith, value_unary, value_convert, value_truth, corners_leave, ranges_leave, range_fits}

pub record ValueMeaning {I : Type 0} (l : LatticeOf I) (n : IntegersOf I) (stands : I → ℤ → Type 0) : Type 0 where
  pub arith : (op : IntOp) (k : IntType) (x y : Value I) (a b c : ℤ) → is_size k.bytes ≡ true → stands x.num a → stands y.num b → in_type k a ≡ true → binary_result op k a b ≡ Some c → stands (value_arith l n op x y k).num c
  pub unary : (op : UnOp) (k : IntType) (x : Value I) (a c : ℤ) → is_size k.bytes ≡ true → stands x.num a → in_type k a ≡ true → unary_result op k a ≡ Some c → stands (value_unary l n op x k).num c
  pub convert : (k : IntType) (x : Value I) (a : ℤ) → is_size k.bytes ≡ true → stands x.num a → stands (value_convert l n x k).num (wrap_into k a)
  -- where the mathematical result of two numbers leaves the type, some result of the operands is known to
  pub leaves : (op : IntOp) (k : IntType) (x y : Value I) (a b : ℤ) → stands x.num a → stands y.num b → corners_leave op k (a, a) (b, b) ≡ true → ranges_leave op k (n.bounds x.num) (n.bounds y.num) ≡ true
  -- where all numbers of the operand are known to fit, each does
  pub fits : (k : IntType) (x : Value I) (a : ℤ) → stands x.num a → range_fits k (n.bounds x.num) ≡ true → in_type k a ≡ true
  -- a number other than 0 is true, and 0 is false
  pub truth_holds : (x : Value I) (a : ℤ) → stands x.num a → holds Ne a (pos 0) ≡ true → can_hold (value_truth n x) ≡ true
  pub truth_fails : (x : Value I) (a : ℤ) → stands x.num a → holds Ne a (pos 0) ≡ false → can_fail (value_truth n x) ≡ true
  pub null_fails : (x : Value I) → x.pointer.null ≡ true → can_fail (value_truth n x) ≡ true
  pub ended_holds : (x : Value I) → x.pointer.ended ≡ true → can_hold (value_truth n x) ≡ true
