-- Domains whose operations on one number, or on two, give exactly what the machine gives.
use Rattle.std.specs.Prelude.{◌≡◌, ℤ, Bool, true, false, Option, Some, None}
use Rattle.cc_base.specs.IntegerDomains.{IntegersOf}
use Rattle.cc_base.specs.IntegerTypes.{is_size, in_type, wrap_into}
use Rattle.cc_base.specs.MachineArithmetic.{binary_result, unary_result, holds}
use Rattle.cc_base.specs.declared.int_types.IntType.{IntType}
use Rattle.cc_base.specs.declared.integer_operators.IntOp.{IntOp}
use Rattle.cc_base.specs.declared.integer_operators.IntOp.TheVariants.{Shl, Shr}
use Rattle.cc_base.specs.declared.integer_operators.UnOp.{UnOp}
use Rattle.cc_base.specs.declared.integer_operators.Rel.{Rel}
use Rattle.cc_base.specs.declared.integer_operators.Tri.{Tri}
use Rattle.cc_base.specs.declared.integer_operators.Tri.TheVariants.{Yes, No}
use Rattle.transfer_exact.specs.Values.SingleNumbers.{IsOne, IsNone}

-- the right operand is of the operation's type too, but the count of a shift
abbrev pub FitsRight : IntOp → IntType → ℤ → Type 0
FitsRight Shl k b = Unit {0}
FitsRight Shr k b = Unit {0}
FitsRight _ k b = in_type k b ≡ true

abbrev pub truth_of : Bool → Tri
truth_of true = Yes
truth_of false = No

module _ {I : Type 0} (n : IntegersOf I) where
  -- the number that comes, or none where none comes
  abbrev pub IsResult : I → Option ℤ → Type 0
  IsResult x None = IsNone n x
  IsResult x (Some z) = IsOne n x z

  pub record ExactLaws : Type 0 where
    pub arith : (op : IntOp) (k : IntType) (x y : I) (a b : ℤ) → is_size k.bytes ≡ true → IsOne n x a → IsOne n y b → in_type k a ≡ true → FitsRight op k b → IsResult (n.arith op x y k) (binary_result op k a b)
    pub unary : (op : UnOp) (k : IntType) (x : I) (a : ℤ) → is_size k.bytes ≡ true → IsOne n x a → in_type k a ≡ true → IsResult (n.unary op x k) (unary_result op k a)
    pub convert : (k : IntType) (x : I) (a : ℤ) → is_size k.bytes ≡ true → IsOne n x a → IsOne n (n.convert x k) (wrap_into k a)
    pub compare : (rel : Rel) (x y : I) (a b : ℤ) → IsOne n x a → IsOne n y b → n.compare rel x y ≡ truth_of (holds rel a b)
    pub refine : (rel : Rel) (x y : I) (a b : ℤ) → IsOne n x a → IsOne n y b → holds rel a b ≡ true → IsOne n (n.refine rel x y) a
    -- no number of no numbers
    pub no_convert : (k : IntType) (x : I) → IsNone n x → IsNone n (n.convert x k)
