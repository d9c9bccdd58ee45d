-- Further laws of domains of integers: that results stand for what the operators give, and that larger operands
-- give larger results.
use Rattle.std.specs.Prelude.{◌≡◌, ℤ, Bool, true, false, ◌&&◌, Some, ◌↔◌, ◌⊎◌}
use Rattle.cc_base.specs.declared.int_types.IntType.{IntType}
use Rattle.cc_base.specs.declared.integer_operators.IntOp.{IntOp}
use Rattle.cc_base.specs.declared.integer_operators.UnOp.{UnOp}
use Rattle.cc_base.specs.declared.integer_operators.Rel.{Rel}
use Rattle.cc_base.specs.declared.integer_operators.Tri.{Tri}
use Rattle.cc_base.specs.declared.integer_operators.Tri.TheVariants.{Never}
use Rattle.cc_base.specs.IntegerTypes.{is_size, in_type, wrap_into}
use Rattle.cc_base.specs.MachineArithmetic.{binary_result, unary_result, holds}
use Rattle.cc_base.specs.Truths.{can_hold, can_fail}
use Rattle.cc_base.specs.Lattices.{LatticeOf}
use Rattle.cc_base.specs.LatticeParts.{flag_leq}
use Rattle.cc_base.specs.IntegerDomains.{IntegersOf}

-- the first can have no truth value that the second cannot have
abbrev pub tri_leq : Tri → Tri → Bool
tri_leq s t = flag_leq (can_hold s) (can_hold t) && flag_leq (can_fail s) (can_fail t)

-- results stand for each number that the operation gives, and refining keeps each number that has the
-- relation to some number of the other side. The left operand is of the operation's type: the numbers
-- that `%`, `>>` and `~` give of others need not be of it, and a result has numbers of the type alone
pub record SoundLaws {I : Type 0} (l : LatticeOf I) (n : IntegersOf I) (stands : I → ℤ → Type 0) : Type 0 where
  pub arith_stands : (op : IntOp) (k : IntType) (x y : I) (a b c : ℤ) → is_size k.bytes ≡ true → stands x a → stands y b → in_type k a ≡ true → binary_result op k a b ≡ Some c → stands (n.arith op x y k) c
  pub unary_stands : (op : UnOp) (k : IntType) (x : I) (a c : ℤ) → is_size k.bytes ≡ true → stands x a → in_type k a ≡ true → unary_result op k a ≡ Some c → stands (n.unary op x k) c
  pub convert_stands : (k : IntType) (x : I) (a : ℤ) → is_size k.bytes ≡ true → stands x a → stands (n.convert x k) (wrap_into k a)
  pub compare_holds : (rel : Rel) (x y : I) (a b : ℤ) → stands x a → stands y b → holds rel a b ≡ true → can_hold (n.compare rel x y) ≡ true
  pub compare_fails : (rel : Rel) (x y : I) (a b : ℤ) → stands x a → stands y b → holds rel a b ≡ false → can_fail (n.compare rel x y) ≡ true
  -- no truth value exactly where a side stands for nothing
  pub compare_never : (rel : Rel) (x y : I) → (n.compare rel x y ≡ Never) ↔ ((x ≡ l.least) ⊎ (y ≡ l.least))
  pub refine_stands : (rel : Rel) (x y : I) (a b : ℤ) → stands x a → stands y b → holds rel a b ≡ true → stands (n.refine rel x y) a

-- larger operands give larger results
pub record MonotoneLaws {I : Type 0} (l : LatticeOf I) (n : IntegersOf I) : Type 0 where
  pub arith_monotone : (op : IntOp) (k : IntType) (x y u v : I) → is_size k.bytes ≡ true → l.leq x u ≡ true → l.leq y v ≡ true → l.leq (n.arith op x y k) (n.arith op u v k) ≡ true
  pub unary_monotone : (op : UnOp) (k : IntType) (x u : I) → is_size k.bytes ≡ true → l.leq x u ≡ true → l.leq (n.unary op x k) (n.unary op u k) ≡ true
  pub convert_monotone : (k : IntType) (x u : I) → is_size k.bytes ≡ true → l.leq x u ≡ true → l.leq (n.convert x k) (n.convert u k) ≡ true
  pub compare_monotone : (rel : Rel) (x y u v : I) → l.leq x u ≡ true → l.leq y v ≡ true → tri_leq (n.compare rel x y) (n.compare rel u v) ≡ true
  pub refine_monotone : (rel : Rel) (x y u v : I) → l.leq x u ≡ true → l.leq y v ≡ true → l.leq (n.refine rel x y) (n.refine rel u v) ≡ true
