-- Lattices of sets of integers, and their laws.
use Rattle.std.specs.Prelude.{◌≡◌, ℤ, pos, negsuc, ◌-◌, ◌^◌, ◌≤ℤ◌, true, cond, int_le, Option, Some, None, List, ◌⊎◌, refl}
use Rattle.std.specs.List.{Contains}
use Rattle.cc_base.specs.declared.int_types.IntType.{IntType}
use Rattle.cc_base.specs.declared.integer_operators.IntOp.{IntOp}
use Rattle.cc_base.specs.declared.integer_operators.UnOp.{UnOp}
use Rattle.cc_base.specs.declared.integer_operators.Rel.{Rel}
use Rattle.cc_base.specs.declared.integer_operators.Tri.{Tri}
use Rattle.cc_base.specs.IntegerTypes.{is_size, least_of, greatest_of}
use Rattle.cc_base.specs.NumberRanges.{LiesWithin}
use Rattle.cc_base.specs.Lattices.{LatticeOf}

-- what a domain of integers computes
pub record IntegersOf (I : Type 0) : Type 0 where
  pub one : ℤ → I
  pub between : ℤ → ℤ → I
  -- the least and the greatest number
  pub bounds : I → Option (ℤ × ℤ)
  pub arith : IntOp → I → I → IntType → I
  pub unary : UnOp → I → IntType → I
  pub convert : I → IntType → I
  pub compare : Rel → I → I → Tri
  pub refine : Rel → I → I → I

-- the bounds lie from -2^64 to 2^64
abbrev pub IsNear : Option (ℤ × ℤ) → Type 0
IsNear None = Unit {0}
IsNear (Some p) = (negsuc (2 ^ 64 - 1) ≤ℤ p.0) × (p.1 ≤ℤ pos (2 ^ 64))

-- what bounds have to do with the order and with the numbers that a value stands for
pub record BoundLaws {I : Type 0} (l : LatticeOf I) (n : IntegersOf I) (stands : I → ℤ → Type 0) : Type 0 where
  pub one_bounds : (a : ℤ) → n.bounds (n.one a) ≡ Some (a, a)
  pub between_bounds : (a b : ℤ) → a ≤ℤ b → n.bounds (n.between a b) ≡ Some (a, b)
  pub least_bounds : n.bounds l.least ≡ None
  pub only_least : (x : I) → n.bounds x ≡ None → x ≡ l.least
  pub proper : (x : I) (a b : ℤ) → n.bounds x ≡ Some (a, b) → a ≤ℤ b
  pub below_between : (x : I) (a b c d : ℤ) → n.bounds x ≡ Some (a, b) → c ≤ℤ a → b ≤ℤ d → l.leq x (n.between c d) ≡ true
  pub wider : (x y : I) (a b : ℤ) → l.leq x y ≡ true → n.bounds x ≡ Some (a, b) → (c : ℤ) × (d : ℤ) × (n.bounds y ≡ Some (c, d)) × (c ≤ℤ a) × (b ≤ℤ d)
  -- each bound that rounding leaves is a number of the list or the bound that was there
  pub round_bounds : (list : List ℤ) (x : I) (a b : ℤ) → n.bounds x ≡ Some (a, b) → (c : ℤ) × (d : ℤ) × (n.bounds (l.round list x) ≡ Some (c, d)) × ((c ≡ a) ⊎ Contains list c) × ((d ≡ b) ⊎ Contains list d)
  pub round_least : (list : List ℤ) → l.round list l.least ≡ l.least
  pub larger : (x y : I) (a : ℤ) → l.leq x y ≡ true → stands x a → stands y a
  pub inside : (x : I) (a : ℤ) → stands x a → (c : ℤ) × (d : ℤ) × (n.bounds x ≡ Some (c, d)) × (c ≤ℤ a) × (a ≤ℤ d)
  pub one_stands : (a : ℤ) → stands (n.one a) a

-- results are nothing or lie in the range of their type, and refining only takes away
pub record RangeLaws {I : Type 0} (l : LatticeOf I) (n : IntegersOf I) : Type 0 where
  pub arith_fits : (op : IntOp) (x y : I) (k : IntType) (a b : ℤ) → is_size k.bytes ≡ true → n.bounds (n.arith op x y k) ≡ Some (a, b) → (least_of k ≤ℤ a) × (b ≤ℤ greatest_of k)
  pub unary_fits : (op : UnOp) (x : I) (k : IntType) (a b : ℤ) → is_size k.bytes ≡ true → n.bounds (n.unary op x k) ≡ Some (a, b) → (least_of k ≤ℤ a) × (b ≤ℤ greatest_of k)
  pub convert_fits : (x : I) (k : IntType) (a b : ℤ) → is_size k.bytes ≡ true → n.bounds (n.convert x k) ≡ Some (a, b) → (least_of k ≤ℤ a) × (b ≤ℤ greatest_of k)
  pub refine_below : (rel : Rel) (x y : I) → l.leq (n.refine rel x y) x ≡ true

-- the numbers from a to b, of which there may be none
abbrev pub between_or_least : {I : Type 0} → LatticeOf I → IntegersOf I → ℤ → ℤ → I
between_or_least l n a b = cond (int_le a b) (n.between a b) l.least

-- the value with these bounds
abbrev pub of_range : {I : Type 0} → LatticeOf I → IntegersOf I → Option (ℤ × ℤ) → I
of_range l n None = l.least
of_range l n (Some p) = between_or_least l n p.0 p.1

near_at : {I : Type 0} {l : LatticeOf I} {n : IntegersOf I} {stands : I → ℤ → Type 0} → BoundLaws l n stands → (x : I) (r : Option (ℤ × ℤ)) → n.bounds x ≡ r → IsNear r → LiesWithin (2 ^ 64) r
near_at o x None e h = tt
near_at o x (Some p) e h = let q : p.0 ≤ℤ p.1 = o.proper x p.0 p.1 e in (h.0, q, h.1)

-- bounds from -2^64 to 2^64 are in order
pub near_lies : {I : Type 0} {l : LatticeOf I} {n : IntegersOf I} {stands : I → ℤ → Type 0} → BoundLaws l n stands → (x : I) → IsNear (n.bounds x) → LiesWithin (2 ^ 64) (n.bounds x)
near_lies {I} {l} {n} o x h = near_at o x (n.bounds x) refl h
