-- Lattices whose values can be rounded to a list of numbers, and their laws.
use Rattle.std.specs.Prelude.{◌≡◌, ◌≤◌, ◌<◌, ℕ, ℤ, Bool, true, false, List, length}

-- what a lattice computes
pub record LatticeOf (L : Type 0) : Type 0 where
  pub least : L
  pub join : L → L → L
  pub leq : L → L → Bool
  -- the value with each bound moved outwards to a number of the list
  pub round : List ℤ → L → L
  -- whether the bounds lie within the ends of the list
  pub within : List ℤ → L → Bool
  -- how often a rounded value within the ends of the list can still grow
  pub rank : List ℤ → L → ℕ
  -- the greatest rank for a list of this length
  pub height : ℕ → ℕ

-- `leq` is an order, `least` is below all, `join` the least upper bound
pub record OrderLaws {L : Type 0} (o : LatticeOf L) : Type 0 where
  pub reflexive : (x : L) → o.leq x x ≡ true
  pub transitive : (x y z : L) → o.leq x y ≡ true → o.leq y z ≡ true → o.leq x z ≡ true
  pub antisymmetric : (x y : L) → o.leq x y ≡ true → o.leq y x ≡ true → x ≡ y
  pub least_below : (x : L) → o.leq o.least x ≡ true
  pub join_left : (x y : L) → o.leq x (o.join x y) ≡ true
  pub join_right : (x y : L) → o.leq y (o.join x y) ≡ true
  pub join_least : (x y z : L) → o.leq x z ≡ true → o.leq y z ≡ true → o.leq (o.join x y) z ≡ true

-- rounding is monotone, not below its argument, and the same twice as once
pub record RoundLaws {L : Type 0} (o : LatticeOf L) : Type 0 where
  pub rises : (list : List ℤ) (x : L) → o.leq x (o.round list x) ≡ true
  pub monotone : (list : List ℤ) (x y : L) → o.leq x y ≡ true → o.leq (o.round list x) (o.round list y) ≡ true
  pub idempotent : (list : List ℤ) (x : L) → o.round list (o.round list x) ≡ o.round list x

-- chains of rounded values within the ends of the list are no longer than the height
pub record HeightLaws {L : Type 0} (o : LatticeOf L) : Type 0 where
  pub least_within : (list : List ℤ) → o.within list o.least ≡ true
  pub join_within : (list : List ℤ) (x y : L) → o.within list x ≡ true → o.within list y ≡ true → o.within list (o.join x y) ≡ true
  pub round_within : (list : List ℤ) (x : L) → o.within list x ≡ true → o.within list (o.round list x) ≡ true
  pub falls : (list : List ℤ) (x y : L) → o.within list x ≡ true → o.within list y ≡ true → o.round list x ≡ x → o.round list y ≡ y → o.leq x y ≡ true → o.leq y x ≡ false → o.rank list y < o.rank list x
  pub bounded : (list : List ℤ) (x : L) → o.rank list x ≤ o.height (length list)
