-- What lies within the ends of a list of numbers.
use Rattle.std.specs.Prelude.{◌≡◌, ℤ, true, int_le, Some, List}
use Rattle.std.specs.List.{list_any}
use Rattle.cc_base.specs.Lattices.{LatticeOf}
use Rattle.cc_base.specs.IntegerDomains.{IntegersOf}

-- a number of the list is at most a, and one is at least b
pub record HasEnds (list : List ℤ) (a b : ℤ) : Type 0 where
  pub lower : list_any (λ m. int_le m a) list ≡ true
  pub upper : list_any (λ m. int_le b m) list ≡ true

-- a value that is not the least one lies within the ends of a list exactly where its bounds do, and so does each smaller value
pub record EndLaws {I : Type 0} (l : LatticeOf I) (n : IntegersOf I) : Type 0 where
  pub within_ends : (list : List ℤ) (x : I) (a b : ℤ) → n.bounds x ≡ Some (a, b) → l.within list x ≡ true → HasEnds list a b
  pub ends_within : (list : List ℤ) (x : I) (a b : ℤ) → n.bounds x ≡ Some (a, b) → HasEnds list a b → l.within list x ≡ true
  pub smaller_within : (list : List ℤ) (x y : I) → l.leq x y ≡ true → l.within list y ≡ true → l.within list x ≡ true
