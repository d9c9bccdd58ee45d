-- The operations on pointer parts grow with their arguments.
use Rattle.std.specs.Prelude.{◌≡◌, ℕ, ◌<◌, true}
use Rattle.cc_base.specs.Lattices.{LatticeOf}
use Rattle.cc_base.specs.IntegerDomains.{IntegersOf}
use Rattle.cc_base.specs.IntegerLaws.{tri_leq}
use Rattle.cc_base.specs.declared.int_types.IntType.{IntType}
use Rattle.cc_base.specs.declared.integer_operators.Rel.{Rel}
use Rattle.pointer_domain.specs.declared.base_sets.Bases.{Bases}
use Rattle.pointer_domain.specs.declared.pointer_sets.Pointers.{Pointers}
use Rattle.pointer_domain.specs.PointerLattice.{pointers_leq}
use Rattle.pointer_domain.specs.PointerTables.{shifted, narrowed, pointers_equal, pointers_compare, pointers_difference}
use Rattle.domain_theorems.specs.Values.Consistency.{is_consistent}

pub record PointerLaws {I : Type 0} (l : LatticeOf I) (n : IntegersOf I) : Type 0 where
  pub shift : (p q : Pointers I) (by more : I) (scale : ℕ) → is_consistent n p ≡ true → pointers_leq l p q ≡ true → l.leq by more ≡ true → pointers_leq l (shifted l n p by scale) (shifted l n q more scale) ≡ true
  pub narrow : (p q : Pointers I) (offset size : ℕ) → is_consistent n p ≡ true → pointers_leq l p q ≡ true → pointers_leq l (narrowed l n p offset size) (narrowed l n q offset size) ≡ true
  pub equal : (p q u v : Pointers I) (single : Bases) → is_consistent n p ≡ true → is_consistent n q ≡ true → pointers_leq l p u ≡ true → pointers_leq l q v ≡ true → tri_leq (pointers_equal n p q single) (pointers_equal n u v single) ≡ true
  pub compare : (rel : Rel) (p q u v : Pointers I) → pointers_leq l p u ≡ true → pointers_leq l q v ≡ true → tri_leq (pointers_compare l n rel p q) (pointers_compare l n rel u v) ≡ true
  pub difference : (p q u v : Pointers I) (size : ℕ) (kind : IntType) → 0 < size → pointers_leq l p u ≡ true → pointers_leq l q v ≡ true → l.leq (pointers_difference l n p q size kind) (pointers_difference l n u v size kind) ≡ true
