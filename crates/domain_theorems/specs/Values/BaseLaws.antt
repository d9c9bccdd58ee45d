-- Pointer parts whose bases are renamed or have ended grow with what they were.
use Rattle.std.specs.Prelude.{◌≡◌, ℕ, true}
use Rattle.cc_base.specs.Lattices.{LatticeOf}
use Rattle.cc_base.specs.IntegerDomains.{IntegersOf}
use Rattle.pointer_domain.specs.declared.pointer_sets.Pointers.{Pointers}
use Rattle.pointer_domain.specs.PointerLattice.{pointers_leq}
use Rattle.pointer_domain.specs.PointerTables.{renamed, ended_at}
use Rattle.domain_theorems.specs.Values.Consistency.{is_consistent, AreWords}

pub record BaseLaws {I : Type 0} (l : LatticeOf I) (n : IntegersOf I) : Type 0 where
  pub renaming : (p q : Pointers I) (from to : ℕ) → AreWords p.bases → pointers_leq l p q ≡ true → pointers_leq l (renamed p from to) (renamed q from to) ≡ true
  pub ending : (p q : Pointers I) (base : ℕ) → AreWords p.bases → is_consistent n p ≡ true → pointers_leq l p q ≡ true → pointers_leq l (ended_at l p base) (ended_at l q base) ≡ true
