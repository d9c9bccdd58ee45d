-- What a set of bases without one has, and what pointer parts stand for whose bases are renamed or have ended.
use Rattle.std.specs.Prelude.{◌≡◌, ℕ, ◌<◌, ℤ, true, false}
use Rattle.cc_base.specs.Lattices.{LatticeOf}
use Rattle.pointer_domain.specs.BaseSets.{bases_has, bases_without}
use Rattle.pointer_domain.specs.PointerTables.{renamed, ended_at}
use Rattle.pointer_domain.specs.declared.base_sets.Bases.{Bases}
use Rattle.pointer_domain.specs.declared.pointer_sets.Pointers.{Pointers}
use Rattle.domain_theorems.specs.Values.Meaning.{IsInto}

-- a number that a program's base can have
abbrev pub IsBase : ℕ → Type 0
IsBase base = base < 1016

pub record WithoutMeaning : Type 0 where
  pub gone : (s : Bases) (base : ℕ) → bases_has (bases_without s base) base ≡ false
  pub others : (s : Bases) (base other : ℕ) → IsBase base → IsBase other → (base ≡ other → ⊥) → bases_has (bases_without s base) other ≡ bases_has s other

module _ {I : Type 0} where
  pub record RenameMeaning (stands : I → ℤ → Type 0) : Type 0 where
    -- a pointer into the base that is renamed is into the new one, any other into its own
    pub moved : (p : Pointers I) (from to : ℕ) (low offset high : ℤ) → IsInto stands p from low offset high → IsInto stands (renamed p from to) to low offset high
    pub others : (p : Pointers I) (from to base : ℕ) (low offset high : ℤ) → IsBase from → IsBase to → IsBase base → (from ≡ base → ⊥) → IsInto stands p base low offset high → IsInto stands (renamed p from to) base low offset high
    -- none is into the old one
    pub gone : (p : Pointers I) (from to : ℕ) → IsBase from → IsBase to → (to ≡ from → ⊥) → bases_has (renamed p from to).bases from ≡ false
    pub nulls : (p : Pointers I) (from to : ℕ) → (renamed p from to).null ≡ p.null
    pub ended : (p : Pointers I) (from to : ℕ) → (renamed p from to).ended ≡ p.ended

  pub record EndMeaning (l : LatticeOf I) (stands : I → ℤ → Type 0) : Type 0 where
    -- a pointer into the base that has ended is an ended one, any other stays
    pub ends : (p : Pointers I) (base : ℕ) (low offset high : ℤ) → IsInto stands p base low offset high → (ended_at l p base).ended ≡ true
    pub others : (p : Pointers I) (gone base : ℕ) (low offset high : ℤ) → IsBase gone → IsBase base → (gone ≡ base → ⊥) → IsInto stands p base low offset high → IsInto stands (ended_at l p gone) base low offset high
    -- none is into the base
    pub gone : (p : Pointers I) (base : ℕ) → bases_has (ended_at l p base).bases base ≡ false
    pub nulls : (p : Pointers I) (base : ℕ) → (ended_at l p base).null ≡ p.null
    pub stays : (p : Pointers I) (base : ℕ) → p.ended ≡ true → (ended_at l p base).ended ≡ true
