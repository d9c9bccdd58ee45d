-- The pointers into an instance that a pointer part stands for, over what the numbers of a domain stand for.
use Rattle.std.specs.Prelude.{◌≡◌, ℕ, ℤ, ◌-ℤ◌, true}
use Rattle.pointer_domain.specs.BaseSets.{bases_has}
use Rattle.pointer_domain.specs.declared.pointer_sets.Pointers.{Pointers}

-- into an instance of a base, with the bounds `low` and `high`, at an offset
pub record IsInto {I : Type 0} (stands : I → ℤ → Type 0) (p : Pointers I) (base : ℕ) (low offset high : ℤ) : Type 0 where
  pub among : bases_has p.bases base ≡ true
  pub lower : stands p.lo low
  pub relative : stands p.rel (offset -ℤ low)
  pub room : stands p.len (high -ℤ low)
