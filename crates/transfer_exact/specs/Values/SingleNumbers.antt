-- Numbers of the domain that are one alone.
use Rattle.std.specs.Prelude.{◌≡◌, ℤ, Some, None}
use Rattle.cc_base.specs.IntegerDomains.{IntegersOf}

module _ {I : Type 0} (n : IntegersOf I) where
  abbrev pub IsOne : I → ℤ → Type 0
  IsOne x z = n.bounds x ≡ Some (z, z)

  abbrev pub IsNone : I → Type 0
  IsNone x = n.bounds x ≡ None
