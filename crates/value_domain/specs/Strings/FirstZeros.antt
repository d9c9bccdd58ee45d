-- The lattice of first zeros: that of their offsets.
use Rattle.std.specs.Prelude.{◌^◌, ℤ, pos, refl}
use Rattle.cc_base.specs.Lattices.{LatticeOf, OrderLaws, RoundLaws, HeightLaws}
use Rattle.cc_base.specs.LatticeParts.{image_lattice, image_order, image_rounding, image_heights}
use Rattle.value_domain.specs.declared.strings.first_zeros.FirstZero.{FirstZero}

-- the offset of no byte: 2^64
abbrev pub the_end : ℤ
the_end = pos (2 ^ 64)

module _ {I : Type 0} where
  abbrev pub offset_of : FirstZero I → I
  offset_of z = z.at

  abbrev pub zero_of : I → FirstZero I
  zero_of x = record { at = x }

  abbrev pub zero_lattice : LatticeOf I → LatticeOf (FirstZero I)
  zero_lattice l = image_lattice offset_of zero_of l

module _ {I : Type 0} {l : LatticeOf I} where
  pub zero_order : OrderLaws l → OrderLaws (zero_lattice l)
  zero_order o = image_order offset_of zero_of (λ x. refl) (λ y. refl) o

  pub zero_rounding : RoundLaws l → RoundLaws (zero_lattice l)
  zero_rounding o = image_rounding offset_of zero_of (λ x. refl) (λ y. refl) o

  pub zero_heights : HeightLaws l → HeightLaws (zero_lattice l)
  zero_heights o = image_heights offset_of zero_of (λ x. refl) (λ y. refl) o
