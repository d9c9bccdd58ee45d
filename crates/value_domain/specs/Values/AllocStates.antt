-- The lattice of allocation states, by components.
use Rattle.std.specs.Prelude.{Bool, refl}
use Rattle.cc_base.specs.Lattices.{LatticeOf, OrderLaws, RoundLaws, HeightLaws}
use Rattle.cc_base.specs.LatticeParts.{flag_lattice, flag_order, flag_rounding, flag_heights, pair_lattice, pair_order, pair_rounding, pair_heights, image_lattice, image_order, image_rounding, image_heights}
use Rattle.value_domain.specs.declared.values.alloc_states.AllocState.{AllocState}

module _ {I : Type 0} where
  abbrev pub state_parts : AllocState I → I × (Bool × Bool)
  state_parts s = (s.size, (s.live, s.freed))

  abbrev pub from_state_parts : I × (Bool × Bool) → AllocState I
  from_state_parts p = record { size = p.0; live = p.1.0; freed = p.1.1 }

  abbrev pub state_lattice : LatticeOf I → LatticeOf (AllocState I)
  state_lattice l = image_lattice state_parts from_state_parts (pair_lattice l (pair_lattice flag_lattice flag_lattice))

module _ {I : Type 0} {l : LatticeOf I} where
  pub state_order : OrderLaws l → OrderLaws (state_lattice l)
  state_order o = image_order state_parts from_state_parts (λ x. refl) (λ y. refl) (pair_order o (pair_order flag_order flag_order))

  pub state_rounding : RoundLaws l → RoundLaws (state_lattice l)
  state_rounding o = image_rounding state_parts from_state_parts (λ x. refl) (λ y. refl) (pair_rounding o (pair_rounding flag_rounding flag_rounding))

  pub state_heights : OrderLaws l → HeightLaws l → HeightLaws (state_lattice l)
  state_heights o h = image_heights state_parts from_state_parts (λ x. refl) (λ y. refl) (pair_heights o (pair_order flag_order flag_order) h (pair_heights flag_order flag_order flag_heights flag_heights))
