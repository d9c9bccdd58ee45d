-- The lattice of pointer parts, by components.
use Rattle.std.specs.Prelude.{ℤ, Bool, false, ◌&&◌, ◌||◌, List, refl}
use Rattle.cc_base.specs.Lattices.{LatticeOf, OrderLaws, RoundLaws, HeightLaws}
use Rattle.cc_base.specs.LatticeParts.{flag_leq, flag_lattice, flag_order, flag_rounding, flag_heights, pair_lattice, pair_order, pair_rounding, pair_heights, image_order, image_rounding, image_heights}
use Rattle.pointer_domain.specs.BaseLattice.{bases_lattice, bases_order, bases_rounding, bases_heights}
use Rattle.pointer_domain.specs.BaseSets.{no_base, bases_union, bases_within}
use Rattle.pointer_domain.specs.declared.base_sets.Bases.{Bases}
use Rattle.pointer_domain.specs.declared.pointer_sets.Pointers.{Pointers}

abbrev pub flags_lattice : LatticeOf (Bool × (Bool × Bool))
flags_lattice = pair_lattice flag_lattice (pair_lattice flag_lattice flag_lattice)

-- the components, in order
abbrev pub Parts : Type 0 → Type 0
Parts I = Bases × (I × (I × (I × (Bool × (Bool × Bool)))))

module _ {I : Type 0} where
  abbrev pub no_pointer : LatticeOf I → Pointers I
  no_pointer l = record { bases = no_base; lo = l.least; rel = l.least; len = l.least; part = false; null = false; ended = false }

  abbrev pub pointers_join : LatticeOf I → Pointers I → Pointers I → Pointers I
  pointers_join l x y = record {
    bases = bases_union x.bases y.bases;
    lo = l.join x.lo y.lo;
    rel = l.join x.rel y.rel;
    len = l.join x.len y.len;
    part = x.part || y.part;
    null = x.null || y.null;
    ended = x.ended || y.ended;
  }

  abbrev pub pointers_leq : LatticeOf I → Pointers I → Pointers I → Bool
  pointers_leq l x y = bases_within x.bases y.bases && (l.leq x.lo y.lo && (l.leq x.rel y.rel && (l.leq x.len y.len
      && (flag_leq x.part y.part && (flag_leq x.null y.null && flag_leq x.ended y.ended)))))

  abbrev pub pointers_round : LatticeOf I → List ℤ → Pointers I → Pointers I
  pointers_round l list x = record x { lo = l.round list x.lo; rel = l.round list x.rel; len = l.round list x.len }

  abbrev pub parts_of : Pointers I → Parts I
  parts_of x = (x.bases, (x.lo, (x.rel, (x.len, (x.part, (x.null, x.ended))))))

  abbrev pub from_parts : Parts I → Pointers I
  from_parts p = record { bases = p.0; lo = p.1.0; rel = p.1.1.0; len = p.1.1.1.0; part = p.1.1.1.1.0; null = p.1.1.1.1.1.0; ended = p.1.1.1.1.1.1 }

  abbrev pub intervals_lattice : LatticeOf I → LatticeOf (I × (I × (I × (Bool × (Bool × Bool)))))
  intervals_lattice l = pair_lattice l (pair_lattice l (pair_lattice l flags_lattice))

  abbrev pub parts_lattice : LatticeOf I → LatticeOf (Parts I)
  parts_lattice l = pair_lattice bases_lattice (intervals_lattice l)

  -- how often a pointer part can still grow: by bases, bounds and flags
  abbrev pub pointer_lattice : LatticeOf I → LatticeOf (Pointers I)
  pointer_lattice l = record {
    least = no_pointer l;
    join = pointers_join l;
    leq = pointers_leq l;
    round = pointers_round l;
    within = λ list x. (parts_lattice l).within list (parts_of x);
    rank = λ list x. (parts_lattice l).rank list (parts_of x);
    height = (parts_lattice l).height;
  }

flags_order : OrderLaws (flags_lattice)
flags_order = pair_order flag_order (pair_order flag_order flag_order)

flags_heights : HeightLaws (flags_lattice)
flags_heights = pair_heights flag_order (pair_order flag_order flag_order) flag_heights (pair_heights flag_order flag_order flag_heights flag_heights)

flags_rounding : RoundLaws (flags_lattice)
flags_rounding = pair_rounding flag_rounding (pair_rounding flag_rounding flag_rounding)

module _ {I : Type 0} {l : LatticeOf I} where
  one_order : OrderLaws l → OrderLaws (pair_lattice l flags_lattice)
  one_order o = pair_order o flags_order

  two_order : OrderLaws l → OrderLaws (pair_lattice l (pair_lattice l flags_lattice))
  two_order o = pair_order o (one_order o)

  three_order : OrderLaws l → OrderLaws (intervals_lattice l)
  three_order o = pair_order o (two_order o)

  pub pointer_order : OrderLaws l → OrderLaws (pointer_lattice l)
  pointer_order o = image_order parts_of from_parts (λ x. refl) (λ y. refl) (pair_order bases_order (three_order o))

  pub pointer_rounding : RoundLaws l → RoundLaws (pointer_lattice l)
  pointer_rounding o = image_rounding parts_of from_parts (λ x. refl) (λ y. refl) (pair_rounding bases_rounding (pair_rounding o (pair_rounding o (pair_rounding o flags_rounding))))

  three_heights : OrderLaws l → HeightLaws l → HeightLaws (intervals_lattice l)
  three_heights o h = pair_heights o (two_order o) h (pair_heights o (one_order o) h (pair_heights o flags_order h flags_heights))

  pub pointer_heights : OrderLaws l → HeightLaws l → HeightLaws (pointer_lattice l)
  pointer_heights o h = image_heights parts_of from_parts (λ x. refl) (λ y. refl) (pair_heights bases_order (three_order o) bases_heights (three_heights o h))
