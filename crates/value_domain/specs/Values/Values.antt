-- The lattice of values, by components.
use Rattle.std.specs.Prelude.{Bool, refl}
use Rattle.cc_base.specs.Lattices.{LatticeOf, OrderLaws, RoundLaws, HeightLaws}
use Rattle.cc_base.specs.LatticeParts.{flag_lattice, flag_order, flag_rounding, flag_heights, pair_lattice, pair_order, pair_rounding, pair_heights, image_lattice, image_order, image_rounding, image_heights}
use Rattle.pointer_domain.specs.declared.pointer_sets.Pointers.{Pointers}
use Rattle.pointer_domain.specs.PointerLattice.{pointer_lattice, pointer_order, pointer_rounding, pointer_heights}
use Rattle.value_domain.specs.declared.values.label_sets.Labels.{Labels}
use Rattle.value_domain.specs.declared.values.values.Value.{Value}
use Rattle.value_domain.specs.Values.LabelSets.{labels_lattice, labels_order, labels_rounding, labels_heights}

abbrev pub ValueParts : Type 0 → Type 0
ValueParts I = I × (Pointers I × (Bool × Labels))

module _ {I : Type 0} where
  abbrev pub value_parts : Value I → ValueParts I
  value_parts v = (v.num, (v.pointer, (v.indeterminate, v.labels)))

  abbrev pub from_value_parts : ValueParts I → Value I
  from_value_parts p = record { num = p.0; pointer = p.1.0; indeterminate = p.1.1.0; labels = p.1.1.1 }

  abbrev pub value_lattice : LatticeOf I → LatticeOf (Value I)
  value_lattice l = image_lattice value_parts from_value_parts (pair_lattice l (pair_lattice (pointer_lattice l) (pair_lattice flag_lattice labels_lattice)))

module _ {I : Type 0} {l : LatticeOf I} where
  pub value_order : OrderLaws l → OrderLaws (value_lattice l)
  value_order o = image_order value_parts from_value_parts (λ x. refl) (λ y. refl) (pair_order o (pair_order (pointer_order o) (pair_order flag_order labels_order)))

  pub value_rounding : RoundLaws l → RoundLaws (value_lattice l)
  value_rounding o = image_rounding value_parts from_value_parts (λ x. refl) (λ y. refl) (pair_rounding o (pair_rounding (pointer_rounding o) (pair_rounding flag_rounding labels_rounding)))

  pub value_heights : OrderLaws l → HeightLaws l → HeightLaws (value_lattice l)
  value_heights o h = image_heights value_parts from_value_parts (λ x. refl) (λ y. refl) (pair_heights o (pair_order (pointer_order o) (pair_order flag_order labels_order)) h (pair_heights (pointer_order o) (pair_order flag_order labels_order) (pointer_heights o h) (pair_heights flag_order labels_order flag_heights labels_heights)))
