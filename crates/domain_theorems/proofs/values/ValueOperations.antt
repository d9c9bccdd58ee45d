-- The operations on values.
use Rattle.std.specs.Prelude.{◌≡◌, ℤ, pos, ◌≤ℤ◌, true, false, not, ◌||◌, Some, None, refl}
use Rattle.std.proofs.Common.{arith}
use Rattle.std.proofs.lemmas.Int.{ints}
use Rattle.cc_base.specs.Lattices.{LatticeOf, OrderLaws}
use Rattle.cc_base.specs.NumberRanges.{Range}
use Rattle.cc_base.specs.IntegerTypes.{is_size}
use Rattle.cc_base.specs.IntegerDomains.{IntegersOf, BoundLaws}
use Rattle.cc_base.specs.IntegerLaws.{MonotoneLaws, tri_leq}
use Rattle.cc_base.specs.Truths.{can_hold, can_fail}
use Rattle.cc_base.specs.declared.int_types.IntType.{IntType}
use Rattle.cc_base.specs.declared.integer_operators.IntOp.{IntOp}
use Rattle.cc_base.specs.declared.integer_operators.UnOp.{UnOp}
use Rattle.cc_base.specs.declared.integer_operators.Rel.TheVariants.{Ne}
use Rattle.cc_base.specs.declared.integer_operators.Tri.{Tri}
use Rattle.cc_base.specs.declared.integer_operators.Tri.TheVariants.{No, Yes, Both, Never}
use Rattle.pointer_domain.specs.BaseSets.{bases_empty}
use Rattle.pointer_domain.specs.PointerLattice.{no_pointer, pointer_order}
use Rattle.value_domain.specs.declared.values.label_sets.Labels.{Labels}
use Rattle.value_domain.specs.declared.values.values.Value.{Value}
use Rattle.value_domain.specs.Values.LabelSets.{no_labels, labels_leq, labels_order, operated_labels, negated_labels, converted_labels}
use Rattle.value_domain.specs.Values.Values.{value_lattice}
use Rattle.value_domain.specs.Values.ValueTables.{number_value, value_arith, value_unary, value_convert, value_truth, truth_number, truth_value, ranges_leave, negated_leave, range_fits}
use Rattle.domain_theorems.proofs.values.Flags.{Sets, flag_sets, or_sets, not_sets, tri_sets, holds_sets, fails_sets}
use Rattle.domain_theorems.proofs.values.Ranges.{bounds_monotone}
use Rattle.domain_theorems.proofs.values.Parts.{value_parts, value_below, pointer_parts}
use Rattle.domain_theorems.proofs.values.Bases.{empty_below}
use Rattle.domain_theorems.proofs.values.LabelRules.{operated_monotone, negated_monotone, converted_monotone}
use Rattle.domain_theorems.proofs.values.Leaving.{AreOrdered, leave_more, negated_more, fits_less}

module _ {I : Type 0} {l : LatticeOf I} {n : IntegersOf I} {stands : I → ℤ → Type 0} (o : OrderLaws l) (b : BoundLaws l n stands) (m : MonotoneLaws l n) where
  ordered_at : (x : I) (r : Range) → n.bounds x ≡ r → AreOrdered r
  ordered_at x None e = tt
  ordered_at x (Some p) e = b.proper x p.0 p.1 e

  ordered : (x : I) → AreOrdered (n.bounds x)
  ordered x = ordered_at x (n.bounds x) refl

  number_monotone : (x u : I) (s t : Labels) → l.leq x u ≡ true → labels_leq s t ≡ true → (value_lattice l).leq (number_value l x s) (number_value l u t) ≡ true
  number_monotone x u s t h k = value_below l (number_value l x s) (number_value l u t) (record {
    num = h;
    pointer = (pointer_order o).reflexive (no_pointer l);
    indeterminate = refl;
    labels = k;
  })

  pub arith_monotone : (op : IntOp) (k : IntType) (x y u v : Value I) → is_size k.bytes ≡ true → (value_lattice l).leq x u ≡ true → (value_lattice l).leq y v ≡ true → (value_lattice l).leq (value_arith l n op x y k) (value_arith l n op u v k) ≡ true
  arith_monotone op k x y u v c i j =
      let h = value_parts l x u i in
      let g = value_parts l y v j in
      number_monotone (n.arith op x.num y.num k) (n.arith op u.num v.num k)
      (operated_labels op x.labels y.labels k (ranges_leave op k (n.bounds x.num) (n.bounds y.num))) (operated_labels op u.labels v.labels k (ranges_leave op k (n.bounds u.num) (n.bounds v.num))) (m.arith_monotone op k x.num y.num u.num v.num c h.num g.num)
      (operated_monotone op x.labels y.labels u.labels v.labels k (ranges_leave op k (n.bounds x.num) (n.bounds y.num)) (ranges_leave op k (n.bounds u.num) (n.bounds v.num)) h.labels g.labels
      (leave_more op k (n.bounds x.num) (n.bounds y.num) (n.bounds u.num) (n.bounds v.num) (ordered x.num) (ordered y.num) (bounds_monotone b x.num u.num h.num) (bounds_monotone b y.num v.num g.num)))

  pub unary_monotone : (op : UnOp) (k : IntType) (x u : Value I) → is_size k.bytes ≡ true → (value_lattice l).leq x u ≡ true → (value_lattice l).leq (value_unary l n op x k) (value_unary l n op u k) ≡ true
  unary_monotone op k x u c i =
      let h = value_parts l x u i in
      number_monotone (n.unary op x.num k) (n.unary op u.num k) (negated_labels op x.labels k (negated_leave op k (n.bounds x.num))) (negated_labels op u.labels k (negated_leave op k (n.bounds u.num))) (m.unary_monotone op k x.num u.num c h.num)
      (negated_monotone op x.labels u.labels k (negated_leave op k (n.bounds x.num)) (negated_leave op k (n.bounds u.num)) h.labels (negated_more op k (n.bounds x.num) (n.bounds u.num) (ordered x.num) (bounds_monotone b x.num u.num h.num)))

  pub convert_monotone : (k : IntType) (x u : Value I) → is_size k.bytes ≡ true → (value_lattice l).leq x u ≡ true → (value_lattice l).leq (value_convert l n x k) (value_convert l n u k) ≡ true
  convert_monotone k x u c i =
      let h = value_parts l x u i in
      number_monotone (n.convert x.num k) (n.convert u.num k) (converted_labels x.labels k (range_fits k (n.bounds x.num))) (converted_labels u.labels k (range_fits k (n.bounds u.num))) (m.convert_monotone k x.num u.num c h.num)
      (converted_monotone x.labels u.labels k (range_fits k (n.bounds x.num)) (range_fits k (n.bounds u.num)) h.labels (fits_less k (n.bounds x.num) (n.bounds u.num) (ordered x.num) (bounds_monotone b x.num u.num h.num)))

  -- ---- truth

  pub truth_monotone : (x u : Value I) → (value_lattice l).leq x u ≡ true → tri_leq (value_truth n x) (value_truth n u) ≡ true
  truth_monotone x u i =
      let h = value_parts l x u i in
      let p = pointer_parts l x.pointer u.pointer h.pointer in
      let c = m.compare_monotone Ne x.num (n.one (pos 0)) u.num (n.one (pos 0)) h.num (o.reflexive (n.one (pos 0))) in
      let first : Tri = n.compare Ne x.num (n.one (pos 0)) in
      let second : Tri = n.compare Ne u.num (n.one (pos 0)) in
      tri_sets (can_hold first || (not (bases_empty x.pointer.bases) || x.pointer.ended)) (can_fail first || x.pointer.null)
      (can_hold second || (not (bases_empty u.pointer.bases) || u.pointer.ended)) (can_fail second || u.pointer.null)
      (or_sets (can_hold first) (not (bases_empty x.pointer.bases) || x.pointer.ended) (can_hold second) (not (bases_empty u.pointer.bases) || u.pointer.ended) (holds_sets first second c)
      (or_sets (not (bases_empty x.pointer.bases)) x.pointer.ended (not (bases_empty u.pointer.bases)) u.pointer.ended (not_sets (bases_empty x.pointer.bases) (bases_empty u.pointer.bases) (empty_below x.pointer.bases u.pointer.bases p.bases)) (flag_sets x.pointer.ended u.pointer.ended p.ended)))
      (or_sets (can_fail first) x.pointer.null (can_fail second) u.pointer.null (fails_sets first second c) (flag_sets x.pointer.null u.pointer.null p.null))

  one_within : (a : ℤ) → pos 0 ≤ℤ a → a ≤ℤ pos 1 → l.leq (n.one a) (n.between (pos 0) (pos 1)) ≡ true
  one_within a p q = b.below_between (n.one a) a a (pos 0) (pos 1) (b.one_bounds a) p q

  number_of_truth : (s t : Tri) → Sets (can_hold s) (can_hold t) → Sets (can_fail s) (can_fail t) → l.leq (truth_number l n s) (truth_number l n t) ≡ true
  number_of_truth Never t h g = o.least_below (truth_number l n t)
  number_of_truth Yes Yes h g = o.reflexive (n.one (pos 1))
  number_of_truth Yes No h g = absurd (let e : false ≡ true = h refl in cc)
  number_of_truth Yes Never h g = absurd (let e : false ≡ true = h refl in cc)
  number_of_truth Yes Both h g = one_within (pos 1) (omega (arith, ints)) (omega (arith, ints))
  number_of_truth No No h g = o.reflexive (n.one (pos 0))
  number_of_truth No Yes h g = absurd (let e : false ≡ true = g refl in cc)
  number_of_truth No Never h g = absurd (let e : false ≡ true = g refl in cc)
  number_of_truth No Both h g = one_within (pos 0) (omega (arith, ints)) (omega (arith, ints))
  number_of_truth Both No h g = absurd (let e : false ≡ true = h refl in cc)
  number_of_truth Both Yes h g = absurd (let e : false ≡ true = g refl in cc)
  number_of_truth Both Never h g = absurd (let e : false ≡ true = g refl in cc)
  number_of_truth Both Both h g = o.reflexive (n.between (pos 0) (pos 1))

  pub of_truth_monotone : (s t : Tri) → tri_leq s t ≡ true → (value_lattice l).leq (truth_value l n s) (truth_value l n t) ≡ true
  of_truth_monotone s t h = number_monotone (truth_number l n s) (truth_number l n t) no_labels no_labels (number_of_truth s t (holds_sets s t h) (fails_sets s t h)) (labels_order.reflexive no_labels)
