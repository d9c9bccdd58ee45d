-- The orders of pointer parts, labels and values by their components.
use Rattle.std.specs.Prelude.{◌≡◌, true, ◌&&◌}
use Rattle.std.proofs.lemmas.Bool.{and_parts, and_from}
use Rattle.cc_base.specs.Lattices.{LatticeOf}
use Rattle.cc_base.specs.LatticeParts.{flag_leq}
use Rattle.pointer_domain.specs.BaseSets.{bases_within}
use Rattle.pointer_domain.specs.PointerLattice.{pointers_leq}
use Rattle.pointer_domain.specs.declared.pointer_sets.Pointers.{Pointers}
use Rattle.value_domain.specs.declared.values.label_sets.Labels.{Labels}
use Rattle.value_domain.specs.declared.values.values.Value.{Value}
use Rattle.value_domain.specs.Values.LabelSets.{labels_leq}
use Rattle.value_domain.specs.Values.Values.{value_lattice}
use Rattle.domain_theorems.proofs.values.Flags.{Sets, flag_sets, sets_flag}

pub record LabelsBelow (s t : Labels) : Type 0 where
  pub lo : Sets s.lo t.lo
  pub hi : Sets s.hi t.hi
  pub mutated : Sets s.mutated t.mutated

pub label_parts : (s t : Labels) → labels_leq s t ≡ true → LabelsBelow s t
label_parts s t h =
    let a = and_parts (flag_leq s.lo t.lo) (flag_leq s.hi t.hi && flag_leq s.mutated t.mutated) h in
    let b = and_parts (flag_leq s.hi t.hi) (flag_leq s.mutated t.mutated) a.1 in
    record { lo = flag_sets _ _ a.0; hi = flag_sets _ _ b.0; mutated = flag_sets _ _ b.1 }

pub labels_below : (s t : Labels) → LabelsBelow s t → labels_leq s t ≡ true
labels_below s t p = and_from _ _ (sets_flag _ _ p.lo) (and_from _ _ (sets_flag _ _ p.hi) (sets_flag _ _ p.mutated))

module _ {I : Type 0} (l : LatticeOf I) where
  pub record PointersBelow (x y : Pointers I) : Type 0 where
    pub bases : bases_within x.bases y.bases ≡ true
    pub lo : l.leq x.lo y.lo ≡ true
    pub rel : l.leq x.rel y.rel ≡ true
    pub len : l.leq x.len y.len ≡ true
    pub part : flag_leq x.part y.part ≡ true
    pub null : flag_leq x.null y.null ≡ true
    pub ended : flag_leq x.ended y.ended ≡ true

  pub record ValueBelow (v w : Value I) : Type 0 where
    pub num : l.leq v.num w.num ≡ true
    pub pointer : pointers_leq l v.pointer w.pointer ≡ true
    pub indeterminate : flag_leq v.indeterminate w.indeterminate ≡ true
    pub labels : labels_leq v.labels w.labels ≡ true

module _ {I : Type 0} (l : LatticeOf I) where
  pub pointer_parts : (x y : Pointers I) → pointers_leq l x y ≡ true → PointersBelow l x y
  pointer_parts x y h =
      let a = and_parts (bases_within x.bases y.bases) (l.leq x.lo y.lo && (l.leq x.rel y.rel && (l.leq x.len y.len && (flag_leq x.part y.part && (flag_leq x.null y.null && flag_leq x.ended y.ended))))) h in
      let b = and_parts (l.leq x.lo y.lo) (l.leq x.rel y.rel && (l.leq x.len y.len && (flag_leq x.part y.part && (flag_leq x.null y.null && flag_leq x.ended y.ended)))) a.1 in
      let c = and_parts (l.leq x.rel y.rel) (l.leq x.len y.len && (flag_leq x.part y.part && (flag_leq x.null y.null && flag_leq x.ended y.ended))) b.1 in
      let d = and_parts (l.leq x.len y.len) (flag_leq x.part y.part && (flag_leq x.null y.null && flag_leq x.ended y.ended)) c.1 in
      let e = and_parts (flag_leq x.part y.part) (flag_leq x.null y.null && flag_leq x.ended y.ended) d.1 in
      let f = and_parts (flag_leq x.null y.null) (flag_leq x.ended y.ended) e.1 in
      record { bases = a.0; lo = b.0; rel = c.0; len = d.0; part = e.0; null = f.0; ended = f.1 }

  pub pointers_below : (x y : Pointers I) → PointersBelow l x y → pointers_leq l x y ≡ true
  pointers_below x y p = and_from _ _ p.bases (and_from _ _ p.lo (and_from _ _ p.rel (and_from _ _ p.len (and_from _ _ p.part (and_from _ _ p.null p.ended)))))

  pub value_parts : (v w : Value I) → (value_lattice l).leq v w ≡ true → ValueBelow l v w
  value_parts v w h =
      let a = and_parts (l.leq v.num w.num) (pointers_leq l v.pointer w.pointer && (flag_leq v.indeterminate w.indeterminate && labels_leq v.labels w.labels)) h in
      let b = and_parts (pointers_leq l v.pointer w.pointer) (flag_leq v.indeterminate w.indeterminate && labels_leq v.labels w.labels) a.1 in
      let c = and_parts (flag_leq v.indeterminate w.indeterminate) (labels_leq v.labels w.labels) b.1 in
      record { num = a.0; pointer = b.0; indeterminate = c.0; labels = c.1 }

  pub value_below : (v w : Value I) → ValueBelow l v w → (value_lattice l).leq v w ≡ true
  value_below v w p = and_from _ _ p.num (and_from _ _ p.pointer (and_from _ _ p.indeterminate p.labels))
