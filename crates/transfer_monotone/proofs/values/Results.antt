-- Results that are put into temporaries.
use Rattle.std.specs.Prelude.{◌≡◌, ℕ, ◌^◌, ◌-◌, ℤ, pos, negsuc, Bool, true, false, ◌||◌, Some, is_none, List, refl}
use Rattle.std.proofs.Common.{arith}
use Rattle.std.proofs.lemmas.Int.{ints}
use Rattle.cc_base.specs.Lattices.{LatticeOf, OrderLaws}
use Rattle.cc_base.specs.LatticeParts.{flag_leq}
use Rattle.cc_base.specs.IntegerDomains.{IntegersOf, BoundLaws}
use Rattle.cc_base.specs.IntegerLaws.{MonotoneLaws, tri_leq}
use Rattle.cc_base.specs.declared.integer_operators.Tri.{Tri}
use Rattle.cc_base.specs.declared.integer_operators.Tri.TheVariants.{Yes, No, Both, Never}
use Rattle.cfg.specs.declared.programs.Flow.{Flow}
use Rattle.pointer_domain.specs.declared.base_sets.Bases.{Bases}
use Rattle.pointer_domain.specs.declared.pointer_sets.Pointers.{Pointers}
use Rattle.pointer_domain.specs.BaseLattice.{bases_order}
use Rattle.pointer_domain.specs.PointerLattice.{no_pointer, pointer_order, pointers_leq}
use Rattle.pointer_domain.specs.PointerTables.{is_any}
use Rattle.value_domain.specs.declared.values.label_sets.Labels.{Labels}
use Rattle.value_domain.specs.declared.values.values.Value.{Value}
use Rattle.value_domain.specs.declared.values.row_cells.Cell.{Cell}
use Rattle.value_domain.specs.Values.LabelSets.{no_labels, labels_leq, labels_order}
use Rattle.value_domain.specs.Values.Values.{value_lattice, value_order}
use Rattle.value_domain.specs.Values.ValueTables.{number_value, pointer_value, truth_number, truth_value}
use Rattle.store_cells.specs.ByteWrites.{null_pointer}
use Rattle.domain_theorems.proofs.values.Flags.{flag_sets, or_sets}
use Rattle.domain_theorems.proofs.values.Parts.{PointersBelow, pointer_parts, pointers_below, value_parts, value_below}
use Rattle.domain_theorems.proofs.values.ValueOperations.{of_truth_monotone}
use Rattle.store_monotone.specs.Operations.TopCells.{top_number, top_value}
use Rattle.store_monotone.specs.Operations.TopRows.{top_row}
use Rattle.store_monotone.proofs.operations.Consistent.{even_bare}
use Rattle.store_monotone.proofs.operations.CellReads.{labels_top}
use Rattle.store_monotone.proofs.operations.OwnValues.{one_within}
use Rattle.store_monotone.proofs.operations.StorePlaces.{any_monotone, bounds_some}
use Rattle.transfer_checks.specs.Temporaries.{temp_position, temp_value, put_temp}
use Rattle.transfer_system.specs.ResultTemps.{put_number, put_truth, put_pointer}
use Rattle.transfer_monotone.specs.Values.RisingRows.{RowsRise, LeftRise, PointersRise, ValuesRise}
use Rattle.transfer_monotone.specs.Values.LaidOut.{IsLaidOut}
use Rattle.transfer_monotone.proofs.values.TempPlaces.{temp_place}
use Rattle.transfer_monotone.proofs.values.RisingCells.{value_rises, put_rises, left_if, left_unless}

flag_true : (p : Bool) → flag_leq p true ≡ true
flag_true true = refl
flag_true false = refl

module _ {I : Type 0} {l : LatticeOf I} {n : IntegersOf I} {stands : I → ℤ → Type 0} (o : OrderLaws l) (b : BoundLaws l n stands) (all : Bases) where
  pub number_rises : (x y : I) (s t : Labels) → l.leq x y ≡ true → l.leq y (top_number n) ≡ true → labels_leq s t ≡ true → ValuesRise l n all (number_value l x s) (number_value l y t)
  number_rises x y s t h k j =
      let e = even_bare o b false false in
      record {
        below = value_below l (number_value l x s) (number_value l y t) (record { num = h; pointer = (pointer_order o).reflexive (no_pointer l); indeterminate = refl; labels = j });
        own = value_below l (number_value l y t) (top_value n all) (record { num = k; pointer = (pointer_order o).least_below (top_value n all).pointer; indeterminate = refl; labels = labels_top t });
        even = e.1;
      }

  pub pointer_rises : (p q : Pointers I) → PointersRise l n all p q → ValuesRise l n all (pointer_value l p) (pointer_value l q)
  pointer_rises p q h = record {
    below = value_below l (pointer_value l p) (pointer_value l q) (record { num = o.reflexive l.least; pointer = h.below; indeterminate = refl; labels = labels_order.reflexive no_labels });
    own = value_below l (pointer_value l q) (top_value n all) (record { num = o.least_below (top_number n); pointer = h.own; indeterminate = refl; labels = labels_top no_labels });
    even = h.even;
  }

  -- the pointer part of a value
  pub part_rises : (v w : Value I) → ValuesRise l n all v w → PointersRise l n all v.pointer w.pointer
  part_rises v w h = record { below = (value_parts l v w h.below).pointer; own = (value_parts l w (top_value n all) h.own).pointer; even = h.even }

  -- the components of rising values and pointer parts
  pub num_rises : {v w : Value I} → ValuesRise l n all v w → l.leq v.num w.num ≡ true
  num_rises {v} {w} h = (value_parts l v w h.below).num

  pub value_small : {v w : Value I} → ValuesRise l n all v w → (value_lattice l).leq v (top_value n all) ≡ true
  value_small {v} {w} h = (value_order o).transitive v w (top_value n all) h.below h.own

  pub num_near : {v w : Value I} → ValuesRise l n all v w → l.leq w.num (top_number n) ≡ true
  num_near {v} {w} h = (value_parts l w (top_value n all) h.own).num

  pub labels_rise : {v w : Value I} → ValuesRise l n all v w → labels_leq v.labels w.labels ≡ true
  labels_rise {v} {w} h = (value_parts l v w h.below).labels

  pub of_pointer : {v w : Value I} → ValuesRise l n all v w → PointersRise l n all v.pointer w.pointer
  of_pointer {v} {w} h = part_rises v w h

  pub parts_rise : {p q : Pointers I} → PointersRise l n all p q → PointersBelow l p q
  parts_rise {p} {q} h = pointer_parts l p q h.below

  -- the smaller pointer part is an own one too
  pub smaller_own : (p q : Pointers I) → PointersRise l n all p q → pointers_leq l p (top_value n all).pointer ≡ true
  smaller_own p q h = (pointer_order o).transitive p q (top_value n all).pointer h.below h.own

  -- no base, with or without null and ended
  pub bare_rises : (null ended : Bool) (q : Pointers I) → flag_leq null q.null ≡ true → flag_leq ended q.ended ≡ true → pointers_leq l q (top_value n all).pointer ≡ true → PointersRise l n all (record (no_pointer l) { null = null; ended = ended }) q
  bare_rises null ended q h k j =
      let e = even_bare o b null ended in
      record {
        below = pointers_below l (record (no_pointer l) { null = null; ended = ended }) q (record { bases = bases_order.least_below q.bases; lo = o.least_below q.lo; rel = o.least_below q.rel; len = o.least_below q.len; part = refl; null = h; ended = k });
        own = j;
        even = e.1;
      }

  pub bare_own : (null ended : Bool) → pointers_leq l (record (no_pointer l) { null = null; ended = ended }) (top_value n all).pointer ≡ true
  bare_own null ended = pointers_below l (record (no_pointer l) { null = null; ended = ended }) (top_value n all).pointer
      (record { bases = bases_order.least_below all; lo = o.least_below (top_number n); rel = o.least_below (top_number n); len = o.least_below (top_number n); part = refl; null = flag_true null; ended = flag_true ended })

  pub null_rises : PointersRise l n all (null_pointer l) (null_pointer l)
  null_rises = bare_rises true false (null_pointer l) refl refl (bare_own true false)

  pub none_rises : (q : Pointers I) → pointers_leq l q (top_value n all).pointer ≡ true → PointersRise l n all (no_pointer l) q
  none_rises q h = bare_rises false false q refl refl h

  truth_near : (t : Tri) → l.leq (truth_number l n t) (top_number n) ≡ true
  truth_near Yes = one_within o b (pos 1) (negsuc (2 ^ 64 - 1)) (pos (2 ^ 64)) (omega (arith, ints)) (omega (arith, ints))
  truth_near No = one_within o b (pos 0) (negsuc (2 ^ 64 - 1)) (pos (2 ^ 64)) (omega (arith, ints)) (omega (arith, ints))
  truth_near Both = b.below_between (n.between (pos 0) (pos 1)) (pos 0) (pos 1) (negsuc (2 ^ 64 - 1)) (pos (2 ^ 64)) (b.between_bounds (pos 0) (pos 1) (omega (arith, ints))) (omega (arith, ints)) (omega (arith, ints))
  truth_near Never = o.least_below (top_number n)

  truth_rises : MonotoneLaws l n → (s t : Tri) → tri_leq s t ≡ true → ValuesRise l n all (truth_value l n s) (truth_value l n t)
  truth_rises g s t h = number_rises (truth_number l n s) (truth_number l n t) no_labels no_labels (value_parts l (truth_value l n s) (truth_value l n t) (of_truth_monotone o b g s t h)).num (truth_near t) (labels_order.reflexive no_labels)

  -- ---- in temporaries

  module _ (flow : Flow) (k : IsLaidOut all flow) where
    pub temp_rises : (r s : List (Cell I)) → RowsRise l n (top_row n all flow.bases.items flow.temps) r s → (temp : ℕ) → ValuesRise l n all (temp_value l n flow r temp) (temp_value l n flow s temp)
    temp_rises r s h temp = value_rises o b all k.words (top_row n all flow.bases.items flow.temps) r s h (temp_position flow temp) (temp_place n all flow k temp)

    pub put_temp_rises : (r s : List (Cell I)) → RowsRise l n (top_row n all flow.bases.items flow.temps) r s → (temp : ℕ) (v w : Value I) → ValuesRise l n all v w → RowsRise l n (top_row n all flow.bases.items flow.temps) (put_temp flow r temp v) (put_temp flow s temp w)
    put_temp_rises r s h temp v w j = put_rises o b all k.words (top_row n all flow.bases.items flow.temps) r s h (temp_position flow temp) (temp_place n all flow k temp) v w j

    module _ (r s : List (Cell I)) (h : RowsRise l n (top_row n all flow.bases.items flow.temps) r s) (to : ℕ) where
      pub number_put : (v w : Value I) → ValuesRise l n all v w → LeftRise l n (top_row n all flow.bases.items flow.temps) (put_number n flow r to v) (put_number n flow s to w)
      unfolding put_number
      number_put v w j = left_unless l n (top_row n all flow.bases.items flow.temps) (is_none (n.bounds v.num)) (is_none (n.bounds w.num)) (Some (put_temp flow r to v)) (Some (put_temp flow s to w))
          (bounds_some o b v.num w.num (n.bounds v.num) (n.bounds w.num) refl refl (value_parts l v w j.below).num) (λ e. put_temp_rises r s h to v w j)

      -- pointers that are there, or have ended
      pub pointer_put_if : (p q : Pointers I) → pointers_leq l p q ≡ true → ((is_any p || p.ended) ≡ true → PointersRise l n all p q) → LeftRise l n (top_row n all flow.bases.items flow.temps) (put_pointer l flow r to p) (put_pointer l flow s to q)
      unfolding put_pointer
      pointer_put_if p q i j = let c = pointer_parts l p q i in
          left_if l n (top_row n all flow.bases.items flow.temps) (is_any p || p.ended) (is_any q || q.ended) (Some (put_temp flow r to (pointer_value l p))) (Some (put_temp flow s to (pointer_value l q)))
          (or_sets (is_any p) p.ended (is_any q) q.ended (any_monotone o b p q c) (flag_sets p.ended q.ended c.ended)) (λ e. put_temp_rises r s h to (pointer_value l p) (pointer_value l q) (pointer_rises p q (j e)))

      pub pointer_put : (p q : Pointers I) → PointersRise l n all p q → LeftRise l n (top_row n all flow.bases.items flow.temps) (put_pointer l flow r to p) (put_pointer l flow s to q)
      pointer_put p q j = pointer_put_if p q j.below (λ e. j)

      pub truth_put : MonotoneLaws l n → (t u : Tri) → tri_leq t u ≡ true → LeftRise l n (top_row n all flow.bases.items flow.temps) (put_truth l n flow r to t) (put_truth l n flow s to u)
      unfolding put_truth
      truth_put g Never u i = tt
      truth_put g Yes Never i = absurd (cc)
      truth_put g No Never i = absurd (cc)
      truth_put g Both Never i = absurd (cc)
      truth_put g Yes Yes i = put_temp_rises r s h to (truth_value l n Yes) (truth_value l n Yes) (truth_rises g Yes Yes i)
      truth_put g Yes No i = put_temp_rises r s h to (truth_value l n Yes) (truth_value l n No) (truth_rises g Yes No i)
      truth_put g Yes Both i = put_temp_rises r s h to (truth_value l n Yes) (truth_value l n Both) (truth_rises g Yes Both i)
      truth_put g No Yes i = put_temp_rises r s h to (truth_value l n No) (truth_value l n Yes) (truth_rises g No Yes i)
      truth_put g No No i = put_temp_rises r s h to (truth_value l n No) (truth_value l n No) (truth_rises g No No i)
      truth_put g No Both i = put_temp_rises r s h to (truth_value l n No) (truth_value l n Both) (truth_rises g No Both i)
      truth_put g Both Yes i = put_temp_rises r s h to (truth_value l n Both) (truth_value l n Yes) (truth_rises g Both Yes i)
      truth_put g Both No i = put_temp_rises r s h to (truth_value l n Both) (truth_value l n No) (truth_rises g Both No i)
      truth_put g Both Both i = put_temp_rises r s h to (truth_value l n Both) (truth_value l n Both) (truth_rises g Both Both i)
