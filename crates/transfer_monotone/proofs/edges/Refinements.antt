-- What a test on an edge tells of the objects that it names, in rising rows.
use Rattle.std.specs.Prelude.{◌≡◌, ℕ, ℤ, Bool, true, false, cond, not, ◌||◌, ◌&&◌, Option, Some, None, is_some, List, slice_get, refl}
use Rattle.std.proofs.Common.{sym, subst, inl}
use lib.Signed.{≤ℤ_refl}
use Rattle.cc_base.specs.Lattices.{LatticeOf, OrderLaws}
use Rattle.cc_base.specs.NumberRanges.{Range, range_met}
use Rattle.cc_base.specs.IntegerDomains.{IntegersOf, BoundLaws, RangeLaws}
use Rattle.cc_base.specs.IntegerLaws.{MonotoneLaws}
use Rattle.cc_base.specs.IntegerTypes.{is_size}
use Rattle.cc_base.specs.declared.int_types.IntType.{IntType}
use Rattle.cc_base.specs.declared.integer_operators.Rel.{Rel}
use Rattle.cc_base.specs.declared.integer_operators.Rel.TheVariants.{Lt, Le, Gt, Ge, Eq, Ne}
use Rattle.c_layout.specs.declared.shapes.BaseInfo.{BaseInfo}
use Rattle.cfg.specs.declared.programs.Flow.{Flow}
use Rattle.cfg.specs.declared.flow_edges.Side.{Side}
use Rattle.cfg.specs.declared.flow_edges.Side.TheVariants.{Object, Number, Null}
use Rattle.cfg.specs.declared.flow_edges.Test.{Test}
use Rattle.cfg.specs.WellFormed.{is_number, fits_side, names_of}
use Rattle.pointer_domain.specs.declared.base_sets.Bases.{Bases}
use Rattle.pointer_domain.specs.declared.pointer_sets.Pointers.{Pointers}
use Rattle.value_domain.specs.declared.values.label_sets.Labels.{Labels}
use Rattle.value_domain.specs.declared.values.values.Value as values
use Rattle.value_domain.specs.declared.values.row_cells.Cell.{Cell}
use Rattle.value_domain.specs.declared.values.row_cells.Cell.TheVariants.{Value}
use Rattle.value_domain.specs.Values.LabelSets.{no_labels, labels_leq, labels_order, is_unlabelled, dropped_labels}
use Rattle.value_domain.specs.Values.ValueTables.{number_value, range_fits}
use Rattle.store_cells.specs.RowPositions.{cell_at, value_at, put_value}
use Rattle.domain_theorems.proofs.values.Flags.{Sets, or_sets, and_sets, not_sets}
use Rattle.domain_theorems.proofs.values.Parts.{LabelsBelow, label_parts, labels_below, value_parts, value_below, pointer_parts, pointers_below}
use Rattle.domain_theorems.proofs.values.Ranges.{RangeBelow, met_monotone, bounds_monotone, of_range_monotone}
use Rattle.domain_theorems.proofs.values.Leaving.{AreOrdered, fits_less}
use Rattle.domain_theorems.proofs.values.LabelRules.{dropped_monotone}
use Rattle.store_monotone.specs.Operations.TopCells.{top_number, top_value}
use Rattle.store_monotone.specs.Operations.TopRows.{top_row}
use Rattle.store_monotone.specs.Operations.Placements.{IsPlaced}
use Rattle.store_monotone.proofs.operations.CellReads.{labels_top}
use Rattle.store_monotone.proofs.operations.NearCells.{near_value_is}
use Rattle.store_monotone.proofs.operations.OwnValues.{each_get}
use Rattle.transfer_system.specs.Refinements.{position_of, object_position, mirrored, refined_labels, common_labels, is_same_object, named_by, number_side, value_of_object, side_value, fits, refined_number, refined, met_number, met, put_at, put_side, has_number, refine_one, refine_two, refine_sides, refine_values, refine_integers, only_null, not_null, tested_pointer, tested_value, refine_pointer_at, refine_pointer, refine_named, refine_in, refine, labelled_number, with_number, put_case, refine_value, refine_case_at, refine_case}
use Rattle.transfer_monotone.specs.Values.RisingRows.{LeftRise, PointersRise, ValuesRise}
use Rattle.transfer_monotone.specs.Values.LaidOut.{IsLaidOut}
use Rattle.transfer_monotone.specs.Values.StepLaws.{FlowRows, Rises}
use Rattle.transfer_monotone.proofs.values.RisingCells.{value_rises, put_rises, near_least_rises, left_if, left_same}
use Rattle.transfer_monotone.proofs.values.Results.{num_rises, num_near, labels_rise, of_pointer, number_rises, bare_rises, bare_own}
use Rattle.transfer_monotone.proofs.values.Touches.{met_near, placed_bases}
use Rattle.transfer_monotone.proofs.values.IntegerSteps.{one_near}
use Rattle.transfer_monotone.proofs.values.IntegerChecks.{some_more}
use Rattle.transfer_monotone.specs.Edges.ProgramLaws.{HasLeaf, NamesLeaf}
use Rattle.transfer_monotone.proofs.edges.Operations.{number_near}

-- labels that are dropped are fewer
lower_fewer : (s : Labels) (signed : Bool) → labels_leq (record { lo = signed && s.lo; hi = false; mutated = false }) s ≡ true
lower_fewer s true = labels_below (record { lo = s.lo; hi = false; mutated = false }) s (record { lo = λ e. e; hi = λ e. absurd (cc); mutated = λ e. absurd (cc) })
lower_fewer s false = labels_order.least_below s

upper_fewer : (s : Labels) (signed : Bool) → labels_leq (record { lo = not signed && s.lo; hi = s.hi; mutated = s.mutated }) s ≡ true
upper_fewer s false = labels_order.reflexive s
upper_fewer s true = labels_below (record { lo = false; hi = s.hi; mutated = s.mutated }) s (record { lo = λ e. absurd (cc); hi = λ e. e; mutated = λ e. e })

dropped_fewer : (rel : Rel) (s : Labels) (k : IntType) → labels_leq (dropped_labels rel s k) s ≡ true
dropped_fewer Lt s k = lower_fewer s k.signed
dropped_fewer Le s k = lower_fewer s k.signed
dropped_fewer Gt s k = upper_fewer s k.signed
dropped_fewer Ge s k = upper_fewer s k.signed
dropped_fewer Eq s k = labels_order.least_below s
dropped_fewer Ne s k = labels_order.reflexive s

-- fewer labels on the other side drop more
refined_labels_rise : (s t u v : Labels) (rel : Rel) (k : IntType) → labels_leq s u ≡ true → labels_leq t v ≡ true → labels_leq (refined_labels s rel t k) (refined_labels u rel v k) ≡ true
refined_labels_rise s t u v rel k h j = by_tests (is_unlabelled t) (is_unlabelled v) unlabelled
  where
    p : LabelsBelow t v
    p = label_parts t v j

    unlabelled : Sets (is_unlabelled v) (is_unlabelled t)
    unlabelled = not_sets (v.lo || (v.hi || v.mutated)) (t.lo || (t.hi || t.mutated)) (or_sets t.lo (t.hi || t.mutated) v.lo (v.hi || v.mutated) p.lo (or_sets t.hi t.mutated v.hi v.mutated p.hi p.mutated))

    by_tests : (a c : Bool) → Sets c a → labels_leq (cond a (dropped_labels rel s k) s) (cond c (dropped_labels rel u k) u) ≡ true
    by_tests true true e = dropped_monotone rel k s u h
    by_tests true false e = labels_order.transitive (dropped_labels rel s k) s u (dropped_fewer rel s k) h
    by_tests false true e = absurd (let z : false ≡ true = e refl in cc)
    by_tests false false e = h

common_rise : (s t u v : Labels) → labels_leq s u ≡ true → labels_leq t v ≡ true → labels_leq (common_labels s t) (common_labels u v) ≡ true
common_rise s t u v h j =
    let p = label_parts s u h in
    let q = label_parts t v j in
    labels_below (common_labels s t) (common_labels u v) (record { lo = and_sets s.lo t.lo u.lo v.lo p.lo q.lo; hi = and_sets s.hi t.hi u.hi v.hi p.hi q.hi; mutated = and_sets s.mutated t.mutated u.mutated v.mutated p.mutated q.mutated })

module _ {I : Type 0} {l : LatticeOf I} {n : IntegersOf I} {stands : I → ℤ → Type 0} (o : OrderLaws l) (b : BoundLaws l n stands) (g : MonotoneLaws l n) (f : RangeLaws l n) (all : Bases) (flow : Flow) (k : IsLaidOut all flow) where
  -- ---- values

  -- a value with another number and other labels
  with_parts : (v w : values.Value I) → ValuesRise l n all v w → (x y : I) → l.leq x y ≡ true → l.leq y (top_number n) ≡ true → (s t : Labels) → labels_leq s t ≡ true → ValuesRise l n all (record v { num = x; labels = s }) (record w { num = y; labels = t })
  with_parts v w h x y i j s t e =
      let p = value_parts l v w h.below in
      let q = value_parts l w (top_value n all) h.own in
      record {
        below = value_below l (record v { num = x; labels = s }) (record w { num = y; labels = t }) (record { num = i; pointer = p.pointer; indeterminate = p.indeterminate; labels = e });
        own = value_below l (record w { num = y; labels = t }) (top_value n all) (record { num = j; pointer = q.pointer; indeterminate = q.indeterminate; labels = labels_top t });
        even = h.even;
      }

  ordered_at : (x : I) (r : Range) → n.bounds x ≡ r → AreOrdered r
  ordered_at x None e = tt
  ordered_at x (Some p) e = b.proper x p.0 p.1 e

  fits_fewer : (kind : IntType) (x y : I) → l.leq x y ≡ true → Sets (fits n kind y) (fits n kind x)
  fits_fewer kind x y h = and_sets (is_size kind.bytes) (range_fits kind (n.bounds y)) (is_size kind.bytes) (range_fits kind (n.bounds x)) (λ e. e) (fits_less kind (n.bounds x) (n.bounds y) (ordered_at x (n.bounds x) refl) (bounds_monotone b x y h))

  number_refines : (x y u v : I) (rel : Rel) (kind : IntType) → l.leq x u ≡ true → l.leq y v ≡ true → l.leq (refined_number n x rel y kind) (refined_number n u rel v kind) ≡ true
  number_refines x y u v rel kind h j = by_tests (fits n kind x && fits n kind y) (fits n kind u && fits n kind v) (and_sets (fits n kind u) (fits n kind v) (fits n kind x) (fits n kind y) (fits_fewer kind x u h) (fits_fewer kind y v j))
    where
      by_tests : (a c : Bool) → Sets c a → l.leq (cond a (n.refine rel x y) x) (cond c (n.refine rel u v) u) ≡ true
      by_tests true true e = g.refine_monotone rel x y u v h j
      by_tests true false e = o.transitive (n.refine rel x y) x u (f.refine_below rel x y) h
      by_tests false true e = absurd (let z : false ≡ true = e refl in cc)
      by_tests false false e = h

  refined_near : (x y : I) (rel : Rel) (kind : IntType) → l.leq x (top_number n) ≡ true → l.leq (refined_number n x rel y kind) (top_number n) ≡ true
  refined_near x y rel kind h = by_test (fits n kind x && fits n kind y)
    where
      by_test : (a : Bool) → l.leq (cond a (n.refine rel x y) x) (top_number n) ≡ true
      by_test true = o.transitive (n.refine rel x y) x (top_number n) (f.refine_below rel x y) h
      by_test false = h

  refined_rises : (v w x y : values.Value I) (rel : Rel) (kind : IntType) → ValuesRise l n all v x → ValuesRise l n all w y → ValuesRise l n all (refined n v rel w kind) (refined n x rel y kind)
  refined_rises v w x y rel kind h j = with_parts v x h (refined_number n v.num rel w.num kind) (refined_number n x.num rel y.num kind) (number_refines v.num w.num x.num y.num rel kind (num_rises o b all h) (num_rises o b all j)) (refined_near x.num y.num rel kind (num_near o b all h))
      (refined_labels v.labels rel w.labels kind) (refined_labels x.labels rel y.labels kind) (refined_labels_rise v.labels w.labels x.labels y.labels rel kind (labels_rise o b all h) (labels_rise o b all j))

  met_number_rises : (x u : I) (r s : Range) → l.leq x u ≡ true → RangeBelow r s → l.leq (met_number l n x r) (met_number l n u s) ≡ true
  met_number_rises x u None s h j = o.least_below (met_number l n u s)
  met_number_rises x u (Some p) None h j = absurd j
  met_number_rises x u (Some p) (Some q) h j = of_range_monotone o b (range_met (n.bounds x) p.0 p.1) (range_met (n.bounds u) q.0 q.1) (met_monotone (n.bounds x) (n.bounds u) p.0 p.1 q.0 q.1 (bounds_monotone b x u h) j.0 j.1)

  met_number_near : (u : I) (s : Range) → l.leq u (top_number n) ≡ true → l.leq (met_number l n u s) (top_number n) ≡ true
  met_number_near u None h = o.least_below (top_number n)
  met_number_near u (Some q) h = met_near o b all u h q.0 q.1

  met_rises : (v w x y : values.Value I) → ValuesRise l n all v x → ValuesRise l n all w y → ValuesRise l n all (met l n v w) (met l n x y)
  met_rises v w x y h j = with_parts v x h (met_number l n v.num (n.bounds w.num)) (met_number l n x.num (n.bounds y.num)) (met_number_rises v.num x.num (n.bounds w.num) (n.bounds y.num) (num_rises o b all h) (bounds_monotone b w.num y.num (num_rises o b all j))) (met_number_near x.num (n.bounds y.num) (num_near o b all h))
      (common_labels v.labels w.labels) (common_labels x.labels y.labels) (common_rise v.labels w.labels x.labels y.labels (labels_rise o b all h) (labels_rise o b all j))

  -- ---- named objects

  -- a value's place, where there is one
  abbrev IsPlaceOf : Option ℕ → Type 0
  IsPlaceOf None = Unit {0}
  IsPlaceOf (Some at) = cell_at (top_row n all flow.bases.items flow.temps) at ≡ Value (top_value n all)

  object_place : (base : ℕ) → HasLeaf flow base → IsPlaceOf (object_position flow base)
  object_place base leaf = at (slice_get flow.bases.items base) refl
    where
      at : (found : Option BaseInfo) → slice_get flow.bases.items base ≡ found → IsPlaceOf (position_of found)
      at None e = tt
      at (Some info) e = (each_get (λ (base : BaseInfo) number. IsPlaced n all (top_row n all flow.bases.items flow.temps) base) 0 base flow.bases.items info (placed_bases o b all flow k) e).leaf 0 (leaf info e)

  module _ (r s : List (Cell I)) (h : FlowRows l n all flow r s) where
    object_rises : (at : Option ℕ) → IsPlaceOf at → ValuesRise l n all (value_of_object l n r at) (value_of_object l n s at)
    object_rises None e = near_least_rises o b all k.words (top_row n all flow.bases.items flow.temps)
    object_rises (Some at) e = value_rises o b all k.words (top_row n all flow.bases.items flow.temps) r s h at (inl e)

    number_side_rises : (number : ℤ) → is_number number ≡ true → ValuesRise l n all (number_side l n number) (number_side l n number)
    number_side_rises number e =
        let c = number_near number e in
        let v = number_rises o b all (n.one number) (n.one number) no_labels no_labels (o.reflexive (n.one number)) (one_near o b number c.0 c.1) (labels_order.reflexive no_labels) in
        subst (λ z. ValuesRise l n all z z) (sym (near_value_is o b (number_value l (n.one number) no_labels) all v.own)) v

    side_rises : (side : Side) → fits_side (names_of flow) side ≡ true → NamesLeaf flow side → ValuesRise l n all (side_value l n flow r side) (side_value l n flow s side)
    side_rises (Number number) e t = number_side_rises number e
    side_rises Null e t = near_least_rises o b all k.words (top_row n all flow.bases.items flow.temps)
    side_rises (Object base kind) e t = object_rises (object_position flow base) (object_place base t)

  put_at_rises : (at : Option ℕ) → IsPlaceOf at → (r s : List (Cell I)) → FlowRows l n all flow r s → (v w : values.Value I) → ValuesRise l n all v w → FlowRows l n all flow (put_at at v r) (put_at at w s)
  unfolding put_at
  put_at_rises None e r s h v w j = h
  put_at_rises (Some at) e r s h v w j = put_rises o b all k.words (top_row n all flow.bases.items flow.temps) r s h at (inl e) v w j

  put_side_rises : (side : Side) → NamesLeaf flow side → (r s : List (Cell I)) → FlowRows l n all flow r s → (v w : values.Value I) → ValuesRise l n all v w → FlowRows l n all flow (put_side flow side v r) (put_side flow side w s)
  unfolding put_side
  put_side_rises (Object base kind) t r s h v w j = put_at_rises (object_position flow base) (object_place base t) r s h v w j
  put_side_rises (Number number) t r s h v w j = h
  put_side_rises Null t r s h v w j = h

  numbered_more : (v w : values.Value I) → ValuesRise l n all v w → Sets (has_number n v) (has_number n w)
  numbered_more v w j = some_more (n.bounds v.num) (n.bounds w.num) (bounds_monotone b v.num w.num (num_rises o b all j))

  -- ---- tests on integers

  module _ (test : Test) (left : NamesLeaf flow test.left) (right : NamesLeaf flow test.right) (r s : List (Cell I)) (h : FlowRows l n all flow r s) where
    one_rises : (v w : values.Value I) → ValuesRise l n all v w → LeftRise l n (top_row n all flow.bases.items flow.temps) (refine_one n flow test.left v r) (refine_one n flow test.left w s)
    unfolding refine_one
    one_rises v w j = left_if l n (top_row n all flow.bases.items flow.temps) (has_number n v) (has_number n w) (Some (put_side flow test.left v r)) (Some (put_side flow test.left w s)) (numbered_more v w j) (λ e. put_side_rises test.left left r s h v w j)

    two_rise : (v w x y : values.Value I) → ValuesRise l n all v x → ValuesRise l n all w y → LeftRise l n (top_row n all flow.bases.items flow.temps) (refine_two n flow test v w r) (refine_two n flow test x y s)
    unfolding refine_two
    two_rise v w x y i j = left_if l n (top_row n all flow.bases.items flow.temps) (has_number n v && has_number n w) (has_number n x && has_number n y) (Some (put_side flow test.right w (put_side flow test.left v r))) (Some (put_side flow test.right y (put_side flow test.left x s)))
        (and_sets (has_number n v) (has_number n w) (has_number n x) (has_number n y) (numbered_more v x i) (numbered_more w y j))
        (λ e. put_side_rises test.right right (put_side flow test.left v r) (put_side flow test.left x s) (put_side_rises test.left left r s h v x i) w y j)

    sides_rise : (v w x y : values.Value I) → ValuesRise l n all v x → ValuesRise l n all w y → LeftRise l n (top_row n all flow.bases.items flow.temps) (refine_sides l n flow test v w r) (refine_sides l n flow test x y s)
    unfolding refine_sides
    sides_rise v w x y i j = left_same l n (top_row n all flow.bases.items flow.temps) (is_same_object test.left test.right) (refine_one n flow test.left (met l n v w) r) (refine_one n flow test.left (met l n x y) s) (refine_two n flow test v w r) (refine_two n flow test x y s)
        (λ e. one_rises (met l n v w) (met l n x y) (met_rises v w x y i j)) (λ e. two_rise v w x y i j)

    values_rise : (kind : IntType) (v w x y : values.Value I) → ValuesRise l n all v x → ValuesRise l n all w y → LeftRise l n (top_row n all flow.bases.items flow.temps) (refine_values l n flow test kind v w r) (refine_values l n flow test kind x y s)
    unfolding refine_values
    values_rise kind v w x y i j = sides_rise (refined n v test.rel w kind) (refined n w (mirrored test.rel) v kind) (refined n x test.rel y kind) (refined n y (mirrored test.rel) x kind) (refined_rises v w x y test.rel kind i j) (refined_rises w v y x (mirrored test.rel) kind j i)

    integers_rise : fits_side (names_of flow) test.left ≡ true → fits_side (names_of flow) test.right ≡ true → (kind : IntType) → LeftRise l n (top_row n all flow.bases.items flow.temps) (refine_integers l n flow test kind r) (refine_integers l n flow test kind s)
    unfolding refine_integers
    integers_rise e d kind = values_rise kind (side_value l n flow r test.left) (side_value l n flow r test.right) (side_value l n flow s test.left) (side_value l n flow s test.right) (side_rises r s h test.left e left) (side_rises r s h test.right d right)

  -- ---- tests of pointers

  tested_rises : (p q : Pointers I) → PointersRise l n all p q → (rel : Rel) → PointersRise l n all (tested_pointer l p rel) (tested_pointer l q rel)
  tested_rises p q h Eq = bare_rises o b all p.null false (only_null l q) (pointer_parts l p q h.below).null refl (bare_own o b all q.null false)
  tested_rises p q h Ne =
      let c = pointer_parts l p q h.below in
      let d = pointer_parts l q (top_value n all).pointer h.own in
      record {
        below = pointers_below l (not_null p) (not_null q) (record { bases = c.bases; lo = c.lo; rel = c.rel; len = c.len; part = c.part; null = refl; ended = c.ended });
        own = pointers_below l (not_null q) (top_value n all).pointer (record { bases = d.bases; lo = d.lo; rel = d.rel; len = d.len; part = d.part; null = refl; ended = d.ended });
        even = h.even;
      }
  tested_rises p q h Lt = h
  tested_rises p q h Le = h
  tested_rises p q h Gt = h
  tested_rises p q h Ge = h

  tested_value_rises : (v w : values.Value I) → ValuesRise l n all v w → (rel : Rel) → ValuesRise l n all (tested_value l v rel) (tested_value l w rel)
  tested_value_rises v w h rel =
      let t = tested_rises v.pointer w.pointer (of_pointer o b all h) rel in
      let p = value_parts l v w h.below in
      let q = value_parts l w (top_value n all) h.own in
      record {
        below = value_below l (tested_value l v rel) (tested_value l w rel) (record { num = p.num; pointer = t.below; indeterminate = p.indeterminate; labels = p.labels });
        own = value_below l (tested_value l w rel) (top_value n all) (record { num = q.num; pointer = t.own; indeterminate = q.indeterminate; labels = q.labels });
        even = t.even;
      }

  module _ (r s : List (Cell I)) (h : FlowRows l n all flow r s) where
    pointer_at_rises : (at : Option ℕ) → IsPlaceOf at → (rel : Rel) → FlowRows l n all flow (refine_pointer_at l n at rel r) (refine_pointer_at l n at rel s)
    pointer_at_rises None e rel = h
    pointer_at_rises (Some at) e rel = put_rises o b all k.words (top_row n all flow.bases.items flow.temps) r s h at (inl e) (tested_value l (value_at l n r at) rel) (tested_value l (value_at l n s at) rel) (tested_value_rises (value_at l n r at) (value_at l n s at) (value_rises o b all k.words (top_row n all flow.bases.items flow.temps) r s h at (inl e)) rel)

    pointer_refines : (base : ℕ) → HasLeaf flow base → (rel : Rel) → FlowRows l n all flow (refine_pointer l n flow base rel r) (refine_pointer l n flow base rel s)
    unfolding refine_pointer
    pointer_refines base t rel = pointer_at_rises (object_position flow base) (object_place base t) rel

    named_rises : (side other : Side) → NamesLeaf flow side → (rel : Rel) → FlowRows l n all flow (refine_named l n flow (named_by side other) rel r) (refine_named l n flow (named_by side other) rel s)
    unfolding refine_named
    named_rises (Object base kind) (Object other third) t rel = h
    named_rises (Object base kind) (Number number) t rel = h
    named_rises (Object base kind) Null t rel = pointer_refines base t rel
    named_rises (Number number) other t rel = h
    named_rises Null other t rel = h

  refine_in_rises : (test : Test) → fits_side (names_of flow) test.left ≡ true → fits_side (names_of flow) test.right ≡ true → NamesLeaf flow test.left → NamesLeaf flow test.right → (common : Option IntType) → Rises l n all flow (λ row. refine_in l n flow test common row)
  refine_in_rises test e d t u (Some kind) r s h = integers_rise test t u r s h e d kind
  refine_in_rises test e d t u None r s h = named_rises r s h test.left test.right t test.rel

  pub refine_rises : (test : Test) → fits_side (names_of flow) test.left ≡ true → fits_side (names_of flow) test.right ≡ true → NamesLeaf flow test.left → NamesLeaf flow test.right → Rises l n all flow (λ row. refine l n flow test row)
  unfolding refine
  refine_rises test e d t u = refine_in_rises test e d t u test.common

  -- ---- cases

  module _ (r s : List (Cell I)) (h : FlowRows l n all flow r s) where
    case_put : (at : ℕ) → IsPlaceOf (Some at) → (v w : values.Value I) → ValuesRise l n all v w → (x y : I) → l.leq x y ≡ true → l.leq y (top_number n) ≡ true → LeftRise l n (top_row n all flow.bases.items flow.temps) (put_case n at v x r) (put_case n at w y s)
    unfolding put_case
    case_put at e v w j x y i m = left_if l n (top_row n all flow.bases.items flow.temps) (is_some (n.bounds x)) (is_some (n.bounds y)) (Some (put_value r at (with_number v x))) (Some (put_value s at (with_number w y))) (some_more (n.bounds x) (n.bounds y) (bounds_monotone b x y i))
        (λ t. put_rises o b all k.words (top_row n all flow.bases.items flow.temps) r s h at (inl e) (with_number v x) (with_number w y) (with_parts v w j x y i m no_labels no_labels (labels_order.reflexive no_labels)))

    case_value : (at : ℕ) → IsPlaceOf (Some at) → (v w : values.Value I) → ValuesRise l n all v w → (number : ℤ) → LeftRise l n (top_row n all flow.bases.items flow.temps) (refine_value l n at v number r) (refine_value l n at w number s)
    unfolding refine_value
    case_value at e v w j number = case_put at e v w j (labelled_number l n v number) (labelled_number l n w number)
        (of_range_monotone o b (range_met (n.bounds v.num) number number) (range_met (n.bounds w.num) number number) (met_monotone (n.bounds v.num) (n.bounds w.num) number number number number (bounds_monotone b v.num w.num (num_rises o b all j)) (≤ℤ_refl number) (≤ℤ_refl number)))
        (met_near o b all w.num (num_near o b all j) number number)

    case_at : (at : Option ℕ) → IsPlaceOf at → (number : ℤ) → LeftRise l n (top_row n all flow.bases.items flow.temps) (refine_case_at l n at number r) (refine_case_at l n at number s)
    case_at None e number = h
    case_at (Some at) e number = case_value at e (value_at l n r at) (value_at l n s at) (value_rises o b all k.words (top_row n all flow.bases.items flow.temps) r s h at (inl e)) number

  pub case_rises : (base : ℕ) → HasLeaf flow base → (number : ℤ) → Rises l n all flow (λ row. refine_case l n flow base number row)
  unfolding refine_case
  case_rises base t number r s h = case_at r s h (object_position flow base) (object_place base t) number
