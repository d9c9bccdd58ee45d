-- Copies of structs, in rising rows.
use Rattle.std.specs.Prelude.{◌≡◌, ℕ, zero, suc, ◌+◌, ◌-◌, ◌*◌, ◌/◌, ◌^◌, ◌<◌, ◌≤◌, ◌==◌, ◌&&◌, not, ℤ, pos, Bool, true, false, cond, Option, Some, None, is_none, is_some, List, [], ◌∷◌, slice_get, refl}
use Rattle.std.proofs.Common.{arith, sym, subst, ap, ◌∙◌, inl, inr, ◌⊎◌}
use Rattle.std.proofs.lemmas.Int.{ints}
use Rattle.std.proofs.lemmas.Bool.{and_parts, eqb-true, false_from_ne_true}
use Rattle.cc_base.specs.Lattices.{LatticeOf, OrderLaws}
use Rattle.cc_base.specs.IntegerDomains.{IntegersOf, BoundLaws, RangeLaws}
use Rattle.cc_base.specs.IntegerLaws.{MonotoneLaws}
use Rattle.cc_base.specs.NumberRanges.{Range, range_met}
use Rattle.c_layout.specs.StructViews.{StructView, structs_view}
use Rattle.c_layout.specs.declared.data_model.Model.{Model}
use Rattle.c_layout.specs.declared.leaf_lists.Leaf.{Leaf}
use Rattle.c_layout.specs.declared.shapes.BaseInfo.{BaseInfo}
use Rattle.c_layout.specs.Models.{is_model}
use Rattle.cfg.specs.declared.programs.Flow.{Flow}
use Rattle.cfg.specs.BaseShapes.{is_shaped, are_shaped, are_sites}
use Rattle.cfg.specs.StaticStarts.{are_started}
use Rattle.cfg.specs.StructCounts.{are_counted}
use Rattle.cfg.specs.WellFormed.{is_laid_out}
use Rattle.pointer_domain.specs.declared.base_sets.Bases.{Bases}
use Rattle.pointer_domain.specs.declared.pointer_sets.Pointers.{Pointers}
use Rattle.pointer_domain.specs.BaseSets.{bases_within, bases_empty, bases_count}
use Rattle.std.specs.List.{list_all}
use Rattle.value_domain.specs.declared.values.values.Value.{Value}
use Rattle.value_domain.specs.declared.values.row_cells.Cell.{Cell}
use Rattle.domain_theorems.specs.Values.Consistency.{is_consistent, is_nowhere, is_somewhere}
use Rattle.domain_theorems.proofs.values.Bases.{one_base, no_count}
use Rattle.domain_theorems.proofs.values.Parts.{PointersBelow, pointer_parts}
use Rattle.domain_theorems.proofs.values.Ranges.{RangeBelow, met_monotone, upper_monotone, bounds_monotone}
use Rattle.store_cells.specs.declared.access_windows.Window.{Window}
use Rattle.store_cells.specs.AccessWindows.{added_ranges, last_place, access_range, window_of, window_within, window_is_one}
use Rattle.store_objects.specs.LiveBases.{has_base, is_one_instance, single_bases}
use Rattle.store_cells.specs.RowPositions.{capped}
use Rattle.store_monotone.specs.Operations.Placements.{EachFrom, WindowWithin, IsPlaced}
use Rattle.store_monotone.specs.Operations.TopRows.{top_row}
use Rattle.store_monotone.proofs.operations.AddedRanges.{added_monotone, saturate_monotone}
use Rattle.store_monotone.proofs.operations.Consistent.{some_parts}
use Rattle.store_monotone.proofs.operations.LiveSets.{has_monotone}
use Rattle.store_monotone.proofs.operations.PairedSteps.{Step, walk_pair, turns_pair, then_step, if_step}
use Rattle.store_monotone.proofs.operations.Together.{both_each}
use Rattle.store_monotone.proofs.operations.Windows.{WindowsBelow, window_is, within_monotone}
use Rattle.store_struct_leaves.specs.CopyPlaces.{span_of_leaf}
use Rattle.store_structs.specs.CopyZeros.{Exact, copied_window, copy_zeros}
use Rattle.store_structs.specs.LeafNumbers.{struct_leaf}
use Rattle.store_structs.specs.PaddingWrites.{Padded, has_padding_in, has_padding, leaf_bytes}
use Rattle.store_structs.specs.StructCopies.{Route, route_for, is_declared_in, first_declared, one_declared, is_exact, exact_from, exact_copy, most_at_once, batch_first, batch_count, padded_of, write_target, copy_written, copy_read, read_source, copy_step, copy_leaves, copy_batch, copy_all, pad_if, finish_base, finish_if, finish_at, finish_all, finish, finish_reached, copy_route, copy_between, copy_found, copy_struct}
use Rattle.store_monotone.specs.Structs.LargerSpans.{SpanWithin, ReachesMore}
use Rattle.store_monotone.specs.Structs.SpreadStructs.{IsSpread}
use Rattle.store_monotone.proofs.structs.ShapedSpans.{shaped_reaches}
use Rattle.transfer_system.specs.MemorySteps.{copy_touched}
use Rattle.transfer_monotone.specs.Edges.CallLaws.{CopyRises}
use Rattle.transfer_monotone.specs.Values.LaidOut.{IsLaidOut}
use Rattle.transfer_monotone.specs.Values.RisingRows.{PointersRise, ValuesRise, RowsRise, LeftRise}
use Rattle.transfer_monotone.proofs.values.Touches.{placed_bases}
use Rattle.system_monotone.specs.StructCopies.SpreadStructs.{AreSpread}
use Rattle.system_monotone.proofs.struct_copies.CopiedValues.{ReadsRise}
use Rattle.system_monotone.proofs.struct_copies.LeafReads.{leaf_rises}
use Rattle.system_monotone.proofs.struct_copies.LeafWrites.{leaf_written}
use Rattle.system_monotone.proofs.struct_copies.CopiedZeros.{ExactBelow, zeros_step}
use Rattle.system_monotone.proofs.struct_copies.StructPadding.{padding_step}
use Rattle.system_monotone.proofs.struct_copies.FilledStructs.{copy_fills}

-- ---- sets

-- a set that is not empty within a set of one base is that set
same_base : (set more : Bases) → bases_within set more ≡ true → bases_empty set ≡ false → bases_count more ≡ 1 → set ≡ more
same_base set more h some e = one_base set more h (λ (z : bases_count set ≡ 0). let y = no_count set z in absurd (let q : true ≡ false = sym y ∙ some in cc)) e

-- the base that is found is one of the bases
declared_is : (P : BaseInfo → ℕ → Type 0) (set : Bases) (at : ℕ) (bases : List BaseInfo) → EachFrom P at bases → (base : BaseInfo) → first_declared set at bases ≡ Some base → (number : ℕ) × P base number
declared_is P set at [] each base e = absurd (let z : ⊥ = cc in z)
declared_is P set at (b ∷ bases) each base e = by_test (is_declared_in set b at) e (declared_is P set (at + 1) bases each.1 base)
  where
    by_test : (c : Bool) → cond c (Some b) (first_declared set (at + 1) bases) ≡ Some base → (first_declared set (at + 1) bases ≡ Some base → (number : ℕ) × P base number) → (number : ℕ) × P base number
    by_test true f later = let g : b ≡ base = cc in (at, subst (λ z. P z at) g each.0)
    by_test false f later = later f

-- ---- windows

module _ {I : Type 0} (n : IntegersOf I) where
  no_bounds : (r x : Range) → is_none r ≡ true → added_ranges r x ≡ None
  no_bounds None x h = refl
  no_bounds (Some p) x h = absurd (let z : ⊥ = cc in z)

  -- consistent pointers into no base have no place
  nowhere : (p : Pointers I) (size : ℕ) → bases_empty p.bases ≡ true → is_consistent n p ≡ true → window_of n p size ≡ None
  nowhere p size e h =
      let g : is_nowhere n p ≡ true = subst (λ c. cond c (is_nowhere n p) (is_somewhere n p) ≡ true) e h in
      let a = and_parts (is_none (n.bounds p.lo)) (is_none (n.bounds p.rel) && (is_none (n.bounds p.len) && not p.part)) g in
      ap window_within (no_bounds (n.bounds p.lo) (range_met (n.bounds p.rel) (pos 0) (last_place n p size)) a.0)

  place_some : (p : Pointers I) (size : ℕ) (w : Window) → is_consistent n p ≡ true → window_of n p size ≡ Some w → bases_empty p.bases ≡ false
  place_some p size w h e = false_from_ne_true _ (λ (g : bases_empty p.bases ≡ true). let k : None ≡ Some w = sym (nowhere p size g h) ∙ e in let q : ⊥ = cc in q)

module _ {I : Type 0} {l : LatticeOf I} {n : IntegersOf I} {stands : I → ℤ → Type 0} (o : OrderLaws l) (b : BoundLaws l n stands) (g : MonotoneLaws l n) (f : RangeLaws l n) (all : Bases) (flow : Flow) (k : IsLaidOut all flow) (reaches : EachFrom (λ base number. ReachesMore flow.model base) 0 flow.bases.items) where
  abbrev top : List (Cell I)
  top = top_row n all flow.bases.items flow.temps

  abbrev structs : List StructView
  structs = structs_view flow.structs

  abbrev Left : Option (List (Cell I)) → Option (List (Cell I)) → Type 0
  Left x y = LeftRise l n top x y

  placed_reaching : EachFrom (λ base number. IsPlaced n all top base × ReachesMore flow.model base) 0 flow.bases.items
  placed_reaching = both_each (λ base number. IsPlaced n all top base) (λ base number. ReachesMore flow.model base) 0 flow.bases.items (placed_bases o b all flow k) reaches

  module _ (index : ℕ) (v : StructView) (spread : IsSpread flow.model structs index v) (target larger : Bases) (tk : bases_within target larger ≡ true) (tsome : bases_empty target ≡ false) (source more : Bases) (sk : bases_within source more ≡ true) (ssome : bases_empty source ≡ false)
      (to into : Window) (ti : WindowWithin to into) (from out : Window) (fi : WindowWithin from out) where
    abbrev small : Route
    small = route_for flow.model flow.bases.items structs index target to source from

    abbrev large : Route
    large = route_for flow.model flow.bases.items structs index larger into more out

    -- where the larger copy is to one instance, the smaller one is to it
    alone_same : large.alone ≡ true → (target ≡ larger) × (small.alone ≡ true)
    alone_same e =
        let c = and_parts (bases_count larger == 1) (bases_within larger (single_bases flow.bases.items)) e in
        let s = same_base target larger tk tsome (eqb-true (bases_count larger) 1 c.0) in
        (s, subst (λ t. is_one_instance flow.bases.items t ≡ true) (sym s) e)

    -- ---- leaves

    span_more : (leaf : Leaf) (w u : Window) → WindowWithin w u → leaf.count * leaf.stride ≤ 2 ^ 62 → SpanWithin (span_of_leaf leaf w) (span_of_leaf leaf u)
    span_more leaf w u i h =
        let a = i.lo in let c = i.some in let d = i.hi in
        record { lo = omega arith; some = omega arith; hi = omega arith; near = omega arith; stride = refl; count = refl; short = h }

    source_rises : (leaf : Leaf) → leaf.count * leaf.stride ≤ 2 ^ 62 → (r s : List (Cell I)) → RowsRise l n top r s → ReadsRise l n all (read_source l n small leaf r) (read_source l n large leaf s)
    unfolding read_source
    source_rises leaf h r s j = leaf_rises o b g f flow.model all k.words top r s j flow.bases.items placed_reaching source more sk leaf.class leaf.signed (span_of_leaf leaf from) (span_of_leaf leaf out) (span_more leaf from out fi h)

    written_rises : (leaf : Leaf) → leaf.count * leaf.stride ≤ 2 ^ 62 → (x y : Value I) → ValuesRise l n all x y → (r s : Option (List (Cell I))) → Left r s → Left (copy_written l n small leaf x r) (copy_written l n large leaf y s)
    unfolding write_target
    written_rises leaf h x y v None s j = tt
    written_rises leaf h x y v (Some r) None j = absurd j
    written_rises leaf h x y v (Some r) (Some s) j = leaf_written o b g f flow.model all k.words top flow.bases.items placed_reaching target larger tk leaf.class leaf.signed (span_of_leaf leaf to) (span_of_leaf leaf into) (span_more leaf to into ti h) x y v small.alone large.alone alone_same r s j

    read_rises : (leaf : Leaf) → leaf.count * leaf.stride ≤ 2 ^ 62 → (x y : Option (Value I)) → ReadsRise l n all x y → (r s : Option (List (Cell I))) → Left r s → Left (copy_read l n small leaf x r) (copy_read l n large leaf y s)
    read_rises leaf h None y v r s j = tt
    read_rises leaf h (Some x) None v r s j = absurd v
    read_rises leaf h (Some x) (Some y) v r s j = written_rises leaf h x y v r s j

    step_rises : (number : ℕ) → number < v.leaves → (leaf : Option Leaf) → struct_leaf structs flow.model.pointer index number ≡ leaf → (r s : List (Cell I)) → RowsRise l n top r s → (x y : Option (List (Cell I))) → Left x y → Left (copy_step l n small r leaf x) (copy_step l n large s leaf y)
    step_rises number less None e r s j x y h = j
    step_rises number less (Some leaf) e r s j x y h =
        let short = spread.short number leaf less e in
        read_rises leaf short (read_source l n small leaf r) (read_source l n large leaf s) (source_rises leaf short r s j) x y h

    leaves_rise : (count first : ℕ) → count ≤ v.leaves - first → (r s : List (Cell I)) → RowsRise l n top r s → Left (copy_leaves l n small count first r) (copy_leaves l n large count first s)
    leaves_rise zero first less r s j = j
    leaves_rise (suc count) first less r s j = step_rises first (omega arith) (struct_leaf structs flow.model.pointer index first) refl r s j (copy_leaves l n small count (capped (first + 1)) r) (copy_leaves l n large count (capped (first + 1)) s) (leaves_rise count (capped (first + 1)) (omega arith) r s j)

    batch_rises : (turn : ℕ) (r s : Option (List (Cell I))) → Left r s → Left (copy_batch l n small v.leaves turn r) (copy_batch l n large v.leaves turn s)
    batch_rises turn None s j = tt
    batch_rises turn (Some r) None j = absurd j
    batch_rises turn (Some r) (Some s) j = leaves_rise (batch_count turn v.leaves) (batch_first turn) (omega arith) r s j

    all_rise : (r s : List (Cell I)) → RowsRise l n top r s → Left (copy_all l n small v.leaves r) (copy_all l n large v.leaves s)
    unfolding copy_all
    all_rise r s j = turns_pair Left (copy_batch l n small v.leaves) (copy_batch l n large v.leaves) (v.leaves / most_at_once + 1) (λ at x y e h. batch_rises at x y h) (v.leaves / most_at_once + 1) (Some r) (Some s) (omega arith) j

    -- ---- first zeros and padding

    -- the larger copy is exact only where both sides have one base and one offset, which the smaller one has too
    record IsSame (e : Exact) : Type 0 where
      alone : large.alone ≡ true
      exact : exact_copy small v.size ≡ exact_copy large v.size
      start : to ≡ into

    exact_same : (e : Exact) → exact_copy large v.size ≡ Some e → IsSame e
    unfolding exact_copy one_declared
    exact_same e = by_count (bases_count more == 1) refl
      where
        by_base : bases_count more ≡ 1 → (base : Option BaseInfo) → exact_from large v.size base ≡ Some e → IsSame e
        by_base c None h = absurd (let z : ⊥ = cc in z)
        by_base c (Some base) h = by_exact (is_exact large) refl h
          where
            by_exact : (d : Bool) → is_exact large ≡ d → cond d (Some (record { source = base; from = out.lo; to = into.lo; size = v.size })) None ≡ Some e → IsSame e
            by_exact false q z = absurd (let y : ⊥ = cc in y)
            by_exact true q z =
                let a = and_parts large.alone (window_is_one out && window_is_one into) q in
                let d = and_parts (window_is_one out) (window_is_one into) a.1 in
                let start : to ≡ into = window_is to into ti (eqb-true into.lo into.hi d.1) in
                let begin : from ≡ out = window_is from out fi (eqb-true out.lo out.hi d.0) in
                let sources : source ≡ more = same_base source more sk ssome c in
                let targets : target ≡ larger = (alone_same a.0).0 in
                record { alone = a.0; exact = λ j. exact_copy (route_for flow.model flow.bases.items structs index (targets j) (start j) (sources j) (begin j)) v.size; start = start }

        by_count : (c : Bool) → (bases_count more == 1) ≡ c → exact_from large v.size (cond c (first_declared more 0 flow.bases.items) None) ≡ Some e → IsSame e
        by_count false q h = absurd (let z : ⊥ = cc in z)
        by_count true q h = by_base (eqb-true (bases_count more) 1 q) (first_declared more 0 flow.bases.items) h

    source_placed : (e : Exact) → exact_copy small v.size ≡ Some e → IsPlaced n all top e.source
    unfolding exact_copy one_declared
    source_placed e = by_count (bases_count source == 1)
      where
        by_base : (base : Option BaseInfo) → ((x : BaseInfo) → base ≡ Some x → IsPlaced n all top x) → exact_from small v.size base ≡ Some e → IsPlaced n all top e.source
        by_base None p h = absurd (let z : ⊥ = cc in z)
        by_base (Some base) p h = by_exact (is_exact small) h
          where
            by_exact : (d : Bool) → cond d (Some (record { source = base; from = from.lo; to = to.lo; size = v.size })) None ≡ Some e → IsPlaced n all top e.source
            by_exact false z = absurd (let y : ⊥ = cc in y)
            by_exact true z = let q : (record { source = base; from = from.lo; to = to.lo; size = v.size }) ≡ e = cc in subst (λ t. IsPlaced n all top t.source) q (p base refl)

        by_count : (c : Bool) → exact_from small v.size (cond c (first_declared source 0 flow.bases.items) None) ≡ Some e → IsPlaced n all top e.source
        by_count false h = absurd (let z : ⊥ = cc in z)
        by_count true h = by_base (first_declared source 0 flow.bases.items) (λ x q. let z = declared_is (λ base number. IsPlaced n all top base) source 0 flow.bases.items (placed_bases o b all flow k) x q in z.1) h

    window_more : WindowWithin (copied_window to v.size) (copied_window into v.size)
    window_more =
        let a = ti.lo in let c = ti.some in let d = ti.hi in let e = ti.near in
        record { lo = omega arith; some = omega arith; hi = omega arith; near = omega arith }

    abbrev padded : Padded
    padded = padded_of small v

    abbrev wider : Padded
    wider = padded_of large v

    same_padding : has_padding flow.model padded ≡ has_padding flow.model wider
    unfolding has_padding has_padding_in leaf_bytes
    same_padding = refl

    pad_step : (base : BaseInfo) → IsPlaced n all top base → (on c d : Bool) → c ≡ d → Step (RowsRise l n top) on (pad_if l n small padded c base) (pad_if l n large wider d base)
    pad_step base p on true true e = padding_step flow.model structs index v spread to into ti o b all k.words top base p on
    pad_step base p on false false e = stay
      where
        stay : Step (RowsRise l n top) on (λ r. r) (λ s. s)
        stay r s j = by_way on
          where
            by_way : (now : Bool) → RowsRise l n top (cond now r r) s
            by_way true = j
            by_way false = j
    pad_step base p on true false e = absurd (let z : ⊥ = cc in z)
    pad_step base p on false true e = absurd (let z : ⊥ = cc in z)

    base_step : (base : BaseInfo) → IsPlaced n all top base → (on : Bool) → (large.alone ≡ true → on ≡ true) → Step (RowsRise l n top) on (finish_base l n small padded (exact_copy small v.size) (has_padding flow.model padded) base) (finish_base l n large wider (exact_copy large v.size) (has_padding flow.model wider) base)
    unfolding finish_base
    base_step base p on made = then_step (RowsRise l n top) on (copy_zeros l n base (copied_window to v.size) (exact_copy small v.size)) (copy_zeros l n base (copied_window into v.size) (exact_copy large v.size))
        (pad_if l n small padded (has_padding flow.model padded) base) (pad_if l n large wider (has_padding flow.model wider) base)
        (zeros_step o b all top base p on (copied_window to v.size) (copied_window into v.size) window_more (exact_copy small v.size) (exact_copy large v.size) exacts)
        (pad_step base p on (has_padding flow.model padded) (has_padding flow.model wider) same_padding)
      where
        exacts : ExactBelow o b all top on (copied_window to v.size) (copied_window into v.size) (exact_copy small v.size) (exact_copy large v.size)
        exacts = record {
          same = λ e h. let z = exact_same e h in (made z.alone, z.exact, ap (λ w. copied_window w v.size) z.start);
          placed = source_placed;
        }

    finish_rises : (r s : List (Cell I)) → RowsRise l n top r s → RowsRise l n top (finish l n small padded r) (finish l n large wider s)
    unfolding finish finish_all finish_if
    finish_rises r s j = walk_pair (λ base number. IsPlaced n all top base) (RowsRise l n top)
        (finish_at l n small padded (exact_copy small v.size) (has_padding flow.model padded)) (finish_at l n large wider (exact_copy large v.size) (has_padding flow.model wider))
        (λ base number r s p j. if_step (RowsRise l n top) true (has_base target number) (has_base larger number)
        (finish_base l n small padded (exact_copy small v.size) (has_padding flow.model padded) base) (finish_base l n large wider (exact_copy large v.size) (has_padding flow.model wider) base)
        (has_monotone target larger number tk) (λ e now c d. base_step base p now (λ z. made number e now d (alone_same z).0)) r s j)
        0 flow.bases.items r s (placed_bases o b all flow k) j
      where
        made : (number : ℕ) → has_base larger number ≡ true → (now : Bool) → (now ≡ false → (true ≡ false) ⊎ (has_base target number ≡ false)) → target ≡ larger → now ≡ true
        made number e true d same = refl
        made number e false d same = elim (d refl) [
          | inl t ↦ absurd (let z : ⊥ = cc in z)
          | inr t ↦ absurd (let q : has_base target number ≡ has_base larger number = ap (λ t. has_base t number) same in let z : ⊥ = cc in z)
        ]

    reached_rises : (x y : Option (List (Cell I))) → Left x y → Left (finish_reached l n small padded x) (finish_reached l n large wider y)
    reached_rises None y j = tt
    reached_rises (Some r) None j = absurd j
    reached_rises (Some r) (Some s) j = finish_rises r s j

    route_rises : (r s : List (Cell I)) → RowsRise l n top r s → Left (copy_route l n small v r) (copy_route l n large v s)
    unfolding copy_route
    route_rises r s j = reached_rises (copy_all l n small v.leaves r) (copy_all l n large v.leaves s) (all_rise r s j)

  -- ---- windows

  -- larger pointers begin in more places, of which those of no base are none
  window_rises : (p q : Pointers I) → PointersRise l n all p q → (size : ℕ) → WindowsBelow (window_of n p size) (window_of n q size)
  window_rises p q i size = by_empty (bases_empty p.bases) refl
    where
      c : PointersBelow l p q
      c = pointer_parts l p q i.below

      by_length : (r : Range) → n.bounds p.len ≡ r → is_some r ≡ true → RangeBelow (access_range n p size) (access_range n q size)
      by_length None e h = absurd (let z : ⊥ = cc in z)
      by_length (Some y) e h =
          let u = upper_monotone (n.bounds p.len) (n.bounds q.len) (bounds_monotone b p.len q.len c.len) y e in
          added_monotone (n.bounds p.lo) _ (n.bounds q.lo) _ (bounds_monotone b p.lo q.lo c.lo)
          (met_monotone (n.bounds p.rel) (n.bounds q.rel) (pos 0) (last_place n p size) (pos 0) (last_place n q size) (bounds_monotone b p.rel q.rel c.rel) (omega (arith, ints)) (saturate_monotone _ _ (omega (arith, ints))))

      by_empty : (d : Bool) → bases_empty p.bases ≡ d → WindowsBelow (window_of n p size) (window_of n q size)
      by_empty true e = subst (λ w. WindowsBelow w (window_of n q size)) (sym (nowhere n p size e i.even)) tt
      by_empty false e = within_monotone (access_range n p size) (access_range n q size) (by_length (n.bounds p.len) refl (some_parts o b p e i.even).len)

  -- ---- the copy

  module _ (index : ℕ) (p q u v : Pointers I) (i : PointersRise l n all p q) (j : PointersRise l n all u v) (r s : List (Cell I)) (h : RowsRise l n top r s) where
    between_rises : (x : StructView) → IsSpread flow.model structs index x → (to into from out : Option Window) → WindowsBelow to into → WindowsBelow from out → ((w : Window) → to ≡ Some w → bases_empty p.bases ≡ false) → ((w : Window) → from ≡ Some w → bases_empty u.bases ≡ false)
        → Left (copy_between l n flow.model flow.bases.items structs index x p.bases to u.bases from r) (copy_between l n flow.model flow.bases.items structs index x q.bases into v.bases out s)
    between_rises x spread None into from out a c d e = tt
    between_rises x spread (Some to) None from out a c d e = absurd a
    between_rises x spread (Some to) (Some into) None out a c d e = tt
    between_rises x spread (Some to) (Some into) (Some from) None a c d e = absurd c
    between_rises x spread (Some to) (Some into) (Some from) (Some out) a c d e = route_rises index x spread p.bases q.bases (pointer_parts l p q i.below).bases (d to refl) u.bases v.bases (pointer_parts l u v j.below).bases (e from refl) to into a from out c r s h

    found_rises : (x : Option StructView) → ((y : StructView) → x ≡ Some y → IsSpread flow.model structs index y) → Left (copy_found l n flow.model flow.bases.items structs index p u x r) (copy_found l n flow.model flow.bases.items structs index q v x s)
    found_rises None spread = tt
    found_rises (Some x) spread =
        let k = spread x refl in
        between_rises x k (window_of n p x.size) (window_of n q x.size) (window_of n u x.size) (window_of n v x.size)
        (window_rises p q i x.size) (window_rises u v j x.size)
        (λ w e. place_some n p x.size w i.even e) (λ w e. place_some n u x.size w j.even e)

    copied_rises : AreSpread flow → Left (copy_touched l n flow index p u r) (copy_touched l n flow index q v s)
    unfolding copy_touched copy_struct
    copied_rises spread = found_rises (slice_get structs index) (spread.each index)

  copies_of : AreSpread flow → CopyRises l n all flow
  copies_of spread = record {
    step = λ index p q u v i j r s h. copied_rises index p q u v i j r s h spread;
    fills = λ index p q. copy_fills l n flow index p q;
  }

-- ---- bases of well-formed programs

reaches_each : (m : Model) → is_model m ≡ true → (at : ℕ) (bases : List BaseInfo) → list_all (is_shaped m) bases ≡ true → EachFrom (λ base number. ReachesMore m base) at bases
reaches_each m model at [] h = tt
reaches_each m model at (base ∷ bases) h = let a = and_parts (is_shaped m base) (list_all (is_shaped m) bases) h in (shaped_reaches m model base a.0, reaches_each m model (at + 1) bases a.1)

pub copies_rise : {I : Type 0} {l : LatticeOf I} {n : IntegersOf I} {stands : I → ℤ → Type 0} → OrderLaws l → BoundLaws l n stands → MonotoneLaws l n → RangeLaws l n → (all : Bases) (flow : Flow) → IsLaidOut all flow → is_laid_out flow ≡ true → AreSpread flow → CopyRises l n all flow
copies_rise o b g f all flow k h spread =
    let a = and_parts (is_model flow.model) (are_shaped flow.model flow.bases.items && (are_started flow.model flow.bases.items flow.initial.items && are_counted (structs_view flow.structs))) h in
    let c = and_parts (are_shaped flow.model flow.bases.items) (are_started flow.model flow.bases.items flow.initial.items && are_counted (structs_view flow.structs)) a.1 in
    let d = and_parts (list_all (is_shaped flow.model) flow.bases.items) (are_sites false flow.bases.items) c.0 in
    copies_of o b g f all flow k (reaches_each flow.model a.0 0 flow.bases.items d.0) spread
