-- Where calls write, in rising rows.
use Rattle.std.specs.Prelude.{◌≡◌, ℕ, ◌<◌, ◌^◌, ◌≤◌, ℤ, pos, negsuc, ◌+ℤ◌, ◌-ℤ◌, ◌≤ℤ◌, unsigned_abs, int_le, int_lt, Bool, true, false, cond, not, Option, Some, None, is_some, List, length, refl}
use Rattle.std.specs.Int.{w128, saturate_signed, int_min, int_max}
use Rattle.std.proofs.Common.{◌∙◌, arith, inl, inr, ap, sym, subst}
use Rattle.std.proofs.lemmas.Int.{ints, clamps}
use Rattle.std.proofs.lemmas.Bool.{cond_both, cond-true, cond-false, cases_Bool, and_parts}
use Rattle.cc_base.specs.Lattices.{LatticeOf, OrderLaws}
use Rattle.cc_base.specs.IntegerDomains.{IntegersOf, BoundLaws}
use Rattle.cc_base.specs.NumberRanges.{Range, range_sum, range_met, upper_or}
use Rattle.c_layout.specs.declared.shapes.BaseInfo.{BaseInfo}
use Rattle.cfg.specs.declared.programs.Flow.{Flow}
use Rattle.pointer_domain.specs.declared.base_sets.Bases.{Bases}
use Rattle.pointer_domain.specs.declared.pointer_sets.Pointers.{Pointers}
use Rattle.pointer_domain.specs.BaseLattice.{bases_order}
use Rattle.pointer_domain.specs.BaseSets.{no_base, bases_has, bases_with, bases_within, bases_empty}
use Rattle.pointer_domain.specs.PointerTables.{offsets, rooms}
use Rattle.domain_theorems.proofs.values.Bases.{empty_below}
use Rattle.domain_theorems.proofs.values.Flags.{Sets, and_sets, not_sets}
use Rattle.domain_theorems.proofs.values.Moves.{offsets_monotone}
use Rattle.domain_theorems.proofs.values.Parts.{PointersBelow, pointer_parts}
use Rattle.domain_theorems.proofs.values.Ranges.{RangeBelow, met_monotone, bounds_monotone, upper_monotone}
use Rattle.store_cells.specs.declared.access_windows.Window.{Window}
use Rattle.store_cells.specs.AccessWindows.{last_offset, window_between, window_of_range, window_within}
use Rattle.store_objects.specs.LiveBases.{has_base, only_base, is_writable_in, add_writable, with_base_if, writable_of}
use Rattle.store_monotone.specs.Operations.TopCells.{top_value}
use Rattle.store_monotone.proofs.operations.AddedRanges.{saturate_monotone}
use Rattle.store_monotone.proofs.operations.Allocations.{with_into}
use Rattle.store_monotone.proofs.operations.LiveBases.{writable_monotone}
use Rattle.store_monotone.proofs.operations.PairedSteps.{walk_pair, any_each}
use Rattle.store_monotone.proofs.operations.Windows.{WindowsBelow, within_monotone}
use Rattle.transfer_checks.specs.LibraryArguments.{may_be_none, writes_literal, kept_after, after_write, sum_of, difference_of, last_touched, touched_from, end_of, touched_window, is_above_room, cut_by, passes_room, cut_by_room}
use Rattle.transfer_library_plans.specs.declared.call_plans.Trail.{Trail}
use Rattle.transfer_library.specs.declared.memory_calls.Target.{Target}
use Rattle.transfer_library_plans.specs.Arguments.{room_violations, literal_violations}
use Rattle.transfer_library.specs.MemoryCalls.{room_trail, target_of}
use Rattle.transfer_system.specs.CallSteps.{call_of}
use Rattle.transfer_monotone.specs.Values.RisingRows.{PointersRise}
use Rattle.transfer_monotone.specs.Values.LaidOut.{IsLaidOut}
use Rattle.transfer_monotone.proofs.values.LiveParts.{writable_own, writable_empty, literal_more}
use Rattle.transfer_monotone.proofs.values.IntegerChecks.{some_more}
use Rattle.transfer_monotone.proofs.values.ViolationOrder.{rooms_below, literals_below}
use Rattle.transfer_monotone.proofs.library.Trails.{TrailsBelow, checked_below}
use Rattle.transfer_monotone.proofs.library.GivenPointers.{within_rises}
use Rattle.transfer_monotone.proofs.library.Scans.{rooms_monotone}
use Rattle.transfer_monotone.proofs.values.Touches.{length_rises}

-- ---- sets

-- a set has the set of one of its bases
only_within : (set : Bases) (number : ℕ) → has_base set number ≡ true → bases_within (only_base number) set ≡ true
only_within set number h =
    let p = and_parts _ (bases_has set number) h in
    subst (λ s. bases_within s set ≡ true) (sym (cond-true _ (bases_with no_base number) no_base p.0)) (with_into no_base set number (bases_order.least_below set) p.1)

writable_within : (bases : List BaseInfo) (set : Bases) → bases_within (writable_of bases set) set ≡ true
writable_within bases set = walk_pair (λ base number. Unit {0}) (λ x y. bases_within x set ≡ true) (add_writable set) (add_writable set)
    (λ base number x y e h. added (is_writable_in set base number) number x h (λ w. only_within set number (and_parts (has_base set number) _ w).0)) 0 bases no_base no_base (any_each 0 bases) (bases_order.least_below set)
  where
    added : (wanted : Bool) (number : ℕ) (x : Bases) → bases_within x set ≡ true → (wanted ≡ true → bases_within (only_base number) set ≡ true) → bases_within (with_base_if wanted number x) set ≡ true
    added true number x h k = bases_order.join_least x (only_base number) set h (k refl)
    added false number x h k = h

none_more : (x u : Range) → RangeBelow x u → Sets (may_be_none x) (may_be_none u)
none_more None u h e = absurd (cc)
none_more (Some p) None h e = absurd h
none_more (Some p) (Some q) h e = less p.0 q.0 h.0 e
  where
    less : (a c : ℤ) → c ≤ℤ a → int_le a (pos 0) ≡ true → int_le c (pos 0) ≡ true
    less a c h e = grind (arith, ints)

-- more bases go on behind a larger write to more bases
pub after_more : (bases : List BaseInfo) (set more : Bases) (x u : Range) → bases_within set more ≡ true → RangeBelow x u → bases_within (after_write bases set x) (after_write bases more u) ≡ true
after_more bases set more None u h j = bases_order.least_below (after_write bases more u)
after_more bases set more (Some p) None h j = absurd j
after_more bases set more (Some p) (Some q) h j = by_none (may_be_none (Some p)) (may_be_none (Some q)) (none_more (Some p) (Some q) j)
  where
    by_none : (a c : Bool) → Sets a c → bases_within (kept_after bases set a) (kept_after bases more c) ≡ true
    by_none true true s = h
    by_none true false s = absurd (let z : false ≡ true = s refl in cc)
    by_none false true s = bases_order.transitive (writable_of bases set) set more (writable_within bases set) h
    by_none false false s = writable_monotone bases set more h

pub after_own : (all : Bases) (bases : List BaseInfo) → ((number : ℕ) → number < length bases → bases_within (only_base number) all ≡ true) → (set : Bases) (x : Range) → bases_within set all ≡ true → bases_within (after_write bases set x) all ≡ true
after_own all bases named set None h = bases_order.least_below all
after_own all bases named set (Some p) h = by_none (may_be_none (Some p))
  where
    by_none : (a : Bool) → bases_within (kept_after bases set a) all ≡ true
    by_none true = h
    by_none false = writable_own all bases named set

pub after_empty : (bases : List BaseInfo) (set : Bases) (x : Range) → Sets (bases_empty set) (bases_empty (after_write bases set x))
after_empty bases set None e = refl
after_empty bases set (Some p) e = by_none (may_be_none (Some p))
  where
    by_none : (a : Bool) → bases_empty (kept_after bases set a) ≡ true
    by_none true = e
    by_none false = writable_empty bases set e

upper_more : (x u : Range) → RangeBelow x u → Sets (int_le (pos 1) (upper_or (pos 0) x)) (int_le (pos 1) (upper_or (pos 0) u))
upper_more None u h e = absurd (cc)
upper_more (Some p) None h e = absurd h
upper_more (Some p) (Some q) h e = more p.1 q.1 h.1 e
  where
    more : (a c : ℤ) → a ≤ℤ c → int_le (pos 1) a ≡ true → int_le (pos 1) c ≡ true
    more a c h e = grind (arith, ints)

pub literal_write_more : (bases : List BaseInfo) (set more : Bases) (x u : Range) → bases_within set more ≡ true → RangeBelow x u → Sets (writes_literal bases set x) (writes_literal bases more u)
literal_write_more bases set more x u h j = and_sets (int_le (pos 1) (upper_or (pos 0) x)) _ (int_le (pos 1) (upper_or (pos 0) u)) _ (upper_more x u j) (literal_more bases set more h)

-- ---- rooms

pub above_more : (x y u v : Range) → RangeBelow x u → RangeBelow y v → Sets (is_above_room x y) (is_above_room u v)
above_more None y u v h k e = absurd (cc)
above_more (Some p) None u v h k e = absurd (cc)
above_more (Some p) (Some q) None v h k e = absurd h
above_more (Some p) (Some q) (Some r) None h k e = absurd k
above_more (Some p) (Some q) (Some r) (Some s) h k e = less q.0 p.1 s.0 r.1 k.0 h.1 e
  where
    less : (a c d e : ℤ) → d ≤ℤ a → c ≤ℤ e → int_lt a c ≡ true → int_lt d e ≡ true
    less a c d e h k z = grind (arith, ints)

pub cut_more : (x y u v : Range) → RangeBelow x u → RangeBelow y v → RangeBelow (cut_by x y) (cut_by u v)
cut_more x None u v h k = tt
cut_more x (Some q) u None h k = absurd k
cut_more x (Some q) u (Some s) h k = met_monotone x u (pos 0) q.1 (pos 0) s.1 h (omega (arith, ints)) k.1

-- ---- windows

met_same : (a c d e : ℤ) → d ≤ℤ a → c ≤ℤ e → RangeBelow (range_met (Some (a, c)) a c) (range_met (Some (d, e)) d e)
met_same a c d e h k = cond_both (int_le (int_max a a) (int_min c c)) (Some (int_max a a, int_min c c)) None (λ r. RangeBelow r (range_met (Some (d, e)) d e))
    (λ z. cond_both (int_le (int_max d d) (int_min e e)) (Some (int_max d d, int_min e e)) None (λ u. RangeBelow (Some (int_max a a, int_min c c)) u)
    (λ y. (omega (arith, ints, clamps), omega (arith, ints, clamps))) (λ y. absurd (omega (arith, ints, clamps))))
    (λ z. tt)

-- the least and the greatest offset of a window of a range
pub record WindowIs (p : ℤ × ℤ) (w : Window) : Type 0 where
  pub lo_least : pos w.lo ≤ℤ int_max p.0 (pos 0)
  pub lo_most : int_max p.0 (pos 0) ≤ℤ pos w.lo
  pub hi_least : pos w.hi ≤ℤ int_min p.1 (pos last_offset)
  pub hi_most : int_min p.1 (pos last_offset) ≤ℤ pos w.hi

absolute : (z : ℤ) → pos 0 ≤ℤ z → (pos (unsigned_abs z) ≤ℤ z) × (z ≤ℤ pos (unsigned_abs z))
absolute (pos a) h = (omega (arith, ints), omega (arith, ints))
absolute (negsuc a) h = absurd (omega (arith, ints))

some_window : (w x : Window) → Some w ≡ Some x → w ≡ x
some_window w x e = cc

pub window_is_of : (p : ℤ × ℤ) (w : Window) → window_within (Some p) ≡ Some w → WindowIs p w
window_is_of p w e = elim (cases_Bool (int_le (int_max p.0 (pos 0)) (int_min p.1 (pos last_offset)))) [
  | inl t ↦ (
      let f : range_met (Some p) (pos 0) (pos last_offset) ≡ Some (int_max p.0 (pos 0), int_min p.1 (pos last_offset)) = cond-true _ (Some (int_max p.0 (pos 0), int_min p.1 (pos last_offset))) None t in
      let g : window_between (unsigned_abs (int_max p.0 (pos 0))) (unsigned_abs (int_min p.1 (pos last_offset))) ≡ w = some_window _ w (sym (ap window_of_range f) ∙ e) in
      let lo = absolute (int_max p.0 (pos 0)) (omega (arith, ints, clamps)) in
      let k : int_max p.0 (pos 0) ≤ℤ int_min p.1 (pos last_offset) = grind (arith, ints) in
      let hi = absolute (int_min p.1 (pos last_offset)) (omega (arith, ints, clamps)) in
      subst (WindowIs p) g (record { lo_least = lo.0; lo_most = lo.1; hi_least = hi.0; hi_most = hi.1 }))
  | inr t ↦ absurd (let f : range_met (Some p) (pos 0) (pos last_offset) ≡ None = cond-false _ (Some (int_max p.0 (pos 0), int_min p.1 (pos last_offset))) None t in let g = ap window_of_range f in cc)
]

-- the window of numbers from a first to a last one, in its own bounds
pub between_of : (a c : ℤ) (w : Window) → window_within (range_met (Some (a, c)) a c) ≡ Some w → WindowIs (a, c) w
between_of a c w e = elim (cases_Bool (int_le (int_max a a) (int_min c c))) [
  | inl t ↦ (
      let f : range_met (Some (a, c)) a c ≡ Some (int_max a a, int_min c c) = cond-true _ (Some (int_max a a, int_min c c)) None t in
      let g = window_is_of (int_max a a, int_min c c) w (sym (ap window_within f) ∙ e) in
      let g0 = g.lo_least in let g1 = g.lo_most in let g2 = g.hi_least in let g3 = g.hi_most in
      record { lo_least = omega (arith, ints, clamps); lo_most = omega (arith, ints, clamps); hi_least = omega (arith, ints, clamps); hi_most = omega (arith, ints, clamps) })
  | inr t ↦ absurd (let f : range_met (Some (a, c)) a c ≡ None = cond-false _ (Some (int_max a a, int_min c c)) None t in let g = ap window_within f in cc)
]

-- what is touched from a start on does not begin behind its first offset
pub touched_first : (start : ℤ × ℤ) (count end : ℤ) (w : Window) → touched_from (Some start) count end ≡ Some w → pos w.lo ≤ℤ int_max start.0 (pos 0)
touched_first start count end w f = by_count (int_lt count (pos 1)) f
  where
    by_count : (c : Bool) → cond c None (window_within (range_met (Some (start.0, last_touched start.1 count end)) start.0 (last_touched start.1 count end))) ≡ Some w → pos w.lo ≤ℤ int_max start.0 (pos 0)
    by_count true f = absurd (cc)
    by_count false f = (between_of start.0 (last_touched start.1 count end) w f).lo_least

-- a window that is touched from a start on begins at its first offset
pub from_start : (start : ℤ × ℤ) (count end : ℤ) (s w : Window) → window_within (Some start) ≡ Some s → touched_from (Some start) count end ≡ Some w → w.lo ≡ s.lo
from_start start count end s w e f = by_count (int_lt count (pos 1)) f
  where
    by_count : (c : Bool) → cond c None (window_within (range_met (Some (start.0, last_touched start.1 count end)) start.0 (last_touched start.1 count end))) ≡ Some w → w.lo ≡ s.lo
    by_count true f = absurd (cc)
    by_count false f =
        let g = between_of start.0 (last_touched start.1 count end) w f in
        let h = window_is_of start s e in
        let g0 = g.lo_least in let g1 = g.lo_most in let h0 = h.lo_least in let h1 = h.lo_most in
        omega (arith, ints)

less_one : (c : ℤ) → c ≤ℤ pos 1 → saturate_signed w128 (c -ℤ pos 1) ≤ℤ pos 0
less_one c h = down (c -ℤ pos 1) (omega (arith, ints))
  where
    down : (z : ℤ) → z ≤ℤ pos 0 → saturate_signed w128 z ≤ℤ pos 0
    down (pos a) h = omega (arith, ints)
    down (negsuc a) h = omega (arith, ints)

-- near sums fit 128 bits
fits : (z : ℤ) → negsuc (2 ^ 100) ≤ℤ z → saturate_signed w128 z ≤ℤ z
fits (pos a) h = omega (arith, ints)
fits (negsuc a) h = omega (arith, ints)

-- one byte is written where it begins
pub one_from_start : (start : ℤ × ℤ) (count end : ℤ) (s w : Window) → negsuc (2 ^ 99) ≤ℤ start.1 → count ≤ℤ pos 1 → window_within (Some start) ≡ Some s → touched_from (Some start) count end ≡ Some w → w.hi ≤ s.hi
one_from_start start count end s w near few e f = by_count (int_lt count (pos 1)) refl f
  where
    by_count : (c : Bool) → int_lt count (pos 1) ≡ c → cond c None (window_within (range_met (Some (start.0, last_touched start.1 count end)) start.0 (last_touched start.1 count end))) ≡ Some w → w.hi ≤ s.hi
    by_count true q f = absurd (cc)
    by_count false q f =
        let g = between_of start.0 (last_touched start.1 count end) w f in
        let h = window_is_of start s e in
        let z : count ≡ pos 1 = one count few (grind (arith, ints)) in
        let k : sum_of start.1 (difference_of count (pos 1)) ≤ℤ start.1 = subst (λ c. sum_of start.1 (difference_of c (pos 1)) ≤ℤ start.1) (sym z) (sums start.1 near) in
        let g2 = g.hi_least in let g3 = g.hi_most in let h2 = h.hi_least in let h3 = h.hi_most in
        omega (arith, ints, clamps)
      where
        one : (c : ℤ) → c ≤ℤ pos 1 → pos 1 ≤ℤ c → c ≡ pos 1
        one (pos a) h k = ap pos (omega (arith, ints))
        one (negsuc a) h k = absurd (omega (arith, ints))

        sums : (a : ℤ) → negsuc (2 ^ 99) ≤ℤ a → saturate_signed w128 (a +ℤ pos 0) ≤ℤ a
        sums a h = let i = fits (a +ℤ pos 0) (omega (arith, ints)) in omega (arith, ints)

-- ---- targets

module _ {I : Type 0} (l : LatticeOf I) (n : IntegersOf I) (all : Bases) where
  -- a larger target: its trail goes on where the smaller one's does, to more places and for more counts of bytes
  pub record TargetsRise (x y : Target I) : Type 0 where
    pub trail : TrailsBelow x.trail y.trail
    pub rest : PointersRise l n all x.rest y.rest
    pub count : RangeBelow x.count y.count

module _ {I : Type 0} {l : LatticeOf I} {n : IntegersOf I} {stands : I → ℤ → Type 0} (o : OrderLaws l) (b : BoundLaws l n stands) (all : Bases) where
  module _ (p q : Pointers I) (j : PointersRise l n all p q) where
    c : PointersBelow l p q
    c = pointer_parts l p q j.below

    end_rises : (a d : ℤ × ℤ) → n.bounds p.lo ≡ Some a → n.bounds p.rel ≡ Some d → end_of n p ≤ℤ end_of n q
    end_rises a d e f =
        let lo = upper_monotone (n.bounds p.lo) (n.bounds q.lo) (bounds_monotone b p.lo q.lo c.lo) a e in
        let len = length_rises o b all p q j d f in
        saturate_monotone _ _ (omega (arith, ints))

    -- more bytes are touched
    by_need : (start most : ℤ × ℤ) → most.0 ≤ℤ start.0 → start.1 ≤ℤ most.1 → (end last : ℤ) → end ≤ℤ last → (x u : Range) → RangeBelow x u → WindowsBelow (touched_from (Some start) (upper_or (pos 0) x) end) (touched_from (Some most) (upper_or (pos 0) u) last)
    by_need start most h k end last m None u i = tt
    by_need start most h k end last m (Some x) None i = absurd i
    by_need start most h k end last m (Some x) (Some u) i = by_count (int_lt x.1 (pos 1)) (int_lt u.1 (pos 1)) (few x.1 u.1 i.1)
      where
        few : (a c : ℤ) → a ≤ℤ c → int_lt c (pos 1) ≡ true → int_lt a (pos 1) ≡ true
        few a c h e = grind (arith, ints)

        ends : last_touched start.1 x.1 end ≤ℤ last_touched most.1 u.1 last
        ends =
            let i1 = i.1 in
            let counts : difference_of x.1 (pos 1) ≤ℤ difference_of u.1 (pos 1) = saturate_monotone _ _ (omega (arith, ints)) in
            let sums : sum_of start.1 (difference_of x.1 (pos 1)) ≤ℤ sum_of most.1 (difference_of u.1 (pos 1)) = saturate_monotone _ _ (omega (arith, ints)) in
            let lasts : difference_of end (pos 1) ≤ℤ difference_of last (pos 1) = saturate_monotone _ _ (omega (arith, ints)) in
            omega (arith, ints, clamps)

        by_count : (a d : Bool) → Sets d a → WindowsBelow (cond a None (window_within (range_met (Some (start.0, last_touched start.1 x.1 end)) start.0 (last_touched start.1 x.1 end)))) (cond d None (window_within (range_met (Some (most.0, last_touched most.1 u.1 last)) most.0 (last_touched most.1 u.1 last))))
        by_count true d g = tt
        by_count false true g = absurd (let z : false ≡ true = g refl in cc)
        by_count false false g = within_monotone _ _ (met_same start.0 (last_touched start.1 x.1 end) most.0 (last_touched most.1 u.1 last) h ends)

    pub touched_rises : (x u : Range) → RangeBelow x u → WindowsBelow (touched_window n p x) (touched_window n q u)
    unfolding touched_window
    touched_rises x u i = by_bounds (n.bounds p.lo) (n.bounds p.rel) refl refl (offsets n q) (offsets_monotone o b p q c)
      where
        by_bounds : (a d : Range) → n.bounds p.lo ≡ a → n.bounds p.rel ≡ d → (most : Range) → RangeBelow (range_sum a d) most → WindowsBelow (touched_from (range_sum a d) (upper_or (pos 0) x) (end_of n p)) (touched_from most (upper_or (pos 0) u) (end_of n q))
        by_bounds None d e f most k = tt
        by_bounds (Some a) None e f most k = tt
        by_bounds (Some a) (Some d) e f None k = absurd k
        by_bounds (Some a) (Some d) e f (Some most) k = by_need (a.0 +ℤ d.0, a.1 +ℤ d.1) most k.0 k.1 (end_of n p) (end_of n q) (end_rises a d e f) x u i

    pub start_rises : WindowsBelow (window_within (offsets n p)) (window_within (offsets n q))
    start_rises = within_monotone (offsets n p) (offsets n q) (offsets_monotone o b p q c)

    -- ---- rooms

    pub cut_rises : (x u : Range) → RangeBelow x u → RangeBelow (cut_by_room n x p) (cut_by_room n u q)
    cut_rises x u h = cut_more x (rooms n p) u (rooms n q) h (rooms_monotone o b all p q c)

    pub room_below : (s t : Trail) → TrailsBelow s t → (x u : Range) → RangeBelow x u → TrailsBelow (room_trail n s p x) (room_trail n t q u)
    room_below s t h x u i = checked_below s t h (room_violations (passes_room n x p)) (room_violations (passes_room n u q))
        (rooms_below (passes_room n x p) (passes_room n u q) (above_more x (rooms n p) u (rooms n q) i (rooms_monotone o b all p q c)))
        (is_some (cut_by_room n x p)) (is_some (cut_by_room n u q)) (some_more (cut_by_room n x p) (cut_by_room n u q) (cut_rises x u i))

    -- ---- literals

    pub target_rises : (flow : Flow) → IsLaidOut all flow → (arguments : List ℕ) (wanted : Option ℕ) (s t : Trail) → TrailsBelow s t → (x u : Range) → RangeBelow x u → TargetsRise l n all (target_of l n (call_of flow arguments wanted) s p x) (target_of l n (call_of flow arguments wanted) t q u)
    target_rises flow k arguments wanted s t h x u i =
        let bases = flow.bases.items in
        let d = pointer_parts l q (top_value n all).pointer j.own in
        let more = after_more bases p.bases q.bases x u c.bases i in
        record {
          trail = checked_below s t h (literal_violations (writes_literal bases p.bases x)) (literal_violations (writes_literal bases q.bases u))
              (literals_below (writes_literal bases p.bases x) (writes_literal bases q.bases u) (literal_write_more bases p.bases q.bases x u c.bases i))
              (not (bases_empty (after_write bases p.bases x))) (not (bases_empty (after_write bases q.bases u))) (not_sets (bases_empty (after_write bases p.bases x)) (bases_empty (after_write bases q.bases u)) (empty_below (after_write bases p.bases x) (after_write bases q.bases u) more));
          rest = within_rises o b all p q j (after_write bases p.bases x) (after_write bases q.bases u) more (after_own all bases k.named q.bases u d.bases) (after_empty bases p.bases x);
          count = i;
        }
