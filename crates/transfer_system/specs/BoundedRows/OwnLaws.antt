-- What is fitted is a program's own, and so is what is joined or rounded of own cells.
use Rattle.std.proofs.Common.{◌≡◌, ◌<◌, ◌-◌, ◌∙◌, ◌≤ℤ◌, ℕ, zero, suc, pos, ℤ, Bool, true, false, not, ◌&&◌, nat_eq, nat_lt, int_le, min, cond, List, [], ◌∷◌, length, slice_index_or, Some, None, is_none, is_some, refl, sym, subst, arith}
use Rattle.std.specs.Int.{int_min, int_max}
use Rattle.std.proofs.lemmas.Int.{ints, clamps}
use Rattle.std.proofs.lemmas.Bool.{and_from, and_parts, cond_both, eqb-true, eq-eqb, ltb-true, not-true, not_from_false, or_from}
use Rattle.std.proofs.lemmas.List.Folds.{list_any_at}
use Rattle.cc_base.specs.Lattices.{LatticeOf, OrderLaws, RoundLaws, HeightLaws}
use Rattle.cc_base.specs.NumberRanges.{Range, range_met}
use Rattle.cc_base.specs.IntegerDomains.{IntegersOf, BoundLaws, of_range}
use Rattle.cc_base.specs.Rows.{row_join, row_round}
use Rattle.c_layout.specs.declared.shapes.BaseInfo.{BaseInfo}
use Rattle.pointer_domain.specs.declared.base_sets.Bases.{Bases}
use Rattle.pointer_domain.specs.declared.pointer_sets.Pointers.{Pointers}
use Rattle.pointer_domain.specs.BaseSets.{no_base, bases_within, bases_empty}
use Rattle.pointer_domain.specs.BaseLattice.{bases_lattice, bases_order}
use Rattle.pointer_domain.specs.PointerLattice.{no_pointer, pointer_lattice, pointers_join, pointers_round}
use Rattle.value_domain.specs.declared.strings.first_zeros.FirstZero.{FirstZero}
use Rattle.value_domain.specs.Strings.FirstZeros.{zero_lattice, zero_heights, the_end}
use Rattle.value_domain.specs.declared.values.values.Value as values
use Rattle.value_domain.specs.declared.values.alloc_states.AllocState.{AllocState}
use Rattle.value_domain.specs.declared.values.row_cells.Cell.{Cell}
use Rattle.value_domain.specs.declared.values.row_cells.Cell.TheVariants.{Nothing, Value, First, State, Mixed}
use Rattle.value_domain.specs.Values.LabelSets.{all_labels}
use Rattle.value_domain.specs.Values.Values.{value_lattice, value_heights}
use Rattle.value_domain.specs.Values.AllocStates.{state_lattice, state_heights}
use Rattle.value_domain.specs.Values.Cells.{cell_lattice}
use Rattle.transfer_system.specs.declared.bounded_rows.cell_kinds.CellKind.{CellKind}
use Rattle.transfer_system.specs.declared.bounded_rows.cell_kinds.CellKind.TheVariants as kind
use Rattle.transfer_system.specs.declared.bounded_rows.own_cells.Reach.{Reach}
use Rattle.transfer_system.specs.BoundedRows.CellKinds.{all_kinds, first_kind, kinds_behind}
use Rattle.transfer_system.specs.BoundedRows.Ends.{any_below, any_above}
use Rattle.transfer_system.specs.BoundedRows.EndLaws.{HasEnds, EndLaws}
use Rattle.transfer_system.specs.BoundedRows.ProgramBases.{both_empty, left_some, right_some, below_within, within_few}
use Rattle.transfer_system.specs.BoundedRows.OwnRows.{reach_of, is_nowhere, is_somewhere, is_consistent, is_own_pointer, is_known_value, is_own_value, is_own_first, is_own_state, is_own_cell, are_own_cells, is_own_row}
use Rattle.transfer_system.specs.BoundedRows.FittedRows.{list_ends, count_ends, ranges_both, cut_to, number_fit, count_fit, bases_fit, if_somewhere, pointer_fit, value_fit, first_fit, state_fit, greatest_number, greatest_pointer, greatest_value, fit_as_value, fit_as_first, fit_as_state, cell_made, cell_fit, cells_fit, cells_of, row_fit}

-- ---- ranges

ends_up : (list : List ℤ) (a b c d : ℤ) → a ≤ℤ c → d ≤ℤ b → HasEnds list a b → HasEnds list c d
ends_up list a b c d h j e = record { lower = any_below list a c h e.lower; upper = any_above list b d j e.upper }

abbrev RangeIn : List ℤ → Range → Type 0
RangeIn list None = Unit {0}
RangeIn list (Some p) = HasEnds list p.0 p.1

abbrev AreCounts : Range → Type 0
AreCounts None = Unit {0}
AreCounts (Some p) = (pos 0 ≤ℤ p.0) × (p.1 ≤ℤ the_end)

both_in : (list : List ℤ) (x q : Range) → RangeIn list q → RangeIn list (ranges_both x q)
both_in list x None h = tt
both_in list None (Some q) h = tt
both_in list (Some p) (Some q) h =
    cond_both (int_le (int_max p.0 q.0) (int_min p.1 q.1)) (Some (int_max p.0 q.0, int_min p.1 q.1)) None (RangeIn list)
    (λ _. ends_up list q.0 q.1 _ _ (omega (arith, ints, clamps)) (omega (arith, ints, clamps)) h) (λ _. tt)

met_in : (list : List ℤ) (q : Range) (a b : ℤ) → RangeIn list q → RangeIn list (range_met q a b)
met_in list None a b h = tt
met_in list (Some q) a b h =
    cond_both (int_le (int_max q.0 a) (int_min q.1 b)) (Some (int_max q.0 a, int_min q.1 b)) None (RangeIn list)
    (λ _. ends_up list q.0 q.1 _ _ (omega (arith, ints, clamps)) (omega (arith, ints, clamps)) h) (λ _. tt)

both_counts : (x q : Range) → AreCounts q → AreCounts (ranges_both x q)
both_counts x None h = tt
both_counts None (Some q) h = tt
both_counts (Some p) (Some q) h =
    cond_both (int_le (int_max p.0 q.0) (int_min p.1 q.1)) (Some (int_max p.0 q.0, int_min p.1 q.1)) None AreCounts
    (λ _. (omega (arith, ints, clamps), omega (arith, ints, clamps))) (λ _. tt)

met_counts : (q : Range) → AreCounts (range_met q (pos 0) the_end)
met_counts None = tt
met_counts (Some q) =
    cond_both (int_le (int_max q.0 (pos 0)) (int_min q.1 the_end)) (Some (int_max q.0 (pos 0), int_min q.1 the_end)) None AreCounts
    (λ _. (omega (arith, ints, clamps), omega (arith, ints, clamps))) (λ _. tt)

own_le : (a : ℤ) → int_le a a ≡ true
own_le a = grind (arith, ints)

ends_in : (list : List ℤ) → RangeIn list (list_ends list)
ends_in list =
    cond_both (nat_lt 0 (length list)) (Some (slice_index_or list 0 (pos 0), slice_index_or list (length list - 1) (pos 0))) None (RangeIn list)
    (λ some. let h : 0 < length list = ltb-true 0 (length list) some in record {
      lower = list_any_at (λ m. int_le m (slice_index_or list 0 (pos 0))) list 0 (pos 0) h (own_le (slice_index_or list 0 (pos 0)));
      upper = list_any_at (λ m. int_le (slice_index_or list (length list - 1) (pos 0)) m) list (length list - 1) (pos 0) (omega arith) (own_le (slice_index_or list (length list - 1) (pos 0)));
    })
    (λ _. tt)

-- what a reach is made of: numbers that rounding leaves as they are, and sets of words
pub record IsReach {I : Type 0} (l : LatticeOf I) (n : IntegersOf I) (list : List ℤ) (r : Reach I) : Type 0 where
  pub counts : l.leq (n.between (pos 0) the_end) r.counts ≡ true
  pub rounded : l.round list r.counts ≡ r.counts
  pub few : bases_lattice.within list r.bases ≡ true

pub reach_is : {I : Type 0} (l : LatticeOf I) (n : IntegersOf I) (k : RoundLaws l) (list : List ℤ) (count : ℕ) → IsReach l n list (reach_of l n list count)
reach_is l n k list count = record {
  counts = k.rises list (n.between (pos 0) the_end);
  rounded = k.idempotent list (n.between (pos 0) the_end);
  few = below_within list (min count 1016);
}

module _ {I : Type 0} {l : LatticeOf I} {n : IntegersOf I} {stands : I → ℤ → Type 0} (o : OrderLaws l) (k : RoundLaws l) (g : HeightLaws l) (b : BoundLaws l n stands) (e : EndLaws l n) (list : List ℤ) (r : Reach I) (h : IsReach l n list r) where
  range_within : (q : Range) → RangeIn list q → l.within list (of_range l n q) ≡ true
  range_within None i = g.least_within list
  range_within (Some p) i =
      cond_both (int_le p.0 p.1) (n.between p.0 p.1) l.least (λ x. l.within list x ≡ true)
      (λ t. e.ends_within list (n.between p.0 p.1) p.0 p.1 (b.between_bounds p.0 p.1 (grind (arith, ints))) i) (λ _. g.least_within list)

  range_counts : (q : Range) → AreCounts q → l.leq (of_range l n q) r.counts ≡ true
  range_counts None i = o.least_below r.counts
  range_counts (Some p) i =
      cond_both (int_le p.0 p.1) (n.between p.0 p.1) l.least (λ x. l.leq x r.counts ≡ true)
      (λ t. o.transitive (n.between p.0 p.1) (n.between (pos 0) the_end) r.counts (b.below_between (n.between p.0 p.1) p.0 p.1 (pos 0) the_end (b.between_bounds p.0 p.1 (grind (arith, ints))) i.0 i.1) h.counts)
      (λ _. o.least_below r.counts)

  -- ---- what is fitted

  number_own : (x : I) → l.within list (number_fit l n list x) ≡ true
  number_own x =
      cond_both (l.within list x) x (cut_to l n (list_ends list) x) (λ y. l.within list y ≡ true)
      (λ t. t) (λ _. range_within (ranges_both (n.bounds x) (list_ends list)) (both_in list (n.bounds x) (list_ends list) (ends_in list)))

  abbrev IsCount : I → Type 0
  IsCount x = (l.within list x ≡ true) × (l.leq x r.counts ≡ true)

  count_own : (x : I) → IsCount (count_fit l n list r x)
  count_own x =
      cond_both (l.within list x && l.leq x r.counts) x (cut_to l n (count_ends list) x) IsCount
      (λ t. and_parts _ _ t)
      (λ _. (
        range_within (ranges_both (n.bounds x) (count_ends list)) (both_in list (n.bounds x) (count_ends list) (met_in list (list_ends list) (pos 0) the_end (ends_in list))),
        range_counts (ranges_both (n.bounds x) (count_ends list)) (both_counts (n.bounds x) (count_ends list) (met_counts (list_ends list))),
      ))

  -- the parts of an own pointer
  record Known (p : Pointers I) : Type 0 where
    few : bases_lattice.within list p.bases ≡ true
    known : bases_within p.bases r.bases ≡ true
    lo : IsCount p.lo
    rel : l.within list p.rel ≡ true
    len : IsCount p.len

  abbrev IsOwnPointer : Pointers I → Type 0
  IsOwnPointer p = ((pointer_lattice l).within list p ≡ true) × (is_own_pointer l n r p ≡ true)

  own_from : (p : Pointers I) → Known p → is_consistent n p ≡ true → IsOwnPointer p
  own_from p i c = (and_from _ _ i.few (and_from _ _ i.lo.0 (and_from _ _ i.rel (and_from _ _ i.len.0 refl))), and_from _ _ i.known (and_from _ _ c (and_from _ _ i.lo.1 i.len.1)))

  least_none : is_none (n.bounds l.least) ≡ true
  least_none = subst (λ q. is_none q ≡ true) (sym b.least_bounds) refl

  nowhere_own : (null ended : Bool) → IsOwnPointer (record { bases = no_base; lo = l.least; rel = l.least; len = l.least; part = false; null = null; ended = ended })
  nowhere_own null ended =
      own_from (record { bases = no_base; lo = l.least; rel = l.least; len = l.least; part = false; null = null; ended = ended })
      (record { few = refl; known = bases_order.least_below r.bases; lo = (g.least_within list, o.least_below r.counts); rel = g.least_within list; len = (g.least_within list, o.least_below r.counts) })
      (and_from _ _ least_none (and_from _ _ least_none (and_from _ _ least_none refl)))

  somewhere_own : (p : Pointers I) → Known p → IsOwnPointer (if_somewhere l n p)
  somewhere_own p i =
      cond_both (not (bases_empty p.bases) && is_somewhere n p) p (record (no_pointer l) { null = p.null; ended = p.ended }) IsOwnPointer
      (λ t. let m = and_parts _ _ t in
      let some : bases_empty p.bases ≡ false = not-true (bases_empty p.bases) m.0 in
      own_from p i (subst (λ c. cond c (is_nowhere n p) (is_somewhere n p) ≡ true) (sym some) m.1))
      (λ _. nowhere_own p.null p.ended)

  bases_known : (s : Bases) → bases_within (bases_fit r s) r.bases ≡ true
  bases_known s = cond_both (bases_within s r.bases) s r.bases (λ z. bases_within z r.bases ≡ true) (λ t. t) (λ _. bases_order.reflexive r.bases)

  pointer_own : (p : Pointers I) → IsOwnPointer (pointer_fit l n list r p)
  pointer_own p =
      let s = bases_known p.bases in
      somewhere_own (record p { bases = bases_fit r p.bases; lo = count_fit l n list r p.lo; rel = number_fit l n list p.rel; len = count_fit l n list r p.len })
      (record { few = within_few list (bases_fit r p.bases) r.bases s h.few; known = s; lo = count_own p.lo; rel = number_own p.rel; len = count_own p.len })

  value_own : (v : values.Value I) → is_known_value l n list r (value_fit l n list r v) ≡ true
  value_own v = let p = pointer_own v.pointer in and_from _ _ (and_from _ _ (number_own v.num) (and_from _ _ p.0 refl)) p.1

  greatest_own : is_known_value l n list r (greatest_value l n list r) ≡ true
  greatest_own = value_own (record { num = greatest_number l n list; pointer = greatest_pointer l n list r; indeterminate = true; labels = all_labels })

  first_own : (f : FirstZero I) → is_own_first l list r (First (first_fit l n list r f)) ≡ true
  first_own f = let c = count_own f.at in and_from _ _ c.0 c.1

  state_own : (s : AllocState I) → is_own_state l list r (State (state_fit l n list r s)) ≡ true
  state_own s = let c = count_own s.size in and_from _ _ (and_from _ _ c.0 refl) c.1

  as_value_own : (x : Cell I) → is_own_value l n list r (fit_as_value l n list r x) ≡ true
  as_value_own Nothing = greatest_own
  as_value_own (Value v) = value_own v
  as_value_own (First f) = greatest_own
  as_value_own (State s) = greatest_own
  as_value_own Mixed = greatest_own

  as_first_own : (x : Cell I) → is_own_first l list r (fit_as_first l n list r x) ≡ true
  as_first_own Nothing = first_own (record { at = r.counts })
  as_first_own (Value v) = first_own (record { at = r.counts })
  as_first_own (First f) = first_own f
  as_first_own (State s) = first_own (record { at = r.counts })
  as_first_own Mixed = first_own (record { at = r.counts })

  as_state_own : (x : Cell I) → is_own_state l list r (fit_as_state l n list r x) ≡ true
  as_state_own Nothing = state_own (record { size = r.counts; live = true; freed = true })
  as_state_own (Value v) = state_own (record { size = r.counts; live = true; freed = true })
  as_state_own (First f) = state_own (record { size = r.counts; live = true; freed = true })
  as_state_own (State s) = state_own s
  as_state_own Mixed = state_own (record { size = r.counts; live = true; freed = true })

  made_own : (t : CellKind) (x : Cell I) → is_own_cell l n list r t (cell_made l n list r t x) ≡ true
  made_own kind.Value x = as_value_own x
  made_own kind.First x = as_first_own x
  made_own kind.State x = as_state_own x

  cell_own : (t : CellKind) (x : Cell I) → is_own_cell l n list r t (cell_fit l n list r t x) ≡ true
  unfolding cell_fit
  cell_own t x = cond_both (is_own_cell l n list r t x) x (cell_made l n list r t x) (λ y. is_own_cell l n list r t y ≡ true) (λ i. i) (λ _. made_own t x)

  pub cells_own : (ts : List CellKind) (xs : List (Cell I)) → are_own_cells l n list r ts (cells_fit l n list r ts xs) ≡ true
  cells_own ts [] = refl
  cells_own ts (x ∷ xs) = and_from _ _ (cell_own (first_kind ts) x) (cells_own (kinds_behind ts) xs)

  -- ---- what is joined

  none_least : (x : I) (q : Range) → n.bounds x ≡ q → is_none q ≡ true → x ≡ l.least
  none_least x None i j = b.only_least x i
  none_least x (Some p) i j = absurd (cc)

  still_some : (q : Range) → (is_none q ≡ true → ⊥) → is_some q ≡ true
  still_some None i = absurd (i refl)
  still_some (Some p) i = refl

  some_not : (q : Range) → is_some q ≡ true → is_none q ≡ true → ⊥
  some_not None i j = cc
  some_not (Some p) i j = cc

  -- what is above bounds has bounds
  larger_some : (x y : I) → l.leq x y ≡ true → is_some (n.bounds x) ≡ true → is_some (n.bounds y) ≡ true
  larger_some x y i j = still_some (n.bounds y) (λ (none : is_none (n.bounds y) ≡ true).
      let u : y ≡ l.least = none_least y (n.bounds y) refl none in
      let v : l.leq x l.least ≡ true = subst (λ z. l.leq x z ≡ true) u i in
      let w : x ≡ l.least = o.antisymmetric x l.least v (o.least_below x) in
      some_not (n.bounds x) j (subst (λ z. is_none (n.bounds z) ≡ true) (sym w) least_none))

  joined_none : (x y : I) → is_none (n.bounds x) ≡ true → is_none (n.bounds y) ≡ true → is_none (n.bounds (l.join x y)) ≡ true
  joined_none x y i j =
      let u : x ≡ l.least = none_least x (n.bounds x) refl i in
      let v : y ≡ l.least = none_least y (n.bounds y) refl j in
      let low : l.leq (l.join x y) l.least ≡ true = o.join_least x y l.least (subst (λ z. l.leq z l.least ≡ true) (sym u) (o.reflexive l.least)) (subst (λ z. l.leq z l.least ≡ true) (sym v) (o.reflexive l.least)) in
      let w : l.join x y ≡ l.least = o.antisymmetric (l.join x y) l.least low (o.least_below (l.join x y)) in
      subst (λ z. is_none (n.bounds z) ≡ true) (sym w) least_none

  rounded_none : (x : I) → is_none (n.bounds x) ≡ true → is_none (n.bounds (l.round list x)) ≡ true
  rounded_none x i =
      let u : x ≡ l.least = none_least x (n.bounds x) refl i in
      subst (λ z. is_none (n.bounds (l.round list z)) ≡ true) (sym u) (subst (λ z. is_none (n.bounds z) ≡ true) (sym (b.round_least list)) least_none)

  -- no bounds and no part
  record Nowhere (p : Pointers I) : Type 0 where
    lo : is_none (n.bounds p.lo) ≡ true
    rel : is_none (n.bounds p.rel) ≡ true
    len : is_none (n.bounds p.len) ≡ true
    part : p.part ≡ false

  record Somewhere (p : Pointers I) : Type 0 where
    lo : is_some (n.bounds p.lo) ≡ true
    rel : is_some (n.bounds p.rel) ≡ true
    len : is_some (n.bounds p.len) ≡ true

  nowhere_of : (p : Pointers I) → bases_empty p.bases ≡ true → is_consistent n p ≡ true → Nowhere p
  nowhere_of p i c =
      let f : is_nowhere n p ≡ true = subst (λ z. cond z (is_nowhere n p) (is_somewhere n p) ≡ true) i c in
      let u = and_parts (is_none (n.bounds p.lo)) (is_none (n.bounds p.rel) && (is_none (n.bounds p.len) && not p.part)) f in
      let v = and_parts (is_none (n.bounds p.rel)) (is_none (n.bounds p.len) && not p.part) u.1 in
      let w = and_parts (is_none (n.bounds p.len)) (not p.part) v.1 in
      record { lo = u.0; rel = v.0; len = w.0; part = not-true p.part w.1 }

  somewhere_of : (p : Pointers I) → bases_empty p.bases ≡ false → is_consistent n p ≡ true → Somewhere p
  somewhere_of p i c =
      let f : is_somewhere n p ≡ true = subst (λ z. cond z (is_nowhere n p) (is_somewhere n p) ≡ true) i c in
      let u = and_parts (is_some (n.bounds p.lo)) (is_some (n.bounds p.rel) && is_some (n.bounds p.len)) f in
      let v = and_parts (is_some (n.bounds p.rel)) (is_some (n.bounds p.len)) u.1 in
      record { lo = u.0; rel = v.0; len = v.1 }

  from_nowhere : (p : Pointers I) → bases_empty p.bases ≡ true → Nowhere p → is_consistent n p ≡ true
  from_nowhere p i w = subst (λ z. cond z (is_nowhere n p) (is_somewhere n p) ≡ true) (sym i) (and_from _ _ w.lo (and_from _ _ w.rel (and_from _ _ w.len (not_from_false p.part w.part))))

  from_somewhere : (p : Pointers I) → bases_empty p.bases ≡ false → Somewhere p → is_consistent n p ≡ true
  from_somewhere p i w = subst (λ z. cond z (is_nowhere n p) (is_somewhere n p) ≡ true) (sym i) (and_from _ _ w.lo (and_from _ _ w.rel w.len))

  above_somewhere : (p q : Pointers I) → l.leq p.lo q.lo ≡ true → l.leq p.rel q.rel ≡ true → l.leq p.len q.len ≡ true → Somewhere p → Somewhere q
  above_somewhere p q i j m w = record { lo = larger_some p.lo q.lo i w.lo; rel = larger_some p.rel q.rel j w.rel; len = larger_some p.len q.len m w.len }

  pub join_consistent : (p q : Pointers I) → is_consistent n p ≡ true → is_consistent n q ≡ true → is_consistent n (pointers_join l p q) ≡ true
  join_consistent p q i j = by_cases (bases_empty p.bases) refl (bases_empty q.bases) refl
    where
      by_cases : (a : Bool) → bases_empty p.bases ≡ a → (c : Bool) → bases_empty q.bases ≡ c → is_consistent n (pointers_join l p q) ≡ true
      by_cases true s true t =
          let x = nowhere_of p s i in
          let y = nowhere_of q t j in
          from_nowhere (pointers_join l p q) (both_empty p.bases q.bases s t) (record { lo = joined_none p.lo q.lo x.lo y.lo; rel = joined_none p.rel q.rel x.rel y.rel; len = joined_none p.len q.len x.len y.len; part = or_from p.part q.part x.part y.part })
      by_cases false s c t = from_somewhere (pointers_join l p q) (left_some p.bases q.bases s) (above_somewhere p (pointers_join l p q) (o.join_left p.lo q.lo) (o.join_left p.rel q.rel) (o.join_left p.len q.len) (somewhere_of p s i))
      by_cases true s false t = from_somewhere (pointers_join l p q) (right_some p.bases q.bases t) (above_somewhere q (pointers_join l p q) (o.join_right p.lo q.lo) (o.join_right p.rel q.rel) (o.join_right p.len q.len) (somewhere_of q t j))

  pub round_consistent : (p : Pointers I) → is_consistent n p ≡ true → is_consistent n (pointers_round l list p) ≡ true
  round_consistent p i = by_cases (bases_empty p.bases) refl
    where
      by_cases : (a : Bool) → bases_empty p.bases ≡ a → is_consistent n (pointers_round l list p) ≡ true
      by_cases true s = let x = nowhere_of p s i in from_nowhere (pointers_round l list p) s (record { lo = rounded_none p.lo x.lo; rel = rounded_none p.rel x.rel; len = rounded_none p.len x.len; part = x.part })
      by_cases false s = from_somewhere (pointers_round l list p) s (above_somewhere p (pointers_round l list p) (k.rises list p.lo) (k.rises list p.rel) (k.rises list p.len) (somewhere_of p s i))

  -- the four parts of an own pointer
  record Own (p : Pointers I) : Type 0 where
    known : bases_within p.bases r.bases ≡ true
    consistent : is_consistent n p ≡ true
    lo : l.leq p.lo r.counts ≡ true
    len : l.leq p.len r.counts ≡ true

  own_of : (p : Pointers I) → is_own_pointer l n r p ≡ true → Own p
  own_of p i =
      let u = and_parts (bases_within p.bases r.bases) (is_consistent n p && (l.leq p.lo r.counts && l.leq p.len r.counts)) i in
      let v = and_parts (is_consistent n p) (l.leq p.lo r.counts && l.leq p.len r.counts) u.1 in
      let w = and_parts (l.leq p.lo r.counts) (l.leq p.len r.counts) v.1 in
      record { known = u.0; consistent = v.0; lo = w.0; len = w.1 }

  join_pointer : (p q : Pointers I) → is_own_pointer l n r p ≡ true → is_own_pointer l n r q ≡ true → is_own_pointer l n r (pointers_join l p q) ≡ true
  join_pointer p q i j =
      let x = own_of p i in
      let y = own_of q j in
      and_from _ _ (bases_order.join_least p.bases q.bases r.bases x.known y.known)
      (and_from _ _ (join_consistent p q x.consistent y.consistent)
      (and_from _ _ (o.join_least p.lo q.lo r.counts x.lo y.lo) (o.join_least p.len q.len r.counts x.len y.len)))

  round_count : (x : I) → l.leq x r.counts ≡ true → l.leq (l.round list x) r.counts ≡ true
  round_count x i = subst (λ z. l.leq (l.round list x) z ≡ true) h.rounded (k.monotone list x r.counts i)

  round_pointer : (p : Pointers I) → is_own_pointer l n r p ≡ true → is_own_pointer l n r (pointers_round l list p) ≡ true
  round_pointer p i =
      let x = own_of p i in
      and_from _ _ x.known (and_from _ _ (round_consistent p x.consistent) (and_from _ _ (round_count p.lo x.lo) (round_count p.len x.len)))

  join_value : (x y : Cell I) → is_own_value l n list r x ≡ true → is_own_value l n list r y ≡ true → is_own_value l n list r ((cell_lattice l).join x y) ≡ true
  join_value Nothing y i j = cc
  join_value (First f) y i j = cc
  join_value (State s) y i j = cc
  join_value Mixed y i j = cc
  join_value (Value v) Nothing i j = cc
  join_value (Value v) (First f) i j = cc
  join_value (Value v) (State s) i j = cc
  join_value (Value v) Mixed i j = cc
  join_value (Value v) (Value w) i j =
      let x = and_parts ((value_lattice l).within list v) (is_own_pointer l n r v.pointer) i in
      let y = and_parts ((value_lattice l).within list w) (is_own_pointer l n r w.pointer) j in
      and_from _ _ ((value_heights o g).join_within list v w x.0 y.0) (join_pointer v.pointer w.pointer x.1 y.1)

  join_first : (x y : Cell I) → is_own_first l list r x ≡ true → is_own_first l list r y ≡ true → is_own_first l list r ((cell_lattice l).join x y) ≡ true
  join_first Nothing y i j = cc
  join_first (Value v) y i j = cc
  join_first (State s) y i j = cc
  join_first Mixed y i j = cc
  join_first (First f) Nothing i j = cc
  join_first (First f) (Value v) i j = cc
  join_first (First f) (State s) i j = cc
  join_first (First f) Mixed i j = cc
  join_first (First f) (First d) i j =
      let x = and_parts ((zero_lattice l).within list f) (l.leq f.at r.counts) i in
      let y = and_parts ((zero_lattice l).within list d) (l.leq d.at r.counts) j in
      and_from _ _ ((zero_heights g).join_within list f d x.0 y.0) (o.join_least f.at d.at r.counts x.1 y.1)

  join_state : (x y : Cell I) → is_own_state l list r x ≡ true → is_own_state l list r y ≡ true → is_own_state l list r ((cell_lattice l).join x y) ≡ true
  join_state Nothing y i j = cc
  join_state (Value v) y i j = cc
  join_state (First f) y i j = cc
  join_state Mixed y i j = cc
  join_state (State s) Nothing i j = cc
  join_state (State s) (Value v) i j = cc
  join_state (State s) (First f) i j = cc
  join_state (State s) Mixed i j = cc
  join_state (State s) (State t) i j =
      let x = and_parts ((state_lattice l).within list s) (l.leq s.size r.counts) i in
      let y = and_parts ((state_lattice l).within list t) (l.leq t.size r.counts) j in
      and_from _ _ ((state_heights o g).join_within list s t x.0 y.0) (o.join_least s.size t.size r.counts x.1 y.1)

  join_cell : (t : CellKind) (x y : Cell I) → is_own_cell l n list r t x ≡ true → is_own_cell l n list r t y ≡ true → is_own_cell l n list r t ((cell_lattice l).join x y) ≡ true
  join_cell kind.Value x y i j = join_value x y i j
  join_cell kind.First x y i j = join_first x y i j
  join_cell kind.State x y i j = join_state x y i j

  pub join_cells : (ts : List CellKind) (xs ys : List (Cell I)) → are_own_cells l n list r ts xs ≡ true → are_own_cells l n list r ts ys ≡ true → are_own_cells l n list r ts (row_join (cell_lattice l) xs ys) ≡ true
  join_cells ts [] ys i j = refl
  join_cells ts (x ∷ xs) [] i j = refl
  join_cells ts (x ∷ xs) (y ∷ ys) i j =
      let u = and_parts (is_own_cell l n list r (first_kind ts) x) (are_own_cells l n list r (kinds_behind ts) xs) i in
      let v = and_parts (is_own_cell l n list r (first_kind ts) y) (are_own_cells l n list r (kinds_behind ts) ys) j in
      and_from _ _ (join_cell (first_kind ts) x y u.0 v.0) (join_cells (kinds_behind ts) xs ys u.1 v.1)

  -- ---- what is rounded

  round_value : (x : Cell I) → is_own_value l n list r x ≡ true → is_own_value l n list r ((cell_lattice l).round list x) ≡ true
  round_value Nothing i = i
  round_value (Value v) i =
      let x = and_parts ((value_lattice l).within list v) (is_own_pointer l n r v.pointer) i in
      and_from _ _ ((value_heights o g).round_within list v x.0) (round_pointer v.pointer x.1)
  round_value (First f) i = i
  round_value (State s) i = i
  round_value Mixed i = i

  round_first : (x : Cell I) → is_own_first l list r x ≡ true → is_own_first l list r ((cell_lattice l).round list x) ≡ true
  round_first Nothing i = i
  round_first (Value v) i = i
  round_first (First f) i =
      let x = and_parts ((zero_lattice l).within list f) (l.leq f.at r.counts) i in
      and_from _ _ ((zero_heights g).round_within list f x.0) (round_count f.at x.1)
  round_first (State s) i = i
  round_first Mixed i = i

  round_state : (x : Cell I) → is_own_state l list r x ≡ true → is_own_state l list r ((cell_lattice l).round list x) ≡ true
  round_state Nothing i = i
  round_state (Value v) i = i
  round_state (First f) i = i
  round_state (State s) i =
      let x = and_parts ((state_lattice l).within list s) (l.leq s.size r.counts) i in
      and_from _ _ ((state_heights o g).round_within list s x.0) (round_count s.size x.1)
  round_state Mixed i = i

  round_cell : (t : CellKind) (x : Cell I) → is_own_cell l n list r t x ≡ true → is_own_cell l n list r t ((cell_lattice l).round list x) ≡ true
  round_cell kind.Value x i = round_value x i
  round_cell kind.First x i = round_first x i
  round_cell kind.State x i = round_state x i

  pub round_cells : (ts : List CellKind) (xs : List (Cell I)) → are_own_cells l n list r ts xs ≡ true → are_own_cells l n list r ts (row_round (cell_lattice l) list xs) ≡ true
  round_cells ts [] i = refl
  round_cells ts (x ∷ xs) i =
      let u = and_parts (is_own_cell l n list r (first_kind ts) x) (are_own_cells l n list r (kinds_behind ts) xs) i in
      and_from _ _ (round_cell (first_kind ts) x u.0) (round_cells (kinds_behind ts) xs u.1)

-- ---- rows

module _ {I : Type 0} where
  fit_length : (l : LatticeOf I) (n : IntegersOf I) (list : List ℤ) (r : Reach I) (ts : List CellKind) (xs : List (Cell I)) → length (cells_fit l n list r ts xs) ≡ length xs
  fit_length l n list r ts [] = refl
  fit_length l n list r ts (x ∷ xs) = let h = fit_length l n list r (kinds_behind ts) xs in omega arith

  cells_length : (width : ℕ) (xs : List (Cell I)) → length (cells_of width xs) ≡ width
  cells_length zero xs = refl
  cells_length (suc width) [] = let h = cells_length width [] in omega arith
  cells_length (suc width) (x ∷ xs) = let h = cells_length width xs in omega arith

  join_length : (l : LatticeOf I) (xs ys : List (Cell I)) → length xs ≡ length ys → length (row_join (cell_lattice l) xs ys) ≡ length xs
  join_length l [] ys e = refl
  join_length l (x ∷ xs) [] e = absurd (omega arith)
  join_length l (x ∷ xs) (y ∷ ys) e = let h = join_length l xs ys (omega arith) in omega arith

  round_length : (l : LatticeOf I) (list : List ℤ) (xs : List (Cell I)) → length (row_round (cell_lattice l) list xs) ≡ length xs
  round_length l list [] = refl
  round_length l list (x ∷ xs) = let h = round_length l list xs in omega arith

module _ {I : Type 0} {l : LatticeOf I} {n : IntegersOf I} {stands : I → ℤ → Type 0} (o : OrderLaws l) (k : RoundLaws l) (g : HeightLaws l) (b : BoundLaws l n stands) (e : EndLaws l n) (list : List ℤ) (bases : List BaseInfo) (width : ℕ) where
  abbrev IsOwn : List (Cell I) → Type 0
  IsOwn row = is_own_row l n list bases width row ≡ true

  pub own_length : (row : List (Cell I)) → IsOwn row → length row ≡ width
  own_length row i = eqb-true (length row) width (and_parts (nat_eq (length row) width) (are_own_cells l n list (reach_of l n list (length bases)) (all_kinds bases) row) i).0

  pub own_cells : (row : List (Cell I)) → IsOwn row → are_own_cells l n list (reach_of l n list (length bases)) (all_kinds bases) row ≡ true
  own_cells row i = (and_parts (nat_eq (length row) width) (are_own_cells l n list (reach_of l n list (length bases)) (all_kinds bases) row) i).1

  pub fit_own : (row : List (Cell I)) → IsOwn (row_fit l n list bases width row)
  unfolding row_fit
  fit_own row =
      and_from _ _
      (eq-eqb _ width (fit_length l n list (reach_of l n list (length bases)) (all_kinds bases) (cells_of width row) ∙ cells_length width row))
      (cells_own o k g b e list (reach_of l n list (length bases)) (reach_is l n k list (length bases)) (all_kinds bases) (cells_of width row))

  pub join_own : (row other : List (Cell I)) → IsOwn row → IsOwn other → IsOwn (row_join (cell_lattice l) row other)
  join_own row other i j =
      let s = own_length row i in
      let t = own_length other j in
      and_from _ _
      (eq-eqb _ width (join_length l row other (s ∙ sym t) ∙ s))
      (join_cells o k g b e list (reach_of l n list (length bases)) (reach_is l n k list (length bases)) (all_kinds bases) row other (own_cells row i) (own_cells other j))

  pub round_own : (row : List (Cell I)) → IsOwn row → IsOwn (row_round (cell_lattice l) list row)
  round_own row i =
      and_from _ _
      (eq-eqb _ width (round_length l list row ∙ own_length row i))
      (round_cells o k g b e list (reach_of l n list (length bases)) (reach_is l n k list (length bases)) (all_kinds bases) row (own_cells row i))
