-- Own rows in order are rising rows, and rising rows stay in order where they are made own ones.
use Rattle.std.specs.Prelude.{◌≡◌, ℕ, zero, suc, ◌+◌, ◌-◌, ◌^◌, ◌<◌, ℤ, pos, negsuc, ◌≤ℤ◌, int_le, Bool, true, false, cond, not, ◌&&◌, min, Some, None, is_none, is_some, List, [], ◌∷◌, ◌++◌, length, replicate, refl}
use Rattle.std.specs.Int.{int_min, int_max}
use Rattle.std.specs.List.{list_all, list_any}
use Rattle.std.proofs.Common.{arith, sym, subst, subst₂, ap, ◌∙◌, inl, inr, append_assoc}
use lib.Signed.{≤ℤ_refl}
use Rattle.std.proofs.lemmas.Int.{ints, clamps}
use Rattle.std.proofs.lemmas.Bool.{and_parts, and_from, cond_both, cond-true, or_cases, not-true}
use Rattle.cc_base.specs.Lattices.{LatticeOf, OrderLaws, HeightLaws}
use Rattle.cc_base.specs.LatticeParts.{flag_leq}
use Rattle.cc_base.specs.NumberRanges.{Range, range_met}
use Rattle.cc_base.specs.Rows.{row_leq}
use Rattle.cc_base.specs.IntegerDomains.{IntegersOf, BoundLaws, of_range}
use Rattle.c_layout.specs.declared.shapes.BaseInfo.{BaseInfo}
use Rattle.cfg.specs.WellFormed.{base_cells, base_values, all_values}
use Rattle.pointer_domain.specs.declared.base_sets.Bases.{Bases}
use Rattle.pointer_domain.specs.declared.pointer_sets.Pointers.{Pointers}
use Rattle.pointer_domain.specs.BaseSets.{no_base, bases_within, bases_empty}
use Rattle.pointer_domain.specs.BaseLattice.{bases_lattice, bases_order}
use Rattle.pointer_domain.specs.PointerLattice.{no_pointer, pointers_leq, pointer_lattice}
use Rattle.value_domain.specs.declared.strings.first_zeros.FirstZero.{FirstZero}
use Rattle.value_domain.specs.Strings.FirstZeros.{zero_lattice, the_end}
use Rattle.value_domain.specs.declared.values.values.Value as values
use Rattle.value_domain.specs.declared.values.alloc_states.AllocState.{AllocState}
use Rattle.value_domain.specs.Values.AllocStates.{state_lattice}
use Rattle.value_domain.specs.declared.values.row_cells.Cell.{Cell}
use Rattle.value_domain.specs.declared.values.row_cells.Cell.TheVariants.{Nothing, Value, First, State, Mixed}
use Rattle.value_domain.specs.Values.Values.{value_lattice}
use Rattle.value_domain.specs.Values.Cells.{cell_lattice, cell_leq}
use Rattle.domain_theorems.specs.Values.Consistency.{AreWords}
use Rattle.domain_theorems.proofs.values.Flags.{Sets, and_sets, not_sets, or_left, or_right}
use Rattle.domain_theorems.proofs.values.Parts.{PointersBelow, pointer_parts, pointers_below, value_parts, value_below}
use Rattle.domain_theorems.proofs.values.Ranges.{RangeBelow, met_monotone, bounds_monotone, of_range_monotone}
use Rattle.domain_theorems.proofs.values.Bases.{empty_below, empty_within}
use Rattle.store_monotone.specs.Operations.TopCells.{top_number, top_value, top_zero, top_state}
use Rattle.store_monotone.specs.Operations.TopRows.{top_base, top_bases, top_row}
use Rattle.store_monotone.specs.Operations.ConsistentRows.{IsConsistentCell, AreConsistent}
use Rattle.store_monotone.proofs.operations.AddedRanges.{below_of_bounds}
use Rattle.store_monotone.proofs.operations.CellReads.{labels_top}
use Rattle.store_monotone.proofs.operations.FirstZeros.{zero_near}
use Rattle.transfer_system.specs.declared.bounded_rows.cell_kinds.CellKind.{CellKind}
use Rattle.transfer_system.specs.declared.bounded_rows.cell_kinds.CellKind.TheVariants as kind
use Rattle.transfer_system.specs.declared.bounded_rows.own_cells.Reach.{Reach}
use Rattle.transfer_system.specs.BoundedRows.CellKinds.{before, state_before, values_of, run_before, all_kinds, first_kind, kinds_behind}
use Rattle.transfer_system.specs.BoundedRows.EndLaws.{EndLaws}
use Rattle.transfer_system.specs.BoundedRows.OwnRows.{is_nowhere, is_somewhere, is_consistent, is_own_pointer, is_known_value, is_known_first, is_known_state, is_own_cell, are_own_cells}
use Rattle.transfer_system.specs.BoundedRows.FittedRows.{list_ends, count_ends, ranges_both, cut_to, number_fit, count_fit, bases_fit, if_somewhere, pointer_fit, value_fit, first_fit, state_fit, cell_fit, cells_fit}
use Rattle.transfer_monotone.proofs.values.OwnBases.{words_less}
use Rattle.transfer_monotone.proofs.values.IntegerChecks.{some_more}
use Rattle.transfer_monotone.specs.Edges.FilledRows.{IsFilled, AreFilled}
use Rattle.transfer_system.specs.BoundedRows.NearLists.{is_near_number, IsNearList}

flag_top : (p : Bool) → flag_leq p true ≡ true
flag_top true = refl
flag_top false = refl

-- ---- numbers of lists

any_below : (a c : ℤ) (list : List ℤ) → a ≤ℤ c → Sets (list_any (λ m. int_le m a) list) (list_any (λ m. int_le m c) list)
any_below a c [] h e = e
any_below a c (m ∷ list) h e = elim (or_cases (int_le m a) (list_any (λ m. int_le m a) list) e) [ inl f ↦ or_left (int_le m c) (list_any (λ m. int_le m c) list) (less f h) | inr f ↦ or_right (int_le m c) (list_any (λ m. int_le m c) list) (any_below a c list h f) ]
  where
    less : int_le m a ≡ true → a ≤ℤ c → int_le m c ≡ true
    less f h = grind (arith, ints)

any_above : (a c : ℤ) (list : List ℤ) → c ≤ℤ a → Sets (list_any (λ m. int_le a m) list) (list_any (λ m. int_le c m) list)
any_above a c [] h e = e
any_above a c (m ∷ list) h e = elim (or_cases (int_le a m) (list_any (λ m. int_le a m) list) e) [ inl f ↦ or_left (int_le c m) (list_any (λ m. int_le c m) list) (more f h) | inr f ↦ or_right (int_le c m) (list_any (λ m. int_le c m) list) (any_above a c list h f) ]
  where
    more : int_le a m ≡ true → c ≤ℤ a → int_le c m ≡ true
    more f h = grind (arith, ints)

-- a number that is above one of the list is above the least of all
least_above : (c a : ℤ) (list : List ℤ) → list_all (is_near_number c) list ≡ true → list_any (λ m. int_le m a) list ≡ true → c ≤ℤ a
least_above c a [] h e = absurd (cc)
least_above c a (m ∷ list) h e =
    let p = and_parts (is_near_number c m) (list_all (is_near_number c) list) h in
    let q = and_parts (int_le c m) (int_le m (pos (2 ^ 64))) p.0 in
    elim (or_cases (int_le m a) (list_any (λ m. int_le m a) list) e) [ inl f ↦ between f q.0 | inr f ↦ least_above c a list p.1 f ]
  where
    between : int_le m a ≡ true → int_le c m ≡ true → c ≤ℤ a
    between f g = grind (arith, ints)

greatest_below : (c a : ℤ) (list : List ℤ) → list_all (is_near_number c) list ≡ true → list_any (λ m. int_le a m) list ≡ true → a ≤ℤ pos (2 ^ 64)
greatest_below c a [] h e = absurd (cc)
greatest_below c a (m ∷ list) h e =
    let p = and_parts (is_near_number c m) (list_all (is_near_number c) list) h in
    let q = and_parts (int_le c m) (int_le m (pos (2 ^ 64))) p.0 in
    elim (or_cases (int_le a m) (list_any (λ m. int_le a m) list) e) [ inl f ↦ between f q.1 | inr f ↦ greatest_below c a list p.1 f ]
  where
    between : int_le a m ≡ true → int_le m (pos (2 ^ 64)) ≡ true → a ≤ℤ pos (2 ^ 64)
    between f g = grind (arith, ints)

-- a range with a lesser lower end
lower_end : (r : Range) (c d e : ℤ) → d ≤ℤ c → RangeBelow r (Some (c, e)) → RangeBelow r (Some (d, e))
lower_end None c d e h k = tt
lower_end (Some p) c d e h k = (less p.0 c d h k.0, k.1)
  where
    less : (a c d : ℤ) → d ≤ℤ c → c ≤ℤ a → d ≤ℤ a
    less a c d h k = omega (arith, ints)

and_fails : {A : Type 0} (c : Bool) (x y : A) → cond (c && false) x y ≡ y
and_fails true x y = refl
and_fails false x y = refl

-- a proper range within two lies in what they have in common
met_above : (r s : Range) (c d : ℤ) → ((p : ℤ × ℤ) → r ≡ Some p → p.0 ≤ℤ p.1) → RangeBelow r s → RangeBelow r (Some (c, d)) → RangeBelow r (range_met s c d)
met_above None s c d o h k = tt
met_above (Some p) None c d o h k = absurd h
met_above (Some p) (Some q) c d o h k =
    let u = o p refl in
    cond_both (int_le (int_max q.0 c) (int_min q.1 d)) (Some (int_max q.0 c, int_min q.1 d)) None (λ r. RangeBelow (Some p) r) (λ t. (omega (arith, ints, clamps), omega (arith, ints, clamps))) (λ t. absurd (omega (arith, ints, clamps)))

not_le : (a c : ℤ) → a ≤ℤ c → int_le a c ≡ false → ⊥
not_le a c h t = grind (arith, ints)

empty_is : (s : Bases) → bases_empty s ≡ true → s ≡ no_base
empty_is s e = bases_order.antisymmetric s no_base (empty_within s no_base e) (bases_order.least_below s)

module _ {I : Type 0} {l : LatticeOf I} {n : IntegersOf I} {stands : I → ℤ → Type 0} (o : OrderLaws l) (g : HeightLaws l) (b : BoundLaws l n stands) (ends : EndLaws l n) (list : List ℤ) (near : IsNearList l n list) (reach : Reach I) (low : l.leq reach.counts (n.between (pos 0) the_end) ≡ true) (words : AreWords reach.bases) where
  -- ---- numbers within the list are near, and those between its ends are within it

  within_bounds : (x : I) → l.within list x ≡ true → RangeBelow (n.bounds x) (Some (near.least, pos (2 ^ 64)))
  within_bounds x h = at (n.bounds x) refl
    where
      at : (r : Range) → n.bounds x ≡ r → RangeBelow r (Some (near.least, pos (2 ^ 64)))
      at None e = tt
      at (Some p) e = let q = ends.within_ends list x p.0 p.1 e h in (least_above near.least p.0 list near.numbers q.lower, greatest_below near.least p.1 list near.numbers q.upper)

  within_near : (x : I) → l.within list x ≡ true → l.leq x (top_number n) ≡ true
  within_near x h = below_of_bounds o b x (negsuc (2 ^ 64 - 1)) (pos (2 ^ 64)) (lower_end (n.bounds x) near.least (negsuc (2 ^ 64 - 1)) (pos (2 ^ 64)) near.near (within_bounds x h))

  bounds_within : (x : I) → RangeBelow (n.bounds x) (Some (near.least, pos (2 ^ 64))) → l.within list x ≡ true
  bounds_within x h = at (n.bounds x) refl h
    where
      at : (r : Range) → n.bounds x ≡ r → RangeBelow r (Some (near.least, pos (2 ^ 64))) → l.within list x ≡ true
      at None e k = subst (λ z. l.within list z ≡ true) (sym (b.only_least x e)) (g.least_within list)
      at (Some p) e k = ends.ends_within list x p.0 p.1 e (record { lower = any_below near.least p.0 list k.0 near.ends.lower; upper = any_above (pos (2 ^ 64)) p.1 list k.1 near.ends.upper })

  counts_near : (x : I) → l.leq x reach.counts ≡ true → l.leq x (n.between (pos 0) the_end) ≡ true
  counts_near x h = o.transitive x reach.counts (n.between (pos 0) the_end) h low

  count_top : (x : I) → l.leq x reach.counts ≡ true → l.leq x (top_number n) ≡ true
  count_top x h = o.transitive x (n.between (pos 0) the_end) (top_number n) (counts_near x h) (zero_near o b)

  -- ---- own cells lie below the greatest ones

  pointer_top : (p : Pointers I) → (pointer_lattice l).within list p ≡ true → is_own_pointer l n reach p ≡ true → pointers_leq l p (top_value n reach.bases).pointer ≡ true
  pointer_top p h k =
      let a = and_parts (bases_within p.bases reach.bases) (is_consistent n p && (l.leq p.lo reach.counts && l.leq p.len reach.counts)) k in
      let c = and_parts (is_consistent n p) (l.leq p.lo reach.counts && l.leq p.len reach.counts) a.1 in
      let d = and_parts (l.leq p.lo reach.counts) (l.leq p.len reach.counts) c.1 in
      let e = and_parts (bases_lattice.within list p.bases) _ h in
      let f = and_parts (l.within list p.lo) _ e.1 in
      let q = and_parts (l.within list p.rel) _ f.1 in
      pointers_below l p (top_value n reach.bases).pointer (record { bases = a.0; lo = count_top p.lo d.0; rel = within_near p.rel q.0; len = count_top p.len d.1; part = flag_top p.part; null = flag_top p.null; ended = flag_top p.ended })

  value_top : (v : values.Value I) → is_known_value l n list reach v ≡ true → (value_lattice l).leq v (top_value n reach.bases) ≡ true
  value_top v h =
      let a = and_parts ((value_lattice l).within list v) (is_own_pointer l n reach v.pointer) h in
      let c = and_parts (l.within list v.num) _ a.0 in
      let d = and_parts ((pointer_lattice l).within list v.pointer) _ c.1 in
      value_below l v (top_value n reach.bases) (record { num = within_near v.num c.0; pointer = pointer_top v.pointer d.0 a.1; indeterminate = flag_top v.indeterminate; labels = labels_top v.labels })

  abbrev pub top_cell : CellKind → Cell I
  top_cell kind.Value = Value (top_value n reach.bases)
  top_cell kind.First = First (top_zero n)
  top_cell kind.State = State (top_state n)

  -- an own cell lies below the greatest one of its kind, has a consistent pointer part, and something is in it
  record IsOwnCell (k : CellKind) (c : Cell I) : Type 0 where
    top : cell_leq l c (top_cell k) ≡ true
    even : IsConsistentCell n c
    filled : IsFilled c

  own_value : (v : values.Value I) → is_known_value l n list reach v ≡ true → IsOwnCell kind.Value (Value v)
  own_value v h =
      let a = and_parts ((value_lattice l).within list v) (is_own_pointer l n reach v.pointer) h in
      let c = and_parts (bases_within v.pointer.bases reach.bases) (is_consistent n v.pointer && (l.leq v.pointer.lo reach.counts && l.leq v.pointer.len reach.counts)) a.1 in
      let d = and_parts (is_consistent n v.pointer) (l.leq v.pointer.lo reach.counts && l.leq v.pointer.len reach.counts) c.1 in
      record { top = value_top v h; even = (words_less v.pointer.bases reach.bases c.0 words, d.0); filled = tt }

  own_cell : (k : CellKind) (c : Cell I) → is_own_cell l n list reach k c ≡ true → IsOwnCell k c
  own_cell kind.Value (Value v) h = own_value v h
  own_cell kind.Value Nothing h = absurd (cc)
  own_cell kind.Value (First f) h = absurd (cc)
  own_cell kind.Value (State s) h = absurd (cc)
  own_cell kind.Value Mixed h = absurd (cc)
  own_cell kind.First (First f) h = let a = and_parts ((zero_lattice l).within list f) (l.leq f.at reach.counts) h in record { top = counts_near f.at a.1; even = tt; filled = tt }
  own_cell kind.First Nothing h = absurd (cc)
  own_cell kind.First (Value v) h = absurd (cc)
  own_cell kind.First (State s) h = absurd (cc)
  own_cell kind.First Mixed h = absurd (cc)
  own_cell kind.State (State s) h = let a = and_parts ((state_lattice l).within list s) (l.leq s.size reach.counts) h in record { top = and_from _ _ (counts_near s.size a.1) (and_from _ _ (flag_top s.live) (flag_top s.freed)); even = tt; filled = tt }
  own_cell kind.State Nothing h = absurd (cc)
  own_cell kind.State (Value v) h = absurd (cc)
  own_cell kind.State (First f) h = absurd (cc)
  own_cell kind.State Mixed h = absurd (cc)

  -- the greatest cells of these kinds, and values behind them
  abbrev pub top_cells : List CellKind → ℕ → List (Cell I)
  top_cells ks zero = []
  top_cells ks (suc m) = top_cell (first_kind ks) ∷ top_cells (kinds_behind ks) m

  pub cells_top : (ks : List CellKind) (cs : List (Cell I)) → are_own_cells l n list reach ks cs ≡ true → row_leq (cell_lattice l) cs (top_cells ks (length cs)) ≡ true
  cells_top ks [] h = refl
  cells_top ks (c ∷ cs) h = let a = and_parts (is_own_cell l n list reach (first_kind ks) c) (are_own_cells l n list reach (kinds_behind ks) cs) h in and_from _ _ (own_cell (first_kind ks) c a.0).top (cells_top (kinds_behind ks) cs a.1)

  pub cells_even : (ks : List CellKind) (cs : List (Cell I)) → are_own_cells l n list reach ks cs ≡ true → AreConsistent n cs
  cells_even ks [] h = tt
  cells_even ks (c ∷ cs) h = let a = and_parts (is_own_cell l n list reach (first_kind ks) c) (are_own_cells l n list reach (kinds_behind ks) cs) h in ((own_cell (first_kind ks) c a.0).even, cells_even (kinds_behind ks) cs a.1)

  pub cells_filled : (ks : List CellKind) (cs : List (Cell I)) → are_own_cells l n list reach ks cs ≡ true → AreFilled cs
  cells_filled ks [] h = tt
  cells_filled ks (c ∷ cs) h = let a = and_parts (is_own_cell l n list reach (first_kind ks) c) (are_own_cells l n list reach (kinds_behind ks) cs) h in ((own_cell (first_kind ks) c a.0).filled, cells_filled (kinds_behind ks) cs a.1)

  -- ---- numbers and pointers made own ones

  number_same : (x : I) → l.within list x ≡ true → number_fit l n list x ≡ x
  number_same x h = cond-true (l.within list x) x (cut_to l n (list_ends list) x) h

  number_is : (x : I) → number_fit l n list x ≡ cond (l.within list x) x (of_range l n (range_met (n.bounds x) near.least (pos (2 ^ 64))))
  number_is x = ap (λ r. cond (l.within list x) x (of_range l n (ranges_both (n.bounds x) r))) near.range

  counts_met : (c : ℤ) → c ≤ℤ pos 0 → range_met (Some (c, pos (2 ^ 64))) (pos 0) the_end ≡ Some (pos 0, the_end)
  counts_met (pos zero) h = refl
  counts_met (pos (suc c)) h = absurd (omega (arith, ints))
  counts_met (negsuc c) h = refl

  ends_are : count_ends list ≡ Some (pos 0, the_end)
  ends_are = ap (λ r. range_met r (pos 0) the_end) near.range ∙ counts_met near.least near.zero

  cut_is : (x : I) → cut_to l n (count_ends list) x ≡ of_range l n (range_met (n.bounds x) (pos 0) the_end)
  cut_is x = ap (λ r. of_range l n (ranges_both (n.bounds x) r)) ends_are

  count_bounds : (x : I) → l.leq x reach.counts ≡ true → RangeBelow (n.bounds x) (Some (pos 0, the_end))
  count_bounds x h = subst (λ r. RangeBelow (n.bounds x) r) (b.between_bounds (pos 0) the_end (omega (arith, ints))) (bounds_monotone b x (n.between (pos 0) the_end) (counts_near x h))

  count_within : (x : I) → l.leq x reach.counts ≡ true → l.within list x ≡ true
  count_within x h = bounds_within x (lower_end (n.bounds x) (pos 0) near.least (pos (2 ^ 64)) near.zero (count_bounds x h))

  -- counts are within the list, so to be cut or not is decided by them
  count_is : (x : I) → count_fit l n list reach x ≡ cond (l.leq x reach.counts) x (of_range l n (range_met (n.bounds x) (pos 0) the_end))
  count_is x = by_count (l.leq x reach.counts) refl
    where
      by_count : (c : Bool) → l.leq x reach.counts ≡ c → cond (l.within list x && c) x (cut_to l n (count_ends list) x) ≡ cond c x (of_range l n (range_met (n.bounds x) (pos 0) the_end))
      by_count true e = ap (λ w. cond (w && true) x (cut_to l n (count_ends list) x)) (count_within x e)
      by_count false e = and_fails (l.within list x) x (cut_to l n (count_ends list) x) ∙ cut_is x

  bounds_below : (x : I) (r : Range) → RangeBelow (n.bounds x) r → l.leq x (of_range l n r) ≡ true
  bounds_below x r h = o.transitive x (of_range l n (n.bounds x)) (of_range l n r) (at (n.bounds x) refl) (of_range_monotone o b (n.bounds x) r h)
    where
      at : (s : Range) → n.bounds x ≡ s → l.leq x (of_range l n s) ≡ true
      at None e = subst (λ z. l.leq z l.least ≡ true) (sym (b.only_least x e)) (o.reflexive l.least)
      at (Some p) e = cond_both (int_le p.0 p.1) (n.between p.0 p.1) l.least (λ y. l.leq x y ≡ true)
          (λ t. b.below_between x p.0 p.1 p.0 p.1 e (≤ℤ_refl p.0) (≤ℤ_refl p.1)) (λ t. absurd (let u = b.proper x p.0 p.1 e in not_le p.0 p.1 u t))

  proper_at : (x : I) (p : ℤ × ℤ) → n.bounds x ≡ Some p → p.0 ≤ℤ p.1
  proper_at x p e = b.proper x p.0 p.1 e

  -- numbers cut between two ends where they fail a test that passes only numbers between these
  cut_rises : (test : I → Bool) (c d : ℤ) → ((x y : I) → l.leq x y ≡ true → test y ≡ true → test x ≡ true) → ((x : I) → test x ≡ true → RangeBelow (n.bounds x) (Some (c, d))) → (x y : I) → l.leq x y ≡ true
      → l.leq (cond (test x) x (of_range l n (range_met (n.bounds x) c d))) (cond (test y) y (of_range l n (range_met (n.bounds y) c d))) ≡ true
  cut_rises test c d fewer between x y h = by_tests (test x) (test y) refl (λ e. fewer x y h e)
    where
      by_tests : (p q : Bool) → test x ≡ p → (q ≡ true → test x ≡ true) → l.leq (cond p x (of_range l n (range_met (n.bounds x) c d))) (cond q y (of_range l n (range_met (n.bounds y) c d))) ≡ true
      by_tests true true e k = h
      by_tests true false e k = bounds_below x (range_met (n.bounds y) c d) (met_above (n.bounds x) (n.bounds y) c d (proper_at x) (bounds_monotone b x y h) (between x e))
      by_tests false true e k = absurd (let z = k refl in cc)
      by_tests false false e k = of_range_monotone o b (range_met (n.bounds x) c d) (range_met (n.bounds y) c d) (met_monotone (n.bounds x) (n.bounds y) c d c d (bounds_monotone b x y h) (≤ℤ_refl c) (≤ℤ_refl d))

  count_rises : (x y : I) → l.leq x y ≡ true → l.leq (count_fit l n list reach x) (count_fit l n list reach y) ≡ true
  count_rises x y h = subst₂ (λ u v. l.leq u v ≡ true) (sym (count_is x)) (sym (count_is y)) (cut_rises (λ z. l.leq z reach.counts) (pos 0) the_end (λ u v e k. o.transitive u v reach.counts e k) count_bounds x y h)

  number_rises : (x y : I) → l.leq x y ≡ true → l.leq (number_fit l n list x) (number_fit l n list y) ≡ true
  number_rises x y h = subst₂ (λ u v. l.leq u v ≡ true) (sym (number_is x)) (sym (number_is y)) (cut_rises (l.within list) near.least (pos (2 ^ 64)) (ends.smaller_within list) within_bounds x y h)

  bases_same : (s : Bases) → bases_within s reach.bases ≡ true → bases_fit reach s ≡ s
  bases_same s h = cond-true (bases_within s reach.bases) s reach.bases h

  somewhere_more : (p q : Pointers I) → PointersBelow l p q → Sets (not (bases_empty p.bases) && is_somewhere n p) (not (bases_empty q.bases) && is_somewhere n q)
  somewhere_more p q h = and_sets (not (bases_empty p.bases)) (is_somewhere n p) (not (bases_empty q.bases)) (is_somewhere n q) (not_sets (bases_empty p.bases) (bases_empty q.bases) (empty_below p.bases q.bases h.bases))
      (and_sets (is_some (n.bounds p.lo)) _ (is_some (n.bounds q.lo)) _ (some_more (n.bounds p.lo) (n.bounds q.lo) (bounds_monotone b p.lo q.lo h.lo)) (and_sets (is_some (n.bounds p.rel)) (is_some (n.bounds p.len)) (is_some (n.bounds q.rel)) (is_some (n.bounds q.len)) (some_more (n.bounds p.rel) (n.bounds q.rel) (bounds_monotone b p.rel q.rel h.rel)) (some_more (n.bounds p.len) (n.bounds q.len) (bounds_monotone b p.len q.len h.len))))

  bare_below : (p q : Pointers I) → PointersBelow l p q → pointers_leq l (record (no_pointer l) { null = p.null; ended = p.ended }) q ≡ true
  bare_below p q h = pointers_below l (record (no_pointer l) { null = p.null; ended = p.ended }) q (record { bases = bases_order.least_below q.bases; lo = o.least_below q.lo; rel = o.least_below q.rel; len = o.least_below q.len; part = refl; null = h.null; ended = h.ended })

  if_rises : (p q : Pointers I) → PointersBelow l p q → pointers_leq l (if_somewhere l n p) (if_somewhere l n q) ≡ true
  if_rises p q h = by_tests (not (bases_empty p.bases) && is_somewhere n p) (not (bases_empty q.bases) && is_somewhere n q) (somewhere_more p q h)
    where
      by_tests : (a c : Bool) → Sets a c → pointers_leq l (cond a p (record (no_pointer l) { null = p.null; ended = p.ended })) (cond c q (record (no_pointer l) { null = q.null; ended = q.ended })) ≡ true
      by_tests true true e = pointers_below l p q h
      by_tests true false e = absurd (let z : false ≡ true = e refl in cc)
      by_tests false true e = bare_below p q h
      by_tests false false e = pointers_below l (record (no_pointer l) { null = p.null; ended = p.ended }) (record (no_pointer l) { null = q.null; ended = q.ended }) (record { bases = bases_order.least_below no_base; lo = o.least_below l.least; rel = o.least_below l.least; len = o.least_below l.least; part = refl; null = h.null; ended = h.ended })

  pointer_rises : (p q : Pointers I) → PointersBelow l p q → PointersBelow l q (top_value n reach.bases).pointer → pointers_leq l (pointer_fit l n list reach p) (pointer_fit l n list reach q) ≡ true
  pointer_rises p q h k = if_rises (record p { bases = bases_fit reach p.bases; lo = count_fit l n list reach p.lo; rel = number_fit l n list p.rel; len = count_fit l n list reach p.len })
      (record q { bases = bases_fit reach q.bases; lo = count_fit l n list reach q.lo; rel = number_fit l n list q.rel; len = count_fit l n list reach q.len })
      (record {
        bases = subst₂ (λ s t. bases_within s t ≡ true) (sym (bases_same p.bases (bases_order.transitive p.bases q.bases reach.bases h.bases k.bases))) (sym (bases_same q.bases k.bases)) h.bases;
        lo = count_rises p.lo q.lo h.lo;
        rel = number_rises p.rel q.rel h.rel;
        len = count_rises p.len q.len h.len;
        part = h.part;
        null = h.null;
        ended = h.ended;
      })

  value_rises : (v w : values.Value I) → (value_lattice l).leq v w ≡ true → (value_lattice l).leq w (top_value n reach.bases) ≡ true → (value_lattice l).leq (value_fit l n list reach v) (value_fit l n list reach w) ≡ true
  value_rises v w h k =
      let p = value_parts l v w h in
      let q = value_parts l w (top_value n reach.bases) k in
      value_below l (value_fit l n list reach v) (value_fit l n list reach w) (record {
        num = number_rises v.num w.num p.num;
        pointer = pointer_rises v.pointer w.pointer (pointer_parts l v.pointer w.pointer p.pointer) (pointer_parts l w.pointer (top_value n reach.bases).pointer q.pointer);
        indeterminate = p.indeterminate;
        labels = p.labels;
      })

  -- ---- own ones stay as they are

  count_same : (x : I) → l.leq x reach.counts ≡ true → count_fit l n list reach x ≡ x
  count_same x h = count_is x ∙ cond-true (l.leq x reach.counts) x (of_range l n (range_met (n.bounds x) (pos 0) the_end)) h

  none_is : (x : I) (r : Range) → n.bounds x ≡ r → is_none r ≡ true → x ≡ l.least
  none_is x None e h = b.only_least x e
  none_is x (Some p) e h = absurd (cc)

  nowhere_is : (p : Pointers I) → bases_empty p.bases ≡ true → is_consistent n p ≡ true → record (no_pointer l) { null = p.null; ended = p.ended } ≡ p
  nowhere_is p z h =
      let f : is_nowhere n p ≡ true = subst (λ c. cond c (is_nowhere n p) (is_somewhere n p) ≡ true) z h in
      let a = and_parts (is_none (n.bounds p.lo)) _ f in
      let c = and_parts (is_none (n.bounds p.rel)) _ a.1 in
      let d = and_parts (is_none (n.bounds p.len)) (not p.part) c.1 in
      let e0 = sym (empty_is p.bases z) in
      let e1 = sym (none_is p.lo (n.bounds p.lo) refl a.0) in
      let e2 = sym (none_is p.rel (n.bounds p.rel) refl c.0) in
      let e3 = sym (none_is p.len (n.bounds p.len) refl d.0) in
      let e4 = sym (not-true p.part d.1) in
      λ i. record p { bases = e0 i; lo = e1 i; rel = e2 i; len = e3 i; part = e4 i }

  if_same : (p : Pointers I) → is_consistent n p ≡ true → if_somewhere l n p ≡ p
  if_same p h = by_empty (bases_empty p.bases) refl
    where
      by_empty : (z : Bool) → bases_empty p.bases ≡ z → if_somewhere l n p ≡ p
      by_empty true e = ap (λ c. cond (not c && is_somewhere n p) p (record (no_pointer l) { null = p.null; ended = p.ended })) e ∙ nowhere_is p e h
      by_empty false e =
          let f : is_somewhere n p ≡ true = subst (λ c. cond c (is_nowhere n p) (is_somewhere n p) ≡ true) e h in
          ap (λ c. cond (not c && is_somewhere n p) p (record (no_pointer l) { null = p.null; ended = p.ended })) e ∙ cond-true (is_somewhere n p) p (record (no_pointer l) { null = p.null; ended = p.ended }) f

  pointer_same : (p : Pointers I) → (pointer_lattice l).within list p ≡ true → is_own_pointer l n reach p ≡ true → pointer_fit l n list reach p ≡ p
  pointer_same p h k =
      let a = and_parts (bases_within p.bases reach.bases) (is_consistent n p && (l.leq p.lo reach.counts && l.leq p.len reach.counts)) k in
      let c = and_parts (is_consistent n p) (l.leq p.lo reach.counts && l.leq p.len reach.counts) a.1 in
      let d = and_parts (l.leq p.lo reach.counts) (l.leq p.len reach.counts) c.1 in
      let t = and_parts (bases_lattice.within list p.bases) _ h in
      let f = and_parts (l.within list p.lo) _ t.1 in
      let q = and_parts (l.within list p.rel) _ f.1 in
      let e0 = bases_same p.bases a.0 in
      let e1 = count_same p.lo d.0 in
      let e2 = number_same p.rel q.0 in
      let e3 = count_same p.len d.1 in
      let same : record p { bases = bases_fit reach p.bases; lo = count_fit l n list reach p.lo; rel = number_fit l n list p.rel; len = count_fit l n list reach p.len } ≡ p = λ i. record p { bases = e0 i; lo = e1 i; rel = e2 i; len = e3 i } in
      ap (if_somewhere l n) same ∙ if_same p c.0

  value_same : (v : values.Value I) → is_known_value l n list reach v ≡ true → value_fit l n list reach v ≡ v
  value_same v h =
      let a = and_parts ((value_lattice l).within list v) (is_own_pointer l n reach v.pointer) h in
      let c = and_parts (l.within list v.num) _ a.0 in
      let d = and_parts ((pointer_lattice l).within list v.pointer) _ c.1 in
      let e0 = number_same v.num c.0 in
      let e1 = pointer_same v.pointer d.0 a.1 in
      λ i. record v { num = e0 i; pointer = e1 i }

  -- ---- cells made own ones

  value_fit_is : (v : values.Value I) → cell_fit l n list reach kind.Value (Value v) ≡ Value (value_fit l n list reach v)
  unfolding cell_fit
  value_fit_is v = cond_both (is_known_value l n list reach v) (Value v) (Value (value_fit l n list reach v)) (λ c. c ≡ Value (value_fit l n list reach v)) (λ e. ap (λ w. Value w) (sym (value_same v e))) (λ e. refl)

  first_fit_is : (f : FirstZero I) → cell_fit l n list reach kind.First (First f) ≡ First (first_fit l n list reach f)
  unfolding cell_fit
  first_fit_is f = cond_both (is_known_first l list reach f) (First f) (First (first_fit l n list reach f)) (λ c. c ≡ First (first_fit l n list reach f))
      (λ e. let a = and_parts ((zero_lattice l).within list f) (l.leq f.at reach.counts) e in let s = count_same f.at a.1 in λ i. First (record f { at = sym s i })) (λ e. refl)

  state_fit_is : (s : AllocState I) → cell_fit l n list reach kind.State (State s) ≡ State (state_fit l n list reach s)
  unfolding cell_fit
  state_fit_is s = cond_both (is_known_state l list reach s) (State s) (State (state_fit l n list reach s)) (λ c. c ≡ State (state_fit l n list reach s))
      (λ e. let a = and_parts ((state_lattice l).within list s) (l.leq s.size reach.counts) e in let t = count_same s.size a.1 in λ i. State (record s { size = sym t i })) (λ e. refl)

  fit_rises : (k : CellKind) (x y : Cell I) → IsFilled x → cell_leq l x y ≡ true → cell_leq l y (top_cell k) ≡ true → cell_leq l (cell_fit l n list reach k x) (cell_fit l n list reach k y) ≡ true
  fit_rises kind.Value (Value v) (Value w) f h k = subst₂ (λ c d. cell_leq l c d ≡ true) (sym (value_fit_is v)) (sym (value_fit_is w)) (value_rises v w h k)
  fit_rises kind.First (First u) (First w) f h k = subst₂ (λ c d. cell_leq l c d ≡ true) (sym (first_fit_is u)) (sym (first_fit_is w)) (count_rises u.at w.at h)
  fit_rises kind.State (State u) (State w) f h k =
      let a = and_parts (l.leq u.size w.size) (flag_leq u.live w.live && flag_leq u.freed w.freed) h in
      subst₂ (λ c d. cell_leq l c d ≡ true) (sym (state_fit_is u)) (sym (state_fit_is w)) (and_from _ _ (count_rises u.size w.size a.0) a.1)
  fit_rises kind.Value Nothing y f h j = absurd f
  fit_rises kind.Value (Value v) Nothing f h j = absurd (cc)
  fit_rises kind.Value (Value v) (First w) f h j = absurd (cc)
  fit_rises kind.Value (Value v) (State w) f h j = absurd (cc)
  fit_rises kind.Value (Value v) Mixed f h j = absurd (cc)
  fit_rises kind.Value (First u) Nothing f h j = absurd (cc)
  fit_rises kind.Value (First u) (Value w) f h j = absurd (cc)
  fit_rises kind.Value (First u) (First w) f h j = absurd (cc)
  fit_rises kind.Value (First u) (State w) f h j = absurd (cc)
  fit_rises kind.Value (First u) Mixed f h j = absurd (cc)
  fit_rises kind.Value (State t) Nothing f h j = absurd (cc)
  fit_rises kind.Value (State t) (Value w) f h j = absurd (cc)
  fit_rises kind.Value (State t) (First w) f h j = absurd (cc)
  fit_rises kind.Value (State t) (State w) f h j = absurd (cc)
  fit_rises kind.Value (State t) Mixed f h j = absurd (cc)
  fit_rises kind.Value Mixed Nothing f h j = absurd (cc)
  fit_rises kind.Value Mixed (Value w) f h j = absurd (cc)
  fit_rises kind.Value Mixed (First w) f h j = absurd (cc)
  fit_rises kind.Value Mixed (State w) f h j = absurd (cc)
  fit_rises kind.Value Mixed Mixed f h j = absurd (cc)
  fit_rises kind.First Nothing y f h j = absurd f
  fit_rises kind.First (Value v) Nothing f h j = absurd (cc)
  fit_rises kind.First (Value v) (Value w) f h j = absurd (cc)
  fit_rises kind.First (Value v) (First w) f h j = absurd (cc)
  fit_rises kind.First (Value v) (State w) f h j = absurd (cc)
  fit_rises kind.First (Value v) Mixed f h j = absurd (cc)
  fit_rises kind.First (First u) Nothing f h j = absurd (cc)
  fit_rises kind.First (First u) (Value w) f h j = absurd (cc)
  fit_rises kind.First (First u) (State w) f h j = absurd (cc)
  fit_rises kind.First (First u) Mixed f h j = absurd (cc)
  fit_rises kind.First (State t) Nothing f h j = absurd (cc)
  fit_rises kind.First (State t) (Value w) f h j = absurd (cc)
  fit_rises kind.First (State t) (First w) f h j = absurd (cc)
  fit_rises kind.First (State t) (State w) f h j = absurd (cc)
  fit_rises kind.First (State t) Mixed f h j = absurd (cc)
  fit_rises kind.First Mixed Nothing f h j = absurd (cc)
  fit_rises kind.First Mixed (Value w) f h j = absurd (cc)
  fit_rises kind.First Mixed (First w) f h j = absurd (cc)
  fit_rises kind.First Mixed (State w) f h j = absurd (cc)
  fit_rises kind.First Mixed Mixed f h j = absurd (cc)
  fit_rises kind.State Nothing y f h j = absurd f
  fit_rises kind.State (Value v) Nothing f h j = absurd (cc)
  fit_rises kind.State (Value v) (Value w) f h j = absurd (cc)
  fit_rises kind.State (Value v) (First w) f h j = absurd (cc)
  fit_rises kind.State (Value v) (State w) f h j = absurd (cc)
  fit_rises kind.State (Value v) Mixed f h j = absurd (cc)
  fit_rises kind.State (First u) Nothing f h j = absurd (cc)
  fit_rises kind.State (First u) (Value w) f h j = absurd (cc)
  fit_rises kind.State (First u) (First w) f h j = absurd (cc)
  fit_rises kind.State (First u) (State w) f h j = absurd (cc)
  fit_rises kind.State (First u) Mixed f h j = absurd (cc)
  fit_rises kind.State (State t) Nothing f h j = absurd (cc)
  fit_rises kind.State (State t) (Value w) f h j = absurd (cc)
  fit_rises kind.State (State t) (First w) f h j = absurd (cc)
  fit_rises kind.State (State t) Mixed f h j = absurd (cc)
  fit_rises kind.State Mixed Nothing f h j = absurd (cc)
  fit_rises kind.State Mixed (Value w) f h j = absurd (cc)
  fit_rises kind.State Mixed (First w) f h j = absurd (cc)
  fit_rises kind.State Mixed (State w) f h j = absurd (cc)
  fit_rises kind.State Mixed Mixed f h j = absurd (cc)

  pub fits_rise : (ks : List CellKind) (xs ys : List (Cell I)) → AreFilled xs → row_leq (cell_lattice l) xs ys ≡ true → row_leq (cell_lattice l) ys (top_cells ks (length ys)) ≡ true → row_leq (cell_lattice l) (cells_fit l n list reach ks xs) (cells_fit l n list reach ks ys) ≡ true
  fits_rise ks [] [] f h j = refl
  fits_rise ks [] (y ∷ ys) f h j = cc
  fits_rise ks (x ∷ xs) [] f h j = cc
  fits_rise ks (x ∷ xs) (y ∷ ys) f h j =
      let a = and_parts (cell_leq l x y) (row_leq (cell_lattice l) xs ys) h in
      let c = and_parts (cell_leq l y (top_cell (first_kind ks))) (row_leq (cell_lattice l) ys (top_cells (kinds_behind ks) (length ys))) j in
      and_from _ _ (fit_rises (first_kind ks) x y f.0 a.0 c.0) (fits_rise (kinds_behind ks) xs ys f.1 a.1 c.1)

  -- ---- the greatest cells of a program's kinds

  before_top : (k : CellKind) (m : ℕ) (ks : List CellKind) (t j : ℕ) → t ≡ m + j → top_cells (before k m ks) t ≡ replicate m (top_cell k) ++ top_cells ks j
  before_top k zero ks t j e = ap (top_cells ks) (plain t j e)
    where
      plain : (t j : ℕ) → t ≡ 0 + j → t ≡ j
      plain t j e = omega arith
  before_top k (suc m) ks zero j e = absurd (omega arith)
  before_top k (suc m) ks (suc t) j e = ap (λ cs. top_cell k ∷ cs) (before_top k m ks t j (omega arith))

  state_top : (state : Bool) (ks : List CellKind) (t j : ℕ) → t ≡ cond state 1 0 + j → top_cells (state_before state ks) t ≡ replicate (cond state 1 0) (State (top_state n)) ++ top_cells ks j
  state_top true ks t j e = before_top kind.State 1 ks t j e
  state_top false ks t j e = before_top kind.State 0 ks t j e

  none_top : (t : ℕ) → top_cells [] t ≡ replicate t (Value (top_value n reach.bases))
  none_top zero = refl
  none_top (suc t) = ap (λ cs. Value (top_value n reach.bases) ∷ cs) (none_top t)

  count_of : (heap : Bool) (m : ℕ) → m + cond heap 6 0 < 2 ^ 64 → cond heap (min (m + 6) (2 ^ 64 - 1)) m ≡ m + cond heap 6 0
  count_of true m h = omega arith
  count_of false m h = omega arith

  base_top : (base : BaseInfo) (ks : List CellKind) (t j : ℕ) → t ≡ base_values base + j → t < 2 ^ 64 → top_cells (run_before (values_of base) (length base.shape.zeros) base.shape.heap ks) t ≡ top_base n reach.bases base ++ top_cells ks j
  base_top base ks t j e s =
      let c = count_of base.shape.heap (length base.shape.cells) (omega arith) in
      ap (λ m. top_cells (before kind.Value m (before kind.First (length base.shape.zeros) (state_before base.shape.heap ks))) t) c
      ∙ before_top kind.Value (base_cells base) (before kind.First (length base.shape.zeros) (state_before base.shape.heap ks)) t (length base.shape.zeros + (cond base.shape.heap 1 0 + j)) (omega arith)
      ∙ ap (λ cs. replicate (base_cells base) (Value (top_value n reach.bases)) ++ cs)
      (before_top kind.First (length base.shape.zeros) (state_before base.shape.heap ks) (length base.shape.zeros + (cond base.shape.heap 1 0 + j)) (cond base.shape.heap 1 0 + j) refl
      ∙ ap (λ cs. replicate (length base.shape.zeros) (First (top_zero n)) ++ cs) (state_top base.shape.heap ks (cond base.shape.heap 1 0 + j) j refl))
      ∙ sym (ap (λ cs. replicate (base_cells base) (Value (top_value n reach.bases)) ++ cs) (append_assoc (replicate (length base.shape.zeros) (First (top_zero n))) (replicate (cond base.shape.heap 1 0) (State (top_state n))) (top_cells ks j)))
      ∙ sym (append_assoc (replicate (base_cells base) (Value (top_value n reach.bases))) (replicate (length base.shape.zeros) (First (top_zero n)) ++ replicate (cond base.shape.heap 1 0) (State (top_state n))) (top_cells ks j))

  bases_top : (bases : List BaseInfo) (t temps : ℕ) → t ≡ all_values bases + temps → t < 2 ^ 64 → top_cells (all_kinds bases) t ≡ top_bases n reach.bases bases ++ replicate temps (Value (top_value n reach.bases))
  bases_top [] t temps e s = ap (top_cells []) (plain t temps e) ∙ none_top temps
    where
      plain : (t temps : ℕ) → t ≡ 0 + temps → t ≡ temps
      plain t temps e = omega arith
  bases_top (base ∷ bases) t temps e s =
      base_top base (all_kinds bases) t (all_values bases + temps) (omega arith) s
      ∙ ap (λ cs. top_base n reach.bases base ++ cs) (bases_top bases (all_values bases + temps) temps refl (omega arith))
      ∙ sym (append_assoc (top_base n reach.bases base) (top_bases n reach.bases bases) (replicate temps (Value (top_value n reach.bases))))

  pub row_top : (bases : List BaseInfo) (width temps : ℕ) → width ≡ all_values bases + temps → width < 2 ^ 64 → top_cells (all_kinds bases) width ≡ top_row n reach.bases bases temps
  row_top bases width temps e s = bases_top bases width temps e s
