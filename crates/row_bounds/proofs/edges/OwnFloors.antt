-- The numbers of own rows are at least the first number of the list, and rows from it on are cut by no end of the list.
use Rattle.std.specs.Prelude.{◌≡◌, ◌-◌, ◌^◌, ◌≤ℤ◌, ℤ, pos, negsuc, int_le, true, Some, None, List, [], ◌∷◌, length, refl}
use Rattle.std.specs.List.{list_all, list_any}
use Rattle.std.proofs.Common.{arith, sym, subst, inl, inr}
use Rattle.std.proofs.lemmas.Int.{ints}
use Rattle.std.proofs.lemmas.Bool.{and_parts, or_cases}
use Rattle.cc_base.specs.Lattices.{LatticeOf, OrderLaws, HeightLaws}
use Rattle.cc_base.specs.NumberRanges.{Range}
use Rattle.cc_base.specs.Rows.{row_leq}
use Rattle.cc_base.specs.IntegerDomains.{IntegersOf, BoundLaws}
use Rattle.pointer_domain.specs.BaseLattice.{bases_lattice}
use Rattle.pointer_domain.specs.BaseSets.{bases_within}
use Rattle.pointer_domain.specs.PointerLattice.{pointer_lattice}
use Rattle.value_domain.specs.Strings.FirstZeros.{the_end}
use Rattle.value_domain.specs.declared.values.values.Value as values
use Rattle.value_domain.specs.declared.values.row_cells.Cell.{Cell}
use Rattle.value_domain.specs.declared.values.row_cells.Cell.TheVariants.{Nothing, Value, First, State, Mixed}
use Rattle.value_domain.specs.Values.Values.{value_lattice}
use Rattle.value_domain.specs.Values.Cells.{cell_lattice, cell_leq}
use Rattle.domain_theorems.specs.Values.Consistency.{AreWords}
use Rattle.domain_theorems.proofs.values.Parts.{pointer_parts, value_parts}
use Rattle.domain_theorems.proofs.values.Ranges.{RangeBelow, bounds_monotone}
use Rattle.store_monotone.specs.Operations.TopCells.{top_number, top_value}
use Rattle.transfer_system.specs.declared.bounded_rows.cell_kinds.CellKind.{CellKind}
use Rattle.transfer_system.specs.declared.bounded_rows.cell_kinds.CellKind.TheVariants as kind
use Rattle.transfer_system.specs.declared.bounded_rows.own_cells.Reach.{Reach}
use Rattle.transfer_system.specs.BoundedRows.CellKinds.{first_kind, kinds_behind}
use Rattle.transfer_system.specs.BoundedRows.Ends.{any_below, any_above}
use Rattle.transfer_system.specs.BoundedRows.EndLaws.{EndLaws}
use Rattle.transfer_system.specs.BoundedRows.OwnRows.{is_consistent, is_own_pointer, is_own_cell, are_own_cells}
use Rattle.transfer_system.specs.BoundedRows.NearLists.{is_near_number, IsNearList}
use Rattle.system_monotone.proofs.FittedOrder.{top_cell, top_cells}
use Rattle.system_monotone.specs.Systems.ProgramRows.{IsCutValue, IsCutCell, AreCut}
use Rattle.row_bounds.specs.Stores.Floors.{least_number, IsFrom, IsValueFrom, IsCellFrom, AreFrom}
use Rattle.row_bounds.proofs.stores.Ranges.{FloorLaws, smaller_from}
use Rattle.row_bounds.specs.Edges.OwnLists.{ReachesTypes}

le_true : (a c : ℤ) → int_le a c ≡ true → a ≤ℤ c
le_true a c h = grind (arith, ints)

-- each number that some number of the list is at most, is at least the first
any_least : (list : List ℤ) (least a : ℤ) → list_all (is_near_number least) list ≡ true → list_any (λ m. int_le m a) list ≡ true → least ≤ℤ a
any_least [] least a h e = absurd (cc)
any_least (m ∷ list) least a h e =
    let p = and_parts (is_near_number least m) (list_all (is_near_number least) list) h in
    let q = and_parts (int_le least m) (int_le m (pos (2 ^ 64))) p.0 in
    elim (or_cases (int_le m a) (list_any (λ m. int_le m a) list) e) [
      | inl t ↦ (let u = le_true least m q.0 in let v = le_true m a t in omega (arith, ints))
      | inr t ↦ any_least list least a p.1 t
    ]

module _ {I : Type 0} {l : LatticeOf I} {n : IntegersOf I} {stands : I → ℤ → Type 0} (o : OrderLaws l) (h : HeightLaws l) (b : BoundLaws l n stands) (ends : EndLaws l n) (list : List ℤ) (near : IsNearList l n list) where
  -- a near list that reaches the types begins at or below their least number
  pub least_low : ReachesTypes list → near.least ≤ℤ least_number
  least_low reaches = any_least list near.least least_number near.numbers reaches

  module _ (k : FloorLaws l n stands near.least) (reach : Reach I) (counts : l.leq reach.counts (n.between (pos 0) the_end) ≡ true) where
    -- ---- own rows

    within_from : (x : I) → l.within list x ≡ true → IsFrom near.least (n.bounds x)
    within_from x e = by_range (n.bounds x) refl
      where
        by_range : (r : Range) → n.bounds x ≡ r → IsFrom near.least r
        by_range None t = tt
        by_range (Some p) t = any_least list near.least p.0 near.numbers (ends.within_ends list x p.0 p.1 t e).lower

    between_from : IsFrom (pos 0) (n.bounds (n.between (pos 0) the_end))
    between_from = subst (IsFrom (pos 0)) (sym (b.between_bounds (pos 0) the_end (omega (arith, ints)))) (omega (arith, ints))

    count_from : (x : I) → l.leq x reach.counts ≡ true → IsFrom (pos 0) (n.bounds x)
    count_from x e = smaller_from k (pos 0) x (n.between (pos 0) the_end) (o.transitive x reach.counts (n.between (pos 0) the_end) e counts) between_from

    value_from : (v : values.Value I) → is_own_cell l n list reach kind.Value (Value v) ≡ true → IsValueFrom n near.least v
    value_from v e =
        let a = and_parts ((value_lattice l).within list v) (is_own_pointer l n reach v.pointer) e in
        let c = and_parts (l.within list v.num) _ a.0 in
        let d = and_parts ((pointer_lattice l).within list v.pointer) _ c.1 in
        let f = and_parts (bases_lattice.within list v.pointer.bases) _ d.0 in
        let g = and_parts (l.within list v.pointer.lo) _ f.1 in
        let i = and_parts (l.within list v.pointer.rel) _ g.1 in
        let p = and_parts (bases_within v.pointer.bases reach.bases) _ a.1 in
        let q = and_parts (is_consistent n v.pointer) _ p.1 in
        let r = and_parts (l.leq v.pointer.lo reach.counts) (l.leq v.pointer.len reach.counts) q.1 in
        (within_from v.num c.0, (count_from v.pointer.lo r.0, within_from v.pointer.rel i.0, count_from v.pointer.len r.1))

    cell_from : (t : CellKind) (c : Cell I) → is_own_cell l n list reach t c ≡ true → IsCellFrom n near.least c
    cell_from kind.Value (Value v) e = value_from v e
    cell_from kind.First (Value v) e = absurd (cc)
    cell_from kind.State (Value v) e = absurd (cc)
    cell_from t Nothing e = tt
    cell_from t (First z) e = tt
    cell_from t (State s) e = tt
    cell_from t Mixed e = tt

    pub own_from : (ts : List CellKind) (cs : List (Cell I)) → are_own_cells l n list reach ts cs ≡ true → AreFrom n near.least cs
    own_from ts [] e = tt
    own_from ts (c ∷ cs) e = let p = and_parts (is_own_cell l n list reach (first_kind ts) c) (are_own_cells l n list reach (kinds_behind ts) cs) e in (cell_from (first_kind ts) c p.0, own_from (kinds_behind ts) cs p.1)

  -- ---- rows of the program that are from the first number of the list on

  module _ (reach : Reach I) (counts : l.leq reach.counts (n.between (pos 0) the_end) ≡ true) (rises : l.leq (n.between (pos 0) the_end) reach.counts ≡ true) (words : AreWords reach.bases) where
    top_upper : (x : I) → l.leq x (top_number n) ≡ true → (p : ℤ × ℤ) → n.bounds x ≡ Some p → p.1 ≤ℤ pos (2 ^ 64)
    top_upper x e p t =
        let u = subst (λ r. RangeBelow (n.bounds x) r) (b.between_bounds (negsuc (2 ^ 64 - 1)) (pos (2 ^ 64)) (omega (arith, ints))) (bounds_monotone b x (top_number n) e) in
        let v : RangeBelow (Some p) (Some (negsuc (2 ^ 64 - 1), pos (2 ^ 64))) = subst (λ r. RangeBelow r (Some (negsuc (2 ^ 64 - 1), pos (2 ^ 64)))) t u in
        v.1

    cut_within : (x : I) → l.leq x (top_number n) ≡ true → IsFrom near.least (n.bounds x) → l.within list x ≡ true
    cut_within x e j = by_range (n.bounds x) refl
      where
        by_range : (r : Range) → n.bounds x ≡ r → l.within list x ≡ true
        by_range None t = subst (λ y. l.within list y ≡ true) (sym (b.only_least x t)) (h.least_within list)
        by_range (Some p) t =
            let low : near.least ≤ℤ p.0 = subst (IsFrom near.least) t j in
            ends.ends_within list x p.0 p.1 t (record { lower = any_below list near.least p.0 low near.ends.lower; upper = any_above list (pos (2 ^ 64)) p.1 (top_upper x e p t) near.ends.upper })

    cut_count : (x : I) → l.leq x (top_number n) ≡ true → IsFrom (pos 0) (n.bounds x) → l.leq x reach.counts ≡ true
    cut_count x e j = by_range (n.bounds x) refl
      where
        by_range : (r : Range) → n.bounds x ≡ r → l.leq x reach.counts ≡ true
        by_range None t = subst (λ y. l.leq y reach.counts ≡ true) (sym (b.only_least x t)) (o.least_below reach.counts)
        by_range (Some p) t =
            let low : pos 0 ≤ℤ p.0 = subst (IsFrom (pos 0)) t j in
            o.transitive x (n.between (pos 0) the_end) reach.counts (b.below_between x p.0 p.1 (pos 0) the_end t low (top_upper x e p t)) rises

    cut_value : (v : values.Value I) → (value_lattice l).leq v (top_value n reach.bases) ≡ true → IsValueFrom n near.least v → IsCutValue l list reach v
    cut_value v e j =
        let t = value_parts l v (top_value n reach.bases) e in
        let p = pointer_parts l v.pointer (top_value n reach.bases).pointer t.pointer in
        record { num = cut_within v.num t.num j.0; lo = cut_count v.pointer.lo p.lo j.1.0; rel = cut_within v.pointer.rel p.rel j.1.1; len = cut_count v.pointer.len p.len j.1.2 }

    abbrev TopCell : CellKind → Cell I
    TopCell t = top_cell o h b ends list near reach counts words t

    cut_cell : (t : CellKind) (c : Cell I) → cell_leq l c (TopCell t) ≡ true → IsCellFrom n near.least c → IsCutCell l list reach c
    cut_cell kind.Value (Value v) e j = cut_value v e j
    cut_cell kind.First (Value v) e j = absurd (cc)
    cut_cell kind.State (Value v) e j = absurd (cc)
    cut_cell t Nothing e j = tt
    cut_cell t (First z) e j = tt
    cut_cell t (State s) e j = tt
    cut_cell t Mixed e j = tt

    pub all_cut : (ts : List CellKind) (cs : List (Cell I)) → row_leq (cell_lattice l) cs (top_cells o h b ends list near reach counts words ts (length cs)) ≡ true → AreFrom n near.least cs → AreCut l list reach cs
    all_cut ts [] e j = tt
    all_cut ts (c ∷ cs) e j =
        let p = and_parts (cell_leq l c (TopCell (first_kind ts))) _ e in
        (cut_cell (first_kind ts) c p.0 j.0, all_cut (kinds_behind ts) cs p.1 j.1)
