-- Own rows of a near list are own ones of a list that goes from -2^64 to 2^64, and what is own is left as it is.
use Rattle.std.specs.Prelude.{◌≡◌, ◌-◌, ◌^◌, ◌&&◌, ℤ, pos, negsuc, nat_eq, true, List, [], ◌∷◌, length, refl}
use Rattle.std.proofs.Common.{arith, ap, ◌∙◌}
use Rattle.std.proofs.lemmas.Int.{ints}
use Rattle.std.proofs.lemmas.Bool.{and_from, and_parts, cond-true}
use Rattle.cc_base.specs.Lattices.{LatticeOf, OrderLaws, RoundLaws, HeightLaws}
use Rattle.cc_base.specs.Rows.{row_leq}
use Rattle.cc_base.specs.IntegerDomains.{IntegersOf, BoundLaws}
use Rattle.cfg.specs.declared.programs.Flow.{Flow}
use Rattle.pointer_domain.specs.BaseLattice.{bases_lattice}
use Rattle.pointer_domain.specs.BaseSets.{bases_within}
use Rattle.pointer_domain.specs.PointerLattice.{pointer_lattice}
use Rattle.value_domain.specs.Strings.FirstZeros.{zero_lattice, the_end}
use Rattle.value_domain.specs.Values.AllocStates.{state_lattice}
use Rattle.value_domain.specs.Values.Values.{value_lattice}
use Rattle.value_domain.specs.Values.Cells.{cell_lattice, cell_leq}
use Rattle.value_domain.specs.declared.values.values.Value as values
use Rattle.value_domain.specs.declared.values.row_cells.Cell.{Cell}
use Rattle.value_domain.specs.declared.values.row_cells.Cell.TheVariants.{Nothing, Value, First, State, Mixed}
use Rattle.domain_theorems.specs.Values.Consistency.{AreWords}
use Rattle.domain_theorems.proofs.values.Parts.{pointer_parts, value_parts}
use Rattle.store_monotone.specs.Operations.TopCells.{top_number, top_value}
use Rattle.store_monotone.proofs.operations.FirstZeros.{zero_near}
use Rattle.transfer_system.specs.declared.bounded_rows.cell_kinds.CellKind.{CellKind}
use Rattle.transfer_system.specs.declared.bounded_rows.cell_kinds.CellKind.TheVariants as kind
use Rattle.transfer_system.specs.declared.bounded_rows.own_cells.Reach.{Reach}
use Rattle.transfer_system.specs.BoundedRows.CellKinds.{all_kinds, first_kind, kinds_behind}
use Rattle.transfer_system.specs.BoundedRows.EndLaws.{HasEnds, EndLaws}
use Rattle.transfer_system.specs.BoundedRows.FittedRows.{cell_made, cell_fit, cells_fit, row_fit, all_cells}
use Rattle.transfer_system.specs.BoundedRows.OwnLaws.{own_length, own_cells}
use Rattle.transfer_system.specs.BoundedRows.OwnRows.{program_bases, reach_of, is_consistent, is_own_pointer, is_known_value, is_own_cell, are_own_cells, is_own_row}
use Rattle.transfer_system.specs.BoundedRows.NearLists.{IsNearList}
use Rattle.transfer_monotone.proofs.edges.FittedOrder.{top_cell, top_cells, cells_top}

module _ {I : Type 0} {l : LatticeOf I} {n : IntegersOf I} {gamma : I → ℤ → Type 0} (o : OrderLaws l) (k : RoundLaws l) (h : HeightLaws l) (b : BoundLaws l n gamma) (ends : EndLaws l n)
    (list : List ℤ) (near : IsNearList l n list) (wide : List ℤ) (holds : HasEnds wide (negsuc (2 ^ 64 - 1)) (pos (2 ^ 64))) (flow : Flow) (words : AreWords (program_bases (length flow.bases.items))) where
  abbrev small : Reach I
  small = reach_of l n list (length flow.bases.items)

  abbrev large : Reach I
  large = reach_of l n wide (length flow.bases.items)

  -- ---- numbers

  near_wide : (x : I) → l.leq x (top_number n) ≡ true → l.within wide x ≡ true
  near_wide x e = ends.smaller_within wide x (top_number n) e (ends.ends_within wide (top_number n) (negsuc (2 ^ 64 - 1)) (pos (2 ^ 64)) (b.between_bounds (negsuc (2 ^ 64 - 1)) (pos (2 ^ 64)) (omega (arith, ints))) holds)

  pub record IsCount (x : I) : Type 0 where
    pub within : l.within wide x ≡ true
    pub below : l.leq x large.counts ≡ true

  count_wide : (x : I) → l.leq x small.counts ≡ true → IsCount x
  count_wide x e =
      let c = o.transitive x small.counts (n.between (pos 0) the_end) e near.counts in
      record {
        within = near_wide x (o.transitive x (n.between (pos 0) the_end) (top_number n) c (zero_near o b));
        below = o.transitive x (n.between (pos 0) the_end) large.counts c (k.rises wide (n.between (pos 0) the_end));
      }

  -- ---- cells

  value_wide : (v : values.Value I) → is_known_value l n list small v ≡ true → (value_lattice l).leq v (top_value n small.bases) ≡ true → is_known_value l n wide large v ≡ true
  value_wide v e top =
      let a = and_parts ((value_lattice l).within list v) (is_own_pointer l n small v.pointer) e in
      let c = and_parts (l.within list v.num) _ a.0 in
      let d = and_parts ((pointer_lattice l).within list v.pointer) _ c.1 in
      let few = and_parts (bases_lattice.within list v.pointer.bases) _ d.0 in
      let f = and_parts (bases_within v.pointer.bases small.bases) (is_consistent n v.pointer && (l.leq v.pointer.lo small.counts && l.leq v.pointer.len small.counts)) a.1 in
      let g = and_parts (is_consistent n v.pointer) (l.leq v.pointer.lo small.counts && l.leq v.pointer.len small.counts) f.1 in
      let i = and_parts (l.leq v.pointer.lo small.counts) (l.leq v.pointer.len small.counts) g.1 in
      let t = value_parts l v (top_value n small.bases) top in
      let p = pointer_parts l v.pointer (top_value n small.bases).pointer t.pointer in
      let lo = count_wide v.pointer.lo i.0 in
      let len = count_wide v.pointer.len i.1 in
      and_from _ _ (and_from _ _ (near_wide v.num t.num) (and_from _ _ (and_from _ _ few.0 (and_from _ _ lo.within (and_from _ _ (near_wide v.pointer.rel p.rel) (and_from _ _ len.within refl)))) refl))
      (and_from _ _ f.0 (and_from _ _ g.0 (and_from _ _ lo.below len.below)))

  abbrev TopCell : CellKind → Cell I
  TopCell t = top_cell o h b ends list near small near.counts words t

  cell_wide : (t : CellKind) (c : Cell I) → is_own_cell l n list small t c ≡ true → cell_leq l c (TopCell t) ≡ true → is_own_cell l n wide large t c ≡ true
  cell_wide kind.Value (Value v) e top = value_wide v e top
  cell_wide kind.First (First f) e top = let a = and_parts ((zero_lattice l).within list f) (l.leq f.at small.counts) e in let c = count_wide f.at a.1 in and_from _ _ c.within c.below
  cell_wide kind.State (State s) e top = let a = and_parts ((state_lattice l).within list s) (l.leq s.size small.counts) e in let c = count_wide s.size a.1 in and_from _ _ (and_from _ _ c.within refl) c.below
  cell_wide kind.Value Nothing e top = absurd (cc)
  cell_wide kind.Value (First f) e top = absurd (cc)
  cell_wide kind.Value (State s) e top = absurd (cc)
  cell_wide kind.Value Mixed e top = absurd (cc)
  cell_wide kind.First Nothing e top = absurd (cc)
  cell_wide kind.First (Value v) e top = absurd (cc)
  cell_wide kind.First (State s) e top = absurd (cc)
  cell_wide kind.First Mixed e top = absurd (cc)
  cell_wide kind.State Nothing e top = absurd (cc)
  cell_wide kind.State (Value v) e top = absurd (cc)
  cell_wide kind.State (First f) e top = absurd (cc)
  cell_wide kind.State Mixed e top = absurd (cc)

  cells_wide : (ts : List CellKind) (cs : List (Cell I)) → are_own_cells l n list small ts cs ≡ true → row_leq (cell_lattice l) cs (top_cells o h b ends list near small near.counts words ts (length cs)) ≡ true → are_own_cells l n wide large ts cs ≡ true
  cells_wide ts [] e top = refl
  cells_wide ts (c ∷ cs) e top =
      let p = and_parts (is_own_cell l n list small (first_kind ts) c) (are_own_cells l n list small (kinds_behind ts) cs) e in
      let q = and_parts (cell_leq l c (TopCell (first_kind ts))) _ top in
      and_from _ _ (cell_wide (first_kind ts) c p.0 q.0) (cells_wide (kinds_behind ts) cs p.1 q.1)

  -- ---- rows

  pub row_wide : (row : List (Cell I)) → is_own_row l n list flow.bases.items flow.width row ≡ true → is_own_row l n wide flow.bases.items flow.width row ≡ true
  row_wide row e =
      let a = and_parts (nat_eq (length row) flow.width) (are_own_cells l n list small (all_kinds flow.bases.items) row) e in
      and_from _ _ a.0 (cells_wide (all_kinds flow.bases.items) row a.1 (cells_top o h b ends list near small near.counts words (all_kinds flow.bases.items) row a.1))

  cells_same : (ts : List CellKind) (cs : List (Cell I)) → are_own_cells l n wide large ts cs ≡ true → cells_fit l n wide large ts cs ≡ cs
  unfolding cell_fit
  cells_same ts [] e = refl
  cells_same ts (c ∷ cs) e =
      let p = and_parts (is_own_cell l n wide large (first_kind ts) c) (are_own_cells l n wide large (kinds_behind ts) cs) e in
      let a = cond-true (is_own_cell l n wide large (first_kind ts) c) c (cell_made l n wide large (first_kind ts) c) p.0 in
      let d = cells_same (kinds_behind ts) cs p.1 in
      λ i. a i ∷ d i

  -- so what is own by the near list is left as it is by the fit of the wide one
  pub wide_keeps : (row : List (Cell I)) → is_own_row l n list flow.bases.items flow.width row ≡ true → row_fit l n wide flow.bases.items flow.width row ≡ row
  unfolding row_fit
  wide_keeps row e =
      ap (cells_fit l n wide large (all_kinds flow.bases.items)) (all_cells flow.width row (own_length o k h b ends list flow.bases.items flow.width row e))
      ∙ cells_same (all_kinds flow.bases.items) row (own_cells o k h b ends wide flow.bases.items flow.width row (row_wide row e))
