-- What edges leave of own rows are rows of the program, and those whose numbers lie between the ends of the list are own ones.
use Rattle.std.specs.Prelude.{◌≡◌, ℕ, ℤ, pos, true, min, Option, Some, None, List, [], ◌∷◌, length, refl}
use Rattle.std.proofs.Common.{arith, sym, subst, ap, ◌∙◌}
use Rattle.std.proofs.lemmas.Int.{ints}
use Rattle.std.proofs.lemmas.Bool.{and_parts, and_from, cond-true}
use Rattle.cc_base.specs.Lattices.{LatticeOf, OrderLaws, RoundLaws, HeightLaws}
use Rattle.cc_base.specs.Rows.{row_leq}
use Rattle.cc_base.specs.RowLaws.{row_leq-refl, row_leq-length}
use Rattle.cc_base.specs.IntegerDomains.{IntegersOf, BoundLaws, RangeLaws}
use Rattle.cc_base.specs.IntegerLaws.{MonotoneLaws}
use Rattle.cfg.specs.declared.programs.Flow.{Flow}
use Rattle.value_domain.specs.Strings.FirstZeros.{the_end}
use Rattle.value_domain.specs.declared.values.values.Value as values
use Rattle.value_domain.specs.declared.values.row_cells.Cell.{Cell}
use Rattle.value_domain.specs.declared.values.row_cells.Cell.TheVariants.{Nothing, Value, First, State, Mixed}
use Rattle.value_domain.specs.Values.Values.{value_lattice}
use Rattle.value_domain.specs.Values.Cells.{cell_lattice, cell_order, cell_leq}
use Rattle.domain_theorems.proofs.values.Parts.{pointer_parts, value_parts}
use Rattle.store_monotone.specs.Operations.TopCells.{top_value}
use Rattle.store_monotone.specs.Operations.TopRows.{top_row}
use Rattle.store_monotone.specs.Operations.ConsistentRows.{IsConsistentCell, AreConsistent}
use Rattle.transfer_system.specs.declared.bounded_rows.cell_kinds.CellKind.{CellKind}
use Rattle.transfer_system.specs.declared.bounded_rows.cell_kinds.CellKind.TheVariants as kind
use Rattle.transfer_system.specs.declared.bounded_rows.own_cells.Reach.{Reach}
use Rattle.transfer_system.specs.BoundedRows.CellKinds.{all_kinds, first_kind, kinds_behind}
use Rattle.transfer_system.specs.BoundedRows.Ends.{any_below}
use Rattle.transfer_system.specs.BoundedRows.EndLaws.{EndLaws}
use Rattle.transfer_system.specs.BoundedRows.ProgramBases.{within_few, below_within}
use Rattle.transfer_system.specs.BoundedRows.OwnRows.{program_bases, reach_of, is_own_cell, is_own_row}
use Rattle.transfer_system.specs.BoundedRows.OwnLaws.{own_cells}
use Rattle.transfer_system.specs.BoundedRows.FittedRows.{cell_made, cell_fit, cells_fit, row_fit, all_cells}
use Rattle.transfer_system.specs.System.BlockPasses.{block_end, edge_behind, edge_end}
use Rattle.transfer_monotone.specs.Values.RisingRows.{LeftRise}
use Rattle.transfer_monotone.specs.Values.LaidOut.{IsLaidOut}
use Rattle.transfer_monotone.proofs.values.TempPlaces.{row_length}
use Rattle.transfer_monotone.specs.Edges.FilledRows.{IsFilled, AreFilled, IsLeftFilled}
use Rattle.transfer_monotone.specs.Edges.ProgramLaws.{IsNamed, AreRising}
use Rattle.transfer_system.specs.BoundedRows.NearLists.{IsNearList}
use Rattle.transfer_monotone.proofs.edges.FilledProgram.{block_fills, edge_fills}
use Rattle.transfer_monotone.proofs.edges.FittedOrder.{top_cell, top_cells, cells_filled, row_top}
use Rattle.transfer_monotone.proofs.edges.Systems.{own_rise, end_rises}
use Rattle.system_monotone.specs.Systems.ProgramRows.{IsProgramRow, IsCutValue, IsCutCell, AreCut}

module _ {I : Type 0} {l : LatticeOf I} {n : IntegersOf I} {stands : I → ℤ → Type 0} (o : OrderLaws l) (k : RoundLaws l) (h : HeightLaws l) (b : BoundLaws l n stands) (g : MonotoneLaws l n) (f : RangeLaws l n) (ends : EndLaws l n) (flow : Flow) (list : List ℤ) (near : IsNearList l n list) (laid : IsLaidOut (program_bases (length flow.bases.items)) flow) where
  abbrev reach : Reach I
  reach = reach_of l n list (length flow.bases.items)

  -- ---- what edges leave

  module _ (named : IsNamed flow) (rising : AreRising l n (program_bases (length flow.bases.items)) flow) where
    behind_fills : (number : ℕ) (x : Option (List (Cell I))) → IsLeftFilled x → IsLeftFilled (edge_behind l n flow number x)
    behind_fills number None j = tt
    behind_fills number (Some x) j = edge_fills l n (program_bases (length flow.bases.items)) flow rising number x j

    end_fills : (block number : ℕ) (row : List (Cell I)) → AreFilled row → IsLeftFilled (edge_end l n flow block number row)
    unfolding edge_end
    end_fills block number row j = behind_fills number (block_end l n flow block row) (block_fills l n (program_bases (length flow.bases.items)) flow rising block row j)

    left_row : (x : Option (List (Cell I))) (s : List (Cell I)) → x ≡ Some s → LeftRise l n (top_row n (program_bases (length flow.bases.items)) flow.bases.items flow.temps) x x → IsLeftFilled x → IsProgramRow l n flow s
    left_row None s e j filled = absurd (cc)
    left_row (Some x) s e j filled = subst (IsProgramRow l n flow) (same x s e) (record { below = j.below.large; even = j.even; filled = filled })
      where
        same : (x s : List (Cell I)) → Some x ≡ Some s → x ≡ s
        same x s e = cc

    pub leaves_program : (block number : ℕ) (row s : List (Cell I)) → is_own_row l n list flow.bases.items flow.width row ≡ true → edge_end l n flow block number row ≡ Some s → IsProgramRow l n flow s
    leaves_program block number row s own e =
        left_row (edge_end l n flow block number row) s e
        (end_rises o k h b g f ends flow list near laid named rising block number row row (own_rise o k h b g f ends flow list near laid row row own own (row_leq-refl (cell_lattice l) (cell_order o) row)))
        (end_fills block number row (cells_filled o h b ends list near reach near.counts laid.words (all_kinds flow.bases.items) row (own_cells o k h b ends list flow.bases.items flow.width row own)))

  -- ---- rows whose numbers lie between the ends of the list

  counts_within : l.within list (n.between (pos 0) the_end) ≡ true
  counts_within = ends.ends_within list (n.between (pos 0) the_end) (pos 0) the_end (b.between_bounds (pos 0) the_end (omega (arith, ints))) (record { lower = any_below list near.least (pos 0) near.zero near.ends.lower; upper = near.ends.upper })

  count_within : (x : I) → l.leq x reach.counts ≡ true → l.within list x ≡ true
  count_within x e = ends.smaller_within list x reach.counts e (h.round_within list (n.between (pos 0) the_end) counts_within)

  count_reach : (x : I) → l.leq x (n.between (pos 0) the_end) ≡ true → l.leq x reach.counts ≡ true
  count_reach x e = o.transitive x (n.between (pos 0) the_end) reach.counts e (k.rises list (n.between (pos 0) the_end))

  value_own : (v : values.Value I) → (value_lattice l).leq v (top_value n reach.bases) ≡ true → IsConsistentCell n (Value v) → IsCutValue l list reach v → is_own_cell l n list reach kind.Value (Value v) ≡ true
  value_own v e even cut =
      let p = pointer_parts l v.pointer (top_value n reach.bases).pointer (value_parts l v (top_value n reach.bases) e).pointer in
      let few = within_few list v.pointer.bases reach.bases p.bases (below_within list (min (length flow.bases.items) 1016)) in
      and_from _ _
      (and_from _ _ cut.num (and_from _ _ (and_from _ _ few (and_from _ _ (count_within v.pointer.lo cut.lo) (and_from _ _ cut.rel (and_from _ _ (count_within v.pointer.len cut.len) refl)))) refl))
      (and_from _ _ p.bases (and_from _ _ even.1 (and_from _ _ cut.lo cut.len)))

  abbrev TopCell : CellKind → Cell I
  TopCell t = top_cell o h b ends list near reach near.counts laid.words t

  cell_own : (t : CellKind) (c : Cell I) → cell_leq l c (TopCell t) ≡ true → IsConsistentCell n c → IsFilled c → IsCutCell l list reach c → is_own_cell l n list reach t c ≡ true
  cell_own kind.Value (Value v) e even filled cut = value_own v e even cut
  cell_own kind.First (First z) e even filled cut = let c = count_reach z.at e in and_from _ _ (count_within z.at c) c
  cell_own kind.State (State s) e even filled cut =
      let p = and_parts (l.leq s.size (n.between (pos 0) the_end)) _ e in
      let c = count_reach s.size p.0 in
      and_from _ _ (and_from _ _ (count_within s.size c) refl) c
  cell_own t Nothing e even filled cut = absurd filled
  cell_own kind.Value (First z) e even filled cut = absurd (cc)
  cell_own kind.Value (State s) e even filled cut = absurd (cc)
  cell_own kind.Value Mixed e even filled cut = absurd (cc)
  cell_own kind.First (Value v) e even filled cut = absurd (cc)
  cell_own kind.First (State s) e even filled cut = absurd (cc)
  cell_own kind.First Mixed e even filled cut = absurd (cc)
  cell_own kind.State (Value v) e even filled cut = absurd (cc)
  cell_own kind.State (First z) e even filled cut = absurd (cc)
  cell_own kind.State Mixed e even filled cut = absurd (cc)

  kept : (t : CellKind) (c : Cell I) → is_own_cell l n list reach t c ≡ true → cell_fit l n list reach t c ≡ c
  unfolding cell_fit
  kept t c e = cond-true (is_own_cell l n list reach t c) c (cell_made l n list reach t c) e

  all_kept : (ts : List CellKind) (cs : List (Cell I)) → row_leq (cell_lattice l) cs (top_cells o h b ends list near reach near.counts laid.words ts (length cs)) ≡ true → AreConsistent n cs → AreFilled cs → AreCut l list reach cs → cells_fit l n list reach ts cs ≡ cs
  all_kept ts [] e even filled cut = refl
  all_kept ts (c ∷ cs) e even filled cut =
      let p = and_parts (cell_leq l c (TopCell (first_kind ts))) _ e in
      let first : cell_fit l n list reach (first_kind ts) c ≡ c = kept (first_kind ts) c (cell_own (first_kind ts) c p.0 even.0 filled.0 cut.0) in
      let rest : cells_fit l n list reach (kinds_behind ts) cs ≡ cs = all_kept (kinds_behind ts) cs p.1 even.1 filled.1 cut.1 in
      λ i. first i ∷ rest i

  -- a row of the program whose numbers lie between the ends of the list is left as it is
  pub fit_kept : (row : List (Cell I)) → IsProgramRow l n flow row → AreCut l list reach row → row_fit l n list flow.bases.items flow.width row ≡ row
  unfolding row_fit
  fit_kept row p cut =
      let w = row_length n (program_bases (length flow.bases.items)) flow laid in
      let s = row_leq-length (cell_lattice l) row (top_row n (program_bases (length flow.bases.items)) flow.bases.items flow.temps) p.below in
      let wide : length row ≡ flow.width = omega arith in
      let e = laid.width in
      let m = laid.near in
      let top = row_top o h b ends list near reach near.counts laid.words flow.bases.items (length row) flow.temps (omega arith) (omega arith) in
      ap (cells_fit l n list reach (all_kinds flow.bases.items)) (all_cells flow.width row wide)
      ∙ all_kept (all_kinds flow.bases.items) row (subst (λ t. row_leq (cell_lattice l) row t ≡ true) (sym top) p.below) p.even p.filled cut
