-- Edges leave own rows of own rows, so the fit changes nothing.
use Rattle.std.specs.Prelude.{◌≡◌, ◌↔◌, ℕ, ℤ, pos, true, Option, Some, None, List, length, refl}
use Rattle.std.proofs.Common.{arith, sym, subst, ap}
use Rattle.cc_base.specs.Lattices.{LatticeOf, OrderLaws, RoundLaws, HeightLaws}
use Rattle.cc_base.specs.InductiveMap as maps
use Rattle.cc_base.specs.InductiveMap.{row_at, step, IsInductive}
use Rattle.cc_base.specs.Rows.{row_leq, reached_leq}
use Rattle.cc_base.specs.RowLaws.{row_leq-length}
use Rattle.cc_base.specs.IntegerDomains.{IntegersOf, BoundLaws, RangeLaws}
use Rattle.cc_base.specs.IntegerLaws.{MonotoneLaws}
use Rattle.cfg.specs.declared.programs.Flow.{Flow}
use Rattle.value_domain.specs.Strings.FirstZeros.{the_end}
use Rattle.value_domain.specs.declared.values.row_cells.Cell.{Cell}
use Rattle.value_domain.specs.Values.Cells.{cell_lattice}
use Rattle.store_monotone.specs.Operations.TopRows.{top_row}
use Rattle.transfer_system.specs.declared.bounded_rows.own_cells.Reach.{Reach}
use Rattle.transfer_system.specs.BoundedRows.CellKinds.{all_kinds}
use Rattle.transfer_system.specs.BoundedRows.EndLaws.{EndLaws}
use Rattle.transfer_system.specs.BoundedRows.OwnRows.{program_bases, reach_of, is_own_row}
use Rattle.transfer_system.specs.BoundedRows.OwnLaws.{own_cells, fit_own}
use Rattle.transfer_system.specs.BoundedRows.FittedRows.{row_fit, reached_fit}
use Rattle.transfer_system.specs.System.BlockPasses.{edge_end}
use Rattle.transfer_system.specs.System.FlowMachines.{edge_at, through, flow_machine}
use Rattle.system_monotone.specs.LaidOut.{IsLaidOut}
use Rattle.system_monotone.proofs.TempPlaces.{row_length}
use Rattle.system_monotone.specs.ProgramLaws.{IsNamed, AreRising}
use Rattle.transfer_system.specs.BoundedRows.NearLists.{IsNearList}
use Rattle.system_monotone.proofs.FittedOrder.{row_top}
use Rattle.system_monotone.specs.Systems.ProgramRows.{IsProgramRow, AreCut}
use Rattle.system_monotone.proofs.systems.ProgramRows.{leaves_program, fit_kept}
use Rattle.row_bounds.specs.Stores.Floors.{AreFrom, IsLeftFrom}
use Rattle.row_bounds.proofs.stores.Ranges.{FloorLaws}
use Rattle.row_bounds.specs.Edges.OwnLists.{ReachesTypes}
use Rattle.row_bounds.specs.Steps.FittingPrograms.{IsFitting}
use Rattle.row_bounds.specs.Edges.PlainSystems.{plain_machine}
use Rattle.row_bounds.proofs.edges.Blocks.{end_keeps}
use Rattle.row_bounds.proofs.edges.OwnFloors.{least_low, own_from, all_cut}

module _ {I : Type 0} {l : LatticeOf I} {n : IntegersOf I} {stands : I → ℤ → Type 0} (o : OrderLaws l) (k : RoundLaws l) (h : HeightLaws l) (b : BoundLaws l n stands) (g : MonotoneLaws l n) (f : RangeLaws l n) (ends : EndLaws l n) (flow : Flow) (list : List ℤ) (near : IsNearList l n list) (reaches : ReachesTypes list) (laid : IsLaidOut (program_bases (length flow.bases.items)) flow) (named : IsNamed flow) (rising : AreRising l n (program_bases (length flow.bases.items)) flow) where
  abbrev reach : Reach I
  reach = reach_of l n list (length flow.bases.items)

  abbrev IsOwn : List (Cell I) → Type 0
  IsOwn row = is_own_row l n list flow.bases.items flow.width row ≡ true

  laws : FloorLaws l n stands near.least
  laws = record { order = o; bounds = b; ranges = f; low = least_low o h b ends list near reaches }

  fitting : IsFitting flow
  fitting = record { instructions = λ block at c i p q. (named.instructions block at c i p q).0; edges = λ number e p. (named.edges number e p).0 }

  row_from : (row : List (Cell I)) → IsOwn row → AreFrom n near.least row
  row_from row own = own_from o h b ends list near laws reach near.counts (all_kinds flow.bases.items) row (own_cells o k h b ends list flow.bases.items flow.width row own)

  left_from : (x : Option (List (Cell I))) (s : List (Cell I)) → x ≡ Some s → IsLeftFrom n near.least x → AreFrom n near.least s
  left_from None s e j = absurd (cc)
  left_from (Some x) s e j = subst (AreFrom n near.least) (same x s e) j
    where
      same : (x s : List (Cell I)) → Some x ≡ Some s → x ≡ s
      same x s e = cc

  -- a row of the program from the first number of the list on is cut by no end of the list
  cut_from : (row : List (Cell I)) → IsProgramRow l n flow row → AreFrom n near.least row → AreCut l list reach row
  cut_from row p j =
      let w = row_length n (program_bases (length flow.bases.items)) flow laid in
      let s = row_leq-length (cell_lattice l) row (top_row n (program_bases (length flow.bases.items)) flow.bases.items flow.temps) p.below in
      let wide : length row ≡ flow.width = omega arith in
      let e = laid.width in
      let m = laid.near in
      let top = row_top o h b ends list near reach near.counts laid.words flow.bases.items (length row) flow.temps (omega arith) (omega arith) in
      all_cut o h b ends list near reach near.counts (k.rises list (n.between (pos 0) the_end)) laid.words (all_kinds flow.bases.items) row (subst (λ t. row_leq (cell_lattice l) row t ≡ true) (sym top) p.below) j

  -- what an edge leaves of an own row, the fit leaves as it is
  left_kept : (block number : ℕ) (row s : List (Cell I)) → IsOwn row → edge_end l n flow block number row ≡ Some s → row_fit l n list flow.bases.items flow.width s ≡ s
  left_kept block number row s own e =
      let p = leaves_program o k h b g f ends flow list near laid named rising block number row s own e in
      fit_kept o k h b g f ends flow list near laid s p (cut_from s p (left_from (edge_end l n flow block number row) s e (end_keeps laws flow fitting block number row (row_from row own))))

  -- so it is an own row
  pub leaves_own : (block number : ℕ) (row s : List (Cell I)) → IsOwn row → edge_end l n flow block number row ≡ Some s → IsOwn s
  leaves_own block number row s own e = subst IsOwn (left_kept block number row s own e) (fit_own o k h b ends list flow.bases.items flow.width s)

  reached_kept : (x : Option (List (Cell I))) → ((s : List (Cell I)) → x ≡ Some s → row_fit l n list flow.bases.items flow.width s ≡ s) → reached_fit l n list flow.bases.items flow.width x ≡ x
  reached_kept None e = refl
  reached_kept (Some s) e = ap (λ row. Some row) (e s refl)

  -- the system's edges take own rows where the steps do
  pub fit_nothing : (number : ℕ) (row : List (Cell I)) → IsOwn row → through l n flow list number row ≡ edge_end l n flow (edge_at flow.edges.items number).from number row
  unfolding through
  fit_nothing number row own = reached_kept (edge_end l n flow (edge_at flow.edges.items number).from number row) (λ s e. left_kept (edge_at flow.edges.items number).from number row s own e)

  -- ---- maps

  same_step : (number : ℕ) (x : Option (List (Cell I))) → maps.IsOwn (flow_machine l n flow list) x → step (flow_machine l n flow list) number x ≡ step (plain_machine l n flow list) number x
  same_step number None own = refl
  same_step number (Some row) own = fit_nothing number row own

  -- the inductive maps are those of the system whose edges leave rows as the steps make them
  pub plain_inductive : (rows : List (Option (List (Cell I)))) → IsInductive (cell_lattice l) (flow_machine l n flow list) rows ↔ IsInductive (cell_lattice l) (plain_machine l n flow list) rows
  plain_inductive rows = (
    λ m. record { size = m.size; own = m.own; entry = m.entry; rounded = m.rounded; edge = λ number lt. subst (λ x. reached_leq (cell_lattice l) x (row_at rows (edge_at flow.edges.items number).to) ≡ true) (same_step number (row_at rows (edge_at flow.edges.items number).from) (m.own (edge_at flow.edges.items number).from)) (m.edge number lt) },
    λ m. record { size = m.size; own = m.own; entry = m.entry; rounded = m.rounded; edge = λ number lt. subst (λ x. reached_leq (cell_lattice l) x (row_at rows (edge_at flow.edges.items number).to) ≡ true) (sym (same_step number (row_at rows (edge_at flow.edges.items number).from) (m.own (edge_at flow.edges.items number).from))) (m.edge number lt) },
  )
