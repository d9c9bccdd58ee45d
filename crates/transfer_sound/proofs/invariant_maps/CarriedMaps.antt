-- An inductive map is carried along edges: what comes along an edge is at or below the row of the block that the edge enters.
use Rattle.std.specs.Prelude.{◌≡◌, ℕ, ℤ, true, Option, Some, None, List, length, slice_get}
use Rattle.std.proofs.Common.{sym, subst, ap, ◌∙◌}
use Rattle.cc_base.specs.Lattices.{LatticeOf, OrderLaws, RoundLaws, HeightLaws}
use Rattle.cc_base.specs.Rows.{row_leq, reached_leq}
use Rattle.cc_base.specs.RowLaws.{row_leq-refl}
use Rattle.cc_base.specs.InductiveMap.{IsInductive, IsOwn, row_at, step}
use Rattle.cc_base.specs.IntegerDomains.{IntegersOf, BoundLaws, RangeLaws}
use Rattle.cc_base.specs.IntegerLaws.{MonotoneLaws}
use Rattle.c_layout.specs.CheckedUnits.{UnitView}
use Rattle.cfg.specs.declared.flow_edges.Edge.{Edge}
use Rattle.cfg.specs.declared.programs.Flow.{Flow}
use Rattle.value_domain.specs.declared.values.row_cells.Cell.{Cell}
use Rattle.value_domain.specs.Values.Cells.{cell_lattice, cell_order}
use Rattle.store_monotone.specs.Operations.TopRows.{top_row}
use Rattle.transfer_system.specs.BoundedRows.EndLaws.{EndLaws}
use Rattle.transfer_system.specs.BoundedRows.OwnRows.{program_bases, is_own_row}
use Rattle.transfer_system.specs.System.BlockPasses.{edge_end}
use Rattle.transfer_system.specs.System.FlowMachines.{edge_at, start_of, through, flow_machine}
use Rattle.row_bounds.specs.LaidOut.{IsLaidOut}
use Rattle.row_bounds.specs.ProgramLaws.{IsNamed, AreRising}
use Rattle.transfer_system.specs.BoundedRows.NearLists.{IsNearList}
use Rattle.row_bounds.proofs.Systems.{own_rise}
use Rattle.row_bounds.specs.Edges.OwnLists.{ReachesTypes}
use Rattle.row_bounds.proofs.edges.OwnEdges.{fit_nothing}
use Rattle.transfer_sound.specs.Induction.Covering.{Begins, Carries}
use Rattle.transfer_sound.specs.InvariantMaps.CarriedMaps.{EntryInGamma}
use Rattle.transfer_sound.proofs.invariant_maps.EdgeEnds.{IsLeftUnmixed, larger_behind, edge_there, EdgesCarry, carried_by}
use Rattle.transfer_sound.proofs.invariant_maps.UnmixedRows.{below_unmixed}

module _ {I : Type 0} {l : LatticeOf I} {n : IntegersOf I} {gamma : I → ℤ → Type 0} (o : OrderLaws l) (k : RoundLaws l) (h : HeightLaws l) (b : BoundLaws l n gamma) (g : MonotoneLaws l n) (f : RangeLaws l n) (ends : EndLaws l n) (flow : Flow) (list : List ℤ) (near : IsNearList l n list) (reaches : ReachesTypes list) (laid : IsLaidOut (program_bases (length flow.bases.items)) flow) where
  module _ (named : IsNamed flow) (rising : AreRising l n (program_bases (length flow.bases.items)) flow) (rows : List (Option (List (Cell I)))) (closed : IsInductive (cell_lattice l) (flow_machine l n flow list) rows) where
    top_large : (y : List (Cell I)) → is_own_row l n list flow.bases.items flow.width y ≡ true → row_leq (cell_lattice l) y (top_row n (program_bases (length flow.bases.items)) flow.bases.items flow.temps) ≡ true
    top_large y own = (own_rise o k h b g f ends flow list near laid y y own own (row_leq-refl (cell_lattice l) (cell_order o) y)).below.large

    own_unmixed : (y : Option (List (Cell I))) → IsOwn (flow_machine l n flow list) y → IsLeftUnmixed y
    own_unmixed None own = tt
    own_unmixed (Some y) own = below_unmixed l n (program_bases (length flow.bases.items)) flow.bases.items flow.temps y (top_large y own)

    left_below : (number : ℕ) (e : Edge) (r x : List (Cell I)) → slice_get flow.edges.items number ≡ Some e → row_at rows e.from ≡ Some r → edge_end l n flow e.from number r ≡ Some x → reached_leq (cell_lattice l) (Some x) (row_at rows e.to) ≡ true
    unfolding through
    left_below number e r x there at left =
        let p = edge_there flow.edges.items number e there in
        let own : is_own_row l n list flow.bases.items flow.width r ≡ true = subst (IsOwn (flow_machine l n flow list)) at (closed.own e.from) in
        let same : edge_end l n flow (edge_at flow.edges.items number).from number r ≡ Some x = subst (λ d. edge_end l n flow d.from number r ≡ Some x) (sym p.1) left in
        let made : through l n flow list number r ≡ Some x = fit_nothing o k h b g f ends flow list near reaches laid named rising number r own ∙ same in
        let q = closed.edge number p.0 in
        subst (λ d. reached_leq (cell_lattice l) (Some x) (row_at rows d.to) ≡ true) p.1
        (subst (λ y. reached_leq (cell_lattice l) y (row_at rows (edge_at flow.edges.items number).to) ≡ true) made
        (subst (λ z. reached_leq (cell_lattice l) (step (flow_machine l n flow list) number z) (row_at rows (edge_at flow.edges.items number).to) ≡ true) (ap (λ d. row_at rows d.from) p.1 ∙ at) q))

    edges_carry : EdgesCarry l n flow gamma rows
    edges_carry number e r x s there at left behind = larger_behind o b flow s x (row_at rows e.to) behind (left_below number e r x there at left) (own_unmixed (row_at rows e.to) (closed.own e.to))

    pub map_carried : Carries l n gamma flow rows
    map_carried = carried_by l n flow gamma rows edges_carry

    pub map_begins : (u : UnitView) → EntryInGamma l n gamma flow list u → Begins l n gamma flow u rows
    map_begins u start draws s e = larger_behind o b flow s (start_of l n flow list) (row_at rows 0) (start draws s e) closed.entry (own_unmixed (row_at rows 0) (closed.own 0))
