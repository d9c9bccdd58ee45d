-- A closed map of the system whose bounds lie from -2^64 to 2^64 begins with each run and is carried along edges.
use Rattle.std.proofs.Common.{◌≡◌, ◌-◌, ◌^◌, ◌≤◌, ℕ, true, Option, Some, None, List, [], ◌∷◌, length, replicate, slice_get, refl, sym, subst, ap, ◌∙◌}
use Rattle.std.specs.Prelude.{ℤ, pos, negsuc}
use Rattle.std.proofs.lemmas.Bool.{and_parts}
use Rattle.cc_base.specs.ClosedMap.{IsClosed}
use Rattle.cc_base.specs.Lattices.{LatticeOf, OrderLaws, RoundLaws, HeightLaws}
use Rattle.cc_base.specs.Rows.{reached_leq}
use Rattle.cc_base.specs.InductiveMap.{IsOwn, row_at, step}
use Rattle.cc_base.specs.IntegerDomains.{IntegersOf, BoundLaws}
use Rattle.c_layout.specs.CheckedUnits.{UnitView}
use Rattle.cfg.specs.declared.flow_edges.Edge.{Edge}
use Rattle.cfg.specs.declared.programs.Flow.{Flow}
use Rattle.value_domain.specs.declared.values.row_cells.Cell.{Cell}
use Rattle.value_domain.specs.declared.values.row_cells.Cell.TheVariants.{Nothing, Value, First, State, Mixed}
use Rattle.value_domain.specs.Values.Cells.{cell_lattice}
use Rattle.store_objects.specs.LiveBases.{most_bases}
use Rattle.store_sound.specs.Concretization.Coverage.{state_of}
use Rattle.store_sound.specs.Concretization.RowMeaning.{InGamma}
use Rattle.semantics.specs.CfgMachine.FlowStates.{ProgramState}
use Rattle.transfer_edges.specs.StartRows.{start_row}
use Rattle.transfer_system.specs.declared.bounded_rows.cell_kinds.CellKind.{CellKind}
use Rattle.transfer_system.specs.declared.bounded_rows.cell_kinds.CellKind.TheVariants as kind
use Rattle.transfer_system.specs.declared.bounded_rows.own_cells.Reach.{Reach}
use Rattle.transfer_system.specs.BoundedRows.CellKinds.{all_kinds, first_kind, kinds_behind}
use Rattle.transfer_system.specs.BoundedRows.EndLaws.{EndLaws}
use Rattle.transfer_system.specs.BoundedRows.FittedRows.{list_ends, row_fit, reached_fit}
use Rattle.transfer_system.specs.BoundedRows.OwnLaws.{own_length, own_cells, fit_own}
use Rattle.transfer_system.specs.BoundedRows.OwnRows.{program_bases, reach_of, is_own_cell, are_own_cells}
use Rattle.transfer_system.specs.System.BlockPasses.{edge_end}
use Rattle.transfer_system.specs.System.FlowMachines.{edge_at, known_start, start_of, through, flow_machine}
use Rattle.transfer_monotone.specs.Values.LaidOut.{IsLaidOut}
use Rattle.transfer_sound.specs.Values.SoundSteps.{InGammaAfter}
use Rattle.transfer_sound.specs.Induction.Covering.{Begins, Carries}
use Rattle.transfer_sound.specs.InvariantMaps.CarriedMaps.{IsUnmixed, AreUnmixed, EntryInGamma}
use Rattle.transfer_sound.proofs.invariant_maps.EdgeEnds.{IsLeftUnmixed, larger_behind, edge_there, EdgesCarry, carried_by}
use Rattle.certificate_theorems.proofs.sound.FittedRows.{fitted_stands}

module _ {I : Type 0} (l : LatticeOf I) (n : IntegersOf I) (list : List ℤ) (r : Reach I) where
  cell_unmixed : (t : CellKind) (c : Cell I) → is_own_cell l n list r t c ≡ true → IsUnmixed c
  cell_unmixed t Nothing e = tt
  cell_unmixed t (Value v) e = tt
  cell_unmixed t (First f) e = tt
  cell_unmixed t (State s) e = tt
  cell_unmixed kind.Value Mixed e = cc
  cell_unmixed kind.First Mixed e = cc
  cell_unmixed kind.State Mixed e = cc

  cells_unmixed : (ts : List CellKind) (cs : List (Cell I)) → are_own_cells l n list r ts cs ≡ true → AreUnmixed cs
  cells_unmixed ts [] e = tt
  cells_unmixed ts (c ∷ cs) e = let p = and_parts (is_own_cell l n list r (first_kind ts) c) (are_own_cells l n list r (kinds_behind ts) cs) e in (cell_unmixed (first_kind ts) c p.0, cells_unmixed (kinds_behind ts) cs p.1)

module _ {I : Type 0} {l : LatticeOf I} {n : IntegersOf I} {gamma : I → ℤ → Type 0} (o : OrderLaws l) (k : RoundLaws l) (h : HeightLaws l) (b : BoundLaws l n gamma) (ends : EndLaws l n)
    (list : List ℤ) (wide : list_ends list ≡ Some (negsuc (2 ^ 64 - 1), pos (2 ^ 64))) (flow : Flow) (laid : IsLaidOut (program_bases (length flow.bases.items)) flow) (few : length flow.bases.items ≤ most_bases) where
  -- what is fitted stands for the state for which the row that came does
  fitted_behind : (s : ProgramState) (x : List (Cell I)) → InGammaAfter l n gamma flow (Some x) s → InGammaAfter l n gamma flow (Some (row_fit l n list flow.bases.items flow.width x)) s
  fitted_behind s x behind =
      let same : behind.row ≡ x = (let i = behind.is in cc) in
      record {
        row = row_fit l n list flow.bases.items flow.width x;
        is = refl;
        long = own_length o k h b ends list flow.bases.items flow.width (row_fit l n list flow.bases.items flow.width x) (fit_own o k h b ends list flow.bases.items flow.width x);
        naming = behind.naming;
        stands_for = fitted_stands b list wide flow laid few x (sym (ap length same) ∙ behind.long) behind.naming (state_of s) (subst (λ z. InGamma l n gamma flow behind.naming z (state_of s)) same behind.stands_for);
        short = behind.short;
      }

  module _ (rows : List (Option (List (Cell I)))) (closed : IsClosed (cell_lattice l) (flow_machine l n flow list) rows) where
    own_unmixed : (y : Option (List (Cell I))) → IsOwn (flow_machine l n flow list) y → IsLeftUnmixed y
    own_unmixed None own = tt
    own_unmixed (Some y) own = cells_unmixed l n list (reach_of l n list (length flow.bases.items)) (all_kinds flow.bases.items) y (own_cells o k h b ends list flow.bases.items flow.width y own)

    entered : (block : ℕ) (s : ProgramState) (x : List (Cell I)) → InGammaAfter l n gamma flow (Some x) s → reached_leq (cell_lattice l) (Some (row_fit l n list flow.bases.items flow.width x)) (row_at rows block) ≡ true → InGammaAfter l n gamma flow (row_at rows block) s
    entered block s x behind e = larger_behind o b flow s (row_fit l n list flow.bases.items flow.width x) (row_at rows block) (fitted_behind s x behind) e (own_unmixed (row_at rows block) (closed.own block))

    left_below : (number : ℕ) (e : Edge) (r x : List (Cell I)) → slice_get flow.edges.items number ≡ Some e → row_at rows e.from ≡ Some r → edge_end l n flow e.from number r ≡ Some x
        → reached_leq (cell_lattice l) (Some (row_fit l n list flow.bases.items flow.width x)) (row_at rows e.to) ≡ true
    unfolding through
    left_below number e r x there at left =
        let p = edge_there flow.edges.items number e there in
        let same : edge_end l n flow (edge_at flow.edges.items number).from number r ≡ Some x = subst (λ d. edge_end l n flow d.from number r ≡ Some x) (sym p.1) left in
        let made : through l n flow list number r ≡ Some (row_fit l n list flow.bases.items flow.width x) = ap (reached_fit l n list flow.bases.items flow.width) same in
        let q = closed.edge number p.0 in
        subst (λ d. reached_leq (cell_lattice l) (Some (row_fit l n list flow.bases.items flow.width x)) (row_at rows d.to) ≡ true) p.1
        (subst (λ y. reached_leq (cell_lattice l) y (row_at rows (edge_at flow.edges.items number).to) ≡ true) made
        (subst (λ z. reached_leq (cell_lattice l) (step (flow_machine l n flow list) number z) (row_at rows (edge_at flow.edges.items number).to) ≡ true) (ap (λ d. row_at rows d.from) p.1 ∙ at) q))

    edges_carry : EdgesCarry l n flow gamma rows
    edges_carry number e r x s there at left behind = entered e.to s x behind (left_below number e r x there at left)

    pub certified_carried : Carries l n gamma flow rows
    certified_carried = carried_by l n flow gamma rows edges_carry

    -- where the start row is the row of another system's entry, and that stands for the start of each run
    pub certified_begins : (other : List ℤ) → start_row l n flow (replicate flow.width Nothing) ≡ Some (start_of l n flow other) → (u : UnitView) → EntryInGamma l n gamma flow other u → Begins l n gamma flow u rows
    unfolding start_of
    certified_begins other same u start draws s e =
        entered 0 s (start_of l n flow other) (start draws s e)
        (subst (λ z. reached_leq (cell_lattice l) (Some (row_fit l n list flow.bases.items flow.width (known_start flow.width z))) (row_at rows 0) ≡ true) same closed.entry)
