-- The system of a program is monotone.
use Rattle.std.specs.Prelude.{◌≡◌, ℕ, suc, ℤ, true, Option, Some, None, List, [], ◌∷◌, length, slice_get, refl}
use Rattle.std.proofs.Common.{arith, sym, subst, subst₂, ap}
use Rattle.cc_base.specs.Lattices.{LatticeOf, OrderLaws, RoundLaws, HeightLaws}
use Rattle.cc_base.specs.Machine.{IsMonotone}
use Rattle.cc_base.specs.Rows.{row_leq, reached_leq}
use Rattle.cc_base.specs.RowLaws.{row_leq-length}
use Rattle.cc_base.specs.IntegerDomains.{IntegersOf, BoundLaws, RangeLaws}
use Rattle.cc_base.specs.IntegerLaws.{MonotoneLaws}
use Rattle.cfg.specs.declared.programs.Flow.{Flow}
use Rattle.cfg.specs.declared.basic_blocks.BasicBlock.{BasicBlock}
use Rattle.cfg.specs.declared.machine_instructions.Instruction.{Instruction}
use Rattle.cfg.specs.WellFormed.{names_of, fits_operation}
use Rattle.value_domain.specs.declared.values.row_cells.Cell.{Cell}
use Rattle.value_domain.specs.Values.Cells.{cell_lattice}
use Rattle.store_monotone.specs.Operations.TopRows.{top_row}
use Rattle.transfer_system.specs.Steps.{operate}
use Rattle.transfer_system.specs.BoundedRows.CellKinds.{all_kinds}
use Rattle.transfer_system.specs.BoundedRows.EndLaws.{EndLaws}
use Rattle.transfer_system.specs.BoundedRows.OwnRows.{program_bases, reach_of, is_own_row}
use Rattle.transfer_system.specs.BoundedRows.OwnLaws.{own_length, own_cells}
use Rattle.transfer_system.specs.BoundedRows.FittedRows.{cells_fit, row_fit, reached_fit, all_cells}
use Rattle.transfer_system.specs.System.BlockPasses.{instructions_in, instructions_of, row_behind, rows_behind, block_end, edge_behind, edge_end}
use Rattle.transfer_system.specs.System.FlowMachines.{edge_at, through, flow_machine}
use Rattle.transfer_monotone.specs.Values.RisingRows.{LeftRise}
use Rattle.transfer_monotone.specs.Values.LaidOut.{IsLaidOut}
use Rattle.transfer_monotone.specs.Values.StepLaws.{FlowRows, Rises}
use Rattle.transfer_monotone.proofs.values.TempPlaces.{row_length}
use Rattle.transfer_monotone.specs.Edges.ProgramLaws.{HasBytes, IsNamed, IsRising, AreRising}
use Rattle.transfer_monotone.specs.Edges.FilledRows.{AreFilled, IsLeftFilled, LeavesFilled}
use Rattle.transfer_system.specs.BoundedRows.NearLists.{IsNearList}
use Rattle.transfer_monotone.proofs.edges.Operations.{operate_rises}
use Rattle.transfer_monotone.proofs.edges.Edges.{edge_rises}
use Rattle.transfer_monotone.proofs.edges.FilledProgram.{block_fills, edge_fills}
use Rattle.transfer_monotone.proofs.edges.FittedOrder.{top_cells, cells_top, cells_even, cells_filled, fits_rise, row_top}

module _ {I : Type 0} {l : LatticeOf I} {n : IntegersOf I} {stands : I → ℤ → Type 0} (o : OrderLaws l) (k : RoundLaws l) (h : HeightLaws l) (b : BoundLaws l n stands) (g : MonotoneLaws l n) (f : RangeLaws l n) (ends : EndLaws l n) (flow : Flow) (list : List ℤ) (near : IsNearList l n list) (laid : IsLaidOut (program_bases (length flow.bases.items)) flow) where
  abbrev IsOwn : List (Cell I) → Type 0
  IsOwn row = is_own_row l n list flow.bases.items flow.width row ≡ true

  -- the greatest cells of the program's kinds are the greatest row
  kinds_top : (width : ℕ) → width ≡ flow.width → top_cells o h b ends list near (reach_of l n list (length flow.bases.items)) near.counts laid.words (all_kinds flow.bases.items) width ≡ top_row n (program_bases (length flow.bases.items)) flow.bases.items flow.temps
  kinds_top width e =
      let w = laid.width in
      let m = laid.near in
      row_top o h b ends list near (reach_of l n list (length flow.bases.items)) near.counts laid.words flow.bases.items width flow.temps (omega arith) (omega arith)

  pub own_rise : (r s : List (Cell I)) → IsOwn r → IsOwn s → row_leq (cell_lattice l) r s ≡ true → FlowRows l n (program_bases (length flow.bases.items)) flow r s
  own_rise r s p q e =
      let cells = own_cells o k h b ends list flow.bases.items flow.width s q in
      record {
        below = record {
          small = e;
          large = subst (λ t. row_leq (cell_lattice l) s t ≡ true) (kinds_top (length s) (own_length o k h b ends list flow.bases.items flow.width s q)) (cells_top o h b ends list near (reach_of l n list (length flow.bases.items)) near.counts laid.words (all_kinds flow.bases.items) s cells);
        };
        even = cells_even o h b ends list near (reach_of l n list (length flow.bases.items)) near.counts laid.words (all_kinds flow.bases.items) r (own_cells o k h b ends list flow.bases.items flow.width r p);
      }

  own_filled : (r : List (Cell I)) → IsOwn r → AreFilled r
  own_filled r p = cells_filled o h b ends list near (reach_of l n list (length flow.bases.items)) near.counts laid.words (all_kinds flow.bases.items) r (own_cells o k h b ends list flow.bases.items flow.width r p)

  module _ (named : IsNamed flow) (rising : AreRising l n (program_bases (length flow.bases.items)) flow) where
    -- ---- blocks

    rows_rise : (is : List Instruction) → ((at : ℕ) (i : Instruction) → slice_get is at ≡ Some i → (fits_operation (names_of flow) i.operation ≡ true) × HasBytes i.operation × IsRising l n (program_bases (length flow.bases.items)) flow i.operation) → (x y : Option (List (Cell I))) → LeftRise l n (top_row n (program_bases (length flow.bases.items)) flow.bases.items flow.temps) x y
        → LeftRise l n (top_row n (program_bases (length flow.bases.items)) flow.bases.items flow.temps) (rows_behind l n flow x is) (rows_behind l n flow y is)
    rows_rise [] e x y j = j
    rows_rise (i ∷ is) e None y j = rows_rise is (λ at d q. e (suc at) d q) None (row_behind l n flow i y) tt
    rows_rise (i ∷ is) e (Some x) None j = absurd j
    rows_rise (i ∷ is) e (Some x) (Some y) j =
        let c = e 0 i refl in
        rows_rise is (λ at d q. e (suc at) d q) (operate l n flow x i.operation) (operate l n flow y i.operation) (operate_rises o b g f (program_bases (length flow.bases.items)) flow laid i.operation c.0 c.1 c.2 x y j)

    block_named : (block : ℕ) (found : Option BasicBlock) → slice_get flow.blocks.items block ≡ found → (at : ℕ) (i : Instruction) → slice_get (instructions_in found) at ≡ Some i → (fits_operation (names_of flow) i.operation ≡ true) × HasBytes i.operation × IsRising l n (program_bases (length flow.bases.items)) flow i.operation
    block_named block None e at i q = absurd (cc)
    block_named block (Some c) e at i q = let d = named.instructions block at c i e q in (d.0, d.1, rising.instructions block at c i e q)

    block_rises : (block : ℕ) → Rises l n (program_bases (length flow.bases.items)) flow (λ row. block_end l n flow block row)
    unfolding block_end
    block_rises block r s j = rows_rise (instructions_of flow block) (block_named block (slice_get flow.blocks.items block) refl) (Some r) (Some s) j

    -- ---- edges

    behind_rises : (number : ℕ) (x y : Option (List (Cell I))) → LeftRise l n (top_row n (program_bases (length flow.bases.items)) flow.bases.items flow.temps) x y → LeftRise l n (top_row n (program_bases (length flow.bases.items)) flow.bases.items flow.temps) (edge_behind l n flow number x) (edge_behind l n flow number y)
    behind_rises number None y j = tt
    behind_rises number (Some x) None j = absurd j
    behind_rises number (Some x) (Some y) j = edge_rises o b g f (program_bases (length flow.bases.items)) flow laid named rising number x y j

    pub end_rises : (block number : ℕ) → Rises l n (program_bases (length flow.bases.items)) flow (λ row. edge_end l n flow block number row)
    unfolding edge_end
    end_rises block number r s j = behind_rises number (block_end l n flow block r) (block_end l n flow block s) (block_rises block r s j)

    -- ---- rows made own ones

    behind_fills : (number : ℕ) (x : Option (List (Cell I))) → IsLeftFilled x → IsLeftFilled (edge_behind l n flow number x)
    behind_fills number None j = tt
    behind_fills number (Some x) j = edge_fills l n (program_bases (length flow.bases.items)) flow rising number x j

    end_fills : (block number : ℕ) → LeavesFilled (λ row. edge_end l n flow block number row)
    unfolding edge_end
    end_fills block number row j = behind_fills number (block_end l n flow block row) (block_fills l n (program_bases (length flow.bases.items)) flow rising block row j)

    fit_is : (row : List (Cell I)) → length row ≡ flow.width → row_fit l n list flow.bases.items flow.width row ≡ cells_fit l n list (reach_of l n list (length flow.bases.items)) (all_kinds flow.bases.items) row
    unfolding row_fit
    fit_is row e = ap (cells_fit l n list (reach_of l n list (length flow.bases.items)) (all_kinds flow.bases.items)) (all_cells flow.width row e)

    fitted_rise : (x y : List (Cell I)) → FlowRows l n (program_bases (length flow.bases.items)) flow x y → AreFilled x → row_leq (cell_lattice l) (row_fit l n list flow.bases.items flow.width x) (row_fit l n list flow.bases.items flow.width y) ≡ true
    fitted_rise x y j filled =
        let a = row_leq-length (cell_lattice l) x y j.below.small in
        let c = row_leq-length (cell_lattice l) y (top_row n (program_bases (length flow.bases.items)) flow.bases.items flow.temps) j.below.large in
        let w = row_length n (program_bases (length flow.bases.items)) flow laid in
        subst₂ (λ u v. row_leq (cell_lattice l) u v ≡ true) (sym (fit_is x (omega arith))) (sym (fit_is y (omega arith)))
        (fits_rise o h b ends list near (reach_of l n list (length flow.bases.items)) near.counts laid.words (all_kinds flow.bases.items) x y filled j.below.small
        (subst (λ t. row_leq (cell_lattice l) y t ≡ true) (sym (kinds_top (length y) (omega arith))) j.below.large))

    reached_rise : (x y : Option (List (Cell I))) → LeftRise l n (top_row n (program_bases (length flow.bases.items)) flow.bases.items flow.temps) x y → IsLeftFilled x → reached_leq (cell_lattice l) (reached_fit l n list flow.bases.items flow.width x) (reached_fit l n list flow.bases.items flow.width y) ≡ true
    reached_rise None y j filled = refl
    reached_rise (Some x) None j filled = absurd j
    reached_rise (Some x) (Some y) j filled = fitted_rise x y j filled

    pub system_monotone : IsMonotone (cell_lattice l) (flow_machine l n flow list)
    unfolding through
    system_monotone e r s lt p q j = reached_rise (edge_end l n flow (edge_at flow.edges.items e).from e r) (edge_end l n flow (edge_at flow.edges.items e).from e s) (end_rises (edge_at flow.edges.items e).from e r s (own_rise r s p q j)) (end_fills (edge_at flow.edges.items e).from e r (own_filled r p))
