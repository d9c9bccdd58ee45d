-- Programs with the same view have the same system.
use Rattle.std.specs.Prelude.{◌≡◌, ℕ, ℤ, Option, Some, None, List, option_map, length, slice_get, replicate, refl}
use Rattle.std.proofs.Common.{sym, ap, ap₂, ◌∙◌}
use Rattle.cc_base.specs.Lattices.{LatticeOf}
use Rattle.cc_base.specs.IntegerDomains.{IntegersOf}
use Rattle.cfg.specs.declared.programs.Flow.{Flow}
use Rattle.cfg.specs.declared.flow_edges.Edge.{Edge}
use Rattle.lower_templates.specs.Worklist.Acts.{step}
use Rattle.lower_templates.specs.Views.ProgramViews.{EdgeView, edge, flow_view}
use Rattle.value_domain.specs.declared.values.row_cells.Cell.{Cell}
use Rattle.value_domain.specs.declared.values.row_cells.Cell.TheVariants.{Nothing}
use Rattle.transfer_system.specs.StartRows.{start_row}
use Rattle.transfer_system.specs.Edges as edges
use Rattle.transfer_system.specs.BoundedRows.OwnRows.{is_own_row}
use Rattle.transfer_system.specs.BoundedRows.FittedRows.{row_fit, reached_fit}
use Rattle.transfer_system.specs.BoundedRows.BaseRooms.{spare_bases}
use Rattle.transfer_system.specs.BoundedRows.CellKinds.{all_kinds}
use Rattle.transfer_system.specs.BoundedRows.RowRooms.{row_room, row_height}
use Rattle.transfer_system.specs.System.BlockPasses.{instructions_of, block_end, edge_behind, edge_end}
use Rattle.transfer_system.specs.System.FlowMachines.{edge_at, known_start, start_of, through, flow_machine}
use Rattle.analysis_determined.specs.UnrolledDiagnostics.SameParts.{SameParts}
use Rattle.analysis_determined.proofs.unrolled_diagnostics.SameInstructions.{rows_same}
use Rattle.analysis_determined.proofs.unrolled_diagnostics.SameEdges.{follow_same}
use Rattle.analysis_determined.proofs.unrolled_diagnostics.SameStarts.{start_same}
use Rattle.analysis_determined.proofs.analysis_views.SameBlocks.{same_parts, block_count, steps_same, last_same, head_same, edge_count, edge_same, edge_view_same}

one_edge : (v w : EdgeView) → Some v ≡ Some w → v ≡ w
one_edge v w e = cc

module _ {I : Type 0} (l : LatticeOf I) (n : IntegersOf I) (f g : Flow) (h : flow_view f ≡ flow_view g) where
  abbrev same : SameParts f g
  same = same_parts f g h

  -- ---- rows behind blocks and edges

  block_end_same : (number : ℕ) (row : List (Cell I)) → block_end l n g number row ≡ block_end l n f number row
  unfolding block_end
  block_end_same number row = rows_same l n f g same (instructions_of f number) (instructions_of g number) (steps_same f g h number) (Some row)

  follow_one : (x y : Edge) → edge x ≡ edge y → (row : List (Cell I)) → edges.follow l n g row y.from y.kind ≡ edges.follow l n f row x.from x.kind
  follow_one x y e row =
      follow_same l n f g same row x.from y.from x.kind y.kind (ap (λ (v : EdgeView). v.taken) e)
      (last_same f g h x.from ∙ ap (λ z. option_map step (edges.last_instruction g z)) (ap (λ (v : EdgeView). v.from) e))

  follow_if_same : (x y : Option Edge) → option_map edge x ≡ option_map edge y → (row : List (Cell I)) → edges.follow_if l n g row y ≡ edges.follow_if l n f row x
  follow_if_same None None e row = refl
  follow_if_same None (Some y) e row = absurd (cc)
  follow_if_same (Some x) None e row = absurd (cc)
  follow_if_same (Some x) (Some y) e row = follow_one x y (one_edge (edge x) (edge y) e) row

  followed_same : (number : ℕ) (row : List (Cell I)) → edges.edge l n g row number ≡ edges.edge l n f row number
  unfolding edges.edge
  followed_same number row = follow_if_same (slice_get f.edges.items number) (slice_get g.edges.items number) (edge_same f g h number) row

  edge_behind_same : (number : ℕ) (x : Option (List (Cell I))) → edge_behind l n g number x ≡ edge_behind l n f number x
  edge_behind_same number None = refl
  edge_behind_same number (Some row) = followed_same number row

  source_same : (number : ℕ) → (edge_at f.edges.items number).from ≡ (edge_at g.edges.items number).from
  source_same number = ap (λ (v : EdgeView). v.from) (edge_view_same f g h number)

  target_same : (number : ℕ) → (edge_at f.edges.items number).to ≡ (edge_at g.edges.items number).to
  target_same number = ap (λ (v : EdgeView). v.to) (edge_view_same f g h number)

  edge_end_same : (number : ℕ) (row : List (Cell I)) → edge_end l n f (edge_at f.edges.items number).from number row ≡ edge_end l n g (edge_at g.edges.items number).from number row
  unfolding edge_end
  edge_end_same number row =
      ap (λ z. edge_behind l n f number (block_end l n f z row)) (source_same number)
      ∙ (ap (edge_behind l n f number) (sym (block_end_same (edge_at g.edges.items number).from row))
      ∙ sym (edge_behind_same number (block_end l n g (edge_at g.edges.items number).from row)))

  module _ (list : List ℤ) where
    through_same : (number : ℕ) (row : List (Cell I)) → through l n f list number row ≡ through l n g list number row
    unfolding through
    through_same number row =
        ap (reached_fit l n list f.bases.items f.width) (edge_end_same number row)
        ∙ ap₂ (λ bs w. reached_fit l n list bs w (edge_end l n g (edge_at g.edges.items number).from number row)) same.bases same.width

    -- ---- the start

    start_is : start_of l n f list ≡ start_of l n g list
    unfolding start_of
    start_is =
        ap (λ x. row_fit l n list f.bases.items f.width (known_start f.width x)) (sym (start_same l n f g same (replicate f.width Nothing)))
        ∙ ap₂ (λ bs w. row_fit l n list bs w (known_start w (start_row l n g (replicate w Nothing)))) same.bases same.width

    -- ---- the system

    pub system_same : flow_machine l n f list ≡ flow_machine l n g list
    system_same = λ i. record {
      blocks = block_count f g h i;
      width = same.width i;
      edges = edge_count f g h i;
      source = λ number. source_same number i;
      target = λ number. target_same number i;
      head = λ number. head_same f g h number i;
      start = start_is i;
      through = λ number row. through_same number row i;
      own = is_own_row l n list (same.bases i) (same.width i);
      attained = is_own_row l n list (same.bases i) (same.width i);
      list = list;
      room = row_room l list (spare_bases (length (same.bases i))) (all_kinds (same.bases i)) (same.width i);
      height = row_height l (length list) (spare_bases (length (same.bases i))) (all_kinds (same.bases i)) (same.width i);
    }
