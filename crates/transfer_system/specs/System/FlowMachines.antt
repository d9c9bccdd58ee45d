-- The system of a control-flow program: what a solver needs to know of it.
use Rattle.std.specs.Prelude.{ℕ, ℤ, Bool, false, List, length, replicate, Option, Some, None, is_some, slice_get, slice_index_or}
use Rattle.cc_base.specs.Lattices.{LatticeOf}
use Rattle.cc_base.specs.IntegerDomains.{IntegersOf}
use Rattle.cc_base.specs.Machine.{Machine}
use Rattle.cfg.specs.declared.programs.Flow.{Flow}
use Rattle.cfg.specs.declared.basic_blocks.BasicBlock.{BasicBlock}
use Rattle.cfg.specs.declared.flow_edges.Edge.{Edge}
use Rattle.cfg.specs.declared.flow_edges.EdgeKind.TheVariants.{Jump}
use Rattle.value_domain.specs.declared.values.row_cells.Cell.{Cell}
use Rattle.value_domain.specs.declared.values.row_cells.Cell.TheVariants.{Nothing}
use Rattle.transfer_edges.specs.StartRows.{start_row}
use Rattle.transfer_system.specs.BoundedRows.OwnRows.{is_own_row}
use Rattle.transfer_system.specs.BoundedRows.FittedRows.{row_fit, reached_fit}
use Rattle.transfer_system.specs.BoundedRows.BaseRooms.{spare_bases}
use Rattle.transfer_system.specs.BoundedRows.CellKinds.{all_kinds}
use Rattle.transfer_system.specs.BoundedRows.RowRooms.{row_room, row_height}
use Rattle.transfer_system.specs.System.BlockPasses.{edge_end}

abbrev pub no_edge : Edge
no_edge = record { from = 0; to = 0; kind = Jump }

abbrev pub edge_at : List Edge → ℕ → Edge
edge_at edges number = slice_index_or edges number no_edge

abbrev pub head_in : Option BasicBlock → Bool
head_in None = false
head_in (Some block) = block.is_head

abbrev pub is_head_at : List BasicBlock → ℕ → Bool
is_head_at blocks number = head_in (slice_get blocks number)

module _ {I : Type 0} where
  -- whether the static initializers have their places
  abbrev pub has_start : LatticeOf I → IntegersOf I → Flow → Bool
  has_start l n flow = is_some (start_row l n flow (replicate flow.width Nothing))

  -- where they have none there is no such row: who analyses the program asks for it first
  abbrev pub known_start : ℕ → Option (List (Cell I)) → List (Cell I)
  known_start width None = replicate width Nothing
  known_start width (Some row) = row

  -- the row of the entry
  unfoldable pub start_of : LatticeOf I → IntegersOf I → Flow → List ℤ → List (Cell I)
  start_of l n flow list = row_fit l n list flow.bases.items flow.width (known_start flow.width (start_row l n flow (replicate flow.width Nothing)))

  -- what an edge makes of the row of the block that it leaves
  unfoldable pub through : LatticeOf I → IntegersOf I → Flow → List ℤ → ℕ → List (Cell I) → Option (List (Cell I))
  through l n flow list number row = reached_fit l n list flow.bases.items flow.width (edge_end l n flow (edge_at flow.edges.items number).from number row)

  abbrev pub flow_machine : LatticeOf I → IntegersOf I → Flow → List ℤ → Machine (Cell I)
  flow_machine l n flow list = record {
    blocks = length flow.blocks.items;
    width = flow.width;
    edges = length flow.edges.items;
    source = λ number. (edge_at flow.edges.items number).from;
    target = λ number. (edge_at flow.edges.items number).to;
    head = is_head_at flow.blocks.items;
    start = start_of l n flow list;
    through = through l n flow list;
    own = is_own_row l n list flow.bases.items flow.width;
    attained = is_own_row l n list flow.bases.items flow.width;
    list = list;
    room = row_room l list (spare_bases (length flow.bases.items)) (all_kinds flow.bases.items) flow.width;
    height = row_height l (length list) (spare_bases (length flow.bases.items)) (all_kinds flow.bases.items) flow.width;
  }
