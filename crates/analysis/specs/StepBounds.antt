-- How many edges the analysis of a program follows at most.
use Rattle.std.specs.Prelude.{ℕ, zero, suc, ◌+◌, ◌*◌, List, length}
use Rattle.cc_base.specs.InductiveMap.{heads_below}
use Rattle.cfg.specs.declared.programs.Flow.{Flow}
use Rattle.transfer_system.specs.declared.bounded_rows.cell_kinds.CellKind.{CellKind}
use Rattle.transfer_system.specs.declared.bounded_rows.cell_kinds.CellKind.TheVariants as kind
use Rattle.transfer_system.specs.BoundedRows.CellKinds.{all_kinds, first_kind, kinds_behind}
use Rattle.transfer_system.specs.System.FlowMachines.{is_head_at}

-- how often a cell of a kind can grow at one block, with so many numbers to which bounds are rounded and so many bases
abbrev pub growths : ℕ → ℕ → CellKind → ℕ
growths numbers bases kind.Value = 8 * numbers + bases + 16
growths numbers bases kind.First = 2 * numbers + 2
growths numbers bases kind.State = 2 * numbers + 4

-- the same of so many cells of these kinds
abbrev pub row_growths : ℕ → ℕ → List CellKind → ℕ → ℕ
row_growths numbers bases kinds zero = 0
row_growths numbers bases kinds (suc n) = growths numbers bases (first_kind kinds) + row_growths numbers bases (kinds_behind kinds) n

-- each edge is followed so often, with a list of so many numbers: rows change at heads alone
abbrev pub most_visits : Flow → ℕ → ℕ
most_visits flow numbers = heads_below (is_head_at flow.blocks.items) (length flow.blocks.items) * (row_growths numbers (length flow.bases.items) (all_kinds flow.bases.items) flow.width + 1) + 2

abbrev pub most_edges : Flow → ℕ → ℕ
most_edges flow numbers = length flow.edges.items * most_visits flow numbers
