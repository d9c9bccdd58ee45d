-- Well-formed blocks, where it is told by a list of marks which ones edges go back to.
use Rattle.std.specs.Prelude.{ℕ, ◌+◌, Bool, ◌&&◌, ◌==◌, List, [], ◌∷◌, length, take, drop}
use Rattle.std.specs.List.{list_all}
use Rattle.cfg.specs.declared.basic_blocks.BasicBlock.{BasicBlock}
use Rattle.cfg.specs.declared.flow_edges.Edge.{Edge}
use Rattle.cfg.specs.WellFormed.{Names, fits_operation, is_body, On, all_leave}
use Rattle.cfg.specs.BaseShapes.{same_truth}
use Rattle.cfg_checks.specs.EnteredBlocks.{is_entered}

abbrev pub is_marked_block : Names → ℕ → Bool → ℕ → BasicBlock → List Edge → Bool
is_marked_block n blocks entered at b own =
    list_all (λ i. fits_operation n i.operation) b.instructions.items
    && (is_body On b.instructions.items own
    && ((length own == b.edges)
    && (all_leave blocks at own
    && same_truth b.is_head entered)))

-- the blocks from a number on, whose edges have the numbers from `first` on
abbrev pub are_marked_blocks : Names → ℕ → List Bool → ℕ → ℕ → List BasicBlock → List Edge → Bool
are_marked_blocks n blocks marks at first [] rest = length rest == 0
are_marked_blocks n blocks marks at first (b ∷ bs) rest =
    ((b.first_edge == first) && is_marked_block n blocks (is_entered marks at) at b (take b.edges rest))
    && are_marked_blocks n blocks marks (at + 1) (first + b.edges) bs (drop b.edges rest)
