use Rattle.std.proofs.Common.{◌≡◌, drop, length}
use Rattle.cfg.specs.WellFormed.{names_of}
use Rattle.cfg_checks.specs.NumberedBlocks.{are_marked_blocks}
use Rattle.cfg_checks.proofs.numbered_blocks.are_marked.Given as goal

abbrev pub invariant-loop-at : goal.invariant-loop-at
invariant-loop-at l = are_marked_blocks (names_of l.flow) (length l.flow.blocks.items) l.marks l.at l.first (drop l.at l.flow.blocks.items) l.rest ≡ are_marked_blocks (names_of l.flow) (length l.flow.blocks.items) l.marks 0 0 l.flow.blocks.items l.flow.edges.items
