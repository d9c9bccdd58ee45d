use Rattle.std.proofs.Common.{◌≡◌, drop}
use Rattle.store_cells.specs.Walks.{walk}
use Rattle.store.specs.LeafSelection.{covered_more}
use Rattle.store.proofs.leaf_selection.covered_bytes.Given as goal

abbrev pub invariant-loop-at : goal.invariant-loop-at
invariant-loop-at l = walk (covered_more l.model l.lo l.end) l.at (drop l.at l.leaves) l.covered ≡ walk (covered_more l.model l.lo l.end) 0 l.leaves 0
