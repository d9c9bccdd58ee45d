use Rattle.std.proofs.Common.{◌≡◌, drop}
use Rattle.store_cells.specs.Walks.{walk}
use Rattle.store.specs.Spelling.{spell_leaf}
use Rattle.store.proofs.spelling.spell_leaves.Given as goal

abbrev pub invariant-loop-at : goal.invariant-loop-at
invariant-loop-at g l = walk (spell_leaf g.I.Lattice.lattice g.I.IntDomain.numbers l.base l.offset l.count l.text) l.at (drop l.at l.leaves) l.row ≡ walk (spell_leaf g.I.Lattice.lattice g.I.IntDomain.numbers l.base l.offset l.count l.text) 0 l.leaves l.initial.row
