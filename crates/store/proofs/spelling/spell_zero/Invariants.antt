use Rattle.std.proofs.Common.{◌≡◌, drop}
use Rattle.store_cells.specs.Walks.{walk}
use Rattle.store.specs.Spelling.{spell_part}
use Rattle.store.proofs.spelling.spell_zero.Given as goal

abbrev pub invariant-loop-at : goal.invariant-loop-at
invariant-loop-at g l = walk (spell_part l.base l.offset l.zero) l.at (drop l.at l.parts) l.row ≡ walk (spell_part l.base l.offset l.zero) 0 l.parts l.initial.row
