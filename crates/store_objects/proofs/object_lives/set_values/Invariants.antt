use Rattle.std.proofs.Common.{◌≡◌}
use Rattle.store_cells.specs.Walks.{turns}
use Rattle.store_objects.specs.ObjectLives.{set_cell}
use Rattle.store_objects.proofs.object_lives.set_values.Given as goal

abbrev pub invariant-loop-at : goal.invariant-loop-at
invariant-loop-at g l = l.row ≡ turns (set_cell l.base l.value) l.at l.initial.row
