-- Leaves of a count above 0.
use Rattle.std.proofs.Common.{◌≡◌, ◌<◌, ◌+◌, ◌-◌, ℕ, List, zero, suc, arith, ap}
use Rattle.cc_base.specs.Lattices.{LatticeOf}
use Rattle.cc_base.specs.IntegerDomains.{IntegersOf}
use Rattle.value_domain.specs.declared.values.row_cells.Cell.{Cell}
use Rattle.store_cells.specs.RowPositions.{capped}
use Rattle.store_structs.specs.LeafNumbers.{struct_leaf}
use Rattle.store_structs.specs.StructCopies.{Route, copy_step, copy_leaves}

pub batch : {I : Type 0} (l : LatticeOf I) (n : IntegersOf I) (r : Route) (count first : ℕ) (row : List (Cell I)) → 0 < count
    → copy_leaves l n r count first row ≡ copy_step l n r row (struct_leaf r.structs r.pointer r.index first) (copy_leaves l n r (count - 1) (capped (first + 1)) row)
batch l n r zero first row some = absurd (omega arith)
batch l n r (suc count) first row some =
    let e : count ≡ suc count - 1 = omega arith in
    ap (λ k. copy_step l n r row (struct_leaf r.structs r.pointer r.index first) (copy_leaves l n r k (capped (first + 1)) row)) e
