-- Turns, one by one.
use Rattle.std.proofs.Common.{◌≡◌, ℕ, ◌+◌, add-one, List}
use Rattle.cc_base.specs.Lattices.{LatticeOf}
use Rattle.cc_base.specs.IntegerDomains.{IntegersOf}
use Rattle.value_domain.specs.declared.values.row_cells.Cell.{Cell}
use Rattle.transfer_library_plans.specs.Calls.{Call}
use Rattle.transfer_library_plans.specs.declared.call_plans.Trail.{Trail}
use Rattle.transfer_library_plans.specs.Outputs.{printed_trail_at, text_trail_at, pointer_trails, scan_trails}

module _ {I : Type 0} where
  pub pointer_trails_next : (l : LatticeOf I) (n : IntegersOf I) (call : Call) (row : List (Cell I)) (at : ℕ) (trail : Trail) → pointer_trails l n call row (at + 1) trail ≡ printed_trail_at l n call row (at + 1) (pointer_trails l n call row at trail)
  pointer_trails_next l n call row at trail = rw (add-one at)

  pub scan_trails_next : (l : LatticeOf I) (n : IntegersOf I) (call : Call) (row : List (Cell I)) (at : ℕ) (trail : Trail) → scan_trails l n call row (at + 1) trail ≡ text_trail_at l n call row (at + 1) (scan_trails l n call row at trail)
  scan_trails_next l n call row at trail = rw (add-one at)
