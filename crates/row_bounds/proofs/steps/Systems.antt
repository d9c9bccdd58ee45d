-- The instructions and edges of a program, and the row of its entry, keep floors.
use Rattle.std.specs.Prelude.{◌≤ℤ◌, ℤ}
use Rattle.cc_base.specs.Lattices.{LatticeOf, OrderLaws}
use Rattle.cc_base.specs.IntegerDomains.{IntegersOf, BoundLaws, RangeLaws}
use Rattle.cfg.specs.declared.programs.Flow.{Flow}
use Rattle.row_bounds.specs.Stores.Floors.{least_number}
use Rattle.row_bounds.proofs.stores.Ranges.{FloorLaws}
use Rattle.row_bounds.specs.Steps.StepFloors.{StepsKeepFloors}
use Rattle.row_bounds.proofs.steps.Steps.{operate_keeps}
use Rattle.row_bounds.proofs.steps.Edges.{edge_keeps}
use Rattle.row_bounds.proofs.steps.Starts.{start_from}

module _ {I : Type 0} {l : LatticeOf I} {n : IntegersOf I} {stands : I → ℤ → Type 0} (o : OrderLaws l) (b : BoundLaws l n stands) (f : RangeLaws l n) (floor : ℤ) (low : floor ≤ℤ least_number) (flow : Flow) where
  laws : FloorLaws l n stands floor
  laws = record { order = o; bounds = b; ranges = f; low = low }

  pub steps_keep : StepsKeepFloors l n floor flow
  steps_keep = record {
    instruction = λ p fits row h. operate_keeps laws flow p fits row h;
    edge = λ fitting number row h. edge_keeps laws flow number (λ e q. fitting.edges number e q) row h;
    start = λ h row. start_from laws flow h row;
  }
