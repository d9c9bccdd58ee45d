-- Programs whose structs have leaves that share no bytes.
use Rattle.std.specs.Prelude.{◌≡◌, ℕ, Some, slice_get}
use Rattle.c_layout.specs.StructViews.{StructView, structs_view}
use Rattle.cfg.specs.declared.programs.Flow.{Flow}
use Rattle.store_monotone.specs.Structs.SpreadStructs.{IsSpread}

pub record AreSpread (flow : Flow) : Type 0 where
  pub each : (index : ℕ) (s : StructView) → slice_get (structs_view flow.structs) index ≡ Some s → IsSpread flow.model (structs_view flow.structs) index s
