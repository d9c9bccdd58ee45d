-- What keeps a map from being closed.
use Rattle.std.specs.Prelude.{◌≡◌, ◌<◌, ℕ, Bool, true, false, List, Option, Some, None}
use Rattle.cc_base.specs.Lattices.{LatticeOf}
use Rattle.cc_base.specs.Rows.{reached_leq}
use Rattle.cc_base.specs.Machine.{Machine}
use Rattle.cc_base.specs.InductiveMap.{row_at, step}
use Rattle.certificate_check.specs.declared.closed_maps.closed_maps.MapFault.{MapFault}
use Rattle.certificate_check.specs.declared.closed_maps.closed_maps.MapFault.TheVariants.{Start, Edge}

module _ {C : Type 0} (o : LatticeOf C) (m : Machine C) (rows : List (Option (List C))) where
  -- the row of the entry is at or above the start row
  abbrev pub starts_below : Bool
  starts_below = reached_leq o (Some m.start) (row_at rows 0)

  -- the edge makes of its source's row one at or below its target's
  abbrev pub edge_closed : ℕ → Bool
  edge_closed e = reached_leq o (step m e (row_at rows (m.source e))) (row_at rows (m.target e))

  abbrev pub EdgesClosed : ℕ → Type 0
  EdgesClosed n = (e : ℕ) → e < n → edge_closed e ≡ true

  -- the fault is the start, or it is the first edge that is not closed; none is where there is neither
  abbrev pub IsFirstFault : Option MapFault → Type 0
  IsFirstFault None = (starts_below ≡ true) × EdgesClosed m.edges
  IsFirstFault (Some Start) = starts_below ≡ false
  IsFirstFault (Some (Edge e)) = (starts_below ≡ true) × (e < m.edges) × (edge_closed e ≡ false) × EdgesClosed e
