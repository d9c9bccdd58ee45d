-- What a pass does to a map where it comes to an edge.
use Rattle.std.specs.Prelude.{ℕ, Bool, List, Option, None, if◌then◌else◌, slice_set, slice_index_or}
use Rattle.cc_base.specs.Machine.{Machine}
use Rattle.fixpoint.specs.declared.pool.row_name.Row.{Row}
use Rattle.fixpoint.specs.Solver.SolverState.{begins}
use Rattle.fixpoint.specs.Solver.RowMap.{slot_mark, unmarked}

-- the first edge of a block takes the block's mark off
abbrev pub entered_map : {C : Type 0} → Machine C → ℕ → List (Option Row) → List (Option Row)
entered_map m e slots = if begins m e then slice_set slots (m.source e) (unmarked (slice_index_or slots (m.source e) None)) else slots

-- and the block's edges are followed if the mark was there
abbrev pub follows_map : {C : Type 0} → Machine C → ℕ → List (Option Row) → Bool → Bool
follows_map m e slots following = if begins m e then slot_mark (slice_index_or slots (m.source e) None) else following
