use Rattle.std.proofs.Common.{◌≡◌, ◌+◌, ◌<◌, ◌≤◌, ℕ, take, count_by, Some, None, slice_index_or}
use Rattle.fixpoint.specs.Pool.Pool.{IsTaken, free_count}
use Rattle.fixpoint.specs.Solver.RowMap.{index_at, is_held}
use Rattle.fixpoint.proofs.solver.map_release.release.Given as goal

abbrev pub invariant-loop-i : goal.invariant-loop-i
invariant-loop-i g l = record {
  done : (b : ℕ) → b < l.i → slice_index_or l.map b None ≡ None;
  rest : (b : ℕ) → l.i ≤ b → slice_index_or l.map b None ≡ slice_index_or l.initial.map b None;
  taken : (b s : ℕ) → l.i ≤ b → index_at l.initial.map b ≡ Some s → IsTaken l.pool s;
  room : free_count l.pool ≡ free_count l.initial.pool + count_by is_held (take l.i l.initial.map);
  others : (s : ℕ) → IsTaken l.initial.pool s → ((b : ℕ) → index_at l.initial.map b ≡ Some s → ⊥) → IsTaken l.pool s;
  width : l.pool.width ≡ l.initial.pool.width;
  cells : l.pool.cells ≡ l.initial.pool.cells;
}
