-- What holds of a solver's rows on the way.
use Rattle.std.specs.Prelude.{◌≡◌, ◌+◌, ◌<◌, ℕ, zero, suc, Bool, true, false, cond, List, length, Option, Some, None}
use Rattle.cc_base.specs.Lattices.{LatticeOf}
use Rattle.cc_base.specs.Rows.{reached_leq}
use Rattle.cc_base.specs.Machine.{Machine, IsMonotone}
use Rattle.cc_base.specs.InductiveMap.{row_at, step, IsRoundedOrNone, IsLeast}
use Rattle.fixpoint.specs.Solver.SolverState.{State, mark_at}

-- a row such as the system leads to, or none
abbrev pub IsAttained : {C : Type 0} → Machine C → Option (List C) → Type 0
IsAttained m None = Unit {0}
IsAttained m (Some r) = m.attained r ≡ true

-- the rows are such as the system leads to, those of heads are rounded, and where edges are monotone
-- all are at or below those of every inductive map
pub record IsSound {C : Type 0} (o : LatticeOf C) (m : Machine C) (rows : List (Option (List C))) : Type 0 where
  pub size : length rows ≡ m.blocks
  pub attained : (b : ℕ) → IsAttained m (row_at rows b)
  pub rounded : (b : ℕ) → m.head b ≡ true → IsRoundedOrNone o m (row_at rows b)
  pub least : IsMonotone o m → IsLeast o m rows

abbrev pub HasEntry : {C : Type 0} → LatticeOf C → Machine C → List (Option (List C)) → Type 0
HasEntry o m rows = reached_leq o (Some m.start) (row_at rows 0) ≡ true

-- the edge leads to a row at or below its target's
abbrev pub IsSettled : {C : Type 0} → LatticeOf C → Machine C → List (Option (List C)) → ℕ → Type 0
IsSettled o m rows e = reached_leq o (step m e (row_at rows (m.source e))) (row_at rows (m.target e)) ≡ true

-- each edge that is not settled leaves a marked block
abbrev pub IsMarked : {C : Type 0} → LatticeOf C → Machine C → State C → Type 0
IsMarked o m st = (e : ℕ) → e < m.edges → mark_at st.marks (m.source e) ≡ false → IsSettled o m st.rows e

-- how often the row of a block can still grow, if the block is a head
abbrev pub weight : {C : Type 0} → Machine C → Option (List C) → ℕ
weight m None = m.height + 1
weight m (Some r) = m.room r

abbrev pub weight_at : {C : Type 0} → Machine C → List (Option (List C)) → ℕ → ℕ
weight_at m rows b = cond (m.head b) (weight m (row_at rows b)) 0

abbrev pub total : (ℕ → ℕ) → ℕ → ℕ
total f zero = 0
total f (suc n) = total f n + f n

-- how often the rows of heads can still grow
abbrev pub potential : {C : Type 0} → Machine C → List (Option (List C)) → ℕ
potential m rows = total (weight_at m rows) m.blocks

-- a pass has come to the edge e and was last at the block s
pub record IsSwept {C : Type 0} (o : LatticeOf C) (m : Machine C) (st : State C) (following : Bool) (s e : ℕ) (grew : Bool) : Type 0 where
  -- an edge that leaves an unmarked block is settled, or still to be followed
  pub settled : (d : ℕ) → d < m.edges → mark_at st.marks (m.source d) ≡ false → (following ≡ true → m.source d ≡ s → d < e) → IsSettled o m st.rows d
  -- if no head grew, the blocks that the pass went by are unmarked
  pub clean : grew ≡ false → (d : ℕ) → d < e → mark_at st.marks (m.source d) ≡ false
