-- What a solver has so far, and what its steps make of it.
use Rattle.std.specs.Prelude.{◌-◌, ◌==◌, ℕ, ℤ, Bool, true, false, not, ◌&&◌, ◌||◌, List, Option, Some, None, if◌then◌else◌, slice_set, slice_index_or}
use Rattle.cc_base.specs.Lattices.{LatticeOf}
use Rattle.cc_base.specs.Rows.{row_leq, row_rounded_if, row_absorbed}
use Rattle.cc_base.specs.Machine.{Machine}
use Rattle.cc_base.specs.InductiveMap.{row_at, step}

-- the row of each block so far, and the blocks whose edges are to be followed
pub record State (C : Type 0) : Type 0 where
  pub rows : List (Option (List C))
  pub marks : List Bool

abbrev pub mark_at : List Bool → ℕ → Bool
mark_at marks b = slice_index_or marks b false

-- the row of a block where another one arrives
abbrev pub arrived : {C : Type 0} → LatticeOf C → List ℤ → Bool → Option (List C) → List C → List C
arrived o list rounding None x = row_rounded_if o list rounding x
arrived o list rounding (Some old) x = row_absorbed o list rounding old x

-- whether the row of a block grows where another one arrives
abbrev pub grows : {C : Type 0} → LatticeOf C → Option (List C) → List C → Bool
grows o None x = true
grows o (Some old) x = not (row_leq o x old)

-- a row arrives at a block, which is marked if its row grows
abbrev pub arrive : {C : Type 0} → LatticeOf C → Machine C → ℕ → List C → State C → State C
arrive o m b x st = record {
  rows = slice_set st.rows b (Some (arrived o m.list (m.head b) (row_at st.rows b) x));
  marks = slice_set st.marks b (grows o (row_at st.rows b) x || mark_at st.marks b);
}

abbrev pub arrive_if : {C : Type 0} → LatticeOf C → Machine C → ℕ → Option (List C) → State C → State C
arrive_if o m b None st = st
arrive_if o m b (Some x) st = arrive o m b x st

abbrev pub grows_if : {C : Type 0} → LatticeOf C → Option (List C) → Option (List C) → Bool
grows_if o old None = false
grows_if o old (Some x) = grows o old x

-- an edge is followed: what it makes of its source's row arrives at its target
abbrev pub advance : {C : Type 0} → LatticeOf C → Machine C → ℕ → State C → State C
advance o m e st = arrive_if o m (m.target e) (step m e (row_at st.rows (m.source e))) st

-- whether the row of a head grows when the edge is followed
abbrev pub head_grows : {C : Type 0} → LatticeOf C → Machine C → ℕ → State C → Bool
head_grows o m e st = grows_if o (row_at st.rows (m.target e)) (step m e (row_at st.rows (m.source e))) && m.head (m.target e)

-- whether the edge is the first one of its source
abbrev pub begins : {C : Type 0} → Machine C → ℕ → Bool
begins m e = (e == 0) || not (m.source (e - 1) == m.source e)

-- a pass comes to an edge: the first one of a block takes the block's mark off
abbrev pub entered : {C : Type 0} → Machine C → ℕ → State C → State C
entered m e st = if begins m e then record st { marks = slice_set st.marks (m.source e) false } else st

-- and the block's edges are followed if the mark was there
abbrev pub follows_now : {C : Type 0} → Machine C → ℕ → State C → Bool → Bool
follows_now m e st following = if begins m e then mark_at st.marks (m.source e) else following

-- a turn of a pass
abbrev pub turned : {C : Type 0} → LatticeOf C → Machine C → ℕ → State C → Bool → State C
turned o m e st following = if follows_now m e st following then advance o m e (entered m e st) else entered m e st

abbrev pub turn_grows : {C : Type 0} → LatticeOf C → Machine C → ℕ → State C → Bool → Bool
turn_grows o m e st following = if follows_now m e st following then head_grows o m e (entered m e st) else false
