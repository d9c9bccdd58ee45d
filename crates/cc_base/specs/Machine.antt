-- What a system of flow equations computes, and the laws that a solver needs.
use Rattle.std.specs.Prelude.{◌≡◌, ◌≤◌, ◌<◌, ℕ, ℤ, Bool, true, false, List, length, Option, Some}
use Rattle.cc_base.specs.Lattices.{LatticeOf}
use Rattle.cc_base.specs.Rows.{row_leq, row_join, row_round, reached_leq}

-- a system of flow equations: blocks, the edges between them, and what each edge makes of a row
pub record Machine (C : Type 0) : Type 0 where
  -- the number of blocks; block 0 is the entry
  pub blocks : ℕ
  -- the number of cells of a row
  pub width : ℕ
  -- the number of edges
  pub edges : ℕ
  -- the block that an edge leaves
  pub source : ℕ → ℕ
  -- the block that an edge enters
  pub target : ℕ → ℕ
  -- whether rows are rounded at the block
  pub head : ℕ → Bool
  -- the row of the entry
  pub start : List C
  -- the row after the edge, None if the edge is not taken
  pub through : ℕ → List C → Option (List C)
  -- whether a row is one of the system's own
  pub own : List C → Bool
  -- whether an own row is such as the start, the edges, joins and rounding lead to
  pub attained : List C → Bool
  -- the numbers to which bounds are rounded
  pub list : List ℤ
  -- how often a rounded row can still strictly grow
  pub room : List C → ℕ
  -- the greatest room
  pub height : ℕ

-- the row equals its rounding
abbrev pub IsRounded : {C : Type 0} → LatticeOf C → List ℤ → List C → Type 0
IsRounded o list r = row_round o list r ≡ r

pub record MachineLaws {C : Type 0} (o : LatticeOf C) (m : Machine C) : Type 0 where
  pub some_block : 0 < m.blocks
  pub source_below : (e : ℕ) → e < m.edges → m.source e < m.blocks
  pub target_below : (e : ℕ) → e < m.edges → m.target e < m.blocks
  -- edges are numbered by the block that they leave
  pub by_source : (d e : ℕ) → d ≤ e → e < m.edges → m.source d ≤ m.source e
  -- an edge that goes back enters a head
  pub back_to_head : (e : ℕ) → e < m.edges → m.target e ≤ m.source e → m.head (m.target e) ≡ true
  pub own_width : (r : List C) → m.own r ≡ true → length r ≡ m.width
  pub attained_own : (r : List C) → m.attained r ≡ true → m.own r ≡ true
  pub start_attained : m.attained m.start ≡ true
  pub through_attained : (e : ℕ) (r s : List C) → e < m.edges → m.attained r ≡ true → m.through e r ≡ Some s → m.attained s ≡ true
  pub join_attained : (r s : List C) → m.attained r ≡ true → m.attained s ≡ true → m.attained (row_join o r s) ≡ true
  pub round_attained : (r : List C) → m.attained r ≡ true → m.attained (row_round o m.list r) ≡ true
  pub room_bounded : (r : List C) → m.room r ≤ m.height
  -- a rounded row that strictly grows into a rounded row has less room
  pub room_falls : (r s : List C) → m.attained r ≡ true → m.attained s ≡ true → IsRounded o m.list r → IsRounded o m.list s → row_leq o r s ≡ true → row_leq o s r ≡ false → m.room s < m.room r

-- each edge makes more of more, of the rows that a run of the solver comes to against any own row: a solver needs
-- it for the least map alone
abbrev pub IsMonotone : {C : Type 0} → LatticeOf C → Machine C → Type 0
IsMonotone {C} o m = (e : ℕ) (r s : List C) → e < m.edges → m.attained r ≡ true → m.own s ≡ true → row_leq o r s ≡ true → reached_leq o (m.through e r) (m.through e s) ≡ true
