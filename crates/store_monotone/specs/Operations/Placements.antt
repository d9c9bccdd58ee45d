-- Where the greatest row has what, and the shapes for which larger windows reach more.
use Rattle.std.specs.Prelude.{◌≡◌, ℕ, ◌+◌, ◌≤◌, ◌<◌, true, Option, Some, None, List, [], ◌∷◌, length}
use Rattle.cc_base.specs.IntegerDomains.{IntegersOf}
use Rattle.c_layout.specs.declared.data_model.Model.{Model}
use Rattle.c_layout.specs.declared.leaf_lists.Class.{Class}
use Rattle.c_layout.specs.declared.shapes.BaseInfo.{BaseInfo}
use Rattle.pointer_domain.specs.declared.base_sets.Bases.{Bases}
use Rattle.value_domain.specs.declared.values.row_cells.Cell.{Cell}
use Rattle.value_domain.specs.declared.values.row_cells.Cell.TheVariants.{Value, First, State}
use Rattle.store_cells.specs.declared.access_windows.Window.{Window}
use Rattle.store_cells.specs.RowPositions.{cell_at, leaf_position, class_position, zero_position, state_position}
use Rattle.store_cells.specs.AccessWindows.{last_offset}
use Rattle.store.specs.LeafSelection.{has_stray, meets_padding}
use Rattle.store_cells.specs.FirstZeroWrites.{covering_part}
use Rattle.store_monotone.specs.Operations.TopCells.{top_value, top_zero, top_state}

-- something holds of each item and its number
abbrev pub EachFrom : {K : Type 0} → (K → ℕ → Type 0) → ℕ → List K → Type 0
EachFrom P at [] = Unit {0}
EachFrom P at (k ∷ ks) = P k at × EachFrom P (at + 1) ks

-- each offset of the first window is one of the second, and there is one
pub record WindowWithin (w u : Window) : Type 0 where
  pub lo : u.lo ≤ w.lo
  pub some : w.lo ≤ w.hi
  pub hi : w.hi ≤ u.hi
  pub near : u.hi ≤ last_offset

module _ {I : Type 0} where
  -- the cells of a base stand in the greatest row
  pub record IsPlaced (n : IntegersOf I) (all : Bases) (top : List (Cell I)) (base : BaseInfo) : Type 0 where
    pub leaf : (at : ℕ) → at < length base.shape.cells → cell_at top (leaf_position base at) ≡ Value (top_value n all)
    pub class : (at : ℕ) → base.shape.heap ≡ true → at < 6 → cell_at top (class_position base at) ≡ Value (top_value n all)
    pub zero : (at : ℕ) → at < length base.shape.zeros → cell_at top (zero_position base at) ≡ First (top_zero n)
    pub state : base.shape.heap ≡ true → cell_at top (state_position base) ≡ State (top_state n)

-- a part that has all of a larger window has all of a smaller one, further within, and no part before it has
abbrev pub CoversToo : Option (ℕ × Window) → Option (ℕ × Window) → Type 0
CoversToo small None = Unit {0}
CoversToo None (Some q) = ⊥
CoversToo (Some p) (Some q) = (p.0 ≡ q.0) × WindowWithin p.1 q.1

-- leaves of a heap base of one place each, leaves and parts apart
pub record IsRegular (m : Model) (base : BaseInfo) : Type 0 where
  pub stray : (class : Class) (w u : Window) → WindowWithin w u → base.shape.heap ≡ true → has_stray base.shape.cells class w ≡ true → has_stray base.shape.cells class u ≡ true
  pub padding : (w u : Window) → WindowWithin w u → meets_padding m base.shape.cells w base.size ≡ true → meets_padding m base.shape.cells u base.size ≡ true
  pub parts : (w u : Window) → WindowWithin w u → CoversToo (covering_part base w) (covering_part base u)
  pub part_number : (w : Window) (p : ℕ × Window) → covering_part base w ≡ Some p → p.0 < length base.shape.zeros
