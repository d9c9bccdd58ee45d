-- Structs whose leaves share no bytes.
use Rattle.std.specs.Prelude.{◌≡◌, ℕ, zero, suc, ◌*◌, ◌≤◌, ◌<◌, ◌^◌, Bool, ◌&&◌, Option, Some, None, List, [], ◌∷◌, ◌++◌}
use Rattle.c_layout.specs.StructViews.{StructView}
use Rattle.c_layout.specs.declared.data_model.Model.{Model}
use Rattle.c_layout.specs.declared.leaf_lists.Leaf.{Leaf}
use Rattle.cfg.specs.BaseShapes.{is_extent, are_leaves}
use Rattle.store_cells.specs.declared.access_windows.Window.{Window}
use Rattle.store_cells.specs.AccessWindows.{window_between}
use Rattle.store_structs.specs.LeafNumbers.{struct_leaf}
use Rattle.store_structs.specs.PaddingWrites.{Padded, leaf_bytes}

-- a struct that may begin in a window
abbrev pub padded_in : List StructView → ℕ → ℕ → StructView → Window → Padded
padded_in structs pointer index s start = record { structs = structs; pointer = pointer; index = index; size = s.size; leaves = s.leaves; start = start }

-- a struct of at most 2^62 bytes: its leaves lie within so many too, and no byte is of two of them
pub record IsSpread (m : Model) (structs : List StructView) (index : ℕ) (s : StructView) : Type 0 where
  pub size : s.size ≤ 2 ^ 62
  pub short : (number : ℕ) (leaf : Leaf) → number < s.leaves → struct_leaf structs m.pointer index number ≡ Some leaf → leaf.count * leaf.stride ≤ 2 ^ 62
  pub bytes : (start : Window) (x : ℕ) → x < 2 ^ 63 → leaf_bytes m (padded_in structs m.pointer index s start) (window_between x x) ≤ 1

-- ---- a test

abbrev pub with_leaf : List Leaf → Option Leaf → List Leaf
with_leaf leaves None = leaves
with_leaf leaves (Some leaf) = leaves ++ (leaf ∷ [])

-- the leaves of a struct by their numbers, up to a number
abbrev pub leaves_below : List StructView → ℕ → ℕ → ℕ → List Leaf
leaves_below structs pointer index zero = []
leaves_below structs pointer index (suc number) = with_leaf (leaves_below structs pointer index number) (struct_leaf structs pointer index number)

-- leaves that stand apart within the size, as those of an object do
abbrev pub is_apart : Model → List StructView → ℕ → StructView → Bool
is_apart m structs index s = is_extent s.size && are_leaves m s.size (leaves_below structs m.pointer index s.leaves)
