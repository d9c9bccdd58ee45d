-- Which cells an access reaches.
use Rattle.std.specs.Prelude.{ℕ, ◌+◌, ◌-◌, ◌*◌, ◌/◌, ◌%◌, min, Bool, false, cond, not, ◌&&◌, ◌||◌, ◌==◌, nat_lt, nat_le, List, count_by}
use Rattle.c_layout.specs.declared.data_model.Model.{Model}
use Rattle.c_layout.specs.declared.leaf_lists.Class.{Class}
use Rattle.c_layout.specs.declared.leaf_lists.Class.TheVariants.{Char}
use Rattle.c_layout.specs.declared.leaf_lists.Leaf.{Leaf}
use Rattle.store_cells.specs.declared.access_windows.Window.{Window}
use Rattle.store_cells.specs.ScalarTypes.{class_bytes}
use Rattle.store_cells.specs.RowPositions.{capped}
use Rattle.store_cells.specs.ClassNumbers.{same_class}
use Rattle.store_cells.specs.AccessWindows.{window_between}
use Rattle.store_cells.specs.Walks.{walk}

-- how many places of an endless row of places lie before an offset
abbrev pub places_before : Leaf → ℕ → ℕ
places_before leaf offset = cond (nat_le offset leaf.offset) 0 (((offset - leaf.offset) - 1) / leaf.stride + 1)

-- the first place from the window's start on is one of the leaf's, and not behind the window's end
abbrev pub turns_into : Leaf → Window → Bool
turns_into leaf w = nat_lt (places_before leaf w.lo) leaf.count && nat_le (places_before leaf w.lo) ((w.hi - leaf.offset) / leaf.stride)

-- one of the places of the leaf lies in the window
abbrev pub has_place_in : Leaf → Window → Bool
has_place_in leaf w = cond (leaf.stride == 0 || nat_lt w.hi leaf.offset) false (turns_into leaf w)

-- an access of a class reaches the leaf as one of its own class
abbrev pub is_selected : Leaf → Class → Window → Bool
is_selected leaf class w = same_class leaf.class class && has_place_in leaf w

-- a byte of the leaf lies in the window
abbrev pub is_overlapped : Model → Leaf → Window → Bool
is_overlapped m leaf w = has_place_in leaf (window_between (w.lo - (class_bytes m leaf.class - 1)) w.hi)

-- the leaf is none of characters, and a byte of it lies in the window
abbrev pub is_other : Model → Leaf → Window → Bool
is_other m leaf w = not (same_class leaf.class Char) && is_overlapped m leaf w

-- how many leaves the access reaches
abbrev pub selected_count : List Leaf → Class → Window → ℕ
selected_count leaves class w = count_by (λ leaf. is_selected leaf class w) leaves

-- the window has more offsets than the leaves of the class, of which each has one place
abbrev pub has_stray : List Leaf → Class → Window → Bool
has_stray leaves class w = nat_le (selected_count leaves class w) (w.hi - w.lo)

-- how many bytes of the places before a turn, and of that one up to an offset behind its start
abbrev pub turn_bytes : ℕ → ℕ → ℕ → ℕ
turn_bytes size turns behind = capped (capped (turns * size) + min behind size)

-- how many bytes of the leaf lie below a distance from its first place
abbrev pub bytes_behind : Model → Leaf → ℕ → ℕ
bytes_behind m leaf apart = cond (nat_lt (apart / leaf.stride) leaf.count)
    (turn_bytes (class_bytes m leaf.class) (apart / leaf.stride) (apart % leaf.stride)) (capped (leaf.count * class_bytes m leaf.class))

-- how many bytes of the leaf lie below an offset
abbrev pub bytes_below : Model → Leaf → ℕ → ℕ
bytes_below m leaf offset = cond (nat_le offset leaf.offset || leaf.stride == 0) 0 (bytes_behind m leaf (offset - leaf.offset))

-- with the bytes of one more leaf that lie from an offset to below another
abbrev pub covered_more : Model → ℕ → ℕ → Leaf → ℕ → ℕ → ℕ
covered_more m lo end leaf at covered = capped (covered + (bytes_below m leaf end - bytes_below m leaf lo))

abbrev pub covered_bytes : Model → List Leaf → ℕ → ℕ → ℕ
covered_bytes m leaves lo end = walk (covered_more m lo end) 0 leaves 0

-- the offset behind the window, within an object of a size
abbrev pub window_end : Window → ℕ → ℕ
window_end w size = min w.hi (size - 1) + 1

-- an offset of the window, below the size, is the offset of no leaf's byte
abbrev pub meets_padding : Model → List Leaf → Window → ℕ → Bool
meets_padding m leaves w size = nat_lt w.lo size && nat_lt (covered_bytes m leaves w.lo (window_end w size)) (window_end w size - w.lo)
