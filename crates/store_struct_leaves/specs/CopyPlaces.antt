-- The offsets that a leaf of a copied struct can have in an object.
use Rattle.std.specs.Prelude.{ℕ, zero, suc, ◌+◌, ◌-◌, ◌*◌, Bool, false, cond, not, ◌&&◌, ◌||◌, ◌==◌, nat_lt, List, count_by}
use Rattle.c_layout.specs.declared.data_model.Model.{Model}
use Rattle.c_layout.specs.declared.leaf_lists.Class.{Class}
use Rattle.c_layout.specs.declared.leaf_lists.Class.TheVariants.{Char}
use Rattle.c_layout.specs.declared.leaf_lists.Leaf.{Leaf}
use Rattle.store_cells.specs.declared.access_windows.Window.{Window}
use Rattle.store_cells.specs.ScalarTypes.{class_bytes}
use Rattle.store_cells.specs.ClassNumbers.{same_class}
use Rattle.store_cells.specs.RowPositions.{capped}
use Rattle.store_cells.specs.AccessWindows.{window_between, window_is_one}
use Rattle.store.specs.LeafSelection.{has_place_in}
use Rattle.store_struct_leaves.specs.declared.copy_places.Span.{Span}

-- the test holds of some number below the count
abbrev pub any_below : (ℕ → Bool) → ℕ → Bool
any_below p zero = false
any_below p (suc count) = any_below p count || p count

abbrev pub shifted : Window → ℕ → Window
shifted w by = window_between (capped (w.lo + by)) (capped (w.hi + by))

-- the offsets of a leaf in an object, where the struct can begin in a window
abbrev pub span_of_leaf : Leaf → Window → Span
span_of_leaf leaf start = record { first = shifted start leaf.offset; stride = leaf.stride; count = leaf.count }

abbrev pub span_width : Span → ℕ
span_width s = s.first.hi - s.first.lo

abbrev pub span_is_one : Span → Bool
span_is_one s = (s.count == 1) && window_is_one s.first

-- no window reaches the next one
abbrev pub is_apart : Span → Bool
is_apart s = (s.count == 0) || nat_lt (capped (span_width s + 1)) s.stride

abbrev pub all_in_one : Span → Span
all_in_one s = record { first = window_between s.first.lo (capped (s.first.hi + capped ((s.count - 1) * s.stride))); stride = 1; count = 1 }

-- the windows as one, where none lies apart from the next one
abbrev pub span_joined : Span → Span
span_joined s = cond (is_apart s) s (all_in_one s)

-- the window with a number
abbrev pub span_window : Span → ℕ → Window
span_window s number = shifted s.first (capped (number * s.stride))

-- with so many bytes behind each offset
abbrev pub span_raised : Span → ℕ → Span
span_raised s bytes = record s { first = window_between s.first.lo (capped (s.first.hi + bytes)) }

-- each place so many bytes further on
abbrev pub leaf_raised : Leaf → ℕ → Leaf
leaf_raised leaf bytes = record leaf { offset = capped (leaf.offset + bytes) }

-- how many offsets there are, where no window overlaps the next one
abbrev pub span_size : Span → ℕ
span_size s = capped (capped (span_width s + 1) * s.count)

-- the one place of the leaf lies in a window
abbrev pub one_place_meets : Leaf → Span → Bool
one_place_meets leaf s = has_place_in (record leaf { offset = s.first.lo; stride = s.stride; count = s.count }) (window_between (leaf.offset - span_width s) leaf.offset)

-- the same where the places of the leaf lie as far apart as the windows
abbrev pub alike_meets : Leaf → Span → Bool
alike_meets leaf s = has_place_in (record leaf { count = capped (leaf.count + (s.count - 1)) }) (shifted s.first (capped ((s.count - 1) * s.stride)))

abbrev pub window_meets : Leaf → Span → ℕ → Bool
window_meets leaf s number = has_place_in leaf (span_window s number)

unfoldable pub each_meets : Leaf → Span → Bool
each_meets leaf s = any_below (window_meets leaf s) s.count

unfoldable pub several_meet : Leaf → Span → Bool
several_meet leaf s = cond (leaf.count == 1) (one_place_meets leaf s) (cond (leaf.stride == s.stride) (alike_meets leaf s) (each_meets leaf s))

unfoldable pub joined_meet : Leaf → Span → Bool
joined_meet leaf s = cond (s.count == 1) (has_place_in leaf s.first) (several_meet leaf s)

-- a place of the leaf lies in the span
unfoldable pub meets : Leaf → Span → Bool
meets leaf s = joined_meet leaf (span_joined s)

-- an access of a class reaches the leaf as one of its own class
unfoldable pub is_reached : Leaf → Class → Span → Bool
is_reached leaf class s = same_class leaf.class class && meets leaf s

-- a byte of a leaf that is none of characters lies in the span: the last byte of the scalar lies at an offset of it or
-- behind one by fewer bytes than the scalar has. (Windows that are widened downwards would be cut at 0 together.)
unfoldable pub is_touched : Model → Leaf → Span → Bool
is_touched m leaf s = not (same_class leaf.class Char) && meets (leaf_raised leaf (class_bytes m leaf.class - 1)) (span_raised (span_joined s) (class_bytes m leaf.class - 1))

unfoldable pub reached_count : List Leaf → Class → Span → ℕ
reached_count leaves class s = count_by (λ leaf. is_reached leaf class s) leaves

-- the span has more offsets than the leaves of the class, of which each has one place
unfoldable pub span_has_stray : List Leaf → Class → Span → Bool
span_has_stray leaves class s = nat_lt (reached_count leaves class (span_joined s)) (span_size (span_joined s))
