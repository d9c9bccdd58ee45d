-- What writes make of the first zeros of a base.
use Rattle.std.specs.Prelude.{ℕ, ◌+◌, ◌-◌, ◌^◌, pos, Bool, true, false, cond, not, ◌&&◌, ◌==◌, int_le, Option, Some, None, is_some, List, length}
use Rattle.std.specs.Ordering.{int_eq}
use Rattle.cc_base.specs.Lattices.{LatticeOf}
use Rattle.cc_base.specs.IntegerDomains.{IntegersOf, between_or_least}
use Rattle.cc_base.specs.NumberRanges.{Range}
use Rattle.cc_base.specs.declared.integer_operators.Tri.{Tri}
use Rattle.c_layout.specs.declared.shapes.BaseInfo.{BaseInfo}
use Rattle.c_layout.specs.declared.shapes.ZeroPart.{ZeroPart}
use Rattle.value_domain.specs.declared.strings.first_zeros.FirstZero.{FirstZero}
use Rattle.value_domain.specs.Strings.FirstZeros.{the_end, zero_of, zero_lattice}
use Rattle.value_domain.specs.Strings.ZeroTables as zeros
use Rattle.value_domain.specs.declared.values.row_cells.Cell.{Cell}
use Rattle.store_cells.specs.declared.access_windows.Window.{Window}
use Rattle.store_cells.specs.declared.first_zero_writes.ZeroTarget.{ZeroTarget}
use Rattle.store_cells.specs.Walks.{walk, turns}
use Rattle.store_cells.specs.NearValues.{near_number}
use Rattle.store_cells.specs.RowPositions.{capped, zero_position, zero_at, put_zero}
use Rattle.store_cells.specs.AccessWindows.{window_met, window_from, window_lies_within}

-- the last offset of a part at an offset; a whole heap instance has none but the greatest
abbrev pub last_of : ℕ → Option ℕ → ℕ
last_of offset None = 2 ^ 64 - 1
last_of offset (Some size) = capped (offset + (size - 1))

abbrev pub has_no_bytes : Option ℕ → Bool
has_no_bytes None = false
has_no_bytes (Some size) = size == 0

abbrev pub target_at : ZeroPart → Window → Option Window → Option ZeroTarget
target_at part w None = None
target_at part w (Some met) = Some (record { local = window_from met part.offset; whole = window_lies_within w part.offset (last_of part.offset part.size) })

-- where a window meets the array of a part, counted from its first byte
abbrev pub zero_target : ZeroPart → Window → Option ZeroTarget
zero_target part w = cond (has_no_bytes part.size) None (target_at part w (window_met w part.offset (last_of part.offset part.size)))

abbrev pub if_whole : ℕ → Option ZeroTarget → Option (ℕ × Window)
if_whole at None = None
if_whole at (Some target) = cond target.whole (Some (at, target.local)) None

-- the number of the part, if it has all of the window
abbrev pub covered : ℕ → ZeroPart → Window → Option (ℕ × Window)
covered at part w = if_whole at (zero_target part w)

abbrev pub first_covered : Window → ZeroPart → ℕ → Option (ℕ × Window) → Option (ℕ × Window)
first_covered w part at None = covered at part w
first_covered w part at (Some found) = Some found

-- the first part that has all of the window
abbrev pub covering_part : BaseInfo → Window → Option (ℕ × Window)
covering_part base w = walk (first_covered w) 0 base.shape.zeros None

-- the first zero does not lie before the offset, and there is one; none stands for no array
abbrev pub lies_up_to : Range → ℕ → Bool
lies_up_to None at = true
lies_up_to (Some p) at = int_le (pos at) p.0 && not (int_eq p.1 the_end)

module _ {I : Type 0} where
  abbrev pub is_determinate_before : IntegersOf I → FirstZero I → Window → Bool
  is_determinate_before n zero local = lies_up_to (n.bounds zero.at) local.hi

  -- nothing is known
  abbrev pub any_zero : LatticeOf I → IntegersOf I → FirstZero I
  any_zero l n = zero_of (between_or_least l n (pos 0) the_end)

  -- no zero byte behind determinate ones
  abbrev pub no_zero : IntegersOf I → FirstZero I
  no_zero n = zero_of (n.one the_end)

  -- the first byte is zero
  abbrev pub zero_first : IntegersOf I → FirstZero I
  zero_first n = zero_of (n.one (pos 0))

  abbrev pub offsets_of : LatticeOf I → IntegersOf I → Window → I
  offsets_of l n w = near_number l n (between_or_least l n (pos w.lo) (pos w.hi))

  -- the new first zero where the write is surely to this array; else perhaps the old one too
  abbrev pub sure_or_joined : LatticeOf I → Bool → FirstZero I → FirstZero I → FirstZero I
  sure_or_joined l sure old new = cond sure new ((zero_lattice l).join old new)

  -- after a character was written at the target, which is zero or not as `zero` says
  abbrev pub put_at : LatticeOf I → IntegersOf I → FirstZero I → ZeroTarget → Tri → Bool → FirstZero I
  put_at l n old target zero alone = sure_or_joined l (alone && target.whole) old (zeros.put_at l n old (offsets_of l n target.local) zero)

  unfoldable pub put_target : LatticeOf I → IntegersOf I → List (Cell I) → ℕ → Option ZeroTarget → Tri → Bool → List (Cell I)
  put_target l n row at None zero alone = row
  put_target l n row at (Some target) zero alone = put_zero row at (put_at l n (zero_at l n row at) target zero alone)

  abbrev pub put_part : LatticeOf I → IntegersOf I → BaseInfo → Window → Tri → Bool → ZeroPart → ℕ → List (Cell I) → List (Cell I)
  put_part l n base w zero alone part at row = put_target l n row (zero_position base at) (zero_target part w) zero alone

  -- a character is written in the window
  unfoldable pub put_character : LatticeOf I → IntegersOf I → BaseInfo → Window → Tri → Bool → List (Cell I) → List (Cell I)
  put_character l n base w zero alone row = walk (put_part l n base w zero alone) 0 base.shape.zeros row

  unfoldable pub forget_target : LatticeOf I → IntegersOf I → List (Cell I) → ℕ → Option ZeroTarget → List (Cell I)
  forget_target l n row at target = cond (is_some target) (put_zero row at (any_zero l n)) row

  abbrev pub forget_part : LatticeOf I → IntegersOf I → BaseInfo → Window → ZeroPart → ℕ → List (Cell I) → List (Cell I)
  forget_part l n base w part at row = forget_target l n row (zero_position base at) (zero_target part w)

  -- nothing is known any more of the arrays that the window meets
  unfoldable pub forget_zeros : LatticeOf I → IntegersOf I → BaseInfo → Window → List (Cell I) → List (Cell I)
  forget_zeros l n base w row = walk (forget_part l n base w) 0 base.shape.zeros row

  abbrev pub set_part : BaseInfo → FirstZero I → ℕ → List (Cell I) → List (Cell I)
  set_part base zero at row = put_zero row (zero_position base at) zero

  -- each first zero of the base is this one
  unfoldable pub set_zeros : BaseInfo → FirstZero I → List (Cell I) → List (Cell I)
  set_zeros base zero row = turns (set_part base zero) (length base.shape.zeros) row
