-- What a struct copy makes of first zeros.
use Rattle.std.specs.Prelude.{ℕ, ◌+◌, ◌-◌, Bool, true, false, cond, ◌&&◌, ◌==◌, nat_lt, nat_le, Option, Some, None, is_some, List, [], ◌∷◌}
use Rattle.cc_base.specs.Lattices.{LatticeOf}
use Rattle.cc_base.specs.IntegerDomains.{IntegersOf}
use Rattle.c_layout.specs.declared.shapes.BaseInfo.{BaseInfo}
use Rattle.c_layout.specs.declared.shapes.ZeroPart.{ZeroPart}
use Rattle.value_domain.specs.declared.strings.first_zeros.FirstZero.{FirstZero}
use Rattle.value_domain.specs.declared.values.row_cells.Cell.{Cell}
use Rattle.store_cells.specs.declared.access_windows.Window.{Window}
use Rattle.store_cells.specs.Walks.{walk}
use Rattle.store_cells.specs.AccessWindows.{window_between}
use Rattle.store_cells.specs.RowPositions.{capped, zero_position, zero_at, put_zero}
use Rattle.store_cells.specs.FirstZeroWrites.{any_zero, zero_target}
use Rattle.store_structs.specs.declared.copy_zeros.ExactCopy.{ExactCopy}

-- a copy of so many bytes from one offset of a base to one offset of another one
pub record Exact : Type 0 where
  pub source : BaseInfo
  pub from : ℕ
  pub to : ℕ
  pub size : ℕ

abbrev pub exact_view : ExactCopy → Exact
exact_view e = record { source = e.source.now; from = e.from; to = e.to; size = e.size }

-- the bytes that a copy may touch, whose struct can begin in a window
abbrev pub copied_window : Window → ℕ → Window
copied_window start size = window_between start.lo (capped (start.hi + (size - 1)))

abbrev pub same_size : Option ℕ → Option ℕ → Bool
same_size None None = true
same_size None (Some b) = false
same_size (Some a) None = false
same_size (Some a) (Some b) = a == b

-- the array of a size at an offset
abbrev pub is_array_at : ℕ → Option ℕ → ZeroPart → Bool
is_array_at offset size part = (part.offset == offset) && same_size part.size size

-- the number of the first such array
abbrev pub array_at : ℕ → Option ℕ → ℕ → List ZeroPart → Option ℕ
array_at offset size at [] = None
array_at offset size at (part ∷ parts) = cond (is_array_at offset size part) (Some at) (array_at offset size (at + 1) parts)

-- where the array of the source stands at the same distance as one of the destination
abbrev pub source_offset : Exact → ZeroPart → ℕ
source_offset e part = capped (e.from + (part.offset - e.to))

unfoldable pub source_part : Exact → ZeroPart → Option ℕ
source_part e part = cond (nat_lt part.offset e.to) None (array_at (source_offset e part) part.size 0 e.source.shape.zeros)

-- the array lies wholly within the copied bytes
abbrev pub lies_within : ℕ → Option ℕ → ℕ → ℕ → Bool
lies_within offset None to size = false
lies_within offset (Some length) to size = nat_le to offset && nat_le (capped (offset + length)) (capped (to + size))

abbrev pub lies_inside : Exact → ZeroPart → Bool
lies_inside e part = lies_within part.offset part.size e.to e.size

module _ {I : Type 0} where
  abbrev pub zero_from : LatticeOf I → IntegersOf I → BaseInfo → List (Cell I) → Option ℕ → FirstZero I
  zero_from l n source row None = any_zero l n
  zero_from l n source row (Some at) = zero_at l n row (zero_position source at)

  abbrev pub zero_exact : LatticeOf I → IntegersOf I → Exact → ZeroPart → List (Cell I) → FirstZero I
  zero_exact l n e part row = cond (lies_inside e part) (zero_from l n e.source row (source_part e part)) (any_zero l n)

  -- the first zero of an array that the copy meets: the source's where the copy is exact
  abbrev pub zero_copied : LatticeOf I → IntegersOf I → Option Exact → ZeroPart → List (Cell I) → FirstZero I
  zero_copied l n None part row = any_zero l n
  zero_copied l n (Some e) part row = zero_exact l n e part row

  unfoldable pub copy_part_at : LatticeOf I → IntegersOf I → Window → Option Exact → ZeroPart → ℕ → List (Cell I) → List (Cell I)
  copy_part_at l n w exact part position row = cond (is_some (zero_target part w)) (put_zero row position (zero_copied l n exact part row)) row

  abbrev pub copy_part : LatticeOf I → IntegersOf I → BaseInfo → Window → Option Exact → ZeroPart → ℕ → List (Cell I) → List (Cell I)
  copy_part l n base w exact part at row = copy_part_at l n w exact part (zero_position base at) row

  -- the first zeros of a base of the destination
  unfoldable pub copy_zeros : LatticeOf I → IntegersOf I → BaseInfo → Window → Option Exact → List (Cell I) → List (Cell I)
  copy_zeros l n base w exact row = walk (copy_part l n base w exact) 0 base.shape.zeros row
