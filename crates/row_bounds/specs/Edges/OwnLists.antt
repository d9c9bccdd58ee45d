-- Lists of numbers that go as far down as the integer types.
use Rattle.std.specs.Prelude.{◌≡◌, ℤ, int_le, true, List}
use Rattle.std.specs.List.{list_any}
use Rattle.row_bounds.specs.Stores.Floors.{least_number}

-- a number of the list is at most the least number of any integer type
abbrev pub ReachesTypes : List ℤ → Type 0
ReachesTypes list = list_any (λ m. int_le m least_number) list ≡ true
