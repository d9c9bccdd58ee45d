-- Rows whose numbers are at least a floor, and whose offsets and lengths are at least 0.
use Rattle.std.specs.Prelude.{◌-◌, ◌^◌, ℤ, pos, negsuc, ◌≤ℤ◌, Option, Some, None, List, [], ◌∷◌}
use Rattle.cc_base.specs.NumberRanges.{Range}
use Rattle.cc_base.specs.IntegerDomains.{IntegersOf}
use Rattle.pointer_domain.specs.declared.pointer_sets.Pointers.{Pointers}
use Rattle.value_domain.specs.declared.values.values.Value as values
use Rattle.value_domain.specs.declared.values.row_cells.Cell.{Cell}
use Rattle.value_domain.specs.declared.values.row_cells.Cell.TheVariants.{Nothing, Value, First, State, Mixed}

-- the least number of any integer type: -2^63
abbrev pub least_number : ℤ
least_number = negsuc (2 ^ 63 - 1)

-- each number of the range is at least a
abbrev pub IsFrom : ℤ → Range → Type 0
IsFrom a None = Unit {0}
IsFrom a (Some p) = a ≤ℤ p.0

module _ {I : Type 0} (n : IntegersOf I) (floor : ℤ) where
  -- lower bounds and lengths from 0 on, and what is above the lower bounds from the floor on
  abbrev pub IsPointerFrom : Pointers I → Type 0
  IsPointerFrom p = IsFrom (pos 0) (n.bounds p.lo) × IsFrom floor (n.bounds p.rel) × IsFrom (pos 0) (n.bounds p.len)

  abbrev pub IsValueFrom : values.Value I → Type 0
  IsValueFrom v = IsFrom floor (n.bounds v.num) × IsPointerFrom v.pointer

  abbrev pub IsReadFrom : Option (values.Value I) → Type 0
  IsReadFrom None = Unit {0}
  IsReadFrom (Some v) = IsValueFrom v

  abbrev pub IsCellFrom : Cell I → Type 0
  IsCellFrom Nothing = Unit {0}
  IsCellFrom (Value v) = IsValueFrom v
  IsCellFrom (First f) = Unit {0}
  IsCellFrom (State s) = Unit {0}
  IsCellFrom Mixed = Unit {0}

  abbrev pub AreFrom : List (Cell I) → Type 0
  AreFrom [] = Unit {0}
  AreFrom (c ∷ cs) = IsCellFrom c × AreFrom cs

  -- the row that is left, where one is
  abbrev pub IsLeftFrom : Option (List (Cell I)) → Type 0
  IsLeftFrom None = Unit {0}
  IsLeftFrom (Some row) = AreFrom row

  -- steps of such rows that leave such rows
  abbrev pub KeepsFrom : (List (Cell I) → List (Cell I)) → Type 0
  KeepsFrom step = (row : List (Cell I)) → AreFrom row → AreFrom (step row)

  abbrev pub LeavesFrom : (List (Cell I) → Option (List (Cell I))) → Type 0
  LeavesFrom step = (row : List (Cell I)) → AreFrom row → IsLeftFrom (step row)
