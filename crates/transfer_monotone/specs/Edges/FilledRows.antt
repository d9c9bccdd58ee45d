-- Rows in which something is in each cell.
use Rattle.std.specs.Prelude.{Option, Some, None, List, [], ◌∷◌}
use Rattle.value_domain.specs.declared.values.row_cells.Cell.{Cell}
use Rattle.value_domain.specs.declared.values.row_cells.Cell.TheVariants.{Nothing, Value, First, State, Mixed}

module _ {I : Type 0} where
  -- something is in the cell
  abbrev pub IsFilled : Cell I → Type 0
  IsFilled Nothing = ⊥
  IsFilled (Value v) = Unit {0}
  IsFilled (First f) = Unit {0}
  IsFilled (State s) = Unit {0}
  IsFilled Mixed = Unit {0}

  abbrev pub AreFilled : List (Cell I) → Type 0
  AreFilled [] = Unit {0}
  AreFilled (c ∷ cs) = IsFilled c × AreFilled cs

  -- the row that is left, where one is
  abbrev pub IsLeftFilled : Option (List (Cell I)) → Type 0
  IsLeftFilled None = Unit {0}
  IsLeftFilled (Some row) = AreFilled row

  -- a step that leaves something in each cell
  abbrev pub Fills : (List (Cell I) → List (Cell I)) → Type 0
  Fills step = (row : List (Cell I)) → AreFilled row → AreFilled (step row)

  abbrev pub LeavesFilled : (List (Cell I) → Option (List (Cell I))) → Type 0
  LeavesFilled step = (row : List (Cell I)) → AreFilled row → IsLeftFilled (step row)
