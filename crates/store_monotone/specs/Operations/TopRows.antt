-- The greatest row of bases that follow each other.
use Rattle.std.specs.Prelude.{ℕ, cond, List, [], ◌++◌, ◌∷◌, length, replicate}
use Rattle.cc_base.specs.IntegerDomains.{IntegersOf}
use Rattle.c_layout.specs.declared.shapes.BaseInfo.{BaseInfo}
use Rattle.cfg.specs.WellFormed.{base_cells}
use Rattle.pointer_domain.specs.declared.base_sets.Bases.{Bases}
use Rattle.value_domain.specs.declared.values.row_cells.Cell.{Cell}
use Rattle.value_domain.specs.declared.values.row_cells.Cell.TheVariants.{Value, First, State}
use Rattle.store_monotone.specs.Operations.TopCells.{top_value, top_zero, top_state}

module _ {I : Type 0} where
  -- the greatest cells of a base
  abbrev pub top_base : IntegersOf I → Bases → BaseInfo → List (Cell I)
  top_base n all base = replicate (base_cells base) (Value (top_value n all)) ++ (replicate (length base.shape.zeros) (First (top_zero n)) ++ replicate (cond base.shape.heap 1 0) (State (top_state n)))

  abbrev pub top_bases : IntegersOf I → Bases → List BaseInfo → List (Cell I)
  top_bases n all [] = []
  top_bases n all (base ∷ bases) = top_base n all base ++ top_bases n all bases

  -- the greatest row, with so many temporaries
  abbrev pub top_row : IntegersOf I → Bases → List BaseInfo → ℕ → List (Cell I)
  top_row n all bases temps = top_bases n all bases ++ replicate temps (Value (top_value n all))
