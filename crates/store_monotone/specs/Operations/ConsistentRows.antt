-- Rows whose pointer parts are consistent.
use Rattle.std.specs.Prelude.{◌≡◌, true, Option, Some, None, List, [], ◌∷◌}
use Rattle.cc_base.specs.IntegerDomains.{IntegersOf}
use Rattle.value_domain.specs.declared.values.row_cells.Cell.{Cell}
use Rattle.value_domain.specs.declared.values.row_cells.Cell.TheVariants.{Nothing, Value, First, State, Mixed}
use Rattle.domain_theorems.specs.Values.Consistency.{AreWords, is_consistent}

module _ {I : Type 0} (n : IntegersOf I) where
  -- the pointer part of a value is consistent, and its set of bases is of words
  abbrev pub IsConsistentCell : Cell I → Type 0
  IsConsistentCell Nothing = Unit {0}
  IsConsistentCell (Value v) = AreWords v.pointer.bases × (is_consistent n v.pointer ≡ true)
  IsConsistentCell (First f) = Unit {0}
  IsConsistentCell (State s) = Unit {0}
  IsConsistentCell Mixed = Unit {0}

  abbrev pub AreConsistent : List (Cell I) → Type 0
  AreConsistent [] = Unit {0}
  AreConsistent (c ∷ cs) = IsConsistentCell c × AreConsistent cs

  -- the row that is left, where one is
  abbrev pub IsLeftConsistent : Option (List (Cell I)) → Type 0
  IsLeftConsistent None = Unit {0}
  IsLeftConsistent (Some row) = AreConsistent row
