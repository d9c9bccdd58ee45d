-- What the looks at terms say.
use Rattle.std.specs.Prelude.{◌≡◌, Bool, true}
use Rattle.c_layout.specs.CheckedTrees.{TermTree}
use Rattle.c_layout.specs.CheckedUnits.{UnitView}
use Rattle.source_preservation.specs.WellTyped.WellTypedTerms.{WellTypedTerm, WellTypedCondition}
use Rattle.source_preservation.specs.Checks.LookedTerms.{is_well_typed_term, is_well_typed_condition}

-- a term that passes the look is marked
abbrev pub LooksMarkTerms : Type 0
LooksMarkTerms = (u : UnitView) (used : Bool) (e : TermTree) → is_well_typed_term u used e ≡ true → WellTypedTerm u used e

-- and so is a condition, with its tests
abbrev pub LooksMarkConditions : Type 0
LooksMarkConditions = (u : UnitView) (is_test : Bool) (e : TermTree) → is_well_typed_condition u is_test e ≡ true → WellTypedCondition u is_test e
