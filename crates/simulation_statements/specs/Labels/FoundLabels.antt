-- Labels that stand in the body of a function are found there.
use Rattle.std.specs.Prelude.{◌≡◌, ℕ, List, Option, Some}
use Rattle.c_layout.specs.CheckedTrees.{statement_trees}
use Rattle.c_layout.specs.CheckedUnits.{UnitView, FunctionView}
use Rattle.semantics.specs.SourceMachine.Items.{Item}
use Rattle.semantics.specs.SourceMachine.LabelSearch.{from_label}
use Rattle.simulation_terms.specs.Scopes.SuitedStatements.{Enclosure, HasLabel, AllSuitIn}

-- something is left to do
pub record IsThere (found : Option (List Item)) : Type 0 where
  pub to : List Item
  pub is : found ≡ Some to

abbrev pub LabelsAreFound : Type 0
LabelsAreFound = (u : UnitView) (f : FunctionView) (enclosed : Enclosure) (known : List ℕ) → AllSuitIn u f enclosed known (statement_trees f.body) → (l : ℕ) → HasLabel f l → IsThere (from_label u f l)
