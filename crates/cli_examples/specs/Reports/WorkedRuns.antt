-- The run of the unit, which ends by the division.
use Rattle.std.specs.Prelude.{◌≡◌, []}
use Rattle.cc_base.specs.declared.diagnostics.Rule.TheVariants as rule
use Rattle.semantics.specs.SourceMachine.RunFacts.{Violates, Violation, end_of}
use Rattle.semantics.specs.SourceMachine.SourceRuns.{Run}
use Rattle.cli_examples.specs.Units.WorkedPlaces.{at}
use Rattle.cli_examples.specs.Units.WorkedTrees.{checked_unit}

-- so what the report has to hold is there, and no run is stuck before
pub record DividesByZero : Type 0 where
  pub violates : Violates checked_unit [] 40 rule.Diverr (at 24)
  pub ends : end_of (Run checked_unit [] 40) ≡ Violation
