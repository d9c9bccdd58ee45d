-- The run of the unit, and what is supposed of it.
use Rattle.std.proofs.Common.{◌≡◌, [], ◌∷◌, Contains, codes, refl, sym, subst, arith}
use Rattle.cc_base.specs.Standard.{standard_limits}
use Rattle.cc_base.specs.declared.diagnostics.Rule.TheVariants as rule
use Rattle.c_layout.specs.Models.{lp64}
use Rattle.cfg.specs.declared.programs.Flow.{Flow}
use Rattle.memory_model.specs.Effects.Worlds.{Violation}
use Rattle.semantics.specs.SourceMachine.SourceRuns.{Run, found_in}
use Rattle.entry_sound.specs.Checked.CheckedStarts.{IsUnitOf}
use Rattle.cli_examples.specs.Analyses.WorkedAnalyses.{Map, IsWorkedProgram}
use Rattle.cli_examples.specs.Units.WorkedPlaces.{at}
use Rattle.cli_examples.specs.Units.WorkedTrees.{tree_with, checked_unit}
use Rattle.cli_examples.specs.Units.WorkedUnits.{IsCheckedTo}
use Rattle.cli_examples.specs.Reports.WorkedRuns.{DividesByZero}

abbrev violation : Violation
violation = record { at = at 24; rule = rule.Diverr }

found_is : found_in (Run checked_unit [] 40) ≡ violation ∷ []
found_is = refl

pub divides : DividesByZero
divides = record { violates = subst (λ vs. Contains vs violation) (sym found_is) (0, omega arith, refl); ends = refl }

-- ---- what the theorem on runs supposes

pub met : IsCheckedTo → (flow : Flow) × (larger : Map) × IsWorkedProgram flow larger → (flow : Flow) × IsUnitOf checked_unit flow
met checked_to (flow, larger, worked) = (
  flow,
  record { model = lp64; name = codes "main"; tree = tree_with 0; limits = standard_limits; checked = checked_to.there; lowered = worked.lowered.there; plain = refl },
)
