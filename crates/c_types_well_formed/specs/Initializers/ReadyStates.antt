-- States in which bodies are typed, and steps that lead on from them.
use Rattle.std.specs.Prelude.{◌≡◌, true, Ok, Err}
use Rattle.c_layout.specs.CheckedUnits.{UnitView}
use Rattle.c_layout.specs.declared.data_model.Model.{Model}
use Rattle.c_types_scopes.specs.Refusals.{Ruled}
use Rattle.c_types_scopes.specs.States.{State, is_evaluated}
use Rattle.c_types_well_formed.specs.WellFormed.KnownTypes.{HasTypes}
use Rattle.c_types_well_formed.specs.WellFormed.UnitParts.{IsPartOf}
use Rattle.c_types_well_formed.specs.Layouts.LaidStructs.{HasLayouts}

-- what is known has types of the data model, structs are laid out, and expressions are evaluated
pub record IsReady (m : Model) (s : State) : Type 0 where
  pub numbers : s.known.numbers ≡ m
  pub evaluated : is_evaluated s ≡ true
  pub types : HasTypes s
  pub layouts : HasLayouts s

-- what a step gives at once, and in each unit that comes of the state behind it
abbrev pub Goes : {V : Type 0} → Model → State → (V → Type 0) → (UnitView → V → Type 0) → Ruled (V × State) → Type 0
Goes m s N P (Ok p) = IsReady m p.1 × N p.0 × ((u : UnitView) → IsPartOf p.1 u → IsPartOf s u × P u p.0)
Goes m s N P (Err f) = Unit {0}
