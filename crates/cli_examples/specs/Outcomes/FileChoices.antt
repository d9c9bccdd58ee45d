-- What files that are told give: one model, one expansion, one baseline and one list of draws.
use Rattle.std.specs.Prelude.{◌≡◌, ℤ, List, Some, Ok, Err}
use Rattle.cc_base.specs.Outside.{Files}
use Rattle.cc_base.specs.declared.diagnostics.Diag.{Diag}
use Rattle.cc_base.specs.declared.refusals.Fault.{Fault}
use Rattle.cc_base.specs.declared.refusals.Stop.TheVariants as stop
use Rattle.c_layout.specs.declared.data_model.Model.{Model}
use Rattle.c_layout.specs.declared.unit_tokens.Unit7.{Unit7}
use Rattle.sarif.specs.declared.known_results.Known.{Known}
use Rattle.cli_texts.specs.Reports.{Bytes}
use Rattle.cli_answers.specs.Baselines.{IsBaseline, IsFreshOf}
use Rattle.cli_answers.specs.FurtherFiles.{HoldsDraws}
use Rattle.cli_answers.specs.Verdicts.{HasModel, FromFiles, IsExpanded}

abbrev pub OneModel : Type 0
OneModel = (held : Files) (name : Bytes) (m other : Model) → HasModel (Some held) name m → HasModel (Some held) name other → m ≡ other

-- the tokens of a unit and the names of its files
abbrev pub OneExpansion : Type 0
OneExpansion =
    (held : Files) (dirs : List Bytes) (main : Bytes) (m : Model) (names others : List Bytes) (u v : Unit7) →
    IsExpanded (FromFiles (Some held) dirs m main) m names u → IsExpanded (FromFiles (Some held) dirs m main) m others v → (u ≡ v) × (names ≡ others)

-- or its refusal, and no tokens then
abbrev pub OneRefusal : Type 0
OneRefusal =
    (held : Files) (dirs : List Bytes) (main : Bytes) (m : Model) (names others : List Bytes) (f g : Fault) →
    FromFiles (Some held) dirs m main names (Err (stop.Refused f)) → FromFiles (Some held) dirs m main others (Err (stop.Refused g)) → (f ≡ g) × (names ≡ others)

abbrev pub RefusedOrExpanded : Type 0
RefusedOrExpanded =
    (held : Files) (dirs : List Bytes) (main : Bytes) (m : Model) (names others : List Bytes) (u : Unit7) (f : Fault) →
    FromFiles (Some held) dirs m main names (Ok u) → FromFiles (Some held) dirs m main others (Err (stop.Refused f)) → ⊥

abbrev pub OneBaseline : Type 0
OneBaseline = (held : Files) (name : Bytes) (known other : List Known) → IsBaseline (Some held) name known → IsBaseline (Some held) name other → known ≡ other

-- so there is one list of what a baseline leaves of diagnostics
abbrev pub OneFreshList : Type 0
OneFreshList =
    (held : Files) (name : Bytes) (names : List Bytes) (all diags others : List Diag) → IsFreshOf (Some held) name names all diags → IsFreshOf (Some held) name names all others → diags ≡ others

abbrev pub OneListOfDraws : Type 0
OneListOfDraws = (held : Files) (name : Bytes) (draws others : List ℤ) → HoldsDraws (Some held) name draws → HoldsDraws (Some held) name others → draws ≡ others
