-- What `load` tells of the unit that it makes, where each stage accepts that: its summary.
use Rattle.std.specs.Prelude.{◌≡◌, ℕ, List, Some}
use Rattle.cc_base.specs.Outside.{Files}
use Rattle.cc_base.specs.declared.diagnostics.Diag.{Diag}
use Rattle.c_layout.specs.declared.data_model.Model.{Model}
use Rattle.c_preproc.specs.Causes.{Seen}
use Rattle.cli_words.specs.Words.Requests.{CommandView}
use Rattle.cli_words.specs.Words.Requests as asked
use Rattle.cli_texts.specs.LoadUnits.{load_of}
use Rattle.cli_texts.specs.Reports.{Bytes}
use Rattle.cli_answers.specs.Verdicts.{Verdict, summed, FromBytes, IsSummary, IsVerdict, load_setting}
use Rattle.cli_theorems.specs.Units.GivenModels.{IsGivenModel}
use Rattle.cli_theorems.specs.Units.Told.{IsTaken}

-- the files are told, a model is given, and the unit that is made is accepted
pub record IsAcceptedLoad (seen : Seen) (c : CommandView) : Type 0 where
  pub held : Files
  pub told : seen.files ≡ Some held
  pub model : Model
  pub given : IsGivenModel held c.model model
  pub taken : IsTaken (FromBytes seen.files model c.unit (load_of c.seed c.count)) (load_setting model)

-- the summary of the unit
pub record IsItsSummary (seen : Seen) (c : CommandView) (m : Model) (v : Verdict) : Type 0 where
  pub names : List Bytes
  pub bases : ℕ
  pub cells : ℕ
  pub diags : List Diag
  pub sums : v ≡ summed c.unit bases cells diags
  pub is_summary : IsSummary (FromBytes seen.files m c.unit (load_of c.seed c.count)) (load_setting m) names bases cells diags

-- a verdict of `load` that is called for is the summary
abbrev pub AcceptedIsSummed : Type 0
AcceptedIsSummed = (seen : Seen) (c : CommandView) (a : IsAcceptedLoad seen c) (v : Verdict) → IsVerdict seen (asked.Load c) v → IsItsSummary seen c a.model v
