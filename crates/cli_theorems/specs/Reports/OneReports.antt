-- What there is one of, for a unit.
use Rattle.std.specs.Prelude.{◌≡◌, ℕ, List, Some}
use Rattle.cc_base.specs.Outside.{Files}
use Rattle.cc_base.specs.declared.diagnostics.Diag.{Diag}
use Rattle.c_layout.specs.declared.data_model.Model.{Model}
use Rattle.c_layout.specs.declared.unit_tokens.Unit7.{Unit7}
use Rattle.c_preproc.specs.Causes.{Seen}
use Rattle.cli_words.specs.Words.Requests.{CommandView}
use Rattle.cli_words.specs.Words.Requests as asked
use Rattle.cli_texts.specs.Reports.{Bytes}
use Rattle.cli_units.specs.Judging.{SettingView, Judgement, IsJudged}
use Rattle.cli_answers.specs.Verdicts.{Verdict, Gives, FromFiles, FromBytes, IsReport, IsSummary, IsVerdict}
use Rattle.cli_theorems.specs.Units.Told.{IsAcceptedCheck}
use Rattle.cli_theorems.specs.Units.ToldLoad.{IsAcceptedLoad}

abbrev pub OneJudgement : Type 0
OneJudgement = (unit : Unit7) (s : SettingView) (j k : Judgement) → IsJudged unit s j → IsJudged unit s k → j ≡ k

-- the same names and the same diagnostics
abbrev pub SameReports : Gives → SettingView → Type 0
SameReports given s = (names others : List Bytes) (diags more : List Diag) → IsReport given s names diags → IsReport given s others more → (names ≡ others) × (diags ≡ more)

-- of a unit that is read
abbrev pub OneReport : Type 0
OneReport = (held : Files) (dirs : List Bytes) (m : Model) (main : Bytes) (s : SettingView) → SameReports (FromFiles (Some held) dirs m main) s

-- the same counts of bases and cells and the same diagnostics
abbrev pub SameSummaries : Gives → SettingView → Type 0
SameSummaries given s =
    (names others : List Bytes) (bases bases' cells cells' : ℕ) (diags more : List Diag) → IsSummary given s names bases cells diags → IsSummary given s others bases' cells' more → (bases ≡ bases') × (cells ≡ cells') × (diags ≡ more)

-- of a unit that was made
abbrev pub OneSummary : Type 0
OneSummary = (held : Files) (m : Model) (main bytes : Bytes) (s : SettingView) → SameSummaries (FromBytes (Some held) m main bytes) s

-- what is told of an accepted unit
abbrev pub OneVerdict : Type 0
OneVerdict = (seen : Seen) (c : CommandView) → IsAcceptedCheck seen c → (v w : Verdict) → IsVerdict seen (asked.Check c) v → IsVerdict seen (asked.Check c) w → v ≡ w

-- and of one that was made
abbrev pub OneLoadVerdict : Type 0
OneLoadVerdict = (seen : Seen) (c : CommandView) → IsAcceptedLoad seen c → (v w : Verdict) → IsVerdict seen (asked.Load c) v → IsVerdict seen (asked.Load c) w → v ≡ w
