-- Completeness: where each stage accepts a unit and what a verb reads beside it is held, the unit is not refused: its report,
-- its certificate or its run is told, unless a device gives out or memory does.
use Rattle.std.specs.Prelude.{◌≡◌, ◌≤◌, ◌⊎◌, ℕ, ℤ, List, length, Option, Some, None}
use Rattle.cc_base.specs.Outside.{Files, Rose, file_at}
use Rattle.cc_base.specs.declared.diagnostics.Diag.{Diag}
use Rattle.c_layout.specs.declared.data_model.Model.{Model}
use Rattle.c_preproc.specs.Causes.{Seen}
use Rattle.sarif.specs.Baselines.{baseline_read}
use Rattle.sarif.specs.declared.known_results.Known.{Known}
use Rattle.cli_words.specs.Draws.DrawsFiles.{draws_in}
use Rattle.cli_words.specs.Words.Requests.{Asked, CommandView}
use Rattle.cli_words.specs.Words.Requests as asked
use Rattle.cli_texts.specs.LoadUnits.{load_of}
use Rattle.cli_texts.specs.Reports.{Bytes}
use Rattle.cli_texts.specs.Summaries.{summary_of}
use Rattle.cli_units.specs.Judging.{judging}
use Rattle.cli_answers.specs.Outcomes.{Took, PutNothing, PutOnce}
use Rattle.cli_answers.specs.Verdicts.{report_status, FromFiles, FromBytes, IsSummary, load_setting}
use Rattle.cli_theorems.specs.Units.GivenModels.{IsGivenModel}
use Rattle.cli_theorems.specs.Units.Told.{IsTaken, IsAcceptedCheck, ToldReport}
use Rattle.cli_theorems.specs.Units.ToldLoad.{IsAcceptedLoad}
use Rattle.cli.specs.Command.AnsweredRuns.{IsAccepting}

-- ---- what is told

-- the summary was put whole, in one call
pub record ToldSummary (seen : Seen) (c : CommandView) (m : Model) (sink : Took) (status : ℕ) : Type 0 where
  pub names : List Bytes
  pub bases : ℕ
  pub cells : ℕ
  pub diags : List Diag
  pub is_summary : IsSummary (FromBytes seen.files m c.unit (load_of c.seed c.count)) (load_setting m) names bases cells diags
  pub by_status : status ≡ report_status diags
  pub put : PutOnce sink (summary_of c.unit bases cells diags)

-- a read failed, the write failed, or memory ran out
abbrev pub GaveOut : Seen → Took → ℕ → Type 0
GaveOut seen sink status = ((status ≡ 5) × Rose seen.faults seen.faults_now × PutNothing sink) ⊎ (((status ≡ 6) × Rose sink.faults sink.faults_now) ⊎ ((status ≡ 7) × PutNothing sink))

-- ---- what is held

-- the files are told, a model is given, and the unit is accepted with no loop unrolled
pub record IsAcceptedUnit (seen : Seen) (c : CommandView) : Type 0 where
  pub held : Files
  pub told : seen.files ≡ Some held
  pub model : Model
  pub given : IsGivenModel held c.model model
  pub taken : IsTaken (FromFiles seen.files c.dirs model c.unit) (judging model c.entry None)

-- a further file is held, and is no longer than a file may be
pub record IsHeldShort (held : Files) (name : Bytes) : Type 0 where
  pub bytes : Bytes
  pub is : file_at held name ≡ Some bytes
  pub short : length bytes ≤ 1048576

-- one that is a report
pub record IsHeldBaseline (held : Files) (name : Bytes) : Type 0 where
  pub file : IsHeldShort held name
  pub known : List Known
  pub reads : baseline_read file.bytes ≡ Some known

-- one that has draws
pub record IsHeldDraws (held : Files) (name : Bytes) : Type 0 where
  pub file : IsHeldShort held name
  pub draws : List ℤ
  pub reads : draws_in file.bytes ≡ Some draws

-- draws are had: where no file is named there are none
abbrev pub AreHeldDraws : Files → Option Bytes → Type 0
AreHeldDraws held None = Unit {0}
AreHeldDraws held (Some name) = IsHeldDraws held name

-- ---- verb by verb

-- of `check` and `load` the text itself is told; of the others the status stands here, and the other clauses have what is told
-- with it: 8 of `prove` is a certificate that is too long, 9 of `verify` one that is refused, 8 of `replay` too much memory
pub record IsComplete (seen : Seen) (words : Asked) (sink : Took) (status : ℕ) : Type 0 where
  pub check : (c : CommandView) → words ≡ asked.Check c → (a : IsAcceptedCheck seen c) → ToldReport seen c a.model sink status ⊎ GaveOut seen sink status
  pub load : (c : CommandView) → words ≡ asked.Load c → (a : IsAcceptedLoad seen c) → ToldSummary seen c a.model sink status ⊎ GaveOut seen sink status
  pub gate : (c : CommandView) (base : Bytes) → words ≡ asked.Gate c base → (a : IsAcceptedUnit seen c) → IsHeldBaseline a.held base → IsAccepting status ⊎ GaveOut seen sink status
  pub prove : (c : CommandView) → words ≡ asked.Prove c → (a : IsAcceptedUnit seen c) → ((status ≡ 0) ⊎ (status ≡ 8)) ⊎ GaveOut seen sink status
  pub verify : (c : CommandView) (cert : Bytes) → words ≡ asked.Verify c cert → (a : IsAcceptedUnit seen c) → IsHeldShort a.held cert → (IsAccepting status ⊎ (status ≡ 9)) ⊎ GaveOut seen sink status
  pub replay : (c : CommandView) (draws : Option Bytes) → words ≡ asked.Replay c draws → (a : IsAcceptedUnit seen c) → AreHeldDraws a.held draws → (IsAccepting status ⊎ (status ≡ 8)) ⊎ GaveOut seen sink status
