-- What the clauses of `run` say of an answer 0 or 1, by what the words ask for, and of each answer.
use Rattle.std.specs.Prelude.{◌≡◌, ◌≤◌, ℕ, List, Option, String, map, string_bytes}
use Rattle.cc_base.specs.Outside.{Files}
use Rattle.c_preproc.specs.Causes.{Seen, seen_of}
use Rattle.analysis_determined.specs.LeastMaps.ExactAnalyses.{AnalysesAreExact}
use Rattle.certificate_theorems.specs.Proved.ProvedTexts.{CertificatesAreLeast}
use Rattle.cli_words.specs.Words.Requests.{Asked, CommandView}
use Rattle.cli_words.specs.Words.Requests as asked
use Rattle.cli_texts.specs.Reports.{Bytes}
use Rattle.cli_answers.specs.Outcomes.{Took, took, Answers}
pub use Rattle.cli.specs.Command.CompleteAnswers.{IsComplete}
use Rattle.cli.specs.Command.AnsweredRuns.{TellsRuns, IsAccepting}
use Rattle.cli.specs.Command.GatedRuns.{TellsFreshRuns}
use Rattle.cli.specs.Command.VerifiedRuns.{TellsVerifiedRuns}
use Rattle.cli.specs.Command.ToldReplays.{TellsReplay}

-- what a call sees: its files, and how many faults there were and reads it took, before and behind it
abbrev pub call_seen : Option Files → ℕ → ℕ → ℕ → ℕ → Seen
call_seen files faults faults_now taken taken_now = seen_of files faults faults_now taken taken_now

-- what the words behind the program's name ask for
abbrev pub words_asked : {A : Type 0} → List (String A) → Asked
words_asked words = asked.asked (map string_bytes words)

-- what a call puts: the text, how many faults there were and how often it was put, before and behind it
abbrev pub call_put : Option Bytes → Option Bytes → ℕ → ℕ → ℕ → ℕ → Took
call_put written written_now faults faults_now calls calls_now = took written written_now faults faults_now calls calls_now

-- text and status are those that the definitions call for
abbrev pub IsAnswered : Seen → Asked → Took → ℕ → Type 0
IsAnswered seen words sink status = Answers seen words sink status

-- `check` has told its report, which holds what runs of the unit violate
abbrev pub RunsAreTold : Seen → Asked → Took → ℕ → Type 0
RunsAreTold seen words sink status = (c : CommandView) → words ≡ asked.Check c → IsAccepting status → TellsRuns seen c sink status

-- `gate` has told what its baseline does not hold of such a report
abbrev pub FreshRunsAreTold : Seen → Asked → Took → ℕ → Type 0
FreshRunsAreTold seen words sink status = (c : CommandView) (base : Bytes) → words ≡ asked.Gate c base → IsAccepting status → TellsFreshRuns seen c base sink status

-- `verify` has told what an accepted certificate shows, which holds what runs of the unit violate
abbrev pub VerifiedRunsAreTold : Seen → Asked → Took → ℕ → Type 0
VerifiedRunsAreTold seen words sink status = (c : CommandView) (cert : Bytes) → words ≡ asked.Verify c cert → IsAccepting status → TellsVerifiedRuns seen c cert sink status

-- `replay` has told the pairs of one run, which stand in the reports of the unit
abbrev pub ReplayIsTold : Seen → Asked → Took → ℕ → Type 0
ReplayIsTold seen words sink status = (c : CommandView) (draws : Option Bytes) → words ≡ asked.Replay c draws → IsAccepting status → TellsReplay seen c draws sink status

-- files stay as they are
abbrev pub FilesStay : Option Files → Option Files → Type 0
FilesStay before behind = behind ≡ before

-- no count falls
abbrev pub NoFewer : ℕ → ℕ → Type 0
NoFewer before behind = before ≤ behind

-- what an analysis finds is just what every inductive map of its program's system admits, and the map of a certificate is
-- the least one
pub record MapsAreLeast : Type 0 where
  pub analyses : AnalysesAreExact
  pub certificates : CertificatesAreLeast
