-- What the parts of a gate come to.
use Rattle.std.specs.Prelude.{◌≡◌, ◌⊎◌, ℕ, List, Option, Some, None}
use Rattle.cc_base.specs.Outside.{Files}
use Rattle.cc_base.specs.DiagnosticOrder.{IsOrderedSet}
use Rattle.cc_base.specs.declared.diagnostics.Diag.{Diag}
use Rattle.c_layout.specs.declared.unit_tokens.Unit7.{Unit7}
use Rattle.c_preproc.specs.Causes.{Seen}
use Rattle.sarif.specs.Baselines.{baseline_read}
use Rattle.sarif.specs.Comparing.{fresh_of}
use Rattle.sarif.specs.declared.known_results.Known.{Known}
use Rattle.cli_texts.specs.Reports.{Bytes, report_of}
use Rattle.cli_texts.specs.FixedTexts.{no_baseline_text}
use Rattle.cli_answers.specs.Baselines.{IsBaseline}
use Rattle.cli_units.specs.Judging.{SettingView, Judgement, IsJudged}
use Rattle.cli_answers.specs.FurtherFiles.{HoldsShort}
use Rattle.cli_answers.specs.Verdicts.{Tells, RefusesFile, RefusesBase, report_status}
use Rattle.cli_answers.specs.Answering.{AnswersOwn}
use Rattle.cli_answers.specs.declared.further_files.Further.{Further}
use Rattle.cli_answers.specs.declared.further_files.Further.TheVariants as further
use Rattle.cli_answers.specs.declared.baseline_files.Baseline.{Baseline}
use Rattle.cli_answers.specs.declared.baseline_files.Baseline.TheVariants as baseline

-- the bytes of a further file, or the answer where it cannot be had
abbrev pub IsFurther : Seen → Bytes → Further → Type 0
IsFurther seen name (further.Held bytes) = HoldsShort seen.files name bytes.items
IsFurther seen name (further.Refused a) = Tells (RefusesFile seen name) a.status a.text.items

-- what bytes say is known, or the answer where they say nothing
abbrev pub IsBaselineOf : Bytes → Bytes → Baseline → Type 0
IsBaselineOf name bytes (baseline.Read known) = baseline_read bytes ≡ Some known.items
IsBaselineOf name bytes (baseline.Refused a) = (baseline_read bytes ≡ None) × (a.status ≡ 3) × (a.text.items ≡ no_baseline_text name)

-- what a file says is known, or the answer where it says nothing
abbrev pub IsBaselineIn : Seen → Bytes → Baseline → Type 0
IsBaselineIn seen name (baseline.Read known) = IsBaseline seen.files name known.items
IsBaselineIn seen name (baseline.Refused a) = Tells (RefusesBase seen name) a.status a.text.items

-- the answer to pairs that were found, without what is known
pub record AnswersNew (pairs : List Diag) (known : List Known) (names : List Bytes) (unit : Bytes) (status : ℕ) (text : Bytes) : Type 0 where
  pub all : List Diag
  pub listed : IsOrderedSet pairs all
  pub by_status : status ≡ report_status (fresh_of names known all)
  pub by_text : text ≡ report_of names unit (fresh_of names known all)

-- the answer to an accepted unit, without what is known
pub record AnswersGated (s : SettingView) (expanded : Unit7) (known : List Known) (names : List Bytes) (unit : Bytes) (status : ℕ) (text : Bytes) : Type 0 where
  pub found : Judgement
  pub judged : IsJudged expanded s found
  pub answers : AnswersNew found.pairs known names unit status text

-- the answer to a unit that was expanded, where its baseline is read
pub record AnswersAgainst (files : Option Files) (base : Bytes) (s : SettingView) (expanded : Unit7) (names : List Bytes) (unit : Bytes) (status : ℕ) (text : Bytes) : Type 0 where
  pub known : List Known
  pub is_baseline : IsBaseline files base known
  pub answers : AnswersOwn s expanded names unit status text ⊎ AnswersGated s expanded known names unit status text
