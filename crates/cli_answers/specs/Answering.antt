-- What the parts of the decision answer.
use Rattle.std.specs.Prelude.{◌≡◌, ℕ, List}
use Rattle.cc_base.specs.DiagnosticOrder.{IsOrderedSet}
use Rattle.cc_base.specs.declared.diagnostics.Diag.{Diag}
use Rattle.cc_base.specs.declared.refusals.Fault.{Fault}
use Rattle.cc_base.specs.declared.refusals.Stop.{Stop}
use Rattle.cc_base.specs.declared.refusals.Stop.TheVariants as stop
use Rattle.c_layout.specs.declared.unit_tokens.Unit7.{Unit7}
use Rattle.cli_words.specs.declared.words.commands.Format.{Format}
use Rattle.cli_texts.specs.Reports.{Bytes, file_name}
use Rattle.cli_texts.specs.Refusals.{refusal_line, refusal_status}
use Rattle.cli_texts.specs.FixedTexts.{no_file_text}
use Rattle.cli_texts.specs.Summaries.{summary_of}
use Rattle.cli_units.specs.Stages.{stage_of}
use Rattle.cli_units.specs.declared.stages.Stage.{Stage}
use Rattle.cli_units.specs.declared.stages.Stage.TheVariants as stage
use Rattle.cli_units.specs.Judging.{SettingView, Judgement, IsJudged, RefusesUnit}
use Rattle.cli_answers.specs.Verdicts.{report_status, report_in}

-- the answer to a refusal
abbrev pub AnswersFault : List Bytes → Bytes → Fault → ℕ → Bytes → Type 0
AnswersFault names unit f status text = (status ≡ refusal_status f.refusal) × (text ≡ refusal_line (file_name names unit f.place.file) f.place f.refusal)

-- the stages of the refusals that an expansion has
abbrev pub IsEarly : Stage → Type 0
IsEarly stage.Expansion = Unit {0}
IsEarly stage.Numbers = Unit {0}
IsEarly stage.Grammar = ⊥
IsEarly stage.Typing = ⊥
IsEarly stage.Counting = ⊥

-- the answer where the expansion stopped, by a refusal of its own
abbrev pub AnswersStop : List Bytes → Bytes → Stop → ℕ → Bytes → Type 0
AnswersStop names unit (stop.Refused f) status text = AnswersFault names unit f status text × IsEarly (stage_of f.refusal)
AnswersStop names unit stop.NotHeld status text = (status ≡ 4) × (text ≡ no_file_text unit)
AnswersStop names unit stop.ReadFault status text = ⊥
AnswersStop names unit stop.Memory status text = ⊥

-- the answer to a refusal of a stage behind the expansion
pub record AnswersOwn (s : SettingView) (expanded : Unit7) (names : List Bytes) (unit : Bytes) (status : ℕ) (text : Bytes) : Type 0 where
  pub why : Fault
  pub refuses : RefusesUnit expanded s why
  pub answers : AnswersFault names unit why status text

-- the answer to an accepted unit
pub record AnswersReport (pairs : List Diag) (form : Format) (names : List Bytes) (unit : Bytes) (status : ℕ) (text : Bytes) : Type 0 where
  pub diags : List Diag
  pub listed : IsOrderedSet pairs diags
  pub by_status : status ≡ report_status diags
  pub by_text : text ≡ report_in form names unit diags

-- the answer to an accepted unit that was made
pub record AnswersSummary (j : Judgement) (unit : Bytes) (status : ℕ) (text : Bytes) : Type 0 where
  pub diags : List Diag
  pub listed : IsOrderedSet j.pairs diags
  pub by_status : status ≡ report_status diags
  pub by_text : text ≡ summary_of unit j.bases j.cells diags

-- the answer to a unit that was expanded, in a form
pub record AnswersJudged (s : SettingView) (expanded : Unit7) (form : Format) (names : List Bytes) (unit : Bytes) (status : ℕ) (text : Bytes) : Type 0 where
  pub found : Judgement
  pub judged : IsJudged expanded s found
  pub answers : AnswersReport found.pairs form names unit status text

-- the answer to a unit that was made and expanded
pub record AnswersMade (s : SettingView) (expanded : Unit7) (unit : Bytes) (status : ℕ) (text : Bytes) : Type 0 where
  pub found : Judgement
  pub judged : IsJudged expanded s found
  pub answers : AnswersSummary found unit status text
