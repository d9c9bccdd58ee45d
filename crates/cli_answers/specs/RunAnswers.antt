-- What the parts of a replay come to.
use Rattle.std.specs.Prelude.{◌≡◌, ◌⊎◌, ℕ, ℤ, List, Option, Some, None, codes}
use Rattle.cc_base.specs.Outside.{Files}
use Rattle.c_layout.specs.declared.unit_tokens.Unit7.{Unit7}
use Rattle.c_preproc.specs.Causes.{Seen}
use Rattle.cli_words.specs.Draws.DrawsFiles.{draws_in}
use Rattle.cli_texts.specs.Reports.{Bytes, file_name, replay_of}
use Rattle.cli_texts.specs.Refusals.{limit_line}
use Rattle.cli_texts.specs.FixedTexts.{no_draws_text}
use Rattle.cli_units.specs.Judging.{SettingView}
use Rattle.cli_units.specs.Replaying.{end_word, RunAnswer, ran, large, IsReplayed}
use Rattle.cli_answers.specs.FurtherFiles.{IsDraws}
use Rattle.cli_answers.specs.Verdicts.{Tells, RefusesDraws, report_status}
use Rattle.cli_answers.specs.Answering.{AnswersOwn}
use Rattle.cli_answers.specs.declared.draws_files.Draws.{Draws}
use Rattle.cli_answers.specs.declared.draws_files.Draws.TheVariants as chosen

-- the draws that bytes have, or the answer where they are of another form
abbrev pub AreDrawsOf : Bytes → Bytes → Draws → Type 0
AreDrawsOf name bytes (chosen.Read numbers) = draws_in bytes ≡ Some numbers.items
AreDrawsOf name bytes (chosen.Refused a) = (draws_in bytes ≡ None) × (a.status ≡ 3) × (a.text.items ≡ no_draws_text name)

-- the draws that a run is given, or the answer where they cannot be had
abbrev pub AreDrawsIn : Seen → Option Bytes → Draws → Type 0
AreDrawsIn seen file (chosen.Read numbers) = IsDraws seen.files file numbers.items
AreDrawsIn seen file (chosen.Refused a) = Tells (RefusesDraws seen file) a.status a.text.items

-- the answer to what a run comes to
abbrev pub AnswersEnd : RunAnswer → List Bytes → Bytes → ℕ → Bytes → Type 0
AnswersEnd (ran outcome) names unit status text = (status ≡ report_status outcome.diags) × (text ≡ replay_of names unit outcome.diags (end_word outcome.end) outcome.used)
AnswersEnd (large place count limit) names unit status text = (status ≡ 8) × (text ≡ limit_line (file_name names unit place.file) place (codes "ReplayMemory") count limit)

-- the answer to the run of an accepted unit
pub record AnswersRan (s : SettingView) (expanded : Unit7) (numbers : List ℤ) (steps : ℕ) (names : List Bytes) (unit : Bytes) (status : ℕ) (text : Bytes) : Type 0 where
  pub answer : RunAnswer
  pub replayed : IsReplayed expanded s numbers steps answer
  pub answers : AnswersEnd answer names unit status text

-- the answer to a unit that was expanded, where the draws of its run are had
pub record AnswersOver (files : Option Files) (file : Option Bytes) (s : SettingView) (expanded : Unit7) (steps : ℕ) (names : List Bytes) (unit : Bytes) (status : ℕ) (text : Bytes) : Type 0 where
  pub numbers : List ℤ
  pub are_draws : IsDraws files file numbers
  pub answers : AnswersOwn s expanded names unit status text ⊎ AnswersRan s expanded numbers steps names unit status text
