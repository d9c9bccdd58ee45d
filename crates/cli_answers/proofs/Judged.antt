-- The answer to a unit that was judged is one of the answers that it may have.
use Rattle.std.proofs.Common.{◌⊎◌, ℕ, List, Result, Ok, Err, IfOk, inr}
use Rattle.c_layout.specs.declared.unit_tokens.Unit7.{Unit7}
use Rattle.sarif.specs.declared.known_results.Known.{Known}
use Rattle.cli_words.specs.declared.words.commands.Format.{Format}
use Rattle.cli_texts.specs.Reports.{Bytes}
use Rattle.cli_texts.specs.declared.answers.Answer.{Answer}
use Rattle.cli_units.specs.Judging.{SettingView, Judgement, IsJudged}
use Rattle.cli_answers.specs.Answering.{AnswersReport, AnswersSummary, AnswersOwn, AnswersJudged, AnswersMade}
use Rattle.cli_answers.specs.Gates.{AnswersNew, AnswersGated}

module _ {E : Type 0} (s : SettingView) (u : Unit7) (names : List Bytes) (unit : Bytes) (found : Judgement) (j : IsJudged u s found) where
  pub report_told : (form : Format) (r : Result Answer E) → IfOk r (λ a. AnswersReport found.pairs form names unit a.status a.text.items) → IfOk r (λ a. AnswersOwn s u names unit a.status a.text.items ⊎ AnswersJudged s u form names unit a.status a.text.items)
  report_told form (Ok a) h = inr (record { found = found; judged = j; answers = h })
  report_told form (Err e) h = tt

  pub summary_told : (r : Result Answer E) → IfOk r (λ a. AnswersSummary found unit a.status a.text.items) → IfOk r (λ a. AnswersOwn s u names unit a.status a.text.items ⊎ AnswersMade s u unit a.status a.text.items)
  summary_told (Ok a) h = inr (record { found = found; judged = j; answers = h })
  summary_told (Err e) h = tt

  pub new_told : (known : List Known) (r : Result Answer E) → IfOk r (λ a. AnswersNew found.pairs known names unit a.status a.text.items) → IfOk r (λ a. AnswersOwn s u names unit a.status a.text.items ⊎ AnswersGated s u known names unit a.status a.text.items)
  new_told known (Ok a) h = inr (record { found = found; judged = j; answers = h })
  new_told known (Err e) h = tt
