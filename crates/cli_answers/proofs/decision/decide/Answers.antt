use Rattle.std.proofs.Common.{◌∙◌, ap, sym, subst, map, string_bytes}
use Rattle.cli_words.specs.Words.Requests.{asked, asked_by}
use Rattle.cli_words.proofs.words.Steps.{HasSteps, steps_in_range}
use Rattle.cli_answers.proofs.Called.{helped_told, versioned_told, words_told}
use Rattle.cli_answers.proofs.decision.decide.Goals as goal

pub answer_replay-requires : goal.answer_replay-requires
answer_replay-requires g c =
    subst (λ a. HasSteps a) (sym c.in_ok-read_words.ensures ∙ ap asked_by c.in-Replay.is) (steps_in_range (map string_bytes c.args.words.now))

pub returns-in_ok-help-in-Help-clause-called : goal.returns-in_ok-help-in-Help-clause-called
returns-in_ok-help-in-Help-clause-called g c =
    helped_told _ (asked (map string_bytes c.args.words.now)) c.in_ok-help-in-Help.field-0.status c.in_ok-help-in-Help.field-0.text.items
    (sym c.in_ok-read_words.ensures ∙ ap asked_by c.in-Help.is) c.in_ok-help-in-Help.ensures.status c.in_ok-help-in-Help.ensures.text

pub returns-in_ok-version-in-Version-clause-called : goal.returns-in_ok-version-in-Version-clause-called
returns-in_ok-version-in-Version-clause-called g c =
    versioned_told _ (asked (map string_bytes c.args.words.now)) c.in_ok-version-in-Version.field-0.status c.in_ok-version-in-Version.field-0.text.items
    (sym c.in_ok-read_words.ensures ∙ ap asked_by c.in-Version.is) c.in_ok-version-in-Version.ensures.status c.in_ok-version-in-Version.ensures.text

pub returns-in_ok-words_refused-in-Refused-clause-called : goal.returns-in_ok-words_refused-in-Refused-clause-called
returns-in_ok-words_refused-in-Refused-clause-called g c =
    words_told _ (asked (map string_bytes c.args.words.now)) c.in_ok-words_refused-in-Refused.field-0.status c.in_ok-words_refused-in-Refused.field-0.text.items
    (sym c.in_ok-read_words.ensures ∙ ap asked_by c.in-Refused.is) c.in_ok-words_refused-in-Refused.ensures.status c.in_ok-words_refused-in-Refused.ensures.text
