-- What happened, as far as a status tells it.
use Rattle.std.specs.Prelude.{◌≡◌, ℕ, Some}
use Rattle.c_preproc.specs.Causes.{Seen}
use Rattle.cli_texts.specs.Reports.{Bytes}
use Rattle.cli_words.specs.Words.Requests.{Asked}
use Rattle.cli_answers.specs.Outcomes.{Took, Outcome, Answers, told, read_fault, write_fault, no_memory}

-- none of the statuses that stand for a fault or for want of memory
abbrev pub IsTold : ℕ → Type 0
IsTold status = (status ≡ 5 → ⊥) × (status ≡ 6 → ⊥) × (status ≡ 7 → ⊥)

-- 5 is a read that failed, 6 the write of a text, 7 want of memory; with each other status a text was put
abbrev pub IsByStatus : ℕ → Outcome → Type 0
IsByStatus status (told answer text) = IsTold status
IsByStatus status read_fault = status ≡ 5
IsByStatus status (write_fault answer text) = status ≡ 6
IsByStatus status no_memory = status ≡ 7

abbrev pub OutcomeByStatus : Type 0
OutcomeByStatus = (seen : Seen) (asked : Asked) (sink : Took) (status : ℕ) (a : Answers seen asked sink status) → IsByStatus status a.outcome

-- the same outcomes, but for the text that could not be written
abbrev pub IsAlike : Outcome → Outcome → Type 0
IsAlike (told status text) (told other also) = (status ≡ other) × (text ≡ also)
IsAlike read_fault read_fault = Unit {0}
IsAlike (write_fault status text) (write_fault other also) = Unit {0}
IsAlike no_memory no_memory = Unit {0}
IsAlike _ _ = ⊥

-- where the sink is told, an answer has one outcome, and with it one text
abbrev pub OneOutcome : Type 0
OneOutcome = (seen : Seen) (asked : Asked) (sink : Took) (status : ℕ) (before : Bytes) → sink.written ≡ Some before → (a b : Answers seen asked sink status) → IsAlike a.outcome b.outcome
