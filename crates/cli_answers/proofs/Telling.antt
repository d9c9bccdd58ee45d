-- What a call of the program came to.
use Rattle.std.proofs.Common.{ℕ, refl}
use Rattle.c_preproc.specs.Causes.{Seen}
use Rattle.cli_words.specs.Words.Requests.{Asked}
use Rattle.cli_texts.specs.Reports.{Bytes}
use Rattle.cli_answers.specs.Verdicts.{Tells, IsVerdict}
use Rattle.cli_answers.specs.Outcomes.{Took, PutOnce, PutFailed, told, write_fault, Answers}

pub told_answers : (seen : Seen) (asked : Asked) (sink : Took) (status : ℕ) (text : Bytes) → Tells (IsVerdict seen asked) status text → PutOnce sink text → Answers seen asked sink status
told_answers seen asked sink status text called put = record { outcome = told status text; by_status = refl; happened = (called, put) }

pub failed_answers : (seen : Seen) (asked : Asked) (sink : Took) (status : ℕ) (text : Bytes) → Tells (IsVerdict seen asked) status text → PutFailed sink text → Answers seen asked sink 6
failed_answers seen asked sink status text called put = record { outcome = write_fault status text; by_status = refl; happened = (called, put) }
