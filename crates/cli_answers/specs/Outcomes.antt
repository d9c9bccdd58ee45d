-- What a call of the program came to: what it told, or which device gave out.
use Rattle.std.specs.Prelude.{◌≡◌, ℕ, Option}
use Rattle.cc_base.specs.Outside.{Rose, Appends, AppendsPrefix, next_count}
use Rattle.c_preproc.specs.Causes.{Seen}
use Rattle.cli_words.specs.Words.Requests.{Asked}
use Rattle.cli_texts.specs.Reports.{Bytes}
use Rattle.cli_answers.specs.Verdicts.{Tells, IsVerdict}

-- the sink before and after the call
pub record Took : Type 0 where
  pub written : Option Bytes
  pub written_now : Option Bytes
  pub faults : ℕ
  pub faults_now : ℕ
  pub calls : ℕ
  pub calls_now : ℕ

-- nothing was put
pub record PutNothing (sink : Took) : Type 0 where
  pub same : sink.written_now ≡ sink.written
  pub quiet : sink.calls_now ≡ sink.calls

-- a text was put whole, in one call
pub record PutOnce (sink : Took) (text : Bytes) : Type 0 where
  pub whole : Appends sink.written text sink.written_now
  pub once : sink.calls_now ≡ next_count sink.calls

-- a text was put in one call, which failed
pub record PutFailed (sink : Took) (text : Bytes) : Type 0 where
  pub front : AppendsPrefix sink.written text sink.written_now
  pub once : sink.calls_now ≡ next_count sink.calls
  pub fault : Rose sink.faults sink.faults_now

pub data Outcome : Type 0 where
  told : (status : ℕ) (text : Bytes) → Outcome
  read_fault : Outcome
  write_fault : (status : ℕ) (text : Bytes) → Outcome
  no_memory : Outcome

abbrev pub status_at : Outcome → ℕ
status_at (told status text) = status
status_at read_fault = 5
status_at (write_fault status text) = 6
status_at no_memory = 7

-- what happened: a text that is called for was put whole, a read failed, the write of such a text failed,
-- or memory ran out
abbrev pub Happened : Seen → Asked → Took → Outcome → Type 0
Happened seen asked sink (told status text) = Tells (IsVerdict seen asked) status text × PutOnce sink text
Happened seen asked sink read_fault = Rose seen.faults seen.faults_now × PutNothing sink
Happened seen asked sink (write_fault status text) = Tells (IsVerdict seen asked) status text × PutFailed sink text
Happened seen asked sink no_memory = PutNothing sink

-- every answer of the program with what happened
pub record Answers (seen : Seen) (asked : Asked) (sink : Took) (status : ℕ) : Type 0 where
  pub outcome : Outcome
  pub by_status : status ≡ status_at outcome
  pub happened : Happened seen asked sink outcome

abbrev pub took : Option Bytes → Option Bytes → ℕ → ℕ → ℕ → ℕ → Took
took written written_now faults faults_now calls calls_now = record { written = written; written_now = written_now; faults = faults; faults_now = faults_now; calls = calls; calls_now = calls_now }
