-- What `check` answers to the held bytes of a unit that divides by 0: one line, and nothing else.
use Rattle.std.specs.Prelude.{◌≡◌, ◌⊎◌, ℕ, List, [], ◌∷◌, Some, None, codes}
use Rattle.cc_base.specs.declared.diagnostics.Diag.{Diag}
use Rattle.c_layout.specs.CheckedUnits.{unit_view}
use Rattle.c_layout.specs.Models.{lp64}
use Rattle.typed_lowering.specs.Units.PlainUnits.{IsPlainUnit}
use Rattle.c_preproc.specs.Causes.{Seen, seen_of}
use Rattle.cli_words.specs.Words.Requests as asked
use Rattle.cli_words.specs.Words.Requests.{CommandView}
use Rattle.cli_words.specs.declared.words.commands.Format.TheVariants as format
use Rattle.cli_texts.specs.Reports.{Bytes}
use Rattle.cli_answers.specs.Outcomes.{Took, PutOnce, Answers}
use Rattle.cli_answers.specs.Verdicts.{Verdict, reported, FromFiles, IsReport, IsVerdict, check_setting}
use Rattle.cli_examples.specs.Units.WorkedPlaces.{division}
use Rattle.cli_examples.specs.Units.WorkedTexts.{held, name}

-- `ccheck check a.c`
abbrev pub command : CommandView
command = record { unit = name; dirs = []; model = codes "lp64"; format = format.Text; entry = codes "main"; turns = None; seed = 0; count = 0; steps = 0 }

abbrev pub seen : Seen
seen = seen_of (Some held) 0 0 0 0

abbrev pub lines : List Diag
lines = division 24 ∷ []

abbrev pub text : Bytes
text = codes "a.c:1:24: diverr: division is undefined\n1 diagnostics in a.c\n"

abbrev pub IsReportOf : List Bytes → List Diag → Type 0
IsReportOf names diags = IsReport (FromFiles seen.files command.dirs lp64 command.unit) (check_setting command lp64) names diags

abbrev pub verdict : Verdict
verdict = reported format.Text (name ∷ []) name lines

pub record IsToldAlone : Type 0 where
  -- the unit has this report and no other
  pub report : IsReportOf (name ∷ []) lines
  pub no_other : (names : List Bytes) (diags : List Diag) → IsReportOf names diags → (names ≡ name ∷ []) × (diags ≡ lines)
  -- so it is the one thing that is called for
  pub called_for : IsVerdict seen (asked.Check command) verdict
  pub nothing_else : (v : Verdict) → IsVerdict seen (asked.Check command) v → v ≡ verdict
  -- so an answer has status 1 and this text, or tells of a fault or of want of memory
  pub there : (sink : Took) → PutOnce sink text → Answers seen (asked.Check command) sink 1
  pub alone : (sink : Took) (status : ℕ) → Answers seen (asked.Check command) sink status → ((status ≡ 1) × PutOnce sink text) ⊎ ((status ≡ 5) ⊎ ((status ≡ 6) ⊎ (status ≡ 7)))
  pub not_silent : (sink : Took) → Answers seen (asked.Check command) sink 0 → ⊥
  -- the unit is plain, so the clause on plain units says of its line that the run violates it
  pub plain : IsPlainUnit (unit_view report.judged.checked) report.judged.flow
