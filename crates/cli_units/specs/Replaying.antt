-- One run of a unit: the checked unit that is run, and what its run comes to.
use Rattle.std.specs.Prelude.{◌≡◌, ℕ, ℤ, true, List, Some, codes, slice_get}
use Rattle.cc_base.specs.declared.diagnostics.Place.{Place}
use Rattle.c_layout.specs.CheckedUnits.{UnitView, unit_view, FunctionView}
use Rattle.c_layout.specs.declared.unit_tokens.Unit7.{Unit7}
use Rattle.c_layout.specs.declared.syntax_tree.declarations.Tree7.{Tree7}
use Rattle.c_layout.specs.declared.checked_tree.checked_units.Checked.{Checked}
use Rattle.cfg.specs.declared.programs.Flow.{Flow}
use Rattle.lower_preconditions.specs.Units.RegularUnits.{is_regular_unit}
use Rattle.semantics.specs.SourceMachine.RunFacts.{End, Ended, Violation, Draws, Left, Steps}
use Rattle.interp.specs.Runs.OutcomeViews.{OutcomeView}
use Rattle.interp.specs.Runs.Replays.{IsOutcome, IsTooLarge}
use Rattle.cli_texts.specs.Reports.{Bytes}
use Rattle.cli_units.specs.declared.unit_replays.Replayed.{Replayed}
use Rattle.cli_units.specs.declared.unit_replays.Replayed.TheVariants as replayed
use Rattle.cli_units.specs.Judging.{SettingView, IsParsed, IsTyped, IsLooked, IsLowered}

-- how a run stands, in words
abbrev pub end_word : End → Bytes
end_word Ended = codes "ended"
end_word Violation = codes "violation"
end_word Draws = codes "draws"
end_word Left = codes "left"
end_word Steps = codes "steps"

-- what one run of a unit comes to: an outcome, or objects of too many bytes, which is told at a place
pub data RunAnswer : Type 0 where
  ran : (outcome : OutcomeView) → RunAnswer
  large : (place : Place) (count limit : ℕ) → RunAnswer

abbrev pub run_answer : Replayed → RunAnswer
run_answer (replayed.Ran outcome) = ran outcome
run_answer (replayed.Large place count limit) = large place count limit

-- the place of the entry's name
pub record IsEntryPlace (u : UnitView) (place : Place) : Type 0 where
  pub entry : FunctionView
  pub is_entry : slice_get u.functions u.entry ≡ Some entry
  pub at : place ≡ entry.at

-- what the run of a checked unit over these draws comes to, with so many steps at most
abbrev pub IsRun : UnitView → List ℤ → ℕ → RunAnswer → Type 0
IsRun u draws steps (ran outcome) = IsOutcome u draws steps outcome
IsRun u draws steps (large place count limit) = IsEntryPlace u place × IsTooLarge u draws steps count limit

-- the same of a unit that was expanded and looked at, whose functions are regular, and whose program is within the limits
pub record IsReplayed (unit : Unit7) (s : SettingView) (draws : List ℤ) (steps : ℕ) (answer : RunAnswer) : Type 0 where
  pub tree : Tree7
  pub parsed : IsParsed unit tree
  pub checked : Checked
  pub typed : IsTyped s tree checked
  pub looked : IsLooked unit s
  pub regular : is_regular_unit (unit_view checked) ≡ true
  pub flow : Flow
  pub lowered : IsLowered checked flow
  pub run : IsRun (unit_view checked) draws steps answer
