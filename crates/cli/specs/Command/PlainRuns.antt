-- Of a plain unit no line is false: each is that of a syntactic rule, or the unit's run violates it. Nor is one of a unit with
-- loops whose run ends within the turns that are unrolled.
use Rattle.std.specs.Prelude.{◌≡◌, ◌⊎◌, ℕ, true, List, [], Option, Some, None}
use Rattle.std.specs.List.{Contains}
use Rattle.cc_base.specs.Outside.{Files}
use Rattle.cc_base.specs.declared.diagnostics.Diag.{Diag}
use Rattle.c_layout.specs.CheckedUnits.{UnitView, unit_view}
use Rattle.c_layout.specs.declared.checked_tree.checked_units.Checked.{Checked}
use Rattle.c_layout.specs.declared.data_model.Model.{Model}
use Rattle.c_layout.specs.declared.unit_tokens.Unit7.{Unit7}
use Rattle.syntactic_rules.specs.StatementPlaces.{unit_places}
use Rattle.cfg.specs.declared.programs.Flow.{Flow}
use Rattle.typed_lowering.specs.Units.PlainUnits.{IsPlainUnit}
use Rattle.typed_lowering.specs.LoopedUnits.LoopedUnits.{is_looped_unit}
use Rattle.typed_lowering.specs.Conversions.TypedUnits.{is_typed_unit}
use Rattle.unit_exact.specs.Unrolled.UnrolledLoops.{TakesTurns}
use Rattle.simulation_units.specs.Termination.EndedRuns.{HasStopped}
use Rattle.semantics.specs.SourceMachine.SourceRuns.{Run}
use Rattle.unit_exact.specs.Units.SingleUnits.{RunViolates}
use Rattle.cli_texts.specs.Reports.{Bytes}
use Rattle.cli_units.specs.Judging.{SettingView, Judgement, IsJudged}
use Rattle.cli_answers.specs.Verdicts.{FromFiles, IsReport}

-- a unit that is plain but for its loops and jumps back, and whose run under no numbers of the outside ends, and goes back so many
-- times at most
pub record EndsWithin (turns : ℕ) (u : UnitView) (program : Flow) : Type 0 where
  pub look : is_looped_unit u ≡ true
  pub types : is_typed_unit u ≡ true
  pub takes : TakesTurns turns program u
  pub steps : ℕ
  pub ends : HasStopped (Run u [] steps)

-- a plain unit, or one that ends within the turns that are unrolled
abbrev pub HasOneRun : Option ℕ → UnitView → Flow → Type 0
HasOneRun None u program = IsPlainUnit u program
HasOneRun (Some turns) u program = IsPlainUnit u program ⊎ EndsWithin turns u program

-- each pair is one that the syntactic rules find in the unit, or one that its run under no numbers of the outside
-- violates, where the unit is such
abbrev pub HoldsJustRun : Option ℕ → Checked → Flow → List Diag → Type 0
HoldsJustRun turns checked program pairs =
    HasOneRun turns (unit_view checked) program → (d : Diag) → Contains pairs d → Contains (unit_places checked) d ⊎ RunViolates (unit_view checked) (record { at = d.place; rule = d.rule })

-- so are the pairs of a unit that is judged, with turns unrolled or without
abbrev pub JudgedPairsAreViolated : Type 0
JudgedPairsAreViolated = (unit : Unit7) (s : SettingView) (j : Judgement) (judged : IsJudged unit s j) → HoldsJustRun s.turns judged.checked judged.flow j.pairs

-- and the diagnostics of a report of a unit that is read from files
abbrev pub ReportsHoldJustRuns : Type 0
ReportsHoldJustRuns =
    (files : Option Files) (dirs : List Bytes) (model : Model) (main : Bytes) (s : SettingView) (names : List Bytes) (diags : List Diag) (report : IsReport (FromFiles files dirs model main) s names diags)
    → HoldsJustRun s.turns report.judged.checked report.judged.flow diags
