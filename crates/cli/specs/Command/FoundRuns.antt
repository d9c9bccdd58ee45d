-- What is told of a unit holds what its runs violate.
use Rattle.std.specs.Prelude.{ℕ, ℤ, List, Option}
use Rattle.std.specs.List.{Contains}
use Rattle.cc_base.specs.Outside.{Files}
use Rattle.cc_base.specs.declared.diagnostics.Diag.{Diag}
use Rattle.c_layout.specs.CheckedUnits.{UnitView, unit_view}
use Rattle.c_layout.specs.declared.data_model.Model.{Model}
use Rattle.c_layout.specs.declared.unit_tokens.Unit7.{Unit7}
use Rattle.memory_model.specs.Effects.Worlds.{Violation}
use Rattle.semantics.specs.SourceMachine.SourceRuns.{Run, found_in}
use Rattle.cli_texts.specs.Reports.{Bytes}
use Rattle.cli_units.specs.Judging.{SettingView, Judgement, IsJudged}
use Rattle.cli_answers.specs.Verdicts.{FromFiles, IsReport}

-- a rule that a run of a unit violates at a place, under some numbers of the outside, within some turns
pub record IsViolatedBy (u : UnitView) (v : Violation) : Type 0 where
  pub draws : List ℤ
  pub turns : ℕ
  pub there : Contains (found_in (Run u draws turns)) v

-- the pairs hold each rule that a run of the unit violates, at its place
abbrev pub HoldsRunsOf : UnitView → List Diag → Type 0
HoldsRunsOf u pairs = (v : Violation) → IsViolatedBy u v → Contains pairs (record { place = v.at; rule = v.rule })

-- so do the pairs of a unit that is judged
abbrev pub JudgedRunsAreFound : Type 0
JudgedRunsAreFound = (unit : Unit7) (s : SettingView) (j : Judgement) (judged : IsJudged unit s j) → HoldsRunsOf (unit_view judged.checked) j.pairs

-- and the diagnostics of a report of a unit that is read from files
abbrev pub ReportsHoldRuns : Type 0
ReportsHoldRuns = (files : Option Files) (dirs : List Bytes) (model : Model) (main : Bytes) (s : SettingView) (names : List Bytes) (diags : List Diag) (report : IsReport (FromFiles files dirs model main) s names diags) → HoldsRunsOf (unit_view report.judged.checked) diags
