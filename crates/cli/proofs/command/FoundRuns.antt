-- What is told of a unit holds what its runs violate.
use Rattle.std.proofs.Common.{◌≡◌, ◌≤◌, ℕ, ◌-◌, ◌^◌, ℤ, true, List, Option, Some, None, arith, sym, subst}
use Rattle.std.specs.List.{Contains}
use Rattle.std.proofs.lemmas.List.Elements.{Contains-append_right}
use Rattle.cc_base.specs.Standard.{standard_limits}
use Rattle.cc_base.specs.declared.diagnostics.Diag.{Diag}
use Rattle.c_layout.specs.CheckedUnits.{UnitView, unit_view}
use Rattle.c_layout.specs.DeclarationTrees.{unit_tree}
use Rattle.c_layout.specs.declared.syntax_tree.declarations.Tree7.{Tree7}
use Rattle.c_layout.specs.declared.checked_tree.checked_units.Checked.{Checked}
use Rattle.cfg.specs.WellFormed.{is_well_formed}
use Rattle.cfg.specs.declared.programs.Flow.{Flow}
use Rattle.lower_templates.specs.Views.ProgramViews.{flow_view}
use Rattle.semantics.specs.CfgMachine.FlowStates as states
use Rattle.semantics.specs.CfgMachine.FlowSteps.{flow_steps}
use Rattle.semantics.specs.CfgMachine.FlowStarts.{flow_begin}
use Rattle.lower_preconditions.specs.Units.RegularUnits.{is_regular_unit}
use Rattle.analysis.specs.Analyses.{IsAnalysis}
use Rattle.memory_model.specs.Effects.Worlds.{Violation}
use Rattle.simulation_units.specs.Units.UnitRuns.{IsProgramOf}
use Rattle.simulation_units.specs.CheckedUnits.LookedRuns.{PassesLooks, LookedRunsAreProgramRuns}
use Rattle.analysis_sound.specs.Units.CheckedUnits.{FindsPairsOfChecked, FindsUnrolledPairsOfChecked}
use Rattle.cli_units.specs.Judging.{SettingView, IsTyped, IsLowered, IsUnrolled}
use Rattle.cli.specs.Command.DefinedRuns.{TypedUnitsPassLooks}
use Rattle.cli.specs.Command.FoundRuns.{IsViolatedBy, JudgedRunsAreFound, ReportsHoldRuns}

-- by an analysis of a program
abbrev pub CheckedRunsAreFound : Type 0
CheckedRunsAreFound = (flow : Flow) (list : List ℤ) (found : List Diag) → IsAnalysis flow list found → FindsPairsOfChecked flow found

few_temps : standard_limits.temps ≤ 2 ^ 32 - 1
few_temps = omega arith

pub program_of : (s : SettingView) (tree : Tree7) (checked : Checked) (flow : Flow)
    → IsTyped s tree checked → is_regular_unit (unit_view checked) ≡ true → IsLowered checked flow → is_well_formed standard_limits flow ≡ true → IsProgramOf (unit_view checked) standard_limits flow
program_of s tree checked flow typed regular lowered good = record {
  model = s.model;
  name = s.entry;
  tree = unit_tree tree;
  checked = typed.checks;
  regular = regular;
  is = lowered.lowers;
  good = good;
  room = few_temps;
}

-- a run of the program that violates a rule
pub record ViolatesIn (program : Flow) (u : UnitView) (v : Violation) : Type 0 where
  pub draws : List ℤ
  pub steps : ℕ
  pub there : Contains (states.found_in (flow_steps (flow_view program) steps (flow_begin u (flow_view program) draws))) v

pub violated_in : LookedRunsAreProgramRuns → (u : UnitView) (program : Flow) → IsProgramOf u standard_limits program → PassesLooks u → (v : Violation) → IsViolatedBy u v → ViolatesIn program u v
violated_in runs u program is looks v violated =
    let x = runs u standard_limits program is looks violated.draws violated.turns in
    record { draws = violated.draws; steps = x.0; there = subst (λ vs. Contains vs v) x.1.found violated.there }

-- the analysis is of the program, or of the one with turns unrolled
finds_pairs : CheckedRunsAreFound → FindsUnrolledPairsOfChecked → (turns : Option ℕ) (flow unrolled : Flow) (list : List ℤ) (found : List Diag)
    → IsUnrolled turns flow unrolled → is_well_formed standard_limits flow ≡ true → IsAnalysis unrolled list found → FindsPairsOfChecked flow found
finds_pairs once turned None flow unrolled list found is good analysis u of v there = once flow list found (subst (λ f. IsAnalysis f list found) is analysis) u of v there
finds_pairs once turned (Some turns) flow unrolled list found is good analysis u of v there = turned turns standard_limits flow unrolled list found good is analysis u of v there

pub judged_runs : LookedRunsAreProgramRuns → TypedUnitsPassLooks → CheckedRunsAreFound → FindsUnrolledPairsOfChecked → JudgedRunsAreFound
judged_runs runs pass once turned unit s j judged v violated =
    let f = judged.found in
    let finds = finds_pairs once turned s.turns judged.flow judged.analysed f.list f.runs judged.turned judged.made f.by_runs in
    let looks = pass unit s judged.tree judged.checked judged.parsed judged.typed judged.looked judged.regular in
    let x = violated_in runs (unit_view judged.checked) judged.flow (program_of s judged.tree judged.checked judged.flow judged.typed judged.regular judged.lowered judged.made) looks v violated in
    let there =
    finds (unit_view judged.checked) (record { model = s.model; name = s.entry; tree = unit_tree judged.tree; limits = standard_limits; checked = judged.typed.checks; lowered = judged.lowered.lowers; plain = judged.plain }) v
    (record { draws = x.draws; steps = x.steps; there = x.there }) in
    subst (λ ds. Contains ds (record { place = v.at; rule = v.rule })) (sym f.both) (Contains-append_right f.texts f.runs (record { place = v.at; rule = v.rule }) there)

pub reports_hold : JudgedRunsAreFound → ReportsHoldRuns
reports_hold judged files dirs model main s names diags report v violated = report.listed.kept (record { place = v.at; rule = v.rule }) (judged report.expanded s report.found report.judged v violated)
