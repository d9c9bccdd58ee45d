-- Of a plain unit each pair is that of a syntactic rule, or is violated by the unit's own run.
use Rattle.std.proofs.Common.{inl, inr, ℕ, ℤ, List, Option, Some, None, subst}
use Rattle.std.specs.List.{Contains}
use Rattle.std.proofs.lemmas.List.Elements.{Contains-append_cases}
use Rattle.cc_base.specs.Standard.{standard_limits}
use Rattle.cc_base.specs.declared.diagnostics.Diag.{Diag}
use Rattle.cc_base.specs.declared.limit_table.Limits.{Limits}
use Rattle.c_layout.specs.CheckedUnits.{UnitView, unit_view}
use Rattle.c_layout.specs.DeclarationTrees.{unit_tree}
use Rattle.c_layout.specs.StructViews.{structs_view}
use Rattle.cfg.specs.declared.programs.Flow.{Flow}
use Rattle.analysis.specs.Analyses.{IsAnalysis}
use Rattle.unit_exact.specs.CheckedStarts.{IsUnitOf}
use Rattle.typed_lowering.specs.SingleRuns.{HasTypedAccesses, IsSingleProgram}
use Rattle.unit_exact.specs.Units.SingleUnits.{RunViolates, FindsJustUnitRuns}
use Rattle.typed_lowering.specs.PlainPrograms.PlainPrograms.{IsPlainFlow, PlainUnitsHavePlainPrograms}
use Rattle.simulation_units.specs.Units.UnitRuns.{IsProgramOf}
use Rattle.typed_lowering.specs.Units.PlainUnits.{IsPlainUnit}
use Rattle.typed_lowering.specs.Units.TypedUnitLaws.{TypedUnitsHaveTypedAccesses, IsLoopedFlow, LoopedUnitsHaveTypedPrograms}
use Rattle.typed_lowering.specs.StandingTypes.{AreLaidOut}
use Rattle.analysis_sound.proofs.units.CheckedUnits.{analysed_structs, same_structs}
use Rattle.unit_exact.specs.Unrolled.UnrolledUnits.{UnrolledUnitsAreExact}
use Rattle.unit_exact.specs.Unrolled.UnrolledLoops.{TakesTurns, IsSingleUpTo, LoopedUnitsAreExact}
use Rattle.simulation_units.specs.CheckedUnits.LookedRuns.{PassesLooks}
use Rattle.cli_units.specs.Judging.{IsUnrolled}
use Rattle.cli.specs.Command.DefinedRuns.{TypedUnitsPassLooks}
use Rattle.cli.specs.Command.PlainRuns.{HasOneRun, JudgedPairsAreViolated, ReportsHoldJustRuns}
use Rattle.cli.proofs.command.FoundRuns.{program_of}

-- an analysis of a program finds just what the run of its plain unit violates
abbrev PlainUnitsAreTold : Type 0
PlainUnitsAreTold = (flow : Flow) (list : List ℤ) (found : List Diag) → IsAnalysis flow list found → FindsJustUnitRuns flow found

-- the analysis is of the unit's own program, or of that with turns unrolled
finds_run : PlainUnitsAreTold → UnrolledUnitsAreExact → (turns : Option ℕ) (flow analysed : Flow) (list : List ℤ) (found : List Diag) → IsUnrolled turns flow analysed → IsAnalysis analysed list found → FindsJustUnitRuns flow found
finds_run told turned None flow analysed list found is own = told flow list found (subst (λ (p : Flow). IsAnalysis p list found) is own)
finds_run told turned (Some turns) flow analysed list found is own = turned turns flow analysed list found is own

-- what a plain unit is lowered to, with its accesses
single_program : (program : Flow) (u : UnitView) → IsPlainFlow program → HasTypedAccesses program u → IsSingleProgram program u
single_program program u flow accesses = record { plain = flow.plain; parameters = flow.parameters; calls = flow.calls; headless = flow.headless; steps = accesses }

-- the structures of a program that is analysed are laid out
pub laid_by : (flow : Flow) (list : List ℤ) (found : List Diag) → IsAnalysis flow list found → AreLaidOut flow.model (structs_view flow.structs)
laid_by flow list found own = let sound = analysed_structs flow list found own in record { model = sound.model; apart = sound.apart; ordered = sound.ordered }

-- also where turns are unrolled
structs_laid : (turns : Option ℕ) (flow analysed : Flow) (list : List ℤ) (found : List Diag) → IsUnrolled turns flow analysed → IsAnalysis analysed list found → AreLaidOut flow.model (structs_view flow.structs)
structs_laid None flow analysed list found is own = laid_by flow list found (subst (λ (p : Flow). IsAnalysis p list found) is own)
structs_laid (Some turns) flow analysed list found is own =
    let sound = same_structs turns flow analysed is (analysed_structs analysed list found own) in
    record { model = sound.model; apart = sound.apart; ordered = sound.ordered }

-- accesses are typed by the look at types, or are supposed to be
pub accesses_typed : TypedUnitsHaveTypedAccesses → (u : UnitView) (limits : Limits) (flow : Flow) → IsProgramOf u limits flow → AreLaidOut flow.model (structs_view flow.structs) → IsPlainUnit u flow → HasTypedAccesses flow u
accesses_typed typed u limits flow is laid plain = elim plain.types [
  | inl look ↦ typed u limits flow is laid plain.look look
  | inr accesses ↦ accesses
]

-- what a run of a unit with loops is told by, where it ends within the turns that are unrolled
looped_program : (turns : ℕ) (program : Flow) (u : UnitView) → IsLoopedFlow program u → TakesTurns turns program u → IsSingleUpTo turns program u
looped_program turns program u flow takes = record { plain = flow.plain; parameters = flow.parameters; calls = flow.calls; takes = takes; steps = flow.steps }

-- all that is composed
pub record Laws : Type 0 where
  pub pass : TypedUnitsPassLooks
  pub told : PlainUnitsAreTold
  pub turned : UnrolledUnitsAreExact
  pub looped : LoopedUnitsAreExact
  pub lowered : PlainUnitsHavePlainPrograms
  pub typed : TypedUnitsHaveTypedAccesses
  pub looped_typed : LoopedUnitsHaveTypedPrograms

module _ (laws : Laws) (flow analysed : Flow) (list : List ℤ) (found : List Diag) (own : IsAnalysis analysed list found) (u : UnitView) (unit : IsUnitOf u flow) (is : IsProgramOf u standard_limits flow) (looks : PassesLooks u) (d : Diag) (there : Contains found d) where
  plain_violated : (turns : Option ℕ) → IsUnrolled turns flow analysed → IsPlainUnit u flow → RunViolates u (record { at = d.place; rule = d.rule })
  plain_violated turns turned plain =
      let single = single_program flow u (laws.lowered u standard_limits flow is plain.look) (accesses_typed laws.typed u standard_limits flow is (structs_laid turns flow analysed list found turned own) plain) in
      (finds_run laws.told laws.turned turns flow analysed list found turned own u standard_limits unit is looks single d).0 there

  run_violated : (turns : Option ℕ) → IsUnrolled turns flow analysed → HasOneRun turns u flow → RunViolates u (record { at = d.place; rule = d.rule })
  run_violated None turned plain = plain_violated None turned plain
  run_violated (Some turns) turned (inl plain) = plain_violated (Some turns) turned plain
  run_violated (Some turns) turned (inr one) =
      let typed = laws.looped_typed u standard_limits flow is (structs_laid (Some turns) flow analysed list found turned own) one.look one.types in
      (laws.looped turns flow analysed list found turned own u standard_limits unit is looks (looped_program turns flow u typed one.takes) one.steps one.ends d).0 there

pub judged_pairs : Laws → JudgedPairsAreViolated
judged_pairs laws unit s j judged one d there =
    let f = judged.found in
    let u = unit_view judged.checked in
    let is_unit : IsUnitOf u judged.flow = record { model = s.model; name = s.entry; tree = unit_tree judged.tree; limits = standard_limits; checked = judged.typed.checks; lowered = judged.lowered.lowers; plain = judged.plain } in
    let is_program = program_of s judged.tree judged.checked judged.flow judged.typed judged.regular judged.lowered judged.made in
    let looks = laws.pass unit s judged.tree judged.checked judged.parsed judged.typed judged.looked judged.regular in
    elim (Contains-append_cases f.texts f.runs d (subst (λ ds. Contains ds d) f.both there)) [
      | inl text ↦ inl (f.by_texts.made d text)
      | inr run ↦ inr (run_violated laws judged.flow judged.analysed f.list f.runs f.by_runs u is_unit is_program looks d run s.turns judged.turned one)
    ]

pub reports_hold_just : JudgedPairsAreViolated → ReportsHoldJustRuns
reports_hold_just judged files dirs model main s names diags report one d there = judged report.expanded s report.found report.judged one d (report.listed.made d there)
