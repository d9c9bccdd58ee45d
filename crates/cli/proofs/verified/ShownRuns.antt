-- A proved text of a plain unit shows what an analysis finds, and that is just what the unit's run violates.
use Rattle.std.proofs.Common.{◌≡◌, ◌⊎◌, inl, inr, ℤ, true, List, sym, ap, subst, ◌∙◌}
use Rattle.cc_base.specs.Standard.{standard_limits}
use Rattle.cc_base.specs.declared.diagnostics.Diag.{Diag}
use Rattle.c_layout.specs.CheckedUnits.{UnitView, unit_view}
use Rattle.c_layout.specs.DeclarationTrees.{unit_tree}
use Rattle.lower.specs.Inlining.Lowerings.{IsLowering}
use Rattle.cfg.specs.declared.programs.Flow.{Flow}
use Rattle.lower_templates.specs.Views.ProgramViews.{FlowView, flow_view}
use Rattle.analysis.specs.Analyses.{IsAnalysis}
use Rattle.typed_lowering.specs.PlainPrograms.PlainPrograms.{PlainUnitsHavePlainPrograms}
use Rattle.typed_lowering.specs.Conversions.TypedUnits.{is_typed_unit}
use Rattle.typed_lowering.specs.Units.TypedUnitLaws.{TypedUnitsHaveTypedAccesses}
use Rattle.unit_exact.specs.CheckedStarts.{IsUnitOf}
use Rattle.typed_lowering.specs.SingleRuns.{IsSingleProgram, HasTypedAccesses}
use Rattle.unit_exact.specs.Units.SingleUnits.{FindsJustUnitRuns}
use Rattle.cli_units.specs.Judging.{IsLowered}
use Rattle.cli_theorems.proofs.certificates.Accepted.{program_of, same_view, found_by_text}
use Rattle.cli.specs.Command.DefinedRuns.{TypedUnitsPassLooks}
use Rattle.cli.proofs.command.FoundRuns as found
use Rattle.cli.proofs.command.PlainRuns.{laid_by, accesses_typed}
use Rattle.cli.specs.Verified.ShownRuns.{ProvedTextsShowJustRuns}
use Rattle.cli.proofs.verified.SameAccesses.{accesses_same}

-- an analysis of a program finds just what the run of its plain unit violates
abbrev pub PlainUnitsAreTold : Type 0
PlainUnitsAreTold = (flow : Flow) (list : List ℤ) (found : List Diag) → IsAnalysis flow list found → FindsJustUnitRuns flow found

-- the look at types is one at the unit alone, and equal programs have equal runs
types_same : (old new : Flow) → flow_view old ≡ flow_view new → (u : UnitView) → (is_typed_unit u ≡ true) ⊎ HasTypedAccesses old u → (is_typed_unit u ≡ true) ⊎ HasTypedAccesses new u
types_same old new view u (inl look) = inl look
types_same old new view u (inr accesses) = inr (accesses_same old new view u accesses)

pub proved_shown : TypedUnitsPassLooks → PlainUnitsAreTold → PlainUnitsHavePlainPrograms → TypedUnitsHaveTypedAccesses → ProvedTextsShowJustRuns
proved_shown pass told lowered typed unit s text p shown v plain d =
    let own = v.program in
    let u = unit_view own.checked in
    let view : flow_view p.flow ≡ flow_view v.flow = same_view unit s text p (program_of unit s v.flow own) in
    let is_lowered : IsLowered own.checked p.flow = record {
      lowers = subst (IsLowering u standard_limits) (sym view) own.lowered.lowers;
      model = ap (λ (f : FlowView). f.model) view ∙ own.lowered.model;
    } in
    let is_unit : IsUnitOf u p.flow = record { model = s.model; name = s.entry; tree = unit_tree own.tree; limits = standard_limits; checked = own.typed.checks; lowered = is_lowered.lowers; plain = own.plain } in
    let is_program = found.program_of s own.tree own.checked p.flow own.typed own.regular is_lowered p.program.well_formed in
    let flow = lowered u standard_limits p.flow is_program plain.look in
    let analysis = found_by_text unit s text p shown v in
    let accesses = accesses_typed typed u standard_limits p.flow is_program (laid_by p.flow p.proof.list shown analysis) (record { look = plain.look; types = types_same v.flow p.flow (sym view) u plain.types }) in
    let single : IsSingleProgram p.flow u = record { plain = flow.plain; parameters = flow.parameters; calls = flow.calls; headless = flow.headless; steps = accesses } in
    let looks = pass unit s own.tree own.checked own.parsed own.typed own.looked own.regular in
    told p.flow p.proof.list shown analysis u standard_limits is_unit is_program looks single d
