-- A unit begins with the unrolled program as with the program, and the pairs of their runs are the same.
use Rattle.std.specs.Prelude.{◌≡◌, ℕ, ℤ, true, List, map, slice_get}
use Rattle.std.specs.List.{Contains}
use Rattle.std.proofs.Common.{sym, subst, ap, ◌∙◌}
use Rattle.cc_base.specs.declared.diagnostics.Diag.{Diag}
use Rattle.cc_base.specs.declared.limit_table.Limits.{Limits}
use Rattle.c_layout.specs.Types.{Int}
use Rattle.c_layout.specs.CheckedUnits.{UnitView}
use Rattle.c_layout.specs.declared.shapes.BaseKind.TheVariants.{Automatic}
use Rattle.cfg.specs.WellFormed.{is_well_formed}
use Rattle.cfg.specs.declared.programs.Flow.{Flow}
use Rattle.lower_templates.specs.Views.ProgramViews.{FlowView, flow_view}
use Rattle.semantics.specs.CfgMachine.FlowStates.{FlowRun, running, stopped, found_in}
use Rattle.semantics.specs.CfgMachine.FlowSteps.{flow_steps}
use Rattle.semantics.specs.CfgMachine.FlowStarts.{flow_begin}
use Rattle.analysis_determined.specs.Analyses.{IsAnalysis}
use Rattle.loop_unrolling.specs.Turns.{split}
use Rattle.analysis_determined.specs.UnrolledRuns.SameRuns.{SameRun}
use Rattle.analysis_determined.proofs.unrolled_runs.LinkedPrograms.{linked}
use Rattle.analysis_determined.proofs.unrolled_runs.SameSteps.{runs_same}
use Rattle.analysis_sound.specs.Analyses.SoundAnalyses.{IsViolatedIn}
use Rattle.entry_sound.specs.Tables.UnitStarts.{StartsAs, AreShared, AreInputs, IsBaseOf}
use Rattle.analysis_sound.specs.Units.SoundUnits.{FindsPairsOf}
use Rattle.analysis_sound.proofs.units.SoundUnits.{units_found}

pub found_same : (turns : ℕ) (f : FlowView) (r q : FlowRun) → SameRun turns f r q → found_in r ≡ found_in q
found_same turns f (running s found) (running t more) m = sym m.1
found_same turns f (running s found) (stopped why w more) m = absurd m
found_same turns f (stopped why w found) (running t more) m = absurd m
found_same turns f (stopped why w found) (stopped reason v more) m = sym m.1.1

module _ (turns : ℕ) (limits : Limits) (flow turned : Flow) (good : is_well_formed limits flow ≡ true) (h : flow_view turned ≡ split turns (flow_view flow)) where
  bases_same : flow.bases.items ≡ turned.bases.items
  bases_same = sym (ap (λ (v : FlowView). v.bases) h)

  parameters_same : flow.parameters.items ≡ turned.parameters.items
  parameters_same = sym (ap (λ (v : FlowView). v.parameters) h)

  inputs_same : (u : UnitView) → AreInputs u flow → AreInputs u turned
  inputs_same u i = record {
    types = i.types ∙ ap (map (λ p. Int p.kind)) parameters_same;
    bases = λ k p e. subst (λ bs. IsBaseOf u bs Automatic (Int p.kind) p.base) bases_same (i.bases k p (ap (λ ps. slice_get ps k) parameters_same ∙ e));
    own = λ j k p q a b e. i.own j k p q (ap (λ ps. slice_get ps j) parameters_same ∙ a) (ap (λ ps. slice_get ps k) parameters_same ∙ b) e;
  }

  pub starts_same : (u : UnitView) → StartsAs u flow → StartsAs u turned
  starts_same u s = record {
    model = s.model ∙ sym (ap (λ (v : FlowView). v.model) h);
    table = s.table;
    initial = ap (λ (v : FlowView). v.initial) h ∙ s.initial;
    shared = subst (λ bs. AreShared u bs s.table) bases_same s.shared;
    inputs = inputs_same u s.inputs;
    typed = s.typed;
  }

  violated_same : (u : UnitView) (v : _) → IsViolatedIn flow u v → IsViolatedIn turned u v
  violated_same u v i = record {
    draws = i.draws;
    steps = i.steps;
    there = subst (λ (f : FlowView). Contains (found_in (flow_steps f i.steps (flow_begin u f i.draws))) v) (sym h)
        (subst (λ found. Contains found v)
        (found_same turns (flow_view flow) (flow_steps (flow_view flow) i.steps (flow_begin u (flow_view flow) i.draws)) (flow_steps (split turns (flow_view flow)) i.steps (flow_begin u (split turns (flow_view flow)) i.draws))
        (runs_same turns (flow_view flow) (linked limits flow good) u i.draws i.steps)) i.there);
  }

  pub unrolled_found : (list : List ℤ) (found : List Diag) → IsAnalysis turned list found → (u : UnitView) → StartsAs u flow → FindsPairsOf flow found u
  unrolled_found list found a u starts v there = units_found turned list found a u (starts_same u starts) v (violated_same u v there)
