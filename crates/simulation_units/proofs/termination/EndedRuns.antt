-- The run of a unit ends where the one over its templates does, which are bounded where its program has no loops.
use Rattle.std.proofs.Common.{◌≤◌, ℕ, ℤ, List, [], refl, arith, ap, sym, subst, ◌∙◌}
use Rattle.cc_base.specs.declared.limit_table.Limits.{Limits}
use Rattle.c_layout.specs.CheckedUnits.{UnitView}
use Rattle.cfg.specs.declared.programs.Flow.{Flow}
use Rattle.lower_templates.specs.Views.ProgramViews.{FlowView, flow_view}
use Rattle.lower_templates.specs.Worklist.Pieces.{TemplateView}
use Rattle.lower_tables.specs.Counts.Preparations.{begun}
use Rattle.semantics.specs.SourceMachine.SourceRuns.{SourceRun, Run}
use Rattle.semantics.specs.TemplateMachine.TemplateStates.{TemplateRun}
use Rattle.semantics.specs.TemplateMachine.TemplateSteps.{template_begin, steps_from}
use Rattle.simulation_layout.specs.Normalized.NormalizedRuns.{templates}
use Rattle.simulation_terms.specs.SmallSteps.Alike as alike
use Rattle.simulation_terms.specs.SmallSteps.Alike.{Alike}
use Rattle.simulation_units.proofs.returns.Reached.{source_stands}
use Rattle.simulation_layout.specs.InlinedRuns.InlinedRuns.{normalized_of, IsInlined}
use Rattle.simulation_layout.proofs.inlined_runs.LoweredPrograms.{AreLaidOut, are_laid_out, settles_at}
use Rattle.simulation_layout.proofs.temporaries.LowPrograms.{low_programs}
use Rattle.simulation_layout.proofs.temporaries.EntryLocals.{checked_few}
use Rattle.simulation_layout.proofs.units.FitPieces.{is_made}
use Rattle.simulation_units.specs.Units.UnitRuns.{IsProgramOf}
use Rattle.simulation_units.proofs.units.UnitRuns.{Laws, of, plainly, all_simulate, entry_simulates}
use Rattle.simulation_units.specs.Termination.BoundedTemplates.{HasBound, EdgesGoOn}
use Rattle.simulation_units.specs.Termination.EndedRuns.{HasStopped, HasNoLoops}
use Rattle.simulation_units.proofs.termination.StoppedTemplates.{HasEnded, Ends, run_ends}
use Rattle.simulation_units.proofs.termination.LaidBounds.{laid_bound}
use Rattle.simulation_units.proofs.termination.MadeBounds.{made_bound}
use Rattle.simulation_units.proofs.termination.ForwardPrograms.{edges_go_on}

module _ (laws : Laws) (u : UnitView) (limits : Limits) (program : Flow) (o : IsProgramOf u limits program) (none : HasNoLoops program) where
  abbrev f : FlowView
  f = flow_view program

  abbrev made : ℕ → TemplateView
  made = of laws u limits program o

  abbrev inlined : IsInlined u limits f
  inlined = record {
    is = o.is;
    made = made;
    are_made = λ n reached. is_made u n (made n) (plainly laws u limits program o n reached);
    few = checked_few o.model o.name o.tree u o.checked o.is.entry o.is.is_counted.is_entry;
    low = low_programs limits program o.good o.room;
  }

  le_itself : (k : ℕ) → k ≤ k
  le_itself k = omega arith

  normalized_bound : HasBound (normalized_of o.is.templates) u.entry
  normalized_bound =
      let x : AreLaidOut u limits f inlined = are_laid_out u limits f inlined in
      let on : EdgesGoOn x.inlined.program = subst EdgesGoOn (sym x.program) (edges_go_on program none limits o.good) in
      subst (λ ts. HasBound ts u.entry) x.of
      (subst (HasBound x.inlined.of) (x.is.function ∙ ap (λ (v : UnitView). v.entry) x.unit) (laid_bound x.inlined on x.first [] 0 0 x.is.end x.is.last x.is.laid))

  has_bound : HasBound made u.entry
  has_bound = let b = normalized_bound in made_bound u made (normalized_of o.is.templates) (settles_at u limits f inlined) b.0 u.entry begun (b.1 b.0 (le_itself b.0))

  ends : (draws : List ℤ) → Ends u made (template_begin (templates u made) draws)
  ends draws = let b = has_bound in run_ends u made b.0 (b.1 b.0 (le_itself b.0)) draws

  stopped_too : (s : SourceRun) (r : TemplateRun) → Alike (templates u made) 0 s r → HasEnded u made r → HasStopped s
  stopped_too _ _ (alike.both_run s r found also steps both same) ended = absurd ended
  stopped_too _ _ (alike.both_stopped why memory draws old new found also steps same) ended = record { why = why; world = _; found = found; steps = steps; is = refl }

  pub unit_ends : (draws : List ℤ) → (turns : ℕ) × HasStopped (Run u draws turns)
  unit_ends draws =
      let x = ends draws in
      let y = source_stands (templates u made) (all_simulate laws u limits program o) (entry_simulates laws u limits program o) draws x.0 in
      (y.0, stopped_too (Run u draws y.0) (steps_from (templates u made) x.0 (template_begin (templates u made) draws)) y.1 x.1)
