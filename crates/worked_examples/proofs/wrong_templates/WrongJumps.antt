-- Wrong templates of jumps are refused.
use Rattle.std.proofs.Common.{◌≡◌, [], Some, refl, sym, ◌∙◌}
use Rattle.cc_base.specs.declared.diagnostics.Rule.TheVariants as rule
use Rattle.c_layout.specs.Leaves.{leaves_of}
use Rattle.lower_templates.specs.Worklist.Plans.{with_work, with_name, with_labels, with_scope, with_dispatch}
use Rattle.lower_templates.specs.Worklist.Scopes.{with_new_scope, with_label}
use Rattle.memory_model.specs.Effects.Worlds as why
use Rattle.semantics.specs.SourceMachine.LabelSearch.{found, found_in as found_among}
use Rattle.semantics.specs.SourceMachine.SourceRuns as source
use Rattle.semantics.specs.SourceMachine.SourceRuns.{SourceRun, Run}
use Rattle.semantics.specs.TemplateMachine.TemplateStates.{TemplateRun, found_in, why_of}
use Rattle.simulation_terms.specs.SmallSteps.Alike.{Agree}
use Rattle.worked_examples.specs.OneLoop.Units.{found_at}
use Rattle.worked_examples.specs.WrongTemplates.Refusals.{IsRefused, AreTemplates, with_templates, run_of}
use Rattle.worked_examples.specs.WrongTemplates.SkippedSteps as steps
use Rattle.worked_examples.specs.WrongTemplates.KeptObjects as objects
use Rattle.worked_examples.proofs.wrong_templates.Stops.{none_agrees}

abbrev steps_run : SourceRun
steps_run = Run steps.unit [] 60

abbrev steps_refused : TemplateRun
steps_refused = run_of (with_templates steps.unit steps.wrong) [] 30

steps_own : AreTemplates steps.right 0 steps.unit.functions
unfolding with_work with_name with_labels with_scope with_dispatch with_new_scope
steps_own = (record { turns = 60; ended = refl; comes_to = refl }, tt)

steps_agree : Agree steps_run (run_of (with_templates steps.unit steps.right) [] 30)
unfolding leaves_of
steps_agree = record { memory = refl; draws = refl; found = refl; why = refl }

steps_end : source.why_of steps_run ≡ Some why.Violated
unfolding leaves_of
steps_end = refl

steps_stop : why_of steps_refused ≡ Some why.Ended
unfolding leaves_of
steps_stop = refl

steps_find : source.found_in steps_run ≡ found_at 32 rule.Diverr
unfolding leaves_of
steps_find = refl

steps_find_else : found_in steps_refused ≡ []
unfolding leaves_of
steps_find_else = refl

steps_differ : Agree steps_run steps_refused → ⊥
steps_differ agree = different (sym steps_find ∙ (agree.found ∙ steps_find_else))
  where
    different : found_at 32 rule.Diverr ≡ [] → ⊥
    different e = cc

pub skipped_step_is_wrong : IsRefused steps.unit steps.right steps.wrong
skipped_step_is_wrong = record {
  own = steps_own;
  draws = [];
  turns = 60;
  steps = 30;
  agrees = steps_agree;
  agrees_with_none = λ n. none_agrees steps_run (with_templates steps.unit steps.wrong) [] 30 _ _ steps_end steps_stop steps_differ n;
}

abbrev objects_run : SourceRun
objects_run = Run objects.unit [] 60

abbrev objects_refused : TemplateRun
objects_refused = run_of (with_templates objects.unit objects.wrong) [] 30

objects_own : AreTemplates objects.right 0 objects.unit.functions
unfolding with_work with_name with_labels with_scope with_dispatch with_new_scope with_label
objects_own = (record { turns = 60; ended = refl; comes_to = refl }, tt)

objects_agree : Agree objects_run (run_of (with_templates objects.unit objects.right) [] 30)
unfolding leaves_of found found_among
objects_agree = record { memory = refl; draws = refl; found = refl; why = refl }

objects_end : source.why_of objects_run ≡ Some why.Violated
unfolding leaves_of found found_among
objects_end = refl

objects_stop : why_of objects_refused ≡ Some why.Ended
unfolding leaves_of found found_among
objects_stop = refl

objects_find : source.found_in objects_run ≡ found_at 56 rule.Nullref
unfolding leaves_of found found_among
objects_find = refl

objects_find_else : found_in objects_refused ≡ []
unfolding leaves_of found found_among
objects_find_else = refl

objects_differ : Agree objects_run objects_refused → ⊥
objects_differ agree = different (sym objects_find ∙ (agree.found ∙ objects_find_else))
  where
    different : found_at 56 rule.Nullref ≡ [] → ⊥
    different e = cc

pub kept_object_is_wrong : IsRefused objects.unit objects.right objects.wrong
kept_object_is_wrong = record {
  own = objects_own;
  draws = [];
  turns = 60;
  steps = 30;
  agrees = objects_agree;
  agrees_with_none = λ n. none_agrees objects_run (with_templates objects.unit objects.wrong) [] 30 _ _ objects_end objects_stop objects_differ n;
}
