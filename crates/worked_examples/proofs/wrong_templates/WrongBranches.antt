-- Wrong templates of selections and of `&&` are refused.
use Rattle.std.proofs.Common.{◌≡◌, [], Some, refl, sym, ◌∙◌}
use Rattle.cc_base.specs.declared.diagnostics.Rule.TheVariants as rule
use Rattle.c_layout.specs.Leaves.{leaves_of}
use Rattle.lower_templates.specs.Worklist.Plans.{with_work, with_name, with_labels, with_scope, with_dispatch}
use Rattle.lower_templates.specs.Worklist.Scopes.{with_new_scope}
use Rattle.memory_model.specs.Effects.Worlds as why
use Rattle.semantics.specs.SourceMachine.SourceRuns as source
use Rattle.semantics.specs.SourceMachine.SourceRuns.{SourceRun, Run}
use Rattle.semantics.specs.TemplateMachine.TemplateStates.{TemplateRun, found_in, why_of}
use Rattle.simulation_terms.specs.SmallSteps.Alike.{Agree}
use Rattle.worked_examples.specs.OneLoop.Units.{found_at}
use Rattle.worked_examples.specs.WrongTemplates.Refusals.{IsRefused, AreTemplates, with_templates, run_of}
use Rattle.worked_examples.specs.WrongTemplates.TakenElses as elses
use Rattle.worked_examples.specs.WrongTemplates.BothOperands as operands
use Rattle.worked_examples.proofs.wrong_templates.Stops.{none_agrees}

abbrev elses_run : SourceRun
elses_run = Run elses.unit [] 30

abbrev elses_refused : TemplateRun
elses_refused = run_of (with_templates elses.unit elses.wrong) [] 15

elses_own : AreTemplates elses.right 0 elses.unit.functions
unfolding with_work with_name with_labels with_scope with_dispatch with_new_scope
elses_own = (record { turns = 40; ended = refl; comes_to = refl }, tt)

elses_agree : Agree elses_run (run_of (with_templates elses.unit elses.right) [] 15)
unfolding leaves_of
elses_agree = record { memory = refl; draws = refl; found = refl; why = refl }

elses_end : source.why_of elses_run ≡ Some why.Ended
unfolding leaves_of
elses_end = refl

elses_stop : why_of elses_refused ≡ Some why.Violated
unfolding leaves_of
elses_stop = refl

elses_find : source.found_in elses_run ≡ []
unfolding leaves_of
elses_find = refl

elses_find_else : found_in elses_refused ≡ found_at 43 rule.Diverr
unfolding leaves_of
elses_find_else = refl

elses_differ : Agree elses_run elses_refused → ⊥
elses_differ agree = different (sym elses_find ∙ (agree.found ∙ elses_find_else))
  where
    different : [] ≡ found_at 43 rule.Diverr → ⊥
    different e = cc

pub else_on_true_is_wrong : IsRefused elses.unit elses.right elses.wrong
else_on_true_is_wrong = record {
  own = elses_own;
  draws = [];
  turns = 30;
  steps = 15;
  agrees = elses_agree;
  agrees_with_none = λ n. none_agrees elses_run (with_templates elses.unit elses.wrong) [] 15 _ _ elses_end elses_stop elses_differ n;
}

abbrev operands_run : SourceRun
operands_run = Run operands.unit [] 30

abbrev operands_refused : TemplateRun
operands_refused = run_of (with_templates operands.unit operands.wrong) [] 15

operands_own : AreTemplates operands.right 0 operands.unit.functions
unfolding with_work with_name with_labels with_scope with_dispatch with_new_scope
operands_own = (record { turns = 40; ended = refl; comes_to = refl }, tt)

operands_agree : Agree operands_run (run_of (with_templates operands.unit operands.right) [] 15)
unfolding leaves_of
operands_agree = record { memory = refl; draws = refl; found = refl; why = refl }

operands_end : source.why_of operands_run ≡ Some why.Ended
unfolding leaves_of
operands_end = refl

operands_stop : why_of operands_refused ≡ Some why.Violated
unfolding leaves_of
operands_stop = refl

operands_find : source.found_in operands_run ≡ []
unfolding leaves_of
operands_find = refl

operands_find_else : found_in operands_refused ≡ found_at 27 rule.Diverr
unfolding leaves_of
operands_find_else = refl

operands_differ : Agree operands_run operands_refused → ⊥
operands_differ agree = different (sym operands_find ∙ (agree.found ∙ operands_find_else))
  where
    different : [] ≡ found_at 27 rule.Diverr → ⊥
    different e = cc

pub both_operands_are_wrong : IsRefused operands.unit operands.right operands.wrong
both_operands_are_wrong = record {
  own = operands_own;
  draws = [];
  turns = 30;
  steps = 15;
  agrees = operands_agree;
  agrees_with_none = λ n. none_agrees operands_run (with_templates operands.unit operands.wrong) [] 15 _ _ operands_end operands_stop operands_differ n;
}
