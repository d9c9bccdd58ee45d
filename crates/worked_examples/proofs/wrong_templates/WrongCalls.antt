-- Wrong templates of calls are refused.
use Rattle.std.proofs.Common.{◌≡◌, [], length, Some, refl, sym, ap, arith, ◌∙◌}
use Rattle.cc_base.specs.declared.diagnostics.Rule.TheVariants as rule
use Rattle.c_layout.specs.Leaves.{leaves_of}
use Rattle.lower_templates.specs.Worklist.Plans.{with_work, with_name, with_labels, with_scope, with_dispatch}
use Rattle.lower_templates.specs.Worklist.Scopes.{with_new_scope}
use Rattle.memory_model.specs.Effects.Worlds as why
use Rattle.semantics.specs.SourceMachine.SourceRuns as source
use Rattle.semantics.specs.SourceMachine.SourceRuns.{SourceRun, Run}
use Rattle.semantics.specs.TemplateMachine.TemplateStates.{TemplateRun, world_of, found_in, why_of}
use Rattle.simulation_terms.specs.SmallSteps.Alike.{Agree}
use Rattle.worked_examples.specs.OneLoop.Units.{found_at}
use Rattle.worked_examples.specs.WrongTemplates.Refusals.{IsRefused, AreTemplates, with_templates, run_of}
use Rattle.worked_examples.specs.WrongTemplates.LeftOutCalls as calls
use Rattle.worked_examples.specs.WrongTemplates.EarlyStores as stores
use Rattle.worked_examples.proofs.wrong_templates.Stops.{none_agrees}

abbrev calls_run : SourceRun
calls_run = Run calls.unit [] 40

abbrev calls_refused : TemplateRun
calls_refused = run_of (with_templates calls.unit calls.wrong) [] 20

calls_own : AreTemplates calls.right 0 calls.unit.functions
unfolding with_work with_name with_labels with_scope with_dispatch with_new_scope
calls_own = (record { turns = 40; ended = refl; comes_to = refl }, (record { turns = 40; ended = refl; comes_to = refl }, tt))

calls_agree : Agree calls_run (run_of (with_templates calls.unit calls.right) [] 20)
unfolding leaves_of
calls_agree = record { memory = refl; draws = refl; found = refl; why = refl }

calls_end : source.why_of calls_run ≡ Some why.Ended
unfolding leaves_of
calls_end = refl

calls_stop : why_of calls_refused ≡ Some why.Violated
unfolding leaves_of
calls_stop = refl

calls_find : source.found_in calls_run ≡ []
unfolding leaves_of
calls_find = refl

calls_find_else : found_in calls_refused ≡ found_at 47 rule.Diverr
unfolding leaves_of
calls_find_else = refl

calls_differ : Agree calls_run calls_refused → ⊥
calls_differ agree = different (sym calls_find ∙ (agree.found ∙ calls_find_else))
  where
    different : [] ≡ found_at 47 rule.Diverr → ⊥
    different e = cc

pub left_out_call_is_wrong : IsRefused calls.unit calls.right calls.wrong
left_out_call_is_wrong = record {
  own = calls_own;
  draws = [];
  turns = 40;
  steps = 20;
  agrees = calls_agree;
  agrees_with_none = λ n. none_agrees calls_run (with_templates calls.unit calls.wrong) [] 20 _ _ calls_end calls_stop calls_differ n;
}

abbrev stores_run : SourceRun
stores_run = Run stores.unit [] 30

abbrev stores_refused : TemplateRun
stores_refused = run_of (with_templates stores.unit stores.wrong) [] 15

stores_own : AreTemplates stores.right 0 stores.unit.functions
unfolding with_work with_name with_labels with_scope with_dispatch with_new_scope
stores_own = (record { turns = 40; ended = refl; comes_to = refl }, (record { turns = 40; ended = refl; comes_to = refl }, tt))

stores_agree : Agree stores_run (run_of (with_templates stores.unit stores.right) [] 15)
unfolding leaves_of
stores_agree = record { memory = refl; draws = refl; found = refl; why = refl }

stores_end : source.why_of stores_run ≡ Some why.Violated
unfolding leaves_of
stores_end = refl

stores_stop : why_of stores_refused ≡ Some why.Violated
unfolding leaves_of
stores_stop = refl

stores_make : length (source.world_of stores_run).memory ≡ 0
unfolding leaves_of
stores_make = refl

stores_make_more : length (world_of stores_refused).memory ≡ 2
unfolding leaves_of
stores_make_more = refl

stores_differ : Agree stores_run stores_refused → ⊥
stores_differ agree = let e : 0 ≡ 2 = sym stores_make ∙ (ap (λ memory. length memory) agree.memory ∙ stores_make_more) in omega (arith, e)

pub early_store_is_wrong : IsRefused stores.unit stores.right stores.wrong
early_store_is_wrong = record {
  own = stores_own;
  draws = [];
  turns = 30;
  steps = 15;
  agrees = stores_agree;
  agrees_with_none = λ n. none_agrees stores_run (with_templates stores.unit stores.wrong) [] 15 _ _ stores_end stores_stop stores_differ n;
}
