-- `int main(void){int i;for(i=0;i<1;i++);return 1/i;}` runs to its end.
use Rattle.std.specs.Prelude.{◌≡◌, refl, [], Some}
use Rattle.c_layout.specs.Leaves.{leaves_of}
use Rattle.memory_model.specs.Effects.Worlds as why
use Rattle.semantics.specs.SourceMachine.SourceRuns.{SourceRun, Run, why_of}
use Rattle.semantics.specs.TemplateMachine.TemplateStates.{TemplateRun}
use Rattle.semantics.specs.TemplateMachine.TemplateSteps.{template_begin, steps_from}
use Rattle.simulation_terms.specs.SmallSteps.Alike.{Agree}
use Rattle.worked_examples.specs.OneLoop.Loop.{templates}

abbrev of_source : SourceRun
of_source = Run (templates 1).unit [] 100

abbrev of_templates : TemplateRun
of_templates = steps_from (templates 1) 45 (template_begin (templates 1) [])

same : Agree of_source of_templates
unfolding leaves_of
same = record { memory = refl; draws = refl; found = refl; why = refl }

ends_so : why_of of_source ≡ Some why.Ended
unfolding leaves_of
ends_so = refl
