-- `int main(void){for(;;);}`: each turn of the loop is a step, and the run never stops.
use Rattle.std.specs.Prelude.{◌≡◌, refl, [], ◌∷◌, None}
use Rattle.c_layout.specs.Leaves.{leaves_of}
use Rattle.c_layout.specs.CheckedTrees as tree
use Rattle.c_layout.specs.CheckedUnits.{UnitView}
use Rattle.lower_templates.specs.Worklist.Acts as act
use Rattle.lower_templates.specs.Views.ProgramViews.{FlowView}
use Rattle.semantics.specs.CfgMachine.FlowSteps.{flow_steps}
use Rattle.semantics.specs.CfgMachine.FlowStarts.{flow_begin}
use Rattle.semantics.specs.SourceMachine.SourceRuns.{Run, steps_of}
use Rattle.semantics.specs.SourceMachine.RunFacts.{Steps, end_of}
use Rattle.worked_examples.specs.SourceRuns.Agreement.{Agree}
use Rattle.worked_examples.proofs.source_runs.Builders.{function, unit, step, basic_block, jump, program}

abbrev source : UnitView
source = unit (function 0 [] [] 0 (tree.For [] tree.NoMore None None tree.Nothing ∷ []) ∷ [])

-- first clause, condition, body and step are blocks of their own; the last one leads back
abbrev flow : FlowView
flow = program [] [] (basic_block 0 1 (step 1 act.Jump ∷ []) ∷ []) (jump 0 0 ∷ [])

-- of 22 turns 4 are steps; 2 lead to the first one, and 5 make up each turn of the loop
four_steps : steps_of (Run source [] 22) ≡ 4
unfolding leaves_of
four_steps = refl

goes_on : end_of (Run source [] 22) ≡ Steps
unfolding leaves_of
goes_on = refl

same : Agree (Run source [] 22) (flow_steps flow 4 (flow_begin source flow []))
unfolding leaves_of
same = record { memory = refl; draws = refl; found = refl; why = refl }
