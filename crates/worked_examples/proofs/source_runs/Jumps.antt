-- `int main(void){goto in;{int x=1;in:x=2;goto out;}out:return 0;}`: a jump into a block, whose object begins to
-- live without its first value, and one out of it.
use Rattle.std.specs.Prelude.{◌≡◌, refl, [], ◌∷◌}
use Rattle.c_layout.specs.Leaves.{leaves_of}
use Rattle.c_layout.specs.CheckedTrees as tree
use Rattle.c_layout.specs.CheckedUnits.{UnitView}
use Rattle.lower_templates.specs.Worklist.Acts as act
use Rattle.lower_templates.specs.Views.ProgramViews.{FlowView}
use Rattle.semantics.specs.CfgMachine.FlowStates.{FlowRun}
use Rattle.semantics.specs.CfgMachine.FlowSteps.{flow_steps}
use Rattle.semantics.specs.CfgMachine.FlowStarts.{flow_begin}
use Rattle.semantics.specs.SourceMachine.LabelSearch.{found, found_in}
use Rattle.semantics.specs.SourceMachine.SourceRuns.{SourceRun, Run, steps_of}
use Rattle.semantics.specs.SourceMachine.RunFacts.{Ended, end_of}
use Rattle.worked_examples.specs.SourceRuns.Agreement.{Agree}
use Rattle.worked_examples.proofs.source_runs.Builders.{at, term, number, object, give_back, block, local, function, unit, int_base, step, constant, store, basic_block, jump, program}

abbrev source : UnitView
source = unit (function 0 (local 29 ∷ []) [] 2 (
    tree.Goto 0
    ∷ (block (0 ∷ []) (tree.Start (at 29) 0 (number 31 1) ∷ (tree.Label 0 (tree.Value (term 37 (tree.Assign (object 36 0) (number 38 2)))) ∷ (tree.Goto 1 ∷ [])))
    ∷ (tree.Label 1 (give_back 53 (number 60 0)) ∷ []))) ∷ [])

-- the blocks that are come to: to the first label, from there to the second one, and from there on
abbrev flow : FlowView
flow = program (int_base ∷ []) []
    (basic_block 0 1 (step 1 (act.Enter 0) ∷ (step 1 act.Jump ∷ []))
    ∷ (basic_block 1 1 (step 36 (act.Address 0 0 0) ∷ (constant 38 1 2 ∷ (store 36 0 1 ∷ (step 1 (act.Leave 0) ∷ (step 1 act.Jump ∷ [])))))
    ∷ (basic_block 2 0 (constant 60 0 0 ∷ (step 53 act.Stop ∷ [])) ∷ [])))
    (jump 0 1 ∷ (jump 1 2 ∷ []))

abbrev of_source : SourceRun
of_source = Run source [] 50

abbrev of_program : FlowRun
of_program = flow_steps flow 12 (flow_begin source flow [])

has_ended : end_of of_source ≡ Ended
unfolding leaves_of found found_in
has_ended = refl

steps : steps_of of_source ≡ 9
unfolding leaves_of found found_in
steps = refl

same : Agree of_source of_program
unfolding leaves_of found found_in
same = record { memory = refl; draws = refl; found = refl; why = refl }
