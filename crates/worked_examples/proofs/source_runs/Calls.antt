-- `int main(void){return 1/f(2,2);}int f(int a,int b){return a-b;}`: the arguments are bound in order, and the
-- result is loaded, before the division by 0.
use Rattle.std.specs.Prelude.{◌≡◌, refl, true, [], ◌∷◌}
use Rattle.cc_base.specs.declared.diagnostics.Rule.TheVariants as rule
use Rattle.cc_base.specs.declared.integer_operators.IntOp.TheVariants as sign
use Rattle.c_layout.specs.Leaves.{leaves_of}
use Rattle.c_layout.specs.CheckedTrees as tree
use Rattle.c_layout.specs.CheckedTrees.{TermTrees, More, End, TermTree}
use Rattle.c_layout.specs.CheckedUnits.{UnitView}
use Rattle.c_layout.specs.declared.syntax_tree.expressions.BinaryOp.TheVariants.{Divide, Subtract}
use Rattle.cfg.specs.declared.machine_instructions.Amount.TheVariants.{Temp}
use Rattle.lower_templates.specs.Worklist.Acts as act
use Rattle.lower_templates.specs.Views.ProgramViews.{FlowView}
use Rattle.semantics.specs.CfgMachine.FlowStates.{FlowRun}
use Rattle.semantics.specs.CfgMachine.FlowSteps.{flow_steps}
use Rattle.semantics.specs.CfgMachine.FlowStarts.{flow_begin}
use Rattle.semantics.specs.SourceMachine.SourceRuns.{SourceRun, Run, found_in, steps_of}
use Rattle.semantics.specs.SourceMachine.RunFacts.{Violation, end_of}
use Rattle.worked_examples.specs.SourceRuns.Agreement.{Agree}
use Rattle.worked_examples.proofs.source_runs.Builders.{int, found_at, term, number, value, binary, give_back, local, function, unit, int_base, step, constant, load, store, basic_block, jump, program}

abbrev called : TermTree
called = term 25 (tree.Call 1 (More (number 27 2) (More (number 29 2) End)) true)

abbrev source : UnitView
source = unit (function 0 [] [] 0 (give_back 16 (binary 24 Divide (number 23 1) called) ∷ []) ∷ (function 2 (local 44 ∷ (local 50 ∷ [])) [] 0 (give_back 53 (binary 61 Subtract (value 60 0) (value 62 1)) ∷ []) ∷ []))

-- parameters, body, after: the bases are those of a, b and the result
abbrev flow : FlowView
flow = program (int_base ∷ (int_base ∷ (int_base ∷ []))) []
    (basic_block 0 1 (constant 23 0 1 ∷ (constant 27 1 2 ∷ (constant 29 2 2
    ∷ (step 1 (act.Enter 0) ∷ (step 1 (act.Enter 1) ∷ (step 1 (act.Enter 2)
    ∷ (step 1 (act.Address 3 0 0) ∷ (store 1 3 1 ∷ (step 1 (act.Address 3 1 0) ∷ (store 1 3 2 ∷ (step 1 act.Jump ∷ [])))))))))))
    ∷ (basic_block 1 1 (step 53 (act.Address 1 2 0) ∷ (step 60 (act.Address 2 0 0) ∷ (load 60 2 2 ∷ (step 62 (act.Address 3 1 0) ∷ (load 62 3 3
    ∷ (step 61 (act.Binary 2 sign.Sub 2 (Temp 3) int) ∷ (store 53 1 2
    ∷ (step 1 (act.Leave 0) ∷ (step 1 (act.Leave 1) ∷ (step 1 act.Jump ∷ []))))))))))
    ∷ (basic_block 2 0 (step 25 (act.Address 1 2 0) ∷ (load 25 1 1 ∷ (step 25 (act.Leave 2) ∷ (step 24 (act.Binary 0 sign.Div 0 (Temp 1) int) ∷ (step 16 act.Stop ∷ []))))) ∷ [])))
    (jump 0 1 ∷ (jump 1 2 ∷ []))

abbrev of_source : SourceRun
of_source = Run source [] 70

abbrev of_program : FlowRun
of_program = flow_steps flow 30 (flow_begin source flow [])

division : found_in of_source ≡ found_at 24 rule.Diverr
unfolding leaves_of
division = refl

ends_by_it : end_of of_source ≡ Violation
unfolding leaves_of
ends_by_it = refl

-- the instructions of the program without the jump that its second label makes
steps : steps_of of_source ≡ 24
unfolding leaves_of
steps = refl

same : Agree of_source of_program
unfolding leaves_of
same = record { memory = refl; draws = refl; found = refl; why = refl }
