-- `int main(int n){if(n<5){int x=0;return x;}return 1;}` with the number 3 from the outside.
use Rattle.std.specs.Prelude.{◌≡◌, refl, ℤ, pos, true, false, List, [], ◌∷◌, Some}
use Rattle.cc_base.specs.declared.integer_operators.Rel.TheVariants.{Lt, Ge}
use Rattle.c_layout.specs.Leaves.{leaves_of}
use Rattle.c_layout.specs.CheckedTrees as tree
use Rattle.c_layout.specs.CheckedUnits.{UnitView}
use Rattle.c_layout.specs.declared.leaf_lists.Class.TheVariants as class
use Rattle.c_layout.specs.declared.syntax_tree.expressions.BinaryOp.TheVariants.{Less}
use Rattle.cfg.specs.declared.machine_instructions.Scalar.TheVariants as scalar
use Rattle.lower_templates.specs.Worklist.Acts as act
use Rattle.lower_templates.specs.Views.ProgramViews.{FlowView}
use Rattle.memory_model.specs.Memory.Bytes.{number as byte_number}
use Rattle.memory_model.specs.Memory.Tags.{tag_of}
use Rattle.memory_model.specs.Memory.Instances.{byte_at}
use Rattle.memory_model.specs.Effects.Worlds.{Ended}
use Rattle.semantics.specs.CfgMachine.FlowStates.{FlowRun}
use Rattle.semantics.specs.CfgMachine.FlowSteps.{flow_steps}
use Rattle.semantics.specs.CfgMachine.FlowStarts.{flow_begin}
use Rattle.semantics.specs.SourceMachine.SourceRuns.{SourceRun, Run, world_of, steps_of, why_of}
use Rattle.worked_examples.specs.SourceRuns.Agreement.{Agree}
use Rattle.worked_examples.proofs.source_runs.Builders.{at, number, value, binary, give_back, block, local, function, unit, int_base, step, constant, load, store, basic_block, when, test, parameter, program}

abbrev source : UnitView
source = unit (function 1 (local 14 ∷ (local 26 ∷ [])) [] 0 (
    tree.If (binary 21 Less (value 20 0) (number 22 5)) (block (1 ∷ []) (tree.Start (at 30) 1 (number 32 0) ∷ (give_back 34 (value 41 1) ∷ [])))
    ∷ (give_back 44 (number 51 1) ∷ [])) ∷ [])

abbrev flow : FlowView
flow = program (int_base ∷ (int_base ∷ [])) (parameter 0 ∷ [])
    (basic_block 0 2 (step 20 (act.Address 0 0 0) ∷ (load 20 0 0 ∷ (constant 22 1 5 ∷ (step 21 (act.Compare 0 Lt 0 1) ∷ (step 21 (act.Branch 0 (scalar.Int record { bytes = 4; signed = true; rank = 3 })) ∷ [])))))
    ∷ (basic_block 2 0 (step 1 (act.Enter 1) ∷ (step 30 (act.Address 0 1 0) ∷ (constant 32 1 0 ∷ (store 30 0 1 ∷ (step 41 (act.Address 0 1 0) ∷ (load 41 0 0 ∷ (step 1 (act.Leave 1) ∷ (step 34 act.Stop ∷ []))))))))
    ∷ (basic_block 2 0 (constant 51 0 1 ∷ (step 44 act.Stop ∷ [])) ∷ [])))
    (when true (test 0 Lt 5) 0 1 ∷ (when false (test 0 Ge 5) 0 2 ∷ []))

abbrev draws : List ℤ
draws = pos 3 ∷ []

abbrev of_source : SourceRun
of_source = Run source draws 60

abbrev of_program : FlowRun
of_program = flow_steps flow 20 (flow_begin source flow draws)

has_ended : why_of of_source ≡ Some Ended
unfolding leaves_of
has_ended = refl

-- the entry's two steps of the block's object, and eleven others
steps : steps_of of_source ≡ 13
unfolding leaves_of
steps = refl

-- the first byte of n is 3; the test has shown that it is not too high
first_byte : byte_at (world_of of_source).memory 0 0 ≡ Some (record { content = byte_number 3 (record { low = true; high = false; changed = false }); tag = tag_of class.Int 0 })
unfolding leaves_of byte_at
first_byte = refl

same : Agree of_source of_program
unfolding leaves_of
same = record { memory = refl; draws = refl; found = refl; why = refl }
