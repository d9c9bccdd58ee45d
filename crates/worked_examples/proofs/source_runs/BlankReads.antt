-- `int main(void){int a;return a;}`: the object is read before it has a value.
use Rattle.std.specs.Prelude.{◌≡◌, refl, [], ◌∷◌}
use Rattle.cc_base.specs.declared.diagnostics.Rule.TheVariants as rule
use Rattle.c_layout.specs.Leaves.{leaves_of}
use Rattle.c_layout.specs.CheckedTrees as tree
use Rattle.c_layout.specs.CheckedUnits.{UnitView}
use Rattle.lower_templates.specs.Worklist.Acts as act
use Rattle.lower_templates.specs.Views.ProgramViews.{FlowView}
use Rattle.semantics.specs.CfgMachine.FlowSteps.{flow_steps}
use Rattle.semantics.specs.CfgMachine.FlowStarts.{flow_begin}
use Rattle.semantics.specs.SourceMachine.SourceRuns.{Run, found_in}
use Rattle.worked_examples.specs.SourceRuns.Agreement.{Agree}
use Rattle.worked_examples.proofs.source_runs.Builders.{at, found_at, value, give_back, local, function, unit, int_base, step, load, basic_block, program}

abbrev source : UnitView
source = unit (function 0 (local 20 ∷ []) (0 ∷ []) 0 (tree.Forget (at 20) 0 ∷ (give_back 22 (value 29 0) ∷ [])) ∷ [])

abbrev flow : FlowView
flow = program (int_base ∷ []) [] (basic_block 0 0 (step 1 (act.Enter 0) ∷ (step 20 (act.Forget 0) ∷ (step 29 (act.Address 0 0 0) ∷ (load 29 0 0 ∷ (step 1 (act.Leave 0) ∷ (step 22 act.Stop ∷ [])))))) ∷ []) []

blank : found_in (Run source [] 20) ≡ found_at 29 rule.Uninitref
unfolding leaves_of
blank = refl

same : Agree (Run source [] 20) (flow_steps flow 8 (flow_begin source flow []))
unfolding leaves_of
same = record { memory = refl; draws = refl; found = refl; why = refl }
