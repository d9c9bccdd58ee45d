-- `int main(int n){return n;}` where the outside gives no number, one that is no int, or one that is.
use Rattle.std.specs.Prelude.{◌≡◌, refl, ◌-◌, ◌^◌, ℤ, pos, List, [], ◌∷◌}
use Rattle.c_layout.specs.Leaves.{leaves_of}
use Rattle.c_layout.specs.CheckedUnits.{UnitView}
use Rattle.lower_templates.specs.Worklist.Acts as act
use Rattle.lower_templates.specs.Views.ProgramViews.{FlowView}
use Rattle.semantics.specs.CfgMachine.FlowSteps.{flow_steps}
use Rattle.semantics.specs.CfgMachine.FlowStarts.{flow_begin}
use Rattle.semantics.specs.SourceMachine.SourceRuns.{Run}
use Rattle.semantics.specs.SourceMachine.RunFacts.{Draws, Ended, end_of, used, size}
use Rattle.worked_examples.specs.SourceRuns.Agreement.{Agree}
use Rattle.worked_examples.proofs.source_runs.Builders.{value, give_back, local, function, unit, int_base, step, load, basic_block, parameter, program}

abbrev source : UnitView
source = unit (function 1 (local 14 ∷ []) [] 0 (give_back 17 (value 24 0) ∷ []) ∷ [])

abbrev flow : FlowView
flow = program (int_base ∷ []) (parameter 0 ∷ []) (basic_block 0 0 (step 24 (act.Address 0 0 0) ∷ (load 24 0 0 ∷ (step 17 act.Stop ∷ []))) ∷ []) []

abbrev too_high : List ℤ
too_high = pos (2 ^ 31) ∷ []

abbrev fits : List ℤ
fits = pos (2 ^ 31 - 1) ∷ []

-- a number that is missing is not used, and one that is out of its range is
none : end_of (Run source [] 20) ≡ Draws
unfolding leaves_of
none = refl

none_used : used [] (Run source [] 20) ≡ 0
unfolding leaves_of
none_used = refl

none_same : Agree (Run source [] 20) (flow_steps flow 5 (flow_begin source flow []))
unfolding leaves_of
none_same = record { memory = refl; draws = refl; found = refl; why = refl }

out_of_range : end_of (Run source too_high 20) ≡ Draws
unfolding leaves_of
out_of_range = refl

one_used : used too_high (Run source too_high 20) ≡ 1
unfolding leaves_of
one_used = refl

out_of_range_same : Agree (Run source too_high 20) (flow_steps flow 5 (flow_begin source flow too_high))
unfolding leaves_of
out_of_range_same = record { memory = refl; draws = refl; found = refl; why = refl }

in_range : end_of (Run source fits 20) ≡ Ended
unfolding leaves_of
in_range = refl

four_bytes : size (Run source fits 20) ≡ 4
unfolding leaves_of
four_bytes = refl

in_range_same : Agree (Run source fits 20) (flow_steps flow 5 (flow_begin source flow fits))
unfolding leaves_of
in_range_same = record { memory = refl; draws = refl; found = refl; why = refl }
