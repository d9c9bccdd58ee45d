-- `int main(void){return 1/f(2,2);}int f(int a,int b){return a-b;}`: the arguments are bound in order, and the
-- result is loaded, before the division by 0.
use Rattle.std.specs.Prelude.{◌≡◌, refl, ℕ, zero, suc, true, false, [], ◌∷◌, Some}
use Rattle.cc_base.specs.declared.diagnostics.Rule.TheVariants as rule
use Rattle.c_layout.specs.Leaves.{leaves_of}
use Rattle.c_layout.specs.CheckedTrees as tree
use Rattle.c_layout.specs.CheckedTrees.{More, End, TermTree}
use Rattle.c_layout.specs.CheckedUnits.{FunctionView}
use Rattle.c_layout.specs.declared.syntax_tree.expressions.BinaryOp.TheVariants.{Divide, Subtract}
use Rattle.cc_base.specs.declared.integer_operators.IntOp.TheVariants as sign
use Rattle.cfg.specs.declared.machine_instructions.Amount.TheVariants.{Temp}
use Rattle.cfg.specs.declared.machine_instructions.Scalar.TheVariants as scalar
use Rattle.lower_templates.specs.Worklist.Acts as act
use Rattle.lower_templates.specs.Worklist.Pieces.{TemplateView, Local, Outcome, DoIfUsed, Mark, Call, Always}
use Rattle.lower_templates.specs.Worklist.Scopes.{with_new_scope}
use Rattle.lower_templates.specs.Worklist.Plans.{with_work, with_name, with_labels, with_scope, with_dispatch}
use Rattle.lower_functions.specs.Functions.Turns.{has_work, template_of}
use Rattle.semantics.specs.SourceMachine.SourceRuns.{SourceRun, Run, found_in}
use Rattle.semantics.specs.TemplateMachine.TemplateStates.{Templates, TemplateRun}
use Rattle.semantics.specs.TemplateMachine.TemplateSteps.{template_begin, steps_from}
use Rattle.simulation_terms.specs.SmallSteps.Alike.{Agree}
use Rattle.worked_examples.specs.OneLoop.Units.{at, found_at, term, number, value, binary, local, function_of, unit_of, made, done, ends, address, load, store, constant, int}

abbrev pub call : TermTree
call = term 25 (tree.Call 1 (More (number 27 2) (More (number 29 2) End)) true)

abbrev pub main : FunctionView
main = function_of 0 [] [] (tree.Return (at 16) (Some (binary 24 Divide (number 23 1) call)) ∷ [])

abbrev pub subtracts : FunctionView
subtracts = function_of 2 (local 44 ∷ (local 50 ∷ [])) [] (tree.Return (at 53) (Some (binary 61 Subtract (value 60 0) (value 62 1))) ∷ [])

abbrev pub of_main : TemplateView
of_main = record {
  pieces = constant 23 0 1 ∷ (constant 27 1 2 ∷ (constant 29 2 2 ∷ (Call (record { place = at 25; function = 1; depth = 1; used = true }) ∷ (done 24 (act.Binary 0 sign.Div 0 (Temp 1) int) ∷ (ends 16 act.Stop [] ∷ (ends 1 act.Stop [] ∷ []))))));
  names = [];
  labels = 1;
}

abbrev pub of_subtracts : TemplateView
of_subtracts = record {
  pieces = Mark 1 ∷ (done 1 (act.Enter 0) ∷ (done 1 (act.Enter 1) ∷ (done 1 (act.Enter 2) ∷ (address 1 2 3 ∷ (store 1 2 0 ∷ (address 1 2 4 ∷ (store 1 2 1
      ∷ (Mark 2 ∷ (address 53 0 8 ∷ (address 60 1 11 ∷ (load 60 1 1 ∷ (address 62 2 12 ∷ (load 62 2 2 ∷ (done 61 (act.Binary 1 sign.Sub 1 (Temp 2) int) ∷ (store 53 0 1
      ∷ (done 1 (act.Leave 9) ∷ (done 1 (act.Leave 10) ∷ (ends 1 act.Jump (record { to = 0; taken = Always } ∷ []) ∷ (done 1 (act.Leave 5) ∷ (done 1 (act.Leave 6)
      ∷ (Mark 0 ∷ (DoIfUsed (record { at = at 1; does = act.Address 0 7 0 }) ∷ (DoIfUsed (record { at = at 1; does = act.Load 0 0 (scalar.Int int) }) ∷ (done 1 (act.Leave 7) ∷ []))))))))))))))))))))))));
  names = Local 0 ∷ (Local 1 ∷ (Outcome ∷ (Local 0 ∷ (Local 1 ∷ (Local 0 ∷ (Local 1 ∷ (Outcome ∷ (Outcome ∷ (Local 0 ∷ (Local 1 ∷ (Local 0 ∷ (Local 1 ∷ []))))))))))));
  labels = 3;
}

abbrev pub template_at : ℕ → TemplateView
template_at zero = of_main
template_at (suc n) = of_subtracts

abbrev pub templates : Templates
templates = record { unit = unit_of (main ∷ (subtracts ∷ [])); of = template_at }

-- these are their templates
pub ended : has_work (made main true 40) ≡ false
unfolding with_work with_name with_labels with_scope with_dispatch with_new_scope
ended = refl

pub is_made : template_of (made main true 40) ≡ of_main
unfolding with_work with_name with_labels with_scope with_dispatch with_new_scope
is_made = refl

pub also_ended : has_work (made subtracts false 60) ≡ false
unfolding with_work with_name with_labels with_scope with_dispatch with_new_scope
also_ended = refl

pub also_made : template_of (made subtracts false 60) ≡ of_subtracts
unfolding with_work with_name with_labels with_scope with_dispatch with_new_scope
also_made = refl

abbrev of_source : SourceRun
of_source = Run (unit_of (main ∷ (subtracts ∷ []))) [] 70

abbrev of_templates : TemplateRun
of_templates = steps_from templates 40 (template_begin templates [])

same : Agree of_source of_templates
unfolding leaves_of
same = record { memory = refl; draws = refl; found = refl; why = refl }

division : found_in of_source ≡ found_at 24 rule.Diverr
unfolding leaves_of
division = refl
