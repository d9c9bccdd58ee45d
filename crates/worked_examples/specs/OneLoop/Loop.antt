-- `int main(void){int i;for(i=0;i<b;i++);return 1/i;}`, its template, and what is said of both.
use Rattle.std.specs.Prelude.{ℕ, pos, true, false, ℤ, List, [], ◌∷◌, Some, None}
use Rattle.cc_base.specs.declared.integer_operators.IntOp.TheVariants as sign
use Rattle.cc_base.specs.declared.integer_operators.Rel.{Rel}
use Rattle.cc_base.specs.declared.integer_operators.Rel.TheVariants as rel
use Rattle.c_layout.specs.CheckedTrees as tree
use Rattle.c_layout.specs.CheckedTrees.{TermTree, StatementTree}
use Rattle.c_layout.specs.CheckedUnits.{FunctionView}
use Rattle.c_layout.specs.Types.{Int}
use Rattle.c_layout.specs.declared.syntax_tree.expressions.BinaryOp.TheVariants.{Less, Divide}
use Rattle.c_layout.specs.declared.syntax_tree.expressions.StepOp.TheVariants.{Increment}
use Rattle.c_layout.specs.declared.checked_tree.checked_terms.StepTime.TheVariants.{Postfix}
use Rattle.cfg.specs.declared.flow_edges.Side.TheVariants as side
use Rattle.cfg.specs.declared.flow_edges.Test.{Test}
use Rattle.cfg.specs.declared.machine_instructions.Amount.TheVariants.{Temp, One}
use Rattle.cfg.specs.declared.machine_instructions.Scalar.TheVariants as scalar
use Rattle.lower_templates.specs.Worklist.Acts as act
use Rattle.lower_templates.specs.Worklist.Pieces.{TemplateView, PieceView, Local, Mark, When, Always}
use Rattle.lower_functions.specs.Functions.Functions.{IsTemplate}
use Rattle.semantics.specs.SourceMachine.SourceRuns.{Run}
use Rattle.semantics.specs.TemplateMachine.TemplateStates.{Templates}
use Rattle.semantics.specs.TemplateMachine.TemplateSteps.{template_begin, steps_from}
use Rattle.simulation_terms.specs.SmallSteps.Alike.{Agree}
use Rattle.worked_examples.specs.OneLoop.Units.{int, at, term, number, object, value, binary, local, function_of, unit_of, done, ends, address, load, store, constant}

abbrev pub is_less : ℕ → TermTree
is_less b = binary 31 Less (value 30 0) (number 32 b)

abbrev pub counts : TermTree
counts = term 34 (tree.Step Increment Postfix (Int int) (object 34 0))

abbrev pub loop : ℕ → StatementTree
loop b = tree.For [] (tree.And (tree.Value (term 27 (tree.Assign (object 26 0) (number 28 0)))) tree.NoMore) (Some (is_less b)) (Some counts) tree.Nothing

abbrev pub quotient : TermTree
quotient = binary 47 Divide (number 46 1) (value 48 0)

abbrev pub main : ℕ → FunctionView
main b = function_of 0 (local 20 ∷ []) (0 ∷ []) (tree.Forget (at 20) 0 ∷ (loop b ∷ (tree.Return (at 39) (Some quotient) ∷ [])))

abbrev pub test : Rel → ℕ → Test
test rel b = record { left = side.Object 4 (scalar.Int int); rel = rel; right = side.Number (pos b); common = Some int }

-- the objects of the block are left, and the run stops
abbrev pub past_loop : List PieceView
past_loop = constant 46 0 1 ∷ (address 48 1 8 ∷ (load 48 1 1 ∷ (done 47 (act.Binary 0 sign.Div 0 (Temp 1) int) ∷ (done 1 (act.Leave 7) ∷ (ends 39 act.Stop [] ∷ (done 1 (act.Leave 1) ∷ (ends 1 act.Stop [] ∷ [])))))))

abbrev pub in_body : List PieceView
in_body = Mark 4 ∷ (address 34 0 6 ∷ (load 34 1 0 ∷ (done 34 (act.Binary 1 sign.Add 1 One int) ∷ (store 34 0 1 ∷ (ends 1 act.Jump (record { to = 2; taken = Always } ∷ []) ∷ (Mark 5 ∷ past_loop))))))

abbrev pub in_test : ℕ → List PieceView
in_test b = address 30 0 5 ∷ (load 30 0 0 ∷ (constant 32 1 b ∷ (done 31 (act.Compare 0 rel.Lt 0 1)
    ∷ (ends 31 (act.Branch 0 (scalar.Int int)) (record { to = 3; taken = When true (Some (test rel.Lt b)) None } ∷ (record { to = 5; taken = When false (Some (test rel.Ge b)) None } ∷ []))
    ∷ (Mark 3 ∷ in_body)))))

abbrev pub of_main : ℕ → TemplateView
of_main b = record {
  pieces = done 1 (act.Enter 0) ∷ (done 20 (act.Forget 2) ∷ (Mark 1 ∷ (address 26 0 3 ∷ (constant 28 1 0 ∷ (store 26 0 1 ∷ (Mark 2 ∷ in_test b))))));
  names = Local 0 ∷ (Local 0 ∷ (Local 0 ∷ (Local 0 ∷ (Local 0 ∷ (Local 0 ∷ (Local 0 ∷ (Local 0 ∷ (Local 0 ∷ []))))))));
  labels = 6;
}

abbrev pub templates : ℕ → Templates
templates b = record { unit = unit_of (main b ∷ []); of = λ n. of_main b }

-- this is the template of the function, and each run of the unit is one of the template
pub record IsFollowed (b : ℕ) : Type 0 where
  pub template : IsTemplate [] 8 4 (main b) true (of_main b)
  pub runs : (draws : List ℤ) (turns : ℕ) → (steps : ℕ) × Agree (Run (unit_of (main b ∷ [])) draws turns) (steps_from (templates b) steps (template_begin (templates b) draws))
