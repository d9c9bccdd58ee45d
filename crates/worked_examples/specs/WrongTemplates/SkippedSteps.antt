-- `int main(void){int i=1;for(;i;1/i){i=0;continue;}return 0;}`: the step of the loop divides by 0, unless `continue` skips it.
use Rattle.std.specs.Prelude.{ℕ, pos, true, false, [], ◌∷◌, Some, None}
use Rattle.cc_base.specs.declared.integer_operators.IntOp.TheVariants as sign
use Rattle.cc_base.specs.declared.integer_operators.Rel.{Rel}
use Rattle.cc_base.specs.declared.integer_operators.Rel.TheVariants as rel
use Rattle.c_layout.specs.CheckedTrees as tree
use Rattle.c_layout.specs.CheckedTrees.{StatementTree, statement_trees}
use Rattle.c_layout.specs.CheckedUnits.{FunctionView, UnitView}
use Rattle.c_layout.specs.declared.syntax_tree.expressions.BinaryOp.TheVariants.{Divide}
use Rattle.cfg.specs.declared.flow_edges.Side.TheVariants as side
use Rattle.cfg.specs.declared.flow_edges.Test.{Test}
use Rattle.cfg.specs.declared.machine_instructions.Amount.TheVariants.{Temp}
use Rattle.cfg.specs.declared.machine_instructions.Scalar.TheVariants as scalar
use Rattle.lower_templates.specs.Worklist.Acts as act
use Rattle.lower_templates.specs.Worklist.Pieces.{TemplateView, PieceView, Local, Mark, When, Always}
use Rattle.worked_examples.specs.OneLoop.Units.{int, at, term, number, object, value, binary, local, function_of, unit_of, done, ends, address, load, store, constant}

-- `{i=0;continue;}`
abbrev pub body : StatementTree
body = tree.Block [] (statement_trees (tree.Value (term 37 (tree.Assign (object 36 0) (number 38 0))) ∷ (tree.Continue ∷ [])))

abbrev pub loop : StatementTree
loop = tree.For [] tree.NoMore (Some (value 29 0)) (Some (binary 32 Divide (number 31 1) (value 33 0))) body

abbrev pub main : FunctionView
main = function_of 0 (local 20 ∷ []) (0 ∷ []) (tree.Start (at 20) 0 (number 22 1) ∷ (loop ∷ (tree.Return (at 50) (Some (number 57 0)) ∷ [])))

abbrev pub unit : UnitView
unit = unit_of (main ∷ [])

-- the object against 0
abbrev pub test : Rel → Test
test rel = record { left = side.Object 3 (scalar.Int int); rel = rel; right = side.Number (pos 0); common = Some int }

abbrev pub jump : ℕ → PieceView
jump to = ends 1 act.Jump (record { to = to; taken = Always } ∷ [])

-- by the label to which `continue` leads
abbrev pub of_main : ℕ → TemplateView
of_main continued = record {
  pieces = done 1 (act.Enter 0) ∷ (address 20 0 2 ∷ (constant 22 1 1 ∷ (store 20 0 1 ∷ (Mark 1
      ∷ (Mark 2 ∷ (address 29 0 4 ∷ (load 29 0 0
      ∷ (ends 29 (act.Branch 0 (scalar.Int int)) (record { to = 3; taken = When true (Some (test rel.Ne)) None } ∷ (record { to = 5; taken = When false (Some (test rel.Eq)) None } ∷ []))
      ∷ (Mark 3 ∷ (address 36 0 5 ∷ (constant 38 1 0 ∷ (store 36 0 1 ∷ (jump continued
      ∷ (Mark 4 ∷ (constant 31 0 1 ∷ (address 33 1 6 ∷ (load 33 1 1 ∷ (done 32 (act.Binary 0 sign.Div 0 (Temp 1) int) ∷ (jump 2
      ∷ (Mark 5 ∷ (constant 57 0 0 ∷ (done 1 (act.Leave 7) ∷ (ends 50 act.Stop []
      ∷ (done 1 (act.Leave 1) ∷ (ends 1 act.Stop [] ∷ [])))))))))))))))))))))))));
  names = Local 0 ∷ (Local 0 ∷ (Local 0 ∷ (Local 0 ∷ (Local 0 ∷ (Local 0 ∷ (Local 0 ∷ (Local 0 ∷ [])))))));
  labels = 6;
}

-- `continue` leads to the step
abbrev pub right : ℕ → TemplateView
right n = of_main 4

-- `continue` leads to the condition
abbrev pub wrong : ℕ → TemplateView
wrong n = of_main 2
