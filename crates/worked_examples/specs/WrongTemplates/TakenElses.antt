-- `int main(void){if(1)return 0;else return 1/0;}`: where the branches of an `if` are taken the wrong way round, there
-- is a division by 0.
use Rattle.std.specs.Prelude.{ℕ, true, false, [], ◌∷◌, Some, None}
use Rattle.cc_base.specs.declared.integer_operators.IntOp.TheVariants as sign
use Rattle.c_layout.specs.CheckedTrees as tree
use Rattle.c_layout.specs.CheckedUnits.{FunctionView, UnitView}
use Rattle.c_layout.specs.declared.syntax_tree.expressions.BinaryOp.TheVariants.{Divide}
use Rattle.cfg.specs.declared.machine_instructions.Amount.TheVariants.{Temp}
use Rattle.cfg.specs.declared.machine_instructions.Scalar.TheVariants as scalar
use Rattle.lower_templates.specs.Worklist.Acts as act
use Rattle.lower_templates.specs.Worklist.Pieces.{TemplateView, Mark, When, Always}
use Rattle.worked_examples.specs.OneLoop.Units.{int, at, number, binary, function_of, unit_of, done, ends, constant}

abbrev pub main : FunctionView
main = function_of 0 [] [] (tree.IfElse (number 19 1) (tree.Return (at 21) (Some (number 28 0))) (tree.Return (at 35) (Some (binary 43 Divide (number 42 1) (number 44 0)))) ∷ [])

abbrev pub unit : UnitView
unit = unit_of (main ∷ [])

-- the labels to which the branch leads where the condition holds, and where it does not
abbrev pub of_main : ℕ → ℕ → TemplateView
of_main held failed = record {
  pieces = Mark 1 ∷ (constant 19 0 1 ∷ (ends 19 (act.Branch 0 (scalar.Int int)) (record { to = held; taken = When true None None } ∷ (record { to = failed; taken = When false None None } ∷ []))
      ∷ (Mark 2 ∷ (constant 28 0 0 ∷ (ends 21 act.Stop [] ∷ (ends 1 act.Jump (record { to = 4; taken = Always } ∷ [])
      ∷ (Mark 3 ∷ (constant 42 0 1 ∷ (constant 44 1 0 ∷ (done 43 (act.Binary 0 sign.Div 0 (Temp 1) int) ∷ (ends 35 act.Stop []
      ∷ (Mark 4 ∷ (ends 1 act.Stop [] ∷ [])))))))))))));
  names = [];
  labels = 5;
}

-- the `else` is come to where the condition fails
abbrev pub right : ℕ → TemplateView
right n = of_main 2 3

-- the `else` is come to where the condition holds
abbrev pub wrong : ℕ → TemplateView
wrong n = of_main 3 2
