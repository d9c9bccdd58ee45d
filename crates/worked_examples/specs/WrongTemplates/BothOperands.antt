-- `int main(void){return 0&&1/0;}`: where both operands of `&&` are evaluated, there is a division by 0.
use Rattle.std.specs.Prelude.{ℕ, pos, true, false, [], ◌∷◌, Some, None}
use Rattle.cc_base.specs.declared.integer_operators.IntOp.TheVariants as sign
use Rattle.c_layout.specs.CheckedTrees as tree
use Rattle.c_layout.specs.CheckedUnits.{FunctionView, UnitView}
use Rattle.c_layout.specs.declared.syntax_tree.expressions.BinaryOp.TheVariants.{Divide}
use Rattle.c_layout.specs.declared.syntax_tree.expressions.LogicalOp.TheVariants.{And}
use Rattle.cfg.specs.declared.machine_instructions.Amount.TheVariants.{Temp}
use Rattle.cfg.specs.declared.machine_instructions.Scalar.TheVariants as scalar
use Rattle.lower_templates.specs.Worklist.Acts as act
use Rattle.lower_templates.specs.Worklist.Pieces.{TemplateView, Mark, When}
use Rattle.worked_examples.specs.OneLoop.Units.{int, at, term, number, binary, function_of, unit_of, done, ends, constant}

abbrev pub main : FunctionView
main = function_of 0 [] [] (tree.Return (at 16) (Some (term 24 (tree.Logical And (number 23 0) (binary 27 Divide (number 26 1) (number 28 0))))) ∷ [])

abbrev pub unit : UnitView
unit = unit_of (main ∷ [])

-- the label to which the branch of the left operand leads where that one is 0
abbrev pub of_main : ℕ → TemplateView
of_main failed = record {
  pieces = Mark 1 ∷ (constant 23 0 0 ∷ (ends 23 (act.Branch 0 (scalar.Int int)) (record { to = 2; taken = When true None None } ∷ (record { to = failed; taken = When false None (Some (0, pos 0)) } ∷ []))
      ∷ (Mark 2 ∷ (constant 26 0 1 ∷ (constant 28 1 0 ∷ (done 27 (act.Binary 0 sign.Div 0 (Temp 1) int)
      ∷ (ends 27 (act.Branch 0 (scalar.Int int)) (record { to = 3; taken = When true None (Some (0, pos 1)) } ∷ (record { to = 3; taken = When false None (Some (0, pos 0)) } ∷ []))
      ∷ (Mark 3 ∷ (ends 16 act.Stop [] ∷ (ends 1 act.Stop [] ∷ []))))))))));
  names = [];
  labels = 4;
}

-- the right operand is passed over where the left one is 0
abbrev pub right : ℕ → TemplateView
right n = of_main 3

-- the right operand is evaluated in any case
abbrev pub wrong : ℕ → TemplateView
wrong n = of_main 2
