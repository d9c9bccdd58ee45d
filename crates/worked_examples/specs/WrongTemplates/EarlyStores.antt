-- `int main(void){f(2,1/0);return 0;}void f(int a,int b){}`: no object of f is made before the last argument divides
-- by 0, so where a parameter is stored before, memory differs.
use Rattle.std.specs.Prelude.{ℕ, zero, suc, false, List, [], ◌∷◌, ◌++◌, Some, None}
use Rattle.cc_base.specs.declared.integer_operators.IntOp.TheVariants as sign
use Rattle.c_layout.specs.Types.{Void}
use Rattle.c_layout.specs.CheckedTrees as tree
use Rattle.c_layout.specs.CheckedTrees.{More, End, TermTree, Typed}
use Rattle.c_layout.specs.CheckedUnits.{FunctionView, UnitView}
use Rattle.c_layout.specs.declared.syntax_tree.expressions.BinaryOp.TheVariants.{Divide}
use Rattle.cfg.specs.declared.machine_instructions.Amount.TheVariants.{Temp}
use Rattle.lower_templates.specs.Worklist.Acts as act
use Rattle.lower_templates.specs.Worklist.Pieces.{TemplateView, PieceView, Local, Mark, Call}
use Rattle.worked_examples.specs.OneLoop.Units.{int, at, number, binary, local, function_of, unit_of, done, ends, address, store, constant}

-- the call that divides by 0 in its last argument
abbrev pub call : TermTree
call = Typed (at 16) Void 0 None (tree.Call 1 (More (number 18 2) (More (binary 21 Divide (number 20 1) (number 22 0)) End)) false)

abbrev pub main : FunctionView
main = function_of 0 [] [] (tree.Value call ∷ (tree.Return (at 25) (Some (number 32 0)) ∷ []))

abbrev pub takes_two : FunctionView
takes_two = record (function_of 2 (local 45 ∷ (local 51 ∷ [])) [] []) { returns = Void }

abbrev pub unit : UnitView
unit = unit_of (main ∷ (takes_two ∷ []))

-- the last argument, with one value before it
abbrev pub last_argument : List PieceView
last_argument = constant 20 1 1 ∷ (constant 22 2 0 ∷ (done 21 (act.Binary 1 sign.Div 1 (Temp 2) int) ∷ []))

-- with what is done between the first argument and the call
abbrev pub of_main : List PieceView → TemplateView
of_main before = record {
  pieces = constant 18 0 2 ∷ (before ++ Call (record { place = at 16; function = 1; depth = 0; used = false }) ∷ (constant 32 0 0 ∷ (ends 25 act.Stop [] ∷ (ends 1 act.Stop [] ∷ []))));
  names = [];
  labels = 1;
}

-- with what is done between the stores of the two parameters
abbrev pub of_takes_two : List PieceView → TemplateView
of_takes_two between = record {
  pieces = Mark 1 ∷ (done 1 (act.Enter 0) ∷ (done 1 (act.Enter 1) ∷ (address 1 2 2 ∷ (store 1 2 0 ∷ (between ++ address 1 2 3 ∷ (store 1 2 1
      ∷ (Mark 2 ∷ (done 1 (act.Leave 4) ∷ (done 1 (act.Leave 5) ∷ (Mark 0 ∷ []))))))))));
  names = Local 0 ∷ (Local 1 ∷ (Local 0 ∷ (Local 1 ∷ (Local 0 ∷ (Local 1 ∷ [])))));
  labels = 3;
}

-- both arguments are evaluated before the call
abbrev pub right : ℕ → TemplateView
right zero = of_main last_argument
right (suc n) = of_takes_two []

-- the last argument is evaluated behind the store of the first parameter
abbrev pub wrong : ℕ → TemplateView
wrong zero = of_main []
wrong (suc n) = of_takes_two last_argument
