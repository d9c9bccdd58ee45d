-- `int x;void f(void);int main(void){f();return 1/x;}void f(void){x=1;}`: where the call is left out, there is a division
-- by 0.
use Rattle.std.specs.Prelude.{ℕ, zero, suc, false, List, [], ◌∷◌, ◌++◌, Some, None}
use Rattle.cc_base.specs.declared.integer_operators.IntOp.TheVariants as sign
use Rattle.c_layout.specs.Types.{Int, Void}
use Rattle.c_layout.specs.CheckedTrees as tree
use Rattle.c_layout.specs.CheckedTrees.{End, TermTree, Typed, LvalueTree, Designates}
use Rattle.c_layout.specs.CheckedUnits.{FunctionView, UnitView}
use Rattle.c_layout.specs.declared.checked_tree.checked_terms.ObjectRef.TheVariants as object
use Rattle.c_layout.specs.declared.syntax_tree.expressions.BinaryOp.TheVariants.{Divide}
use Rattle.cfg.specs.declared.machine_instructions.Amount.TheVariants.{Temp}
use Rattle.lower_templates.specs.Worklist.Acts as act
use Rattle.lower_templates.specs.Worklist.Pieces.{TemplateView, PieceView, Static, Mark, Call}
use Rattle.worked_examples.specs.OneLoop.Units.{int, at, term, number, binary, function_of, unit_of, done, ends, address, load, store, constant}

-- the object of static storage
abbrev pub x : ℕ → LvalueTree
x column = Designates (at column) (Int int) 0 (tree.Object (object.Static 0))

abbrev pub main : FunctionView
main = function_of 0 [] [] (tree.Value (Typed (at 35) Void 0 None (tree.Call 1 End false)) ∷ (tree.Return (at 39) (Some (binary 47 Divide (number 46 1) (term 48 (tree.Load (x 48))))) ∷ []))

abbrev pub sets : FunctionView
sets = record (function_of 0 [] [] (tree.Value (term 65 (tree.Assign (x 64) (number 66 1))) ∷ [])) { returns = Void }

abbrev pub unit : UnitView
unit = record (unit_of (main ∷ (sets ∷ []))) { objects = record { name = []; at = at 5; ctype = Int int; stores = [] } ∷ [] }

-- with the call, or without it
abbrev pub of_main : List PieceView → TemplateView
of_main call = record {
  pieces = call ++ constant 46 0 1 ∷ (address 48 1 0 ∷ (load 48 1 1 ∷ (done 47 (act.Binary 0 sign.Div 0 (Temp 1) int) ∷ (ends 39 act.Stop [] ∷ (ends 1 act.Stop [] ∷ [])))));
  names = Static 0 ∷ [];
  labels = 1;
}

-- 1 is stored in x
abbrev pub of_sets : TemplateView
of_sets = record {
  pieces = Mark 1 ∷ (Mark 2 ∷ (address 64 0 0 ∷ (constant 66 1 1 ∷ (store 64 0 1 ∷ (Mark 0 ∷ [])))));
  names = Static 0 ∷ [];
  labels = 3;
}

-- the call stands before what follows it
abbrev pub right : ℕ → TemplateView
right zero = of_main (Call (record { place = at 35; function = 1; depth = 0; used = false }) ∷ [])
right (suc n) = of_sets

-- nothing is called
abbrev pub wrong : ℕ → TemplateView
wrong zero = of_main []
wrong (suc n) = of_sets
