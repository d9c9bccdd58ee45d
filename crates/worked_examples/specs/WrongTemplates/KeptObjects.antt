-- `int main(void){int*p;{int x=1;p=&x;goto out;}out:return*p;}`: where a `goto` leaves no object, x is still there for *p.
use Rattle.std.specs.Prelude.{ℕ, List, [], ◌∷◌, ◌++◌, Some, None}
use Rattle.c_layout.specs.Types.{Ty, Int, Pointer}
use Rattle.c_layout.specs.CheckedTrees as tree
use Rattle.c_layout.specs.CheckedTrees.{TermTree, Typed, LvalueTree, Designates, StatementTree, statement_trees}
use Rattle.c_layout.specs.CheckedUnits.{FunctionView, UnitView}
use Rattle.c_layout.specs.declared.checked_tree.checked_terms.ObjectRef.TheVariants as object
use Rattle.cfg.specs.declared.machine_instructions.Scalar.TheVariants as scalar
use Rattle.lower_templates.specs.Worklist.Acts as act
use Rattle.lower_templates.specs.Worklist.Pieces.{TemplateView, PieceView, Local, Mark, Always}
use Rattle.worked_examples.specs.OneLoop.Units.{int, at, term, number, object, local, function_of, unit_of, done, ends, address, load, store, constant}

-- the type of p
abbrev pub to_int : Ty
to_int = Pointer (Int int)

-- the pointer, at a place
abbrev pub p : ℕ → LvalueTree
p column = Designates (at column) to_int 0 (tree.Object (object.Local 0))

-- the block with x, which is left by a jump
abbrev pub block : StatementTree
block = tree.Block (1 ∷ []) (statement_trees (tree.Start (at 27) 1 (number 29 1) ∷ (tree.Value (Typed (at 32) to_int 0 None (tree.Assign (p 31) (Typed (at 33) to_int 0 None (tree.AddressOf (object 34 1))))) ∷ (tree.Goto 0 ∷ []))))

-- `*p`
abbrev pub target : TermTree
target = term 56 (tree.Load (Designates (at 56) (Int int) 0 (tree.Target (Typed (at 57) to_int 0 None (tree.Load (p 57))))))

abbrev pub main : FunctionView
main = record (function_of 0 (record { name = []; at = at 20; ctype = to_int } ∷ (local 27 ∷ [])) (0 ∷ []) (tree.Forget (at 20) 0 ∷ (block ∷ (tree.Label 0 (tree.Return (at 50) (Some target)) ∷ [])))) { labels = 1 }

abbrev pub unit : UnitView
unit = unit_of (main ∷ [])

-- with what is left by the jump
abbrev pub of_main : List PieceView → TemplateView
of_main leaves = record {
  pieces = done 1 (act.Enter 0) ∷ (done 20 (act.Forget 2) ∷ (done 1 (act.Enter 3) ∷ (address 27 0 5 ∷ (constant 29 1 1 ∷ (store 27 0 1
      ∷ (address 31 0 6 ∷ (address 34 1 7 ∷ (done 31 (act.Store 0 1 scalar.Pointer None) ∷ (leaves ++ ends 1 act.Jump (record { to = 0; taken = Always } ∷ []) ∷ (done 1 (act.Leave 4)
      ∷ (Mark 0 ∷ (address 57 0 10 ∷ (done 57 (act.Load 0 0 scalar.Pointer) ∷ (load 56 0 0 ∷ (done 1 (act.Leave 9) ∷ (ends 50 act.Stop []
      ∷ (done 1 (act.Leave 1) ∷ (ends 1 act.Stop [] ∷ []))))))))))))))))));
  names = Local 0 ∷ (Local 0 ∷ (Local 0 ∷ (Local 1 ∷ (Local 1 ∷ (Local 1 ∷ (Local 0 ∷ (Local 1 ∷ (Local 1 ∷ (Local 0 ∷ (Local 0 ∷ []))))))))));
  labels = 2;
}

-- x ends at the jump
abbrev pub right : ℕ → TemplateView
right n = of_main (done 1 (act.Leave 8) ∷ [])

-- x lives on behind the jump
abbrev pub wrong : ℕ → TemplateView
wrong n = of_main []
