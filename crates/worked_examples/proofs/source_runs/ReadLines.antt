-- `static char b[4];static char s;int main(void){if(fgets(b,4,&s))return 1;return 2;}`: the condition is one step,
-- with the line "ab" and with none.
use Rattle.std.specs.Prelude.{◌≡◌, refl, ℕ, ℤ, pos, true, false, List, [], ◌∷◌, None, Some}
use Rattle.c_layout.specs.Leaves.{leaves_of}
use Rattle.c_layout.specs.Models.{lp64}
use Rattle.c_layout.specs.Types.{Ty, Int, Pointer, Array}
use Rattle.c_layout.specs.CheckedTrees as tree
use Rattle.c_layout.specs.CheckedTrees.{TermTree, Typed, Designates, More, End}
use Rattle.c_layout.specs.CheckedUnits.{StaticView, UnitView}
use Rattle.c_layout.specs.declared.checked_tree.checked_terms.ObjectRef.TheVariants.{Static}
use Rattle.c_layout.specs.declared.checked_tree.checked_units.StaticBase.TheVariants as static_base
use Rattle.c_layout.specs.declared.library_functions.LibFn.TheVariants.{Fgets}
use Rattle.c_layout.specs.declared.shapes.BaseInfo.{BaseInfo}
use Rattle.c_layout.specs.declared.shapes.BaseKind.TheVariants as kind
use Rattle.lower_templates.specs.Worklist.Acts as act
use Rattle.lower_templates.specs.Worklist.Pieces.{NoLine, Line}
use Rattle.lower_templates.specs.Views.ProgramViews.{InitialView, Stored, FlowView}
use Rattle.semantics.specs.CfgMachine.FlowSteps.{flow_steps}
use Rattle.semantics.specs.CfgMachine.FlowStarts.{flow_begin}
use Rattle.semantics.specs.SourceMachine.SourceRuns.{Run, steps_of}
use Rattle.semantics.specs.SourceMachine.RunFacts.{Draws, end_of, used}
use Rattle.worked_examples.specs.SourceRuns.Agreement.{Agree}
use Rattle.worked_examples.proofs.source_runs.Builders.{at, number, give_back, function, step, constant, basic_block}

abbrev char : Ty
char = Int (record { bytes = 1; signed = true; rank = 1 })

abbrev line : Ty
line = Array char 4

abbrev pointer_term : ℕ → tree.FormTree → TermTree
pointer_term column form = Typed (at column) (Pointer char) 0 None form

abbrev call : TermTree
call = pointer_term 50 (tree.Library Fgets (More (pointer_term 56 (tree.Decay (Designates (at 56) line 0 (tree.Object (Static 0)))))
    (More (number 58 4) (More (pointer_term 60 (tree.AddressOf (Designates (at 61) char 0 (tree.Object (Static 1))))) End))) None)

abbrev static_object : Ty → StaticView
static_object t = record { name = []; at = at 13; ctype = t; stores = [] }

abbrev source : UnitView
source = record {
  functions = function 0 [] [] 0 (tree.If call (give_back 64 (number 71 1)) ∷ (give_back 73 (number 80 2) ∷ [])) ∷ [];
  constants = [];
  objects = static_object line ∷ (static_object char ∷ []);
  structs = [];
  literals = [];
  entry = 0;
  model = lp64;
}

abbrev characters : ℕ → BaseInfo
characters n = record { kind = kind.Static; size = n; first = 0; shape = record { cells = []; zeros = []; heap = false } }

abbrev made : ℕ → ℕ → InitialView
made n size = record { object = static_base.Object n; size = size; base = Some n; first = Stored [] }

abbrev flow : FlowView
flow = record {
  blocks = basic_block 0 2 (step 56 (act.Address 0 0 0) ∷ (step 56 (act.Narrow 0 0 0 4) ∷ (constant 58 1 4 ∷ (step 61 (act.Address 2 1 0) ∷ (step 50 (act.ReadLine None 0 1 2) ∷ [])))))
      ∷ (basic_block 2 0 (constant 71 0 1 ∷ (step 64 act.Stop ∷ [])) ∷ (basic_block 2 0 (constant 80 0 2 ∷ (step 73 act.Stop ∷ [])) ∷ []));
  edges = record { from = 0; to = 2; taken = NoLine } ∷ (record { from = 0; to = 1; taken = Line } ∷ []);
  bases = characters 4 ∷ (characters 1 ∷ []);
  temps = 3;
  initial = made 0 4 ∷ (made 1 1 ∷ []);
  parameters = [];
  entry = at 1;
  structs = [];
  width = 9;
  model = lp64;
}

-- there is a line, of 2 characters
abbrev two_characters : List ℤ
two_characters = pos 1 ∷ (pos 2 ∷ (pos 97 ∷ (pos 98 ∷ [])))

abbrev no_line : List ℤ
no_line = pos 0 ∷ []

-- four steps of the arguments, one of the call, and two of the return
read : steps_of (Run source two_characters 30) ≡ 7
unfolding leaves_of
read = refl

read_same : Agree (Run source two_characters 30) (flow_steps flow 9 (flow_begin source flow two_characters))
unfolding leaves_of
read_same = record { memory = refl; draws = refl; found = refl; why = refl }

all_used : used two_characters (Run source two_characters 30) ≡ 4
unfolding leaves_of
all_used = refl

none : steps_of (Run source no_line 30) ≡ 7
unfolding leaves_of
none = refl

none_same : Agree (Run source no_line 30) (flow_steps flow 9 (flow_begin source flow no_line))
unfolding leaves_of
none_same = record { memory = refl; draws = refl; found = refl; why = refl }

-- the second character is missing
unended : end_of (Run source (pos 1 ∷ (pos 2 ∷ (pos 97 ∷ []))) 30) ≡ Draws
unfolding leaves_of
unended = refl
