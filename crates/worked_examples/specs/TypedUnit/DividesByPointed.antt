-- `int main(void){int x=0;int *p=&x;return 1/ *p;}`: its run divides by what it loads through a pointer that has a type.
use Rattle.std.specs.Prelude.{◌≡◌, ℕ, zero, suc, pos, true, List, [], ◌∷◌, Option, Some, None}
use Rattle.cc_base.specs.declared.diagnostics.Place.{Place}
use Rattle.cc_base.specs.declared.diagnostics.Rule.TheVariants as rule
use Rattle.cc_base.specs.declared.int_types.IntType.{IntType}
use Rattle.c_layout.specs.Models.{lp64}
use Rattle.c_layout.specs.Types.{Ty, Int, Pointer, Void}
use Rattle.c_layout.specs.CheckedTrees as tree
use Rattle.c_layout.specs.CheckedTrees.{TermTree, Typed, LvalueTree, Designates, LvalueFormTree, FormTree}
use Rattle.c_layout.specs.CheckedUnits.{FunctionView, UnitView}
use Rattle.c_layout.specs.declared.checked_tree.checked_terms.ObjectRef.TheVariants.{Local}
use Rattle.c_layout.specs.declared.syntax_tree.expressions.BinaryOp.TheVariants.{Divide}
use Rattle.cfg.specs.declared.programs.Flow.{Flow}
use Rattle.lower_templates.specs.Views.ProgramViews.{flow_view}
use Rattle.semantics.specs.CfgMachine.FlowStates.{found_in}
use Rattle.semantics.specs.CfgMachine.FlowSteps.{flow_steps}
use Rattle.semantics.specs.CfgMachine.FlowStarts.{flow_begin}
use Rattle.memory_model.specs.Effects.Worlds.{Violation}
use Rattle.typed_lowering.specs.SingleRuns.{HasTypedAccesses}
use Rattle.typed_lowering.specs.PlainUnits.{is_plain_unit}
use Rattle.typed_lowering.specs.PointedTypes.{Element, Known, Pointing}
use Rattle.typed_lowering.specs.TypedStates.{Temporaries}
use Rattle.typed_lowering.specs.TypedPrograms.{Typing, IsTypedProgram}

abbrev pub at : ℕ → Place
at column = record { file = 0; line = 1; col = column }

abbrev pub int : IntType
int = record { bytes = 4; signed = true; rank = 3 }

abbrev pub to_int : Ty
to_int = Pointer (Int int)

-- ---- the unit

abbrev pub term : ℕ → Ty → FormTree → TermTree
term column t form = Typed (at column) t 0 None form

abbrev pub number : ℕ → ℕ → TermTree
number column n = Typed (at column) (Int int) 0 (Some (pos n)) (tree.Number (pos n))

abbrev pub designates : ℕ → Ty → LvalueFormTree → LvalueTree
designates column t form = Designates (at column) t 0 form

-- `&x` and `*p`
abbrev pub address : TermTree
address = term 31 to_int (tree.AddressOf (designates 32 (Int int) (tree.Object (Local 0))))

abbrev pub pointed : TermTree
pointed = term 44 (Int int) (tree.Load (designates 44 (Int int) (tree.Target (term 45 to_int (tree.Load (designates 45 to_int (tree.Object (Local 1))))))))

abbrev pub main : FunctionView
main = record {
  name = [];
  at = at 5;
  returns = Int int;
  parameters = 0;
  locals = record { name = []; at = at 20; ctype = Int int } ∷ (record { name = []; at = at 29; ctype = to_int } ∷ []);
  scope = 0 ∷ (1 ∷ []);
  body = tree.Start (at 20) 0 (number 22 0) ∷ (tree.Start (at 29) 1 address ∷ (tree.Return (at 34) (Some (term 42 (Int int) (tree.Integer Divide (number 41 1) pointed))) ∷ []));
  labels = 0;
}

abbrev pub unit : UnitView
unit = record { functions = main ∷ []; constants = []; objects = []; structs = []; literals = []; entry = 0; model = lp64 }

abbrev pub division : Violation
division = record { at = at 42; rule = rule.Diverr }

-- ---- the types of its pointers

-- x is an int, and p a pointer to int
abbrev pub objects : ℕ → Ty
objects zero = Int int
objects (suc zero) = to_int
objects (suc (suc b)) = Void

abbrev pub nothing : Temporaries
nothing t = None

abbrev pub temporaries : Option Known → Option Known → Temporaries
temporaries first second zero = first
temporaries first second (suc zero) = second
temporaries first second (suc (suc t)) = None

abbrev pub points : Ty → Option Known
points t = Some (Pointing (Element t))

-- what is known before each instruction, up to that behind which nothing is
abbrev pub before_each : List Temporaries
before_each =
    nothing
    ∷ (nothing
    ∷ (nothing
    ∷ (temporaries (points (Int int)) None
    ∷ (temporaries (points (Int int)) None
    ∷ (nothing
    ∷ (temporaries (points to_int) None
    ∷ (temporaries (points to_int) (points (Int int))
    ∷ (nothing
    ∷ (nothing
    ∷ (temporaries None (points to_int)
    ∷ (temporaries None (points (Int int))
    ∷ [])))))))))))

abbrev pub known_from : List Temporaries → ℕ → Temporaries
known_from [] at = nothing
known_from (k ∷ ks) zero = k
known_from (k ∷ ks) (suc at) = known_from ks at

abbrev pub known : ℕ → ℕ → Temporaries
known zero at = known_from before_each at
known (suc block) at = nothing

abbrev pub typing : Typing
typing = record { objects = objects; known = known }

-- ---- what is supposed of it

-- its program is typed, so accesses of its run are; behind so many steps the run has divided by 0
pub record IsTypedDivision (flow : Flow) : Type 0 where
  pub typed : IsTypedProgram flow unit typing
  pub look : is_plain_unit unit ≡ true
  pub accesses : HasTypedAccesses flow unit
  pub found : found_in (flow_steps (flow_view flow) 13 (flow_begin unit (flow_view flow) [])) ≡ division ∷ []
