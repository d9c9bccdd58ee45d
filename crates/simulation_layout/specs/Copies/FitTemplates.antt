-- Templates that name what is there, as those of checked units do.
use Rattle.std.specs.Prelude.{◌≡◌, ◌<◌, ℕ, ◌+◌, Bool, true, false, ◌==◌, List, [], ◌∷◌, length, Option, Some, None, slice_get}
use Rattle.cc_base.specs.declared.int_types.IntType.{IntType}
use Rattle.c_layout.specs.Types.{Ty, Int}
use Rattle.c_layout.specs.CheckedUnits.{FunctionView, UnitView}
use Rattle.lower_functions.specs.Functions.Functions.{local_type}
use Rattle.lower_templates.specs.Worklist.Acts as acts
use Rattle.lower_templates.specs.Worklist.Acts.{Act}
use Rattle.lower_templates.specs.Worklist.Pieces.{NameView, Local, Outcome, Static, Literal, Allocation, Way, Always, When, Case, Other, NoLine, Line, ExitView, PieceView, Do, DoIfUsed, End, Mark, Call, TemplateView}
use Rattle.semantics.specs.SourceMachine.SourceStates.{static_type}
use Rattle.simulation_layout.specs.InlinedLayout.Layouts.{IsAtStart}
use Rattle.simulation_layout.specs.Inlining.NameRanges.{IsNameThere}

-- a literal is pointed to at its start
abbrev pub PointsToStart : List NameView → Act → Type 0
PointsToStart names (acts.Address to base offset) = IsAtStart (slice_get names base) offset
PointsToStart names a = Unit {0}

-- the type of an object that is named
abbrev pub type_named : UnitView → FunctionView → Option NameView → Option Ty
type_named u f None = None
type_named u f (Some (Local n)) = Some (local_type f n)
type_named u f (Some Outcome) = Some (local_type f (length f.locals))
type_named u f (Some (Static n)) = static_type (slice_get u.objects n)
type_named u f (Some (Literal n)) = None
type_named u f (Some (Allocation target)) = None

abbrev pub IsInteger : Option Ty → Type 0
IsInteger None = Unit {0}
IsInteger (Some t) = (k : IntType) × (t ≡ Int k)

-- what is switched on is an integer
abbrev pub SwitchesOn : UnitView → FunctionView → List NameView → Way → Type 0
SwitchesOn u f names Always = Unit {0}
SwitchesOn u f names (When truth test puts) = Unit {0}
SwitchesOn u f names (Case test) = (n : ℕ) → test.object ≡ Some n → IsInteger (type_named u f (slice_get names n))
SwitchesOn u f names (Other values) = Unit {0}
SwitchesOn u f names NoLine = Unit {0}
SwitchesOn u f names Line = Unit {0}

abbrev pub AllSwitchOn : UnitView → FunctionView → List NameView → List ExitView → Type 0
AllSwitchOn u f names [] = Unit {0}
AllSwitchOn u f names (e ∷ es) = SwitchesOn u f names e.taken × AllSwitchOn u f names es

abbrev pub IsPieceFit : UnitView → FunctionView → List NameView → PieceView → Type 0
IsPieceFit u f names (Do s) = PointsToStart names s.does
IsPieceFit u f names (DoIfUsed s) = PointsToStart names s.does
IsPieceFit u f names (End s exits) = PointsToStart names s.does × AllSwitchOn u f names exits
IsPieceFit u f names (Mark l) = Unit {0}
IsPieceFit u f names (Call c) = Unit {0}

abbrev pub ArePiecesFit : UnitView → FunctionView → List NameView → List PieceView → Type 0
ArePiecesFit u f names [] = Unit {0}
ArePiecesFit u f names (p ∷ ps) = IsPieceFit u f names p × ArePiecesFit u f names ps

-- a template whose names are of what is there, which points to literals at their starts and switches on integers
pub record IsFit (u : UnitView) (f : FunctionView) (t : TemplateView) : Type 0 where
  pub named : (n : ℕ) (x : NameView) → slice_get t.names n ≡ Some x → IsNameThere u f x
  pub pieces : ArePiecesFit u f t.names t.pieces
