-- What the functions of a unit that was looked at name, and what their switches are on.
use Rattle.std.specs.Prelude.{◌≡◌, ◌≤◌, ℕ, ◌+◌, ◌-◌, ◌^◌, Bool, true, Some}
use Rattle.c_layout.specs.CheckedTrees.{TermTree, LvalueTree, statement_trees}
use Rattle.c_layout.specs.CheckedUnits.{FunctionView, UnitView}
use Rattle.lower_templates.specs.Worklist.Pieces.{NameView}
use Rattle.lower_template_theorems.specs.Names.NamedTrees.{NamesFunction}
use Rattle.lower_template_theorems.specs.Switches.SwitchedTrees.{SwitchesStatements}
use Rattle.lower_preconditions.specs.Units.RegularTerms.{is_regular_term, is_regular_place}
use Rattle.lower_preconditions.specs.Units.RegularUnits.{is_regular_function}
use Rattle.simulation_layout.specs.Copies.FitTemplates.{type_named, IsInteger}
use Rattle.simulation_layout.specs.Inlining.NameRanges.{IsNameThere}
use Rattle.simulation_terms.specs.Worklists.Rooms.{room, room_of_place}

-- all that a function names is there
abbrev pub NamesAreThere : Type 0
NamesAreThere = (u : UnitView) (f : FunctionView) → is_regular_function u f ≡ true → NamesFunction (IsNameThere u f) f

-- an object that a name is of has an integer type
abbrev pub IsIntegerName : UnitView → FunctionView → NameView → Type 0
IsIntegerName u f x = IsInteger (type_named u f (Some x))

-- what switches are on by name as on an integer is declared as one
abbrev pub SwitchesAreOnIntegers : Type 0
SwitchesAreOnIntegers = (u : UnitView) (f : FunctionView) → is_regular_function u f ≡ true → SwitchesStatements (IsIntegerName u f) (statement_trees f.body)

-- behind so many temporaries there are numbers for all that a term takes, and for all that an lvalue does
abbrev pub TermsHaveRoom : Type 0
TermsHaveRoom = (u : UnitView) (f : FunctionView) (used : Bool) (d : ℕ) (e : TermTree) → d ≤ 2 ^ 32 - 1 → is_regular_term u f used d e ≡ true → d + room e ≤ 2 ^ 32 - 1

abbrev pub PlacesHaveRoom : Type 0
PlacesHaveRoom = (u : UnitView) (f : FunctionView) (d : ℕ) (l : LvalueTree) → d ≤ 2 ^ 32 - 1 → is_regular_place u f d l ≡ true → d + room_of_place l ≤ 2 ^ 32 - 1
