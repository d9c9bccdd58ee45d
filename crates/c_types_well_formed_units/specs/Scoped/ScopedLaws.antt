-- Expressions and initializers name what names of their state may mean, and declare no local object.
use Rattle.std.specs.Prelude.{ℕ, List, Ok, Err}
use Rattle.cc_base.specs.declared.diagnostics.Place.{Place}
use Rattle.c_layout.specs.Types.{Ty}
use Rattle.c_layout.specs.DeclarationTrees.{InitializerTree}
use Rattle.c_layout.specs.SyntaxTrees.{Tree}
use Rattle.c_types_scopes.specs.Refusals.{Ruled}
use Rattle.c_types_scopes.specs.States.{State}
use Rattle.c_types_expressions.specs.Expressions.Expressions.{typed}
use Rattle.c_types_expressions.specs.BracedLists.Initializers.{initializer_of}
use Rattle.c_types_well_formed_units.specs.Scoped.ScopedOperands.{Scoped, ScopedMade}
use Rattle.c_types_well_formed_units.specs.Scoped.SeenObjects.{SeesAt, Stays}

-- what a step makes has a property for all objects that may live
abbrev pub Yields : {V : Type 0} → State → (List ℕ → V → Type 0) → Ruled (V × State) → Type 0
Yields s P (Ok p) = Stays s p.1 × ((alive : List ℕ) → SeesAt alive s → P alive p.0)
Yields s P (Err f) = Unit {0}

abbrev pub ExpressionsAreScoped : Type 0
ExpressionsAreScoped = (s : State) (e : Tree) → Yields s Scoped (typed s e)

abbrev pub InitializersAreScoped : Type 0
InitializersAreScoped = (s : State) (equals : Place) (t : Ty) (i : InitializerTree) → Yields s ScopedMade (initializer_of s equals t i)
