-- The objects of a body: those that a head makes are its parameters, and the body leaves them their types.
use Rattle.std.specs.Prelude.{◌≡◌, ℕ, true, List, map, Some, Ok, slice_get}
use Rattle.c_layout.specs.Types.{Ty}
use Rattle.c_layout.specs.DeclarationTrees.{NameView, FunctionDeclaratorView, StatementTrees}
use Rattle.c_layout.specs.CheckedUnits.{LocalView, FunctionView}
use Rattle.c_types_scopes.specs.DeclaredTypes.{DeclaredView}
use Rattle.c_types_scopes.specs.States.{State}
use Rattle.c_types_declarations.specs.FunctionHeads.{HeadView, function_head}
use Rattle.c_types.specs.Units.FunctionDefinitions.{with_body}

abbrev pub local_ctype : LocalView → Ty
local_ctype l = l.ctype

-- the types of the objects of the body at hand
abbrev pub types_of : State → List Ty
types_of s = map local_ctype s.body.locals

-- objects and more, of which the first ones have the same types
pub record AreLike (xs ys : List LocalView) : Type 0 where
  pub each : (i : ℕ) (l : LocalView) → slice_get xs i ≡ Some l → (m : LocalView) × (slice_get ys i ≡ Some m) × (m.ctype ≡ l.ctype)

abbrev pub HeadsMakeObjects : Type 0
HeadsMakeObjects = (s t : State) (b : DeclaredView) (f : FunctionDeclaratorView) (h : HeadView) → function_head s b f ≡ Ok (h, t) → h.are_named ≡ true → types_of t ≡ h.parameters

abbrev pub BodiesKeepTypes : Type 0
BodiesKeepTypes = (n : NameView) (ts : StatementTrees) (h : HeadView) (s t : State) (f : FunctionView) → with_body n ts h s ≡ Ok (f, t) → AreLike s.body.locals f.locals
