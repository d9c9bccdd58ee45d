-- Copies of templates in a program: which temporaries, labels and bases are theirs.
use Rattle.std.specs.Prelude.{◌≡◌, ℕ, ◌+◌, Bool, List, [], ◌∷◌, length, Option, Some, None, slice_get}
use Rattle.cc_base.specs.declared.diagnostics.Place.{Place}
use Rattle.c_layout.specs.Types.{Ty}
use Rattle.c_layout.specs.CheckedUnits.{FunctionView, StaticView, LiteralView, UnitView}
use Rattle.c_layout.specs.declared.shapes.BaseInfo.{BaseInfo}
use Rattle.c_layout.specs.declared.shapes.BaseKind.TheVariants as kind
use Rattle.lower_functions.specs.Functions.Functions.{local_type}
use Rattle.lower_templates.specs.Worklist.Pieces.{NameView, Local, Outcome, Static, Literal, Allocation, TemplateView}
use Rattle.lower_templates.specs.Worklist.TermKinds.{integer_type}
use Rattle.lower_templates.specs.Views.ProgramViews.{FlowView}
use Rattle.semantics.specs.CfgMachine.FlowEdges.{first_signed}
use Rattle.semantics.specs.SourceMachine.Operations.{size_of, leaves}
use Rattle.semantics.specs.SourceMachine.SourceStates.{function_at, result_object, static_type, local_of}

-- a unit, its templates, a program, and the bases that objects of static storage and literals have in it
pub record Inlined : Type 0 where
  pub unit : UnitView
  pub of : ℕ → TemplateView
  pub program : FlowView
  pub objects : ℕ → Option ℕ
  pub literals : ℕ → Option ℕ

-- a copy of a function's template: the number of the function, the first temporary, the place of the call and whether
-- its value is used, the block of each label, and the base of each local object
pub record Copy : Type 0 where
  pub function : ℕ
  pub depth : ℕ
  pub at : Place
  pub used : Bool
  pub labels : ℕ → ℕ
  pub locals : ℕ → Option ℕ

-- ---- bases

-- a base of the program and what is known of it
abbrev pub IsThere : Inlined → ℕ → BaseInfo → Type 0
IsThere o b info = slice_get o.program.bases b ≡ Some info

-- the base of a local object of a copy
pub record IsLocal (o : Inlined) (c : Copy) (slot b : ℕ) : Type 0 where
  pub function : FunctionView
  pub stands : function_at o.unit c.function ≡ Some function
  pub info : BaseInfo
  pub there : IsThere o b info
  pub is_automatic : info.kind ≡ kind.Automatic
  pub size : info.size ≡ size_of o.unit (local_type function slot)
  pub cells : info.shape.cells ≡ leaves o.unit (local_type function slot)

-- each local object of a copy has a base of its own
pub record IsCopy (o : Inlined) (c : Copy) : Type 0 where
  pub are_locals : (slot b : ℕ) → c.locals slot ≡ Some b → IsLocal o c slot b
  pub own : (slot other b : ℕ) → c.locals slot ≡ Some b → c.locals other ≡ Some b → slot ≡ other

-- no object of one copy has the base of one of the other
abbrev pub Apart : Copy → Copy → Type 0
Apart c d = (slot other b : ℕ) → c.locals slot ≡ Some b → d.locals other ≡ Some b → ⊥

abbrev pub AllApart : Copy → List Copy → Type 0
AllApart c [] = Unit {0}
AllApart c (d ∷ ds) = Apart c d × AllApart c ds

-- the base of an object of static storage
pub record IsObject (o : Inlined) (n b : ℕ) : Type 0 where
  pub object : StaticView
  pub stands : slice_get o.unit.objects n ≡ Some object
  pub info : BaseInfo
  pub there : IsThere o b info
  pub is_static : info.kind ≡ kind.Static
  pub size : info.size ≡ size_of o.unit object.ctype

-- the base of a literal
pub record IsLiteral (o : Inlined) (n b : ℕ) : Type 0 where
  pub literal : LiteralView
  pub stands : slice_get o.unit.literals n ≡ Some literal
  pub info : BaseInfo
  pub there : IsThere o b info
  pub is_literal : info.kind ≡ kind.Literal
  pub size : info.size ≡ length literal.bytes + 1

-- ---- names

abbrev pub IsResult : Copy → Option FunctionView → ℕ → Type 0
IsResult c None b = Unit {0}
IsResult c (Some f) b = c.locals (result_object f) ≡ Some b

-- a base stands for a name of the copy's template; no step looks at the base of an allocation
abbrev pub StandsFor : Inlined → Copy → NameView → ℕ → Type 0
StandsFor o c (Local n) b = c.locals n ≡ Some b
StandsFor o c Outcome b = IsResult c (function_at o.unit c.function) b
StandsFor o c (Static n) b = o.objects n ≡ Some b
StandsFor o c (Literal n) b = o.literals n ≡ Some b
StandsFor o c (Allocation target) b = Unit {0}

abbrev pub StandsForIt : Inlined → Copy → Option NameView → ℕ → Type 0
StandsForIt o c None b = Unit {0}
StandsForIt o c (Some name) b = StandsFor o c name b

abbrev pub name_of : Inlined → Copy → ℕ → Option NameView
name_of o c n = slice_get (o.of c.function).names n

-- a base of the program stands for a base of the copy's template
abbrev pub IsBase : Inlined → Copy → ℕ → ℕ → Type 0
IsBase o c n b = StandsForIt o c (name_of o c n) b

-- so does one for the base that is named, if any
abbrev pub IsOwnBase : Inlined → Copy → Option ℕ → ℕ → Type 0
IsOwnBase o c None b = Unit {0}
IsOwnBase o c (Some n) b = IsBase o c n b

-- ---- types of objects that are switched on

abbrev pub result_type : Option FunctionView → Option Ty
result_type None = None
result_type (Some f) = Some (local_type f (result_object f))

abbrev pub type_named : Inlined → Copy → NameView → Option Ty
type_named o c (Local n) = local_of (function_at o.unit c.function) n
type_named o c Outcome = result_type (function_at o.unit c.function)
type_named o c (Static n) = static_type (slice_get o.unit.objects n)
type_named o c (Literal n) = None
type_named o c (Allocation target) = None

abbrev pub type_if : Inlined → Copy → Option NameView → Option Ty
type_if o c None = None
type_if o c (Some name) = type_named o c name

-- an integer of this type, as far as the bytes of its base tell
pub record IsSwitched (o : Inlined) (t : Ty) (b : ℕ) : Type 0 where
  pub info : BaseInfo
  pub there : IsThere o b info
  pub size : info.size ≡ (integer_type t).bytes
  pub is_signed : first_signed info.shape.cells ≡ (integer_type t).signed

abbrev pub IsSwitchedObject : Inlined → Copy → ℕ → ℕ → Type 0
IsSwitchedObject o c n b = (t : Ty) → type_if o c (name_of o c n) ≡ Some t → IsSwitched o t b
