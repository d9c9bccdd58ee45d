-- What holds between a unit's tables and what its program begins with.
use Rattle.std.specs.Prelude.{◌≡◌, ℕ, Some, List, length, map, slice_get}
use Rattle.c_layout.specs.Types.{Ty, Int}
use Rattle.c_layout.specs.Layout.{size_of_type}
use Rattle.c_layout.specs.CheckedUnits.{StaticView, LiteralView, UnitView}
use Rattle.c_layout.specs.declared.shapes.BaseInfo.{BaseInfo}
use Rattle.c_layout.specs.declared.shapes.BaseKind.{BaseKind}
use Rattle.c_layout.specs.declared.shapes.BaseKind.TheVariants.{Static, Automatic, Literal}
use Rattle.cfg.specs.declared.programs.Flow.{Flow}
use Rattle.cfg.specs.declared.programs.ParameterInput.{ParameterInput}
use Rattle.lower_objects.specs.Shapes.FirstZeros.{object_shape}
use Rattle.lower_objects.specs.Counts.SharedObjects.{literal_type}
use Rattle.lower_tables.specs.Bases.BaseTables.{TableView, known}
use Rattle.lower_tables.specs.Bases.InitialBytes.{initial_objects}
use Rattle.memory_model.specs.Effects.UnitStarts.{entry_parameters}
use Rattle.lower_templates.specs.Views.ProgramViews.{flow_view}
use Rattle.entry_sound.specs.Tables.TypedInitializers.{HasTypedInitializers}

-- the base of an object of a type: it has its kind, its size and its shape
pub record IsBaseOf (u : UnitView) (bases : List BaseInfo) (kind : BaseKind) (t : Ty) (b : ℕ) : Type 0 where
  pub info : BaseInfo
  pub among : slice_get bases b ≡ Some info
  pub kinds : info.kind ≡ kind
  pub sizes : info.size ≡ size_of_type u.structs u.model.pointer t
  pub shapes : info.shape ≡ object_shape u.structs u.model.pointer t

-- which objects of static storage and which literals of the unit have a base, and which one: each has its own, that of
-- an object of its type
pub record AreShared (u : UnitView) (bases : List BaseInfo) (table : TableView) : Type 0 where
  pub objects : (k b : ℕ) (o : StaticView) → slice_get u.objects k ≡ Some o → known table.objects k ≡ Some b → IsBaseOf u bases Static o.ctype b
  pub literals : (k b : ℕ) (l : LiteralView) → slice_get u.literals k ≡ Some l → known table.literals k ≡ Some b → IsBaseOf u bases Literal (literal_type u.model.char_signed (length l.bytes)) b
  pub own_objects : (j k b : ℕ) → known table.objects j ≡ Some b → known table.objects k ≡ Some b → j ≡ k
  pub own_literals : (j k b : ℕ) → known table.literals j ≡ Some b → known table.literals k ≡ Some b → j ≡ k

-- the entry's parameters are of integer types, and each has a base of its own
pub record AreInputs (u : UnitView) (flow : Flow) : Type 0 where
  pub types : map (λ l. l.ctype) (entry_parameters u) ≡ map (λ p. Int p.kind) flow.parameters.items
  pub bases : (k : ℕ) (p : ParameterInput) → slice_get flow.parameters.items k ≡ Some p → IsBaseOf u flow.bases.items Automatic (Int p.kind) p.base
  pub own : (j k : ℕ) (p q : ParameterInput) → slice_get flow.parameters.items j ≡ Some p → slice_get flow.parameters.items k ≡ Some q → p.base ≡ q.base → j ≡ k

-- the program begins with what is in the unit's tables: its objects and literals, with their first bytes, and the
-- parameters of its entry; and the unit's initializers are typed
pub record StartsAs (u : UnitView) (flow : Flow) : Type 0 where
  pub model : u.model ≡ flow.model
  pub table : TableView
  pub initial : (flow_view flow).initial ≡ initial_objects u table
  pub shared : AreShared u flow.bases.items table
  pub inputs : AreInputs u flow
  pub typed : HasTypedInitializers u
