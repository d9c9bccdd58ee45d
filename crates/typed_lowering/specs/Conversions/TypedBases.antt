-- Bases of a program, each made of a type.
use Rattle.std.specs.Prelude.{◌≡◌, ℕ, ◌+◌, true, List, ◌++◌, length, Option, Some, slice_get}
use Rattle.c_layout.specs.CheckedUnits.{FunctionView, StaticView, LiteralView, UnitView}
use Rattle.c_layout.specs.Layout.{size_of_type}
use Rattle.c_layout.specs.Types.{Ty}
use Rattle.c_layout.specs.declared.shapes.BaseInfo.{BaseInfo}
use Rattle.lower_tables.specs.Bases.BaseTables.{TableView, known, Named, base}
use Rattle.lower_objects.specs.Counts.SharedObjects.{literal_type}
use Rattle.lower_functions.specs.Functions.Functions.{local_type}
use Rattle.typed_programs.specs.PlainUnits.ShortArrays.{has_short_arrays}
use Rattle.lower_objects.specs.Shapes.FirstZeros.{object_shape}
use Rattle.typed_programs.specs.PlainWorklists.LeadingPieces.{is_of_object}
use Rattle.lower_templates.specs.Worklist.Pieces.{NameView}
use Rattle.store_structs.specs.LaidApart.{has_class_bytes}
use Rattle.typed_lowering.specs.Conversions.TypedPieces.{name_type}

-- a type whose scalars are those of the data model, and whose arrays have few elements
pub record IsOwnType (u : UnitView) (t : Ty) : Type 0 where
  pub kinds : has_class_bytes u.model t ≡ true
  pub small : has_short_arrays u.structs t ≡ true

pub record IsMadeOf (u : UnitView) (t : Ty) (b : BaseInfo) : Type 0 where
  pub size : b.size ≡ size_of_type u.structs u.model.pointer t
  pub shape : b.shape ≡ object_shape u.structs u.model.pointer t
  pub own : IsOwnType u t

-- each base is made of a type: of an object's own, or of a literal's
pub record HasTypes (u : UnitView) (types : List Ty) (b : TableView) : Type 0 where
  pub numbered : length types ≡ length b.bases
  pub all_objects : length b.objects ≡ length u.objects
  pub all_literals : length b.literals ≡ length u.literals
  pub made : (n : ℕ) (t : Ty) (x : BaseInfo) → slice_get types n ≡ Some t → slice_get b.bases n ≡ Some x → IsMadeOf u t x
  pub objects : (i n : ℕ) (o : StaticView) → known b.objects i ≡ Some n → slice_get u.objects i ≡ Some o → slice_get types n ≡ Some o.ctype
  pub literals : (i n : ℕ) (l : LiteralView) → known b.literals i ≡ Some n → slice_get u.literals i ≡ Some l → slice_get types n ≡ Some (literal_type u.model.char_signed (length l.bytes))

-- the bases of a copy's local objects have their types
abbrev pub HasLocalTypes : FunctionView → List Ty → List (Option ℕ) → Type 0
HasLocalTypes f types locals = (slot n : ℕ) → known locals slot ≡ Some n → slice_get types n ≡ Some (local_type f slot)

-- ---- the law

-- the types of a unit's objects and literals
pub record HasOwnTypes (u : UnitView) : Type 0 where
  pub objects : (i : ℕ) (o : StaticView) → slice_get u.objects i ≡ Some o → IsOwnType u o.ctype
  pub literals : (i : ℕ) (l : LiteralView) → slice_get u.literals i ≡ Some l → IsOwnType u (literal_type u.model.char_signed (length l.bytes))

-- of a function's objects, and of its result
abbrev pub HasOwnLocals : UnitView → FunctionView → Type 0
HasOwnLocals u f = (slot : ℕ) → IsOwnType u (local_type f slot)

pub record IsNamedIn (u : UnitView) (f : FunctionView) (name : NameView) (types : List Ty) (to : Named) : Type 0 where
  pub more : List Ty
  pub bases : HasTypes u (types ++ more) to.after
  pub locals : HasLocalTypes f (types ++ more) to.locals
  pub there : length to.locals ≡ length f.locals + 1
  pub is : (t : Ty) → name_type u f name ≡ Some t → slice_get (types ++ more) to.number ≡ Some t

-- a name is given a base of its type
abbrev pub NamesAreTyped : Type 0
NamesAreTyped = (u : UnitView) → HasOwnTypes u → (f : FunctionView) → HasOwnLocals u f → (name : NameView) → is_of_object name ≡ true → (types : List Ty) (locals : List (Option ℕ)) (b : TableView)
    → HasTypes u types b → HasLocalTypes f types locals → length locals ≡ length f.locals + 1 → IsNamedIn u f name types (base u f name locals b)
