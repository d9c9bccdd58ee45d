-- Structs whose members lie within them: what typing keeps of layouts.
use Rattle.std.specs.Prelude.{◌≡◌, ◌⊎◌, ◌≤◌, ◌+◌, ◌^◌, ℕ, Bool, true, List, [], ◌∷◌, Some, is_some, slice_get, Ok, Err}
use Rattle.cc_base.specs.declared.diagnostics.Place.{Place}
use Rattle.c_layout.specs.Models.{is_model}
use Rattle.c_layout.specs.Types.{Ty}
use Rattle.c_layout.specs.StructViews.{FieldView, StructView, no_struct}
use Rattle.c_layout.specs.SyntaxTrees.{Tree}
use Rattle.c_layout.specs.CheckedTrees.{StoreTree, StoreValue, StoreCopy, StoreText}
use Rattle.c_layout.specs.DeclarationTrees.{DeclaratorLayerView, SpecTrees}
use Rattle.c_types_scopes.specs.DeclaredTypes.{DeclaredView}
use Rattle.c_types_scopes.specs.Known.{Known, size_of}
use Rattle.c_types_scopes.specs.Refusals.{Ruled}
use Rattle.c_types_scopes.specs.StructTables.{has_body}
use Rattle.c_types_scopes.specs.States.{State}
use Rattle.c_types_expressions.specs.Expressions.Expressions.{typed}
use Rattle.c_types_declarations.specs.Declarators.{declared_type}
use Rattle.c_types_declarations.specs.SpecifierTrees.{specifiers}
use Rattle.c_types_theorems.specs.Stores.PlacedStores.{IsPlacedBy}

-- a member of a complete type that ends within its struct
pub record IsInside (k : Known) (v : StructView) (f : FieldView) : Type 0 where
  pub size : ℕ
  pub is : size_of k f.ctype ≡ Some size
  pub within : f.offset + size ≤ v.size

-- the structs of a state are those that its rules know; those without a body are not known
pub record HasLayouts (s : State) : Type 0 where
  pub proper : is_model s.known.numbers ≡ true
  pub settled : s.known.structs ≡ s.types.structs
  pub bodies : (n : ℕ) (v : StructView) → slice_get s.types.structs n ≡ Some v → (v ≡ no_struct) ⊎ (has_body s.types n ≡ true)
  pub laid : (n i : ℕ) (v : StructView) (f : FieldView) → slice_get s.known.structs n ≡ Some v → slice_get v.fields i ≡ Some f → IsInside s.known v f

-- behind a step that does not refuse
abbrev pub LaidBehind : {V : Type 0} → Ruled (V × State) → Type 0
LaidBehind (Ok p) = HasLayouts p.1
LaidBehind (Err f) = Unit {0}

abbrev pub ExpressionsLay : Type 0
ExpressionsLay = (s : State) (e : Tree) → HasLayouts s → LaidBehind (typed s e)

abbrev pub DeclaratorsLay : Type 0
DeclaratorsLay = (s : State) (at : Place) (d : DeclaredView) (layers : List DeclaratorLayerView) → HasLayouts s → LaidBehind (declared_type s at d layers)

abbrev pub SpecifiersLay : Type 0
SpecifiersLay = (s : State) (at : Place) (alone : Bool) (words : SpecTrees) → HasLayouts s → LaidBehind (specifiers s at alone words)

-- ---- stores

abbrev pub IsNear : StoreTree → Type 0
IsNear (StoreValue offset e) = offset ≤ 2 ^ 30
IsNear (StoreCopy offset l) = offset ≤ 2 ^ 30
IsNear (StoreText offset room text) = offset ≤ 2 ^ 30

abbrev pub AreNear : List StoreTree → Type 0
AreNear [] = Unit {0}
AreNear (x ∷ xs) = IsNear x × AreNear xs

-- the stores of an initializer stand within an object of a size
abbrev pub StoresAreNear : Type 0
StoresAreNear = (s : State) (t made : Ty) (stores : List StoreTree) → HasLayouts s → is_some (size_of s.known made) ≡ true → IsPlacedBy s.known t stores made → AreNear stores
