-- Where a type stands in another one.
use Rattle.std.specs.Prelude.{◌≡◌, ℕ, ◌+◌, ◌*◌, ◌<◌, ◌≤◌, true, List, Some, slice_get}
use Rattle.c_layout.specs.Layout.{size_of_type}
use Rattle.c_layout.specs.Models.{is_model}
use Rattle.c_layout.specs.StructViews.{FieldView, StructView}
use Rattle.c_layout.specs.Types.{Ty, Array, Struct}
use Rattle.c_layout.specs.declared.data_model.Model.{Model}
use Rattle.store_structs.specs.LaidApart.{are_laid_apart}
use Rattle.analysis_preconditions.specs.StructNesting.OrderedStructs.{are_ordered}
use Rattle.typed_programs.specs.Types.TypeBytes.{scalar_byte, struct_byte}

-- the inner type stands at an offset of the outer one: its scalars and its structures are the outer one's there
pub record Stands (structs : List StructView) (pointer_size : ℕ) (outer inner : Ty) (at : ℕ) : Type 0 where
  pub within : at + size_of_type structs pointer_size inner ≤ size_of_type structs pointer_size outer
  pub scalars : (x : ℕ) → x < size_of_type structs pointer_size inner → scalar_byte structs pointer_size outer (at + x) ≡ scalar_byte structs pointer_size inner x
  pub structures : (index x k : ℕ) → struct_byte structs pointer_size index inner x ≡ Some k → struct_byte structs pointer_size index outer (at + x) ≡ Some k

-- ---- the laws

-- structures of a data model whose members stand apart, and that stand in no circle
pub record AreLaidOut (m : Model) (structs : List StructView) : Type 0 where
  pub model : is_model m ≡ true
  pub apart : are_laid_apart m structs ≡ true
  pub ordered : are_ordered structs ≡ true

abbrev pub TypesStandInThemselves : Type 0
TypesStandInThemselves = (structs : List StructView) (pointer_size : ℕ) (t : Ty) → Stands structs pointer_size t t 0

abbrev pub StandingIsTransitive : Type 0
StandingIsTransitive = (structs : List StructView) (pointer_size : ℕ) (a b c : Ty) (x y : ℕ) → Stands structs pointer_size a b x → Stands structs pointer_size b c y → Stands structs pointer_size a c (x + y)

abbrev pub ElementsStand : Type 0
ElementsStand = (m : Model) (structs : List StructView) → AreLaidOut m structs → (t : Ty) (n i : ℕ) → i < n → Stands structs m.pointer (Array t n) t (i * size_of_type structs m.pointer t)

abbrev pub MembersStand : Type 0
MembersStand = (m : Model) (structs : List StructView) → AreLaidOut m structs → (i : ℕ) (s : StructView) → slice_get structs i ≡ Some s → (n : ℕ) (f : FieldView) → slice_get s.fields n ≡ Some f → Stands structs m.pointer (Struct i) f.ctype f.offset
