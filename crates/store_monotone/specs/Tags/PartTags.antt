-- The tags of elements and members.
use Rattle.std.specs.Prelude.{◌≡◌, ℕ, ◌+◌, ◌*◌, ◌<◌, ◌≤◌, true, List, Some, slice_get}
use Rattle.c_layout.specs.declared.data_model.Model.{Model}
use Rattle.c_layout.specs.Layout.{size_of_type}
use Rattle.c_layout.specs.Models.{is_model}
use Rattle.c_layout.specs.StructViews.{FieldView, StructView}
use Rattle.c_layout.specs.Types.{Ty, Array, Struct}
use Rattle.store_structs.specs.LaidApart.{has_class_bytes, are_laid_apart}
use Rattle.analysis_preconditions.specs.StructNesting.OrderedStructs.{are_ordered}
use Rattle.store_monotone.specs.Tags.TypeTags.{type_tags}

-- the bytes of an element have the tags of its type
abbrev pub ElementsHaveTheirTags : Type 0
ElementsHaveTheirTags = (m : Model) (structs : List StructView) → is_model m ≡ true → are_laid_apart m structs ≡ true
    → (t : Ty) (n : ℕ) → has_class_bytes m t ≡ true → (i x : ℕ) → i < n → x < size_of_type structs m.pointer t
    → type_tags m structs (Array t n) (i * size_of_type structs m.pointer t + x) ≡ type_tags m structs t x

-- a member lies within its struct, and its bytes have the tags of its type
pub record IsMemberOf (m : Model) (structs : List StructView) (i : ℕ) (f : FieldView) : Type 0 where
  pub kind : has_class_bytes m f.ctype ≡ true
  pub to : f.offset + size_of_type structs m.pointer f.ctype ≤ size_of_type structs m.pointer (Struct i)
  pub tags : (x : ℕ) → x < size_of_type structs m.pointer f.ctype → type_tags m structs (Struct i) (f.offset + x) ≡ type_tags m structs f.ctype x

abbrev pub MembersHaveTheirTags : Type 0
MembersHaveTheirTags = (m : Model) (structs : List StructView) → is_model m ≡ true → are_laid_apart m structs ≡ true → are_ordered structs ≡ true
    → (i : ℕ) (s : StructView) → slice_get structs i ≡ Some s → (n : ℕ) (f : FieldView) → slice_get s.fields n ≡ Some f → IsMemberOf m structs i f
