-- The tags of the bytes of a type (6.5p6), by its elements and members and not by its leaves.
use Rattle.std.specs.Prelude.{◌≡◌, ℕ, zero, suc, ◌+◌, ◌-◌, ◌^◌, ◌≤◌, Bool, true, cond, nat_lt, nat_le, List, [], ◌∷◌, Option, Some, None, length}
use Rattle.c_layout.specs.declared.data_model.Model.{Model}
use Rattle.c_layout.specs.declared.leaf_lists.Class.{Class}
use Rattle.c_layout.specs.declared.leaf_lists.Class.TheVariants as class
use Rattle.c_layout.specs.Layout.{size_of_type}
use Rattle.c_layout.specs.Leaves.{class_of, leaves_of}
use Rattle.c_layout.specs.Models.{is_model}
use Rattle.c_layout.specs.StructViews.{FieldView, StructView, struct_at}
use Rattle.c_layout.specs.Types.{Ty, Int, Pointer, Array, Struct, Void}
use Rattle.memory_model.specs.Memory.Bytes.{Tag}
use Rattle.memory_model.specs.Memory.ScalarSizes.{class_bytes}
use Rattle.memory_model.specs.Memory.Tags.{tag_of, or_tag, tag_at}
use Rattle.store_structs.specs.LaidApart.{has_class_bytes, are_laid_apart}
use Rattle.analysis_preconditions.specs.StructNesting.OrderedStructs.{is_made_of, nests_within, are_ordered}

-- the tags behind an offset
abbrev pub shifted : ℕ → (ℕ → Option Tag) → ℕ → Option Tag
shifted offset tags x = cond (nat_le offset x) (tags (x - offset)) None

-- the tags of so many elements of a size
abbrev pub repeated_tags : ℕ → ℕ → (ℕ → Option Tag) → ℕ → Option Tag
repeated_tags zero size tags x = None
repeated_tags (suc n) size tags x = or_tag (tags x) (shifted size (repeated_tags n size tags) x)

-- the tags of members, each at its offset
abbrev pub member_tags : (Ty → ℕ → Option Tag) → List FieldView → ℕ → Option Tag
member_tags tags [] x = None
member_tags tags (f ∷ fs) x = or_tag (shifted f.offset (tags f.ctype) x) (member_tags tags fs x)

abbrev pub scalar_tags : Model → Class → ℕ → Option Tag
scalar_tags m class x = cond (nat_lt x (class_bytes m class)) (tag_of class x) None

module _ (m : Model) (structs : List StructView) where
  -- the tags of a type, by those of structs
  abbrev pub tags_with : (ℕ → ℕ → Option Tag) → Ty → ℕ → Option Tag
  tags_with struct (Int k) x = scalar_tags m (class_of k) x
  tags_with struct (Pointer t) x = scalar_tags m class.Pointer x
  tags_with struct (Array t n) x = repeated_tags n (size_of_type structs m.pointer t) (tags_with struct t) x
  tags_with struct (Struct i) x = struct i x
  tags_with struct Void x = None

  -- the tags of a struct, through structs that nest at most so deep
  abbrev pub struct_tags : ℕ → ℕ → ℕ → Option Tag
  struct_tags zero i x = None
  struct_tags (suc depth) i x = member_tags (tags_with (struct_tags depth)) (struct_at structs i).fields x

  abbrev pub type_tags : Ty → ℕ → Option Tag
  type_tags t x = tags_with (struct_tags (length structs)) t x

-- the tag of a byte by the leaves of its object's type
abbrev pub TagsAreOfTypes : Type 0
TagsAreOfTypes = (m : Model) (structs : List StructView) → is_model m ≡ true → are_laid_apart m structs ≡ true
    → (t : Ty) → has_class_bytes m t ≡ true → (x : ℕ) → tag_at m (leaves_of structs m.pointer t) x ≡ type_tags m structs t x
