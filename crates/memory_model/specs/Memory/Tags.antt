-- The tags of bytes (6.5p6): of which scalar's bytes they are.
use Rattle.std.specs.Prelude.{ℕ, zero, suc, ◌-◌, ◌/◌, ◌%◌, Bool, true, cond, ◌&&◌, ◌||◌, ◌==◌, nat_lt, nat_le, List, [], ◌∷◌, Option, Some, None}
use Rattle.c_layout.specs.declared.data_model.Model.{Model}
use Rattle.c_layout.specs.declared.leaf_lists.Class.{Class}
use Rattle.c_layout.specs.declared.leaf_lists.Class.TheVariants.{Char}
use Rattle.c_layout.specs.declared.leaf_lists.Leaf.{Leaf}
use Rattle.memory_model.specs.Memory.ScalarSizes.{class_bytes, same_class}
use Rattle.memory_model.specs.Memory.Bytes.{Tag, Byte}

abbrev pub tag_of : Class → ℕ → Option Tag
tag_of class k = Some (record { class = class; at = k })

abbrev pub is_tag : Tag → Class → ℕ → Bool
is_tag t class k = same_class t.class class && (t.at == k)

-- a byte of an allocated object may have no tag yet; a declared one without tag is seen as characters alone
abbrev pub fits_tag : Bool → Class → ℕ → Option Tag → Bool
fits_tag allocated class k (Some t) = is_tag t class k
fits_tag allocated class k None = allocated || same_class class Char

-- the tags of bytes are those of a scalar's bytes, from a number on
abbrev pub fit_from : Bool → Class → ℕ → List Byte → Bool
fit_from allocated class k [] = true
fit_from allocated class k (b ∷ bs) = fits_tag allocated class k b.tag && fit_from allocated class (suc k) bs

-- the tag of a byte so far behind the start of a leaf, where the leaf's scalars stand a stride apart
abbrev pub stride_tag : Model → Leaf → ℕ → ℕ → Option Tag
stride_tag m leaf turn rest = cond (nat_lt turn leaf.count && nat_lt rest (class_bytes m leaf.class)) (tag_of leaf.class rest) None

abbrev pub distance_tag : Model → Leaf → ℕ → ℕ → Option Tag
distance_tag m leaf zero distance = stride_tag m leaf 0 distance
distance_tag m leaf (suc s) distance = stride_tag m leaf (distance / suc s) (distance % suc s)

-- the tag of the byte at an offset of a leaf, where the leaf has a scalar there
abbrev pub leaf_tag : Model → Leaf → ℕ → Option Tag
leaf_tag m leaf offset = cond (nat_le leaf.offset offset) (distance_tag m leaf leaf.stride (offset - leaf.offset)) None

abbrev pub or_tag : Option Tag → Option Tag → Option Tag
or_tag (Some t) other = Some t
or_tag None other = other

-- the tag of a byte by the leaves of its object's type; padding has none
abbrev pub tag_at : Model → List Leaf → ℕ → Option Tag
tag_at m [] offset = None
tag_at m (leaf ∷ leaves) offset = or_tag (leaf_tag m leaf offset) (tag_at m leaves offset)
