-- The tags of leaves where long arrays are folded.
use Rattle.std.proofs.Common.{◌≡◌, ℕ, zero, suc, ◌+◌, ◌*◌, ◌^◌, ◌<◌, ◌≤◌, Bool, true, false, cond, ◌&&◌, List, [], ◌∷◌, ◌++◌, length, Option, None, arith, ap, sym, subst, add-one, refl, ◌∙◌}
use Rattle.std.proofs.lemmas.Bool.{and_parts, eqb-true}
use Rattle.c_layout.specs.declared.data_model.Model.{Model}
use Rattle.c_layout.specs.declared.leaf_lists.Class.{Class}
use Rattle.c_layout.specs.declared.leaf_lists.Class.TheVariants as class
use Rattle.c_layout.specs.declared.leaf_lists.Leaf.{Leaf}
use Rattle.c_layout.specs.Layout.{size_of_type}
use Rattle.c_layout.specs.Leaves.{class_of, is_short, short_count, behind_short, long_count, behind_long, repeated, of_fields, leaf, folded_unit, folded_leaves, leaves_of}
use Rattle.c_layout.specs.Models.{is_model}
use Rattle.c_layout.specs.StructViews.{FieldView, StructView, struct_at}
use Rattle.c_layout.specs.Types.{Ty, Int, Pointer, Array, Struct, Void}
use Rattle.cfg.specs.ModelKinds as flow
use Rattle.memory_model.specs.Memory.Bytes.{Tag}
use Rattle.memory_model.specs.Memory.ScalarSizes.{class_bytes}
use Rattle.memory_model.specs.Memory.Tags.{tag_at}
use Rattle.store_structs.specs.LeafCounts.{bytes_in}
use Rattle.store_structs.specs.LaidApart.{has_class_bytes, is_member_in, are_members_in, are_laid_apart}
use Rattle.store_monotone.specs.Tags.TypeTags.{shifted, repeated_tags, member_tags, scalar_tags, tags_with, struct_tags, type_tags}
use Rattle.store_monotone.proofs.tags.RepeatedTags.{Ends, one_element, repeated_same}
use Rattle.store_monotone.proofs.tags.LeafTags.{AreTags, tags_as, tags_behind, tags_joined, tags_repeated}
use Rattle.store_monotone.proofs.tags.PlacedTags.{placed_tags, leaf_placed}
use Rattle.store_monotone.proofs.tags.TypeTags.{model_bytes, some_bytes, scalar_ends, long_size, long_tags, short_tags, in_arrays, type_ends, member_is, laid_out, struct_ends}
use Rattle.store_monotone.proofs.tags.PlainTags.{plain_placed}

module _ (m : Model) (model : is_model m ≡ true) (structs : List StructView) (apart : are_laid_apart m structs ≡ true) where
  abbrev size : Ty → ℕ
  size = size_of_type structs m.pointer

  -- of each type
  abbrev EachTags : (ℕ → ℕ → Option Tag) → (Ty → ℕ → List Leaf) → Type 0
  EachTags struct list = (t : Ty) → has_class_bytes m t ≡ true → (at : ℕ) → AreTags m at (tags_with m structs struct t) (list t at)

  members_tags : (struct : ℕ → ℕ → Option Tag) (list : Ty → ℕ → List Leaf) → EachTags struct list → (room start : ℕ) (fs : List FieldView) → room ≤ 2 ^ 30 → are_members_in m structs room start fs ≡ true → (at : ℕ) → AreTags m at (member_tags (tags_with m structs struct) fs) (of_fields fs at list)
  members_tags struct list each room start [] small h at = record { on = λ x. refl; before = λ x k. refl }
  members_tags struct list each room start (f ∷ fs) small h at =
      let p = and_parts (is_member_in m structs room start f) (are_members_in m structs room (f.offset + bytes_in structs m.pointer f.ctype) fs) h in
      let a = member_is m structs room start f small p.0 in
      let b = tags_joined m at (shifted f.offset (tags_with m structs struct f.ctype)) (member_tags (tags_with m structs struct) fs) (list f.ctype (at + f.offset)) (of_fields fs at list)
      (tags_behind m at f.offset (tags_with m structs struct f.ctype) (list f.ctype (at + f.offset)) (each f.ctype a.kind (at + f.offset)))
      (members_tags struct list each room (f.offset + bytes_in structs m.pointer f.ctype) fs small p.1 at) in
      record { on = b.on; before = b.before }

  -- a leaf that stands alone
  alone_tags : (c : Class) (signed : Bool) (bytes at : ℕ) → bytes ≡ class_bytes m c → AreTags m at (scalar_tags m c) (leaf at c signed (record { stride = bytes; count = 1 }) ∷ [])
  alone_tags c signed bytes at e =
      tags_as m at (repeated_tags 1 bytes (scalar_tags m c)) (scalar_tags m c) (leaf at c signed (record { stride = bytes; count = 1 }) ∷ []) (λ x. sym (one_element bytes (scalar_tags m c) x))
      (placed_tags m at bytes 1 (scalar_tags m c) (leaf at c signed (record { stride = bytes; count = 1 }) ∷ []) (scalar_ends m [] (λ i x. None) c bytes e)
      (leaf_placed m c signed bytes 1 at (some_bytes m c) (omega (arith, e))))

  long_kind : (t : Ty) → has_class_bytes m t ≡ true → has_class_bytes m (behind_long t) ≡ true
  long_kind (Int k) h = h
  long_kind (Pointer t) h = h
  long_kind (Array t n) h = by_test (is_short n) (long_kind t h)
    where
      by_test : (c : Bool) → has_class_bytes m (behind_long t) ≡ true → has_class_bytes m (cond c (Array t n) (behind_long t)) ≡ true
      by_test true k = h
      by_test false k = k
  long_kind (Struct i) h = h
  long_kind Void h = h

  -- a long array, whose elements' leaves stand once
  long_tagged : (depth : ℕ) (list : Ty → ℕ → List Leaf) (t : Ty) (n : ℕ) → has_class_bytes m t ≡ true → (at : ℕ) → AreTags m at (tags_with m structs (struct_tags m structs depth) (Array t n)) (folded_unit (suc depth) structs m.pointer list (Array t n) at)
  long_tagged depth list t n kind at =
      let each = type_ends m structs (struct_tags m structs depth) model (struct_ends m structs model apart depth) (behind_long t) (long_kind t kind) in
      tags_as m at (repeated_tags (n * long_count t) (size (behind_long t)) (tags_with m structs (struct_tags m structs depth) (behind_long t))) (tags_with m structs (struct_tags m structs depth) (Array t n)) (folded_unit (suc depth) structs m.pointer list (Array t n) at) (λ x. sym (in_arrays m structs (struct_tags m structs depth) n (long_count t) t (behind_long t) (long_size structs m.pointer t) (long_tags m structs (struct_tags m structs depth) t) x))
      (placed_tags m at (size (behind_long t)) (n * long_count t) (tags_with m structs (struct_tags m structs depth) (behind_long t)) (folded_unit (suc depth) structs m.pointer list (Array t n) at) each
      (plain_placed m model structs apart (size (behind_long t)) (n * long_count t) depth (behind_long t) (long_kind t kind) (omega arith) at))

  -- what is behind short arrays
  unit_tagged : (depth : ℕ) (list : Ty → ℕ → List Leaf) → ((i at : ℕ) → AreTags m at (struct_tags m structs depth i) (of_fields (struct_at structs i).fields at list))
      → (t : Ty) → has_class_bytes m t ≡ true → (at : ℕ) → AreTags m at (tags_with m structs (struct_tags m structs depth) (behind_short t)) (folded_unit (suc depth) structs m.pointer list (behind_short t) at)
  unit_tagged depth list each (Int k) kind at =
      let e = eqb-true k.bytes (flow.class_bytes m (class_of k)) kind ∙ model_bytes m model (class_of k) in
      let a = alone_tags (class_of k) k.signed k.bytes at e in
      record { on = a.on; before = a.before }
  unit_tagged depth list each (Pointer t) kind at =
      let a = alone_tags class.Pointer false m.pointer at (model_bytes m model class.Pointer) in
      record { on = a.on; before = a.before }
  unit_tagged depth list each (Array t n) kind at = by_test (is_short n) (unit_tagged depth list each t kind at)
    where
      by_test : (c : Bool) → AreTags m at (tags_with m structs (struct_tags m structs depth) (behind_short t)) (folded_unit (suc depth) structs m.pointer list (behind_short t) at)
          → AreTags m at (tags_with m structs (struct_tags m structs depth) (cond c (behind_short t) (Array t n))) (folded_unit (suc depth) structs m.pointer list (cond c (behind_short t) (Array t n)) at)
      by_test true inner = inner
      by_test false inner = long_tagged depth list t n kind at
  unit_tagged depth list each (Struct i) kind at = let a = each i at in record { on = a.on; before = a.before }
  unit_tagged depth list each Void kind at = record { on = λ x. refl; before = λ x k. refl }

  no_leaves : (fs : List FieldView) (at : ℕ) → of_fields fs at (folded_leaves 0 structs m.pointer) ≡ []
  no_leaves [] at = refl
  no_leaves (f ∷ fs) at = no_leaves fs at

  -- all arrays on the outside
  arrays_tagged : (depth : ℕ) → ((i at : ℕ) → AreTags m at (struct_tags m structs depth i) (of_fields (struct_at structs i).fields at (folded_leaves depth structs m.pointer))) → EachTags (struct_tags m structs depth) (folded_leaves (suc depth) structs m.pointer)
  arrays_tagged depth each t kind at =
      tags_as m at (repeated_tags (short_count t) (size (behind_short t)) (tags_with m structs (struct_tags m structs depth) (behind_short t))) (tags_with m structs (struct_tags m structs depth) t) (folded_leaves (suc depth) structs m.pointer t at) (λ x. sym (short_tags m structs (struct_tags m structs depth) t x))
      (tags_repeated m (size (behind_short t)) (tags_with m structs (struct_tags m structs depth) (behind_short t)) (folded_unit (suc depth) structs m.pointer (folded_leaves depth structs m.pointer) (behind_short t))
      (unit_tagged depth (folded_leaves depth structs m.pointer) each t kind) (short_count t) at)

  struct_tagged : (depth i at : ℕ) → AreTags m at (struct_tags m structs depth i) (of_fields (struct_at structs i).fields at (folded_leaves depth structs m.pointer))
  struct_tagged zero i at = subst (AreTags m at (struct_tags m structs 0 i)) (sym (no_leaves (struct_at structs i).fields at)) (record { on = λ x. refl; before = λ x k. refl })
  struct_tagged (suc depth) i at =
      let a = laid_out m structs apart i in
      let b = members_tags (struct_tags m structs depth) (folded_leaves (suc depth) structs m.pointer) (arrays_tagged depth (struct_tagged depth)) (struct_at structs i).size 0 (struct_at structs i).fields a.small a.members at in
      record { on = b.on; before = b.before }

  folded_tagged : (depth : ℕ) → EachTags (struct_tags m structs depth) (folded_leaves (suc depth) structs m.pointer)
  folded_tagged depth = arrays_tagged depth (struct_tagged depth)

  -- the tag of each byte
  pub all_tags : (t : Ty) → has_class_bytes m t ≡ true → (x : ℕ) → tag_at m (leaves_of structs m.pointer t) x ≡ type_tags m structs t x
  unfolding leaves_of
  all_tags t kind x =
      let e : 0 + x ≡ x = omega arith in
      ap (λ d. tag_at m (folded_leaves d structs m.pointer t 0) x) (add-one (length structs))
      ∙ (ap (tag_at m (folded_leaves (suc (length structs)) structs m.pointer t 0)) (sym e)
      ∙ (folded_tagged (length structs) t kind 0).on x)
