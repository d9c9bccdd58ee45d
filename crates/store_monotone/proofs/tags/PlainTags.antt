-- The tags of leaves where no array is folded, each at so many places.
use Rattle.std.proofs.Common.{◌≡◌, ℕ, zero, suc, ◌+◌, ◌*◌, ◌^◌, ◌<◌, ◌≤◌, true, ◌&&◌, List, [], ◌∷◌, ◌++◌, Option, None, arith, ap, sym, subst, refl, false, ◌∙◌}
use Rattle.std.proofs.lemmas.Bool.{and_parts, eqb-true}
use Rattle.c_layout.specs.declared.data_model.Model.{Model}
use Rattle.c_layout.specs.declared.leaf_lists.Class.{Class}
use Rattle.c_layout.specs.declared.leaf_lists.Class.TheVariants as class
use Rattle.c_layout.specs.declared.leaf_lists.Leaf.{Leaf}
use Rattle.c_layout.specs.Layout.{size_of_type}
use Rattle.c_layout.specs.Leaves.{class_of, full_count, behind_all, repeated, of_fields, leaf, plain_unit, plain_leaves}
use Rattle.c_layout.specs.Models.{is_model}
use Rattle.c_layout.specs.StructViews.{FieldView, StructView, struct_at}
use Rattle.c_layout.specs.Types.{Ty, Int, Pointer, Array, Struct, Void}
use Rattle.cfg.specs.ModelKinds as flow
use Rattle.memory_model.specs.Memory.Bytes.{Tag}
use Rattle.memory_model.specs.Memory.ScalarSizes.{class_bytes}
use Rattle.store_structs.specs.LeafCounts.{bytes_in}
use Rattle.store_structs.specs.LaidApart.{has_class_bytes, is_member_in, are_members_in, are_laid_apart}
use Rattle.store_monotone.specs.Tags.TypeTags.{shifted, repeated_tags, member_tags, scalar_tags, tags_with, struct_tags}
use Rattle.store_monotone.proofs.tags.RepeatedTags.{Ends}
use Rattle.store_monotone.proofs.tags.PlacedTags.{ArePlaced, placed_as, placed_joined, placed_behind, placed_repeated, leaf_placed}
use Rattle.store_monotone.proofs.tags.TypeTags.{model_bytes, some_bytes, full_size, full_tags, type_ends, member_is, laid_out, struct_ends}

-- an element of some is no larger than all of them
pub element_fits : (n size stride : ℕ) → suc n * size ≤ stride → size ≤ stride
element_fits n size stride h = let e : suc n * size ≡ size + n * size = grind arith in omega (arith, e, h)

module _ (m : Model) (model : is_model m ≡ true) (structs : List StructView) (apart : are_laid_apart m structs ≡ true) where
  abbrev size : Ty → ℕ
  size = size_of_type structs m.pointer

  module _ (stride count : ℕ) where
    abbrev Placed : ℕ → (ℕ → Option Tag) → List Leaf → Type 0
    Placed at = ArePlaced m at stride count

    -- of each type that is no larger than the stride
    abbrev EachType : (ℕ → ℕ → Option Tag) → (Ty → ℕ → List Leaf) → Type 0
    EachType struct list = (t : Ty) → has_class_bytes m t ≡ true → size t ≤ stride → (at : ℕ) → Placed at (tags_with m structs struct t) (list t at)

    members_placed : (struct : ℕ → ℕ → Option Tag) → ((i : ℕ) → Ends (struct_at structs i).size (struct i)) → (list : Ty → ℕ → List Leaf) → EachType struct list → (room start : ℕ) (fs : List FieldView) → room ≤ 2 ^ 30 → room ≤ stride → are_members_in m structs room start fs ≡ true → (at : ℕ) → Placed at (member_tags (tags_with m structs struct) fs) (of_fields fs at list)
    members_placed struct ends list each room start [] small fits h at = record { on = λ q r k l. refl; before = λ x k. refl; behind = λ x k. refl }
    members_placed struct ends list each room start (f ∷ fs) small fits h at =
        let p = and_parts (is_member_in m structs room start f) (are_members_in m structs room (f.offset + bytes_in structs m.pointer f.ctype) fs) h in
        let a = member_is m structs room start f small p.0 in
        let to = a.to in
        let own = placed_behind m at stride count f.offset (size f.ctype) (tags_with m structs struct f.ctype) (list f.ctype (at + f.offset)) (type_ends m structs struct model ends f.ctype a.kind) (omega (arith, to, fits)) (each f.ctype a.kind (omega (arith, to, fits)) (at + f.offset)) in
        let others = members_placed struct ends list each room (f.offset + bytes_in structs m.pointer f.ctype) fs small fits p.1 at in
        let b = placed_joined m at stride count (shifted f.offset (tags_with m structs struct f.ctype)) (member_tags (tags_with m structs struct) fs) (list f.ctype (at + f.offset)) (of_fields fs at list) own others in
        record { on = b.on; before = b.before; behind = b.behind }

    no_leaves : (fs : List FieldView) (at : ℕ) → of_fields fs at (plain_leaves 0 structs m.pointer (record { stride = stride; count = count })) ≡ []
    no_leaves [] at = refl
    no_leaves (f ∷ fs) at = no_leaves fs at

    -- what is behind all arrays
    unit_placed : (struct : ℕ → ℕ → Option Tag) (list : Ty → ℕ → List Leaf) → ((i : ℕ) → size (Struct i) ≤ stride → (at : ℕ) → Placed at (struct i) (of_fields (struct_at structs i).fields at list))
        → (t : Ty) → has_class_bytes m t ≡ true → size (behind_all t) ≤ stride → (at : ℕ) → Placed at (tags_with m structs struct (behind_all t)) (plain_unit structs (record { stride = stride; count = count }) list (behind_all t) at)
    unit_placed struct list each (Int k) kind fits at =
        let e = eqb-true k.bytes (flow.class_bytes m (class_of k)) kind ∙ model_bytes m model (class_of k) in
        let a = leaf_placed m (class_of k) k.signed stride count at (some_bytes m (class_of k)) (omega (arith, e, fits)) in
        record { on = a.on; before = a.before; behind = a.behind }
    unit_placed struct list each (Pointer t) kind fits at =
        let e = model_bytes m model class.Pointer in
        let a = leaf_placed m class.Pointer false stride count at (some_bytes m class.Pointer) (omega (arith, e, fits)) in
        record { on = a.on; before = a.before; behind = a.behind }
    unit_placed struct list each (Array t n) kind fits at = unit_placed struct list each t kind fits at
    unit_placed struct list each (Struct i) kind fits at = let a = each i fits at in record { on = a.on; before = a.before; behind = a.behind }
    unit_placed struct list each Void kind fits at = record { on = λ q r k l. refl; before = λ x k. refl; behind = λ x k. refl }

    behind_kind : (t : Ty) → has_class_bytes m t ≡ true → has_class_bytes m (behind_all t) ≡ true
    behind_kind (Int k) h = h
    behind_kind (Pointer t) h = h
    behind_kind (Array t n) h = behind_kind t h
    behind_kind (Struct i) h = h
    behind_kind Void h = h

    -- all arrays on the outside
    arrays_placed : (struct : ℕ → ℕ → Option Tag) → ((i : ℕ) → Ends (struct_at structs i).size (struct i)) → (list : Ty → ℕ → List Leaf) → ((i : ℕ) → size (Struct i) ≤ stride → (at : ℕ) → Placed at (struct i) (of_fields (struct_at structs i).fields at list))
        → EachType struct (λ t at. repeated (full_count t) at (size (behind_all t)) (plain_unit structs (record { stride = stride; count = count }) list (behind_all t)))
    arrays_placed struct ends list each t kind fits at =
        placed_as m at stride count (repeated_tags (full_count t) (size (behind_all t)) (tags_with m structs struct (behind_all t))) (tags_with m structs struct t) (repeated (full_count t) at (size (behind_all t)) (plain_unit structs (record { stride = stride; count = count }) list (behind_all t))) (λ x. sym (full_tags m structs struct t x))
        (by_count (full_count t) (let e = full_size structs m.pointer t in omega (arith, e, fits)))
      where
        by_count : (n : ℕ) → n * size (behind_all t) ≤ stride → Placed at (repeated_tags n (size (behind_all t)) (tags_with m structs struct (behind_all t))) (repeated n at (size (behind_all t)) (plain_unit structs (record { stride = stride; count = count }) list (behind_all t)))
        by_count zero few = record { on = λ q r k l. refl; before = λ x k. refl; behind = λ x k. refl }
        by_count (suc n) few =
            placed_repeated m stride count (size (behind_all t)) (tags_with m structs struct (behind_all t)) (plain_unit structs (record { stride = stride; count = count }) list (behind_all t)) (type_ends m structs struct model ends (behind_all t) (behind_kind t kind))
            (unit_placed struct list each t kind (element_fits n (size (behind_all t)) stride few)) (suc n) at few

    struct_placed : (depth i : ℕ) → size (Struct i) ≤ stride → (at : ℕ) → Placed at (struct_tags m structs depth i) (of_fields (struct_at structs i).fields at (plain_leaves depth structs m.pointer (record { stride = stride; count = count })))
    struct_placed zero i fits at = subst (Placed at (struct_tags m structs 0 i)) (sym (no_leaves (struct_at structs i).fields at)) (record { on = λ q r k l. refl; before = λ x k. refl; behind = λ x k. refl })
    struct_placed (suc depth) i fits at =
        let a = laid_out m structs apart i in
        let b = members_placed (struct_tags m structs depth) (struct_ends m structs model apart depth) (plain_leaves (suc depth) structs m.pointer (record { stride = stride; count = count })) (arrays_placed (struct_tags m structs depth) (struct_ends m structs model apart depth) (plain_leaves depth structs m.pointer (record { stride = stride; count = count })) (struct_placed depth)) (struct_at structs i).size 0 (struct_at structs i).fields a.small fits a.members at in
        record { on = b.on; before = b.before; behind = b.behind }

    pub plain_placed : (depth : ℕ) → EachType (struct_tags m structs depth) (plain_leaves (suc depth) structs m.pointer (record { stride = stride; count = count }))
    plain_placed depth t kind fits at = arrays_placed (struct_tags m structs depth) (struct_ends m structs model apart depth) (plain_leaves depth structs m.pointer (record { stride = stride; count = count })) (struct_placed depth) t kind fits at
