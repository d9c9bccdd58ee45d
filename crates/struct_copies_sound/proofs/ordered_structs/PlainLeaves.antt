-- The leaves of a type by number are those of its list, where no array is folded and structs stand in no circle.
use Rattle.std.specs.Prelude.{◌≡◌, ℕ, zero, suc, ◌+◌, ◌*◌, ◌^◌, ◌≤◌, ◌<◌, true, false, ◌==◌, Option, Some, List, [], ◌∷◌, slice_get, refl}
use Rattle.std.proofs.Common.{arith, sym, ap, ◌∙◌}
use Rattle.std.proofs.lemmas.Bool.{and_parts, eqb-true, leb-true}
use Rattle.std.proofs.lemmas.List.{append-nil}
use Rattle.c_layout.specs.declared.data_model.Model.{Model}
use Rattle.c_layout.specs.declared.leaf_lists.Class.{Class}
use Rattle.c_layout.specs.declared.leaf_lists.Class.TheVariants as class
use Rattle.c_layout.specs.declared.leaf_lists.Leaf.{Leaf}
use Rattle.c_layout.specs.Layout.{size_of_type}
use Rattle.c_layout.specs.Leaves.{class_of, full_count, behind_all, repeated, of_fields, plain_leaves}
use Rattle.c_layout.specs.Leaves as lists
use Rattle.c_layout.specs.StructLayouts as layouts
use Rattle.c_layout.specs.StructViews.{FieldView, StructView, no_struct, struct_at}
use Rattle.c_layout.specs.Types.{Ty, Int, Pointer, Array, Struct, Void}
use Rattle.cfg.specs.BaseShapes.{is_extent}
use Rattle.cfg.specs.ModelKinds.{class_bytes}
use Rattle.cfg.specs.StructCounts.{leaves_of_fields, plain_leaves_of_fields, is_counted, are_counted}
use Rattle.store_structs.specs.LeafCounts.{bytes_in, plain_count}
use Rattle.store_structs.specs.LeafNumbers.{leaf_at, element_with, behind_arrays, member_at, plain_unit, plain_leaf_by, plain_member}
use Rattle.store_structs.specs.LaidApart.{has_class_bytes, are_members_in, is_laid_apart, are_laid_apart}
use Rattle.store_monotone.proofs.layouts.Extents.{in_element, behind_as}
use Rattle.analysis_preconditions.specs.StructNesting.OrderedStructs.{is_made_of, nests_within}
use Rattle.struct_copies_sound.proofs.ordered_structs.RepeatedLeaves.{AreLeaves, leaves_as, no_leaves, array_leaves, in_groups}
use Rattle.struct_copies_sound.proofs.ordered_structs.MemberLeaves.{at_each, no_larger, by_size, sum_of, all_members}

pub times : (a b c : ℕ) → (a * b) * c ≡ a * (b * c)
times a b c = grind arith

pub no_times : (b c : ℕ) → (0 * b) * c ≡ 0
no_times b c = let e : 0 * b ≡ 0 = omega arith in ap (λ z. z * c) e ∙ (omega arith)

-- one scalar
pub one_leaf : (leaf : ℕ → ℕ → Option Leaf) (list : ℕ → List Leaf) (size : ℕ) (x : ℕ → Leaf) → 0 < size → ((number at : ℕ) → leaf number at ≡ Some (x at)) → ((at : ℕ) → list at ≡ x at ∷ []) → AreLeaves leaf list size 1 1
one_leaf leaf list size x some l s = leaves_as leaf (λ number at. Some (x at)) list (λ at. x at ∷ []) size size 1 1 1 1 (record { kept = refl; few = omega (arith, some); long = λ at. refl; each = first }) (λ number at room. l number at) s refl refl refl
  where
    first : (number at : ℕ) → number < 1 → at + size ≤ 2 ^ 30 → slice_get (x at ∷ []) number ≡ Some (x at)
    first zero at below room = refl
    first (suc number) at below room = absurd (omega (arith, below))

full_size : (structs : List StructView) (pointer : ℕ) (t : Ty) → size_of_type structs pointer t ≡ full_count t * size_of_type structs pointer (behind_all t)
full_size structs pointer (Int k) = omega arith
full_size structs pointer (Pointer t) = omega arith
full_size structs pointer (Array t n) = ap (λ z. n * z) (full_size structs pointer t) ∙ sym (times n (full_count t) (size_of_type structs pointer (behind_all t)))
full_size structs pointer (Struct i) = omega arith
full_size structs pointer Void = omega arith

pub all_plain : (structs : List StructView) (fs : List FieldView) → plain_leaves_of_fields structs fs ≡ sum_of (layouts.plain_count structs) fs
all_plain structs [] = refl
all_plain structs (f ∷ fs) = ap (λ z. layouts.plain_count structs f.ctype + z) (all_plain structs fs)

pub all_folded : (structs : List StructView) (fs : List FieldView) → leaves_of_fields structs fs ≡ sum_of (layouts.leaf_count structs) fs
all_folded structs [] = refl
all_folded structs (f ∷ fs) = ap (λ z. layouts.leaf_count structs f.ctype + z) (all_folded structs fs)

pub record IsSound (m : Model) (structs : List StructView) (s : StructView) : Type 0 where
  pub small : s.size ≤ 2 ^ 30
  pub members : are_members_in m structs s.size 0 s.fields ≡ true
  pub leaves : s.leaves ≡ sum_of (layouts.leaf_count structs) s.fields
  pub plain_leaves : s.plain_leaves ≡ sum_of (layouts.plain_count structs) s.fields

pub struct_sound : (m : Model) (structs : List StructView) → are_laid_apart m structs ≡ true → are_counted structs ≡ true → (i : ℕ) → IsSound m structs (struct_at structs i)
struct_sound m structs apart counted i =
    let s = struct_at structs i in
    let a = and_parts (is_extent s.size) (are_members_in m structs s.size 0 s.fields) (at_each (is_laid_apart m structs) no_struct refl structs apart i) in
    let c = and_parts (s.leaves == leaves_of_fields structs s.fields) (s.plain_leaves == plain_leaves_of_fields structs s.fields) (at_each (is_counted structs) no_struct refl structs counted i) in
    record {
      small = leb-true s.size (2 ^ 30) a.0;
      members = a.1;
      leaves = eqb-true s.leaves (leaves_of_fields structs s.fields) c.0 ∙ all_folded structs s.fields;
      plain_leaves = eqb-true s.plain_leaves (plain_leaves_of_fields structs s.fields) c.1 ∙ all_plain structs s.fields;
    }

module _ (m : Model) (some : (c : Class) → 0 < class_bytes m c) (structs : List StructView) (sound : (i : ℕ) → IsSound m structs (struct_at structs i)) (stride count : ℕ) where
  abbrev member : ℕ → ℕ → ℕ → ℕ → Option Leaf
  member depth = plain_member depth structs m.pointer (record { stride = stride; count = count })

  abbrev leaf : ℕ → Ty → ℕ → ℕ → Option Leaf
  leaf depth = plain_leaf_by (member depth) structs m.pointer (record { stride = stride; count = count })

  abbrev list : ℕ → Ty → ℕ → List Leaf
  list depth = plain_leaves depth structs m.pointer (record { stride = stride; count = count })

  abbrev IsPlain : ℕ → ℕ → Type 0
  IsPlain depth i = AreLeaves (member depth i) (λ at. of_fields (struct_at structs i).fields at (list depth)) (struct_at structs i).size (struct_at structs i).plain_leaves (struct_at structs i).plain_leaves

  abbrev AreOfType : ℕ → Ty → Type 0
  AreOfType depth t = AreLeaves (leaf depth t) (list (suc depth) t) (size_of_type structs m.pointer t) (layouts.plain_count structs t) (plain_count structs t)

  array_type : (depth : ℕ) (t : Ty) (n : ℕ) → (size_of_type structs m.pointer t ≤ 2 ^ 30 → AreOfType depth t) → size_of_type structs m.pointer (Array t n) ≤ 2 ^ 30 → AreOfType depth (Array t n)
  array_type depth t zero inner near =
      let e : 0 * full_count t ≡ 0 = omega arith in
      no_leaves (leaf depth (Array t 0)) (list (suc depth) (Array t 0)) (size_of_type structs m.pointer (Array t 0)) (layouts.plain_count structs (Array t 0)) (plain_count structs (Array t 0))
      (no_times (full_count t) (layouts.plain_unit_count structs (behind_all t))) (omega arith)
      (λ at. ap (λ z. repeated z at (size_of_type structs m.pointer (behind_all t)) (lists.plain_unit structs (record { stride = stride; count = count }) (list depth) (behind_all t))) e)
  array_type depth t (suc n) inner near =
      let less = no_larger n (size_of_type structs m.pointer t) in
      let close : size_of_type structs m.pointer t ≤ 2 ^ 30 = omega (arith, less, near) in
      let bytes = by_size structs m.pointer t close in
      leaves_as (leaf depth (Array t (suc n))) (λ number at. in_element (leaf depth t) at (size_of_type structs m.pointer t) (element_with number (suc n) (plain_count structs t)))
      (list (suc depth) (Array t (suc n))) (λ at. repeated (suc n) at (size_of_type structs m.pointer t) (list (suc depth) t))
      (size_of_type structs m.pointer (Array t (suc n))) (suc n * size_of_type structs m.pointer t)
      (layouts.plain_count structs (Array t (suc n))) (suc n * layouts.plain_count structs t) (plain_count structs (Array t (suc n))) (plain_count structs (Array t (suc n)))
      (array_leaves (leaf depth t) (list (suc depth) t) (size_of_type structs m.pointer t) (layouts.plain_count structs t) (plain_count structs t) (inner close) (suc n) near)
      (λ number at room. behind_as (plain_unit (member depth) m.pointer (record { stride = stride; count = count })) (behind_arrays structs m.pointer t) at (bytes_in structs m.pointer t) (element_with number (suc n) (plain_count structs t))
      ∙ ap (λ z. in_element (leaf depth t) at z (element_with number (suc n) (plain_count structs t))) bytes)
      (λ at. in_groups (size_of_type structs m.pointer (behind_all t)) (lists.plain_unit structs (record { stride = stride; count = count }) (list depth) (behind_all t)) (suc n) (full_count t) at
      ∙ ap (λ z. repeated (suc n) at z (list (suc depth) t)) (sym (full_size structs m.pointer t)))
      refl (times (suc n) (full_count t) (layouts.plain_unit_count structs (behind_all t))) refl

  pub plain_type : (depth : ℕ) → ((i : ℕ) → nests_within structs depth i ≡ true → IsPlain depth i) → (t : Ty) → is_made_of (nests_within structs depth) t ≡ true → has_class_bytes m t ≡ true → size_of_type structs m.pointer t ≤ 2 ^ 30 → AreOfType depth t
  plain_type depth inner (Int k) made kind near =
      let e = eqb-true k.bytes (class_bytes m (class_of k)) kind in
      let s = some (class_of k) in
      one_leaf (leaf depth (Int k)) (list (suc depth) (Int k)) k.bytes (λ at. leaf_at at (class_of k) k.signed (record { stride = stride; count = count })) (omega (arith, e, s)) (λ number at. refl) (λ at. refl)
  plain_type depth inner (Pointer t) made kind near =
      one_leaf (leaf depth (Pointer t)) (list (suc depth) (Pointer t)) m.pointer (λ at. leaf_at at class.Pointer false (record { stride = stride; count = count })) (some class.Pointer) (λ number at. refl) (λ at. refl)
  plain_type depth inner (Array t n) made kind near = array_type depth t n (plain_type depth inner t made kind) near
  plain_type depth inner (Struct i) made kind near =
      leaves_as (leaf depth (Struct i)) (member depth i) (list (suc depth) (Struct i)) (λ at. of_fields (struct_at structs i).fields at (list depth))
      (struct_at structs i).size (struct_at structs i).size (layouts.plain_count structs (Struct i)) (struct_at structs i).plain_leaves (struct_at structs i).plain_leaves (struct_at structs i).plain_leaves
      (inner i made) (λ number at room. refl) (λ at. append-nil (of_fields (struct_at structs i).fields at (list depth))) refl (omega arith) refl
  plain_type depth inner Void made kind near = absurd (cc)

  pub plain_struct : (depth i : ℕ) → nests_within structs depth i ≡ true → IsPlain depth i
  unfolding member_at
  plain_struct zero i nests = absurd (cc)
  plain_struct (suc depth) i nests =
      let s = sound i in
      let a = all_members m structs false (leaf depth) (list (suc depth)) (layouts.plain_count structs) (is_made_of (nests_within structs depth)) (plain_type depth (plain_struct depth)) (struct_at structs i).size (struct_at structs i).fields s.small s.members nests in
      leaves_as (member (suc depth) i) (member (suc depth) i) (λ at. of_fields (struct_at structs i).fields at (list (suc depth))) (λ at. of_fields (struct_at structs i).fields at (list (suc depth)))
      (struct_at structs i).size (struct_at structs i).size (struct_at structs i).plain_leaves (sum_of (layouts.plain_count structs) (struct_at structs i).fields) (struct_at structs i).plain_leaves (sum_of (layouts.plain_count structs) (struct_at structs i).fields)
      a.leaves (λ number at room. refl) (λ at. refl) refl s.plain_leaves s.plain_leaves
