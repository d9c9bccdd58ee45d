-- The tags of types: arrays on the outside at once, and where they end.
use Rattle.std.proofs.Common.{◌≡◌, ℕ, zero, suc, ◌+◌, ◌-◌, ◌*◌, ◌^◌, ◌<◌, ◌≤◌, Bool, true, false, cond, ◌&&◌, nat_le, nat_lt, List, [], ◌∷◌, Option, Some, None, arith, ap, sym, subst, refl, ◌∙◌}
use Rattle.std.specs.Prelude.{◌==◌, get_or}
use Rattle.std.specs.List.{list_all}
use Rattle.std.proofs.lemmas.Bool.{and_parts, leb-true, ltb-true, eqb-true}
use Rattle.c_layout.specs.declared.data_model.Model.{Model}
use Rattle.c_layout.specs.declared.leaf_lists.Class.{Class}
use Rattle.c_layout.specs.declared.leaf_lists.Class.TheVariants as class
use Rattle.c_layout.specs.Layout.{size_of_type}
use Rattle.c_layout.specs.Leaves.{class_of, is_short, short_count, behind_short, long_count, behind_long, full_count, behind_all}
use Rattle.c_layout.specs.Models.{is_model}
use Rattle.c_layout.specs.StructViews.{FieldView, StructView, no_struct, struct_at}
use Rattle.c_layout.specs.Types.{Ty, Int, Pointer, Array, Struct, Void}
use Rattle.cfg.specs.BaseShapes.{is_extent, ends_by}
use Rattle.cfg.specs.ModelKinds as flow
use Rattle.memory_model.specs.Memory.Bytes.{Tag}
use Rattle.memory_model.specs.Memory.ScalarSizes.{class_bytes}
use Rattle.memory_model.specs.Memory.Tags.{tag_of, or_tag}
use Rattle.store_cells.specs.ScalarTypes as store
use Rattle.store_monotone.proofs.shapes.LeafBytes.{same_bytes}
use Rattle.store_structs.specs.LeafCounts.{bytes_in}
use Rattle.store_structs.specs.LaidApart.{has_class_bytes, is_member_in, are_members_in, is_laid_apart, are_laid_apart}
use Rattle.store_monotone.specs.Tags.TypeTags.{shifted, repeated_tags, member_tags, scalar_tags, tags_with, struct_tags}
use Rattle.store_monotone.proofs.tags.RepeatedTags.{Ends, shifted_ends, repeated_same, repeated_ends, one_element, repeated_twice}

-- ---- sizes of scalars

stored_bytes : (m : Model) (c : Class) → store.class_bytes m c ≡ class_bytes m c
stored_bytes m class.Char = refl
stored_bytes m class.Short = refl
stored_bytes m class.Int = refl
stored_bytes m class.Long = refl
stored_bytes m class.LongLong = refl
stored_bytes m class.Pointer = refl

pub model_bytes : (m : Model) → is_model m ≡ true → (c : Class) → flow.class_bytes m c ≡ class_bytes m c
model_bytes m model c = same_bytes m model c ∙ stored_bytes m c

two_some : (b : Bool) (p q : ℕ) → 0 < p → 0 < q → 0 < cond b p q
two_some true p q h k = h
two_some false p q h k = k

pub some_bytes : (m : Model) (c : Class) → 0 < class_bytes m c
some_bytes m class.Char = omega arith
some_bytes m class.Short = omega arith
some_bytes m class.Int = two_some (m.int == 2) 2 4 (omega arith) (omega arith)
some_bytes m class.Long = two_some (m.long == 4) 4 8 (omega arith) (omega arith)
some_bytes m class.LongLong = omega arith
some_bytes m class.Pointer = two_some (m.pointer == 4) 4 8 (omega arith) (omega arith)

-- ---- arrays on the outside

module _ (structs : List StructView) (pointer : ℕ) where
  abbrev size : Ty → ℕ
  size = size_of_type structs pointer

  one_size : (n : ℕ) → n ≡ 1 * n
  one_size n = omega arith

  array_size : (n k s total : ℕ) → total ≡ k * s → n * total ≡ (n * k) * s
  array_size n k s total e = ap (λ v. n * v) e ∙ (grind arith)

  pub full_size : (t : Ty) → size t ≡ full_count t * size (behind_all t)
  full_size (Int k) = one_size k.bytes
  full_size (Pointer t) = one_size pointer
  full_size (Array t n) = array_size n (full_count t) (size (behind_all t)) (size t) (full_size t)
  full_size (Struct i) = one_size (struct_at structs i).size
  full_size Void = omega arith

  pub long_size : (t : Ty) → size t ≡ long_count t * size (behind_long t)
  long_size (Int k) = one_size k.bytes
  long_size (Pointer t) = one_size pointer
  long_size (Array t n) = by_test (is_short n) (long_size t)
    where
      by_test : (c : Bool) → size t ≡ long_count t * size (behind_long t) → n * size t ≡ cond c 1 (n * long_count t) * size (cond c (Array t n) (behind_long t))
      by_test true inner = one_size (n * size t)
      by_test false inner = array_size n (long_count t) (size (behind_long t)) (size t) inner
  long_size (Struct i) = one_size (struct_at structs i).size
  long_size Void = omega arith

  pub short_size : (t : Ty) → size t ≡ short_count t * size (behind_short t)
  short_size (Int k) = one_size k.bytes
  short_size (Pointer t) = one_size pointer
  short_size (Array t n) = by_test (is_short n) (short_size t)
    where
      by_test : (c : Bool) → size t ≡ short_count t * size (behind_short t) → n * size t ≡ cond c (n * short_count t) 1 * size (cond c (behind_short t) (Array t n))
      by_test true inner = array_size n (short_count t) (size (behind_short t)) (size t) inner
      by_test false inner = one_size (n * size t)
  short_size (Struct i) = one_size (struct_at structs i).size
  short_size Void = omega arith

module _ (m : Model) (structs : List StructView) (struct : ℕ → ℕ → Option Tag) where
  abbrev tags : Ty → ℕ → Option Tag
  tags = tags_with m structs struct

  abbrev bytes : Ty → ℕ
  bytes = size_of_type structs m.pointer

  pub in_arrays : (n k : ℕ) (t u : Ty) → bytes t ≡ k * bytes u → ((x : ℕ) → tags t x ≡ repeated_tags k (bytes u) (tags u) x) → (x : ℕ) → repeated_tags n (bytes t) (tags t) x ≡ repeated_tags (n * k) (bytes u) (tags u) x
  in_arrays n k t u e h x =
      ap (λ s. repeated_tags n s (tags t) x) e
      ∙ (repeated_same n (k * bytes u) (tags t) (repeated_tags k (bytes u) (tags u)) h x
      ∙ repeated_twice n k (bytes u) (tags u) x)

  pub full_tags : (t : Ty) (x : ℕ) → tags t x ≡ repeated_tags (full_count t) (bytes (behind_all t)) (tags (behind_all t)) x
  full_tags (Int k) x = one_element k.bytes (tags (Int k)) x
  full_tags (Pointer t) x = one_element m.pointer (tags (Pointer t)) x
  full_tags (Array t n) x = in_arrays n (full_count t) t (behind_all t) (full_size structs m.pointer t) (full_tags t) x
  full_tags (Struct i) x = one_element (bytes (Struct i)) (tags (Struct i)) x
  full_tags Void x = one_element 0 (tags Void) x

  pub long_tags : (t : Ty) (x : ℕ) → tags t x ≡ repeated_tags (long_count t) (bytes (behind_long t)) (tags (behind_long t)) x
  long_tags (Int k) x = one_element k.bytes (tags (Int k)) x
  long_tags (Pointer t) x = one_element m.pointer (tags (Pointer t)) x
  long_tags (Array t n) x = by_test (is_short n) (long_tags t)
    where
      by_test : (c : Bool) → ((y : ℕ) → tags t y ≡ repeated_tags (long_count t) (bytes (behind_long t)) (tags (behind_long t)) y) → tags (Array t n) x ≡ repeated_tags (cond c 1 (n * long_count t)) (bytes (cond c (Array t n) (behind_long t))) (tags (cond c (Array t n) (behind_long t))) x
      by_test true inner = one_element (bytes (Array t n)) (tags (Array t n)) x
      by_test false inner = in_arrays n (long_count t) t (behind_long t) (long_size structs m.pointer t) inner x
  long_tags (Struct i) x = one_element (bytes (Struct i)) (tags (Struct i)) x
  long_tags Void x = one_element 0 (tags Void) x

  pub short_tags : (t : Ty) (x : ℕ) → tags t x ≡ repeated_tags (short_count t) (bytes (behind_short t)) (tags (behind_short t)) x
  short_tags (Int k) x = one_element k.bytes (tags (Int k)) x
  short_tags (Pointer t) x = one_element m.pointer (tags (Pointer t)) x
  short_tags (Array t n) x = by_test (is_short n) (short_tags t)
    where
      by_test : (c : Bool) → ((y : ℕ) → tags t y ≡ repeated_tags (short_count t) (bytes (behind_short t)) (tags (behind_short t)) y) → tags (Array t n) x ≡ repeated_tags (cond c (n * short_count t) 1) (bytes (cond c (behind_short t) (Array t n))) (tags (cond c (behind_short t) (Array t n))) x
      by_test true inner = in_arrays n (short_count t) t (behind_short t) (short_size structs m.pointer t) inner x
      by_test false inner = one_element (bytes (Array t n)) (tags (Array t n)) x
  short_tags (Struct i) x = one_element (bytes (Struct i)) (tags (Struct i)) x
  short_tags Void x = one_element 0 (tags Void) x

  -- ---- where types end

  pub scalar_ends : (c : Class) (few : ℕ) → few ≡ class_bytes m c → Ends few (scalar_tags m c)
  scalar_ends c few e x h = by_test (nat_lt x (class_bytes m c)) refl
    where
      by_test : (b : Bool) → nat_lt x (class_bytes m c) ≡ b → cond b (tag_of c x) None ≡ None
      by_test true g = absurd (let k = ltb-true x (class_bytes m c) g in omega (arith, k, h, e))
      by_test false g = refl

  pub type_ends : is_model m ≡ true → ((i : ℕ) → Ends (struct_at structs i).size (struct i)) → (t : Ty) → has_class_bytes m t ≡ true → Ends (bytes t) (tags t)
  type_ends model each (Int k) kind = scalar_ends (class_of k) k.bytes (eqb-true k.bytes (flow.class_bytes m (class_of k)) kind ∙ model_bytes m model (class_of k))
  type_ends model each (Pointer t) kind = scalar_ends class.Pointer m.pointer (model_bytes m model class.Pointer)
  type_ends model each (Array t n) kind = repeated_ends n (bytes t) (tags t) (type_ends model each t kind)
  type_ends model each (Struct i) kind = each i
  type_ends model each Void kind = λ x h. refl

-- ---- members

-- an element is no larger than an array of some
no_larger : (n size : ℕ) → size ≤ suc n * size
no_larger n size = let e : suc n * size ≡ size + n * size = grind arith in omega (arith, e)

module _ (structs : List StructView) (pointer : ℕ) where
  -- sizes in 64 bits are exact where they are small
  pub same_size : (t : Ty) → bytes_in structs pointer t ≤ 2 ^ 30 → bytes_in structs pointer t ≡ size_of_type structs pointer t
  same_size (Int k) h = refl
  same_size (Pointer t) h = refl
  same_size (Array t zero) h = omega arith
  same_size (Array t (suc n)) h =
      let a = no_larger n (bytes_in structs pointer t) in
      let b = same_size t (omega (arith, a, h)) in
      let c : suc n * bytes_in structs pointer t ≡ suc n * size_of_type structs pointer t = ap (λ z. suc n * z) b in
      omega (arith, c, h)
  same_size (Struct i) h = refl
  same_size Void h = refl

module _ (m : Model) (structs : List StructView) where
  -- a member behind an offset, within the room
  pub record IsMember (room start : ℕ) (f : FieldView) : Type 0 where
    pub kind : has_class_bytes m f.ctype ≡ true
    pub from : start ≤ f.offset
    pub to : f.offset + size_of_type structs m.pointer f.ctype ≤ room
    pub same : bytes_in structs m.pointer f.ctype ≡ size_of_type structs m.pointer f.ctype

  pub member_is : (room start : ℕ) (f : FieldView) → room ≤ 2 ^ 30 → is_member_in m structs room start f ≡ true → IsMember room start f
  member_is room start f small h =
      let a = and_parts (has_class_bytes m f.ctype) _ h in
      let b = and_parts (nat_le start f.offset) (ends_by f.offset (bytes_in structs m.pointer f.ctype) room) a.1 in
      let c = and_parts (nat_le f.offset room) (nat_le (bytes_in structs m.pointer f.ctype) (room - f.offset)) b.1 in
      let d = leb-true f.offset room c.0 in
      let e = leb-true (bytes_in structs m.pointer f.ctype) (room - f.offset) c.1 in
      let s = same_size structs m.pointer f.ctype (omega (arith, d, e, small)) in
      record { kind = a.0; from = leb-true start f.offset b.0; to = omega (arith, d, e, s); same = s }

  apart_at : (all some : List StructView) → list_all (is_laid_apart m all) some ≡ true → (i : ℕ) → is_laid_apart m all (get_or some i no_struct) ≡ true
  apart_at all [] h i = refl
  apart_at all (s ∷ some) h zero = (and_parts (is_laid_apart m all s) (list_all (is_laid_apart m all) some) h).0
  apart_at all (s ∷ some) h (suc i) = apart_at all some (and_parts (is_laid_apart m all s) (list_all (is_laid_apart m all) some) h).1 i

  -- the members of a struct within its size
  pub record IsLaidOut (i : ℕ) : Type 0 where
    pub small : (struct_at structs i).size ≤ 2 ^ 30
    pub members : are_members_in m structs (struct_at structs i).size 0 (struct_at structs i).fields ≡ true

  pub laid_out : are_laid_apart m structs ≡ true → (i : ℕ) → IsLaidOut i
  laid_out apart i =
      let a = and_parts (is_extent (struct_at structs i).size) (are_members_in m structs (struct_at structs i).size 0 (struct_at structs i).fields) (apart_at structs structs apart i) in
      record { small = leb-true (struct_at structs i).size (2 ^ 30) a.0; members = a.1 }

  pub member_ends : (tag : Ty → ℕ → Option Tag) → ((t : Ty) → has_class_bytes m t ≡ true → Ends (size_of_type structs m.pointer t) (tag t)) → (room start : ℕ) (fs : List FieldView) → room ≤ 2 ^ 30 → are_members_in m structs room start fs ≡ true → Ends room (member_tags tag fs)
  member_ends tag each room start [] small h x k = refl
  member_ends tag each room start (f ∷ fs) small h x k =
      let p = and_parts (is_member_in m structs room start f) (are_members_in m structs room (f.offset + bytes_in structs m.pointer f.ctype) fs) h in
      let a = member_is room start f small p.0 in
      let to = a.to in
      ap (λ o. or_tag o (member_tags tag fs x)) (shifted_ends f.offset (size_of_type structs m.pointer f.ctype) (tag f.ctype) (each f.ctype a.kind) x (omega (arith, to, k)))
      ∙ member_ends tag each room (f.offset + bytes_in structs m.pointer f.ctype) fs small p.1 x k

  pub struct_ends : is_model m ≡ true → are_laid_apart m structs ≡ true → (depth i : ℕ) → Ends (struct_at structs i).size (struct_tags m structs depth i)
  struct_ends model apart zero i x h = refl
  struct_ends model apart (suc depth) i x h =
      let a = laid_out apart i in
      member_ends (tags_with m structs (struct_tags m structs depth)) (type_ends m structs (struct_tags m structs depth) model (struct_ends model apart depth)) (struct_at structs i).size 0 (struct_at structs i).fields a.small a.members x h
