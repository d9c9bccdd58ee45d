-- Memory behind a copy of a struct: contents come over, and an allocated object gets the tags of the struct's type.
use Rattle.std.proofs.Common.{◌≡◌, ℕ, zero, suc, ◌+◌, ◌-◌, ◌<◌, ◌≤◌, Bool, true, false, ◌||◌, Option, Some, None, List, [], ◌∷◌, length, arith, subst, sym, refl, ap, ◌∙◌, inl, inr, ◌⊎◌}
use Rattle.std.specs.Prelude.{slice_get, ◌==◌}
use Rattle.std.proofs.lemmas.Bool.{and_parts, eqb-true}
use Rattle.std.proofs.lemmas.Option.{same_Some, slice_get_within}
use Rattle.c_layout.specs.declared.data_model.Model.{Model}
use Rattle.c_layout.specs.declared.leaf_lists.Class.{Class}
use Rattle.c_layout.specs.declared.leaf_lists.Class.TheVariants.{Char, Pointer}
use Rattle.c_layout.specs.declared.leaf_lists.Leaf.{Leaf}
use Rattle.c_layout.specs.declared.shapes.BaseInfo.{BaseInfo}
use Rattle.memory_model.specs.Memory.ScalarSizes.{class_bytes, same_class, is_pointer}
use Rattle.memory_model.specs.Memory.Bytes.{Content, indeterminate, number, part, Tag, Byte}
use Rattle.memory_model.specs.Memory.Instances.{Memory, Instance, bytes_of, bytes_at, byte_at, life_of}
use Rattle.memory_model.specs.Memory.Tags.{tag_of, fits_tag, tag_at}
use Rattle.memory_model.specs.Effects.ScalarBytes.{replaced, region}
use Rattle.memory_model.specs.Effects.StructCopies.{fits_leaf, fit_type, is_pointer_tag, may_be_copied, keeps_parts, copied_tag, copied}
use Rattle.memory_model.specs.Effects.Touches.{is_allocated, storage_of, storage_at, set_bytes}
use Rattle.store_sound.specs.Concretization.SoundMemory.{IsInstanceOf, IsFreedRightly, IsMemoryOf, IsContentIn, IsContentNamed}
use Rattle.store_sound.specs.Concretization.ValueMeaning.{Naming}
use Rattle.store_sound.specs.Operations.Shapes.{AreShaped}
use Rattle.store_sound.proofs.operations.Classes.{same_class_is}
use Rattle.store_sound.proofs.operations.Frames.{IsAlike, pointer_in_moves, in_or_out}
use Rattle.store_sound.proofs.operations.Reading.{region_at, region_length}
use Rattle.store_sound.proofs.operations.Slices.{get_there}
use Rattle.store_sound.proofs.operations.StoreMemory.{content_in_moves, content_named_moves}
use Rattle.store_sound.proofs.operations.TagPlaces.{is_tagged}
use Rattle.store_sound.specs.Regions.RegionWrites.{IsRegion}
use Rattle.store_sound.proofs.regions.Regions.{alike_region}
use Rattle.memory_calls_sound.proofs.moves.MovedMemory.{IsReplaced, bytes_replaced, replaced_byte}

-- ---- bytes that are copied

-- a content from the source, under the tag of the struct's type on the heap, else under the one that was there
pub record IsCopied (allocated : Bool) (by : Option Tag) (to from : Option Byte) (b : Byte) : Type 0 where
  pub was : Byte
  pub source : Byte
  pub there : to ≡ Some was
  pub here : from ≡ Some source
  pub content : b.content ≡ source.content
  pub tag : b.tag ≡ copied_tag allocated by was.tag

module _ (m : Model) (leaves : List Leaf) where
  pub is_copied : (allocated : Bool) (from : ℕ) (tos froms : List Byte) → length tos ≡ length froms → (k x : ℕ) (b : Byte) → x ≡ from + k → slice_get (copied m leaves allocated from tos froms) k ≡ Some b → IsCopied allocated (tag_at m leaves x) (slice_get tos k) (slice_get froms k) b
  is_copied allocated from [] [] h k x b d e = cc
  is_copied allocated from [] (f ∷ fs) h k x b d e = absurd (omega (arith, h))
  is_copied allocated from (t ∷ ts) [] h k x b d e = absurd (omega (arith, h))
  is_copied allocated from (t ∷ ts) (f ∷ fs) h zero x b d e =
      let y : Byte = record { content = f.content; tag = copied_tag allocated (tag_at m leaves from) t.tag } in
      let same : y ≡ b = same_Some y b e in
      let at : from ≡ x = omega (arith, d) in
      subst (λ z. IsCopied allocated (tag_at m leaves z) (Some t) (Some f) b) at (record { was = t; source = f; there = refl; here = refl; content = sym (ap (λ z. z.content) same); tag = sym (ap (λ z. z.tag) same) })
  is_copied allocated from (t ∷ ts) (f ∷ fs) h (suc k) x b d e =
      let r = is_copied allocated (suc from) ts fs (omega (arith, h)) k x b (omega (arith, d)) e in
      record { was = r.was; source = r.source; there = r.there; here = r.here; content = r.content; tag = r.tag }

  pub copied_long : (allocated : Bool) (from : ℕ) (tos froms : List Byte) → length tos ≡ length froms → length (copied m leaves allocated from tos froms) ≡ length froms
  copied_long allocated from [] [] h = refl
  copied_long allocated from [] (f ∷ fs) h = absurd (omega (arith, h))
  copied_long allocated from (t ∷ ts) [] h = absurd (omega (arith, h))
  copied_long allocated from (t ∷ ts) (f ∷ fs) h = ap suc (copied_long allocated (suc from) ts fs (omega (arith, h)))

  -- each byte of a side is seen as the struct's type has it
  pub type_at : (allocated : Bool) (from : ℕ) (bs : List Byte) (k x : ℕ) (b : Byte) → fit_type m leaves allocated from bs ≡ true → slice_get bs k ≡ Some b → x ≡ from + k → fits_leaf allocated (tag_at m leaves x) b ≡ true
  type_at allocated from [] k x b h e d = cc
  type_at allocated from (y ∷ ys) zero x b h e d =
      let same : y ≡ b = same_Some y b e in
      let at : from ≡ x = omega (arith, d) in
      subst (λ z. fits_leaf allocated (tag_at m leaves z) b ≡ true) at (subst (λ z. fits_leaf allocated (tag_at m leaves from) z ≡ true) same (and_parts (fits_leaf allocated (tag_at m leaves from) y) (fit_type m leaves allocated (suc from) ys) h).0)
  type_at allocated from (y ∷ ys) (suc k) x b h e d = type_at allocated (suc from) ys k x b (and_parts (fits_leaf allocated (tag_at m leaves from) y) (fit_type m leaves allocated (suc from) ys) h).1 e (omega (arith, d))

  -- and each part of a pointer lies where the struct has one
  pub parts_at : (from : ℕ) (bs : List Byte) (k x : ℕ) (b : Byte) → keeps_parts m leaves from bs ≡ true → slice_get bs k ≡ Some b → x ≡ from + k → may_be_copied b.content (tag_at m leaves x) ≡ true
  parts_at from [] k x b h e d = cc
  parts_at from (y ∷ ys) zero x b h e d =
      let same : y ≡ b = same_Some y b e in
      let at : from ≡ x = omega (arith, d) in
      subst (λ z. may_be_copied b.content (tag_at m leaves z) ≡ true) at (subst (λ z. may_be_copied z.content (tag_at m leaves from) ≡ true) same (and_parts (may_be_copied y.content (tag_at m leaves from)) (keeps_parts m leaves (suc from) ys) h).0)
  parts_at from (y ∷ ys) (suc k) x b h e d = parts_at (suc from) ys k x b (and_parts (may_be_copied y.content (tag_at m leaves from)) (keeps_parts m leaves (suc from) ys) h).1 e (omega (arith, d))

-- ---- parts of pointers stand under their own tags

pointer_fits : (allocated : Bool) (d : Class) (at k : ℕ) (tag : Option Tag) → is_pointer d ≡ true → fits_leaf allocated (tag_of d at) (record { content = indeterminate; tag = tag }) ≡ true → tag ≡ tag_of Pointer k → at ≡ k
pointer_fits allocated d at k tag p h e =
    let c : d ≡ Pointer = same_class_is d Pointer p in
    let f : fits_leaf allocated (tag_of Pointer at) (record { content = indeterminate; tag = tag_of Pointer k }) ≡ true = subst (λ z. fits_leaf allocated (tag_of Pointer at) (record { content = indeterminate; tag = z }) ≡ true) e (subst (λ z. fits_leaf allocated (tag_of z at) (record { content = indeterminate; tag = tag }) ≡ true) c h) in
    sym (eqb-true k at f)

-- on an object that was declared such a byte has the tag of the pointer's byte
declared_fits : (d : Class) (at : ℕ) (b : Byte) → is_pointer d ≡ true → fits_leaf false (tag_of d at) b ≡ true → b.tag ≡ tag_of Pointer at
declared_fits d at b p h = by_tag b.tag (subst (λ z. fits_leaf false (tag_of z at) b ≡ true) (same_class_is d Pointer p) h)
  where
    by_tag : (t : Option Tag) → (same_class Pointer Char || fits_tag false Pointer at t) ≡ true → t ≡ tag_of Pointer at
    by_tag None g = cc
    by_tag (Some t) g =
        let r = and_parts (same_class t.class Pointer) (t.at == at) g in
        let c = same_class_is t.class Pointer r.0 in
        let e = eqb-true t.at at r.1 in
        λ i. Some (record { class = c i; at = e i })

-- what comes is sound under the tag that it then has
copied_stands : (memory : Memory) (allocated source_allocated : Bool) (by : Option Tag) (source was : Byte) → fits_leaf source_allocated by source ≡ true → (allocated ≡ false → fits_leaf false by was ≡ true) → may_be_copied source.content by ≡ true → IsContentIn memory source.content source.tag → IsContentIn memory source.content (copied_tag allocated by was.tag)
copied_stands memory allocated source_allocated by source was fit fit_was may sound = by_content source.content may sound
  where
    under : (allocated : Bool) (by : Option Tag) (k : ℕ) → is_pointer_tag by ≡ true → fits_leaf source_allocated by source ≡ true → (allocated ≡ false → fits_leaf false by was ≡ true) → source.tag ≡ tag_of Pointer k → copied_tag allocated by was.tag ≡ tag_of Pointer k
    under allocated None k p f g e = cc
    under true (Some t) k p f g e =
        let c : t.class ≡ Pointer = same_class_is t.class Pointer p in
        let a : t.at ≡ k = pointer_fits source_allocated t.class t.at k source.tag p f e in
        λ i. Some (record { class = c i; at = a i })
    under false (Some t) k p f g e =
        let a : t.at ≡ k = pointer_fits source_allocated t.class t.at k source.tag p f e in
        declared_fits t.class t.at was p (g refl) ∙ ap (tag_of Pointer) a

    by_content : (c : Content) → may_be_copied c by ≡ true → IsContentIn memory c source.tag → IsContentIn memory c (copied_tag allocated by was.tag)
    by_content indeterminate h s = tt
    by_content (number n labels) h s = s
    by_content (part p k) h s = (s.0, under allocated by k h fit fit_was s.1)

-- ---- memory is sound

module _ (m : Model) (bases : List BaseInfo) (shaped : AreShaped bases) (naming : Naming) (old : Memory) (sane : IsMemoryOf m bases naming old) (leaves : List Leaf) (i offset j at size : ℕ) (it : Instance) (here : slice_get old i ≡ Some it) (fits : offset + size ≤ length (bytes_at old i)) (source_fits : at + size ≤ length (bytes_at old j)) (e : ℕ) (named : naming j ≡ Some e)
    (to_fits : (is_allocated (storage_at old i) || fit_type m leaves false 0 (region (bytes_at old i) offset size)) ≡ true)
    (from_fits : fit_type m leaves (is_allocated (storage_at old j)) 0 (region (bytes_at old j) at size) ≡ true)
    (parts : keeps_parts m leaves 0 (region (bytes_at old j) at size) ≡ true) where
  abbrev tos : List Byte
  tos = region (bytes_at old i) offset size

  abbrev froms : List Byte
  froms = region (bytes_at old j) at size

  abbrev pub bytes_copied : List Byte
  bytes_copied = copied m leaves (is_allocated (storage_at old i)) 0 (region (bytes_at old i) offset size) (region (bytes_at old j) at size)

  abbrev pub behind_copy : Memory
  behind_copy = set_bytes old i (replaced (bytes_at old i) offset (copied m leaves (is_allocated (storage_at old i)) 0 (region (bytes_at old i) offset size) (region (bytes_at old j) at size)))

  same_long : length tos ≡ length froms
  same_long = region_length (bytes_at old i) offset size fits ∙ sym (region_length (bytes_at old j) at size source_fits)

  copy_long : length bytes_copied ≡ size
  copy_long = copied_long m leaves (is_allocated (storage_at old i)) 0 tos froms same_long ∙ region_length (bytes_at old j) at size source_fits

  copy_fits : offset + length bytes_copied ≤ length (bytes_at old i)
  copy_fits = let g = copy_long in omega (arith, g, fits)

  pub copy_bytes : IsReplaced old behind_copy i offset bytes_copied
  copy_bytes = bytes_replaced old i offset bytes_copied it here copy_fits

  pub copy_region : IsRegion old behind_copy i offset size
  copy_region = subst (IsRegion old behind_copy i offset) copy_long copy_bytes.region

  -- a byte of the region, and where it comes from
  pub record CameByCopy (x : ℕ) (b : Byte) : Type 0 where
    pub was : Byte
    pub source : Byte
    pub there : byte_at old i x ≡ Some was
    pub from : byte_at old j (at + (x - offset)) ≡ Some source
    pub content : b.content ≡ source.content
    pub tag : b.tag ≡ copied_tag (is_allocated (storage_at old i)) (tag_at m leaves (x - offset)) was.tag
    pub seen : fits_leaf (is_allocated (storage_at old j)) (tag_at m leaves (x - offset)) source ≡ true
    pub seen_there : is_allocated (storage_at old i) ≡ false → fits_leaf false (tag_at m leaves (x - offset)) was ≡ true
    pub may : may_be_copied source.content (tag_at m leaves (x - offset)) ≡ true
    pub sound : IsContentIn old b.content b.tag

  declared_type : is_allocated (storage_at old i) ≡ false → fit_type m leaves false 0 tos ≡ true
  declared_type plain = subst (λ z. (z || fit_type m leaves false 0 tos) ≡ true) plain to_fits

  pub copied_byte : (x : ℕ) (b : Byte) → offset ≤ x → x < offset + size → byte_at behind_copy i x ≡ Some b → CameByCopy x b
  unfolding byte_at
  copied_byte x b from to f =
      let long = copy_long in
      let g = replaced_byte copy_bytes x b from (omega (arith, to, long)) f in
      let r = is_copied m leaves (is_allocated (storage_at old i)) 0 tos froms same_long (x - offset) (x - offset) b (omega arith) g in
      let t = region_at (bytes_at old i) offset size (x - offset) x r.was r.there (omega (arith, from)) in
      let s = region_at (bytes_at old j) at size (x - offset) (at + (x - offset)) r.source r.here refl in
      let seen = type_at m leaves (is_allocated (storage_at old j)) 0 froms (x - offset) (x - offset) r.source from_fits r.here (omega arith) in
      let there = λ (plain : is_allocated (storage_at old i) ≡ false). type_at m leaves false 0 tos (x - offset) (x - offset) r.was (declared_type plain) r.there (omega arith) in
      let may = parts_at m leaves 0 froms (x - offset) (x - offset) r.source parts r.here (omega arith) in
      record {
        was = r.was;
        source = r.source;
        there = t.1;
        from = s.1;
        content = r.content;
        tag = r.tag;
        seen = seen;
        seen_there = there;
        may = may;
        sound = subst (λ z. IsContentIn old z b.tag) (sym r.content) (subst (IsContentIn old r.source.content) (sym r.tag)
            (copied_stands old (is_allocated (storage_at old i)) (is_allocated (storage_at old j)) (tag_at m leaves (x - offset)) r.source r.was seen there may (sane.bytes j (at + (x - offset)) r.source s.1)));
      }

  -- a byte of all memory
  new_byte : (d x : ℕ) (b : Byte) → byte_at behind_copy d x ≡ Some b → ((d ≡ i) × CameByCopy x b) ⊎ (byte_at old d x ≡ Some b)
  new_byte d x b f = elim (in_or_out d i x offset size) [
    | inr out ↦ inr (sym (copy_region.outside d x out) ∙ f)
    | inl r ↦ inl (r.0, copied_byte x b r.1 r.2 (subst (λ z. byte_at behind_copy z x ≡ Some b) r.0 f))
  ]

  alike_copied : IsAlike old behind_copy
  alike_copied = alike_region copy_region

  new_bytes : (d x : ℕ) (b : Byte) → byte_at behind_copy d x ≡ Some b → IsContentIn behind_copy b.content b.tag
  new_bytes d x b f = elim (new_byte d x b f) [
    | inr g ↦ content_in_moves (pointer_in_moves alike_copied) b.content b.tag (sane.bytes d x b g)
    | inl r ↦ content_in_moves (pointer_in_moves alike_copied) b.content b.tag r.1.sound
  ]

  new_named : (d c x : ℕ) (b : Byte) → naming d ≡ Some c → byte_at behind_copy d x ≡ Some b → IsContentNamed naming behind_copy b.content
  new_named d c x b own f = elim (new_byte d x b f) [
    | inr g ↦ content_named_moves naming old behind_copy copy_region.lives b.content (sane.named d c x b own g)
    | inl r ↦ content_named_moves naming old behind_copy copy_region.lives b.content (subst (IsContentNamed naming old) (sym r.1.content) (sane.named j e (at + (x - offset)) r.1.source named r.1.from))
  ]

  new_tags : (d x : ℕ) (b : Byte) (t : Tag) → byte_at behind_copy d x ≡ Some b → b.tag ≡ Some t → t.at < class_bytes m t.class
  new_tags d x b t f g = elim (new_byte d x b f) [
    | inr h ↦ sane.tags d x b t h g
    | inl r ↦ by_tag (is_allocated (storage_at old i)) (tag_at m leaves (x - offset)) refl r.1.was (sym r.1.tag ∙ g) r.1.there
  ]
    where
      of_type : (u : Tag) → tag_at m leaves (x - offset) ≡ Some u → u ≡ t → t.at < class_bytes m t.class
      of_type u h k =
          let r = is_tagged m leaves (x - offset) u h in
          let small : u.at < class_bytes m u.class = subst (λ z. u.at < class_bytes m z) (sym r.class) r.owned.small in
          subst (λ z. z.at < class_bytes m z.class) k small

      by_tag : (a : Bool) (by : Option Tag) → tag_at m leaves (x - offset) ≡ by → (y : Byte) → copied_tag a by y.tag ≡ Some t → byte_at old i x ≡ Some y → t.at < class_bytes m t.class
      by_tag false by h y k u = sane.tags i x y t u k
      by_tag true None h y k u = sane.tags i x y t u k
      by_tag true (Some v) h y k u = of_type v h (same_Some v t k)

  -- an object's storage is not allocated
  object_storage : (d c : ℕ) (base : BaseInfo) (own : Instance) → slice_get bases c ≡ Some base → naming d ≡ Some c → slice_get old d ≡ Some own → base.shape.heap ≡ false → is_allocated (storage_at old d) ≡ false
  object_storage d c base own f g h heap =
      let k = sane.instances d c base own g f h in
      ap (λ z. is_allocated (storage_of z)) h ∙ (ap is_allocated k.storage ∙ ((shaped.each c base f).kind ∙ heap))

  new_instance : (d c : ℕ) (base : BaseInfo) (own : Instance) → naming d ≡ Some c → slice_get bases c ≡ Some base → slice_get behind_copy d ≡ Some own → IsInstanceOf m base own
  unfolding byte_at
  new_instance d c base own f g h =
      let made = copy_region.made in
      let w = slice_get_within behind_copy d own h in
      let was = get_there old d (omega (arith, made, w)) in
      let k = sane.instances d c base was.0 f g was.1 in
      let sto : own.storage ≡ was.0.storage = sym (ap storage_of h) ∙ (copy_bytes.storages d ∙ ap storage_of was.1) in
      let len : length own.bytes ≡ length was.0.bytes = sym (ap (λ z. length (bytes_of z)) h) ∙ (copy_region.lengths d ∙ ap (λ z. length (bytes_of z)) was.1) in
      record {
        storage = sto ∙ k.storage;
        size = λ heap. len ∙ k.size heap;
        tags = λ heap x b u. elim (new_byte d x b (ap (λ z. slice_get (bytes_of z) x) h ∙ u)) [
          | inr v ↦ k.tags heap x b (sym (ap (λ z. slice_get (bytes_of z) x) was.1) ∙ v)
          | inl r ↦ (let plain : is_allocated (storage_at old i) ≡ false = subst (λ z. is_allocated (storage_at old z) ≡ false) r.0 (object_storage d c base was.0 g f was.1 heap) in
              let v : slice_get (bytes_at old d) x ≡ Some r.1.was = subst (λ z. slice_get (bytes_at old z) x ≡ Some r.1.was) (sym r.0) r.1.there in
              (r.1.tag ∙ ap (λ z. copied_tag z (tag_at m leaves (x - offset)) r.1.was.tag) plain) ∙ k.tags heap x r.1.was (sym (ap (λ z. slice_get (bytes_of z) x) was.1) ∙ v))
        ];
      }

  new_freed : (d : ℕ) (own : Instance) → slice_get behind_copy d ≡ Some own → IsFreedRightly own
  new_freed d own h gone =
      let made = copy_region.made in
      let w = slice_get_within behind_copy d own h in
      let was = get_there old d (omega (arith, made, w)) in
      let sto : own.storage ≡ was.0.storage = sym (ap storage_of h) ∙ (copy_bytes.storages d ∙ ap storage_of was.1) in
      let life : own.life ≡ was.0.life = sym (ap life_of h) ∙ (copy_region.lives d ∙ ap life_of was.1) in
      sto ∙ sane.freed_rightly d was.0 was.1 (sym life ∙ gone)

  pub copied_sane : IsMemoryOf m bases naming behind_copy
  copied_sane = record {
    one = λ a b d base f older g h k u. sane.one a b d base f older g h (λ x. k (copy_region.lives a ∙ x)) (λ x. u (copy_region.lives b ∙ x));
    few = sane.few;
    made = λ d c g. let f = copy_region.made in let h = sane.made d c g in omega (arith, f, h);
    instances = new_instance;
    freed_rightly = new_freed;
    small = λ d. let f = copy_region.lengths d in let h = sane.small d in omega (arith, f, h);
    bytes = new_bytes;
    named = new_named;
    tags = new_tags;
  }
