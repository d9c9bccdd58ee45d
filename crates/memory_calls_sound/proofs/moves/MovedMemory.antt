-- Memory behind a copy of bytes: contents come over, and tags too where the destination is allocated.
use Rattle.std.proofs.Common.{◌≡◌, ℕ, zero, suc, ◌+◌, ◌-◌, ◌<◌, ◌≤◌, Bool, true, false, cond, ◌||◌, Option, Some, None, List, [], ◌∷◌, ◌++◌, length, take, drop, arith, subst, sym, refl, ap, ◌∙◌, inl, inr, ◌⊎◌}
use Rattle.std.specs.Prelude.{slice_get, set, ◌==◌}
use Rattle.std.proofs.lemmas.Bool.{cases_eq, cases_lt, and_parts, eqb-true}
use Rattle.std.proofs.lemmas.List.{length-take, length-drop, length-append, length-set}
use Rattle.std.proofs.lemmas.Option.{same_Some, slice_get_within}
use Rattle.c_layout.specs.declared.data_model.Model.{Model}
use Rattle.c_layout.specs.declared.leaf_lists.Class.TheVariants.{Pointer}
use Rattle.c_layout.specs.declared.shapes.BaseInfo.{BaseInfo}
use Rattle.memory_model.specs.Memory.ScalarSizes.{class_bytes, same_class}
use Rattle.memory_model.specs.Memory.Bytes.{Content, indeterminate, number, part, Tag, Byte}
use Rattle.memory_model.specs.Memory.Instances.{Memory, Instance, bytes_of, bytes_at, byte_at, life_of}
use Rattle.memory_model.specs.Memory.Tags.{tag_of}
use Rattle.memory_model.specs.Effects.MemoryCalls.{is_pointer_byte, may_come, may_all_come, come_over}
use Rattle.memory_model.specs.Effects.ScalarBytes.{replaced, region}
use Rattle.memory_model.specs.Effects.Touches.{is_allocated, storage_of, storage_at, set_bytes}
use Rattle.store_sound.specs.Concretization.SoundMemory.{IsInstanceOf, IsFreedRightly, IsMemoryOf, IsContentIn, IsContentNamed}
use Rattle.store_sound.specs.Concretization.ValueMeaning.{Naming}
use Rattle.store_sound.specs.Operations.Shapes.{AreShaped}
use Rattle.store_sound.proofs.operations.Classes.{same_class_is}
use Rattle.store_sound.proofs.operations.Frames.{IsAlike, pointer_in_moves, in_or_out}
use Rattle.store_sound.proofs.operations.MachineStores.{front_at, back_at, set_is}
use Rattle.store_sound.proofs.operations.Reading.{region_at, region_length}
use Rattle.store_sound.proofs.operations.Slices.{get_drop, get_left, get_right, get_there, get_set_same, get_set_other}
use Rattle.store_sound.proofs.operations.StoreMemory.{content_in_moves, content_named_moves}
use Rattle.store_sound.specs.Regions.RegionWrites.{IsRegion}
use Rattle.store_sound.proofs.regions.Regions.{alike_region}

-- ---- bytes in the place of others

-- bytes of an instance stand in the place of others
pub record IsReplaced (old new : Memory) (i offset : ℕ) (bytes : List Byte) : Type 0 where
  pub region : IsRegion old new i offset (length bytes)
  pub storages : (j : ℕ) → storage_at new j ≡ storage_at old j
  pub inside : (k : ℕ) (b : Byte) → slice_get bytes k ≡ Some b → byte_at new i (offset + k) ≡ Some b

module _ (old : List Byte) (offset : ℕ) (bytes : List Byte) (fits : offset + length bytes ≤ length old) where
  replaced_length : length (replaced old offset bytes) ≡ length old
  replaced_length =
      let a = length-take offset old in
      let b = length-drop (offset + length bytes) old in
      let c = length-append bytes (drop (offset + length bytes) old) in
      let d = length-append (take offset old) (bytes ++ drop (offset + length bytes) old) in
      omega (arith, a, b, c, d, fits)

  replaced_outside : (x : ℕ) → (offset ≤ x → x < offset + length bytes → ⊥) → slice_get (replaced old offset bytes) x ≡ slice_get old x
  replaced_outside x none = elim (cases_lt x offset) [
    | inl f ↦ front_at offset old (bytes ++ drop (offset + length bytes) old) x (omega (arith, fits)) f
    | inr f ↦ (let u : offset + length bytes ≤ x = elim (cases_lt x (offset + length bytes)) [ inl z ↦ absurd (none f z) | inr z ↦ z ] in
        back_at offset old (bytes ++ drop (offset + length bytes) old) x (x - offset) (omega (arith, fits)) (omega (arith, f))
        ∙ (get_right bytes (drop (offset + length bytes) old) (x - offset) ((x - offset) - length bytes) (omega (arith, u))
        ∙ get_drop (offset + length bytes) old ((x - offset) - length bytes) x (omega (arith, u))))
  ]

  replaced_inside : (k : ℕ) (b : Byte) → slice_get bytes k ≡ Some b → slice_get (replaced old offset bytes) (offset + k) ≡ Some b
  replaced_inside k b e =
      let w = slice_get_within bytes k b e in
      back_at offset old (bytes ++ drop (offset + length bytes) old) (offset + k) k (omega (arith, fits)) refl
      ∙ (get_left bytes (drop (offset + length bytes) old) k w ∙ e)

module _ (old : Memory) (i offset : ℕ) (bytes : List Byte) (it : Instance) (at : slice_get old i ≡ Some it) (fits : offset + length bytes ≤ length (bytes_at old i)) where
  abbrev fresh : Instance
  fresh = record it { bytes = replaced it.bytes offset bytes }

  long : offset + length bytes ≤ length it.bytes
  long = subst (λ z. offset + length bytes ≤ length (bytes_of z)) at fits

  new_is : slice_get (set old i fresh) i ≡ Some fresh
  new_is = get_set_same old i fresh (slice_get_within old i it at)

  by_instance : {X : Type 0} (f : Option Instance → X) → f (Some fresh) ≡ f (Some it) → (j : ℕ) → f (slice_get (set old i fresh) j) ≡ f (slice_get old j)
  by_instance f e j = elim (cases_eq j i) [
    | inl d ↦ subst (λ k. f (slice_get (set old i fresh) k) ≡ f (slice_get old k)) (sym d) (ap f new_is ∙ (e ∙ sym (ap f at)))
    | inr n ↦ ap f (get_set_other old i j fresh n)
  ]

  other_byte : (j x : ℕ) → (j ≡ i → offset ≤ x → x < offset + length bytes → ⊥) → byte_at (set old i fresh) j x ≡ byte_at old j x
  unfolding byte_at
  other_byte j x none = elim (cases_eq j i) [
    | inl d ↦ subst (λ k. slice_get (bytes_of (slice_get (set old i fresh) k)) x ≡ slice_get (bytes_of (slice_get old k)) x) (sym d)
        (ap (λ z. slice_get (bytes_of z) x) new_is ∙ (replaced_outside it.bytes offset bytes long x (none d) ∙ sym (ap (λ z. slice_get (bytes_of z) x) at)))
    | inr e ↦ ap (λ z. slice_get (bytes_of z) x) (get_set_other old i j fresh e)
  ]

  own_byte : (k : ℕ) (b : Byte) → slice_get bytes k ≡ Some b → byte_at (set old i fresh) i (offset + k) ≡ Some b
  unfolding byte_at
  own_byte k b e = ap (λ z. slice_get (bytes_of z) (offset + k)) new_is ∙ replaced_inside it.bytes offset bytes long k b e

  is_replaced : IsReplaced old (set old i fresh) i offset bytes
  is_replaced = record {
    region = record {
      lives = by_instance life_of refl;
      lengths = by_instance (λ z. length (bytes_of z)) (replaced_length it.bytes offset bytes long);
      made = length-set old i fresh;
      fits = fits;
      outside = other_byte;
    };
    storages = by_instance storage_of refl;
    inside = own_byte;
  }

  pub bytes_replaced : IsReplaced old (set_bytes old i (replaced (bytes_at old i) offset bytes)) i offset bytes
  bytes_replaced =
      let e : set_bytes old i (replaced (bytes_at old i) offset bytes) ≡ set old i fresh = ap (λ z. set_bytes old i (replaced (bytes_of z) offset bytes)) at ∙ set_is old i it (replaced it.bytes offset bytes) at in
      subst (λ z. IsReplaced old z i offset bytes) (sym e) is_replaced

-- a byte of the region
pub replaced_byte : {old new : Memory} {i offset : ℕ} {bytes : List Byte} → IsReplaced old new i offset bytes → (x : ℕ) (b : Byte) → offset ≤ x → x < offset + length bytes → byte_at new i x ≡ Some b → slice_get bytes (x - offset) ≡ Some b
replaced_byte {old} {new} {i} {offset} {bytes} s x b from to e =
    let k : ℕ = x - offset in
    let c = get_there bytes k (omega (arith, from, to)) in
    let same : offset + k ≡ x = omega (arith, from) in
    c.1 ∙ (sym (s.inside k c.0 c.1) ∙ (ap (byte_at new i) same ∙ e))

-- ---- bytes that come over

-- a content from the source, under the tag of the source or the one that was there
pub record CameOver (allocated : Bool) (to from : Option Byte) (b : Byte) : Type 0 where
  pub was : Byte
  pub source : Byte
  pub there : to ≡ Some was
  pub here : from ≡ Some source
  pub content : b.content ≡ source.content
  pub tag : b.tag ≡ cond allocated source.tag was.tag

pub came_over : (allocated : Bool) (tos froms : List Byte) → length tos ≡ length froms → (k : ℕ) (b : Byte) → slice_get (come_over allocated tos froms) k ≡ Some b → CameOver allocated (slice_get tos k) (slice_get froms k) b
came_over true tos froms h k b e = let w = slice_get_within froms k b e in let t = get_there tos k (omega (arith, h, w)) in record { was = t.0; source = b; there = t.1; here = e; content = refl; tag = refl }
came_over false [] [] h k b e = cc
came_over false [] (f ∷ fs) h k b e = absurd (omega (arith, h))
came_over false (t ∷ ts) [] h k b e = absurd (omega (arith, h))
came_over false (t ∷ ts) (f ∷ fs) h zero b e =
    let y : Byte = record t { content = f.content } in
    let d : y ≡ b = same_Some y b e in
    record { was = t; source = f; there = refl; here = refl; content = sym (ap (λ z. z.content) d); tag = sym (ap (λ z. z.tag) d) }
came_over false (t ∷ ts) (f ∷ fs) h (suc k) b e =
    let r = came_over false ts fs (omega (arith, h)) k b e in
    record { was = r.was; source = r.source; there = r.there; here = r.here; content = r.content; tag = r.tag }

pub come_long : (allocated : Bool) (tos froms : List Byte) → length tos ≡ length froms → length (come_over allocated tos froms) ≡ length froms
come_long true tos froms h = refl
come_long false [] [] h = refl
come_long false [] (f ∷ fs) h = absurd (omega (arith, h))
come_long false (t ∷ ts) [] h = absurd (omega (arith, h))
come_long false (t ∷ ts) (f ∷ fs) h = ap suc (come_long false ts fs (omega (arith, h)))

come_at : (tos froms : List Byte) (k : ℕ) (t f : Byte) → may_all_come tos froms ≡ true → slice_get tos k ≡ Some t → slice_get froms k ≡ Some f → may_come f.content t.tag ≡ true
come_at [] froms k t f h d e = cc
come_at (x ∷ xs) [] k t f h d e = cc
come_at (x ∷ xs) (y ∷ ys) zero t f h d e =
    let a : x ≡ t = same_Some x t d in
    let b : y ≡ f = same_Some y f e in
    subst (λ z. may_come z.content t.tag ≡ true) b (subst (λ z. may_come y.content z.tag ≡ true) a (and_parts (may_come y.content x.tag) (may_all_come xs ys) h).0)
come_at (x ∷ xs) (y ∷ ys) (suc k) t f h d e = come_at xs ys k t f (and_parts (may_come y.content x.tag) (may_all_come xs ys) h).1 d e

pointer_tag : (tag : Option Tag) (k : ℕ) → is_pointer_byte tag k ≡ true → tag ≡ tag_of Pointer k
pointer_tag None k h = cc
pointer_tag (Some t) k h =
    let p = and_parts (same_class t.class Pointer) (t.at == k) h in
    let a = same_class_is t.class Pointer p.0 in
    let b = eqb-true t.at k p.1 in
    λ i. Some (record { class = a i; at = b i })

-- what may come is sound under the tag that is there
may_stand : (memory : Memory) (c : Content) (from to : Option Tag) → may_come c to ≡ true → IsContentIn memory c from → IsContentIn memory c to
may_stand memory indeterminate from to m h = tt
may_stand memory (number k labels) from to m h = h
may_stand memory (part p k) from to m h = (h.0, pointer_tag to k m)

-- ---- memory is sound

module _ (m : Model) (bases : List BaseInfo) (shaped : AreShaped bases) (naming : Naming) (old : Memory) (sane : IsMemoryOf m bases naming old) (i offset j at size : ℕ) (it : Instance) (here : slice_get old i ≡ Some it) (fits : offset + size ≤ length (bytes_at old i)) (source_fits : at + size ≤ length (bytes_at old j)) (e : ℕ) (named : naming j ≡ Some e)
    (may : (is_allocated (storage_at old i) || may_all_come (region (bytes_at old i) offset size) (region (bytes_at old j) at size)) ≡ true) where
  abbrev tos : List Byte
  tos = region (bytes_at old i) offset size

  abbrev froms : List Byte
  froms = region (bytes_at old j) at size

  abbrev pub bytes_moved : List Byte
  bytes_moved = come_over (is_allocated (storage_at old i)) (region (bytes_at old i) offset size) (region (bytes_at old j) at size)

  abbrev pub moved : Memory
  moved = set_bytes old i (replaced (bytes_at old i) offset (come_over (is_allocated (storage_at old i)) (region (bytes_at old i) offset size) (region (bytes_at old j) at size)))

  same_long : length tos ≡ length froms
  same_long = region_length (bytes_at old i) offset size fits ∙ sym (region_length (bytes_at old j) at size source_fits)

  pub moved_long : length bytes_moved ≡ size
  moved_long = come_long (is_allocated (storage_at old i)) tos froms same_long ∙ region_length (bytes_at old j) at size source_fits

  moved_fits : offset + length bytes_moved ≤ length (bytes_at old i)
  moved_fits = let g = moved_long in omega (arith, g, fits)

  pub moved_bytes : IsReplaced old moved i offset bytes_moved
  moved_bytes = bytes_replaced old i offset bytes_moved it here moved_fits

  pub moved_region : IsRegion old moved i offset size
  moved_region = subst (IsRegion old moved i offset) moved_long moved_bytes.region

  -- a byte of the region, and where it comes from
  pub record IsMoved (x : ℕ) (b : Byte) : Type 0 where
    pub was : Byte
    pub source : Byte
    pub there : byte_at old i x ≡ Some was
    pub from : byte_at old j (at + (x - offset)) ≡ Some source
    pub content : b.content ≡ source.content
    pub tag : b.tag ≡ cond (is_allocated (storage_at old i)) source.tag was.tag
    pub sound : IsContentIn old b.content b.tag

  pub moved_byte : (x : ℕ) (b : Byte) → offset ≤ x → x < offset + size → byte_at moved i x ≡ Some b → IsMoved x b
  unfolding byte_at
  moved_byte x b from to f =
      let long = moved_long in
      let g = replaced_byte moved_bytes x b from (omega (arith, to, long)) f in
      let r = came_over (is_allocated (storage_at old i)) tos froms same_long (x - offset) b g in
      let t = region_at (bytes_at old i) offset size (x - offset) x r.was r.there (omega (arith, from)) in
      let s = region_at (bytes_at old j) at size (x - offset) (at + (x - offset)) r.source r.here refl in
      let sound_at = sane.bytes j (at + (x - offset)) r.source s.1 in
      record {
        was = r.was;
        source = r.source;
        there = t.1;
        from = s.1;
        content = r.content;
        tag = r.tag;
        sound = subst (λ z. IsContentIn old z b.tag) (sym r.content) (subst (IsContentIn old r.source.content) (sym r.tag)
            (by_storage (is_allocated (storage_at old i)) may r.source r.was r.here r.there sound_at));
      }
    where
      by_storage : (a : Bool) → (a || may_all_come tos froms) ≡ true → (y z : Byte) → slice_get froms (x - offset) ≡ Some y → slice_get tos (x - offset) ≡ Some z → IsContentIn old y.content y.tag → IsContentIn old y.content (cond a y.tag z.tag)
      by_storage true h y z d g k = k
      by_storage false h y z d g k = may_stand old y.content y.tag z.tag (come_at tos froms (x - offset) z y h g d) k

  -- a byte of all memory
  new_byte : (d x : ℕ) (b : Byte) → byte_at moved d x ≡ Some b → ((d ≡ i) × IsMoved x b) ⊎ (byte_at old d x ≡ Some b)
  new_byte d x b f = elim (in_or_out d i x offset size) [
    | inr out ↦ inr (sym (moved_region.outside d x out) ∙ f)
    | inl r ↦ inl (r.0, moved_byte x b r.1 r.2 (subst (λ z. byte_at moved z x ≡ Some b) r.0 f))
  ]

  alike_moved : IsAlike old moved
  alike_moved = alike_region moved_region

  new_bytes : (d x : ℕ) (b : Byte) → byte_at moved d x ≡ Some b → IsContentIn moved b.content b.tag
  new_bytes d x b f = elim (new_byte d x b f) [
    | inr g ↦ content_in_moves (pointer_in_moves alike_moved) b.content b.tag (sane.bytes d x b g)
    | inl r ↦ content_in_moves (pointer_in_moves alike_moved) b.content b.tag r.1.sound
  ]

  new_named : (d c x : ℕ) (b : Byte) → naming d ≡ Some c → byte_at moved d x ≡ Some b → IsContentNamed naming moved b.content
  new_named d c x b own f = elim (new_byte d x b f) [
    | inr g ↦ content_named_moves naming old moved moved_region.lives b.content (sane.named d c x b own g)
    | inl r ↦ content_named_moves naming old moved moved_region.lives b.content (subst (IsContentNamed naming old) (sym r.1.content) (sane.named j e (at + (x - offset)) r.1.source named r.1.from))
  ]

  new_tags : (d x : ℕ) (b : Byte) (t : Tag) → byte_at moved d x ≡ Some b → b.tag ≡ Some t → t.at < class_bytes m t.class
  new_tags d x b t f g = elim (new_byte d x b f) [
    | inr h ↦ sane.tags d x b t h g
    | inl r ↦ by_storage (is_allocated (storage_at old i)) r.1.source r.1.was (sym r.1.tag ∙ g) r.1.from r.1.there
  ]
    where
      by_storage : (a : Bool) (y z : Byte) → cond a y.tag z.tag ≡ Some t → byte_at old j (at + (x - offset)) ≡ Some y → byte_at old i x ≡ Some z → t.at < class_bytes m t.class
      by_storage true y z h k u = sane.tags j (at + (x - offset)) y t k h
      by_storage false y z h k u = sane.tags i x z t u h

  -- an object's storage is not allocated
  object_storage : (d c : ℕ) (base : BaseInfo) (own : Instance) → slice_get bases c ≡ Some base → naming d ≡ Some c → slice_get old d ≡ Some own → base.shape.heap ≡ false → is_allocated (storage_at old d) ≡ false
  object_storage d c base own f g h heap =
      let k = sane.instances d c base own g f h in
      ap (λ z. is_allocated (storage_of z)) h ∙ (ap is_allocated k.storage ∙ ((shaped.each c base f).kind ∙ heap))

  new_instance : (d c : ℕ) (base : BaseInfo) (own : Instance) → naming d ≡ Some c → slice_get bases c ≡ Some base → slice_get moved d ≡ Some own → IsInstanceOf m base own
  unfolding byte_at
  new_instance d c base own f g h =
      let made = moved_region.made in
      let w = slice_get_within moved d own h in
      let was = get_there old d (omega (arith, made, w)) in
      let k = sane.instances d c base was.0 f g was.1 in
      let sto : own.storage ≡ was.0.storage = sym (ap storage_of h) ∙ (moved_bytes.storages d ∙ ap storage_of was.1) in
      let len : length own.bytes ≡ length was.0.bytes = sym (ap (λ z. length (bytes_of z)) h) ∙ (moved_region.lengths d ∙ ap (λ z. length (bytes_of z)) was.1) in
      record {
        storage = sto ∙ k.storage;
        size = λ heap. len ∙ k.size heap;
        tags = λ heap x b u. elim (new_byte d x b (ap (λ z. slice_get (bytes_of z) x) h ∙ u)) [
          | inr v ↦ k.tags heap x b (sym (ap (λ z. slice_get (bytes_of z) x) was.1) ∙ v)
          | inl r ↦ (let plain : is_allocated (storage_at old i) ≡ false = subst (λ z. is_allocated (storage_at old z) ≡ false) r.0 (object_storage d c base was.0 g f was.1 heap) in
              let v : slice_get (bytes_at old d) x ≡ Some r.1.was = subst (λ z. slice_get (bytes_at old z) x ≡ Some r.1.was) (sym r.0) r.1.there in
              (r.1.tag ∙ ap (λ z. cond z r.1.source.tag r.1.was.tag) plain) ∙ k.tags heap x r.1.was (sym (ap (λ z. slice_get (bytes_of z) x) was.1) ∙ v))
        ];
      }

  new_freed : (d : ℕ) (own : Instance) → slice_get moved d ≡ Some own → IsFreedRightly own
  new_freed d own h gone =
      let made = moved_region.made in
      let w = slice_get_within moved d own h in
      let was = get_there old d (omega (arith, made, w)) in
      let sto : own.storage ≡ was.0.storage = sym (ap storage_of h) ∙ (moved_bytes.storages d ∙ ap storage_of was.1) in
      let life : own.life ≡ was.0.life = sym (ap life_of h) ∙ (moved_region.lives d ∙ ap life_of was.1) in
      sto ∙ sane.freed_rightly d was.0 was.1 (sym life ∙ gone)

  pub moved_sane : IsMemoryOf m bases naming moved
  moved_sane = record {
    one = λ a b d base f older g h k u. sane.one a b d base f older g h (λ x. k (moved_region.lives a ∙ x)) (λ x. u (moved_region.lives b ∙ x));
    few = sane.few;
    made = λ d c g. let f = moved_region.made in let h = sane.made d c g in omega (arith, f, h);
    instances = new_instance;
    freed_rightly = new_freed;
    small = λ d. let f = moved_region.lengths d in let h = sane.small d in omega (arith, f, h);
    bytes = new_bytes;
    named = new_named;
    tags = new_tags;
  }
