-- Memory in which the bytes of one instance got other contents, under the tags that were there.
use Rattle.std.proofs.Common.{◌≡◌, ℕ, Option, Some, List, length, arith, subst, sym, refl, ap, ◌∙◌, inl, inr}
use Rattle.std.specs.Prelude.{slice_get, set}
use Rattle.std.proofs.lemmas.Bool.{cases_eq}
use Rattle.std.proofs.lemmas.List.{length-set}
use Rattle.std.proofs.lemmas.Option.{slice_get_within}
use Rattle.c_layout.specs.declared.data_model.Model.{Model}
use Rattle.c_layout.specs.declared.shapes.BaseInfo.{BaseInfo}
use Rattle.memory_model.specs.Memory.Bytes.{Byte}
use Rattle.memory_model.specs.Memory.Instances.{Memory, Instance, bytes_of, bytes_at, byte_at, life_of}
use Rattle.memory_model.specs.Effects.Touches.{storage_of, storage_at, set_bytes}
use Rattle.store_sound.specs.Concretization.ValueMeaning.{Naming}
use Rattle.store_sound.specs.Concretization.SoundMemory.{IsInstanceOf, IsFreedRightly, IsMemoryOf, IsContentIn, IsContentNamed}
use Rattle.store_sound.proofs.operations.Slices.{get_there, get_set_same, get_set_other}
use Rattle.store_sound.proofs.operations.MachineStores.{set_is}
use Rattle.store_sound.proofs.operations.Frames.{IsAlike, pointer_in_moves}
use Rattle.store_sound.proofs.operations.StoreMemory.{content_in_moves, content_named_moves}

-- a byte of the instance, with the one that was there
pub record HasWas (was : Option Byte) (b : Byte) : Type 0 where
  pub old : Byte
  pub there : was ≡ Some old
  pub tag : b.tag ≡ old.tag

pub record IsRewrite (old new : Memory) (i : ℕ) : Type 0 where
  pub alike : IsAlike old new
  pub storages : (j : ℕ) → storage_at new j ≡ storage_at old j
  pub others : (j o : ℕ) → (j ≡ i → ⊥) → byte_at new j o ≡ byte_at old j o
  pub own : (o : ℕ) (b : Byte) → byte_at new i o ≡ Some b → HasWas (byte_at old i o) b

-- lists of bytes with the same tags
pub record HaveTags (old new : List Byte) : Type 0 where
  pub long : length new ≡ length old
  pub each : (o : ℕ) (b : Byte) → slice_get new o ≡ Some b → HasWas (slice_get old o) b

module _ (old : Memory) (i : ℕ) (it : Instance) (at : slice_get old i ≡ Some it) (bytes : List Byte) (tags : HaveTags it.bytes bytes) where
  abbrev rewritten : Instance
  rewritten = record it { bytes = bytes }

  abbrev after : Memory
  after = set old i rewritten

  by_instance : {X : Type 0} (f : Option Instance → X) → f (Some rewritten) ≡ f (Some it) → (j : ℕ) → f (slice_get after j) ≡ f (slice_get old j)
  by_instance f e j = elim (cases_eq j i) [
    | inl d ↦ subst (λ k. f (slice_get after k) ≡ f (slice_get old k)) (sym d) (ap f (get_set_same old i rewritten (slice_get_within old i it at)) ∙ (e ∙ sym (ap f at)))
    | inr n ↦ ap f (get_set_other old i j rewritten n)
  ]

  pub bytes_are : bytes_at after i ≡ bytes
  bytes_are = ap bytes_of (get_set_same old i rewritten (slice_get_within old i it at))

  own_byte : (o : ℕ) (b : Byte) → byte_at after i o ≡ Some b → HasWas (byte_at old i o) b
  unfolding byte_at
  own_byte o b e = subst (λ z. HasWas (slice_get (bytes_of z) o) b) (sym at) (tags.each o b (sym (ap (λ z. slice_get z o) bytes_are) ∙ e))

  other_byte : (j o : ℕ) → (j ≡ i → ⊥) → byte_at after j o ≡ byte_at old j o
  unfolding byte_at
  other_byte j o n = ap (λ z. slice_get (bytes_of z) o) (get_set_other old i j rewritten n)

  is_rewrite : IsRewrite old after i
  is_rewrite = record {
    alike = record {
      lives = by_instance life_of refl;
      lengths = by_instance (λ o. length (bytes_of o)) tags.long;
      made = length-set old i rewritten;
    };
    storages = by_instance storage_of refl;
    others = other_byte;
    own = own_byte;
  }

-- bytes that are set in an instance
pub record IsSet (old : Memory) (i : ℕ) (bytes : List Byte) : Type 0 where
  pub rewrite : IsRewrite old (set_bytes old i bytes) i
  pub are : bytes_at (set_bytes old i bytes) i ≡ bytes

pub set_rewrites : (old : Memory) (i : ℕ) (it : Instance) (at : slice_get old i ≡ Some it) (bytes : List Byte) → HaveTags it.bytes bytes → IsSet old i bytes
set_rewrites old i it at bytes tags =
    let e = set_is old i it bytes at in
    record {
      rewrite = subst (λ z. IsRewrite old z i) (sym e) (is_rewrite old i it at bytes tags);
      are = ap (λ z. bytes_at z i) e ∙ bytes_are old i it at bytes tags;
    }

-- ---- memory stays sound

module _ (m : Model) (bases : List BaseInfo) (naming : Naming) {old new : Memory} {i : ℕ} (s : IsRewrite old new i) (sane : IsMemoryOf m bases naming old) (valid : (o : ℕ) (b : Byte) → byte_at new i o ≡ Some b → IsContentIn new b.content b.tag × IsContentNamed naming new b.content) where
  new_bytes : (j o : ℕ) (b : Byte) → byte_at new j o ≡ Some b → IsContentIn new b.content b.tag
  new_bytes j o b e = elim (cases_eq j i) [
    | inl d ↦ (valid o b (subst (λ z. byte_at new z o ≡ Some b) d e)).0
    | inr n ↦ content_in_moves (pointer_in_moves s.alike) b.content b.tag (sane.bytes j o b (sym (s.others j o n) ∙ e))
  ]

  new_named : (j d o : ℕ) (b : Byte) → naming j ≡ Some d → byte_at new j o ≡ Some b → IsContentNamed naming new b.content
  new_named j d o b named e = elim (cases_eq j i) [
    | inl f ↦ (valid o b (subst (λ z. byte_at new z o ≡ Some b) f e)).1
    | inr n ↦ content_named_moves naming old new s.alike.lives b.content (sane.named j d o b named (sym (s.others j o n) ∙ e))
  ]

  was_byte : (j o : ℕ) (b : Byte) → byte_at new j o ≡ Some b → HasWas (byte_at old j o) b
  was_byte j o b e = elim (cases_eq j i) [
    | inl d ↦ subst (λ z. HasWas (byte_at old z o) b) (sym d) (s.own o b (subst (λ z. byte_at new z o ≡ Some b) d e))
    | inr n ↦ record { old = b; there = sym (s.others j o n) ∙ e; tag = refl }
  ]

  new_instance : (j d : ℕ) (base : BaseInfo) (it : Instance) → naming j ≡ Some d → slice_get bases d ≡ Some base → slice_get new j ≡ Some it → IsInstanceOf m base it
  unfolding byte_at
  new_instance j d base it named e at =
      let made = s.alike.made in
      let w = slice_get_within new j it at in
      let was = get_there old j (omega (arith, made, w)) in
      let k = sane.instances j d base was.0 named e was.1 in
      let sto : it.storage ≡ was.0.storage = sym (ap storage_of at) ∙ (s.storages j ∙ ap storage_of was.1) in
      let len : length it.bytes ≡ length was.0.bytes = sym (ap (λ z. length (bytes_of z)) at) ∙ (s.alike.lengths j ∙ ap (λ z. length (bytes_of z)) was.1) in
      record {
        storage = sto ∙ k.storage;
        size = λ h. len ∙ k.size h;
        tags = λ h o b f. let r = was_byte j o b (ap (λ z. slice_get (bytes_of z) o) at ∙ f) in r.tag ∙ k.tags h o r.old (sym (ap (λ z. slice_get (bytes_of z) o) was.1) ∙ r.there);
      }

  new_freed : (j : ℕ) (it : Instance) → slice_get new j ≡ Some it → IsFreedRightly it
  new_freed j it at gone =
      let made = s.alike.made in
      let w = slice_get_within new j it at in
      let was = get_there old j (omega (arith, made, w)) in
      let sto : it.storage ≡ was.0.storage = sym (ap storage_of at) ∙ (s.storages j ∙ ap storage_of was.1) in
      let life : it.life ≡ was.0.life = sym (ap life_of at) ∙ (s.alike.lives j ∙ ap life_of was.1) in
      sto ∙ sane.freed_rightly j was.0 was.1 (sym life ∙ gone)

  pub rewrite_sane : IsMemoryOf m bases naming new
  rewrite_sane = record {
    one = λ a b d base e older f g h k. sane.one a b d base e older f g (λ x. h (s.alike.lives a ∙ x)) (λ x. k (s.alike.lives b ∙ x));
    few = sane.few;
    made = λ j d g. let e = s.alike.made in let f = sane.made j d g in omega (arith, e, f);
    instances = new_instance;
    freed_rightly = new_freed;
    small = λ j. let e = s.alike.lengths j in let f = sane.small j in omega (arith, e, f);
    bytes = new_bytes;
    named = new_named;
    tags = λ j o b tag e t. let r = was_byte j o b e in sane.tags j o r.old tag r.there (sym r.tag ∙ t);
  }
