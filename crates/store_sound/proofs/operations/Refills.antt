-- Memory whose bytes got other contents under their own tags, as by a store of a character, is sound.
use Rattle.std.proofs.Common.{◌≡◌, ℕ, zero, suc, ◌<◌, Option, Some, List, [], ◌∷◌, length, take, drop, arith, subst, sym, refl, ap, ◌∙◌, inl, inr, ◌⊎◌}
use Rattle.std.specs.Prelude.{slice_get, set}
use Rattle.std.proofs.lemmas.Bool.{cases_eq}
use Rattle.std.proofs.lemmas.List.{length-take, length-drop, length-append, length-set}
use Rattle.std.proofs.lemmas.Option.{same_Some, slice_get_within}
use Rattle.c_layout.specs.declared.data_model.Model.{Model}
use Rattle.c_layout.specs.declared.shapes.BaseInfo.{BaseInfo}
use Rattle.memory_model.specs.Memory.Labels.{Labels}
use Rattle.memory_model.specs.Memory.Bytes.{Content, number, Byte}
use Rattle.memory_model.specs.Memory.Instances.{Memory, Instance, bytes_of, byte_at, life_of}
use Rattle.memory_model.specs.Effects.ScalarBytes.{filled, refilled}
use Rattle.memory_model.specs.Effects.Touches.{storage_of, storage_at}
use Rattle.store_sound.specs.Concretization.ValueMeaning.{Naming}
use Rattle.store_sound.specs.Concretization.SoundMemory.{IsInstanceOf, IsFreedRightly, IsMemoryOf, IsContentIn, IsContentNamed}
use Rattle.store_sound.proofs.operations.Slices.{get_there, get_set_same, get_set_other}
use Rattle.store_sound.proofs.operations.MachineStores.{filled_length}
use Rattle.store_sound.proofs.operations.Frames.{IsAlike, pointer_in_moves}
use Rattle.store_sound.proofs.operations.StoreMemory.{content_in_moves, content_named_moves}

-- a byte as it was, or one with the tag that was there and one of the contents
pub record IsRefilled (was : Option Byte) (cs : List Content) (b : Byte) : Type 0 where
  pub old : Byte
  pub there : was ≡ Some old
  pub tag : b.tag ≡ old.tag
  pub content : (b ≡ old) ⊎ ((k : ℕ) × (slice_get cs k ≡ Some b.content))

filled_each : (bs : List Byte) (cs : List Content) (k : ℕ) (b : Byte) → slice_get (filled bs cs) k ≡ Some b → IsRefilled (slice_get bs k) cs b
filled_each [] [] k b e = cc
filled_each [] (c ∷ cs) k b e = cc
filled_each (x ∷ xs) [] k b e = record { old = b; there = e; tag = refl; content = inl refl }
filled_each (x ∷ xs) (c ∷ cs) zero b e =
    let y : Byte = record x { content = c } in
    let f : y ≡ b = same_Some y b e in
    record { old = x; there = refl; tag = sym (ap (λ z. z.tag) f); content = inr (0, ap (λ z. Some z.content) f) }
filled_each (x ∷ xs) (c ∷ cs) (suc k) b e =
    let r = filled_each xs cs k b e in
    record { old = r.old; there = r.there; tag = r.tag; content = elim r.content [ inl f ↦ inl f | inr f ↦ inr (suc f.0, f.1) ] }

refilled_each : (bytes : List Byte) (offset : ℕ) (cs : List Content) (o : ℕ) (b : Byte) → slice_get (refilled bytes offset cs) o ≡ Some b → IsRefilled (slice_get bytes o) cs b
refilled_each bytes zero cs o b e = filled_each bytes cs o b e
refilled_each [] (suc n) [] o b e = cc
refilled_each [] (suc n) (c ∷ cs) o b e = cc
refilled_each (x ∷ xs) (suc n) cs zero b e = record { old = b; there = e; tag = refl; content = inl refl }
refilled_each (x ∷ xs) (suc n) cs (suc o) b e = refilled_each xs n cs o b e

refilled_length : (bytes : List Byte) (offset : ℕ) (cs : List Content) → length (refilled bytes offset cs) ≡ length bytes
refilled_length bytes offset cs =
    let a = length-take offset bytes in
    let b = length-drop offset bytes in
    let c = filled_length (drop offset bytes) cs in
    let d = length-append (take offset bytes) (filled (drop offset bytes) cs) in
    omega arith

-- memory in which an instance has such bytes
pub record IsRefill (old new : Memory) (cs : List Content) : Type 0 where
  pub alike : IsAlike old new
  pub storages : (j : ℕ) → storage_at new j ≡ storage_at old j
  pub each : (j o : ℕ) (b : Byte) → byte_at new j o ≡ Some b → IsRefilled (byte_at old j o) cs b

module _ (old : Memory) (i offset : ℕ) (cs : List Content) (it : Instance) (at : slice_get old i ≡ Some it) where
  abbrev refreshed : Instance
  refreshed = record it { bytes = refilled it.bytes offset cs }

  by_instance : {X : Type 0} (f : Option Instance → X) → f (Some refreshed) ≡ f (Some it) → (j : ℕ) → f (slice_get (set old i refreshed) j) ≡ f (slice_get old j)
  by_instance f e j = elim (cases_eq j i) [
    | inl d ↦ subst (λ k. f (slice_get (set old i refreshed) k) ≡ f (slice_get old k)) (sym d) (ap f (get_set_same old i refreshed (slice_get_within old i it at)) ∙ (e ∙ sym (ap f at)))
    | inr n ↦ ap f (get_set_other old i j refreshed n)
  ]

  each_byte : (j o : ℕ) (b : Byte) → byte_at (set old i refreshed) j o ≡ Some b → IsRefilled (byte_at old j o) cs b
  unfolding byte_at
  each_byte j o b e = elim (cases_eq j i) [
    | inl d ↦ (let f : slice_get (bytes_of (slice_get (set old i refreshed) i)) o ≡ Some b = subst (λ k. slice_get (bytes_of (slice_get (set old i refreshed) k)) o ≡ Some b) d e in
        let g : slice_get (refilled it.bytes offset cs) o ≡ Some b = sym (ap (λ z. slice_get (bytes_of z) o) (get_set_same old i refreshed (slice_get_within old i it at))) ∙ f in
        subst (λ k. IsRefilled (slice_get (bytes_of (slice_get old k)) o) cs b) (sym d) (subst (λ z. IsRefilled (slice_get (bytes_of z) o) cs b) (sym at) (refilled_each it.bytes offset cs o b g)))
    | inr n ↦ record { old = b; there = sym (ap (λ z. slice_get (bytes_of z) o) (get_set_other old i j refreshed n)) ∙ e; tag = refl; content = inl refl }
  ]

  pub is_refill : IsRefill old (set old i (record it { bytes = refilled it.bytes offset cs })) cs
  is_refill = record {
    alike = record {
      lives = by_instance life_of refl;
      lengths = by_instance (λ o. length (bytes_of o)) (refilled_length it.bytes offset cs);
      made = length-set old i refreshed;
    };
    storages = by_instance storage_of refl;
    each = each_byte;
  }

module _ (m : Model) (bases : List BaseInfo) (naming : Naming) {old new : Memory} {cs : List Content} (s : IsRefill old new cs) (plain : (k : ℕ) (c : Content) → slice_get cs k ≡ Some c → (d : ℕ) × (labels : Labels) × (c ≡ number d labels) × (d < 256)) (sane : IsMemoryOf m bases naming old) where
  new_bytes : (j o : ℕ) (b : Byte) → byte_at new j o ≡ Some b → IsContentIn new b.content b.tag
  new_bytes j o b e =
      let r = s.each j o b e in
      elim r.content [
        | inl f ↦ content_in_moves (pointer_in_moves s.alike) b.content b.tag (subst (λ z. IsContentIn old z.content z.tag) (sym f) (sane.bytes j o r.old r.there))
        | inr f ↦ (let g = plain f.0 b.content f.1 in subst (λ z. IsContentIn new z b.tag) (sym g.2) g.3)
      ]

  new_named : (j d o : ℕ) (b : Byte) → naming j ≡ Some d → byte_at new j o ≡ Some b → IsContentNamed naming new b.content
  new_named j d o b named e =
      let r = s.each j o b e in
      elim r.content [
        | inl f ↦ content_named_moves naming old new s.alike.lives b.content (subst (λ z. IsContentNamed naming old z.content) (sym f) (sane.named j d o r.old named r.there))
        | inr f ↦ (let g = plain f.0 b.content f.1 in subst (IsContentNamed naming new) (sym g.2) tt)
      ]

  new_instance : (j d : ℕ) (base : BaseInfo) (it : Instance) → naming j ≡ Some d → slice_get bases d ≡ Some base → slice_get new j ≡ Some it → IsInstanceOf m base it
  unfolding byte_at
  new_instance j d base it named e at =
      let made = s.alike.made in
      let w = slice_get_within new j it at in
      let was = get_there old j (omega arith) in
      let k = sane.instances j d base was.0 named e was.1 in
      let sto : it.storage ≡ was.0.storage = sym (ap storage_of at) ∙ (s.storages j ∙ ap storage_of was.1) in
      let len : length it.bytes ≡ length was.0.bytes = sym (ap (λ z. length (bytes_of z)) at) ∙ (s.alike.lengths j ∙ ap (λ z. length (bytes_of z)) was.1) in
      record {
        storage = sto ∙ k.storage;
        size = λ h. len ∙ k.size h;
        tags = λ h o b f. let r = s.each j o b (ap (λ z. slice_get (bytes_of z) o) at ∙ f) in r.tag ∙ k.tags h o r.old (sym (ap (λ z. slice_get (bytes_of z) o) was.1) ∙ r.there);
      }

  new_freed : (j : ℕ) (it : Instance) → slice_get new j ≡ Some it → IsFreedRightly it
  new_freed j it at gone =
      let made = s.alike.made in
      let w = slice_get_within new j it at in
      let was = get_there old j (omega arith) in
      let sto : it.storage ≡ was.0.storage = sym (ap storage_of at) ∙ (s.storages j ∙ ap storage_of was.1) in
      let life : it.life ≡ was.0.life = sym (ap life_of at) ∙ (s.alike.lives j ∙ ap life_of was.1) in
      sto ∙ sane.freed_rightly j was.0 was.1 (sym life ∙ gone)

  pub refill_sane : IsMemoryOf m bases naming new
  refill_sane = record {
    one = λ a b d base e older f g h k. sane.one a b d base e older f g (λ x. h (s.alike.lives a ∙ x)) (λ x. k (s.alike.lives b ∙ x));
    few = sane.few;
    made = λ j d g. let e = s.alike.made in let f = sane.made j d g in omega arith;
    instances = new_instance;
    freed_rightly = new_freed;
    small = λ j. let e = s.alike.lengths j in let f = sane.small j in omega arith;
    bytes = new_bytes;
    named = new_named;
    tags = λ j o b t e f. let r = s.each j o b e in sane.tags j o r.old t r.there (sym r.tag ∙ f);
  }
