-- Memory is sound behind a store of a class other than char.
use Rattle.std.proofs.Common.{◌≡◌, ℕ, ◌+◌, ◌-◌, ◌<◌, false, Option, Some, List, length, arith, subst, sym, refl, ap, ◌∙◌, inl, inr, ◌⊎◌}
use Rattle.std.specs.Prelude.{slice_get}
use Rattle.std.proofs.lemmas.Bool.{true≢false}
use Rattle.std.proofs.lemmas.Option.{same_Some, slice_get_within}
use Rattle.c_layout.specs.declared.data_model.Model.{Model}
use Rattle.c_layout.specs.declared.leaf_lists.Class.TheVariants.{Pointer}
use Rattle.c_layout.specs.declared.shapes.BaseInfo.{BaseInfo}
use Rattle.cfg.specs.declared.machine_instructions.Scalar.TheVariants as of
use Rattle.cfg.specs.declared.machine_instructions.Scalar as declared
use Rattle.memory_model.specs.Memory.ScalarSizes.{class_bytes}
use Rattle.memory_model.specs.Memory.Bytes.{MachinePointer, null, into, Content, indeterminate, number, part, Tag, Byte}
use Rattle.memory_model.specs.Memory.Instances.{Memory, Instance, bytes_of, bytes_at, byte_at, life_of, life_at}
use Rattle.memory_model.specs.Memory.Tags.{tag_of}
use Rattle.memory_model.specs.Memory.Scalars.{Scalar, integer, pointer}
use Rattle.store_sound.specs.Concretization.ValueMeaning.{Naming}
use Rattle.store_sound.specs.Concretization.SoundMemory.{IsInstanceOf, IsFreedRightly, IsMemoryOf, IsPointerIn, IsScalarIn, IsContentIn, IsContentNamed}
use Rattle.memory_model.specs.Effects.ScalarBytes.{scalar_bytes, bits_in}
use Rattle.memory_model.specs.Effects.Touches.{is_allocated, storage_of, storage_at}
use Rattle.memory_model.specs.Effects.Accesses.{class_in}
use Rattle.memory_model.specs.Memory.Labels.{no_labels}
use Rattle.store_sound.specs.Operations.Shapes.{AreShaped}
use Rattle.store_sound.specs.Operations.Scalars.{IsOfKind, IsScalarNamed}
use Rattle.store_sound.proofs.operations.Slices.{get_there}
use Rattle.store_sound.proofs.operations.MachineStores.{IsStore}
use Rattle.store_sound.proofs.operations.Frames.{alike, in_or_out, pointer_in_moves}
use Rattle.store_sound.proofs.operations.Fresh.{number_content, part_content}

pub content_in_moves : {old new : Memory} → ((p : MachinePointer) → IsPointerIn old p → IsPointerIn new p) → (c : Content) (t : Option Tag) → IsContentIn old c t → IsContentIn new c t
content_in_moves f indeterminate t h = h
content_in_moves f (number n labels) t h = h
content_in_moves f (part p k) t h = (f p h.0, h.1)

-- a content names nothing that memory with the same lives does not name
pub content_named_moves : (naming : Naming) (old new : Memory) → ((j : ℕ) → life_at new j ≡ life_at old j) → (c : Content) → IsContentNamed naming old c → IsContentNamed naming new c
content_named_moves naming old new f indeterminate h = h
content_named_moves naming old new f (number n labels) h = h
content_named_moves naming old new f (part null k) h = h
content_named_moves naming old new f (part (into i offset lo hi) k) h = λ e. h (λ g. e (f i ∙ g))

named_content : (naming : Naming) (old : Memory) (size : ℕ) (v : Scalar) → IsScalarNamed naming old v → (k : ℕ) (c : Content) → slice_get (scalar_bytes size v) k ≡ Some c → IsContentNamed naming old c
named_content naming old size (integer n labels) h k c e = let r = number_content size (bits_in size n) labels k c e in subst (IsContentNamed naming old) (sym r.1) tt
named_content naming old size (pointer null) h k c e = let r = number_content size 0 no_labels k c e in subst (IsContentNamed naming old) (sym r.1) tt
named_content naming old size (pointer (into j o lo hi)) h k c e = let r = part_content (into j o lo hi) 0 size k k c e (omega arith) in subst (IsContentNamed naming old) (sym r) h

kept_content : (m : Model) (old : Memory) (kind : declared.Scalar) (v : Scalar) → IsOfKind kind v → IsScalarIn old v → (k : ℕ) (c : Content) → slice_get (scalar_bytes (class_bytes m (class_in kind)) v) k ≡ Some c → IsContentIn old c (tag_of (class_in kind) k)
kept_content m old (of.Int kind) (integer n labels) g h k c e = let r = number_content (class_bytes m (class_in (of.Int kind))) (bits_in (class_bytes m (class_in (of.Int kind))) n) labels k c e in subst (λ z. IsContentIn old z (tag_of (class_in (of.Int kind)) k)) (sym r.1) r.2
kept_content m old (of.Int kind) (pointer p) g h k c e = absurd (true≢false (sym g))
kept_content m old of.Pointer (integer n labels) g h k c e = absurd (true≢false (sym g))
kept_content m old of.Pointer (pointer null) g h k c e = let r = number_content (class_bytes m Pointer) 0 no_labels k c e in subst (λ z. IsContentIn old z (tag_of Pointer k)) (sym r.1) r.2
kept_content m old of.Pointer (pointer (into j o lo hi)) g h k c e = let r = part_content (into j o lo hi) 0 (class_bytes m Pointer) k k c e (omega arith) in subst (λ z. IsContentIn old z (tag_of Pointer k)) (sym r) (h, refl)

module _ (m : Model) (bases : List BaseInfo) (shaped : AreShaped bases) (naming : Naming) {old new : Memory} {i offset : ℕ} (kind : declared.Scalar) (v : Scalar) (of_kind : IsOfKind kind v) (inside : IsScalarIn old v) (known : IsScalarNamed naming old v) (s : IsStore old new i offset (class_in kind) (class_bytes m (class_in kind)) (scalar_bytes (class_bytes m (class_in kind)) v)) (sane : IsMemoryOf m bases naming old) where
  scalar_content : (k : ℕ) (c : Content) → slice_get (scalar_bytes (class_bytes m (class_in kind)) v) k ≡ Some c → IsContentIn old c (tag_of (class_in kind) k)
  scalar_content k c e = kept_content m old kind v of_kind inside k c e

  -- the byte behind the store, by where it lies
  new_byte : (j o : ℕ) (b : Byte) → byte_at new j o ≡ Some b → ((j ≡ i) × (k : ℕ) × (k < class_bytes m (class_in kind)) × (o ≡ offset + k) × (slice_get (scalar_bytes (class_bytes m (class_in kind)) v) k ≡ Some b.content) × (b.tag ≡ tag_of (class_in kind) k)) ⊎ (byte_at old j o ≡ Some b)
  new_byte j o b e = elim (in_or_out j i o offset (class_bytes m (class_in kind))) [
    | inr out ↦ inr (sym (s.outside j o out) ∙ e)
    | inl r ↦ (let k : ℕ = o - offset in
        let l = s.long in
        let h = r.1 in
        let g = r.2 in
        let x = get_there (scalar_bytes (class_bytes m (class_in kind)) v) k (omega arith) in
        let f : o ≡ offset + k = omega arith in
        let y : Byte = record { content = x.0; tag = tag_of (class_in kind) k } in
        let z : byte_at new i o ≡ Some y = subst (λ a. byte_at new i a ≡ Some y) (sym f) (s.inside k x.0 x.1) in
        let w : y ≡ b = same_Some y b (sym z ∙ subst (λ a. byte_at new a o ≡ Some b) r.0 e) in
        inl (r.0, k, omega arith, f, subst (λ a. slice_get (scalar_bytes (class_bytes m (class_in kind)) v) k ≡ Some a.content) w x.1, sym (ap (λ a. a.tag) w)))
  ]

  new_bytes : (j o : ℕ) (b : Byte) → byte_at new j o ≡ Some b → IsContentIn new b.content b.tag
  new_bytes j o b e = elim (new_byte j o b e) [
    | inr f ↦ content_in_moves (pointer_in_moves (alike s)) b.content b.tag (sane.bytes j o b f)
    | inl r ↦ content_in_moves (pointer_in_moves (alike s)) b.content b.tag (subst (IsContentIn old b.content) (sym r.5) (scalar_content r.1 b.content r.4))
  ]

  -- an object's storage is not allocated
  pub object_storage : (d j : ℕ) (base : BaseInfo) (it : Instance) → slice_get bases d ≡ Some base → naming j ≡ Some d → slice_get old j ≡ Some it → base.shape.heap ≡ false → is_allocated (storage_at old j) ≡ false
  object_storage d j base it e named at heap =
      let k = sane.instances j d base it named e at in
      ap (λ z. is_allocated (storage_of z)) at ∙ (ap is_allocated k.storage ∙ ((shaped.each d base e).kind ∙ heap))

  new_instance : (j d : ℕ) (base : BaseInfo) (it : Instance) → naming j ≡ Some d → slice_get bases d ≡ Some base → slice_get new j ≡ Some it → IsInstanceOf m base it
  unfolding byte_at
  new_instance j d base it named e at =
      let made = s.made in
      let w = slice_get_within new j it at in
      let was = get_there old j (omega arith) in
      let k = sane.instances j d base was.0 named e was.1 in
      let sto : it.storage ≡ was.0.storage = sym (ap storage_of at) ∙ (s.storages j ∙ ap storage_of was.1) in
      let len : length it.bytes ≡ length was.0.bytes = sym (ap (λ z. length (bytes_of z)) at) ∙ (s.lengths j ∙ ap (λ z. length (bytes_of z)) was.1) in
      record {
        storage = sto ∙ k.storage;
        size = λ h. len ∙ k.size h;
        tags = λ h o b f. elim (new_byte j o b (ap (λ z. slice_get (bytes_of z) o) at ∙ f)) [
          | inr g ↦ k.tags h o b (sym (ap (λ z. slice_get (bytes_of z) o) was.1) ∙ g)
          | inl r ↦ (let a : is_allocated (storage_at old i) ≡ false = subst (λ z. is_allocated (storage_at old z) ≡ false) r.0 (object_storage d j base was.0 e named was.1 h) in
              let t = s.kept a r.1 r.2 in
              let g : slice_get (bytes_at old j) o ≡ Some t.0 = subst (λ z. slice_get (bytes_at old z) o ≡ Some t.0) (sym r.0) (subst (λ z. slice_get (bytes_at old i) z ≡ Some t.0) (sym r.3) t.1) in
              r.5 ∙ (sym t.2 ∙ k.tags h o t.0 (sym (ap (λ z. slice_get (bytes_of z) o) was.1) ∙ g)))
        ];
      }

  new_freed : (j : ℕ) (it : Instance) → slice_get new j ≡ Some it → IsFreedRightly it
  new_freed j it at gone =
      let made = s.made in
      let w = slice_get_within new j it at in
      let was = get_there old j (omega arith) in
      let sto : it.storage ≡ was.0.storage = sym (ap storage_of at) ∙ (s.storages j ∙ ap storage_of was.1) in
      let life : it.life ≡ was.0.life = sym (ap life_of at) ∙ (s.lives j ∙ ap life_of was.1) in
      sto ∙ sane.freed_rightly j was.0 was.1 (sym life ∙ gone)

  pub new_sane : IsMemoryOf m bases naming new
  new_sane = record {
    one = λ a b d base e older f g h k. sane.one a b d base e older f g (λ x. h (s.lives a ∙ x)) (λ x. k (s.lives b ∙ x));
    few = sane.few;
    made = λ j d g. let e = s.made in let f = sane.made j d g in omega arith;
    freed_rightly = new_freed;
    named = λ j d a b named e. elim (new_byte j a b e) [
      | inr f ↦ content_named_moves naming old new s.lives b.content (sane.named j d a b named f)
      | inl r ↦ content_named_moves naming old new s.lives b.content (named_content naming old (class_bytes m (class_in kind)) v known r.1 b.content r.4)
    ];
    instances = new_instance;
    small = λ j. let e = s.lengths j in let f = sane.small j in omega arith;
    bytes = new_bytes;
    tags = λ j a b t e f. elim (new_byte j a b e) [
      | inr g ↦ sane.tags j a b t g f
      | inl r ↦ (let w : tag_of (class_in kind) r.1 ≡ Some t = sym r.5 ∙ f in
          let y : Tag = record { class = class_in kind; at = r.1 } in
          subst (λ z. z.at < class_bytes m z.class) (same_Some y t w) r.2)
    ];
  }
