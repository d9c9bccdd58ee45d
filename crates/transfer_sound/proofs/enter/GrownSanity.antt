-- Memory stays sound where a fresh object is entered.
use Rattle.std.proofs.Common.{◌≡◌, ℕ, zero, suc, ◌+◌, ◌<◌, ◌≤◌, Some, List, length, arith, subst, sym, refl, ap, ◌∙◌, inl, inr}
use Rattle.std.specs.Prelude.{slice_get}
use Rattle.std.proofs.lemmas.Bool.{cases_eq}
use Rattle.std.proofs.lemmas.Option.{same_Some, slice_get_within}
use Rattle.c_layout.specs.declared.data_model.Model.{Model}
use Rattle.c_layout.specs.declared.leaf_lists.Leaf.{Leaf}
use Rattle.c_layout.specs.declared.shapes.BaseInfo.{BaseInfo}
use Rattle.c_layout.specs.declared.shapes.BaseKind.TheVariants.{Automatic, Older}
use Rattle.store_cells.specs.AccessWindows.{last_offset}
use Rattle.memory_model.specs.Memory.ScalarSizes.{class_bytes}
use Rattle.memory_model.specs.Memory.Bytes.{indeterminate, Tag, Byte}
use Rattle.memory_model.specs.Memory.Instances.{automatic, live, ended, Memory, Instance, bytes_of, bytes_at, byte_at, life_of, life_at}
use Rattle.memory_model.specs.Memory.Tags.{tag_at}
use Rattle.memory_model.specs.Effects.ObjectEffects.{blank_bytes, fresh}
use Rattle.store_sound.specs.Concretization.SoundMemory.{storage_for, IsInstanceOf, IsFreedRightly, IsContentIn, IsContentNamed, IsMemoryOf}
use Rattle.store_sound.specs.Concretization.ValueMeaning.{Naming}
use Rattle.store_sound.proofs.operations.TagPlaces.{is_tagged}
use Rattle.store_sound.proofs.operations.StoreLeaves.{live_freed}
use Rattle.transfer_sound.proofs.enter.GrownMemory.{IsGrown, NamesToo, life_stays, bytes_stay, byte_stays, content_in_grows, content_named_grows}

-- ---- the bytes of a fresh object

pub blank_long : (m : Model) (leaves : List Leaf) (from n : ℕ) → length (blank_bytes m leaves from n) ≡ n
blank_long m leaves from zero = refl
blank_long m leaves from (suc n) = ap suc (blank_long m leaves (suc from) n)

-- a byte of it is indeterminate, under the tag of its offset
pub blank_byte : (m : Model) (leaves : List Leaf) (from n k o : ℕ) (x : Byte) → o ≡ from + k → slice_get (blank_bytes m leaves from n) k ≡ Some x → x ≡ record { content = indeterminate; tag = tag_at m leaves o }
blank_byte m leaves from zero k o x h e = cc
blank_byte m leaves from (suc n) zero o x h e =
    let d : o ≡ from = omega (arith, h) in
    sym (same_Some (record { content = indeterminate; tag = tag_at m leaves from }) x e) ∙ ap (λ z. record { content = indeterminate; tag = tag_at m leaves z }) (sym d)
blank_byte m leaves from (suc n) (suc k) o x h e = blank_byte m leaves (suc from) n k o x (omega (arith, h)) e

module _ (m : Model) (bases : List BaseInfo) (naming : Naming) (old : Memory) (sane : IsMemoryOf m bases naming old) (b : ℕ) (info : BaseInfo) (at : slice_get bases b ≡ Some info) (kind : info.kind ≡ Automatic)
    (sized : info.size ≤ last_offset) (none : (j : ℕ) → naming j ≡ Some b → (life_at old j ≡ ended → ⊥) → ⊥)
    {new : Memory} {new_naming : Naming} (w : IsGrown old new (fresh automatic (blank_bytes m info.shape.cells 0 info.size))) (t : NamesToo naming new_naming (length old) b) where
  abbrev cells : List Leaf
  cells = info.shape.cells

  abbrev blank : List Byte
  blank = blank_bytes m cells 0 info.size

  pub own_bytes : bytes_at new (length old) ≡ blank
  own_bytes = ap bytes_of w.own

  pub own_life : life_at new (length old) ≡ live
  own_life = ap life_of w.own

  pub own_byte : (o : ℕ) (x : Byte) → byte_at new (length old) o ≡ Some x → x ≡ record { content = indeterminate; tag = tag_at m cells o }
  unfolding byte_at
  own_byte o x e = blank_byte m cells 0 info.size o o x (omega arith) (sym (ap (λ z. slice_get z o) own_bytes) ∙ e)

  own_base : (i d : ℕ) → i ≡ length old → new_naming i ≡ Some d → d ≡ b
  own_base i d e f = same_Some d b (sym f ∙ (ap new_naming e ∙ t.own))

  old_name : (i d : ℕ) → (i ≡ length old → ⊥) → new_naming i ≡ Some d → naming i ≡ Some d
  old_name i d ne f = sym (t.others i ne) ∙ f

  old_life : (i : ℕ) → (i ≡ length old → ⊥) → (life_at new i ≡ ended → ⊥) → life_at old i ≡ ended → ⊥
  old_life i ne h e = h (life_stays w t i ne ∙ e)

  one_by : (i j d : ℕ) (base : BaseInfo) → slice_get bases d ≡ Some base → (base.kind ≡ Older → ⊥) → new_naming i ≡ Some d → new_naming j ≡ Some d → (life_at new i ≡ ended → ⊥) → (life_at new j ≡ ended → ⊥) → i ≡ j
  one_by i j d base e older f g h k = elim (cases_eq i (length old)) [
    | inl a ↦ elim (cases_eq j (length old)) [
      | inl c ↦ a ∙ sym c
      | inr nc ↦ absurd (none j (subst (λ z. naming j ≡ Some z) (own_base i d a f) (old_name j d nc g)) (old_life j nc k))
    ]
    | inr na ↦ elim (cases_eq j (length old)) [
      | inl c ↦ absurd (none i (subst (λ z. naming i ≡ Some z) (own_base j d c g) (old_name i d na f)) (old_life i na h))
      | inr nc ↦ sane.one i j d base e older (old_name i d na f) (old_name j d nc g) (old_life i na h) (old_life j nc k)
    ]
  ]

  fresh_instance : IsInstanceOf m info (fresh automatic blank)
  fresh_instance = record {
    storage = ap storage_for (sym kind);
    size = λ h. blank_long m cells 0 info.size;
    tags = λ h o x e. ap (λ z. z.tag) (blank_byte m cells 0 info.size o o x (omega arith) e);
  }

  instance_by : (i d : ℕ) (base : BaseInfo) (it : Instance) → new_naming i ≡ Some d → slice_get bases d ≡ Some base → slice_get new i ≡ Some it → IsInstanceOf m base it
  instance_by i d base it f e g = elim (cases_eq i (length old)) [
    | inl a ↦ (
        let same : it ≡ fresh automatic blank = same_Some it (fresh automatic blank) (sym g ∙ (ap (slice_get new) a ∙ w.own)) in
        let is : base ≡ info = same_Some base info (sym e ∙ (ap (slice_get bases) (own_base i d a f) ∙ at)) in
        subst (λ z. IsInstanceOf m z it) (sym is) (subst (IsInstanceOf m info) (sym same) fresh_instance))
    | inr na ↦ sane.instances i d base it (old_name i d na f) e (sym (w.others i na) ∙ g)
  ]

  freed_by : (i : ℕ) (it : Instance) → slice_get new i ≡ Some it → IsFreedRightly it
  freed_by i it g gone = elim (cases_eq i (length old)) [
    | inl a ↦ absurd (live_freed (sym own_life ∙ (sym (ap (life_at new) a) ∙ (ap life_of g ∙ gone))))
    | inr na ↦ sane.freed_rightly i it (sym (w.others i na) ∙ g) gone
  ]

  small_by : (i : ℕ) → length (bytes_at new i) ≤ last_offset
  small_by i = elim (cases_eq i (length old)) [
    | inl a ↦ (let e = ap (λ z. length (bytes_at new z)) a in let f = ap length own_bytes in let g = blank_long m cells 0 info.size in omega (arith, e, f, g, sized))
    | inr na ↦ (let e = ap length (bytes_stay w t i na) in let f = sane.small i in omega (arith, e, f))
  ]

  content_by : (i o : ℕ) (x : Byte) → byte_at new i o ≡ Some x → IsContentIn new x.content x.tag
  content_by i o x e = elim (cases_eq i (length old)) [
    | inl a ↦ subst (λ z. IsContentIn new z.content z.tag) (sym (own_byte o x (sym (ap (λ z. byte_at new z o) a) ∙ e))) tt
    | inr na ↦ content_in_grows w t x.content x.tag (sane.bytes i o x (sym (byte_stays w t i o na) ∙ e))
  ]

  named_by : (i d o : ℕ) (x : Byte) → new_naming i ≡ Some d → byte_at new i o ≡ Some x → IsContentNamed new_naming new x.content
  named_by i d o x f e = elim (cases_eq i (length old)) [
    | inl a ↦ subst (λ z. IsContentNamed new_naming new z.content) (sym (own_byte o x (sym (ap (λ z. byte_at new z o) a) ∙ e))) tt
    | inr na ↦ (let was = sym (byte_stays w t i o na) ∙ e in content_named_grows w t x.content x.tag (sane.bytes i o x was) (sane.named i d o x (old_name i d na f) was))
  ]

  tag_by : (i o : ℕ) (x : Byte) (tag : Tag) → byte_at new i o ≡ Some x → x.tag ≡ Some tag → tag.at < class_bytes m tag.class
  tag_by i o x tag e f = elim (cases_eq i (length old)) [
    | inl a ↦ (
        let own = own_byte o x (sym (ap (λ z. byte_at new z o) a) ∙ e) in
        let r = is_tagged m cells o tag (sym (ap (λ z. z.tag) own) ∙ f) in
        subst (λ z. tag.at < class_bytes m z) (sym r.class) r.owned.small)
    | inr na ↦ sane.tags i o x tag (sym (byte_stays w t i o na) ∙ e) f
  ]

  few_by : (i d : ℕ) → new_naming i ≡ Some d → d < length bases
  few_by i d f = elim (cases_eq i (length old)) [
    | inl a ↦ subst (λ z. z < length bases) (sym (own_base i d a f)) (slice_get_within bases b info at)
    | inr na ↦ sane.few i d (old_name i d na f)
  ]

  made_by : (i d : ℕ) → new_naming i ≡ Some d → i < length new
  made_by i d f = elim (cases_eq i (length old)) [
    | inl a ↦ (let more = w.made in omega (arith, a, more))
    | inr na ↦ (let more = w.made in let k = sane.made i d (old_name i d na f) in omega (arith, more, k))
  ]

  pub grown_sane : IsMemoryOf m bases new_naming new
  grown_sane = record {
    one = one_by;
    few = few_by;
    made = made_by;
    instances = instance_by;
    freed_rightly = freed_by;
    small = small_by;
    bytes = content_by;
    named = named_by;
    tags = tag_by;
  }
