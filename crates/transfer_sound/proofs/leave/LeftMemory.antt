-- Memory in which an instance has ended.
use Rattle.std.proofs.Common.{◌≡◌, ℕ, Option, Some, List, length, arith, subst, sym, refl, ap, ◌∙◌, inl, inr}
use Rattle.std.specs.Prelude.{slice_get, set}
use Rattle.std.proofs.lemmas.Bool.{cases_eq}
use Rattle.std.proofs.lemmas.List.{length-set}
use Rattle.std.proofs.lemmas.Option.{slice_get_within}
use Rattle.c_layout.specs.declared.data_model.Model.{Model}
use Rattle.c_layout.specs.declared.shapes.BaseInfo.{BaseInfo}
use Rattle.memory_model.specs.Memory.Bytes.{MachinePointer, null, into, Content, indeterminate, number, part, Tag}
use Rattle.memory_model.specs.Memory.Instances.{Memory, Instance, ended, freed, bytes_of, bytes_at, byte_at, life_of, life_at}
use Rattle.memory_model.specs.Memory.Scalars.{Scalar, integer, pointer}
use Rattle.memory_model.specs.Effects.ObjectEffects.{set_life, with_life}
use Rattle.memory_model.specs.Effects.Touches.{storage_of, storage_at}
use Rattle.store_sound.specs.Concretization.ValueMeaning.{Naming}
use Rattle.store_sound.specs.Concretization.SoundMemory.{IsInstanceOf, IsFreedRightly, IsMemoryOf, IsWithin, IsPointerIn, IsScalarIn, IsNamed, IsContentIn, IsContentNamed}
use Rattle.store_sound.proofs.operations.Slices.{get_there, get_set_same, get_set_other}

pub record IsEnded (old new : Memory) (i : ℕ) : Type 0 where
  pub own : life_at new i ≡ ended
  pub others : (j : ℕ) → (j ≡ i → ⊥) → life_at new j ≡ life_at old j
  pub bytes : (j : ℕ) → bytes_at new j ≡ bytes_at old j
  pub storages : (j : ℕ) → storage_at new j ≡ storage_at old j
  pub made : length new ≡ length old

pub life_ends : (old : Memory) (i : ℕ) (it : Instance) → slice_get old i ≡ Some it → IsEnded old (set_life old i ended) i
life_ends old i it at = subst (λ z. IsEnded old z i) (sym (ap (λ o. with_life o ended old i) at)) (record {
  own = ap life_of same;
  others = λ j n. ap life_of (get_set_other old i j (record it { life = ended }) n);
  bytes = by_instance bytes_of refl;
  storages = by_instance storage_of refl;
  made = length-set old i (record it { life = ended });
})
  where
    same : slice_get (set old i (record it { life = ended })) i ≡ Some (record it { life = ended })
    same = get_set_same old i (record it { life = ended }) (slice_get_within old i it at)

    by_instance : {X : Type 0} (f : Option Instance → X) → f (Some (record it { life = ended })) ≡ f (Some it) → (j : ℕ) → f (slice_get (set old i (record it { life = ended })) j) ≡ f (slice_get old j)
    by_instance f e j = elim (cases_eq j i) [
      | inl d ↦ subst (λ k. f (slice_get (set old i (record it { life = ended })) k) ≡ f (slice_get old k)) (sym d) (ap f (get_set_same old i (record it { life = ended }) (slice_get_within old i it at)) ∙ (e ∙ sym (ap f at)))
      | inr n ↦ ap f (get_set_other old i j (record it { life = ended }) n)
    ]

freed_ended : freed ≡ ended → ⊥
freed_ended e = cc

module _ {old new : Memory} {i : ℕ} (w : IsEnded old new i) where
  -- what has not ended now had not ended
  pub not_ended : (j : ℕ) → (life_at new j ≡ ended → ⊥) → (j ≡ i → ⊥) × (life_at old j ≡ ended → ⊥)
  not_ended j h =
      let other : j ≡ i → ⊥ = λ e. h (ap (life_at new) e ∙ w.own) in
      (other, λ e. h (w.others j other ∙ e))

  pub byte_was : (j o : ℕ) → byte_at new j o ≡ byte_at old j o
  unfolding byte_at
  byte_was j o = ap (λ z. slice_get z o) (w.bytes j)

  pub within_left : (j offset lo hi : ℕ) → IsWithin old j offset lo hi → IsWithin new j offset lo hi
  within_left j offset lo hi h =
      let e = ap length (w.bytes j) in
      let f = w.made in
      let made = h.made in
      let within = h.within in
      record { made = omega (arith, made, f); above = h.above; below = h.below; within = omega (arith, within, e) }

  pub pointer_left : (x : MachinePointer) → IsPointerIn old x → IsPointerIn new x
  pointer_left null h = h
  pointer_left (into j offset lo hi) h = within_left j offset lo hi h

  pub scalar_left : (x : Scalar) → IsScalarIn old x → IsScalarIn new x
  scalar_left (integer n labels) h = h
  scalar_left (pointer x) h = pointer_left x h

  content_left : (c : Content) (tag : Option Tag) → IsContentIn old c tag → IsContentIn new c tag
  content_left indeterminate tag h = h
  content_left (number n labels) tag h = h
  content_left (part x k) tag h = (pointer_left x h.0, h.1)

  pub named_left : (naming : Naming) (x : MachinePointer) → IsNamed naming old x → IsNamed naming new x
  named_left naming null h = h
  named_left naming (into j offset lo hi) h = λ e. h (not_ended j e).1

  content_named_left : (naming : Naming) (c : Content) → IsContentNamed naming old c → IsContentNamed naming new c
  content_named_left naming indeterminate h = h
  content_named_left naming (number n labels) h = h
  content_named_left naming (part x k) h = named_left naming x h

  module _ (m : Model) (bases : List BaseInfo) (naming : Naming) (sane : IsMemoryOf m bases naming old) where
    left_instance : (j d : ℕ) (base : BaseInfo) (it : Instance) → naming j ≡ Some d → slice_get bases d ≡ Some base → slice_get new j ≡ Some it → IsInstanceOf m base it
    left_instance j d base it named e at =
        let made = w.made in
        let small = slice_get_within new j it at in
        let was = get_there old j (omega (arith, made, small)) in
        let k = sane.instances j d base was.0 named e was.1 in
        let sto : it.storage ≡ was.0.storage = sym (ap storage_of at) ∙ (w.storages j ∙ ap storage_of was.1) in
        let same : it.bytes ≡ was.0.bytes = sym (ap bytes_of at) ∙ (w.bytes j ∙ ap bytes_of was.1) in
        record {
          storage = sto ∙ k.storage;
          size = λ h. ap length same ∙ k.size h;
          tags = λ h o b f. k.tags h o b (sym (ap (λ z. slice_get z o) same) ∙ f);
        }

    left_freed : (j : ℕ) (it : Instance) → slice_get new j ≡ Some it → IsFreedRightly it
    left_freed j it at gone =
        let made = w.made in
        let small = slice_get_within new j it at in
        let was = get_there old j (omega (arith, made, small)) in
        let sto : it.storage ≡ was.0.storage = sym (ap storage_of at) ∙ (w.storages j ∙ ap storage_of was.1) in
        let now : life_at new j ≡ freed = ap life_of at ∙ gone in
        let apart = not_ended j (λ e. freed_ended (sym now ∙ e)) in
        let life : was.0.life ≡ freed = sym (ap life_of was.1) ∙ (sym (w.others j apart.0) ∙ now) in
        sto ∙ sane.freed_rightly j was.0 was.1 life

    pub left_sane : IsMemoryOf m bases naming new
    left_sane = record {
      one = λ a b d base e older f g h k. sane.one a b d base e older f g (not_ended a h).1 (not_ended b k).1;
      few = sane.few;
      made = λ j d g. let e = w.made in let f = sane.made j d g in omega (arith, e, f);
      instances = left_instance;
      freed_rightly = left_freed;
      small = λ j. let e = ap length (w.bytes j) in let f = sane.small j in omega (arith, e, f);
      bytes = λ j o b e. content_left b.content b.tag (sane.bytes j o b (sym (byte_was j o) ∙ e));
      named = λ j d o b g e. content_named_left naming b.content (sane.named j d o b g (sym (byte_was j o) ∙ e));
      tags = λ j o b tag e t. sane.tags j o b tag (sym (byte_was j o) ∙ e) t;
    }
