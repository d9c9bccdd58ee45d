-- Memory in which allocated instances that were live are freed, and nothing else is other than it was.
use Rattle.std.proofs.Common.{◌≡◌, ◌⊎◌, ℕ, Option, Some, None, List, length, arith, subst, sym, refl, ap, ◌∙◌, inl, inr}
use Rattle.std.specs.Prelude.{slice_get, set, ℤ}
use Rattle.std.proofs.lemmas.Bool.{cases_eq}
use Rattle.std.proofs.lemmas.List.{length-set}
use Rattle.std.proofs.lemmas.Option.{slice_get_within}
use Rattle.c_layout.specs.declared.data_model.Model.{Model}
use Rattle.c_layout.specs.declared.leaf_lists.Class.{Class}
use Rattle.c_layout.specs.declared.shapes.BaseInfo.{BaseInfo}
use Rattle.pointer_domain.specs.declared.pointer_sets.Pointers.{Pointers}
use Rattle.value_domain.specs.declared.values.values.Value.{Value}
use Rattle.memory_model.specs.Memory.Bytes.{MachinePointer, null, into, Content, indeterminate, number, part, Tag}
use Rattle.memory_model.specs.Memory.Instances.{Memory, Instance, Life, allocated, live, ended, freed, bytes_of, bytes_at, byte_at, life_of, life_at}
use Rattle.memory_model.specs.Memory.Scalars.{Scalar, integer, pointer}
use Rattle.memory_model.specs.Effects.ObjectEffects.{set_life, with_life}
use Rattle.memory_model.specs.Effects.Touches.{storage_of, storage_at}
use Rattle.store_sound.specs.Concretization.Matching.{Matched}
use Rattle.store_sound.specs.Concretization.ValueMeaning.{Naming, InGammaInto, InGammaByLife, InGammaPointer, InGammaScalar, InGammaContent}
use Rattle.store_sound.specs.Concretization.RowMeaning.{IsLiveOf}
use Rattle.store_sound.specs.Concretization.SoundMemory.{IsInstanceOf, IsFreedRightly, IsMemoryOf, IsWithin, IsPointerIn, IsScalarIn, IsNamed, IsContentIn, IsContentNamed}
use Rattle.store_sound.proofs.operations.Slices.{get_there, get_set_same, get_set_other}
use Rattle.store_sound.proofs.operations.StoreLeaves.{live_ended}

-- a live instance of allocated bytes that is freed now
pub record IsFreed (old new : Memory) (j : ℕ) : Type 0 where
  pub was : life_at old j ≡ live
  pub is : life_at new j ≡ freed
  pub stored : (it : Instance) → slice_get old j ≡ Some it → it.storage ≡ allocated

pub record IsReleased (old new : Memory) : Type 0 where
  pub lives : (j : ℕ) → (life_at new j ≡ life_at old j) ⊎ IsFreed old new j
  pub bytes : (j : ℕ) → bytes_at new j ≡ bytes_at old j
  pub storages : (j : ℕ) → storage_at new j ≡ storage_at old j
  pub made : length new ≡ length old

-- nothing is freed
pub none_released : (memory : Memory) → IsReleased memory memory
none_released memory = record { lives = λ j. inl refl; bytes = λ j. refl; storages = λ j. refl; made = refl }

-- one instance is freed
pub one_released : (old : Memory) (i : ℕ) (it : Instance) → slice_get old i ≡ Some it → it.storage ≡ allocated → it.life ≡ live → IsReleased old (set_life old i freed)
one_released old i it at stored alive = subst (λ z. IsReleased old z) (sym (ap (λ o. with_life o freed old i) at)) (record {
  lives = λ j. elim (cases_eq j i) [
    | inl d ↦ inr (record {
      was = ap (life_at old) d ∙ (ap life_of at ∙ alive);
      is = ap (life_at gone) d ∙ ap life_of same;
      stored = λ other e. subst (λ o. storage_of o ≡ storage_of (Some it)) (e) (ap (λ k. storage_of (slice_get old k)) d ∙ ap storage_of at) ∙ stored;
    })
    | inr ne ↦ inl (ap life_of (get_set_other old i j (record it { life = freed }) ne))
  ];
  bytes = by_instance bytes_of refl;
  storages = by_instance storage_of refl;
  made = length-set old i (record it { life = freed });
})
  where
    gone : Memory
    gone = set old i (record it { life = freed })

    same : slice_get (set old i (record it { life = freed })) i ≡ Some (record it { life = freed })
    same = get_set_same old i (record it { life = freed }) (slice_get_within old i it at)

    by_instance : {X : Type 0} (f : Option Instance → X) → f (Some (record it { life = freed })) ≡ f (Some it) → (j : ℕ) → f (slice_get (set old i (record it { life = freed })) j) ≡ f (slice_get old j)
    by_instance f e j = elim (cases_eq j i) [
      | inl d ↦ subst (λ k. f (slice_get (set old i (record it { life = freed })) k) ≡ f (slice_get old k)) (sym d) (ap f (get_set_same old i (record it { life = freed }) (slice_get_within old i it at)) ∙ (e ∙ sym (ap f at)))
      | inr n ↦ ap f (get_set_other old i j (record it { life = freed }) n)
    ]

-- the instance, and all others
pub own_freed : (old : Memory) (i : ℕ) (it : Instance) → slice_get old i ≡ Some it → life_at (set_life old i freed) i ≡ freed
own_freed old i it at = ap (λ o. life_at (with_life o freed old i) i) at ∙ ap life_of (get_set_same old i (record it { life = freed }) (slice_get_within old i it at))

pub others_live : (old : Memory) (i j : ℕ) → (j ≡ i → ⊥) → life_at (set_life old i freed) j ≡ life_at old j
others_live old i j ne = by_instance (slice_get old i)
  where
    by_instance : (o : Option Instance) → life_at (with_life o freed old i) j ≡ life_at old j
    by_instance None = refl
    by_instance (Some it) = ap life_of (get_set_other old i j (record it { life = freed }) ne)

module _ {old new : Memory} (w : IsReleased old new) where
  -- what has not ended now had not ended
  pub was_not_ended : (j : ℕ) → (life_at new j ≡ ended → ⊥) → life_at old j ≡ ended → ⊥
  was_not_ended j h e = elim (w.lives j) [ inl same ↦ h (same ∙ e) | inr gone ↦ live_ended (sym gone.was ∙ e) ]

  -- what is live now was live
  pub was_live : (j : ℕ) → life_at new j ≡ live → life_at old j ≡ live
  was_live j h = elim (w.lives j) [ inl same ↦ sym same ∙ h | inr gone ↦ gone.was ]

  pub live_of_base : (naming : Naming) (b j : ℕ) → IsLiveOf naming new b j → IsLiveOf naming old b j
  live_of_base naming b j h = record { named = h.named; alive = was_live j h.alive }

  pub byte_was : (j o : ℕ) → byte_at new j o ≡ byte_at old j o
  unfolding byte_at
  byte_was j o = ap (λ z. slice_get z o) (w.bytes j)

  pub matched_was : (j o k : ℕ) (class : Class) (c : Content) → Matched new j o class k c → Matched old j o class k c
  matched_was j o k class c m = record { tag = m.tag; here = sym (byte_was j o) ∙ m.here; fits = m.fits }

  -- ---- pointers

  within_released : (j offset lo hi : ℕ) → IsWithin old j offset lo hi → IsWithin new j offset lo hi
  within_released j offset lo hi h =
      let e = ap length (w.bytes j) in
      let f = w.made in
      let made = h.made in
      let within = h.within in
      record { made = omega (arith, made, f); above = h.above; below = h.below; within = omega (arith, within, e) }

  pointer_released : (x : MachinePointer) → IsPointerIn old x → IsPointerIn new x
  pointer_released null h = h
  pointer_released (into j offset lo hi) h = within_released j offset lo hi h

  pub scalar_released : (x : Scalar) → IsScalarIn old x → IsScalarIn new x
  scalar_released (integer n labels) h = h
  scalar_released (pointer x) h = pointer_released x h

  content_released : (c : Content) (tag : Option Tag) → IsContentIn old c tag → IsContentIn new c tag
  content_released indeterminate tag h = h
  content_released (number n labels) tag h = h
  content_released (part x k) tag h = (pointer_released x h.0, h.1)

  pub named_released : (naming : Naming) (x : MachinePointer) → IsNamed naming old x → IsNamed naming new x
  named_released naming null h = h
  named_released naming (into j offset lo hi) h = λ e. h (was_not_ended j e)

  content_named : (naming : Naming) (c : Content) → IsContentNamed naming old c → IsContentNamed naming new c
  content_named naming indeterminate h = h
  content_named naming (number n labels) h = h
  content_named naming (part x k) h = named_released naming x h

  -- ---- memory

  module _ (m : Model) (bases : List BaseInfo) (naming : Naming) (sane : IsMemoryOf m bases naming old) where
    released_instance : (j d : ℕ) (base : BaseInfo) (it : Instance) → naming j ≡ Some d → slice_get bases d ≡ Some base → slice_get new j ≡ Some it → IsInstanceOf m base it
    released_instance j d base it named e at =
        let made = w.made in
        let small = slice_get_within new j it at in
        let was = get_there old j (omega (arith, made, small)) in
        let k = sane.instances j d base was.0 named e was.1 in
        let sto : it.storage ≡ was.0.storage = sym (ap storage_of at) ∙ (w.storages j ∙ ap storage_of was.1) in
        let same : it.bytes ≡ was.0.bytes = sym (ap bytes_of at) ∙ (w.bytes j ∙ ap bytes_of was.1) in
        record {
          storage = sto ∙ k.storage;
          size = λ h. ap length same ∙ k.size h;
          tags = λ h o b f. k.tags h o b (sym (ap (λ z. slice_get z o) same) ∙ f);
        }

    released_rightly : (j : ℕ) (it : Instance) → slice_get new j ≡ Some it → IsFreedRightly it
    released_rightly j it at gone =
        let made = w.made in
        let small = slice_get_within new j it at in
        let was = get_there old j (omega (arith, made, small)) in
        let sto : it.storage ≡ was.0.storage = sym (ap storage_of at) ∙ (w.storages j ∙ ap storage_of was.1) in
        let now : life_at new j ≡ freed = ap life_of at ∙ gone in
        elim (w.lives j) [
          | inl same ↦ sto ∙ sane.freed_rightly j was.0 was.1 (sym (ap life_of was.1) ∙ (sym same ∙ now))
          | inr f ↦ sto ∙ f.stored was.0 was.1
        ]

    pub released_sane : IsMemoryOf m bases naming new
    released_sane = record {
      one = λ a b d base e older f g h k. sane.one a b d base e older f g (was_not_ended a h) (was_not_ended b k);
      few = sane.few;
      made = λ j d g. let e = w.made in let f = sane.made j d g in omega (arith, e, f);
      instances = released_instance;
      freed_rightly = released_rightly;
      small = λ j. let e = ap length (w.bytes j) in let f = sane.small j in omega (arith, e, f);
      bytes = λ j o b e. content_released b.content b.tag (sane.bytes j o b (sym (byte_was j o) ∙ e));
      named = λ j d o b g e. content_named naming b.content (sane.named j d o b g (sym (byte_was j o) ∙ e));
      tags = λ j o b tag e t. sane.tags j o b tag (sym (byte_was j o) ∙ e) t;
    }

  -- ---- what values stand for

  module _ {I : Type 0} (gamma : I → ℤ → Type 0) (naming : Naming) where
    into_stays : (v : Pointers I) (j offset lo hi : ℕ) → InGammaInto gamma naming old v j offset lo hi → InGammaInto gamma naming new v j offset lo hi
    into_stays v j offset lo hi s = record { base = s.base; named = s.named; among = s.among; lower = s.lower; relative = s.relative; room = s.room; whole = λ f. let r = s.whole f in (r.0, r.1 ∙ sym (ap length (w.bytes j))) }

    life_stays : (v : Pointers I) (life : Life) (j offset lo hi : ℕ) → InGammaByLife gamma naming old v life j offset lo hi → InGammaByLife gamma naming new v life j offset lo hi
    life_stays v live j offset lo hi s = into_stays v j offset lo hi s
    life_stays v ended j offset lo hi s = s
    life_stays v freed j offset lo hi s = into_stays v j offset lo hi s

    pub pointer_stays : (v : Pointers I) (x : MachinePointer) → InGammaPointer gamma naming old v x → InGammaPointer gamma naming new v x
    pointer_stays v null s = s
    pointer_stays v (into j offset lo hi) s = elim (w.lives j) [
      | inl same ↦ subst (λ z. InGammaByLife gamma naming new v z j offset lo hi) (sym same) (life_stays v (life_at old j) j offset lo hi s)
      | inr gone ↦ (let was : InGammaInto gamma naming old v j offset lo hi = subst (λ z. InGammaByLife gamma naming old v z j offset lo hi) gone.was s in
          subst (λ z. InGammaByLife gamma naming new v z j offset lo hi) (sym gone.is) (into_stays v j offset lo hi was))
    ]

    pub scalar_stays : (v : Value I) (x : Scalar) → InGammaScalar gamma naming old v x → InGammaScalar gamma naming new v x
    scalar_stays v (integer z labels) s = s
    scalar_stays v (pointer x) s = pointer_stays v.pointer x s

    pub content_stays : (v : Value I) (class : Class) (c : Content) → InGammaContent gamma naming old v class c → InGammaContent gamma naming new v class c
    content_stays v class indeterminate s = s
    content_stays v class (number z labels) s = s
    content_stays v class (part x k) s = pointer_stays v.pointer x s
