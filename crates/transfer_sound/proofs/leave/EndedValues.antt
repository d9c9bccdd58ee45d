-- A value whose pointers into a base have ended stands for what the value stood for, when the instance of the base has ended.
use Rattle.std.proofs.Common.{◌≡◌, ℕ, ◌<◌, Bool, true, false, cond, Some, length, subst, sym, refl, ap, ◌∙◌, inl, inr}
use Rattle.std.specs.Prelude.{ℤ}
use Rattle.std.proofs.lemmas.Bool.{cases_Bool, cases_eq, lt-ltb}
use Rattle.std.proofs.lemmas.Option.{same_Some}
use Rattle.cc_base.specs.Lattices.{LatticeOf}
use Rattle.cc_base.specs.IntegerDomains.{IntegersOf}
use Rattle.c_layout.specs.declared.leaf_lists.Class.{Class}
use Rattle.pointer_domain.specs.BaseSets.{no_base, bases_has, bases_without, bases_empty}
use Rattle.pointer_domain.specs.PointerTables.{without_bases, if_any_base, ended_at}
use Rattle.pointer_domain.specs.declared.pointer_sets.Pointers.{Pointers}
use Rattle.value_domain.specs.declared.values.values.Value as values
use Rattle.domain_theorems.proofs.values.BaseChanges.{without_others, has_none}
use Rattle.domain_theorems.proofs.values.EqualityStands.{has_some}
use Rattle.store_objects.specs.LiveBases.{most_bases}
use Rattle.store_cells.specs.NearValues.{near_pointer, near_value}
use Rattle.store_objects.specs.ObjectLives.{ended_pointer}
use Rattle.memory_model.specs.Memory.Bytes.{MachinePointer, null, into, Content, indeterminate, number, part}
use Rattle.memory_model.specs.Memory.Instances.{Memory, Life, live, ended, freed, life_at}
use Rattle.memory_model.specs.Memory.Scalars.{Scalar, integer, pointer}
use Rattle.store_sound.specs.Concretization.ValueMeaning.{Naming, InGammaInto, InGammaByLife, InGammaPointer, InGammaScalar, InGammaContent}
use Rattle.transfer_sound.proofs.leave.LeftMemory.{IsEnded}

live_not : live ≡ ended → ⊥
live_not e = cc

freed_not : freed ≡ ended → ⊥
freed_not e = cc

module _ {I : Type 0} (l : LatticeOf I) (b : ℕ) where
  -- a value with the pointers that are left
  abbrev pub left_value : values.Value I → values.Value I
  left_value v = record v { pointer = ended_pointer l b v.pointer }

  -- with the base, the pointers are those of the other bases, and some have ended
  abbrev others : Pointers I → Pointers I
  others v = record v { bases = bases_without v.bases b; ended = true }

  told : b < most_bases → (v : Pointers I) → ended_pointer l b v ≡ cond (bases_has v.bases b) (if_any_base l (others v)) v
  told small v = let e = lt-ltb b most_bases small in ap (λ z. cond z (ended_at l v b) v) e

  any_null : (d : Bool) (v : Pointers I) → (cond d (without_bases l v) v).null ≡ v.null
  any_null true v = refl
  any_null false v = refl

  any_ended : (d : Bool) (v : Pointers I) → (cond d (without_bases l v) v).ended ≡ v.ended
  any_ended true v = refl
  any_ended false v = refl

  null_by : (c : Bool) (v : Pointers I) → (cond c (if_any_base l (others v)) v).null ≡ v.null
  null_by true v = any_null (bases_empty (others v).bases) (others v)
  null_by false v = refl

  ended_by : (c : Bool) (v : Pointers I) → v.ended ≡ true → (cond c (if_any_base l (others v)) v).ended ≡ true
  ended_by true v h = any_ended (bases_empty (others v).bases) (others v)
  ended_by false v h = h

  -- a value without pointers has none to end
  pub none_left : b < most_bases → (v : values.Value I) → v.pointer.bases ≡ no_base → left_value v ≡ v
  none_left small v e = elim (cases_Bool (bases_has v.pointer.bases b)) [
    | inl h ↦ absurd (has_none no_base b refl (subst (λ z. bases_has z b ≡ true) e h))
    | inr h ↦ ap (λ z. record v { pointer = z }) (told small v.pointer ∙ ap (λ z. cond z (if_any_base l (others v.pointer)) v.pointer) h)
  ]

module _ {I : Type 0} (l : LatticeOf I) (n : IntegersOf I) (gamma : I → ℤ → Type 0) (naming : Naming) {old new : Memory} (b i : ℕ) (small : b < most_bases) (named : naming i ≡ Some b) (alive : life_at old i ≡ live)
    (bases : (j d : ℕ) → naming j ≡ Some d → d < most_bases)
    (one : (j : ℕ) → naming j ≡ Some b → (life_at old j ≡ ended → ⊥) → j ≡ i) (w : IsEnded old new i) where
  abbrev after : Pointers I → Pointers I
  after v = near_pointer l n (ended_pointer l b v)

  abbrev before : Pointers I → Pointers I
  before v = near_pointer l n v

  null_stays : (v : Pointers I) → (after v).null ≡ v.null
  null_stays v = ap (λ z. z.null) (told l b small v) ∙ null_by l b (bases_has v.bases b) v

  ended_stays : (v : Pointers I) → v.ended ≡ true → (after v).ended ≡ true
  ended_stays v h = ap (λ z. z.ended) (told l b small v) ∙ ended_by l b (bases_has v.bases b) v h

  -- a pointer into the base
  ended_now : (v : Pointers I) → bases_has v.bases b ≡ true → (after v).ended ≡ true
  ended_now v h = ap (λ z. z.ended) (told l b small v) ∙ (ap (λ z. (cond z (if_any_base l (others l b v)) v).ended) h ∙ any_ended l b (bases_empty (others l b v).bases) (others l b v))

  -- a pointer into another instance
  into_left : (v : Pointers I) (j offset lo hi : ℕ) → InGammaInto gamma naming old (before v) j offset lo hi → (life_at old j ≡ ended → ⊥) → (j ≡ i → ⊥) → InGammaInto gamma naming new (after v) j offset lo hi
  into_left v j offset lo hi s lives ne =
      subst (λ z. InGammaInto gamma naming new (near_pointer l n z) j offset lo hi) (sym (told l b small v)) (elim (cases_Bool (bases_has v.bases b)) [
        | inr e ↦ subst (λ z. InGammaInto gamma naming new (near_pointer l n (cond z (if_any_base l (others l b v)) v)) j offset lo hi) (sym e) (plain v s)
        | inl e ↦ (let apart : b ≡ s.base → ⊥ = λ f. ne (one j (s.named ∙ ap Some (sym f)) lives) in
            let has : bases_has (bases_without v.bases b) s.base ≡ true = without_others v.bases b s.base small (bases j s.base s.named) apart ∙ s.among in
            let some : bases_empty (bases_without v.bases b) ≡ false = has_some (bases_without v.bases b) s.base has in
            subst (λ z. InGammaInto gamma naming new (near_pointer l n (cond z (if_any_base l (others l b v)) v)) j offset lo hi) (sym e)
            (subst (λ z. InGammaInto gamma naming new (near_pointer l n (cond z (without_bases l (others l b v)) (others l b v))) j offset lo hi) (sym some)
            (record { base = s.base; named = s.named; among = has; lower = s.lower; relative = s.relative; room = s.room; whole = λ f. let r = s.whole f in (r.0, r.1 ∙ sym (ap length (w.bytes j))) })))
      ])
    where
      plain : (v : Pointers I) → InGammaInto gamma naming old (near_pointer l n v) j offset lo hi → InGammaInto gamma naming new (near_pointer l n v) j offset lo hi
      plain v s = record { base = s.base; named = s.named; among = s.among; lower = s.lower; relative = s.relative; room = s.room; whole = λ f. let r = s.whole f in (r.0, r.1 ∙ sym (ap length (w.bytes j))) }

  other_life : (v : Pointers I) (life : Life) (j offset lo hi : ℕ) → life_at old j ≡ life → (j ≡ i → ⊥) → InGammaByLife gamma naming old (before v) life j offset lo hi → InGammaByLife gamma naming new (after v) life j offset lo hi
  other_life v live j offset lo hi e ne s = into_left v j offset lo hi s (λ f. live_not (sym e ∙ f)) ne
  other_life v ended j offset lo hi e ne s = ended_stays v s
  other_life v freed j offset lo hi e ne s = into_left v j offset lo hi s (λ f. freed_not (sym e ∙ f)) ne

  own_ended : (v : Pointers I) (j offset lo hi : ℕ) → j ≡ i → InGammaByLife gamma naming old (before v) (life_at old j) j offset lo hi → (after v).ended ≡ true
  own_ended v j offset lo hi d s =
      let into_it : InGammaInto gamma naming old (before v) j offset lo hi = subst (λ z. InGammaByLife gamma naming old (before v) z j offset lo hi) (ap (life_at old) d ∙ alive) s in
      let same : into_it.base ≡ b = same_Some into_it.base b (sym into_it.named ∙ (ap naming d ∙ named)) in
      ended_now v (subst (λ z. bases_has v.bases z ≡ true) same into_it.among)

  pub pointer_ends : (v : Pointers I) (x : MachinePointer) → InGammaPointer gamma naming old (before v) x → InGammaPointer gamma naming new (after v) x
  pointer_ends v null s = null_stays v ∙ s
  pointer_ends v (into j offset lo hi) s = elim (cases_eq j i) [
    | inl d ↦ subst (λ z. InGammaByLife gamma naming new (after v) z j offset lo hi) (sym (ap (life_at new) d ∙ w.own)) (own_ended v j offset lo hi d s)
    | inr ne ↦ subst (λ z. InGammaByLife gamma naming new (after v) z j offset lo hi) (sym (w.others j ne)) (other_life v (life_at old j) j offset lo hi refl ne s)
  ]

  pub scalar_ends : (v : values.Value I) (x : Scalar) → InGammaScalar gamma naming old (near_value l n v) x → InGammaScalar gamma naming new (near_value l n (left_value l b v)) x
  scalar_ends v (integer z labels) s = s
  scalar_ends v (pointer x) s = pointer_ends v.pointer x s

  pub content_ends : (v : values.Value I) (class : Class) (c : Content) → InGammaContent gamma naming old (near_value l n v) class c → InGammaContent gamma naming new (near_value l n (left_value l b v)) class c
  content_ends v class indeterminate s = s
  content_ends v class (number z labels) s = (s.0, λ e. null_stays v.pointer ∙ s.1 e)
  content_ends v class (part x k) s = pointer_ends v.pointer x s
