-- A value whose pointers into a base have ended tells what it told, when the instance of the base has ended.
use Rattle.std.proofs.Common.{◌≡◌, ℕ, ◌<◌, Bool, true, false, cond, Option, Some, None, subst, sym, refl, ap, ◌∙◌, inl, inr}
use Rattle.std.proofs.lemmas.Bool.{cases_Bool, cases_eq, lt-ltb}
use Rattle.std.proofs.lemmas.Option.{same_Some}
use Rattle.cc_base.specs.Lattices.{LatticeOf}
use Rattle.cc_base.specs.IntegerDomains.{IntegersOf}
use Rattle.pointer_domain.specs.BaseSets.{bases_has, bases_without, bases_empty}
use Rattle.pointer_domain.specs.PointerTables.{without_bases, if_any_base, ended_at}
use Rattle.pointer_domain.specs.declared.pointer_sets.Pointers.{Pointers}
use Rattle.value_domain.specs.declared.values.values.Value.{Value}
use Rattle.domain_theorems.proofs.values.BaseChanges.{has_none}
use Rattle.store_objects.specs.LiveBases.{most_bases, only_base}
use Rattle.store_cells.specs.NearValues.{near_pointer, near_value}
use Rattle.store_objects.specs.ObjectLives.{ended_pointer}
use Rattle.memory_model.specs.Memory.Bytes.{MachinePointer, null, into}
use Rattle.memory_model.specs.Memory.Instances.{Memory, Life, live, ended, freed, life_at}
use Rattle.memory_model.specs.Memory.Scalars.{Scalar, integer, pointer}
use Rattle.memory_model.specs.Effects.NumberedTables.{clear_at}
use Rattle.transfer_sound.proofs.leave.LeftMemory.{IsEnded}
use Rattle.transfer_sound.proofs.leave.EndedValues.{left_value}
use Rattle.transfer_sound.proofs.leave.Leaving.{clear_keeps}
use Rattle.transfer_exact.specs.Values.SingleValues.{IsNowhere, IsIntoOne, ExactByLife, ExactPointer, ExactScalar, ExactHeld}
use Rattle.transfer_exact.proofs.objects.LeftBases.{sole_without, sole_has, sole_lacks}

module _ {I : Type 0} (l : LatticeOf I) (n : IntegersOf I) (names : ℕ → Option ℕ) {old new : Memory} (b i : ℕ) (small : b < most_bases) (here : names b ≡ Some i) (alive : life_at old i ≡ live)
    (one : (d : ℕ) → names d ≡ Some i → d ≡ b) (w : IsEnded old new i) where
  abbrev left_names : ℕ → Option ℕ
  left_names = clear_at names b

  abbrev before : Pointers I → Pointers I
  before v = near_pointer l n v

  abbrev after : Pointers I → Pointers I
  after v = near_pointer l n (ended_pointer l b v)

  -- with the base, the pointers are those of the other bases, and some have ended
  abbrev others : Pointers I → Pointers I
  others v = record v { bases = bases_without v.bases b; ended = true }

  told : (v : Pointers I) → ended_pointer l b v ≡ cond (bases_has v.bases b) (if_any_base l (others v)) v
  told v = let e = lt-ltb b most_bases small in ap (λ z. cond z (ended_at l v b) v) e

  stays : (v : Pointers I) → bases_has v.bases b ≡ false → ended_pointer l b v ≡ v
  stays v h = told v ∙ ap (λ z. cond z (if_any_base l (others v)) v) h

  nowhere_left : (v : Pointers I) (is_null has_ended : Bool) → IsNowhere (before v) is_null has_ended → IsNowhere (after v) is_null has_ended
  nowhere_left v x y h = elim (cases_Bool (bases_has v.bases b)) [
    | inl e ↦ absurd (has_none v.bases b h.bases e)
    | inr e ↦ subst (λ z. IsNowhere (near_pointer l n z) x y) (sym (stays v e)) h
  ]

  -- a pointer into the base
  own_ends : (v : Pointers I) (offset lo hi : ℕ) → IsIntoOne n names (before v) i offset lo hi → IsNowhere (after v) false true
  own_ends v offset lo hi h =
      let bases : v.bases ≡ only_base b = h.bases ∙ ap only_base (one h.base h.names) in
      let has : bases_has v.bases b ≡ true = ap (λ z. bases_has z b) bases ∙ sole_has b small in
      let empty : bases_empty (bases_without v.bases b) ≡ true = ap (λ z. bases_empty (bases_without z b)) bases ∙ sole_without b small in
      let is : ended_pointer l b v ≡ without_bases l (others v) = told v ∙ (ap (λ z. cond z (if_any_base l (others v)) v) has ∙ ap (λ z. cond z (without_bases l (others v)) (others v)) empty) in
      subst (λ z. IsNowhere (near_pointer l n z) false true) (sym is) (record { bases = refl; null = h.null; ended = refl })

  -- a pointer into another instance
  other_stays : (v : Pointers I) (j offset lo hi : ℕ) → (j ≡ i → ⊥) → IsIntoOne n names (before v) j offset lo hi → IsIntoOne n left_names (after v) j offset lo hi
  other_stays v j offset lo hi ne h =
      let apart : h.base ≡ b → ⊥ = λ e. ne (same_Some j i (sym h.names ∙ (ap names e ∙ here))) in
      let lacks : bases_has v.bases b ≡ false = ap (λ z. bases_has z b) h.bases ∙ sole_lacks h.base b small (λ e. apart (sym e)) in
      subst (λ z. IsIntoOne n left_names (near_pointer l n z) j offset lo hi) (sym (stays v lacks))
      (record { base = h.base; few = h.few; names = clear_keeps names b h.base j apart h.names; bases = h.bases; lower = h.lower; relative = h.relative; room = h.room; null = h.null; ended = h.ended })

  other_life : (v : Pointers I) (life : Life) (j offset lo hi : ℕ) → (j ≡ i → ⊥) → ExactByLife n names (before v) life j offset lo hi → ExactByLife n left_names (after v) life j offset lo hi
  other_life v live j offset lo hi ne h = other_stays v j offset lo hi ne h
  other_life v ended j offset lo hi ne h = nowhere_left v false true h
  other_life v freed j offset lo hi ne h = h

  pointer_left : (v : Pointers I) (x : MachinePointer) → ExactPointer n names old (before v) x → ExactPointer n left_names new (after v) x
  pointer_left v null h = nowhere_left v true false h
  pointer_left v (into j offset lo hi) h = elim (cases_eq j i) [
    | inl d ↦ subst (λ z. ExactByLife n left_names (after v) z j offset lo hi) (sym (ap (life_at new) d ∙ w.own))
        (own_ends v offset lo hi (subst (λ z. ExactByLife n names (before v) z i offset lo hi) alive (subst (λ z. ExactByLife n names (before v) (life_at old z) z offset lo hi) d h)))
    | inr ne ↦ subst (λ z. ExactByLife n left_names (after v) z j offset lo hi) (sym (w.others j ne)) (other_life v (life_at old j) j offset lo hi ne h)
  ]

  pub scalar_left : (v : Value I) (x : Scalar) → ExactScalar n names old (near_value l n v) x → ExactScalar n left_names new (near_value l n (left_value l b v)) x
  scalar_left v (integer z labels) h = record { number = h.number; labels_are = h.labels_are; apart = nowhere_left v.pointer false false h.apart; determinate = h.determinate }
  scalar_left v (pointer x) h = record { apart = h.apart; points = pointer_left v.pointer x h.points; determinate = h.determinate }

  pub held_left : (v : Value I) (held : Option Scalar) → ExactHeld n names old (near_value l n v) held → ExactHeld n left_names new (near_value l n (left_value l b v)) held
  held_left v None h = record { number = h.number; apart = nowhere_left v.pointer false false h.apart; indeterminate = h.indeterminate }
  held_left v (Some scalar) h = scalar_left v scalar h
