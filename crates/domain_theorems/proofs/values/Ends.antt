-- Pointer parts whose bases are renamed or have ended stand for what that makes of each pointer.
use Rattle.std.specs.Prelude.{◌≡◌, ℕ, ℤ, Bool, true, false, cond, refl}
use Rattle.std.proofs.Common.{arith, ◌∙◌, subst, inl, inr}
use Rattle.std.proofs.lemmas.Bool.{cases_Bool, cases_order}
use Rattle.cc_base.specs.Lattices.{LatticeOf}
use Rattle.pointer_domain.specs.BaseSets.{bases_has, bases_with, bases_without, bases_empty}
use Rattle.pointer_domain.specs.BaseFacts.{with_has_same, with_has_other}
use Rattle.pointer_domain.specs.PointerTables.{without_bases, if_any_base}
use Rattle.pointer_domain.specs.declared.base_sets.Bases.{Bases}
use Rattle.pointer_domain.specs.declared.pointer_sets.Pointers.{Pointers}
use Rattle.domain_theorems.specs.Values.Meaning.{IsInto}
use Rattle.domain_theorems.specs.Values.BaseMeaning.{IsBase, RenameMeaning, EndMeaning}
use Rattle.domain_theorems.proofs.values.BaseChanges.{without_gone, without_others, has_none}

abbrev swapped : Bases → ℕ → ℕ → Bases
swapped s from to = bases_with (bases_without s from) to

-- the new set has what the old one had besides
swapped_has : (s : Bases) (from to base : ℕ) → IsBase from → IsBase to → IsBase base → (from ≡ base → ⊥) → bases_has s base ≡ true → bases_has (swapped s from to) base ≡ true
swapped_has s from to base p q r d h = elim (cases_order to base) [
  | inl e ↦ subst (λ z. bases_has (swapped s from to) z ≡ true) e (with_has_same (bases_without s from) to)
  | inr e ↦ with_has_other (bases_without s from) to base q r (λ (x : to ≡ base). elim e [ inl y ↦ omega arith | inr y ↦ omega arith ]) ∙ (without_others s from base p r d ∙ h)
]

module _ {I : Type 0} (stands : I → ℤ → Type 0) where
  with_bases : (p : Pointers I) (s : Bases) (base to : ℕ) (low offset high : ℤ) → IsInto stands p base low offset high → bases_has s to ≡ true → IsInto stands (record p { bases = s }) to low offset high
  with_bases p s base to low offset high h e = record { among = e; lower = h.lower; relative = h.relative; room = h.room }

  moved_at : (p : Pointers I) (from to : ℕ) (low offset high : ℤ) (c : Bool) → c ≡ true → IsInto stands p from low offset high → IsInto stands (cond c (record p { bases = swapped p.bases from to }) p) to low offset high
  moved_at p from to low offset high true e h = with_bases p (swapped p.bases from to) from to low offset high h (with_has_same (bases_without p.bases from) to)
  moved_at p from to low offset high false e h = cc

  others_at : (p : Pointers I) (from to base : ℕ) (low offset high : ℤ) (c : Bool) → IsBase from → IsBase to → IsBase base → (from ≡ base → ⊥) → IsInto stands p base low offset high → IsInto stands (cond c (record p { bases = swapped p.bases from to }) p) base low offset high
  others_at p from to base low offset high true i j k d h = with_bases p (swapped p.bases from to) base base low offset high h (swapped_has p.bases from to base i j k d h.among)
  others_at p from to base low offset high false i j k d h = h

  gone_at : (p : Pointers I) (from to : ℕ) (c : Bool) → bases_has p.bases from ≡ c → IsBase from → IsBase to → (to ≡ from → ⊥) → bases_has (cond c (record p { bases = swapped p.bases from to }) p).bases from ≡ false
  gone_at p from to true e i j d = with_has_other (bases_without p.bases from) to from j i d ∙ without_gone p.bases from
  gone_at p from to false e i j d = e

  null_at : (p q : Pointers I) (c : Bool) → q.null ≡ p.null → (cond c q p).null ≡ p.null
  null_at p q true e = e
  null_at p q false e = refl

  ended_flag_at : (p q : Pointers I) (c : Bool) → q.ended ≡ p.ended → (cond c q p).ended ≡ p.ended
  ended_flag_at p q true e = e
  ended_flag_at p q false e = refl

  pub rename_meaning : RenameMeaning stands
  rename_meaning = record {
    moved = λ p from to low offset high h. moved_at p from to low offset high (bases_has p.bases from) h.among h;
    others = λ p from to base low offset high i j k d h. others_at p from to base low offset high (bases_has p.bases from) i j k d h;
    gone = λ p from to i j d. gone_at p from to (bases_has p.bases from) refl i j d;
    nulls = λ p from to. null_at p (record p { bases = swapped p.bases from to }) (bases_has p.bases from) refl;
    ended = λ p from to. ended_flag_at p (record p { bases = swapped p.bases from to }) (bases_has p.bases from) refl;
  }

  -- ---- ended

  module _ (l : LatticeOf I) where
    abbrev after : Pointers I → ℕ → Pointers I
    after p base = record p { bases = bases_without p.bases base; ended = true }

    any_ended : (q : Pointers I) (d : Bool) → (cond d (without_bases l q) q).ended ≡ q.ended
    any_ended q true = refl
    any_ended q false = refl

    any_null : (q : Pointers I) (d : Bool) → (cond d (without_bases l q) q).null ≡ q.null
    any_null q true = refl
    any_null q false = refl

    any_gone : (q : Pointers I) (base : ℕ) (d : Bool) → bases_empty q.bases ≡ d → bases_has q.bases base ≡ false → bases_has (cond d (without_bases l q) q).bases base ≡ false
    any_gone q base true e h = elim (cases_Bool (bases_has (without_bases l q).bases base)) [ inl f ↦ absurd (has_none (without_bases l q).bases base refl f) | inr f ↦ f ]
    any_gone q base false e h = h

    any_into : (q : Pointers I) (base : ℕ) (low offset high : ℤ) (d : Bool) → bases_empty q.bases ≡ d → IsInto stands q base low offset high → IsInto stands (cond d (without_bases l q) q) base low offset high
    any_into q base low offset high true e h = absurd (has_none q.bases base e h.among)
    any_into q base low offset high false e h = h

    ends_at : (p : Pointers I) (base : ℕ) (c : Bool) → c ≡ true → (cond c (if_any_base l (after p base)) p).ended ≡ true
    ends_at p base true e = any_ended (after p base) (bases_empty (bases_without p.bases base))
    ends_at p base false e = cc

    stay_at : (p : Pointers I) (gone base : ℕ) (low offset high : ℤ) (c : Bool) → IsBase gone → IsBase base → (gone ≡ base → ⊥) → IsInto stands p base low offset high → IsInto stands (cond c (if_any_base l (after p gone)) p) base low offset high
    stay_at p gone base low offset high true i j d h = any_into (after p gone) base low offset high (bases_empty (bases_without p.bases gone)) refl
        (record { among = without_others p.bases gone base i j d ∙ h.among; lower = h.lower; relative = h.relative; room = h.room })
    stay_at p gone base low offset high false i j d h = h

    none_at : (p : Pointers I) (base : ℕ) (c : Bool) → bases_has p.bases base ≡ c → bases_has (cond c (if_any_base l (after p base)) p).bases base ≡ false
    none_at p base true e = any_gone (after p base) base (bases_empty (bases_without p.bases base)) refl (without_gone p.bases base)
    none_at p base false e = e

    nulls_at : (p : Pointers I) (base : ℕ) (c : Bool) → (cond c (if_any_base l (after p base)) p).null ≡ p.null
    nulls_at p base true = any_null (after p base) (bases_empty (bases_without p.bases base))
    nulls_at p base false = refl

    stays_at : (p : Pointers I) (base : ℕ) (c : Bool) → p.ended ≡ true → (cond c (if_any_base l (after p base)) p).ended ≡ true
    stays_at p base true e = any_ended (after p base) (bases_empty (bases_without p.bases base))
    stays_at p base false e = e

    pub end_meaning : EndMeaning l stands
    end_meaning = record {
      ends = λ p base low offset high h. ends_at p base (bases_has p.bases base) h.among;
      others = λ p gone base low offset high i j d h. stay_at p gone base low offset high (bases_has p.bases gone) i j d h;
      gone = λ p base. none_at p base (bases_has p.bases base) refl;
      nulls = λ p base. nulls_at p base (bases_has p.bases base);
      stays = λ p base e. stays_at p base (bases_has p.bases base) e;
    }
