-- The names behind an allocation: what the newest base of the site has named, the older one names.
use Rattle.std.proofs.Common.{◌≡◌, ℕ, ◌<◌, Bool, true, false, cond, Option, Some, None, arith, subst, sym, refl, ap, ◌∙◌, inl, inr}
use Rattle.std.specs.Prelude.{◌==◌, ℤ}
use Rattle.std.proofs.lemmas.Bool.{cases_eq, and_from, eqb-true, lt-ltb, true≢false}
use Rattle.std.proofs.lemmas.Option.{same_Some}
use Rattle.cc_base.specs.Lattices.{LatticeOf}
use Rattle.cc_base.specs.IntegerDomains.{IntegersOf}
use Rattle.c_layout.specs.declared.leaf_lists.Class.{Class}
use Rattle.pointer_domain.specs.BaseFacts.{with_has_same, with_has_other}
use Rattle.pointer_domain.specs.BaseSets.{bases_has, bases_with, bases_without}
use Rattle.pointer_domain.specs.declared.pointer_sets.Pointers.{Pointers}
use Rattle.value_domain.specs.declared.values.values.Value as values
use Rattle.domain_theorems.proofs.values.BaseChanges.{without_others}
use Rattle.store_objects.specs.Allocations.{is_named, site_of, renamed}
use Rattle.store_objects.specs.LiveBases.{most_bases}
use Rattle.store_cells.specs.NearValues.{near_number, near_pointer, near_value}
use Rattle.memory_model.specs.Memory.Bytes.{MachinePointer, null, into, Content, indeterminate, number, part}
use Rattle.memory_model.specs.Memory.Instances.{Memory, Life, live, ended, freed, life_at}
use Rattle.memory_model.specs.Memory.Scalars.{Scalar, integer, pointer}
use Rattle.store_sound.specs.Concretization.SoundMemory.{IsNamed, IsContentNamed}
use Rattle.store_sound.specs.Concretization.ValueMeaning.{Naming, InGammaInto, InGammaByLife, InGammaPointer, InGammaScalar, InGammaContent}

-- ---- names

abbrev pub new_base : ℕ → ℕ → ℕ → ℕ
new_base newest older b = cond (b == newest) older b

abbrev pub new_name : ℕ → ℕ → Option ℕ → Option ℕ
new_name newest older None = None
new_name newest older (Some b) = Some (new_base newest older b)

abbrev pub renames : Naming → ℕ → ℕ → Naming
renames naming newest older i = new_name newest older (naming i)

pub base_moves : (newest older : ℕ) → new_base newest older newest ≡ older
base_moves newest older = let e : (newest == newest) ≡ true = grind arith in ap (λ z. cond z older newest) e

pub base_stays : (newest older b : ℕ) → (b ≡ newest → ⊥) → new_base newest older b ≡ b
base_stays newest older b ne = by_test (b == newest) refl
  where
    by_test : (c : Bool) → (b == newest) ≡ c → cond c older b ≡ b
    by_test true e = absurd (ne (eqb-true b newest e))
    by_test false e = refl

module _ (naming : Naming) (newest older : ℕ) where
  pub name_stays : (i b : ℕ) → naming i ≡ Some b → (b ≡ newest → ⊥) → renames naming newest older i ≡ Some b
  name_stays i b e ne = ap (new_name newest older) e ∙ ap Some (base_stays newest older b ne)

  -- the name that an instance had
  pub data HadName (i b : ℕ) : Type 0 where
    was_newest : naming i ≡ Some newest → b ≡ older → HadName i b
    was_same : naming i ≡ Some b → (b ≡ newest → ⊥) → HadName i b

  pub had_name : (i b : ℕ) → renames naming newest older i ≡ Some b → HadName i b
  had_name i b e = by_name (naming i) refl e
    where
      by_base : (d : ℕ) → naming i ≡ Some d → new_base newest older d ≡ b → HadName i b
      by_base d f g = elim (cases_eq d newest) [
        | inl same ↦ was_newest (f ∙ ap Some same) (sym g ∙ (ap (new_base newest older) same ∙ base_moves newest older))
        | inr ne ↦ (let same : d ≡ b = sym (base_stays newest older d ne) ∙ g in was_same (f ∙ ap Some same) (λ (h : b ≡ newest). ne (same ∙ h)))
      ]

      by_name : (name : Option ℕ) → naming i ≡ name → new_name newest older name ≡ Some b → HadName i b
      by_name None f g = cc
      by_name (Some d) f g = by_base d f (same_Some (new_base newest older d) b g)

  pub had_some : (i b : ℕ) → renames naming newest older i ≡ Some b → (d : ℕ) × (naming i ≡ Some d)
  had_some i b e = by_had (had_name i b e)
    where
      by_had : HadName i b → (d : ℕ) × (naming i ≡ Some d)
      by_had (was_newest f g) = (newest, f)
      by_had (was_same f g) = (b, f)

  had_none : (i : ℕ) → renames naming newest older i ≡ None → naming i ≡ None
  had_none i e = by_name (naming i) refl e
    where
      by_name : (name : Option ℕ) → naming i ≡ name → new_name newest older name ≡ None → naming i ≡ None
      by_name None f g = f
      by_name (Some d) f g = cc

  -- no instance has the newest base for its name
  pub none_newest : (newest ≡ older → ⊥) → (i : ℕ) → renames naming newest older i ≡ Some newest → ⊥
  none_newest apart i e = by_had (had_name i newest e)
    where
      by_had : HadName i newest → ⊥
      by_had (was_newest f g) = apart g
      by_had (was_same f g) = g refl

  module _ (memory : Memory) where
    pub named_renames : (p : MachinePointer) → IsNamed naming memory p → IsNamed (renames naming newest older) memory p
    named_renames null h = h
    named_renames (into i offset lo hi) h = λ alive none. h alive (had_none i none)

    pub content_named_renames : (c : Content) → IsContentNamed naming memory c → IsContentNamed (renames naming newest older) memory c
    content_named_renames indeterminate h = h
    content_named_renames (number n labels) h = h
    content_named_renames (part p k) h = named_renames p h

-- ---- values

-- the pointers of a value under their new names
abbrev pub renamed_value : {I : Type 0} → ℕ → ℕ → values.Value I → values.Value I
renamed_value newest older v = record v { pointer = renamed (site_of newest older) v.pointer }

module _ {I : Type 0} (newest older : ℕ) where
  -- pointers that are renamed, as two tests say
  abbrev by_tests : Bool → Bool → Pointers I → Pointers I
  by_tests named has p = cond named (cond has (record p { bases = bases_with (bases_without p.bases newest) older }) p) p

  near_by : (l : LatticeOf I) (n : IntegersOf I) (named has : Bool) (p : Pointers I) → near_pointer l n (by_tests named has p) ≡ by_tests named has (near_pointer l n p)
  near_by l n true true p = refl
  near_by l n true false p = refl
  near_by l n false has p = refl

  -- bounds are cut to near ones before or behind
  pub renamed_near : (l : LatticeOf I) (n : IntegersOf I) (v : values.Value I) → near_value l n (renamed_value newest older v) ≡ renamed_value newest older (near_value l n v)
  renamed_near l n v = ap (λ z. record v { num = near_number l n v.num; pointer = z }) (near_by l n (is_named (site_of newest older)) (bases_has v.pointer.bases newest) v.pointer)

  null_by : (named has : Bool) (p : Pointers I) → (by_tests named has p).null ≡ p.null
  null_by true true p = refl
  null_by true false p = refl
  null_by false has p = refl

  ended_by : (named has : Bool) (p : Pointers I) → (by_tests named has p).ended ≡ p.ended
  ended_by true true p = refl
  ended_by true false p = refl
  ended_by false has p = refl

module _ {I : Type 0} (gamma : I → ℤ → Type 0) (naming : Naming) (memory : Memory) (newest older : ℕ) (new_small : newest < most_bases) (old_small : older < most_bases) (bases : (i b : ℕ) → naming i ≡ Some b → b < most_bases) where
  site_named : is_named (site_of newest older) ≡ true
  site_named = and_from _ _ (lt-ltb newest most_bases new_small) (lt-ltb older most_bases old_small)

  -- a set with the older base in place of the newest one has the new names
  among : (p : Pointers I) (b : ℕ) → b < most_bases → bases_has p.bases b ≡ true → bases_has (bases_with (bases_without p.bases newest) older) (new_base newest older b) ≡ true
  among p b small has = elim (cases_eq b newest) [
    | inl same ↦ subst (λ z. bases_has (bases_with (bases_without p.bases newest) older) z ≡ true) (sym (ap (new_base newest older) same ∙ base_moves newest older)) (with_has_same (bases_without p.bases newest) older)
    | inr ne ↦ subst (λ z. bases_has (bases_with (bases_without p.bases newest) older) z ≡ true) (sym (base_stays newest older b ne)) (elim (cases_eq older b) [
      | inl same ↦ subst (λ z. bases_has (bases_with (bases_without p.bases newest) older) z ≡ true) same (with_has_same (bases_without p.bases newest) older)
      | inr other ↦ with_has_other (bases_without p.bases newest) older b old_small small other ∙ (without_others p.bases newest b new_small small (λ (e : newest ≡ b). ne (sym e)) ∙ has)
    ])
  ]

  into_by : (has : Bool) (p : Pointers I) (i offset lo hi : ℕ) → bases_has p.bases newest ≡ has → InGammaInto gamma naming memory p i offset lo hi → InGammaInto gamma (renames naming newest older) memory (cond has (record p { bases = bases_with (bases_without p.bases newest) older }) p) i offset lo hi
  into_by true p i offset lo hi e s = record {
    base = new_base newest older s.base;
    named = ap (new_name newest older) s.named;
    among = among p s.base (bases i s.base s.named) s.among;
    lower = s.lower;
    relative = s.relative;
    room = s.room;
    whole = s.whole;
  }
  into_by false p i offset lo hi e s = record {
    base = s.base;
    named = name_stays naming newest older i s.base s.named (λ same. true≢false (sym s.among ∙ (ap (bases_has p.bases) same ∙ e)));
    among = s.among;
    lower = s.lower;
    relative = s.relative;
    room = s.room;
    whole = s.whole;
  }

  into_renames : (p : Pointers I) (i offset lo hi : ℕ) → InGammaInto gamma naming memory p i offset lo hi → InGammaInto gamma (renames naming newest older) memory (renamed (site_of newest older) p) i offset lo hi
  into_renames p i offset lo hi s =
      subst (λ z. InGammaInto gamma (renames naming newest older) memory (by_tests newest older z (bases_has p.bases newest) p) i offset lo hi) (sym site_named) (into_by (bases_has p.bases newest) p i offset lo hi refl s)

  life_renames : (p : Pointers I) (life : Life) (i offset lo hi : ℕ) → InGammaByLife gamma naming memory p life i offset lo hi → InGammaByLife gamma (renames naming newest older) memory (renamed (site_of newest older) p) life i offset lo hi
  life_renames p live i offset lo hi s = into_renames p i offset lo hi s
  life_renames p ended i offset lo hi s = ended_by newest older (is_named (site_of newest older)) (bases_has p.bases newest) p ∙ s
  life_renames p freed i offset lo hi s = into_renames p i offset lo hi s

  pub pointer_renames : (p : Pointers I) (x : MachinePointer) → InGammaPointer gamma naming memory p x → InGammaPointer gamma (renames naming newest older) memory (renamed (site_of newest older) p) x
  pointer_renames p null s = null_by newest older (is_named (site_of newest older)) (bases_has p.bases newest) p ∙ s
  pointer_renames p (into i offset lo hi) s = life_renames p (life_at memory i) i offset lo hi s

  pub scalar_renames : (v : values.Value I) (x : Scalar) → InGammaScalar gamma naming memory v x → InGammaScalar gamma (renames naming newest older) memory (renamed_value newest older v) x
  scalar_renames v (integer z labels) s = s
  scalar_renames v (pointer x) s = pointer_renames v.pointer x s

  pub content_renames : (v : values.Value I) (class : Class) (c : Content) → InGammaContent gamma naming memory v class c → InGammaContent gamma (renames naming newest older) memory (renamed_value newest older v) class c
  content_renames v class indeterminate s = s
  content_renames v class (number z labels) s = (s.0, λ e. null_by newest older (is_named (site_of newest older)) (bases_has v.pointer.bases newest) v.pointer ∙ s.1 e)
  content_renames v class (part x k) s = pointer_renames v.pointer x s

  -- the set of the pointers that are renamed has the new names
  pub renamed_has : (p : Pointers I) (b : ℕ) → b < most_bases → bases_has p.bases b ≡ true → bases_has (renamed (site_of newest older) p).bases (new_base newest older b) ≡ true
  renamed_has p b small has = subst (λ z. bases_has (by_tests newest older z (bases_has p.bases newest) p).bases (new_base newest older b) ≡ true) (sym site_named) (by_has (bases_has p.bases newest) refl)
    where
      by_has : (c : Bool) → bases_has p.bases newest ≡ c → bases_has (cond c (record p { bases = bases_with (bases_without p.bases newest) older }) p).bases (new_base newest older b) ≡ true
      by_has true e = among p b small has
      by_has false e = subst (λ z. bases_has p.bases z ≡ true) (sym (base_stays newest older b (λ (same : b ≡ newest). true≢false (sym has ∙ (ap (bases_has p.bases) same ∙ e))))) has
