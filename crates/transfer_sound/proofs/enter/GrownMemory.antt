-- Memory with one instance more, and what it leaves as it was.
use Rattle.std.proofs.Common.{◌≡◌, ℕ, zero, suc, ◌+◌, ◌<◌, true, false, cond, Option, Some, List, [], ◌∷◌, ◌++◌, length, arith, subst, sym, refl, ap, ◌∙◌}
use Rattle.std.specs.Prelude.{slice_get, ℤ, Bool, ◌==◌}
use Rattle.std.proofs.lemmas.Bool.{eqb-true}
use Rattle.std.proofs.lemmas.Option.{same_Some}
use Rattle.c_layout.specs.declared.leaf_lists.Class.{Class}
use Rattle.cfg.specs.declared.programs.Flow.{Flow}
use Rattle.pointer_domain.specs.declared.pointer_sets.Pointers.{Pointers}
use Rattle.value_domain.specs.declared.values.values.Value.{Value}
use Rattle.memory_model.specs.Memory.Bytes.{MachinePointer, null, into, Content, indeterminate, number, part, Tag, Byte}
use Rattle.memory_model.specs.Memory.Instances.{Memory, Instance, Life, live, ended, freed, bytes_of, bytes_at, byte_at, life_of, life_at}
use Rattle.memory_model.specs.Memory.Scalars.{Scalar, integer, pointer}
use Rattle.store_sound.specs.Concretization.Matching.{Matched}
use Rattle.store_sound.specs.Concretization.SoundMemory.{IsWithin, IsPointerIn, IsScalarIn, IsNamed, IsContentIn, IsContentNamed}
use Rattle.store_sound.specs.Concretization.ValueMeaning.{Naming, InGammaInto, InGammaByLife, InGammaPointer, InGammaScalar, InGammaContent}
use Rattle.store_sound.specs.Concretization.RowMeaning.{IsLiveOf, InGammaCell}

-- ---- one more

pub record IsGrown (old new : Memory) (fresh : Instance) : Type 0 where
  pub own : slice_get new (length old) ≡ Some fresh
  pub others : (j : ℕ) → (j ≡ length old → ⊥) → slice_get new j ≡ slice_get old j
  pub made : length new ≡ suc (length old)

last_of : {A : Type 0} (xs : List A) (x : A) → slice_get (xs ++ x ∷ []) (length xs) ≡ Some x
last_of [] x = refl
last_of (y ∷ ys) x = last_of ys x

others_of : {A : Type 0} (xs : List A) (x : A) (j : ℕ) → (j ≡ length xs → ⊥) → slice_get (xs ++ x ∷ []) j ≡ slice_get xs j
others_of [] x zero h = absurd (h refl)
others_of [] x (suc j) h = refl
others_of (y ∷ ys) x zero h = refl
others_of (y ∷ ys) x (suc j) h = others_of ys x j (λ e. h (ap suc e))

longer : {A : Type 0} (xs : List A) (x : A) → length (xs ++ x ∷ []) ≡ suc (length xs)
longer [] x = refl
longer (y ∷ ys) x = ap suc (longer ys x)

pub grows : (old : Memory) (fresh : Instance) → IsGrown old (old ++ fresh ∷ []) fresh
grows old fresh = record { own = last_of old fresh; others = others_of old fresh; made = longer old fresh }

-- ---- one name more

pub record NamesToo (naming new_naming : Naming) (i b : ℕ) : Type 0 where
  pub own : new_naming i ≡ Some b
  pub others : (j : ℕ) → (j ≡ i → ⊥) → new_naming j ≡ naming j

abbrev pub naming_too : Naming → ℕ → ℕ → Naming
naming_too naming i b j = cond (j == i) (Some b) (naming j)

pub names_too : (naming : Naming) (i b : ℕ) → NamesToo naming (naming_too naming i b) i b
names_too naming i b = record { own = ap (λ c. cond c (Some b) (naming i)) same; others = λ j h. at_other j (j == i) refl h }
  where
    same : (i == i) ≡ true
    same = grind arith

    at_other : (j : ℕ) (c : Bool) → (j == i) ≡ c → (j ≡ i → ⊥) → cond c (Some b) (naming j) ≡ naming j
    at_other j true e h = absurd (h (eqb-true j i e))
    at_other j false e h = refl

-- ---- what stays

module _ {old new : Memory} {fresh : Instance} (w : IsGrown old new fresh) {naming new_naming : Naming} {b : ℕ} (t : NamesToo naming new_naming (length old) b) where
  pub life_stays : (j : ℕ) → (j ≡ length old → ⊥) → life_at new j ≡ life_at old j
  life_stays j h = ap life_of (w.others j h)

  pub bytes_stay : (j : ℕ) → (j ≡ length old → ⊥) → bytes_at new j ≡ bytes_at old j
  bytes_stay j h = ap bytes_of (w.others j h)

  pub byte_stays : (j o : ℕ) → (j ≡ length old → ⊥) → byte_at new j o ≡ byte_at old j o
  unfolding byte_at
  byte_stays j o h = ap (λ z. slice_get z o) (bytes_stay j h)

  -- what is there already is not the new instance
  pub apart : (j : ℕ) → j < length old → j ≡ length old → ⊥
  apart j h e = omega (arith, h, e)

  pub within_grows : (j offset lo hi : ℕ) → IsWithin old j offset lo hi → IsWithin new j offset lo hi
  within_grows j offset lo hi h =
      let made = h.made in
      let more = w.made in
      let within = h.within in
      let e = ap length (bytes_stay j (apart j made)) in
      record { made = omega (arith, made, more); above = h.above; below = h.below; within = omega (arith, within, e) }

  pub pointer_in_grows : (x : MachinePointer) → IsPointerIn old x → IsPointerIn new x
  pointer_in_grows null h = h
  pointer_in_grows (into j offset lo hi) h = within_grows j offset lo hi h

  pub scalar_in_grows : (x : Scalar) → IsScalarIn old x → IsScalarIn new x
  scalar_in_grows (integer n labels) h = h
  scalar_in_grows (pointer x) h = pointer_in_grows x h

  pub content_in_grows : (c : Content) (tag : Option Tag) → IsContentIn old c tag → IsContentIn new c tag
  content_in_grows indeterminate tag h = h
  content_in_grows (number n labels) tag h = h
  content_in_grows (part x k) tag h = (pointer_in_grows x h.0, h.1)

  pub named_grows : (x : MachinePointer) → IsPointerIn old x → IsNamed naming old x → IsNamed new_naming new x
  named_grows null i h = h
  named_grows (into j offset lo hi) i h = λ e f. h (λ g. e (life_stays j (apart j i.made) ∙ g)) (sym (t.others j (apart j i.made)) ∙ f)

  pub content_named_grows : (c : Content) (tag : Option Tag) → IsContentIn old c tag → IsContentNamed naming old c → IsContentNamed new_naming new c
  content_named_grows indeterminate tag i h = h
  content_named_grows (number n labels) tag i h = h
  content_named_grows (part x k) tag i h = named_grows x i.0 h

  -- a live instance of another base was there
  pub was_there : (d j : ℕ) → (d ≡ b → ⊥) → IsLiveOf new_naming new d j → (j ≡ length old → ⊥) × IsLiveOf naming old d j
  was_there d j ne h =
      let other : j ≡ length old → ⊥ = λ e. ne (same_Some d b (sym h.named ∙ (ap new_naming e ∙ t.own))) in
      (other, record { named = sym (t.others j other) ∙ h.named; alive = sym (life_stays j other) ∙ h.alive })

  module _ {I : Type 0} (gamma : I → ℤ → Type 0) where
    into_grows : (v : Pointers I) (j offset lo hi : ℕ) → (j ≡ length old → ⊥) → InGammaInto gamma naming old v j offset lo hi → InGammaInto gamma new_naming new v j offset lo hi
    into_grows v j offset lo hi ne s = record {
      base = s.base;
      named = t.others j ne ∙ s.named;
      among = s.among;
      lower = s.lower;
      relative = s.relative;
      room = s.room;
      whole = λ e. let r = s.whole e in (r.0, r.1 ∙ sym (ap length (bytes_stay j ne)));
    }

    life_grows : (v : Pointers I) (life : Life) (j offset lo hi : ℕ) → (j ≡ length old → ⊥) → InGammaByLife gamma naming old v life j offset lo hi → InGammaByLife gamma new_naming new v life j offset lo hi
    life_grows v live j offset lo hi ne s = into_grows v j offset lo hi ne s
    life_grows v ended j offset lo hi ne s = s
    life_grows v freed j offset lo hi ne s = into_grows v j offset lo hi ne s

    pub pointer_grows : (v : Pointers I) (x : MachinePointer) → IsPointerIn old x → InGammaPointer gamma naming old v x → InGammaPointer gamma new_naming new v x
    pointer_grows v null i s = s
    pointer_grows v (into j offset lo hi) i s =
        let ne = apart j i.made in
        subst (λ z. InGammaByLife gamma new_naming new v z j offset lo hi) (sym (life_stays j ne)) (life_grows v (life_at old j) j offset lo hi ne s)

    pub scalar_grows : (v : Value I) (x : Scalar) → IsScalarIn old x → InGammaScalar gamma naming old v x → InGammaScalar gamma new_naming new v x
    scalar_grows v (integer n labels) i s = s
    scalar_grows v (pointer x) i s = pointer_grows v.pointer x i s

    pub content_grows : (v : Value I) (class : Class) (c : Content) (tag : Option Tag) → IsContentIn old c tag → InGammaContent gamma naming old v class c → InGammaContent gamma new_naming new v class c
    content_grows v class indeterminate tag i s = s
    content_grows v class (number n labels) tag i s = s
    content_grows v class (part x k) tag i s = pointer_grows v.pointer x i.0 s

    pub matched_was : (j o k : ℕ) (class : Class) (c : Content) → (j ≡ length old → ⊥) → Matched new j o class k c → Matched old j o class k c
    matched_was j o k class c ne m = record { tag = m.tag; here = sym (byte_stays j o ne) ∙ m.here; fits = m.fits }

    -- a cell of another base stands for what it stood for
    pub cell_grows : (flow : Flow) → ((i offset : ℕ) (byte : Byte) → byte_at old i offset ≡ Some byte → IsContentIn old byte.content byte.tag)
        → (d : ℕ) (class : Class) (signed : Bool) (Place Owns : ℕ → ℕ → Type 0) (v : Value I) → (d ≡ b → ⊥) → InGammaCell gamma flow naming old d class signed Place Owns v → InGammaCell gamma flow new_naming new d class signed Place Owns v
    cell_grows flow bytes d class signed Place Owns v ne cell = record {
      whole = λ j o ns h place plain held.
          let k = was_there d j ne h in
          cell.whole j o ns k.1 (subst (λ z. Place (length z) o) (bytes_stay j k.0) place) plain (record { size = held.size; each = λ m y less f. matched_was j (o + m) m class _ k.0 (held.each m y less f) });
      byte = λ j o m c h owns x.
          let k = was_there d j ne h in
          let y = matched_was j o m class c k.0 x in
          content_grows v class c y.tag (bytes j o (record { content = c; tag = y.tag }) y.here) (cell.byte j o m c k.1 owns y);
    }
