-- Memory that stays proper and in which no instance gets shorter.
use Rattle.std.proofs.Common.{◌≡◌, ◌≤◌, ◌⊎◌, inl, inr, ℕ, zero, suc, List, [], ◌∷◌, ◌++◌, length, Option, Some, None, refl, sym, ap, ◌∙◌, arith, subst}
use Rattle.std.specs.Prelude.{slice_get, slice_set}
use Rattle.c_layout.specs.declared.data_model.Model.{Model}
use Rattle.memory_model.specs.Memory.Bytes.{Byte}
use Rattle.memory_model.specs.Memory.Instances.{Life, Instance, Memory, bytes_of, bytes_at}
use Rattle.memory_model.specs.Effects.Worlds.{World}
use Rattle.memory_model.specs.Effects.Touches.{with_bytes, set_bytes}
use Rattle.memory_model.specs.Effects.ObjectEffects.{with_instance, with_life, set_life}
use Rattle.source_preservation.specs.ValueTyping.ProperMemory.{IsProperMemory, Grows, Evolves}
use Rattle.source_preservation.proofs.memory.ProperBytes.{AreProperBytes, proper_at, proper_each}

pub grows_same : (memory : Memory) → Grows memory memory
grows_same memory i = omega arith

pub grows_further : (a b c : Memory) → Grows a b → Grows b c → Grows a c
grows_further a b c one two i = omega (arith, one i, two i)

-- ---- the bytes of an instance behind a change

-- an element is the new one or stays
set_split : {A : Type 0} (xs : List A) (i j : ℕ) (x : A) → ((j ≡ i) × (slice_get (slice_set xs i x) j ≡ Some x)) ⊎ (slice_get (slice_set xs i x) j ≡ slice_get xs j)
set_split [] i j x = inr refl
set_split (y ∷ ys) zero zero x = inl (refl, refl)
set_split (y ∷ ys) zero (suc j) x = inr refl
set_split (y ∷ ys) (suc i) zero x = inr refl
set_split (y ∷ ys) (suc i) (suc j) x = elim (set_split ys i j x) [
  | inl h ↦ inl (ap suc h.0, h.1)
  | inr h ↦ inr h
]

bytes_split : (o : Option Instance) (memory : Memory) (i j : ℕ) (bytes : List Byte) → ((j ≡ i) × (bytes_at (with_bytes o bytes memory i) j ≡ bytes)) ⊎ (bytes_at (with_bytes o bytes memory i) j ≡ bytes_at memory j)
bytes_split None memory i j bytes = inr refl
bytes_split (Some it) memory i j bytes = elim (set_split memory i j (record it { bytes = bytes })) [
  | inl h ↦ inl (h.0, ap bytes_of h.1)
  | inr h ↦ inr (ap bytes_of h)
]

-- those that are set, or those that were there
pub set_bytes_split : (memory : Memory) (i j : ℕ) (bytes : List Byte) → ((j ≡ i) × (bytes_at (set_bytes memory i bytes) j ≡ bytes)) ⊎ (bytes_at (set_bytes memory i bytes) j ≡ bytes_at memory j)
set_bytes_split memory i j bytes = bytes_split (slice_get memory i) memory i j bytes

set_here : {A : Type 0} (xs : List A) (i : ℕ) (x y : A) → slice_get xs i ≡ Some x → slice_get (slice_set xs i y) i ≡ Some y
set_here [] i x y is = absurd cc
set_here (z ∷ zs) zero x y is = refl
set_here (z ∷ zs) (suc i) x y is = set_here zs i x y is

set_elsewhere : {A : Type 0} (xs : List A) (i j : ℕ) (x : A) → (j ≡ i → ⊥) → slice_get (slice_set xs i x) j ≡ slice_get xs j
set_elsewhere [] i j x other = refl
set_elsewhere (y ∷ ys) zero zero x other = absurd (other refl)
set_elsewhere (y ∷ ys) zero (suc j) x other = refl
set_elsewhere (y ∷ ys) (suc i) zero x other = refl
set_elsewhere (y ∷ ys) (suc i) (suc j) x other = set_elsewhere ys i j x (λ same. other (ap suc same))

-- those of a fresh instance, and of others
pub bytes_of_fresh : (memory : Memory) (instance : Instance) → bytes_at (memory ++ instance ∷ []) (length memory) ≡ instance.bytes
bytes_of_fresh [] instance = refl
bytes_of_fresh (it ∷ memory) instance = bytes_of_fresh memory instance

-- one more instance leaves the bytes of the others
pub fresh_split : (memory : Memory) (instance : Instance) (j : ℕ) → ((bytes_at memory j ≡ []) × (bytes_at (memory ++ instance ∷ []) j ≡ instance.bytes)) ⊎ (bytes_at (memory ++ instance ∷ []) j ≡ bytes_at memory j)
fresh_split [] instance zero = inl (refl, refl)
fresh_split [] instance (suc j) = inr refl
fresh_split (it ∷ memory) instance zero = inr refl
fresh_split (it ∷ memory) instance (suc j) = fresh_split memory instance j

pub with_instance_grows : (w : World) (instance : Instance) → Grows w.memory (with_instance w instance).memory
with_instance_grows w instance j = elim (fresh_split w.memory instance j) [
  | inl h ↦ subst (λ bs. length bs ≤ length (bytes_at (w.memory ++ instance ∷ []) j)) (sym h.0) (omega arith)
  | inr h ↦ subst (λ bs. length (bytes_at w.memory j) ≤ length bs) (sym h) (omega arith)
]

life_leaves : (o : Option Instance) (memory : Memory) (i j : ℕ) (now : Life) → slice_get memory i ≡ o → bytes_at (with_life o now memory i) j ≡ bytes_at memory j
life_leaves None memory i j now is = refl
life_leaves (Some it) memory i j now is = elim (set_split memory i j (record it { life = now })) [
  | inl h ↦ subst (λ k. bytes_at (with_life (Some it) now memory i) k ≡ bytes_at memory k) (sym h.0) (ap bytes_of (set_here memory i it (record it { life = now }) is) ∙ sym (ap bytes_of is))
  | inr h ↦ ap bytes_of h
]

pub set_life_leaves : (memory : Memory) (i j : ℕ) (now : Life) → bytes_at (set_life memory i now) j ≡ bytes_at memory j
set_life_leaves memory i j now = life_leaves (slice_get memory i) memory i j now refl

-- ---- evolving

module _ (m : Model) where
  pub proper_bytes : (memory : Memory) → IsProperMemory m memory → (i : ℕ) → AreProperBytes m (bytes_at memory i)
  proper_bytes memory proper i = proper_each m (bytes_at memory i) (λ k b is. proper i k b is)

  pub proper_memory : (memory : Memory) → ((i : ℕ) → AreProperBytes m (bytes_at memory i)) → IsProperMemory m memory
  proper_memory memory each i k b is = proper_at m (bytes_at memory i) k b (each i) is

  pub evolves_same : (memory : Memory) → Evolves m memory memory
  evolves_same memory = record { proper = λ p. p; grows = grows_same memory }

  -- memory is equal
  pub evolves_kept : (before after : Memory) → after ≡ before → Evolves m before after
  evolves_kept before after same = subst (λ memory. Evolves m before memory) (sym same) (evolves_same before)

  pub evolves_further : (a b c : Memory) → Evolves m a b → Evolves m b c → Evolves m a c
  evolves_further a b c one two = record { proper = λ p. two.proper (one.proper p); grows = grows_further a b c one.grows two.grows }

  -- the bytes of each instance are as before or proper and no fewer
  pub evolves_each : (before after : Memory) → (IsProperMemory m before → (i : ℕ) → AreProperBytes m (bytes_at after i)) → Grows before after → Evolves m before after
  evolves_each before after proper grows = record { proper = λ p. proper_memory after (proper p); grows = grows }

  -- the bytes of an instance give place to no fewer ones
  pub set_bytes_evolves : (memory : Memory) (i : ℕ) (bytes : List Byte) → (IsProperMemory m memory → AreProperBytes m bytes) → length (bytes_at memory i) ≤ length bytes → Evolves m memory (set_bytes memory i bytes)
  set_bytes_evolves memory i bytes proper long = evolves_each memory (set_bytes memory i bytes) each grows
    where
      each : IsProperMemory m memory → (j : ℕ) → AreProperBytes m (bytes_at (set_bytes memory i bytes) j)
      each p j = elim (set_bytes_split memory i j bytes) [
        | inl h ↦ subst (AreProperBytes m) (sym h.1) (proper p)
        | inr h ↦ subst (AreProperBytes m) (sym h) (proper_bytes memory p j)
      ]

      grows : Grows memory (set_bytes memory i bytes)
      grows j = elim (set_bytes_split memory i j bytes) [
        | inl h ↦ subst (λ bs. length (bytes_at memory j) ≤ length bs) (sym h.1) (subst (λ k. length (bytes_at memory k) ≤ length bytes) (sym h.0) long)
        | inr h ↦ subst (λ bs. length (bytes_at memory j) ≤ length bs) (sym h) (omega arith)
      ]

  pub with_instance_evolves : (w : World) (instance : Instance) → (IsProperMemory m w.memory → AreProperBytes m instance.bytes) → Evolves m w.memory (with_instance w instance).memory
  with_instance_evolves w instance proper = evolves_each w.memory (w.memory ++ instance ∷ []) each (with_instance_grows w instance)
    where
      each : IsProperMemory m w.memory → (j : ℕ) → AreProperBytes m (bytes_at (w.memory ++ instance ∷ []) j)
      each p j = elim (fresh_split w.memory instance j) [
        | inl h ↦ subst (AreProperBytes m) (sym h.1) (proper p)
        | inr h ↦ subst (AreProperBytes m) (sym h) (proper_bytes w.memory p j)
      ]

  pub set_life_evolves : (memory : Memory) (i : ℕ) (now : Life) → Evolves m memory (set_life memory i now)
  set_life_evolves memory i now = evolves_each memory (set_life memory i now) (λ p j. subst (AreProperBytes m) (sym (set_life_leaves memory i j now)) (proper_bytes memory p j)) (λ j. subst (λ bs. length (bytes_at memory j) ≤ length bs) (sym (set_life_leaves memory i j now)) (omega arith))
