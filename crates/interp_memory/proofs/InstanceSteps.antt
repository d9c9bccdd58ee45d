-- Instances of a program and those of the machines, place by place.
use Rattle.std.proofs.Common.{◌≡◌, ℕ, zero, suc, ◌<◌, ◌≤◌, Bool, List, [], ◌∷◌, length, get_or, refl, arith, map, set, slice_get, Option, option_map, Some, None, ⊎_elim, subst, sym, ap, ◌∙◌}
use Rattle.std.proofs.lemmas.Bool.{cases_lt}
use Rattle.std.proofs.lemmas.List.{map-set}
use Rattle.std.proofs.lemmas.Option.{slice_get-map, slice_get_past}
use Rattle.memory_model.specs.Memory.Bytes.{Byte}
use Rattle.memory_model.specs.Memory.Instances.{Instance, bytes_of, bytes_at, life_of, life_at}
use Rattle.memory_model.specs.Effects.ObjectEffects.{with_life, set_life}
use Rattle.memory_model.specs.Effects.Touches.{storage_of, storage_at, with_bytes, set_bytes}
use Rattle.interp_memory.specs.ByteViews.{bytes_view}
use Rattle.interp_memory.specs.InstanceViews.{storage_view, life_view, instance_view, byte_put, with_byte}
use Rattle.interp_memory.specs.declared.byte_forms.InstState.{InstState}
use Rattle.interp_memory.specs.declared.instances.Instance as held

pub instance_there : (xs : List held.Instance) (i : ℕ) (x : held.Instance) → slice_get xs i ≡ Some x → slice_get (map instance_view xs) i ≡ Some (instance_view x)
instance_there xs i x h = slice_get-map instance_view xs i ∙ ap (option_map instance_view) h

pub instance_past : (xs : List held.Instance) (i : ℕ) → length xs ≤ i → slice_get (map instance_view xs) i ≡ None
instance_past xs i h = slice_get-map instance_view xs i ∙ ap (option_map instance_view) (slice_get_past xs i h)

-- ---- what is read

pub storage_there : (xs : List held.Instance) (i : ℕ) (x : held.Instance) → slice_get xs i ≡ Some x → storage_view x.kind ≡ storage_at (map instance_view xs) i
storage_there xs i x h = sym (ap storage_of (instance_there xs i x h))

pub life_there : (xs : List held.Instance) (i : ℕ) (x : held.Instance) → slice_get xs i ≡ Some x → life_view x.state ≡ life_at (map instance_view xs) i
life_there xs i x h = sym (ap life_of (instance_there xs i x h))

pub bytes_there : (xs : List held.Instance) (i : ℕ) (x : held.Instance) → slice_get xs i ≡ Some x → bytes_view x.bytes.items ≡ bytes_at (map instance_view xs) i
bytes_there xs i x h = sym (ap bytes_of (instance_there xs i x h))

-- ---- what is written

pub life_set : (xs : List held.Instance) (i : ℕ) (x : held.Instance) (s : InstState) → slice_get xs i ≡ Some x → map instance_view (set xs i (record x { state = s })) ≡ set_life (map instance_view xs) i (life_view s)
life_set xs i x s h =
    map-set instance_view xs i (record x { state = s })
    ∙ sym (ap (λ o. with_life o (life_view s) (map instance_view xs) i) (instance_there xs i x h))

pub life_kept : (xs : List held.Instance) (i : ℕ) (s : InstState) → length xs ≤ i → map instance_view xs ≡ set_life (map instance_view xs) i (life_view s)
life_kept xs i s h = sym (ap (λ o. with_life o (life_view s) (map instance_view xs) i) (instance_past xs i h))

pub bytes_set : (xs : List held.Instance) (i : ℕ) (x y : held.Instance) → slice_get xs i ≡ Some x → y.kind ≡ x.kind → y.state ≡ x.state → map instance_view (set xs i y) ≡ set_bytes (map instance_view xs) i (bytes_view y.bytes.items)
bytes_set xs i x y h kind state =
    map-set instance_view xs i y
    ∙ ap (λ z. set (map instance_view xs) i z) (ap (λ k. record { storage = storage_view k; life = life_view y.state; bytes = bytes_view y.bytes.items }) kind ∙ ap (λ s. record { storage = storage_view x.kind; life = life_view s; bytes = bytes_view y.bytes.items }) state)
    ∙ sym (ap (λ o. with_bytes o (bytes_view y.bytes.items) (map instance_view xs) i) (instance_there xs i x h))

pub changed : (xs : List held.Instance) (i : ℕ) (x y : held.Instance) (bytes : List Byte) → slice_get xs i ≡ Some x → y.kind ≡ x.kind → y.state ≡ x.state → bytes_view y.bytes.items ≡ bytes → map instance_view (set xs i y) ≡ set_bytes (map instance_view xs) i bytes
changed xs i x y bytes h kind state e = bytes_set xs i x y h kind state ∙ ap (set_bytes (map instance_view xs) i) e

no_byte : (o : Option Instance) (at : ℕ) → o ≡ None → at < length (bytes_of o) → ⊥
no_byte o at e h = let k : at < 0 = subst (λ z. at < length (bytes_of z)) e h in omega arith

-- an instance that has a byte is there
pub there_by : (xs : List held.Instance) (i at : ℕ) → at < length (bytes_at (map instance_view xs) i) → i < length xs
there_by xs i at h =
    ⊎_elim
    (λ (lt : i < length xs). lt)
    (λ (ge : length xs ≤ i). absurd (no_byte (slice_get (map instance_view xs) i) at (instance_past xs i ge) h))
    (cases_lt i (length xs))

-- one byte in the place of another one
pub byte_set : (bs : List Byte) (at : ℕ) (takes_tag : Bool) (new old : Byte) → at < length bs → get_or bs at old ≡ old → set bs at (byte_put takes_tag new old) ≡ with_byte takes_tag new bs at
byte_set [] at t new old h e = refl
byte_set (b ∷ bs) zero t new old h e = ap (λ x. byte_put t new x ∷ bs) (sym e)
byte_set (b ∷ bs) (suc at) t new old h e = ap (λ xs. b ∷ xs) (byte_set bs at t new old (omega arith) e)
