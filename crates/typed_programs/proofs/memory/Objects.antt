-- Where an object's lifetime begins or ends, or its bytes are set, memory stays typed.
use Rattle.std.proofs.Common.{◌≡◌, inl, inr, ℕ, zero, suc, ◌+◌, ◌<◌, Bool, true, false, Option, Some, None, List, [], ◌∷◌, ◌++◌, length, take, refl, sym, ap, ◌∙◌, subst, arith, length-append}
use Rattle.std.specs.Prelude.{slice_get, set}
use Rattle.std.proofs.lemmas.Bool.{cases_eq, ne_eqb}
use Rattle.std.proofs.lemmas.List.{length-set}
use Rattle.std.proofs.lemmas.Option.{same_Some, slice_get_within}
use Rattle.c_layout.specs.StructViews.{StructView}
use Rattle.c_layout.specs.Types.{Ty}
use Rattle.c_layout.specs.declared.data_model.Model.{Model}
use Rattle.c_layout.specs.declared.leaf_lists.Leaf.{Leaf}
use Rattle.memory_model.specs.Memory.Labels.{no_labels}
use Rattle.memory_model.specs.Memory.Bytes.{MachinePointer, null, into, Content, indeterminate, number, Byte}
use Rattle.memory_model.specs.Memory.Instances.{automatic, Life, ended, Instance, Memory, bytes_of, bytes_at}
use Rattle.memory_model.specs.Effects.NumberedTables.{put_at}
use Rattle.memory_model.specs.Effects.Worlds.{World}
use Rattle.memory_model.specs.Effects.ObjectEffects.{blank_bytes, fresh, next_instance, with_life, holding, all_of, characters}
use Rattle.memory_model.specs.Effects.ScalarBytes.{refilled}
use Rattle.memory_model.specs.Effects.Touches.{storage_of, is_allocated, storage_at}
use Rattle.store_sound.proofs.operations.Slices.{get_left, get_right, get_set_same, get_set_other, get_map}
use Rattle.typed_programs.specs.Types.PointedTypes.{Element, Points}
use Rattle.typed_programs.specs.Types.TypedStates.{AreDeclared, IsTypedMemory}
use Rattle.typed_programs.specs.Types.EffectLaws.{EntersKeepTypes, LeavesKeepTypes, ForgetsKeepTypes, ClearsKeepTypes, SpellsKeepTypes}
use Rattle.typed_programs.proofs.memory.TypedBytes.{IsNoPart, no_part, AreTypedBytes, typed_at, typed_refilled, text_typed, set_keeps}

-- ---- an object more

blank_content : (m : Model) (leaves : List Leaf) (at size k : ℕ) (b : Byte) → slice_get (blank_bytes m leaves at size) k ≡ Some b → indeterminate ≡ b.content
blank_content m leaves at zero k b there = absurd (cc)
blank_content m leaves at (suc size) zero b there = ap (λ z. z.content) (same_Some _ b there)
blank_content m leaves at (suc size) (suc k) b there = blank_content m leaves (suc at) size k b there

put_elsewhere : {A : Type 0} (f : ℕ → Option A) (n m : ℕ) (x : A) → (m ≡ n → ⊥) → put_at f n x m ≡ f m
put_elsewhere {A = A} f n m x other = subst (λ (b : Bool). elim b as (λ _. Option A) [ true ↦ Some x | false ↦ f m ] ≡ f m) (sym (ne_eqb m n other)) refl

module _ (m : Model) (structs : List StructView) (pointer_size : ℕ) (types : ℕ → Option Ty) (t : Ty) (leaves : List Leaf) (size : ℕ) (w : World) (there : (i : ℕ) (u : Ty) → types i ≡ Some u → i < length w.memory) where
  abbrev more : ℕ → Option Ty
  more = put_at types (next_instance w) t

  abbrev one : Instance
  one = fresh automatic (blank_bytes m leaves 0 size)

  abbrev now : Memory
  now = w.memory ++ one ∷ []

  -- what has a type now is the new object, or had it before
  old_type : (i : ℕ) (outer : Ty) → more i ≡ Some outer → (i ≡ length w.memory → ⊥) → types i ≡ Some outer
  old_type i outer is other = sym (put_elsewhere types (length w.memory) i t other) ∙ is

  old_instance : (i : ℕ) (outer : Ty) → types i ≡ Some outer → slice_get now i ≡ slice_get w.memory i
  old_instance i outer is = get_left w.memory (one ∷ []) i (there i outer is)

  new_instance : (i : ℕ) → i ≡ length w.memory → slice_get now i ≡ Some one
  new_instance i same = get_right w.memory (one ∷ []) i 0 (omega (arith, same))

  points_still : (u : Ty) (p : MachinePointer) → Points structs pointer_size types (Element u) p → Points structs pointer_size more (Element u) p
  points_still u null points = tt
  points_still u (into i offset lo hi) points =
      let below = there i points.0 points.1 in
      (points.0, put_elsewhere types (length w.memory) i t (λ (same : i ≡ length w.memory). omega (arith, same, below)) ∙ points.1, points.2)

  entered_typed : IsTypedMemory structs pointer_size types w.memory → IsTypedMemory structs pointer_size more now
  entered_typed typed i offset outer u b p is here content byte = elim (cases_eq i (length w.memory)) [
    | inl same ↦ (let e = blank_content m leaves 0 size offset b (sym (ap (λ o. slice_get (bytes_of o) offset) (new_instance i same)) ∙ here) in absurd (no_part indeterminate p 0 tt (e ∙ content)))
    | inr other ↦ (let old = old_type i outer is other in
        points_still u p (typed i offset outer u b p old (sym (ap (λ o. slice_get (bytes_of o) offset) (old_instance i outer old)) ∙ here) content byte))
  ]

  entered_declared : AreDeclared types w.memory → AreDeclared more now
  entered_declared are i outer is = elim (cases_eq i (length w.memory)) [
    | inl same ↦ ap (λ o. is_allocated (storage_of o)) (new_instance i same)
    | inr other ↦ (let old = old_type i outer is other in ap (λ o. is_allocated (storage_of o)) (old_instance i outer old) ∙ are i outer old)
  ]

  entered_long : length now ≡ length w.memory + 1
  entered_long = length-append w.memory (one ∷ [])

pub enters : EntersKeepTypes
enters m structs pointer_size types t leaves size w there are typed = (entered_typed m structs pointer_size types t leaves size w there typed, entered_long m structs pointer_size types t leaves size w there, entered_declared m structs pointer_size types t leaves size w there are)

-- ---- its end

same_instance : {X : Type 0} (f : Option Instance → X) (memory : Memory) (i : ℕ) (it now : Instance) → slice_get memory i ≡ Some it → f (Some now) ≡ f (Some it) → (j : ℕ) → f (slice_get (set memory i now) j) ≡ f (slice_get memory j)
same_instance f memory i it now is e j = elim (cases_eq j i) [
  | inl same ↦ subst (λ k. f (slice_get (set memory i now) k) ≡ f (slice_get memory k)) (sym same) (ap f (get_set_same memory i now (slice_get_within memory i it is)) ∙ (e ∙ sym (ap f is)))
  | inr other ↦ ap f (get_set_other memory i j now other)
]

life_bytes : (o : Option Instance) (new : Life) (memory : Memory) (i : ℕ) → slice_get memory i ≡ o → (j : ℕ) → bytes_at (with_life o new memory i) j ≡ bytes_at memory j
life_bytes None new memory i is j = refl
life_bytes (Some it) new memory i is j = same_instance bytes_of memory i it (record it { life = new }) is refl j

life_storage : (o : Option Instance) (new : Life) (memory : Memory) (i : ℕ) → slice_get memory i ≡ o → (j : ℕ) → storage_at (with_life o new memory i) j ≡ storage_at memory j
life_storage None new memory i is j = refl
life_storage (Some it) new memory i is j = same_instance storage_of memory i it (record it { life = new }) is refl j

life_long : (o : Option Instance) (new : Life) (memory : Memory) (i : ℕ) → length (with_life o new memory i) ≡ length memory
life_long None new memory i = refl
life_long (Some it) new memory i = length-set memory i (record it { life = new })

pub leaves : LeavesKeepTypes
leaves structs pointer_size types i w typed = record {
  memory = λ j offset outer t b p is there content byte. typed j offset outer t b p is (sym (ap (λ z. slice_get z offset) (life_bytes (slice_get w.memory i) ended w.memory i refl j)) ∙ there) content byte;
  long = life_long (slice_get w.memory i) ended w.memory i;
  storages = life_storage (slice_get w.memory i) ended w.memory i refl;
}

-- ---- its bytes

module _ (structs : List StructView) (pointer_size : ℕ) (types : ℕ → Option Ty) where
  pub all_typed : (outer : Ty) (c : Content) (bytes : List Byte) → IsNoPart c → AreTypedBytes structs pointer_size types outer (all_of c bytes)
  all_typed outer c bytes plain x t b p there content byte =
      let g = get_map (holding c) bytes x b there in
      absurd (no_part c p 0 plain (ap (λ z. z.content) g.2 ∙ content))

pub forgets : ForgetsKeepTypes
forgets structs pointer_size types i w typed = set_keeps structs pointer_size types w i (all_of indeterminate (bytes_at w.memory i)) typed (λ outer is. all_typed structs pointer_size types outer indeterminate (bytes_at w.memory i) tt)

pub clears : ClearsKeepTypes
clears structs pointer_size types i w typed = set_keeps structs pointer_size types w i (all_of (number 0 no_labels) (bytes_at w.memory i)) typed (λ outer is. all_typed structs pointer_size types outer (number 0 no_labels) (bytes_at w.memory i) tt)

pub spells : SpellsKeepTypes
spells structs pointer_size types i offset room text w typed =
    let cs : List Content = take room (characters text ++ number 0 no_labels ∷ []) in
    set_keeps structs pointer_size types w i (refilled (bytes_at w.memory i) offset cs) typed (λ outer is.
    typed_refilled structs pointer_size types outer (bytes_at w.memory i) offset cs (typed_at structs pointer_size types w.memory typed i outer is) (text_typed structs pointer_size types outer offset room text))
