-- What a store of a character does to memory: one byte gets another content, under the tag that it has.
use Rattle.std.proofs.Common.{◌≡◌, ℕ, zero, suc, ◌+◌, ◌<◌, ◌≤◌, Bool, true, false, Option, Some, None, List, [], ◌∷◌, length, arith, subst, sym, refl, ap, ◌∙◌, inl, inr, ◌⊎◌, cond, not, ◌&&◌}
use Rattle.std.specs.Prelude.{slice_get, set, ℤ, ◌%◌}
use Rattle.std.proofs.lemmas.Bool.{cases_Bool, cases_eq}
use Rattle.std.proofs.lemmas.Option.{same_Some, slice_get_within}
use Rattle.c_layout.specs.declared.data_model.Model.{Model}
use Rattle.c_layout.specs.declared.leaf_lists.Class.{Class}
use Rattle.c_layout.specs.declared.leaf_lists.Class.TheVariants.{Char}
use Rattle.c_layout.specs.Leaves.{class_of}
use Rattle.cfg.specs.declared.machine_instructions.Scalar.TheVariants as of
use Rattle.cfg.specs.declared.machine_instructions.Scalar as declared
use Rattle.memory_model.specs.Memory.Labels.{Labels}
use Rattle.store_cells.specs.ClassNumbers.{same_class}
use Rattle.memory_model.specs.Memory.ScalarSizes.{class_bytes}
use Rattle.memory_model.specs.Memory.Bytes.{MachinePointer, into, Content, number, Tag, Byte}
use Rattle.memory_model.specs.Memory.Instances.{Memory, Instance, live, bytes_of, bytes_at, byte_at, life_at}
use Rattle.memory_model.specs.Memory.Scalars.{Scalar, integer, pointer}
use Rattle.store_sound.specs.Concretization.SoundMemory.{IsPointerIn, IsWithin}
use Rattle.store_sound.specs.Concretization.Matching.{Fits, Matched}
use Rattle.memory_model.specs.Effects.Worlds.{World, Reply, goes, stops, Stuck}
use Rattle.memory_model.specs.Effects.ScalarBytes.{number_bytes, bits_in, scalar_bytes, filled, tagged_from, replaced, refilled}
use Rattle.memory_model.specs.Effects.Touches.{Spot, touched, is_allocated, is_literal, storage_of, storage_at, set_bytes}
use Rattle.memory_model.specs.Effects.Accesses.{class_in, stored_bytes, stored, store_at, store_through, store}
use Rattle.memory_model.specs.Effects.Operands.{is_of_kind}
use Rattle.store_sound.proofs.operations.Classes.{same_class_is}
use Rattle.store_sound.proofs.operations.Slices.{get_there, get_set_same, get_set_other}
use Rattle.store_sound.proofs.operations.Reading.{behind_goes, touched_goes}
use Rattle.store_sound.proofs.operations.MachineStores.{set_is, instance_in, store_spot}
use Rattle.store_sound.proofs.operations.Refills.{IsRefill, is_refill}

-- ---- one byte refilled

filled_none : (xs : List Byte) → filled xs [] ≡ xs
filled_none [] = refl
filled_none (x ∷ xs) = refl

refilled_here : (bytes : List Byte) (offset : ℕ) (c : Content) (b : Byte) → slice_get bytes offset ≡ Some b → slice_get (refilled bytes offset (c ∷ [])) offset ≡ Some (record b { content = c })
refilled_here [] offset c b e = cc
refilled_here (x ∷ xs) zero c b e = let f : x ≡ b = cc in λ i. Some (record (f i) { content = c })
refilled_here (x ∷ xs) (suc n) c b e = refilled_here xs n c b e

refilled_other : (bytes : List Byte) (offset : ℕ) (c : Content) (o : ℕ) → (o ≡ offset → ⊥) → slice_get (refilled bytes offset (c ∷ [])) o ≡ slice_get bytes o
refilled_other [] zero c o n = refl
refilled_other [] (suc k) c o n = refl
refilled_other (x ∷ xs) zero c zero n = absurd (n refl)
refilled_other (x ∷ xs) zero c (suc o) n = ap (λ ys. slice_get ys o) (filled_none xs)
refilled_other (x ∷ xs) (suc k) c zero n = refl
refilled_other (x ∷ xs) (suc k) c (suc o) n = refilled_other xs k c o (λ (e : o ≡ k). n (ap suc e))

-- ---- memory

-- memory in which one byte has another content
pub record IsByteStore (old new : Memory) (i offset : ℕ) (c : Content) : Type 0 where
  pub refill : IsRefill old new (c ∷ [])
  pub fits : offset < length (bytes_at old i)
  pub was : Byte
  pub before : byte_at old i offset ≡ Some was
  pub here : byte_at new i offset ≡ Some (record was { content = c })
  pub outside : (j o : ℕ) → (j ≡ i → o ≡ offset → ⊥) → byte_at new j o ≡ byte_at old j o

module _ (old : Memory) (i offset : ℕ) (c : Content) (it : Instance) (at : slice_get old i ≡ Some it) (b : Byte) (there : slice_get it.bytes offset ≡ Some b) where
  abbrev refreshed : Instance
  refreshed = record it { bytes = refilled it.bytes offset (c ∷ []) }

  new_same : slice_get (set old i refreshed) i ≡ Some refreshed
  new_same = get_set_same old i refreshed (slice_get_within old i it at)

  pub is_byte_store : IsByteStore old (set old i (record it { bytes = refilled it.bytes offset (c ∷ []) })) i offset c
  unfolding byte_at
  is_byte_store = record {
    refill = is_refill old i offset (c ∷ []) it at;
    fits = subst (λ o. offset < length (bytes_of o)) (sym at) (slice_get_within it.bytes offset b there);
    was = b;
    before = ap (λ o. slice_get (bytes_of o) offset) at ∙ there;
    here = ap (λ o. slice_get (bytes_of o) offset) new_same ∙ refilled_here it.bytes offset c b there;
    outside = λ j o n. elim (cases_eq j i) [
      | inl d ↦ subst (λ k. slice_get (bytes_of (slice_get (set old i refreshed) k)) o ≡ slice_get (bytes_of (slice_get old k)) o) (sym d)
          (ap (λ x. slice_get (bytes_of x) o) new_same ∙ (refilled_other it.bytes offset c o (n d) ∙ sym (ap (λ x. slice_get (bytes_of x) o) at)))
      | inr e ↦ ap (λ x. slice_get (bytes_of x) o) (get_set_other old i j refreshed e)
    ];
  }

-- ---- what is seen of the bytes

pub here_or_not : (j o i offset : ℕ) → ((j ≡ i) × (o ≡ offset)) ⊎ (j ≡ i → o ≡ offset → ⊥)
here_or_not j o i offset = elim (cases_eq j i) [
  | inr n ↦ inr (λ e f. n e)
  | inl e ↦ elim (cases_eq o offset) [ inl f ↦ inl (e, f) | inr n ↦ inr (λ g f. n f) ]
]

module _ {old new : Memory} {i offset : ℕ} {c : Content} (s : IsByteStore old new i offset c) where
  pub matched_out : (j o k : ℕ) (d : Class) (x : Content) → Matched new j o d k x → (j ≡ i → o ≡ offset → ⊥) → Matched old j o d k x
  matched_out j o k d x m n = record { tag = m.tag; here = sym (s.outside j o n) ∙ m.here; fits = m.fits }

  pub matched_in : (k : ℕ) (d : Class) (x : Content) → Matched new i offset d k x → (x ≡ c) × Fits d k s.was.tag
  matched_in k d x m =
      let y : Byte = record { content = x; tag = m.tag } in
      let z : Byte = record (s.was) { content = c } in
      let w : y ≡ z = same_Some y z (sym m.here ∙ s.here) in
      (ap (λ r. r.content) w, subst (Fits d k) (ap (λ r. r.tag) w) m.fits)

-- ---- the machine's store

stored_char : (allocated : Bool) (class : Class) (bytes : List Byte) (offset : ℕ) (cs : List Content) → same_class class Char ≡ true → stored_bytes allocated class bytes offset cs ≡ refilled bytes offset cs
stored_char true class bytes offset cs e = rw e refl
stored_char false class bytes offset cs e = refl

-- the byte that a number leaves
abbrev pub byte_of : ℤ → Labels → Content
byte_of z labels = number (bits_in 1 z % 256) labels

one_byte : (size : ℕ) (z : ℤ) (labels : Labels) → size ≡ 1 → scalar_bytes size (integer z labels) ≡ byte_of z labels ∷ []
one_byte size z labels e = ap (λ k. scalar_bytes k (integer z labels)) e

-- the machine has stored a character
pub record HasStoredByte (p : MachinePointer) (z : ℤ) (labels : Labels) (w u : World) : Type 0 where
  pub i : ℕ
  pub offset : ℕ
  pub lo : ℕ
  pub hi : ℕ
  pub pointer : p ≡ into i offset lo hi
  pub alive : life_at w.memory i ≡ live
  pub above : lo ≤ offset
  pub below : offset + 1 ≤ hi
  pub plain : is_literal (storage_at w.memory i) ≡ false
  pub store : IsByteStore w.memory u.memory i offset (byte_of z labels)

through_goes : (m : Model) (kind : declared.Scalar) (p : MachinePointer) (z : ℤ) (labels : Labels) (r : Scalar) (w u : World) → same_class (class_in kind) Char ≡ true → IsPointerIn w.memory p → store_through m kind (integer z labels) p w ≡ goes r u → HasStoredByte p z labels w u
through_goes m kind p z labels r w u char inside h =
    let class : Class = class_in kind in
    let size : ℕ = class_bytes m class in
    let v : Scalar = integer z labels in
    let one : size ≡ 1 = ap (class_bytes m) (same_class_is class Char char) in
    let b = behind_goes (touched w p size true) (store_at m class v) r u h in
    let t = touched_goes w p size true b.0 b.1 b.2 in
    let spot : Spot = b.0 in
    let g = store_spot m class v r spot w u (subst (λ y. store_at m class v spot y ≡ goes r u) t.same b.3) in
    let it = instance_in (slice_get w.memory spot.instance) t.alive in
    let ins : IsWithin w.memory spot.instance spot.offset t.lo t.hi = subst (IsPointerIn w.memory) t.pointer inside in
    let len : length (bytes_at w.memory spot.instance) ≡ length it.0.bytes = ap (λ o. length (bytes_of o)) it.1 in
    let top = ins.within in
    let below = t.below in
    let here = get_there it.0.bytes spot.offset (omega arith) in
    let made = is_byte_store w.memory spot.instance spot.offset (byte_of z labels) it.0 it.1 here.0 here.1 in
    let bytes : stored_bytes (is_allocated (storage_at w.memory spot.instance)) class (bytes_at w.memory spot.instance) spot.offset (scalar_bytes size v) ≡ refilled it.0.bytes spot.offset (byte_of z labels ∷ []) =
    stored_char (is_allocated (storage_at w.memory spot.instance)) class (bytes_at w.memory spot.instance) spot.offset (scalar_bytes size v) char ∙ (ap (λ y. refilled y spot.offset (scalar_bytes size v)) (ap bytes_of it.1) ∙ ap (refilled it.0.bytes spot.offset) (one_byte size z labels one)) in
    let mem : u.memory ≡ set w.memory spot.instance (record it.0 { bytes = refilled it.0.bytes spot.offset (byte_of z labels ∷ []) }) =
    ap (λ y. y.memory) g.1 ∙ (ap (set_bytes w.memory spot.instance) bytes ∙ set_is w.memory spot.instance it.0 (refilled it.0.bytes spot.offset (byte_of z labels ∷ [])) it.1) in
    record {
      i = spot.instance;
      offset = spot.offset;
      lo = t.lo;
      hi = t.hi;
      pointer = t.pointer;
      alive = t.alive;
      above = t.above;
      below = omega arith;
      plain = t.plain;
      store = subst (λ y. IsByteStore w.memory y spot.instance spot.offset (byte_of z labels)) (sym mem) made;
    }

-- what a store of a character stores is a number
pub record StoresByte (p : MachinePointer) (v : Scalar) (w u : World) : Type 0 where
  pub z : ℤ
  pub labels : Labels
  pub is : v ≡ integer z labels
  pub stored : HasStoredByte p z labels w u

char_goes : (m : Model) (kind : declared.Scalar) (p : MachinePointer) (v r : Scalar) (w u : World) → same_class (class_in kind) Char ≡ true → IsPointerIn w.memory p → is_of_kind kind v ≡ true → store_through m kind v p w ≡ goes r u → StoresByte p v w u
char_goes m of.Pointer p v r w u char inside k h = cc
char_goes m (of.Int kind) p (pointer q) r w u char inside k h = cc
char_goes m (of.Int kind) p (integer z labels) r w u char inside k h = record { z = z; labels = labels; is = refl; stored = through_goes m (of.Int kind) p z labels r w u char inside h }

-- where a store of a character goes on, the value is of the kind, and its byte stands in memory
pub byte_goes : (m : Model) (kind : declared.Scalar) (p : MachinePointer) (v r : Scalar) (w u : World) → same_class (class_in kind) Char ≡ true → IsPointerIn w.memory p → store m kind (pointer p) v w ≡ goes r u → (is_of_kind kind v ≡ true) × StoresByte p v w u
byte_goes m kind p v r w u char inside h = elim (cases_Bool (is_of_kind kind v)) [
  | inl e ↦ (let g : store_through m kind v p w ≡ goes r u = rw e at h in (e, char_goes m kind p v r w u char inside e g))
  | inr e ↦ (let g : ◌≡◌ {A = Reply Scalar} (stops Stuck w) (goes r u) = rw e at h in cc)
]
