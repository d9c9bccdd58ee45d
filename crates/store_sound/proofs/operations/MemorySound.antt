-- Memory stays sound behind a load and behind a store.
use Rattle.std.proofs.Common.{◌≡◌, ℕ, ◌<◌, Bool, true, false, cond, Option, Some, None, List, [], ◌∷◌, arith, subst, sym, refl, ap, ◌∙◌, inl, inr}
use Rattle.std.specs.Prelude.{slice_get, set}
use Rattle.std.proofs.lemmas.Bool.{cases_Bool, true≢false}
use Rattle.std.proofs.Math.Bool.{and-false}
use Rattle.c_layout.specs.declared.data_model.Model.{Model}
use Rattle.c_layout.specs.declared.leaf_lists.Class.{Class}
use Rattle.c_layout.specs.declared.leaf_lists.Class.TheVariants.{Char}
use Rattle.c_layout.specs.declared.shapes.BaseInfo.{BaseInfo}
use Rattle.cfg.specs.declared.machine_instructions.Scalar.TheVariants as of
use Rattle.cfg.specs.declared.machine_instructions.Scalar as declared
use Rattle.memory_model.specs.Memory.Labels.{Labels}
use Rattle.memory_model.specs.Memory.ScalarSizes.{same_class, class_bytes}
use Rattle.memory_model.specs.Memory.Bytes.{MachinePointer, null, Content, indeterminate, number, part, Byte}
use Rattle.memory_model.specs.Memory.Instances.{ended, bytes_at, byte_at, bytes_of, life_at}
use Rattle.memory_model.specs.Memory.Scalars.{Scalar, integer, pointer}
use Rattle.memory_model.specs.Effects.Worlds.{World, Reply, goes, stops, Stuck}
use Rattle.memory_model.specs.Effects.Operands.{is_of_kind}
use Rattle.memory_model.specs.Effects.ScalarBytes.{scalar_bytes, bits_in, refilled, region}
use Rattle.memory_model.specs.Effects.Touches.{Spot, touched, is_allocated, storage_at, set_bytes}
use Rattle.memory_model.specs.Effects.Accesses.{class_in, numbers_in, pointer_in, pointer_by, are_parts, are_zeros, scalar_in, store, store_at, store_through, stored_bytes}
use Rattle.store_sound.specs.Concretization.ValueMeaning.{Naming}
use Rattle.store_sound.specs.Concretization.SoundMemory.{IsMemoryOf, IsPointerIn, IsScalarIn, IsNamed, IsContentIn, IsContentNamed}
use Rattle.store_sound.specs.Operations.Scalars.{IsScalarNamed}
use Rattle.store_sound.specs.Operations.Shapes.{AreShaped}
use Rattle.store_sound.specs.Operations.MemoryStatements.{LoadKeeps, StoreKeeps}
use Rattle.store_sound.proofs.operations.Slices.{get_map}
use Rattle.store_sound.proofs.operations.Reading.{behind_goes, touched_goes, region_at}
use Rattle.store_sound.proofs.operations.MachineLoads.{HasRead, load_goes, load_same}
use Rattle.store_sound.proofs.operations.MachineStores.{instance_in, set_is, store_spot, store_goes}
use Rattle.store_sound.proofs.operations.Fresh.{number_content}
use Rattle.store_sound.proofs.operations.CellReads.{integer_is, scalar_pointer_is}
use Rattle.store_sound.proofs.operations.StoreMemory.{new_sane}
use Rattle.store_sound.proofs.operations.Refills.{is_refill, refill_sane}
use Rattle.store_sound.proofs.operations.StoreLeaves.{live_ended}

-- ---- loads

cond_is : {A : Type 0} (b : Bool) (x y : A) → cond b (Some x) None ≡ Some y → x ≡ y
cond_is true x y h = cc
cond_is false x y h = cc

-- a pointer that contents are is null, or one of which the first content is a part
by_first : (Q : MachinePointer → Type 0) → Q null → (c : Content) (cs : List Content) (p : MachinePointer) → ((q : MachinePointer) (k : ℕ) → c ≡ part q k → Q q) → pointer_by c cs ≡ Some p → Q p
by_first Q z indeterminate cs p f h = subst Q (cond_is (are_zeros cs) null p h) z
by_first Q z (number n labels) cs p f h = subst Q (cond_is (are_zeros cs) null p h) z
by_first Q z (part q k) cs p f h = subst Q (cond_is (are_parts q 0 cs) q p h) (f q k refl)

pointer_first : (Q : MachinePointer → Type 0) → Q null → (cs : List Content) (p : MachinePointer) → ((q : MachinePointer) (k : ℕ) → slice_get cs 0 ≡ Some (part q k) → Q q) → pointer_in cs ≡ Some p → Q p
pointer_first Q z [] p f h = cc
pointer_first Q z (c ∷ cs) p f h = by_first Q z c (c ∷ cs) p (λ q k e. f q k (ap Some e)) h

some_base : (o : Option ℕ) → (o ≡ None → ⊥) → (b : ℕ) × (o ≡ Some b)
some_base None h = absurd (h refl)
some_base (Some b) h = (b, refl)

module _ (m : Model) (bases : List BaseInfo) (naming : Naming) (w : World) (at : MachinePointer) (kind : declared.Scalar) (sane : IsMemoryOf m bases naming w.memory) (names : IsNamed naming w.memory at) (cs : List Content) (r : HasRead m kind w at cs) where
  -- the first byte that was read
  first_byte : (c : Content) → slice_get cs 0 ≡ Some c → (b : Byte) × (byte_at w.memory r.i r.offset ≡ Some b) × (b.content ≡ c)
  unfolding byte_at
  first_byte c e =
      let x = get_map (λ b. b.content) (region (bytes_at w.memory r.i) r.offset (class_bytes m (class_in kind))) 0 c (subst (λ z. slice_get z 0 ≡ Some c) r.here e) in
      let y = region_at (bytes_at w.memory r.i) r.offset (class_bytes m (class_in kind)) 0 r.offset x.0 x.1 (omega arith) in
      (x.0, y.1, x.2)

  part_in : (q : MachinePointer) (k : ℕ) → slice_get cs 0 ≡ Some (part q k) → IsPointerIn w.memory q
  part_in q k e =
      let b = first_byte (part q k) e in
      let h = subst (λ z. IsContentIn w.memory z b.0.tag) b.2 (sane.bytes r.i r.offset b.0 b.1) in
      h.0

  part_named : (q : MachinePointer) (k : ℕ) → slice_get cs 0 ≡ Some (part q k) → IsNamed naming w.memory q
  part_named q k e =
      let b = first_byte (part q k) e in
      let n : (life_at w.memory r.i ≡ ended → ⊥) → naming r.i ≡ None → ⊥ = subst (IsNamed naming w.memory) r.pointer names in
      let d = some_base (naming r.i) (n (λ f. live_ended (sym r.alive ∙ f))) in
      subst (IsContentNamed naming w.memory) b.2 (sane.named r.i d.0 r.offset b.0 d.1 b.1)

  scalar_within : (v : Scalar) (k : declared.Scalar) → scalar_in k cs ≡ Some v → IsScalarIn w.memory v × IsScalarNamed naming w.memory v
  scalar_within v (of.Int k) h = let f = integer_is (numbers_in cs) k v h in subst (λ z. IsScalarIn w.memory z × IsScalarNamed naming w.memory z) (sym f.2) (tt, tt)
  scalar_within v of.Pointer h =
      let f = scalar_pointer_is (pointer_in cs) v h in
      subst (λ z. IsScalarIn w.memory z × IsScalarNamed naming w.memory z) (sym f.2)
      (pointer_first (IsPointerIn w.memory) tt cs f.0 part_in f.1, pointer_first (IsNamed naming w.memory) tt cs f.0 part_named f.1)

pub loads_keep : (m : Model) (bases : List BaseInfo) → LoadKeeps m bases
loads_keep m bases naming w u at kind v sane inside names h =
    let g = load_goes m kind at w u v h in
    let e : u.memory ≡ w.memory = load_same m kind at w u v h in
    let r = scalar_within m bases naming w at kind sane names g.0 g.1 v kind g.3 in
    record { same = e; within = subst (λ z. IsScalarIn z v) (sym e) r.0; named = subst (λ z. IsScalarNamed naming z v) (sym e) r.1 }

-- ---- stores

char_bytes : (allocated : Bool) (class : Class) (bytes : List Byte) (offset : ℕ) (cs : List Content) → same_class class Char ≡ true → stored_bytes allocated class bytes offset cs ≡ refilled bytes offset cs
char_bytes allocated class bytes offset cs e = rw (e, and-false allocated) refl

-- the bytes of a character are numbers
char_numbers : (kind : declared.Scalar) (v : Scalar) (size : ℕ) → same_class (class_in kind) Char ≡ true → is_of_kind kind v ≡ true → (k : ℕ) (c : Content) → slice_get (scalar_bytes size v) k ≡ Some c → (d : ℕ) × (labels : Labels) × (c ≡ number d labels) × (d < 256)
char_numbers (of.Int kind) (integer n labels) size e f k c g = let r = number_content size (bits_in size n) labels k c g in (r.0, labels, r.1, r.2)
char_numbers (of.Int kind) (pointer p) size e f k c g = absurd (true≢false (sym f))
char_numbers of.Pointer v size e f k c g = absurd (true≢false (sym e))

char_through : (m : Model) (bases : List BaseInfo) (naming : Naming) (w u : World) (p : MachinePointer) (kind : declared.Scalar) (v t : Scalar) → same_class (class_in kind) Char ≡ true → is_of_kind kind v ≡ true → IsMemoryOf m bases naming w.memory → store_through m kind v p w ≡ goes t u → IsMemoryOf m bases naming u.memory
char_through m bases naming w u p kind v t char of_kind sane h =
    let class : Class = class_in kind in
    let size : ℕ = class_bytes m class in
    let cs : List Content = scalar_bytes size v in
    let b = behind_goes (touched w p size true) (store_at m class v) t u h in
    let s = touched_goes w p size true b.0 b.1 b.2 in
    let spot : Spot = b.0 in
    let g = store_spot m class v t spot w u (subst (λ z. store_at m class v spot z ≡ goes t u) s.same b.3) in
    let it = instance_in (slice_get w.memory spot.instance) s.alive in
    let bytes : stored_bytes (is_allocated (storage_at w.memory spot.instance)) class (bytes_at w.memory spot.instance) spot.offset cs ≡ refilled it.0.bytes spot.offset cs =
    char_bytes (is_allocated (storage_at w.memory spot.instance)) class (bytes_at w.memory spot.instance) spot.offset cs char ∙ ap (λ z. refilled (bytes_of z) spot.offset cs) it.1 in
    let mem : u.memory ≡ set w.memory spot.instance (record it.0 { bytes = refilled it.0.bytes spot.offset cs }) =
    ap (λ z. z.memory) g.1 ∙ (ap (set_bytes w.memory spot.instance) bytes ∙ set_is w.memory spot.instance it.0 (refilled it.0.bytes spot.offset cs) it.1) in
    subst (IsMemoryOf m bases naming) (sym mem) (refill_sane m bases naming (is_refill w.memory spot.instance spot.offset cs it.0 it.1) (char_numbers kind v size char of_kind) sane)

char_keeps : (m : Model) (bases : List BaseInfo) (naming : Naming) (w u : World) (p : MachinePointer) (kind : declared.Scalar) (v t : Scalar) → same_class (class_in kind) Char ≡ true → IsMemoryOf m bases naming w.memory → store m kind (pointer p) v w ≡ goes t u → IsMemoryOf m bases naming u.memory
char_keeps m bases naming w u p kind v t char sane h = elim (cases_Bool (is_of_kind kind v)) [
  | inl e ↦ (let g : store_through m kind v p w ≡ goes t u = rw e at h in char_through m bases naming w u p kind v t char e sane g)
  | inr e ↦ (let g : ◌≡◌ {A = Reply Scalar} (stops Stuck w) (goes t u) = rw e at h in cc)
]

pub stores_keep : (m : Model) (bases : List BaseInfo) → AreShaped bases → StoreKeeps m bases
stores_keep m bases shaped naming w u at kind v t sane inside inv known h = elim (cases_Bool (same_class (class_in kind) Char)) [
  | inl e ↦ char_keeps m bases naming w u at kind v t e sane h
  | inr e ↦ (let g = store_goes m kind at v t w u e inside h in new_sane m bases shaped naming kind v g.0 inv known g.1.store sane)
]
