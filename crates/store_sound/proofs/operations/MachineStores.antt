-- What a store of a class other than char does to memory.
use Rattle.std.proofs.Common.{◌≡◌, ℕ, zero, suc, ◌+◌, ◌-◌, ◌/◌, ◌<◌, ◌≤◌, Bool, true, false, ◌||◌, Option, Some, None, List, [], ◌∷◌, ◌++◌, length, take, drop, arith, subst, sym, refl, ap, ◌∙◌, inl, inr}
use Rattle.std.specs.Prelude.{slice_get, set, ◌==◌}
use Rattle.std.proofs.lemmas.Bool.{cases_Bool, cases_eq, cases_lt, and_parts, eqb-true}
use Rattle.std.proofs.lemmas.List.{length-take, length-drop, length-append, length-set}
use Rattle.std.proofs.lemmas.Option.{slice_get_within}
use Rattle.c_layout.specs.declared.data_model.Model.{Model}
use Rattle.c_layout.specs.declared.leaf_lists.Class.{Class}
use Rattle.c_layout.specs.declared.leaf_lists.Class.TheVariants.{Char}
use Rattle.cfg.specs.declared.machine_instructions.Scalar as declared
use Rattle.memory_model.specs.Memory.Labels.{Labels}
use Rattle.store_cells.specs.ClassNumbers.{same_class}
use Rattle.memory_model.specs.Memory.ScalarSizes.{class_bytes}
use Rattle.memory_model.specs.Memory.Bytes.{MachinePointer, null, into, Content, Tag, Byte}
use Rattle.memory_model.specs.Memory.Instances.{Memory, Instance, live, bytes_of, bytes_at, byte_at, life_of, life_at}
use Rattle.memory_model.specs.Memory.Tags.{tag_of, fits_tag, fit_from}
use Rattle.memory_model.specs.Memory.Scalars.{Scalar, integer, pointer}
use Rattle.store_sound.specs.Concretization.SoundMemory.{IsPointerIn, IsWithin}
use Rattle.memory_model.specs.Effects.Worlds.{World, Reply, goes, stops, Left, Stuck}
use Rattle.memory_model.specs.Effects.ScalarBytes.{number_bytes, parts_from, bits_in, scalar_bytes, filled, tagged_from, replaced, refilled, region}
use Rattle.memory_model.specs.Effects.Touches.{Spot, touched, is_allocated, is_literal, storage_of, storage_at, set_bytes}
use Rattle.memory_model.specs.Effects.Accesses.{class_in, is_seen_as, stored_bytes, stored, may_store, store_at, store_through, store}
use Rattle.memory_model.specs.Effects.Operands.{is_of_kind}
use Rattle.store_sound.proofs.operations.Classes.{same_class_is}
use Rattle.store_sound.proofs.operations.Slices.{get_drop, get_left, get_right, get_there, get_set_same, get_set_other}
use Rattle.store_sound.proofs.operations.Reading.{behind_goes, touched_goes, fit_at, region_at, region_length}

-- memory after a store of a class other than char: these contents, under the tags of the class
pub record IsStore (old new : Memory) (i offset : ℕ) (class : Class) (size : ℕ) (cs : List Content) : Type 0 where
  pub made : length new ≡ length old
  pub lives : (j : ℕ) → life_at new j ≡ life_at old j
  pub storages : (j : ℕ) → storage_at new j ≡ storage_at old j
  pub lengths : (j : ℕ) → length (bytes_at new j) ≡ length (bytes_at old j)
  pub long : length cs ≡ size
  pub fits : offset + size ≤ length (bytes_at old i)
  pub outside : (j o : ℕ) → (j ≡ i → offset ≤ o → o < offset + size → ⊥) → byte_at new j o ≡ byte_at old j o
  pub inside : (k : ℕ) (c : Content) → slice_get cs k ≡ Some c → byte_at new i (offset + k) ≡ Some (record { content = c; tag = tag_of class k })
  -- the tags of an object stay
  pub kept : is_allocated (storage_at old i) ≡ false → (k : ℕ) → k < size → (b : Byte) × (byte_at old i (offset + k) ≡ Some b) × (b.tag ≡ tag_of class k)

-- ---- the bytes of a scalar

number_length : (size n : ℕ) (labels : Labels) → length (number_bytes size n labels) ≡ size
number_length zero n labels = refl
number_length (suc k) n labels = let i = number_length k (n / 256) labels in omega arith

parts_length : (p : MachinePointer) (at size : ℕ) → length (parts_from p at size) ≡ size
parts_length p at zero = refl
parts_length p at (suc k) = let i = parts_length p (suc at) k in omega arith

pub scalar_length : (size : ℕ) (v : Scalar) → length (scalar_bytes size v) ≡ size
scalar_length size (integer n labels) = number_length size (bits_in size n) labels
scalar_length size (pointer null) = number_length size 0 _
scalar_length size (pointer (into i offset lo hi)) = parts_length (into i offset lo hi) 0 size

tagged_length : (class : Class) (from : ℕ) (cs : List Content) → length (tagged_from class from cs) ≡ length cs
tagged_length class from [] = refl
tagged_length class from (c ∷ cs) = ap suc (tagged_length class (suc from) cs)

tagged_at : (class : Class) (from : ℕ) (cs : List Content) (k j : ℕ) (c : Content) → slice_get cs k ≡ Some c → j ≡ from + k → slice_get (tagged_from class from cs) k ≡ Some (record { content = c; tag = tag_of class j })
tagged_at class from [] k j c e d = cc
tagged_at class from (x ∷ xs) zero j c e d = let f : x ≡ c = cc in let g : from ≡ j = omega arith in λ i. Some (record { content = f i; tag = tag_of class (g i) })
tagged_at class from (x ∷ xs) (suc k) j c e d = tagged_at class (suc from) xs k j c e (omega arith)

pub filled_length : (bs : List Byte) (cs : List Content) → length (filled bs cs) ≡ length bs
filled_length [] [] = refl
filled_length [] (c ∷ cs) = refl
filled_length (b ∷ bs) [] = refl
filled_length (b ∷ bs) (c ∷ cs) = ap suc (filled_length bs cs)

filled_at : (bs : List Byte) (cs : List Content) (k : ℕ) (b : Byte) (c : Content) → slice_get bs k ≡ Some b → slice_get cs k ≡ Some c → slice_get (filled bs cs) k ≡ Some (record b { content = c })
filled_at [] cs k b c e d = cc
filled_at (x ∷ xs) [] k b c e d = cc
filled_at (x ∷ xs) (y ∷ ys) zero b c e d = let f : x ≡ b = cc in let g : y ≡ c = cc in λ i. Some (record (f i) { content = g i })
filled_at (x ∷ xs) (y ∷ ys) (suc k) b c e d = filled_at xs ys k b c e d

filled_past : (bs : List Byte) (cs : List Content) (k : ℕ) → length cs ≤ k → slice_get (filled bs cs) k ≡ slice_get bs k
filled_past [] [] k h = refl
filled_past [] (y ∷ ys) k h = refl
filled_past (x ∷ xs) [] k h = refl
filled_past (x ∷ xs) (y ∷ ys) zero h = absurd (omega arith)
filled_past (x ∷ xs) (y ∷ ys) (suc k) h = filled_past xs ys k (omega arith)

-- ---- bytes replaced and refilled

module _ {X : Type 0} where
  pub take_at : (n : ℕ) (xs : List X) (k : ℕ) → k < n → slice_get (take n xs) k ≡ slice_get xs k
  take_at zero xs k h = absurd (omega arith)
  take_at (suc n) [] k h = refl
  take_at (suc n) (x ∷ xs) zero h = refl
  take_at (suc n) (x ∷ xs) (suc k) h = take_at n xs k (omega arith)

  pub front_at : (n : ℕ) (xs ys : List X) (k : ℕ) → n ≤ length xs → k < n → slice_get (take n xs ++ ys) k ≡ slice_get xs k
  front_at n xs ys k h j = let e = length-take n xs in get_left (take n xs) ys k (omega arith) ∙ take_at n xs k j

  pub back_at : (n : ℕ) (xs ys : List X) (k j : ℕ) → n ≤ length xs → k ≡ n + j → slice_get (take n xs ++ ys) k ≡ slice_get ys j
  back_at n xs ys k j h d = let e = length-take n xs in get_right (take n xs) ys k j (omega arith)

-- the bytes of the instance that is stored to
pub record BytesStored (old new : List Byte) (offset : ℕ) (class : Class) (size : ℕ) (cs : List Content) : Type 0 where
  pub same : length new ≡ length old
  pub outside : (o : ℕ) → (offset ≤ o → o < offset + size → ⊥) → slice_get new o ≡ slice_get old o
  pub inside : (k : ℕ) (c : Content) → slice_get cs k ≡ Some c → slice_get new (offset + k) ≡ Some (record { content = c; tag = tag_of class k })

replaced_stored : (old : List Byte) (offset : ℕ) (class : Class) (cs : List Content) → offset + length cs ≤ length old → BytesStored old (replaced old offset (tagged_from class 0 cs)) offset class (length cs) cs
replaced_stored old offset class cs h =
    let t = tagged_from class 0 cs in
    let e : length t ≡ length cs = tagged_length class 0 cs in
    let d = length-drop (offset + length t) old in
    let a = length-append t (drop (offset + length t) old) in
    let b = length-append (take offset old) (t ++ drop (offset + length t) old) in
    let g = length-take offset old in
    record {
      same = omega arith;
      outside = λ o n. elim (cases_lt o offset) [
        | inl f ↦ front_at offset old (t ++ drop (offset + length t) old) o (omega arith) f
        | inr f ↦ (let u : offset + length cs ≤ o = elim (cases_lt o (offset + length cs)) [ inl z ↦ absurd (n f z) | inr z ↦ z ] in
            back_at offset old (t ++ drop (offset + length t) old) o (o - offset) (omega arith) (omega arith)
            ∙ (get_right t (drop (offset + length t) old) (o - offset) ((o - offset) - length t) (omega arith)
            ∙ get_drop (offset + length t) old ((o - offset) - length t) o (omega arith)))
      ];
      inside = λ k c f. let w = slice_get_within cs k c f in
          back_at offset old (t ++ drop (offset + length t) old) (offset + k) k (omega arith) refl
          ∙ (get_left t (drop (offset + length t) old) k (omega arith) ∙ tagged_at class 0 cs k k c f (omega arith));
    }

refilled_stored : (old : List Byte) (offset : ℕ) (class : Class) (cs : List Content) → offset + length cs ≤ length old → ((k : ℕ) → k < length cs → (b : Byte) × (slice_get old (offset + k) ≡ Some b) × (b.tag ≡ tag_of class k)) → BytesStored old (refilled old offset cs) offset class (length cs) cs
refilled_stored old offset class cs h tags =
    let d = length-drop offset old in
    let f = filled_length (drop offset old) cs in
    let b = length-append (take offset old) (filled (drop offset old) cs) in
    let g = length-take offset old in
    record {
      same = omega arith;
      outside = λ o n. elim (cases_lt o offset) [
        | inl f ↦ front_at offset old (filled (drop offset old) cs) o (omega arith) f
        | inr f ↦ (let u : offset + length cs ≤ o = elim (cases_lt o (offset + length cs)) [ inl z ↦ absurd (n f z) | inr z ↦ z ] in
            back_at offset old (filled (drop offset old) cs) o (o - offset) (omega arith) (omega arith)
            ∙ (filled_past (drop offset old) cs (o - offset) (omega arith) ∙ get_drop offset old (o - offset) o (omega arith)))
      ];
      inside = λ k c e. let w = slice_get_within cs k c e in
          let t = tags k w in
          back_at offset old (filled (drop offset old) cs) (offset + k) k (omega arith) refl
          ∙ (filled_at (drop offset old) cs k t.0 c (get_drop offset old k (offset + k) refl ∙ t.1) e ∙ ap (λ x. Some (record { content = c; tag = x })) t.2);
    }

pub set_is : (memory : Memory) (i : ℕ) (it : Instance) (bytes : List Byte) → slice_get memory i ≡ Some it → set_bytes memory i bytes ≡ set memory i (record it { bytes = bytes })
set_is memory i it bytes e = rw e

module _ (old : Memory) (i offset : ℕ) (class : Class) (size : ℕ) (cs : List Content) (it : Instance) (at : slice_get old i ≡ Some it) (bytes : List Byte) (b : BytesStored it.bytes bytes offset class size cs) (long : length cs ≡ size) (fits : offset + size ≤ length it.bytes) (kept : is_allocated it.storage ≡ false → (k : ℕ) → k < size → (x : Byte) × (slice_get it.bytes (offset + k) ≡ Some x) × (x.tag ≡ tag_of class k)) where
  new_same : slice_get (set old i (record it { bytes = bytes })) i ≡ Some (record it { bytes = bytes })
  new_same = get_set_same old i (record it { bytes = bytes }) (slice_get_within old i it at)

  new_other : (j : ℕ) → (j ≡ i → ⊥) → slice_get (set old i (record it { bytes = bytes })) j ≡ slice_get old j
  new_other j n = get_set_other old i j (record it { bytes = bytes }) n

  by_instance : {X : Type 0} (f : Option Instance → X) → f (Some (record it { bytes = bytes })) ≡ f (Some it) → (j : ℕ) → f (slice_get (set old i (record it { bytes = bytes })) j) ≡ f (slice_get old j)
  by_instance f e j = elim (cases_eq j i) [
    | inl d ↦ subst (λ k. f (slice_get (set old i (record it { bytes = bytes })) k) ≡ f (slice_get old k)) (sym d) (ap f new_same ∙ (e ∙ sym (ap f at)))
    | inr n ↦ ap f (new_other j n)
  ]

  pub is_store : IsStore old (set old i (record it { bytes = bytes })) i offset class size cs
  unfolding byte_at
  is_store = record {
    made = length-set old i (record it { bytes = bytes });
    lives = by_instance life_of refl;
    storages = by_instance storage_of refl;
    lengths = by_instance (λ o. length (bytes_of o)) b.same;
    long = long;
    fits = subst (λ o. offset + size ≤ length (bytes_of o)) (sym at) fits;
    outside = λ j o n. elim (cases_eq j i) [
      | inl d ↦ subst (λ k. slice_get (bytes_of (slice_get (set old i (record it { bytes = bytes })) k)) o ≡ slice_get (bytes_of (slice_get old k)) o) (sym d)
          (ap (λ x. slice_get (bytes_of x) o) new_same ∙ (b.outside o (n d) ∙ sym (ap (λ x. slice_get (bytes_of x) o) at)))
      | inr e ↦ ap (λ x. slice_get (bytes_of x) o) (new_other j e)
    ];
    inside = λ k c e. ap (λ x. slice_get (bytes_of x) (offset + k)) new_same ∙ b.inside k c e;
    kept = λ e k h. let r = kept (sym (ap (λ x. is_allocated (storage_of x)) at) ∙ e) k h in (r.0, ap (λ x. slice_get (bytes_of x) (offset + k)) at ∙ r.1, r.2);
  }

-- ---- the machine's store

pub instance_in : (o : Option Instance) → life_of o ≡ live → (it : Instance) × (o ≡ Some it)
instance_in None h = cc
instance_in (Some it) h = (it, refl)

-- the machine has stored a scalar
pub record HasStored (m : Model) (class : Class) (p : MachinePointer) (v : Scalar) (w u : World) : Type 0 where
  pub i : ℕ
  pub offset : ℕ
  pub lo : ℕ
  pub hi : ℕ
  pub pointer : p ≡ into i offset lo hi
  pub alive : life_at w.memory i ≡ live
  pub above : lo ≤ offset
  pub below : offset + class_bytes m class ≤ hi
  pub plain : is_literal (storage_at w.memory i) ≡ false
  pub store : IsStore w.memory u.memory i offset class (class_bytes m class) (scalar_bytes (class_bytes m class) v)

seen_tags : (class : Class) (tag : Option Tag) (k : ℕ) → same_class class Char ≡ false → fits_tag false class k tag ≡ true → tag ≡ tag_of class k
seen_tags class None k e h = cc
seen_tags class (Some t) k e h = let p = and_parts (same_class t.class class) (t.at == k) h in let a = same_class_is _ _ p.0 in let b = eqb-true _ _ p.1 in λ i. Some (record { class = a i; at = b i })

tags_kept : (bytes : List Byte) (offset size : ℕ) (class : Class) → same_class class Char ≡ false → offset + size ≤ length bytes → fit_from false class 0 (region bytes offset size) ≡ true → (k : ℕ) → k < size → (x : Byte) × (slice_get bytes (offset + k) ≡ Some x) × (x.tag ≡ tag_of class k)
tags_kept bytes offset size class wide h f k s =
    let t = get_there (region bytes offset size) k (let e = region_length bytes offset size h in omega arith) in
    let r = region_at bytes offset size k (offset + k) t.0 t.1 refl in
    (t.0, r.1, seen_tags class t.0.tag k wide (fit_at false class 0 (region bytes offset size) k k t.0 f t.1 (omega arith)))

stored_is : (allocated : Bool) (old : List Byte) (offset : ℕ) (class : Class) (cs : List Content) → same_class class Char ≡ false → offset + length cs ≤ length old → (allocated ≡ false → (k : ℕ) → k < length cs → (b : Byte) × (slice_get old (offset + k) ≡ Some b) × (b.tag ≡ tag_of class k)) → BytesStored old (stored_bytes allocated class old offset cs) offset class (length cs) cs
stored_is true old offset class cs wide h f = rw wide (replaced_stored old offset class cs h)
stored_is false old offset class cs wide h f = refilled_stored old offset class cs h (f refl)

seen_wide : (class : Class) (bs : List Byte) → same_class class Char ≡ false → is_seen_as false class bs ≡ true → fit_from false class 0 bs ≡ true
seen_wide class bs e h = rw e at h

may_or : (a f : Bool) → (a || f) ≡ true → a ≡ false → f ≡ true
may_or true f h e = cc
may_or false f h e = h

pub store_spot : (m : Model) (class : Class) (v r : Scalar) (spot : Spot) (w u : World) → store_at m class v spot w ≡ goes r u → (may_store m w class spot ≡ true) × (u ≡ stored w class spot (scalar_bytes (class_bytes m class) v))
store_spot m class v r spot w u h = elim (cases_Bool (may_store m w class spot)) [
  | inl e ↦ (let g : goes v (stored w class spot (scalar_bytes (class_bytes m class) v)) ≡ goes r u = rw e at h in (e, cc))
  | inr e ↦ (let g : ◌≡◌ {A = Reply Scalar} (stops Left w) (goes r u) = rw e at h in cc)
]

through_goes : (m : Model) (kind : declared.Scalar) (p : MachinePointer) (v r : Scalar) (w u : World) → same_class (class_in kind) Char ≡ false → IsPointerIn w.memory p → store_through m kind v p w ≡ goes r u → HasStored m (class_in kind) p v w u
through_goes m kind p v r w u wide inside h =
    let class = class_in kind in
    let size = class_bytes m class in
    let cs = scalar_bytes size v in
    let b = behind_goes (touched w p size true) (store_at m class v) r u h in
    let t = touched_goes w p size true b.0 b.1 b.2 in
    let spot : Spot = b.0 in
    let g = store_spot m class v r spot w u (subst (λ z. store_at m class v spot z ≡ goes r u) t.same b.3) in
    let it = instance_in (slice_get w.memory spot.instance) t.alive in
    let ins : IsWithin w.memory spot.instance spot.offset t.lo t.hi = subst (IsPointerIn w.memory) t.pointer inside in
    let len : length (bytes_at w.memory spot.instance) ≡ length it.0.bytes = ap (λ o. length (bytes_of o)) it.1 in
    let top = ins.within in
    let below = t.below in
    let sto : storage_at w.memory spot.instance ≡ it.0.storage = ap storage_of it.1 in
    let lng : length cs ≡ size = scalar_length size v in
    let kept : is_allocated it.0.storage ≡ false → (k : ℕ) → k < size → (x : Byte) × (slice_get it.0.bytes (spot.offset + k) ≡ Some x) × (x.tag ≡ tag_of class k) =
    λ e k z. tags_kept it.0.bytes spot.offset size class wide (omega arith)
    (subst (λ o. fit_from false class 0 (region (bytes_of o) spot.offset size) ≡ true) it.1 (seen_wide class _ wide (may_or _ _ g.0 (ap is_allocated sto ∙ e)))) k z in
    let by : BytesStored it.0.bytes (stored_bytes (is_allocated (storage_at w.memory spot.instance)) class (bytes_at w.memory spot.instance) spot.offset cs) spot.offset class size cs =
    subst (λ z. BytesStored it.0.bytes (stored_bytes (is_allocated (storage_at w.memory spot.instance)) class (bytes_at w.memory spot.instance) spot.offset cs) spot.offset class z cs) lng
    (subst (λ x. BytesStored it.0.bytes (stored_bytes (is_allocated (storage_at w.memory spot.instance)) class x spot.offset cs) spot.offset class (length cs) cs) (sym (ap bytes_of it.1))
    (stored_is (is_allocated (storage_at w.memory spot.instance)) it.0.bytes spot.offset class cs wide (omega arith) (λ e k z. kept (sym (ap is_allocated sto) ∙ e) k (omega arith)))) in
    let made = is_store w.memory spot.instance spot.offset class size cs it.0 it.1 _ by lng (omega arith) kept in
    let mem : u.memory ≡ set w.memory spot.instance (record it.0 { bytes = stored_bytes (is_allocated (storage_at w.memory spot.instance)) class (bytes_at w.memory spot.instance) spot.offset cs }) = ap (λ z. z.memory) g.1 ∙ set_is w.memory spot.instance it.0 _ it.1 in
    record {
      i = spot.instance;
      offset = spot.offset;
      lo = t.lo;
      hi = t.hi;
      pointer = t.pointer;
      alive = t.alive;
      above = t.above;
      below = t.below;
      plain = t.plain;
      store = subst (λ z. IsStore w.memory z spot.instance spot.offset class size cs) (sym mem) made;
    }

-- where a store goes on, the value is of the kind, and its bytes stand in memory
pub store_goes : (m : Model) (kind : declared.Scalar) (p : MachinePointer) (v r : Scalar) (w u : World) → same_class (class_in kind) Char ≡ false → IsPointerIn w.memory p → store m kind (pointer p) v w ≡ goes r u → (is_of_kind kind v ≡ true) × HasStored m (class_in kind) p v w u
store_goes m kind p v r w u wide inside h = elim (cases_Bool (is_of_kind kind v)) [
  | inl e ↦ (let g : store_through m kind v p w ≡ goes r u = rw e at h in (e, through_goes m kind p v r w u wide inside g))
  | inr e ↦ (let g : ◌≡◌ {A = Reply Scalar} (stops Stuck w) (goes r u) = rw e at h in cc)
]
