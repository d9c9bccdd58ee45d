-- What the bytes of an instance are that is there when a run begins.
use Rattle.std.proofs.Common.{◌≡◌, ℕ, zero, suc, ◌+◌, ◌<◌, ◌≤◌, Option, Some, List, [], ◌∷◌, ◌++◌, length, arith, subst, sym, refl, ap, ◌∙◌, ◌⊎◌, inl, inr}
use Rattle.std.specs.Prelude.{slice_get, take, ℤ, ◌/◌, ◌%◌}
use Rattle.std.proofs.lemmas.Option.{same_Some}
use Rattle.cc_base.specs.declared.int_types.IntType.{IntType}
use Rattle.c_layout.specs.Types.{Ty, Int}
use Rattle.c_layout.specs.Layout.{size_of_type}
use Rattle.c_layout.specs.Leaves.{leaves_of}
use Rattle.c_layout.specs.CheckedUnits.{StaticStoreView, SetValue, SetText, UnitView}
use Rattle.c_layout.specs.declared.checked_tree.checked_units.StaticBase.{StaticBase}
use Rattle.c_layout.specs.declared.checked_tree.checked_units.StaticValue.{StaticValue}
use Rattle.c_layout.specs.declared.checked_tree.checked_units.StaticValue.TheVariants.{Number, Null, Address}
use Rattle.memory_model.specs.Memory.Labels.{Labels, no_labels, input_labels}
use Rattle.memory_model.specs.Memory.Bytes.{MachinePointer, into, Content, number, part, Tag, Byte}
use Rattle.memory_model.specs.Memory.Scalars.{integer}
use Rattle.memory_model.specs.Memory.Tags.{tag_at}
use Rattle.memory_model.specs.Effects.ObjectEffects.{holding, all_of, characters}
use Rattle.memory_model.specs.Effects.ScalarBytes.{number_bytes, parts_from, scalar_bytes, filled, refilled, bits_in}
use Rattle.memory_model.specs.Effects.UnitStarts.{base_instance, value_bytes, all_stored, typed_bytes}
use Rattle.store_monotone.specs.Operations.StoreLaws.{AreBytes}
use Rattle.store_sound.proofs.operations.Slices.{get_map}
use Rattle.library_sound.proofs.GrownSanity.{blank_long, blank_byte}
use Rattle.entry_sound.specs.Memory.FirstStates.{input_bytes}

no_element : {A : Type 0} (x : A) (k : ℕ) → slice_get [] k ≡ Some x → ⊥
no_element x k e = cc

-- ---- contents of scalars

-- the content of a byte of a number
pub record IsNumberByte (labels : Labels) (c : Content) : Type 0 where
  pub value : ℕ
  pub is : c ≡ number value labels
  pub small : value < 256

pub numbers_at : (size n : ℕ) (labels : Labels) (k : ℕ) (c : Content) → slice_get (number_bytes size n labels) k ≡ Some c → IsNumberByte labels c
numbers_at zero n labels k c e = absurd (no_element c k e)
numbers_at (suc size) n labels zero c e = record { value = n % 256; is = sym (same_Some (number (n % 256) labels) c e); small = omega arith }
numbers_at (suc size) n labels (suc k) c e = numbers_at size (n / 256) labels k c e

pub numbers_long : (size n : ℕ) (labels : Labels) → length (number_bytes size n labels) ≡ size
numbers_long zero n labels = refl
numbers_long (suc size) n labels = ap suc (numbers_long size (n / 256) labels)

pub parts_at : (p : MachinePointer) (at size k : ℕ) (c : Content) → slice_get (parts_from p at size) k ≡ Some c → (c ≡ part p (at + k)) × (k < size)
parts_at p at zero k c e = absurd (no_element c k e)
parts_at p at (suc size) zero c e = let z : at ≡ at + 0 = omega arith in (sym (same_Some (part p at) c e) ∙ ap (part p) z, omega arith)
parts_at p at (suc size) (suc k) c e =
    let r = parts_at p (suc at) size k c e in
    let z : suc at + k ≡ at + suc k = omega arith in
    let h = r.1 in
    (r.0 ∙ ap (part p) z, omega (arith, h))

pub text_at : (text : List ℕ) → AreBytes text → (k : ℕ) (c : Content) → slice_get (characters text ++ number 0 no_labels ∷ []) k ≡ Some c → IsNumberByte no_labels c
text_at [] small zero c e = record { value = 0; is = sym (same_Some (number 0 no_labels) c e); small = omega arith }
text_at [] small (suc k) c e = absurd (no_element c k e)
text_at (x ∷ text) small zero c e = let h = small.0 in record { value = x; is = sym (same_Some (number x no_labels) c e); small = h }
text_at (x ∷ text) small (suc k) c e = text_at text small.1 k c e

-- ---- bytes that are written

-- a byte behind a write: it was there, or its content is the written one; its tag was there
pub record IsRefilled (bytes : List Byte) (offset : ℕ) (cs : List Content) (x : ℕ) (b : Byte) : Type 0 where
  pub was : Byte
  pub there : slice_get bytes x ≡ Some was
  pub tag : b.tag ≡ was.tag
  pub content : (b.content ≡ was.content) ⊎ ((k : ℕ) × (x ≡ offset + k) × (slice_get cs k ≡ Some b.content))

filled_at : (bs : List Byte) (cs : List Content) (x : ℕ) (b : Byte) → slice_get (filled bs cs) x ≡ Some b → IsRefilled bs 0 cs x b
filled_at [] [] x b e = absurd (no_element b x e)
filled_at [] (c ∷ cs) x b e = absurd (no_element b x e)
filled_at (a ∷ bs) [] x b e = record { was = b; there = e; tag = refl; content = inl refl }
filled_at (a ∷ bs) (c ∷ cs) zero b e =
    let same = same_Some (record a { content = c }) b e in
    record { was = a; there = refl; tag = sym (ap (λ z. z.tag) same); content = inr (0, refl, ap (λ z. Some z.content) same) }
filled_at (a ∷ bs) (c ∷ cs) (suc x) b e =
    let r = filled_at bs cs x b e in
    record {
      was = r.was;
      there = r.there;
      tag = r.tag;
      content = elim r.content [
        | inl h ↦ inl h
        | inr h ↦ (let z = h.1 in inr (suc h.0, omega (arith, z), h.2))
      ];
    }

pub refilled_at : (offset : ℕ) (bs : List Byte) (cs : List Content) (x : ℕ) (b : Byte) → slice_get (refilled bs offset cs) x ≡ Some b → IsRefilled bs offset cs x b
refilled_at zero bs cs x b e = filled_at bs cs x b e
refilled_at (suc offset) [] cs x b e = let r = filled_at [] cs x b e in absurd (no_element r.was x r.there)
refilled_at (suc offset) (a ∷ bs) cs zero b e = record { was = a; there = refl; tag = sym (ap (λ z. z.tag) (same_Some a b e)); content = inl (sym (ap (λ z. z.content) (same_Some a b e))) }
refilled_at (suc offset) (a ∷ bs) cs (suc x) b e =
    let r = refilled_at offset bs cs x b e in
    record {
      was = r.was;
      there = r.there;
      tag = r.tag;
      content = elim r.content [
        | inl h ↦ inl h
        | inr h ↦ (let z = h.1 in inr (h.0, omega (arith, z), h.2))
      ];
    }

filled_long : (bs : List Byte) (cs : List Content) → length (filled bs cs) ≡ length bs
filled_long [] [] = refl
filled_long [] (c ∷ cs) = refl
filled_long (b ∷ bs) [] = refl
filled_long (b ∷ bs) (c ∷ cs) = ap suc (filled_long bs cs)

pub refilled_long : (offset : ℕ) (bs : List Byte) (cs : List Content) → length (refilled bs offset cs) ≡ length bs
refilled_long zero bs cs = filled_long bs cs
refilled_long (suc offset) [] cs = filled_long [] cs
refilled_long (suc offset) (b ∷ bs) cs = ap suc (refilled_long offset bs cs)

all_long : (c : Content) (bs : List Byte) → length (all_of c bs) ≡ length bs
all_long c [] = refl
all_long c (b ∷ bs) = ap suc (all_long c bs)

module _ (u : UnitView) where
  pub stored_long : (ss : List StaticStoreView) (bs : List Byte) → length (all_stored u ss bs) ≡ length bs
  stored_long [] bs = refl
  stored_long (SetValue offset v ∷ ss) bs = stored_long ss (refilled bs offset (value_bytes u v)) ∙ refilled_long offset bs (value_bytes u v)
  stored_long (SetText offset room text ∷ ss) bs = stored_long ss (refilled bs offset (take room (characters text ++ number 0 no_labels ∷ []))) ∙ refilled_long offset bs (take room (characters text ++ number 0 no_labels ∷ []))

  pub typed_long : (t : Ty) → length (typed_bytes u t) ≡ size_of_type u.structs u.model.pointer t
  typed_long t = blank_long u.model (leaves_of u.structs u.model.pointer t) 0 (size_of_type u.structs u.model.pointer t)

  pub zeros_long : (t : Ty) → length (all_of (number 0 no_labels) (typed_bytes u t)) ≡ size_of_type u.structs u.model.pointer t
  zeros_long t = all_long (number 0 no_labels) (typed_bytes u t) ∙ typed_long t

  -- ---- what holds of all bytes of an object

  module _ (tags : ℕ → Option Tag) (P : Content → Option Tag → Type 0) where
    pub record IsHeld (x : ℕ) (b : Byte) : Type 0 where
      pub tag : b.tag ≡ tags x
      pub content : P b.content (tags x)

    abbrev pub AreHeldBytes : List Byte → Type 0
    AreHeldBytes bs = (x : ℕ) (b : Byte) → slice_get bs x ≡ Some b → IsHeld x b

    -- contents may be written at an offset
    abbrev pub AreFine : ℕ → List Content → Type 0
    AreFine offset cs = (k : ℕ) (c : Content) → slice_get cs k ≡ Some c → P c (tags (offset + k))

    pub refilled_held : (offset : ℕ) (bs : List Byte) (cs : List Content) → AreHeldBytes bs → AreFine offset cs → AreHeldBytes (refilled bs offset cs)
    refilled_held offset bs cs held fine x b e =
        let r = refilled_at offset bs cs x b e in
        let h = held x r.was r.there in
        record {
          tag = r.tag ∙ h.tag;
          content = elim r.content [
            | inl same ↦ subst (λ z. P z (tags x)) (sym same) h.content
            | inr new ↦ subst (λ z. P b.content (tags z)) (sym new.1) (fine new.0 b.content new.2)
          ];
        }

    abbrev pub IsFineStore : StaticStoreView → Type 0
    IsFineStore (SetValue offset v) = AreFine offset (value_bytes u v)
    IsFineStore (SetText offset room text) = AreFine offset (take room (characters text ++ number 0 no_labels ∷ []))

    abbrev pub AreFineStores : List StaticStoreView → Type 0
    AreFineStores [] = Unit {0}
    AreFineStores (s ∷ ss) = IsFineStore s × AreFineStores ss

    pub stored_held : (ss : List StaticStoreView) (bs : List Byte) → AreFineStores ss → AreHeldBytes bs → AreHeldBytes (all_stored u ss bs)
    stored_held [] bs fine held = held
    stored_held (SetValue offset v ∷ ss) bs fine held = stored_held ss (refilled bs offset (value_bytes u v)) fine.1 (refilled_held offset bs (value_bytes u v) held fine.0)
    stored_held (SetText offset room text ∷ ss) bs fine held =
        let cs : List Content = take room (characters text ++ number 0 no_labels ∷ []) in
        stored_held ss (refilled bs offset cs) fine.1 (refilled_held offset bs cs held fine.0)

  -- ---- cleared bytes, and numbers

  abbrev pub typed_tags : Ty → ℕ → Option Tag
  typed_tags t x = tag_at u.model (leaves_of u.structs u.model.pointer t) x

  pub typed_tag : (t : Ty) (x : ℕ) (b : Byte) → slice_get (typed_bytes u t) x ≡ Some b → b.tag ≡ typed_tags t x
  typed_tag t x b e = ap (λ z. z.tag) (blank_byte u.model (leaves_of u.structs u.model.pointer t) 0 (size_of_type u.structs u.model.pointer t) x x b (omega arith) e)

  pub zeros_held : (t : Ty) (P : Content → Option Tag → Type 0) → ((tag : Option Tag) → P (number 0 no_labels) tag) → AreHeldBytes (typed_tags t) P (all_of (number 0 no_labels) (typed_bytes u t))
  zeros_held t P zero_is x b e =
      let g = get_map (holding (number 0 no_labels)) (typed_bytes u t) x b e in
      record {
        tag = sym (ap (λ z. z.tag) g.2) ∙ typed_tag t x g.0 g.1;
        content = subst (λ z. P z (typed_tags t x)) (ap (λ z. z.content) g.2) (zero_is (typed_tags t x));
      }

  -- what a value writes: numbers without labels, or the parts of a pointer
  pub value_at : (v : StaticValue) (k : ℕ) (c : Content) → slice_get (value_bytes u v) k ≡ Some c
      → IsNumberByte no_labels c ⊎ ((object : StaticBase) × (offset : ℕ) × (lo : ℕ) × (hi : ℕ) × (v ≡ Address object offset lo hi) × (c ≡ part (into (base_instance u object) offset lo hi) k) × (k < u.model.pointer))
  value_at (Number n kind) k c e = inl (numbers_at kind.bytes (bits_in kind.bytes n) no_labels k c e)
  value_at Null k c e = inl (numbers_at u.model.pointer 0 no_labels k c e)
  value_at (Address object offset lo hi) k c e =
      let p = parts_at (into (base_instance u object) offset lo hi) 0 u.model.pointer k c e in
      let z : 0 + k ≡ k = omega arith in
      inr (object, offset, lo, hi, refl, p.0 ∙ ap (part (into (base_instance u object) offset lo hi)) z, p.1)

  -- ---- parameters

  pub input_long : (kind : IntType) (n : ℤ) → length (input_bytes u kind n) ≡ kind.bytes
  input_long kind n = refilled_long 0 (typed_bytes u (Int kind)) (scalar_bytes kind.bytes (integer n (input_labels kind))) ∙ typed_long (Int kind)

  filled_whole : (bs : List Byte) (cs : List Content) → length bs ≤ length cs → (x : ℕ) (b : Byte) → slice_get (filled bs cs) x ≡ Some b → slice_get cs x ≡ Some b.content
  filled_whole [] [] long x b e = absurd (no_element b x e)
  filled_whole [] (c ∷ cs) long x b e = absurd (no_element b x e)
  filled_whole (a ∷ bs) [] long x b e = absurd (omega (arith, long))
  filled_whole (a ∷ bs) (c ∷ cs) long zero b e = ap (λ z. Some z.content) (same_Some (record a { content = c }) b e)
  filled_whole (a ∷ bs) (c ∷ cs) long (suc x) b e = filled_whole bs cs (omega (arith, long)) x b e

  -- each byte is one of a number with the labels of input, under the tag of its offset
  pub input_at : (kind : IntType) (n : ℤ) (x : ℕ) (b : Byte) → slice_get (input_bytes u kind n) x ≡ Some b → (b.tag ≡ typed_tags (Int kind) x) × IsNumberByte (input_labels kind) b.content
  input_at kind n x b e =
      let bs : List Byte = typed_bytes u (Int kind) in
      let cs : List Content = number_bytes kind.bytes (bits_in kind.bytes n) (input_labels kind) in
      let r = refilled_at 0 bs cs x b e in
      let long = typed_long (Int kind) in
      let more = numbers_long kind.bytes (bits_in kind.bytes n) (input_labels kind) in
      (r.tag ∙ typed_tag (Int kind) x r.was r.there, numbers_at kind.bytes (bits_in kind.bytes n) (input_labels kind) x b.content (filled_whole bs cs (omega (arith, long, more)) x b e))
