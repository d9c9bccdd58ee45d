-- Lists of bytes and contents all of which are proper, and their lengths.
use Rattle.std.proofs.Common.{◌≡◌, ◌≤◌, ℕ, zero, suc, ◌+◌, ◌/◌, List, [], ◌∷◌, ◌++◌, length, take, drop, Some, refl, ap, subst, arith, length-append, length-drop}
use Rattle.std.specs.Prelude.{slice_get, replicate}
use Rattle.std.proofs.lemmas.List.{length-take}
use Rattle.std.proofs.lemmas.Option.{same_Some}
use Rattle.c_layout.specs.declared.data_model.Model.{Model}
use Rattle.c_layout.specs.declared.leaf_lists.Class.{Class}
use Rattle.c_layout.specs.declared.leaf_lists.Leaf.{Leaf}
use Rattle.memory_model.specs.Memory.Labels.{Labels, no_labels}
use Rattle.memory_model.specs.Memory.Bytes.{MachinePointer, null, into, Content, Byte}
use Rattle.memory_model.specs.Memory.Scalars.{Scalar, integer, pointer}
use Rattle.memory_model.specs.Effects.ObjectEffects.{blank_bytes, all_of}
use Rattle.memory_model.specs.Effects.ScalarBytes.{number_bytes, parts_from, pointer_bytes, bits_in, scalar_bytes, filled, tagged_from, replaced, refilled, region, contents}
use Rattle.source_preservation.specs.ValueTyping.Marks.{IsBounded}
use Rattle.source_preservation.specs.ValueTyping.ProperMemory.{IsProper}
use Rattle.source_preservation.specs.Memory.GoingWorlds.{IsProperScalar}

-- ---- lists

module _ {A : Type 0} (P : A → Type 0) where
  abbrev pub Each : List A → Type 0
  Each [] = Unit {0}
  Each (x ∷ xs) = P x × Each xs

  pub each_taken : (n : ℕ) (xs : List A) → Each xs → Each (take n xs)
  each_taken zero xs are = tt
  each_taken (suc n) [] are = tt
  each_taken (suc n) (x ∷ xs) are = (are.0, each_taken n xs are.1)

  pub each_behind : (n : ℕ) (xs : List A) → Each xs → Each (drop n xs)
  each_behind zero xs are = are
  each_behind (suc n) [] are = tt
  each_behind (suc n) (x ∷ xs) are = each_behind n xs are.1

  pub each_both : (xs ys : List A) → Each xs → Each ys → Each (xs ++ ys)
  each_both [] ys one other = other
  each_both (x ∷ xs) ys one other = (one.0, each_both xs ys one.1 other)

  pub each_same : (n : ℕ) (x : A) → P x → Each (replicate n x)
  each_same zero x is = tt
  each_same (suc n) x is = (is, each_same n x is)

  pub each_at : (xs : List A) (k : ℕ) (x : A) → Each xs → slice_get xs k ≡ Some x → P x
  each_at [] k x are is = absurd cc
  each_at (y ∷ ys) zero x are is = subst P (same_Some y x is) are.0
  each_at (y ∷ ys) (suc k) x are is = each_at ys k x are.1 is

  pub each_of : (xs : List A) → ((k : ℕ) (x : A) → slice_get xs k ≡ Some x → P x) → Each xs
  each_of [] each = tt
  each_of (x ∷ xs) each = (each 0 x refl, each_of xs (λ k y is. each (suc k) y is))

-- ---- lengths

pub filled_long : (bs : List Byte) (cs : List Content) → length (filled bs cs) ≡ length bs
filled_long [] [] = refl
filled_long [] (c ∷ cs) = refl
filled_long (b ∷ bs) [] = refl
filled_long (b ∷ bs) (c ∷ cs) = ap suc (filled_long bs cs)

pub refilled_long : (offset : ℕ) (bs : List Byte) (cs : List Content) → length (refilled bs offset cs) ≡ length bs
refilled_long zero bs cs = filled_long bs cs
refilled_long (suc offset) [] cs = filled_long [] cs
refilled_long (suc offset) (b ∷ bs) cs = ap suc (refilled_long offset bs cs)

pub replaced_long : (bs : List Byte) (offset : ℕ) (new : List Byte) → length bs ≤ length (replaced bs offset new)
replaced_long bs offset new = simp (length-append, length-take, length-drop) (omega arith)

pub all_long : (c : Content) (bs : List Byte) → length (all_of c bs) ≡ length bs
all_long c [] = refl
all_long c (b ∷ bs) = ap suc (all_long c bs)

pub blank_long : (m : Model) (leaves : List Leaf) (at size : ℕ) → length (blank_bytes m leaves at size) ≡ size
blank_long m leaves at zero = refl
blank_long m leaves at (suc size) = ap suc (blank_long m leaves (suc at) size)

-- ---- what is proper

module _ (m : Model) where
  abbrev pub IsProperByte : Byte → Type 0
  IsProperByte b = IsProper m b.content

  abbrev pub AreProperBytes : List Byte → Type 0
  AreProperBytes bs = Each IsProperByte bs

  abbrev pub AreProperContents : List Content → Type 0
  AreProperContents cs = Each (IsProper m) cs

  pub proper_at : (bs : List Byte) (k : ℕ) (b : Byte) → AreProperBytes bs → slice_get bs k ≡ Some b → IsProper m b.content
  proper_at bs k b are is = each_at IsProperByte bs k b are is

  pub proper_each : (bs : List Byte) → ((k : ℕ) (b : Byte) → slice_get bs k ≡ Some b → IsProper m b.content) → AreProperBytes bs
  proper_each bs each = each_of IsProperByte bs each

  pub contents_proper : (bs : List Byte) → AreProperBytes bs → AreProperContents (contents bs)
  contents_proper [] are = tt
  contents_proper (b ∷ bs) are = (are.0, contents_proper bs are.1)

  pub region_proper : (bs : List Byte) (offset size : ℕ) → AreProperBytes bs → AreProperBytes (region bs offset size)
  region_proper bs offset size are = each_taken IsProperByte size (drop offset bs) (each_behind IsProperByte offset bs are)

  -- ---- scalars

  pub number_bytes_proper : (size n : ℕ) (labels : Labels) → AreProperContents (number_bytes size n labels)
  number_bytes_proper zero n labels = tt
  number_bytes_proper (suc size) n labels = (omega arith, number_bytes_proper size (n / 256) labels)

  pub parts_proper : (p : MachinePointer) (at size : ℕ) → IsBounded m p → AreProperContents (parts_from p at size)
  parts_proper p at zero is = tt
  parts_proper p at (suc size) is = (is, parts_proper p (suc at) size is)

  pub pointer_bytes_proper : (size : ℕ) (p : MachinePointer) → IsBounded m p → AreProperContents (pointer_bytes size p)
  pointer_bytes_proper size null is = number_bytes_proper size 0 no_labels
  pointer_bytes_proper size (into i offset lo hi) is = parts_proper (into i offset lo hi) 0 size is

  pub scalar_bytes_proper : (size : ℕ) (v : Scalar) → IsProperScalar m v → AreProperContents (scalar_bytes size v)
  scalar_bytes_proper size (integer n labels) is = number_bytes_proper size (bits_in size n) labels
  scalar_bytes_proper size (pointer p) is = pointer_bytes_proper size p is

  -- ---- bytes that are written

  pub filled_proper : (bs : List Byte) (cs : List Content) → AreProperBytes bs → AreProperContents cs → AreProperBytes (filled bs cs)
  filled_proper [] [] one other = tt
  filled_proper [] (c ∷ cs) one other = tt
  filled_proper (b ∷ bs) [] one other = one
  filled_proper (b ∷ bs) (c ∷ cs) one other = (other.0, filled_proper bs cs one.1 other.1)

  pub refilled_proper : (bs : List Byte) (offset : ℕ) (cs : List Content) → AreProperBytes bs → AreProperContents cs → AreProperBytes (refilled bs offset cs)
  refilled_proper bs offset cs one other = each_both IsProperByte (take offset bs) (filled (drop offset bs) cs) (each_taken IsProperByte offset bs one) (filled_proper (drop offset bs) cs (each_behind IsProperByte offset bs one) other)

  pub tagged_proper : (class : Class) (k : ℕ) (cs : List Content) → AreProperContents cs → AreProperBytes (tagged_from class k cs)
  tagged_proper class k [] are = tt
  tagged_proper class k (c ∷ cs) are = (are.0, tagged_proper class (suc k) cs are.1)

  pub replaced_proper : (bs : List Byte) (offset : ℕ) (new : List Byte) → AreProperBytes bs → AreProperBytes new → AreProperBytes (replaced bs offset new)
  replaced_proper bs offset new one other = each_both IsProperByte (take offset bs) (new ++ drop (offset + length new) bs) (each_taken IsProperByte offset bs one) (each_both IsProperByte new (drop (offset + length new) bs) other (each_behind IsProperByte (offset + length new) bs one))

  pub all_proper : (c : Content) (bs : List Byte) → IsProper m c → AreProperBytes (all_of c bs)
  all_proper c [] is = tt
  all_proper c (b ∷ bs) is = (is, all_proper c bs is)

  pub blank_proper : (leaves : List Leaf) (at size : ℕ) → AreProperBytes (blank_bytes m leaves at size)
  blank_proper leaves at zero = tt
  blank_proper leaves at (suc size) = (tt, blank_proper leaves (suc at) size)
