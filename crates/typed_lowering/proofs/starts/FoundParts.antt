-- What stands where a byte is found, by the elements and the members in which the byte lies.
use Rattle.std.proofs.Common.{◌≡◌, ℕ, zero, suc, ◌+◌, ◌-◌, ◌*◌, ◌<◌, ◌≤◌, List, [], ◌∷◌, length, inl, inr, Option, Some, None, slice_get, arith, ap, sym, subst, refl, ◌∙◌}
use Rattle.std.proofs.lemmas.Option.{none-some, get_or_from_slice_get}
use Rattle.c_layout.specs.declared.data_model.Model.{Model}
use Rattle.c_layout.specs.Layout.{size_of_type}
use Rattle.c_layout.specs.StructViews.{FieldView, StructView, no_struct, struct_at}
use Rattle.c_layout.specs.Types.{Ty, Int, Pointer, Array, Struct, Void}
use Rattle.typed_programs.specs.Types.TypeBytes.{behind, repeated_bytes, member_bytes, bytes_with, struct_bytes, type_bytes}
use Rattle.typed_programs.specs.Types.StandingTypes.{AreLaidOut, Stands}
use Rattle.typed_programs.proofs.layouts.StandingTypes.{stands_through, element_stands, member_stands}
use Rattle.typed_programs.proofs.leaves.ByteEnds.{or_is, behind_is}

-- ---- elements and members

module _ {A : Type 0} where
  pub record IsInElement (n size : ℕ) (bytes : ℕ → Option A) (x : ℕ) (byte : A) : Type 0 where
    pub index : ℕ
    pub less : index < n
    pub from : index * size ≤ x
    pub is : bytes (x - index * size) ≡ Some byte

  pub in_element : (n size : ℕ) (bytes : ℕ → Option A) (x : ℕ) (byte : A) → repeated_bytes n size bytes x ≡ Some byte → IsInElement n size bytes x byte
  in_element zero size bytes x byte e = absurd (none-some byte e)
  in_element (suc n) size bytes x byte e = elim (or_is (bytes x) (behind size (repeated_bytes n size bytes) x) byte e) [
    | inl first ↦ record { index = 0; less = omega arith; from = omega arith; is = let same : x - 0 * size ≡ x = omega arith in ap bytes same ∙ first }
    | inr further ↦
        (let inner = behind_is size (repeated_bytes n size bytes) x byte further in
        let r = in_element n size bytes (x - size) byte inner.1 in
        let room = inner.0 in
        let less = r.less in
        let from = r.from in
        let next : suc r.index * size ≡ size + r.index * size = grind arith in
        let same : x - suc r.index * size ≡ (x - size) - r.index * size = omega (arith, next) in
        record { index = suc r.index; less = omega (arith, less); from = omega (arith, room, from, next); is = ap bytes same ∙ r.is })
  ]

  record IsInMember (bytes : Ty → ℕ → Option A) (fs : List FieldView) (x : ℕ) (byte : A) : Type 0 where
    number : ℕ
    member : FieldView
    among : slice_get fs number ≡ Some member
    from : member.offset ≤ x
    is : bytes member.ctype (x - member.offset) ≡ Some byte

  in_member : (bytes : Ty → ℕ → Option A) (fs : List FieldView) (x : ℕ) (byte : A) → member_bytes bytes fs x ≡ Some byte → IsInMember bytes fs x byte
  in_member bytes [] x byte e = absurd (none-some byte e)
  in_member bytes (f ∷ fs) x byte e = elim (or_is (behind f.offset (bytes f.ctype) x) (member_bytes bytes fs x) byte e) [
    | inl first ↦ (let inner = behind_is f.offset (bytes f.ctype) x byte first in record { number = 0; member = f; among = refl; from = inner.0; is = inner.1 })
    | inr further ↦ (let r = in_member bytes fs x byte further in record { number = suc r.number; member = r.member; among = r.among; from = r.from; is = r.is })
  ]

-- a structure that has members is there
there_is : (structs : List StructView) (i number : ℕ) (f : FieldView) → slice_get (struct_at structs i).fields number ≡ Some f → (s : StructView) × (slice_get structs i ≡ Some s) × (slice_get s.fields number ≡ Some f)
there_is structs i number f among = by (slice_get structs i) refl
  where
    by : (o : Option StructView) → slice_get structs i ≡ o → (s : StructView) × (slice_get structs i ≡ Some s) × (slice_get s.fields number ≡ Some f)
    by (Some s) e = (s, e, ap (λ (z : StructView). slice_get z.fields number) (sym (get_or_from_slice_get structs i s no_struct e)) ∙ among)
    by None e = absurd (none-some f (ap (λ (z : StructView). slice_get z.fields number) (sym (absent structs i e)) ∙ among))
      where
        absent : (ss : List StructView) (k : ℕ) → slice_get ss k ≡ None → struct_at ss k ≡ no_struct
        absent [] k e = refl
        absent (s ∷ ss) zero e = absurd (none-some s (sym e))
        absent (s ∷ ss) (suc k) e = absent ss k e

-- ---- what stands there

-- a type stands in each type where a byte of its own is found, if it does where types themselves have that byte
module _ {A : Type 0} (m : Model) (structs : List StructView) (laid : AreLaidOut m structs) (own : Ty → ℕ → Option A) (byte : A) (inner : Ty) where
  abbrev size : Ty → ℕ
  size = size_of_type structs m.pointer

  abbrev pub StandsIn : Ty → ℕ → Type 0
  StandsIn outer x = Stands structs m.pointer outer inner x

  abbrev pub StandsOnOwn : Type 0
  StandsOnOwn = (t : Ty) (x : ℕ) → own t x ≡ Some byte → StandsIn t x

  -- behind an offset
  stands_behind : (outer t : Ty) (at x : ℕ) → at ≤ x → Stands structs m.pointer outer t at → StandsIn t (x - at) → StandsIn outer x
  stands_behind outer t at x from there stands =
      let same : at + (x - at) ≡ x = omega (arith, from) in
      subst (λ z. StandsIn outer z) same (stands_through structs m.pointer outer t inner at (x - at) there stands)

  in_type : StandsOnOwn → (struct : ℕ → ℕ → Option A) → ((i x : ℕ) → struct i x ≡ Some byte → StandsIn (Struct i) x) → (t : Ty) (x : ℕ) → bytes_with structs m.pointer own struct t x ≡ Some byte → StandsIn t x
  in_type is struct each (Int k) x e = is (Int k) x e
  in_type is struct each (Pointer t) x e = is (Pointer t) x e
  in_type is struct each (Array t n) x e =
      let r = in_element n (size t) (bytes_with structs m.pointer own struct t) x byte e in
      stands_behind (Array t n) t (r.index * size t) x r.from (element_stands m structs laid t n r.index r.less) (in_type is struct each t (x - r.index * size t) r.is)
  in_type is struct each (Struct i) x e = each i x e
  in_type is struct each Void x e = absurd (none-some byte e)

  in_struct : StandsOnOwn → (depth i x : ℕ) → struct_bytes structs m.pointer own depth i x ≡ Some byte → StandsIn (Struct i) x
  in_struct is zero i x e = absurd (none-some byte e)
  in_struct is (suc depth) i x e = elim (or_is (own (Struct i) x) (member_bytes (bytes_with structs m.pointer own (struct_bytes structs m.pointer own depth)) (struct_at structs i).fields x) byte e) [
    | inl itself ↦ is (Struct i) x itself
    | inr member ↦
        (let r = in_member (bytes_with structs m.pointer own (struct_bytes structs m.pointer own depth)) (struct_at structs i).fields x byte member in
        let (s, there, among) = there_is structs i r.number r.member r.among in
        stands_behind (Struct i) r.member.ctype r.member.offset x r.from (member_stands m structs laid i s there r.number r.member among)
        (in_type is (struct_bytes structs m.pointer own depth) (in_struct is depth) r.member.ctype (x - r.member.offset) r.is))
  ]

  pub found : StandsOnOwn → (t : Ty) (x : ℕ) → type_bytes structs m.pointer own t x ≡ Some byte → StandsIn t x
  found is t x e = in_type is (struct_bytes structs m.pointer own (length structs)) (in_struct is (length structs)) t x e
