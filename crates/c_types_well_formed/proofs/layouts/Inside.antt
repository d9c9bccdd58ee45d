-- Members that are laid out one behind the other end within their struct.
use Rattle.std.proofs.Common.{◌≡◌, ◌<◌, ◌≤◌, ◌+◌, ◌-◌, ◌*◌, ◌^◌, ℕ, Bool, true, false, List, length, Option, Some, None, slice_get, arith, refl, ap, subst, sym, ◌∙◌, inl, inr}
use Rattle.std.specs.Prelude.{◌&&◌, cond, nat_le, nat_lt, option_and_then}
use Rattle.std.proofs.Math.Nat.{lt-div-mul-add}
use Rattle.std.proofs.lemmas.Bool.{and_parts, leb-true, ltb-true}
use Rattle.std.proofs.lemmas.Option.{same_Some}
use Rattle.c_layout.specs.Layout.{most_bytes, round_up, size_of_type, align_of_type}
use Rattle.c_layout.specs.Models.{is_model}
use Rattle.c_layout.specs.StructLayouts.{Partial, no_members, added, finished}
use Rattle.c_layout.specs.StructViews.{FieldView, StructView, struct_at}
use Rattle.c_layout.specs.Types.{Ty, Int, Pointer, Array, Struct, Void}
use Rattle.c_layout.specs.declared.data_model.Model.{Model}
use Rattle.c_types_rules.specs.Rules.TypeSizes.{array_size, sized}
use Rattle.c_types_scopes.specs.Known.{Known, size_of}
use Rattle.c_types_theorems.proofs.stores.Growing.{Extends, size_more}
use Rattle.c_types_theorems.proofs.units.Kept.{appended_is}
use Rattle.c_types_well_formed.specs.Layouts.LaidStructs.{IsInside}
use Rattle.c_types_well_formed.proofs.layouts.Laying.{none_is, pointer_is}

-- ---- sizes

cond_is : {A : Type 0} (c : Bool) (a b : A) → cond c (Some a) None ≡ Some b → (c ≡ true) × (a ≡ b)
cond_is true a b h = (refl, same_Some a b h)
cond_is false a b h = absurd (cc)

-- the size of a complete type, by its parts
pub sized_is : (structs : List StructView) (pointer : ℕ) (t : Ty) (n : ℕ) → sized structs pointer t ≡ Some n → size_of_type structs pointer t ≡ n
sized_is structs pointer (Int k) n h = (cond_is (nat_lt 0 k.bytes && nat_le k.bytes 8) k.bytes n h).1
sized_is structs pointer (Pointer t) n h = same_Some pointer n h
sized_is structs pointer (Array t count) n h = by_element (sized structs pointer t) refl h (sized_is structs pointer t)
  where
    by_element : (o : Option ℕ) → sized structs pointer t ≡ o → option_and_then (array_size count) o ≡ Some n → ((z : ℕ) → sized structs pointer t ≡ Some z → size_of_type structs pointer t ≡ z) → count * size_of_type structs pointer t ≡ n
    by_element None e k inner = absurd (cc)
    by_element (Some z) e k inner = ap (λ y. count * y) (inner z e) ∙ (cond_is (nat_lt 0 count && nat_le (count * z) most_bytes) (count * z) n k).1
sized_is structs pointer (Struct i) n h = (cond_is (nat_lt i (length structs) && (((struct_at structs i).complete && nat_lt 0 (struct_at structs i).align) && nat_le (struct_at structs i).size most_bytes)) (struct_at structs i).size n h).1
sized_is structs pointer Void n h = absurd (cc)

-- no complete type is large
pub sized_small : (m : Model) (structs : List StructView) → is_model m ≡ true → (t : Ty) (size : ℕ) → sized structs m.pointer t ≡ Some size → size ≤ 2 ^ 30
sized_small m structs model (Int kind) size h =
    let a = cond_is (nat_lt 0 kind.bytes && nat_le kind.bytes 8) kind.bytes size h in
    let b = leb-true kind.bytes 8 (and_parts (nat_lt 0 kind.bytes) (nat_le kind.bytes 8) a.0).1 in
    let c = a.1 in
    omega (arith, b, c)
sized_small m structs model (Pointer t) size h = let e = same_Some m.pointer size h in elim (pointer_is m model) [ inl four ↦ omega (arith, e, four) | inr eight ↦ omega (arith, e, eight) ]
sized_small m structs model (Array t count) size h = by_element (sized structs m.pointer t) h
  where
    by_element : (o : Option ℕ) → option_and_then (array_size count) o ≡ Some size → size ≤ 2 ^ 30
    by_element None g = none_is size g
    by_element (Some each) g =
        let a = cond_is (nat_lt 0 count && nat_le (count * each) most_bytes) (count * each) size g in
        let b = leb-true (count * each) most_bytes (and_parts (nat_lt 0 count) (nat_le (count * each) most_bytes) a.0).1 in
        subst (λ n. n ≤ 2 ^ 30) a.1 b
sized_small m structs model (Struct i) size h =
    let s : StructView = struct_at structs i in
    let a = cond_is (nat_lt i (length structs) && ((s.complete && nat_lt 0 s.align) && nat_le s.size most_bytes)) s.size size h in
    let b = and_parts (nat_lt i (length structs)) ((s.complete && nat_lt 0 s.align) && nat_le s.size most_bytes) a.0 in
    let c = leb-true s.size most_bytes (and_parts (s.complete && nat_lt 0 s.align) (nat_le s.size most_bytes) b.1).1 in
    subst (λ n. n ≤ 2 ^ 30) a.1 c
sized_small m structs model Void size h = none_is size h

some_align : (structs : List StructView) (pointer : ℕ) (t : Ty) (n : ℕ) → 0 < pointer → sized structs pointer t ≡ Some n → 0 < align_of_type structs pointer t
some_align structs pointer (Int k) n wide h = ltb-true 0 k.bytes (and_parts (nat_lt 0 k.bytes) (nat_le k.bytes 8) (cond_is (nat_lt 0 k.bytes && nat_le k.bytes 8) k.bytes n h).0).0
some_align structs pointer (Pointer t) n wide h = wide
some_align structs pointer (Array t count) n wide h = by_element (sized structs pointer t) refl h (λ z. some_align structs pointer t z wide)
  where
    by_element : (o : Option ℕ) → sized structs pointer t ≡ o → option_and_then (array_size count) o ≡ Some n → ((z : ℕ) → sized structs pointer t ≡ Some z → 0 < align_of_type structs pointer t) → 0 < align_of_type structs pointer t
    by_element None e k inner = absurd (cc)
    by_element (Some z) e k inner = inner z e
some_align structs pointer (Struct i) n wide h =
    let s : StructView = struct_at structs i in
    let a = and_parts (nat_lt i (length structs)) ((s.complete && nat_lt 0 s.align) && nat_le s.size most_bytes) (cond_is (nat_lt i (length structs) && ((s.complete && nat_lt 0 s.align) && nat_le s.size most_bytes)) s.size n h).0 in
    let b = and_parts (s.complete && nat_lt 0 s.align) (nat_le s.size most_bytes) a.1 in
    ltb-true 0 s.align (and_parts s.complete (nat_lt 0 s.align) b.0).1
some_align structs pointer Void n wide h = absurd (cc)

some_pointer : (m : Model) → is_model m ≡ true → 0 < m.pointer
some_pointer m h = elim (pointer_is m h) [ inl four ↦ omega (arith, four) | inr eight ↦ omega (arith, eight) ]

-- the next multiple of an alignment is not before
rounded_up : (n align : ℕ) → 0 < align → n ≤ round_up n align
rounded_up n align some = let less = lt-div-mul-add {a = (n + align) - 1} some in omega arith

-- ---- layouts in progress

pub record EndsWithin (k : Known) (end : ℕ) (f : FieldView) : Type 0 where
  pub size : ℕ
  pub is : size_of k f.ctype ≡ Some size
  pub within : f.offset + size ≤ end

-- the members so far
pub record AreLaid (k : Known) (p : Partial) : Type 0 where
  pub align : 0 < p.align
  pub members : (i : ℕ) (f : FieldView) → slice_get p.fields i ≡ Some f → EndsWithin k p.end f

pub laid_nothing : (k : Known) → AreLaid k no_members
laid_nothing k = record { align = omega arith; members = λ i f at. none_is f at }

pub laid_grown : (k later : Known) (p : Partial) → Extends k later → AreLaid k p → AreLaid later p
laid_grown k later p g h = record { align = h.align; members = λ i f at. (let e = h.members i f at in record { size = e.size; is = size_more k later f.ctype e.size g e.is; within = e.within }) }

pub laid_more : (k : Known) (p : Partial) (name : List ℕ) (t : Ty) (size : ℕ) → is_model k.numbers ≡ true → size_of k t ≡ Some size → AreLaid k p → AreLaid k (added k.structs k.numbers.pointer p name t)
laid_more k p name t size model is h =
    let pointer : ℕ = k.numbers.pointer in
    let wide : 0 < pointer = some_pointer k.numbers model in
    let offset : ℕ = round_up p.end (align_of_type k.structs pointer t) in
    let behind : p.end ≤ offset = rounded_up p.end (align_of_type k.structs pointer t) (some_align k.structs pointer t size wide is) in
    let long : size_of_type k.structs pointer t ≡ size = sized_is k.structs pointer t size is in
    let new : FieldView = record { name = name; ctype = t; offset = offset } in
    let align = h.align in
    record {
      align = omega arith;
      members = λ i f at. elim (appended_is p.fields new i f at) [
        | inl old ↦ (let e = h.members i f old in let w = e.within in record { size = e.size; is = e.is; within = omega (arith, w, behind, long) })
        | inr last ↦ subst (EndsWithin k (offset + size_of_type k.structs pointer t)) (sym last.1) (record { size = size; is = is; within = omega (arith, long) })
      ];
    }

-- a struct whose members are laid out
pub laid_finished : (k : Known) (p : Partial) (made : StructView) → finished p ≡ Some made → AreLaid k p → (i : ℕ) (f : FieldView) → slice_get made.fields i ≡ Some f → IsInside k made f
laid_finished k p made is h i f at = by_size (nat_le (round_up p.end p.align) most_bytes) is
  where
    whole : StructView
    whole = record { fields = p.fields; complete = true; size = round_up p.end p.align; align = p.align; leaves = p.leaves; plain_leaves = p.plain_leaves }

    by_size : (c : Bool) → cond c (Some whole) None ≡ Some made → IsInside k made f
    by_size true e =
        let same : whole ≡ made = same_Some whole made e in
        let m = h.members i f (ap (λ x. slice_get x.fields i) same ∙ at) in
        let w = m.within in
        let r = rounded_up p.end p.align h.align in
        subst (λ x. IsInside k x f) same (record { size = m.size; is = m.is; within = omega (arith, w, r) })
    by_size false e = absurd (cc)
