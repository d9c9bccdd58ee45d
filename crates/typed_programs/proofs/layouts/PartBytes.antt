-- The bytes of elements and members are those of their types.
use Rattle.std.proofs.Common.{◌≡◌, ℕ, zero, suc, ◌+◌, ◌-◌, ◌*◌, ◌^◌, ◌<◌, ◌≤◌, Bool, true, List, [], ◌∷◌, length, Option, Some, None, slice_get, arith, ap, sym, subst, refl, ◌∙◌}
use Rattle.std.specs.Option.{option_or}
use Rattle.std.proofs.lemmas.Bool.{and_parts}
use Rattle.std.proofs.lemmas.Option.{slice_get_within, get_or_from_slice_get, same_Some}
use Rattle.c_layout.specs.declared.data_model.Model.{Model}
use Rattle.c_layout.specs.Layout.{size_of_type}
use Rattle.c_layout.specs.StructViews.{FieldView, StructView, no_struct, struct_at}
use Rattle.c_layout.specs.Types.{Ty, Int, Pointer, Array, Struct, Void}
use Rattle.store_structs.specs.LeafCounts.{bytes_in}
use Rattle.store_structs.specs.LaidApart.{is_member_in, are_members_in}
use Rattle.store_monotone.proofs.tags.TypeTags.{member_is, laid_out}
use Rattle.analysis_preconditions.specs.StructNesting.OrderedStructs.{is_made_of, are_made_of, nests_within}
use Rattle.typed_programs.specs.Types.TypeBytes.{behind, member_bytes, bytes_with, struct_bytes, type_bytes}
use Rattle.typed_programs.specs.Types.StandingTypes.{AreLaidOut}
use Rattle.typed_programs.proofs.layouts.RepeatedBytes.{Ends, or_none, behind_on, behind_before, behind_same, repeated_same, element_bytes}
use Rattle.typed_programs.proofs.layouts.TypeEnds.{EndsAlone, nested_ends, type_ends}
use Rattle.typed_programs.proofs.layouts.NestedStructs.{nests, made_at}

module _ {A : Type 0} (m : Model) (structs : List StructView) (laid : AreLaidOut m structs) (own : Ty → ℕ → Option A) (ends : EndsAlone m structs own) where
  abbrev size : Ty → ℕ
  size = size_of_type structs m.pointer

  -- through structures that nest at most so deep
  abbrev within : ℕ → Ty → ℕ → Option A
  within depth = bytes_with structs m.pointer own (struct_bytes structs m.pointer own depth)

  -- ---- structures nest no deeper than they do

  settled_type : (p q : ℕ → ℕ → Option A) (passes : ℕ → Bool) → ((i : ℕ) → passes i ≡ true → (x : ℕ) → p i x ≡ q i x) → (t : Ty) → is_made_of passes t ≡ true → (x : ℕ) → bytes_with structs m.pointer own p t x ≡ bytes_with structs m.pointer own q t x
  settled_type p q passes same (Int k) h x = refl
  settled_type p q passes same (Pointer t) h x = refl
  settled_type p q passes same (Array t n) h x = repeated_same n (size t) (bytes_with structs m.pointer own p t) (bytes_with structs m.pointer own q t) (settled_type p q passes same t h) x
  settled_type p q passes same (Struct i) h x = same i h x
  settled_type p q passes same Void h x = refl

  settled_members : (f g : Ty → ℕ → Option A) (passes : ℕ → Bool) → ((t : Ty) → is_made_of passes t ≡ true → (x : ℕ) → f t x ≡ g t x) → (fs : List FieldView) → are_made_of passes fs ≡ true → (x : ℕ) → member_bytes f fs x ≡ member_bytes g fs x
  settled_members f g passes same [] h x = refl
  settled_members f g passes same (d ∷ fs) h x =
      let a = and_parts (is_made_of passes d.ctype) (are_made_of passes fs) h in
      ap (λ o. option_or o (member_bytes f fs x)) (behind_same d.offset (f d.ctype) (g d.ctype) (same d.ctype a.0) x)
      ∙ ap (option_or (behind d.offset (g d.ctype) x)) (settled_members f g passes same fs a.1 x)

  settled : (depth i : ℕ) → nests_within structs depth i ≡ true → (x : ℕ) → struct_bytes structs m.pointer own depth i x ≡ struct_bytes structs m.pointer own (suc depth) i x
  settled zero i h x = cc
  settled (suc depth) i h x =
      ap (option_or (own (Struct i) x))
      (settled_members (within depth) (within (suc depth)) (nests_within structs depth)
      (settled_type (struct_bytes structs m.pointer own depth) (struct_bytes structs m.pointer own (suc depth)) (nests_within structs depth) (settled depth))
      (struct_at structs i).fields h x)

  -- ---- parts

  pub of_element : (t : Ty) (n i x : ℕ) → i < n → x < size t → type_bytes structs m.pointer own (Array t n) (i * size t + x) ≡ type_bytes structs m.pointer own t x
  of_element t n i x k l = element_bytes n (size t) (type_bytes structs m.pointer own t) (type_ends m structs own ends laid.apart t) i x k l

  -- a member behind an offset within the room, and its bytes
  record IsMemberAt (bytes : Ty → ℕ → Option A) (room start : ℕ) (fs : List FieldView) (f : FieldView) : Type 0 where
    from : start ≤ f.offset
    to : f.offset + size f.ctype ≤ room
    same : (x : ℕ) → x < size f.ctype → member_bytes bytes fs (f.offset + x) ≡ bytes f.ctype x

  none_before : (bytes : Ty → ℕ → Option A) (room start : ℕ) (fs : List FieldView) → room ≤ 2 ^ 30 → are_members_in m structs room start fs ≡ true → (x : ℕ) → x < start → member_bytes bytes fs x ≡ None
  none_before bytes room start [] small h x k = refl
  none_before bytes room start (g ∷ fs) small h x k =
      let p = and_parts (is_member_in m structs room start g) (are_members_in m structs room (g.offset + bytes_in structs m.pointer g.ctype) fs) h in
      let from = (member_is m structs room start g small p.0).from in
      ap (λ o. option_or o (member_bytes bytes fs x)) (behind_before g.offset (bytes g.ctype) x (omega (arith, from, k)))
      ∙ none_before bytes room (g.offset + bytes_in structs m.pointer g.ctype) fs small p.1 x (omega (arith, from, k))

  member_at : (bytes : Ty → ℕ → Option A) → ((t : Ty) → Ends (size t) (bytes t)) → (room start : ℕ) (fs : List FieldView) → room ≤ 2 ^ 30 → are_members_in m structs room start fs ≡ true
      → (n : ℕ) (f : FieldView) → slice_get fs n ≡ Some f → IsMemberAt bytes room start fs f
  member_at bytes each room start [] small h n f e = absurd (cc)
  member_at bytes each room start (g ∷ fs) small h zero f e =
      let p = and_parts (is_member_in m structs room start g) (are_members_in m structs room (g.offset + bytes_in structs m.pointer g.ctype) fs) h in
      let a = member_is m structs room start g small p.0 in
      subst (λ (f : FieldView). IsMemberAt bytes room start (g ∷ fs) f) (same_Some g f e) (
      record {
        from = a.from;
        to = a.to;
        same = λ x k.
            let d : (g.offset + x) - g.offset ≡ x = omega arith in
            let s = a.same in
            ap (λ o. option_or o (member_bytes bytes fs (g.offset + x))) (behind_on g.offset (bytes g.ctype) (g.offset + x) (omega arith) ∙ ap (bytes g.ctype) d)
            ∙ (ap (option_or (bytes g.ctype x)) (none_before bytes room (g.offset + bytes_in structs m.pointer g.ctype) fs small p.1 (g.offset + x) (omega (arith, k, s))) ∙ or_none (bytes g.ctype x));
      }
      )
  member_at bytes each room start (g ∷ fs) small h (suc n) f e =
      let p = and_parts (is_member_in m structs room start g) (are_members_in m structs room (g.offset + bytes_in structs m.pointer g.ctype) fs) h in
      let a = member_is m structs room start g small p.0 in
      let s = a.same in
      let from = a.from in
      let r = member_at bytes each room (g.offset + bytes_in structs m.pointer g.ctype) fs small p.1 n f e in
      let lo = r.from in
      record {
        from = omega (arith, lo, from);
        to = r.to;
        same = λ x k.
            ap (λ o. option_or o (member_bytes bytes fs (f.offset + x))) (behind_on g.offset (bytes g.ctype) (f.offset + x) (omega (arith, lo)) ∙ each g.ctype ((f.offset + x) - g.offset) (omega (arith, lo, s)))
            ∙ r.same x k;
      }

  -- a member within its structure: a byte of it is the structure's own, or one of the member's type
  pub record IsPartOf (i : ℕ) (f : FieldView) : Type 0 where
    pub to : f.offset + size f.ctype ≤ size (Struct i)
    pub same : (x : ℕ) → x < size f.ctype → type_bytes structs m.pointer own (Struct i) (f.offset + x) ≡ option_or (own (Struct i) (f.offset + x)) (type_bytes structs m.pointer own f.ctype x)

  pub of_member : (i : ℕ) (s : StructView) → slice_get structs i ≡ Some s → (n : ℕ) (f : FieldView) → slice_get s.fields n ≡ Some f → IsPartOf i f
  of_member i s there n f e = by_depth (length structs) refl (slice_get_within structs i s there) (nests structs i laid.ordered (slice_get_within structs i s there))
    where
      found : slice_get (struct_at structs i).fields n ≡ Some f
      found = ap (λ (z : StructView). slice_get z.fields n) (get_or_from_slice_get structs i s no_struct there) ∙ e

      by_depth : (depth : ℕ) → length structs ≡ depth → i < length structs → nests_within structs (length structs) i ≡ true → IsPartOf i f
      by_depth zero d less nested = absurd (omega (arith, d, less))
      by_depth (suc depth) d less nested =
          let a = laid_out m structs laid.apart i in
          let inner : nests_within structs (suc depth) i ≡ true = subst (λ z. nests_within structs z i ≡ true) d nested in
          let made = made_at (nests_within structs depth) (struct_at structs i).fields inner n f found in
          let r = member_at (within depth) (nested_ends m structs own ends laid.apart depth) (struct_at structs i).size 0 (struct_at structs i).fields a.small a.members n f found in
          record {
            to = r.to;
            same = λ x k.
                ap (λ z. struct_bytes structs m.pointer own z i (f.offset + x)) d
                ∙ ap (option_or (own (Struct i) (f.offset + x)))
                (r.same x k
                ∙ (settled_type (struct_bytes structs m.pointer own depth) (struct_bytes structs m.pointer own (suc depth)) (nests_within structs depth) (settled depth) f.ctype made x
                ∙ ap (λ z. within z f.ctype x) (sym d)));
          }
