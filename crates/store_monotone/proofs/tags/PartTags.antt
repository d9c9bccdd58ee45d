-- The tags of elements and members are those of their types.
use Rattle.std.proofs.Common.{◌≡◌, ℕ, zero, suc, ◌+◌, ◌-◌, ◌*◌, ◌^◌, ◌<◌, ◌≤◌, Bool, true, false, ◌&&◌, List, [], ◌∷◌, length, Option, Some, None, slice_get, arith, ap, sym, subst, refl, inl, inr, ◌∙◌}
use Rattle.std.specs.List.{list_all}
use Rattle.std.proofs.lemmas.Bool.{and_parts, cases_lt}
use Rattle.std.proofs.lemmas.Option.{slice_get_within, get_or_from_slice_get, same_Some}
use Rattle.c_layout.specs.declared.data_model.Model.{Model}
use Rattle.c_layout.specs.Layout.{size_of_type}
use Rattle.c_layout.specs.Models.{is_model}
use Rattle.c_layout.specs.StructViews.{FieldView, StructView, no_struct, struct_at}
use Rattle.c_layout.specs.Types.{Ty, Int, Pointer, Array, Struct, Void}
use Rattle.memory_model.specs.Memory.Bytes.{Tag}
use Rattle.memory_model.specs.Memory.Tags.{or_tag}
use Rattle.store_structs.specs.LeafCounts.{bytes_in}
use Rattle.store_structs.specs.LaidApart.{has_class_bytes, is_member_in, are_members_in, are_laid_apart}
use Rattle.analysis_preconditions.specs.StructNesting.OrderedStructs.{is_made_of, are_made_of, nests_within, are_below, are_ordered}
use Rattle.store_monotone.specs.Tags.TypeTags.{shifted, repeated_tags, member_tags, tags_with, struct_tags, type_tags}
use Rattle.store_monotone.specs.Tags.PartTags.{IsMemberOf}
use Rattle.store_monotone.proofs.tags.RepeatedTags.{Ends, or_none, shifted_on, shifted_before, shifted_same, repeated_same, element_tags}
use Rattle.store_monotone.proofs.tags.TypeTags.{type_ends, IsMember, member_is, laid_out, struct_ends}

below_at : (passes : ℕ → Bool) (count i : ℕ) → are_below passes count ≡ true → i < count → passes i ≡ true
below_at passes zero i h less = absurd (omega (arith, less))
below_at passes (suc count) i h less =
    let a = and_parts (passes count) (are_below passes count) h in
    elim (cases_lt i count) [
      | inl k ↦ below_at passes count i a.1 k
      | inr k ↦ (let e : count ≡ i = omega (arith, k, less) in subst (λ z. passes z ≡ true) e a.0)
    ]

made_at : (passes : ℕ → Bool) (fs : List FieldView) → are_made_of passes fs ≡ true → (n : ℕ) (f : FieldView) → slice_get fs n ≡ Some f → is_made_of passes f.ctype ≡ true
made_at passes [] h n f e = cc
made_at passes (g ∷ fs) h zero f e = subst (λ (z : FieldView). is_made_of passes z.ctype ≡ true) (same_Some g f e) (and_parts (is_made_of passes g.ctype) (are_made_of passes fs) h).0
made_at passes (g ∷ fs) h (suc n) f e = made_at passes fs (and_parts (is_made_of passes g.ctype) (are_made_of passes fs) h).1 n f e

module _ (m : Model) (model : is_model m ≡ true) (structs : List StructView) (apart : are_laid_apart m structs ≡ true) where
  abbrev size : Ty → ℕ
  size = size_of_type structs m.pointer

  -- ---- structs nest no deeper than they do

  settled_type : (p q : ℕ → ℕ → Option Tag) (passes : ℕ → Bool) → ((i : ℕ) → passes i ≡ true → (x : ℕ) → p i x ≡ q i x) → (t : Ty) → is_made_of passes t ≡ true → (x : ℕ) → tags_with m structs p t x ≡ tags_with m structs q t x
  settled_type p q passes same (Int k) h x = refl
  settled_type p q passes same (Pointer t) h x = refl
  settled_type p q passes same (Array t n) h x = repeated_same n (size t) (tags_with m structs p t) (tags_with m structs q t) (settled_type p q passes same t h) x
  settled_type p q passes same (Struct i) h x = same i h x
  settled_type p q passes same Void h x = refl

  settled_members : (f g : Ty → ℕ → Option Tag) (passes : ℕ → Bool) → ((t : Ty) → is_made_of passes t ≡ true → (x : ℕ) → f t x ≡ g t x) → (fs : List FieldView) → are_made_of passes fs ≡ true → (x : ℕ) → member_tags f fs x ≡ member_tags g fs x
  settled_members f g passes same [] h x = refl
  settled_members f g passes same (d ∷ fs) h x =
      let a = and_parts (is_made_of passes d.ctype) (are_made_of passes fs) h in
      ap (λ o. or_tag o (member_tags f fs x)) (shifted_same d.offset (f d.ctype) (g d.ctype) (same d.ctype a.0) x)
      ∙ ap (or_tag (shifted d.offset (g d.ctype) x)) (settled_members f g passes same fs a.1 x)

  settled : (depth i : ℕ) → nests_within structs depth i ≡ true → (x : ℕ) → struct_tags m structs depth i x ≡ struct_tags m structs (suc depth) i x
  settled zero i h x = cc
  settled (suc depth) i h x =
      settled_members (tags_with m structs (struct_tags m structs depth)) (tags_with m structs (struct_tags m structs (suc depth))) (nests_within structs depth)
      (settled_type (struct_tags m structs depth) (struct_tags m structs (suc depth)) (nests_within structs depth) (settled depth))
      (struct_at structs i).fields h x

  -- ---- parts

  pub ends : (t : Ty) → has_class_bytes m t ≡ true → Ends (size t) (type_tags m structs t)
  ends t kind = type_ends m structs (struct_tags m structs (length structs)) model (struct_ends m structs model apart (length structs)) t kind

  pub of_element : (t : Ty) (n : ℕ) → has_class_bytes m t ≡ true → (i x : ℕ) → i < n → x < size t → type_tags m structs (Array t n) (i * size t + x) ≡ type_tags m structs t x
  of_element t n kind i x k l = element_tags n (size t) (type_tags m structs t) (ends t kind) i x k l

  -- the tags of a member, and where it stands
  pub record IsPartOf (room : ℕ) (f : FieldView) : Type 0 where
    pub kind : has_class_bytes m f.ctype ≡ true
    pub to : f.offset + size f.ctype ≤ room

  member_at : (tag : Ty → ℕ → Option Tag) → ((t : Ty) → has_class_bytes m t ≡ true → Ends (size t) (tag t)) → (room start : ℕ) (fs : List FieldView) → room ≤ 2 ^ 30 → are_members_in m structs room start fs ≡ true
      → (n : ℕ) (f : FieldView) → slice_get fs n ≡ Some f → (start ≤ f.offset) × IsPartOf room f × ((x : ℕ) → x < size f.ctype → member_tags tag fs (f.offset + x) ≡ tag f.ctype x)
  member_at tag each room start [] small h n f e = absurd (cc)
  member_at tag each room start (g ∷ fs) small h zero f e =
      let p = and_parts (is_member_in m structs room start g) (are_members_in m structs room (g.offset + bytes_in structs m.pointer g.ctype) fs) h in
      let a = member_is m structs room start g small p.0 in
      subst (λ (f : FieldView). (start ≤ f.offset) × IsPartOf room f × ((x : ℕ) → x < size f.ctype → member_tags tag (g ∷ fs) (f.offset + x) ≡ tag f.ctype x)) (same_Some g f e) (
        a.from,
        record { kind = a.kind; to = a.to },
        λ x k.
            let d : (g.offset + x) - g.offset ≡ x = omega arith in
            let s = a.same in
            ap (λ o. or_tag o (member_tags tag fs (g.offset + x))) (shifted_on g.offset (tag g.ctype) (g.offset + x) (omega arith) ∙ ap (tag g.ctype) d)
            ∙ (ap (or_tag (tag g.ctype x)) (none_before tag room (g.offset + bytes_in structs m.pointer g.ctype) fs small p.1 (g.offset + x) (omega (arith, k, s))) ∙ or_none (tag g.ctype x)),
      )
    where
      none_before : (tag : Ty → ℕ → Option Tag) (room start : ℕ) (fs : List FieldView) → room ≤ 2 ^ 30 → are_members_in m structs room start fs ≡ true → (x : ℕ) → x < start → member_tags tag fs x ≡ None
      none_before tag room start [] small h x k = refl
      none_before tag room start (g ∷ fs) small h x k =
          let p = and_parts (is_member_in m structs room start g) (are_members_in m structs room (g.offset + bytes_in structs m.pointer g.ctype) fs) h in
          let a = member_is m structs room start g small p.0 in
          let from = a.from in
          ap (λ o. or_tag o (member_tags tag fs x)) (shifted_before g.offset (tag g.ctype) x (omega (arith, from, k)))
          ∙ none_before tag room (g.offset + bytes_in structs m.pointer g.ctype) fs small p.1 x (omega (arith, from, k))
  member_at tag each room start (g ∷ fs) small h (suc n) f e =
      let p = and_parts (is_member_in m structs room start g) (are_members_in m structs room (g.offset + bytes_in structs m.pointer g.ctype) fs) h in
      let a = member_is m structs room start g small p.0 in
      let s = a.same in
      let from = a.from in
      let r = member_at tag each room (g.offset + bytes_in structs m.pointer g.ctype) fs small p.1 n f e in
      let lo = r.0 in (
        omega (arith, lo, from),
        r.1,
        λ x k.
            ap (λ o. or_tag o (member_tags tag fs (f.offset + x))) (shifted_on g.offset (tag g.ctype) (f.offset + x) (omega (arith, lo)) ∙ each g.ctype a.kind ((f.offset + x) - g.offset) (omega (arith, lo, s)))
            ∙ r.2 x k,
      )

  pub of_member : are_ordered structs ≡ true → (i : ℕ) (s : StructView) → slice_get structs i ≡ Some s → (n : ℕ) (f : FieldView) → slice_get s.fields n ≡ Some f → IsMemberOf m structs i f
  of_member ordered i s there n f e = by_depth (length structs) refl (slice_get_within structs i s there) (below_at (nests_within structs (length structs)) (length structs) i ordered (slice_get_within structs i s there))
    where
      found : slice_get (struct_at structs i).fields n ≡ Some f
      found = ap (λ (z : StructView). slice_get z.fields n) (get_or_from_slice_get structs i s no_struct there) ∙ e

      by_depth : (depth : ℕ) → length structs ≡ depth → i < length structs → nests_within structs (length structs) i ≡ true → IsMemberOf m structs i f
      by_depth zero d less nests = absurd (omega (arith, d, less))
      by_depth (suc depth) d less nests =
          let a = laid_out m structs apart i in
          let inner : nests_within structs (suc depth) i ≡ true = subst (λ z. nests_within structs z i ≡ true) d nests in
          let made = made_at (nests_within structs depth) (struct_at structs i).fields inner n f found in
          let r = member_at (tags_with m structs (struct_tags m structs depth)) (type_ends m structs (struct_tags m structs depth) model (struct_ends m structs model apart depth)) (struct_at structs i).size 0 (struct_at structs i).fields a.small a.members n f found in
          record {
            kind = r.1.kind;
            to = r.1.to;
            tags = λ x k.
                ap (λ z. struct_tags m structs z i (f.offset + x)) d
                ∙ (r.2 x k
                ∙ (settled_type (struct_tags m structs depth) (struct_tags m structs (suc depth)) (nests_within structs depth) (settled depth) f.ctype made x
                ∙ ap (λ z. tags_with m structs (struct_tags m structs z) f.ctype x) (sym d)));
          }
