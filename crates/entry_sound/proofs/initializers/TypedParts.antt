-- The parts of a type: their bytes have the tags of their own types.
use Rattle.std.proofs.Common.{◌≡◌, ℕ, zero, suc, ◌+◌, ◌*◌, ◌<◌, ◌≤◌, Bool, true, false, cond, ◌&&◌, List, [], ◌∷◌, length, Option, Some, None, slice_get, arith, ap, sym, subst, refl, inl, inr, ◌∙◌}
use Rattle.std.specs.Prelude.{◌==◌, ◌||◌, not, nat_le, nat_lt, is_some, option_map, option_and_then}
use Rattle.std.specs.List.{list_all}
use Rattle.std.proofs.lemmas.Bool.{and_parts, cases_Bool, eqb-true, leb-false, ltb-true, cases_lt}
use Rattle.std.proofs.lemmas.Option.{same_Some, get_or_from_slice_get}
use Rattle.std.proofs.lemmas.Nat.{mul-le}
use Rattle.c_layout.specs.declared.data_model.Model.{Model}
use Rattle.c_layout.specs.declared.leaf_lists.Class.TheVariants as class
use Rattle.c_layout.specs.Layout.{most_bytes, size_of_type}
use Rattle.c_layout.specs.Models.{is_model}
use Rattle.c_layout.specs.StructViews.{FieldView, StructView, no_struct, struct_at}
use Rattle.c_layout.specs.Types.{Ty, Int, Pointer, Array, Struct, Void}
use Rattle.c_types_rules.specs.Rules.TypeSizes.{array_size, sized}
use Rattle.c_types_scopes.specs.Known.{Known, size_of}
use Rattle.c_types_initializers.specs.Subobjects.{SubobjectView, subobject, is_behind, element_of_size, element, at_offset, member_in, following_of}
use Rattle.c_types_theorems.specs.Stores.PlacedStores.{within, part_of, IsPart}
use Rattle.lower_preconditions.specs.Objects.PlainObjects.{has_length, is_plain_struct}
use Rattle.store_sound.proofs.programs.ShapedBases.{all_at}
use Rattle.store_structs.specs.LaidApart.{has_class_bytes, are_laid_apart}
use Rattle.analysis_preconditions.specs.StructNesting.OrderedStructs.{are_ordered}
use Rattle.store_monotone.specs.Tags.TypeTags.{type_tags}
use Rattle.store_monotone.proofs.tags.PartTags.{of_element, of_member}

-- ---- sizes

cond_is : {A : Type 0} (c : Bool) (a b : A) → cond c (Some a) None ≡ Some b → (c ≡ true) × (a ≡ b)
cond_is true a b h = (refl, same_Some a b h)
cond_is false a b h = absurd (cc)

pub sized_is : (structs : List StructView) (pointer : ℕ) (t : Ty) (n : ℕ) → sized structs pointer t ≡ Some n → size_of_type structs pointer t ≡ n
sized_is structs pointer (Int k) n h = (cond_is (nat_lt 0 k.bytes && nat_le k.bytes 8) k.bytes n h).1
sized_is structs pointer (Pointer t) n h = same_Some pointer n h
sized_is structs pointer (Array t count) n h = by_element (sized structs pointer t) refl h (sized_is structs pointer t)
  where
    by_element : (o : Option ℕ) → sized structs pointer t ≡ o → option_and_then (array_size count) o ≡ Some n → ((z : ℕ) → sized structs pointer t ≡ Some z → size_of_type structs pointer t ≡ z) → count * size_of_type structs pointer t ≡ n
    by_element None e k inner = absurd (cc)
    by_element (Some z) e k inner = ap (λ y. count * y) (inner z e) ∙ (cond_is (nat_lt 0 count && nat_le (count * z) most_bytes) (count * z) n k).1
sized_is structs pointer (Struct i) n h = (cond_is (nat_lt i (length structs) && (((struct_at structs i).complete && nat_lt 0 (struct_at structs i).align) && nat_le (struct_at structs i).size most_bytes)) (struct_at structs i).size n h).1
sized_is structs pointer Void n h = absurd (cc)

-- a complete type has a length, where it is an array
pub complete_long : (structs : List StructView) (pointer : ℕ) (t : Ty) → is_some (sized structs pointer t) ≡ true → has_length t ≡ true
complete_long structs pointer (Int k) h = refl
complete_long structs pointer (Pointer t) h = refl
complete_long structs pointer (Array t count) h = by_element (sized structs pointer t) refl h (complete_long structs pointer t)
  where
    by_element : (o : Option ℕ) → sized structs pointer t ≡ o → is_some (option_and_then (array_size count) o) ≡ true → (is_some (sized structs pointer t) ≡ true → has_length t ≡ true) → (nat_lt 0 count && has_length t) ≡ true
    by_element None e k inner = absurd (cc)
    by_element (Some z) e k inner = by_count (nat_lt 0 count) refl k (inner (ap is_some e))
      where
        by_count : (c : Bool) → nat_lt 0 count ≡ c → is_some (cond (c && nat_le (count * z) most_bytes) (Some (count * z)) None) ≡ true → has_length t ≡ true → (c && has_length t) ≡ true
        by_count true g k l = l
        by_count false g k l = absurd (cc)
complete_long structs pointer (Struct i) h = refl
complete_long structs pointer Void h = refl

-- ---- parts

module _ (m : Model) (model : is_model m ≡ true) (structs : List StructView) (apart : are_laid_apart m structs ≡ true) (ordered : are_ordered structs ≡ true) (plain : list_all is_plain_struct structs ≡ true) where
  abbrev size : Ty → ℕ
  size = size_of_type structs m.pointer

  abbrev rules : Known
  rules = record { numbers = m; structs = structs }

  -- within its type, with its own tags
  pub record IsTagged (t : Ty) (s : SubobjectView) : Type 0 where
    pub kind : has_class_bytes m s.ctype ≡ true
    pub long : has_length s.ctype ≡ true
    pub to : s.offset + size s.ctype ≤ size t
    pub tags : (x : ℕ) → x < size s.ctype → type_tags m structs t (s.offset + x) ≡ type_tags m structs s.ctype x

  whole : (t : Ty) → has_class_bytes m t ≡ true → has_length t ≡ true → IsTagged t (subobject t 0)
  whole t kind long = record {
    kind = kind;
    long = long;
    to = omega arith;
    tags = λ x k. (let e : 0 + x ≡ x = omega arith in ap (type_tags m structs t) e);
  }

  element_tagged : (t e : Ty) (count at n z : ℕ) → IsTagged t (subobject (Array e count) at) → size e ≡ z → is_behind count n ≡ false → IsTagged t (subobject e (at + z * n))
  element_tagged t e count at n z h is few =
      let p = and_parts (nat_lt 0 count) (has_length e) h.long in
      let some = ltb-true 0 count p.0 in
      let less : n < count = by_test (count == 0) (nat_le count n) refl refl few some in
      let room : suc n * z ≤ count * z = mul-le (suc n) z count z (omega (arith, less)) (omega arith) in
      let split : suc n * z ≡ z + z * n = grind arith in
      let turn : n * z ≡ z * n = grind arith in
      let all : count * size e ≡ count * z = ap (λ y. count * y) is in
      let to = h.to in
      record {
        kind = h.kind;
        long = p.1;
        to = omega (arith, to, room, split, all, is);
        tags = λ x k.
            let o : (at + z * n) + x ≡ at + (n * z + x) = omega (arith, turn) in
            let i : n * z + x ≡ n * size e + x = ap (λ y. n * y + x) (sym is) in
            ap (type_tags m structs t) o ∙ (h.tags (n * z + x) (omega (arith, k, room, split, turn, all, is)) ∙ (ap (type_tags m structs (Array e count)) i ∙ of_element m model structs apart e count h.kind n x less k));
      }
    where
      by_test : (c d : Bool) → (count == 0) ≡ c → nat_le count n ≡ d → (not c && d) ≡ false → 0 < count → n < count
      by_test true d e g k some = absurd (let z = eqb-true count 0 e in omega (arith, z, some))
      by_test false true e g k some = absurd (cc)
      by_test false false e g k some = leb-false count n g

  member_tagged : (t : Ty) (owner at n : ℕ) (made : StructView) (f : FieldView) → slice_get structs owner ≡ Some made → slice_get made.fields n ≡ Some f → IsTagged t (subobject (Struct owner) at) → IsTagged t (at_offset at f)
  member_tagged t owner at n made f there is h =
      let a = of_member m model structs apart ordered owner made there n f is in
      let to = a.to in
      let outer = h.to in
      let p = and_parts (not made.complete || nat_lt 0 made.size) (list_all (λ f. has_length f.ctype) made.fields) (all_at is_plain_struct structs owner made plain there) in
      record {
        kind = a.kind;
        long = all_at (λ f. has_length f.ctype) made.fields n f p.1 is;
        to = omega (arith, to, outer);
        tags = λ x k.
            let o : (at + f.offset) + x ≡ at + (f.offset + x) = omega arith in
            ap (type_tags m structs t) o ∙ (h.tags (f.offset + x) (omega (arith, to, k)) ∙ a.tags x k);
      }

  following_tagged : (t w : Ty) (at n : ℕ) (next : SubobjectView) → following_of rules w at n ≡ Some next → IsTagged t (subobject w at) → IsTagged t next
  following_tagged t (Int k) at n next e h = absurd (cc)
  following_tagged t (Pointer u) at n next e h = absurd (cc)
  following_tagged t Void at n next e h = absurd (cc)
  following_tagged t (Array u count) at n next e h = by_place (is_behind count n) (size_of rules u) refl refl e
    where
      by_place : (c : Bool) (o : Option ℕ) → is_behind count n ≡ c → size_of rules u ≡ o → cond c None (element_of_size u at n o) ≡ Some next → IsTagged t next
      by_place true o b is k = absurd (cc)
      by_place false None b is k = absurd (cc)
      by_place false (Some z) b is k = subst (IsTagged t) (same_Some (subobject u (at + z * n)) next k) (element_tagged t u count at n z h (sized_is structs m.pointer u z is) b)
  following_tagged t (Struct owner) at n next e h = by_struct (slice_get structs owner) refl e
    where
      by_struct : (o : Option StructView) → slice_get structs owner ≡ o → member_in at n o ≡ Some next → IsTagged t next
      by_struct None there k = absurd (cc)
      by_struct (Some made) there k = by_field (slice_get made.fields n) refl k
        where
          by_field : (o : Option FieldView) → slice_get made.fields n ≡ o → option_map (at_offset at) o ≡ Some next → IsTagged t next
          by_field None is k = absurd (cc)
          by_field (Some f) is k = subst (IsTagged t) (same_Some (at_offset at f) next k) (member_tagged t owner at n made f there is h)

  path_tagged : (t : Ty) → has_class_bytes m t ≡ true → has_length t ≡ true → (path : List ℕ) (s : SubobjectView) → part_of rules t path ≡ Some s → IsTagged t s
  path_tagged t kind long [] s e = subst (IsTagged t) (same_Some (subobject t 0) s e) (whole t kind long)
  path_tagged t kind long (n ∷ outer) s e = by_outer (part_of rules t outer) refl e (path_tagged t kind long outer)
    where
      by_outer : (o : Option SubobjectView) → part_of rules t outer ≡ o → within rules o n ≡ Some s → ((p : SubobjectView) → part_of rules t outer ≡ Some p → IsTagged t p) → IsTagged t s
      by_outer None is k inner = absurd (cc)
      by_outer (Some p) is k inner = following_tagged t p.ctype p.offset n s k (inner p is)

  pub part_tagged : (t : Ty) → has_class_bytes m t ≡ true → has_length t ≡ true → (s : SubobjectView) → IsPart rules t s → IsTagged t s
  part_tagged t kind long s part = path_tagged t kind long part.path s part.is
