-- The stores of initializers stand within objects of at most the most bytes.
use Rattle.std.proofs.Common.{◌≡◌, ◌<◌, ◌≤◌, ◌+◌, ◌-◌, ◌*◌, ◌^◌, ℕ, zero, suc, Bool, true, false, List, [], ◌∷◌, length, Option, Some, None, slice_get, arith, refl, ap, subst, sym, ◌∙◌, inl, inr}
use Rattle.std.specs.Prelude.{◌⊎◌, ◌&&◌, ◌==◌, not, cond, nat_le, nat_lt, is_some, option_map, option_and_then}
use Rattle.std.proofs.lemmas.Bool.{and_parts, leb-false, lt-ltb, ltb-true, eqb-true}
use Rattle.std.proofs.lemmas.Nat.{mul-le}
use Rattle.std.proofs.lemmas.Option.{same_Some, get_or_from_slice_get}
use Rattle.c_layout.specs.Layout.{most_bytes}
use Rattle.c_layout.specs.Models.{is_model}
use Rattle.c_layout.specs.StructViews.{FieldView, StructView, no_struct, struct_at}
use Rattle.c_layout.specs.Types.{Ty, Int, Pointer, Array, Struct, Void}
use Rattle.c_layout.specs.CheckedTrees.{StoreTree, StoreValue, StoreCopy, StoreText}
use Rattle.c_types_rules.specs.Rules.TypeSizes.{array_size, sized}
use Rattle.c_types_scopes.specs.Known.{Known, size_of}
use Rattle.c_types_initializers.specs.Subobjects.{SubobjectView, subobject, is_behind, element_of_size, at_offset, member_in, following_of}
use Rattle.c_types_initializers.specs.Literals.{with_length}
use Rattle.c_types_theorems.specs.Stores.PlacedStores.{within, part_of, IsPart, ArePlaced, IsPartFrom, IsPlacedBy}
use Rattle.c_types_well_formed.specs.Layouts.LaidStructs.{IsInside, AreNear, StoresAreNear}
use Rattle.c_types_well_formed.proofs.layouts.Inside.{sized_small}
use Rattle.c_types_well_formed.proofs.layouts.Laying.{none_is}

cond_is : {A : Type 0} (c : Bool) (a b : A) → cond c (Some a) None ≡ Some b → (c ≡ true) × (a ≡ b)
cond_is true a b h = (refl, same_Some a b h)
cond_is false a b h = absurd (cc)

-- the members of structs
abbrev AreInside : Known → Type 0
AreInside k = (n i : ℕ) (v : StructView) (f : FieldView) → slice_get k.structs n ≡ Some v → slice_get v.fields i ≡ Some f → IsInside k v f

module _ (k : Known) (laid : AreInside k) where
  -- a part of a complete type that ends before so many bytes
  record IsWithin (room : ℕ) (s : SubobjectView) : Type 0 where
    size : ℕ
    is : size_of k s.ctype ≡ Some size
    to : s.offset + size ≤ room

  -- the size of an array, by that of its elements
  record HasElements (e : Ty) (count size : ℕ) : Type 0 where
    each : ℕ
    is : size_of k e ≡ Some each
    some : 0 < count
    whole : count * each ≡ size

  elements_of : (e : Ty) (count size : ℕ) (o : Option ℕ) → size_of k e ≡ o → option_and_then (array_size count) o ≡ Some size → HasElements e count size
  elements_of e count size None is h = none_is size h
  elements_of e count size (Some each) is h =
      let a = cond_is (nat_lt 0 count && nat_le (count * each) most_bytes) (count * each) size h in
      record { each = each; is = is; some = ltb-true 0 count (and_parts (nat_lt 0 count) (nat_le (count * each) most_bytes) a.0).0; whole = a.1 }

  not_behind : (count n : ℕ) (c d : Bool) → (count == 0) ≡ c → nat_le count n ≡ d → (not c && d) ≡ false → 0 < count → n < count
  not_behind count n true d e g h some = absurd (let z = eqb-true count 0 e in omega (arith, z, some))
  not_behind count n false true e g h some = absurd (cc)
  not_behind count n false false e g h some = leb-false count n g

  element_within : (room at count n size : ℕ) (e : Ty) (x : SubobjectView) → HasElements e count size → at + size ≤ room → (b : Bool) (o : Option ℕ) → is_behind count n ≡ b → size_of k e ≡ o → cond b None (element_of_size e at n o) ≡ Some x → IsWithin room x
  element_within room at count n size e x has to true o behind is h = none_is x h
  element_within room at count n size e x has to false None behind is h = none_is x h
  element_within room at count n size e x has to false (Some each) behind is h =
      let less : n < count = not_behind count n (count == 0) (nat_le count n) refl refl behind has.some in
      let same : has.each ≡ each = same_Some has.each each (sym has.is ∙ is) in
      let fits : suc n * each ≤ count * each = mul-le (suc n) each count each (omega (arith, less)) (omega arith) in
      let split : suc n * each ≡ each * n + each = grind arith in
      let whole : count * each ≡ size = subst (λ z. count * z ≡ size) same has.whole in
      subst (IsWithin room) (same_Some (subobject e (at + each * n)) x h) (record { size = each; is = is; to = omega (arith, fits, split, whole, to) })

  -- a complete struct is there
  struct_is : (owner size : ℕ) (v : StructView) → slice_get k.structs owner ≡ Some v → size_of k (Struct owner) ≡ Some size → v.size ≡ size
  struct_is owner size v there h =
      let s : StructView = struct_at k.structs owner in
      let a = cond_is (nat_lt owner (length k.structs) && ((s.complete && nat_lt 0 s.align) && nat_le s.size most_bytes)) s.size size h in
      let same : s ≡ v = get_or_from_slice_get k.structs owner v no_struct there in
      ap (λ y. y.size) (sym same) ∙ a.1

  member_within : (room at owner n size : ℕ) (x : SubobjectView) → size_of k (Struct owner) ≡ Some size → at + size ≤ room → (o : Option StructView) → slice_get k.structs owner ≡ o → member_in at n o ≡ Some x → IsWithin room x
  member_within room at owner n size x is to None there h = none_is x h
  member_within room at owner n size x is to (Some v) there h = by_field (slice_get v.fields n) refl h
    where
      by_field : (o : Option FieldView) → slice_get v.fields n ≡ o → option_map (at_offset at) o ≡ Some x → IsWithin room x
      by_field None field g = none_is x g
      by_field (Some f) field g =
          let inside = laid owner n v f there field in
          let w = inside.within in
          let whole = struct_is owner size v there is in
          subst (IsWithin room) (same_Some (at_offset at f) x g) (record { size = inside.size; is = inside.is; to = omega (arith, w, whole, to) })

  following_within : (room : ℕ) (t : Ty) (at n : ℕ) (x : SubobjectView) → following_of k t at n ≡ Some x → IsWithin room (subobject t at) → IsWithin room x
  following_within room (Array e count) at n x h g = element_within room at count n g.size e x (elements_of e count g.size (size_of k e) refl g.is) g.to (is_behind count n) (size_of k e) refl refl h
  following_within room (Struct owner) at n x h g = member_within room at owner n g.size x g.is g.to (slice_get k.structs owner) refl h
  following_within room (Int kind) at n x h g = none_is x h
  following_within room (Pointer t) at n x h g = none_is x h
  following_within room Void at n x h g = none_is x h

  path_within : (t : Ty) (room : ℕ) → size_of k t ≡ Some room → (path : List ℕ) (x : SubobjectView) → part_of k t path ≡ Some x → IsWithin room x
  path_within t room is [] x h = subst (IsWithin room) (same_Some (subobject t 0) x h) (record { size = room; is = is; to = omega arith })
  path_within t room is (n ∷ outer) x h = by_outer (part_of k t outer) refl h (λ p e. path_within t room is outer p e)
    where
      by_outer : (o : Option SubobjectView) → part_of k t outer ≡ o → within k o n ≡ Some x → ((p : SubobjectView) → part_of k t outer ≡ Some p → IsWithin room p) → IsWithin room x
      by_outer None e g inner = none_is x g
      by_outer (Some p) e g inner = following_within room p.ctype p.offset n x g (inner p e)

  -- ---- sizes are small

  module _ (model : is_model k.numbers ≡ true) where
    small : (t : Ty) (size : ℕ) → size_of k t ≡ Some size → size ≤ 2 ^ 30
    small t size h = sized_small k.numbers k.structs model t size h

    -- ---- stores

    part_near : (t : Ty) (size : ℕ) → size_of k t ≡ Some size → (s : SubobjectView) → IsPart k t s → s.offset ≤ 2 ^ 30
    part_near t size is s part =
        let w = path_within t size is part.path s part.is in
        let to = w.to in
        let few = small t size is in
        omega (arith, to, few)

    no_bytes : (count : ℕ) → array_size (suc count) 0 ≡ Some 0
    no_bytes count = ap (λ n. cond (nat_lt 0 (suc count) && nat_le n most_bytes) (Some n) None) (let e : suc count * 0 ≡ 0 = omega arith in e) ∙ ap (λ b. cond (b && nat_le 0 most_bytes) (Some 0) None) (lt-ltb 0 (suc count) (omega arith))

    few_elements : (count each : ℕ) → count * suc each ≤ 2 ^ 30 → count < 2 ^ 64 - 1
    few_elements count each h = let a : count * 1 ≤ count * suc each = mul-le count 1 count (suc each) (omega arith) (omega arith) in omega (arith, a, h)

    -- a part of an array with each length from one on
    counted_near : (e : Ty) (count size : ℕ) (each : ℕ) → size_of k e ≡ Some each → count * each ≡ size → size_of k (Array e count) ≡ Some size → (s : SubobjectView) → ((n : ℕ) → count ≤ n → (count < n) ⊎ (count < 2 ^ 64 - 1) → IsPart k (Array e n) s) → s.offset ≤ 2 ^ 30
    counted_near e count size zero each whole is s h = part_near (Array e (suc count)) 0 (ap (option_and_then (array_size (suc count))) each ∙ no_bytes count) s (h (suc count) (omega arith) (inl (omega arith)))
    counted_near e count size (suc each) some whole is s h = part_near (Array e count) size is s (h count (omega arith) (inr (few_elements count each (let few = small (Array e count) size is in omega (arith, few, whole)))))

    array_near : (e : Ty) (had count size : ℕ) (b : Bool) → size_of k (Array e (cond b count had)) ≡ Some size → (s : SubobjectView) → ((n : ℕ) → count ≤ n → (count < n) ⊎ (count < 2 ^ 64 - 1) → IsPart k (Array e (cond b n had)) s) → s.offset ≤ 2 ^ 30
    array_near e had count size true is s h = let x = elements_of e count size (size_of k e) refl is in counted_near e count size x.each x.is x.whole is s h
    array_near e had count size false is s h = part_near (Array e had) size is s (h (suc count) (omega arith) (inl (omega arith)))

    from_near : (t : Ty) (count size : ℕ) → size_of k (with_length t count) ≡ Some size → (s : SubobjectView) → IsPartFrom k t count s → s.offset ≤ 2 ^ 30
    from_near (Array e had) count size is s h = array_near e had count size (had == 0) is s h
    from_near (Int kind) count size is s h = part_near (Int kind) size is s (h (suc count) (omega arith) (inl (omega arith)))
    from_near (Pointer t) count size is s h = part_near (Pointer t) size is s (h (suc count) (omega arith) (inl (omega arith)))
    from_near (Struct i) count size is s h = part_near (Struct i) size is s (h (suc count) (omega arith) (inl (omega arith)))
    from_near Void count size is s h = part_near Void size is s (h (suc count) (omega arith) (inl (omega arith)))

    all_near : (P : SubobjectView → Type 0) → ((s : SubobjectView) → P s → s.offset ≤ 2 ^ 30) → (xs : List StoreTree) → ArePlaced P xs → AreNear xs
    all_near P near [] h = tt
    all_near P near (StoreValue offset e ∷ xs) h = (subst (λ n. n ≤ 2 ^ 30) h.0.2 (near h.0.0 h.0.1), all_near P near xs h.1)
    all_near P near (StoreCopy offset l ∷ xs) h = (subst (λ n. n ≤ 2 ^ 30) h.0.2 (near h.0.0 h.0.1), all_near P near xs h.1)
    all_near P near (StoreText offset room text ∷ xs) h = (subst (λ n. n ≤ 2 ^ 30) h.0.2 (near h.0.0 h.0.1), all_near P near xs h.1)

    placed_near : (t made : Ty) (size : ℕ) (xs : List StoreTree) → size_of k made ≡ Some size → IsPlacedBy k t xs made → AreNear xs
    placed_near t made size xs is (inl h) = all_near (IsPartFrom k t h.count) (λ s part. from_near t h.count size (subst (λ x. size_of k x ≡ Some size) h.is is) s part) xs h.placed
    placed_near t made size xs is (inr h) = all_near (IsPart k made) (λ s part. part_near made size is s part) xs h

pub stores_are_near : StoresAreNear
stores_are_near s t made stores h sized placed = by_size (size_of s.known made) refl sized
  where
    by_size : (o : Option ℕ) → size_of s.known made ≡ o → is_some o ≡ true → AreNear stores
    by_size None is some = absurd (cc)
    by_size (Some size) is some = placed_near s.known h.laid h.proper t made size stores is placed
