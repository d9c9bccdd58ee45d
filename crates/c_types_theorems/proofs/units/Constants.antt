-- The stores of a static initializer stand where the initializer's do.
use Rattle.std.proofs.Common.{◌≡◌, ◌<◌, ◌≤◌, ◌+◌, ◌*◌, ◌-◌, ◌^◌, ℕ, ℤ, zero, suc, Bool, true, false, List, [], ◌∷◌, ◌++◌, Option, Some, None, Ok, Err, arith, refl, ap, subst, sym, ◌∙◌, inl, inr, mul-le-mul_left}
use Rattle.std.specs.Prelude.{◌⊎◌, ◌&&◌, ◌==◌, cond, nat_lt, nat_le, is_some, option_map, option_and_then}
use Rattle.std.proofs.lemmas.Bool.{and_parts, leb-true}
use Rattle.std.proofs.lemmas.Option.{same_Some}
use Rattle.cc_base.specs.declared.diagnostics.Place.{Place}
use Rattle.cc_base.specs.declared.int_types.IntType.{IntType}
use Rattle.c_layout.specs.Layout.{most_bytes}
use Rattle.c_layout.specs.Types.{Ty, Int, Pointer, Array, Struct, Void}
use Rattle.c_layout.specs.CheckedTrees.{TermTree, StoreTree, StoreValue, StoreCopy, StoreText}
use Rattle.c_layout.specs.CheckedUnits.{StaticStoreView, SetValue, SetText}
use Rattle.c_layout.specs.declared.checked_tree.checked_units.StaticValue.{StaticValue}
use Rattle.c_types_rules.specs.Rules.TypeSizes.{array_size}
use Rattle.c_types_scopes.specs.Known.{Known, size_of}
use Rattle.c_types_scopes.specs.Refusals.{Ruled}
use Rattle.c_types_operands.specs.Operands.{term_type, term_constant, is_scalar}
use Rattle.c_types_initializers.specs.declared.address_constants.PointerConstant.{PointerConstant}
use Rattle.c_types_initializers.specs.declared.address_constants.PointerConstant.TheVariants as pointer
use Rattle.c_types_initializers.specs.Addresses.{number_as, pointer_value, pointed, value_of_type, static_value}
use Rattle.c_types_initializers.specs.Literals.{length_or, with_length}
use Rattle.c_types_initializers.specs.Subobjects.{SubobjectView, subobject}
use Rattle.c_types_initializers.specs.StaticStores.{value_at, static_store, behind, stores_from, one_store, constant_stores}
use Rattle.c_types_initializers.specs.Initialized.{InitializedView, ByTerm, ByLvalue, ByStores}
use Rattle.c_types_theorems.specs.Stores.PlacedStores.{ArePlaced, IsPlaced, IsPart, IsPartFrom, IsCounted, IsInitialized}
use Rattle.c_types_theorems.proofs.stores.Lists.{all_placed}
use Rattle.c_types_theorems.specs.Units.PlacedUnits.{IsValueOf, IsPlacedStore, ArePlacedStores, HasNoBytes}

-- ---- values

number_value : (kind : IntType) (c : Option ℤ) (v : StaticValue) → option_map (number_as kind) c ≡ Some v → IsValueOf (Int kind) v
number_value kind None v h = absurd (cc)
number_value kind (Some z) v h = subst (IsValueOf (Int kind)) (same_Some (number_as kind z) v h) (refl, z, refl)

one_pointer : (t : Ty) (p : PointerConstant) → IsValueOf (Pointer t) (pointer_value p)
one_pointer t pointer.Null = tt
one_pointer t (pointer.Address a) = tt

pointer_is : (t : Ty) (p : Option PointerConstant) (v : StaticValue) → option_map pointer_value p ≡ Some v → IsValueOf (Pointer t) v
pointer_is t None v h = absurd (cc)
pointer_is t (Some p) v h = subst (IsValueOf (Pointer t)) (same_Some (pointer_value p) v h) (one_pointer t p)

value_is : (k : Known) (e : TermTree) (t : Ty) (v : StaticValue) → is_scalar t ≡ true → value_of_type k t (term_constant e) e ≡ Some v → IsValueOf t v
value_is k e (Int kind) v scalar h = number_value kind (term_constant e) v h
value_is k e (Pointer t) v scalar h = pointer_is t (pointed k e) v h
value_is k e (Array t n) v scalar h = absurd (cc)
value_is k e (Struct i) v scalar h = absurd (cc)
value_is k e Void v scalar h = absurd (cc)

static_is : (k : Known) (e : TermTree) (t : Ty) (v : StaticValue) → term_type e ≡ t → is_scalar t ≡ true → static_value k e ≡ Some v → IsValueOf t v
static_is k e t v is scalar h = value_is k e t v scalar (ap (λ x. value_of_type k x (term_constant e) e) (sym is) ∙ h)

-- ---- stores

abbrev IsOne : Known → Ty → Ruled StaticStoreView → Type 0
IsOne k t (Ok s) = IsPlacedStore k t s
IsOne k t (Err f) = Unit {0}

value_placed : (k : Known) (t : Ty) (at : Place) (s : SubobjectView) (offset : ℕ) (o : Option StaticValue) → IsPart k t s → s.offset ≡ offset → ((v : StaticValue) → o ≡ Some v → IsValueOf s.ctype v) → IsOne k t (value_at at offset o)
value_placed k t at s offset None part there of = tt
value_placed k t at s offset (Some v) part there of = (s, part, there, of v refl)

store_placed : (k : Known) (t : Ty) (at : Place) (x : StoreTree) → IsPlaced (IsPart k t) x → IsOne k t (static_store k at x)
store_placed k t at (StoreValue offset e) h = value_placed k t at h.0 offset (static_value k e) h.1 h.2 (λ v is. static_is k e h.0.ctype v h.4 h.3 is)
store_placed k t at (StoreCopy offset l) h = tt
store_placed k t at (StoreText offset room text) h = h

abbrev AreAll : Known → Ty → Ruled (List StaticStoreView) → Type 0
AreAll k t (Ok ss) = ArePlacedStores k t ss
AreAll k t (Err f) = Unit {0}

placed_with : (k : Known) (t : Ty) (ss : List StaticStoreView) (s : StaticStoreView) → ArePlacedStores k t ss → IsPlacedStore k t s → ArePlacedStores k t (ss ++ s ∷ [])
placed_with k t [] s all one = (one, tt)
placed_with k t (x ∷ ss) s all one = (all.0, placed_with k t ss s all.1 one)

one_behind : (k : Known) (t : Ty) (r : Ruled StaticStoreView) (rest : StaticStoreView → Ruled (List StaticStoreView)) → IsOne k t r → ((s : StaticStoreView) → IsPlacedStore k t s → AreAll k t (rest s)) → AreAll k t (behind r rest)
one_behind k t (Ok s) rest one more = more s one
one_behind k t (Err f) rest one more = tt

list_placed : (k : Known) (t : Ty) (at : Place) (xs : List StoreTree) (made : List StaticStoreView) → ArePlaced (IsPart k t) xs → ArePlacedStores k t made → AreAll k t (stores_from k at made xs)
unfolding stores_from
list_placed k t at [] made h all = all
list_placed k t at (x ∷ xs) made h all = one_behind k t (static_store k at x) (λ v. stores_from k at (made ++ v ∷ []) xs) (store_placed k t at x h.0) (λ s one. list_placed k t at xs (made ++ s ∷ []) h.1 (placed_with k t made s all one))

-- ---- the length of an array

le_times : (c size : ℕ) → c ≤ c * suc size
le_times c size = let a : c * 1 ≤ c * suc size = mul-le-mul_left c (omega arith) in omega (arith, a)

few_elements : (c size n : ℕ) (b : Bool) → cond b (Some (c * suc size)) None ≡ Some n → (nat_lt 0 c && nat_le (c * suc size) most_bytes) ≡ b → c < 2 ^ 64 - 1
few_elements c size n true h is =
    let p = and_parts (nat_lt 0 c) (nat_le (c * suc size) most_bytes) is in
    let least : c * suc size ≤ 2 ^ 30 = leb-true (c * suc size) most_bytes p.1 in
    let a = le_times c size in
    omega (arith, a, least)
few_elements c size n false h is = absurd (cc)

-- an array that its initializer gives a length has few elements, or they have no bytes
elements_or : (k : Known) (e : Ty) (c : ℕ) (o : Option ℕ) → size_of k e ≡ o → is_some (option_and_then (array_size c) o) ≡ true → (c < 2 ^ 64 - 1) ⊎ HasNoBytes k (Array e c)
elements_or k e c None is h = absurd (cc)
elements_or k e c (Some zero) is h = inr (record { element = e; count = c; is = refl; none = is })
elements_or k e c (Some (suc size)) is h = inl (by_size (nat_lt 0 c && nat_le (c * suc size) most_bytes) refl h)
  where
    by_size : (b : Bool) → (nat_lt 0 c && nat_le (c * suc size) most_bytes) ≡ b → is_some (cond b (Some (c * suc size)) None) ≡ true → c < 2 ^ 64 - 1
    by_size true is h = few_elements c size (c * suc size) true refl is
    by_size false is h = absurd (cc)

abbrev Settled : Known → Ty → List StoreTree → Type 0
Settled k made xs = ArePlaced (IsPart k made) xs ⊎ HasNoBytes k made

array_settled : (k : Known) (e : Ty) (had c : ℕ) (xs : List StoreTree) (b : Bool) → (had == 0) ≡ b → is_some (size_of k (Array e (cond b c had))) ≡ true → ((n : ℕ) → c ≤ n → (c < n) ⊎ (c < 2 ^ 64 - 1) → ArePlaced (IsPart k (Array e (cond b n had))) xs) → Settled k (Array e (cond b c had)) xs
array_settled k e had c xs true is sized h = elim (elements_or k e c (size_of k e) refl sized) [ inl few ↦ inl (h c (omega arith) (inr few)) | inr none ↦ inr none ]
array_settled k e had c xs false is sized h = inl (h (c + 1) (omega arith) (inl (omega arith)))

counted_settled : (k : Known) (t : Ty) (c : ℕ) (xs : List StoreTree) → is_some (size_of k (with_length t c)) ≡ true → ((n : ℕ) → c ≤ n → (c < n) ⊎ (c < 2 ^ 64 - 1) → ArePlaced (IsPart k (with_length t n)) xs) → Settled k (with_length t c) xs
counted_settled k (Array e had) c xs sized h = array_settled k e had c xs (had == 0) refl sized h
counted_settled k (Int kind) c xs sized h = inl (h (c + 1) (omega arith) (inl (omega arith)))
counted_settled k (Pointer t) c xs sized h = inl (h (c + 1) (omega arith) (inl (omega arith)))
counted_settled k (Struct i) c xs sized h = inl (h (c + 1) (omega arith) (inl (omega arith)))
counted_settled k Void c xs sized h = inl (h (c + 1) (omega arith) (inl (omega arith)))

-- ---- initializers

-- the stores of a static initializer stand at parts of the object
abbrev pub IsStored : Known → Ty → Ruled (List StaticStoreView) → Type 0
IsStored k made (Ok ss) = ArePlacedStores k made ss ⊎ HasNoBytes k made
IsStored k made (Err f) = Unit {0}

stored_of : (k : Known) (made : Ty) (r : Ruled (List StaticStoreView)) → AreAll k made r → IsStored k made r
stored_of k made (Ok ss) h = inl h
stored_of k made (Err f) h = tt

bare : (k : Known) (made : Ty) (r : Ruled (List StaticStoreView)) → HasNoBytes k made → IsStored k made r
bare k made (Ok ss) h = inr h
bare k made (Err f) h = tt

one_stored : (k : Known) (made : Ty) (r : Ruled StaticStoreView) → IsOne k made r → IsStored k made (one_store r)
one_stored k made (Ok s) h = inl (h, tt)
one_stored k made (Err f) h = tt

settled_stored : (k : Known) (made : Ty) (at : Place) (xs : List StoreTree) → Settled k made xs → IsStored k made (stores_from k at [] xs)
settled_stored k made at xs (inl placed) = stored_of k made (stores_from k at [] xs) (list_placed k made at xs [] placed tt)
settled_stored k made at xs (inr none) = bare k made (stores_from k at [] xs) none

counted_stores : (k : Known) (t made : Ty) (xs : List StoreTree) → is_some (size_of k made) ≡ true → IsCounted k t xs made → Settled k made xs
counted_stores k t made xs sized h =
    subst (λ z. Settled k z xs) (sym h.is) (counted_settled k t h.count xs (subst (λ z. is_some (size_of k z) ≡ true) h.is sized)
    (λ n least less. all_placed (IsPartFrom k t h.count) (IsPart k (with_length t n)) (λ s part. part n least less) xs h.placed))

pub initializer_stored : (k : Known) (at : Place) (t made : Ty) (v : InitializedView) → is_some (size_of k made) ≡ true → IsInitialized k t v made → IsStored k made (constant_stores k at v)
initializer_stored k at t made (ByTerm e) sized h =
    one_stored k made (value_at at 0 (static_value k e)) (value_placed k made at (subobject made 0) 0 (static_value k e) (record { path = []; is = refl }) refl (λ x is. static_is k e made x (h.2 ∙ sym h.0) (subst (λ z. is_scalar z ≡ true) (sym h.0) h.1) is))
initializer_stored k at t made (ByLvalue l) sized h = tt
initializer_stored k at t made (ByStores xs) sized (inl counted) = settled_stored k made at xs (counted_stores k t made xs sized counted)
initializer_stored k at t made (ByStores xs) sized (inr placed) = settled_stored k made at xs (inl placed)
