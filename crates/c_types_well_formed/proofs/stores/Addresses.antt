-- Static initializers store texts of bytes, and addresses of literals that lie within them.
use Rattle.std.proofs.Common.{◌≡◌, ◌≤◌, ◌+◌, ◌*◌, ◌^◌, ℕ, ℤ, pos, negsuc, ◌*ℤ◌, Bool, true, false, List, [], ◌∷◌, ◌++◌, Option, Some, None, Ok, Err, arith, refl}
use Rattle.std.specs.Prelude.{cond, nat_le, int_lt, option_map}
use Rattle.std.specs.Ordering.{int_eq}
use Rattle.std.proofs.lemmas.Bool.{leb-true, ltb-false}
use Rattle.cc_base.specs.declared.diagnostics.Place.{Place}
use Rattle.cc_base.specs.declared.int_types.IntType.{IntType}
use Rattle.c_layout.specs.Models.{is_model}
use Rattle.c_layout.specs.Types.{Ty, Int, Pointer, Array, Struct, Void}
use Rattle.c_layout.specs.CheckedTrees as tree
use Rattle.c_layout.specs.CheckedTrees.{TermTree, FormTree, LvalueTree, LvalueFormTree, StoreTree, StoreValue, StoreCopy, StoreText}
use Rattle.c_layout.specs.CheckedUnits.{StaticStoreView}
use Rattle.c_layout.specs.declared.checked_tree.checked_terms.ObjectRef.TheVariants as object
use Rattle.c_layout.specs.declared.checked_tree.checked_units.StaticBase.{StaticBase}
use Rattle.c_layout.specs.declared.checked_tree.checked_units.StaticBase.TheVariants as base
use Rattle.c_layout.specs.declared.checked_tree.checked_units.StaticValue.{StaticValue}
use Rattle.c_types_scopes.specs.Known.{Known, size_of}
use Rattle.c_types_scopes.specs.Refusals.{Ruled}
use Rattle.c_types_operands.specs.Operands.{term_type, term_constant, is_integer}
use Rattle.c_types_initializers.specs.Addresses as spec
use Rattle.c_types_initializers.specs.Initialized.{InitializedView, ByTerm, ByLvalue, ByStores}
use Rattle.c_types_initializers.specs.StaticStores as stores
use Rattle.c_types_initializers.specs.declared.address_constants.Address.{Address}
use Rattle.c_types_initializers.specs.declared.address_constants.PointerConstant.{PointerConstant}
use Rattle.c_types_initializers.specs.declared.address_constants.PointerConstant.TheVariants as pointer
use Rattle.c_types_well_formed.specs.WellFormed.ProperStores.{IsNearBase, IsNearValue, IsProperStore, AreProperStores}
use Rattle.c_types_well_formed.proofs.layouts.Inside.{sized_small}
use Rattle.c_types_well_formed.specs.Stores.StaticStores.{IsByteStore, AreByteStores, IsByteInitial, StoresIf, StaticStoresAreProper}
use Rattle.c_types_well_formed.proofs.stores.Texts.{initializer_texts}

-- ---- addresses

abbrev IsNear : Address → Type 0
IsNear a = IsNearBase a.base a.offset a.high

abbrev NearIf : Option Address → Type 0
NearIf None = Unit {0}
NearIf (Some a) = IsNear a

abbrev IsNearPointer : PointerConstant → Type 0
IsNearPointer pointer.Null = Unit {0}
IsNearPointer (pointer.Address a) = IsNear a

abbrev PointsNear : Option PointerConstant → Type 0
PointsNear None = Unit {0}
PointsNear (Some p) = IsNearPointer p

-- a part of what an address may reach
nearer : (b : StaticBase) (o h low high : ℕ) → IsNearBase b o h → low ≤ high → high ≤ h → IsNearBase b low high
nearer (base.Object n) o h low high near inside within = tt
nearer (base.Literal n) o h low high near inside within = let a = near.1 in (omega (arith, inside, within, a), omega (arith, within, a))

part_near : (a : Address) (low high : ℕ) → low ≤ high → IsNear a → NearIf (spec.part_between a low high)
part_near a low high inside near = by (nat_le high a.high) refl
  where
    by : (b : Bool) → nat_le high a.high ≡ b → NearIf (cond b (Some (record { base = a.base; offset = low; low = low; high = high })) None)
    by true is = nearer a.base a.offset a.high low high near inside (leb-true high a.high is)
    by false is = tt

within_near : (a : Address) (n : ℤ) → IsNear a → NearIf (spec.within a n)
within_near a (pos k) near = by_low (int_lt (pos k) (pos a.low))
  where
    by_high : (b : Bool) → int_lt (pos a.high) (pos k) ≡ b → NearIf (cond b None (Some (record a { offset = k })))
    by_high true is = tt
    by_high false is = nearer a.base a.offset a.high k a.high near (ltb-false a.high k is) (omega arith)

    by_low : (b : Bool) → NearIf (cond b None (cond (int_lt (pos a.high) (pos k)) None (Some (record a { offset = k }))))
    by_low true = tt
    by_low false = by_high (int_lt (pos a.high) (pos k)) refl
within_near a (negsuc k) near = tt

moved_near : (a : Address) (down : Bool) (size : ℕ) (n : ℤ) → IsNear a → NearIf (spec.moved a down size n)
moved_near a down size n near = within_near a (spec.displaced down (pos a.offset) (n *ℤ pos size)) near

object_near : (n : ℕ) (o : Option ℕ) → NearIf (option_map (spec.from_0 (base.Object n)) o)
object_near n None = tt
object_near n (Some size) = tt

literal_near : (n : ℕ) (o : Option ℕ) → ((size : ℕ) → o ≡ Some size → size ≤ 2 ^ 30) → NearIf (option_map (spec.from_0 (base.Literal n)) o)
literal_near n None small = tt
literal_near n (Some size) small = (omega arith, small size refl)

address_near : (p : Option PointerConstant) → PointsNear p → NearIf (spec.address p)
address_near None near = tt
address_near (Some pointer.Null) near = tt
address_near (Some (pointer.Address a)) near = near

pointing_near : (a : Option Address) → NearIf a → PointsNear (spec.pointing a)
pointing_near None near = tt
pointing_near (Some a) near = near

member_near : (a : Option Address) (distance : ℕ) (size : Option ℕ) → NearIf a → NearIf (spec.member_at a distance size)
member_near None distance size near = tt
member_near (Some a) distance None near = tt
member_near (Some a) distance (Some size) near = part_near a (a.offset + distance) (a.offset + distance + size) (omega arith) near

first_near : (a : Option Address) (size : Option ℕ) → NearIf a → NearIf (spec.first_at a size)
first_near None size near = tt
first_near (Some a) None near = near
first_near (Some a) (Some size) near = part_near a (a.offset + 0) (a.offset + 0 + size) (omega arith) near

null_near : (c : Option ℤ) → PointsNear (spec.null_if c)
null_near None = tt
null_near (Some n) = by (int_eq n (pos 0))
  where
    by : (b : Bool) → PointsNear (cond b (Some pointer.Null) None)
    by true = tt
    by false = tt

shifted_near : (p : Option PointerConstant) (down : Bool) (size : ℕ) (n : Option ℤ) → PointsNear p → PointsNear (spec.shifted p down size n)
shifted_near None down size n near = tt
shifted_near (Some p) down size None near = tt
shifted_near (Some pointer.Null) down size (Some n) near = tt
shifted_near (Some (pointer.Address a)) down size (Some n) near = pointing_near (spec.moved a down size n) (moved_near a down size n near)

either_near : (b : Bool) (p q : Option PointerConstant) → PointsNear p → PointsNear q → PointsNear (cond b p q)
either_near true p q g h = g
either_near false p q g h = h

abbrev ValueIf : Option StaticValue → Type 0
ValueIf None = Unit {0}
ValueIf (Some v) = IsNearValue v

abbrev StoreIf : Ruled StaticStoreView → Type 0
StoreIf (Ok s) = IsProperStore s
StoreIf (Err f) = Unit {0}

module _ (k : Known) (model : is_model k.numbers ≡ true) where
  mutual
    located_near : (l : LvalueTree) → NearIf (spec.located k l)
    located_near (tree.Designates at t parens f) = located_form_near f t

    located_form_near : (f : LvalueFormTree) (t : Ty) → NearIf (spec.located_form k t f)
    located_form_near (tree.Object (object.Static n)) t = object_near n (spec.reach k t)
    located_form_near (tree.Object (object.Local n)) t = tt
    located_form_near (tree.Literal n) t = literal_near n (size_of k t) (sized_small k.numbers k.structs model t)
    located_form_near (tree.Target e) t = address_near (spec.pointed k e) (pointed_near e)
    located_form_near (tree.Member l distance) t = member_near (spec.located k l) distance (size_of k t) (located_near l)
    located_form_near (tree.Copied target source) t = tt
    located_form_near (tree.Then first last) t = tt

    decayed_near : (l : LvalueTree) → PointsNear (spec.decayed k l)
    decayed_near (tree.Designates at t parens f) = pointing_near (spec.first_at (spec.located_form k t f) (size_of k t)) (first_near (spec.located_form k t f) (size_of k t) (located_form_near f t))

    converted_near : (e : TermTree) → PointsNear (spec.converted_pointer k e)
    converted_near (tree.Typed at t parens constant f) = either_near (is_integer t) (spec.null_if constant) (spec.pointed_form k f) (null_near constant) (pointed_form_near f)

    pointed_near : (e : TermTree) → PointsNear (spec.pointed k e)
    pointed_near (tree.Typed at t parens constant f) = pointed_form_near f

    pointed_form_near : (f : FormTree) → PointsNear (spec.pointed_form k f)
    pointed_form_near (tree.Convert kind e) = converted_near e
    pointed_form_near (tree.Decay l) = decayed_near l
    pointed_form_near (tree.AddressOf l) = pointing_near (spec.located k l) (located_near l)
    pointed_form_near (tree.Shift down size a b) =
        either_near (is_integer (term_type b)) (spec.shifted (spec.pointed k a) down size (term_constant b)) (spec.shifted (spec.pointed k b) down size (term_constant a)) (shifted_near (spec.pointed k a) down size (term_constant b) (pointed_near a)) (shifted_near (spec.pointed k b) down size (term_constant a) (pointed_near b))
    pointed_form_near _ = tt

  -- ---- values

  pointer_value_near : (p : Option PointerConstant) → PointsNear p → ValueIf (option_map spec.pointer_value p)
  pointer_value_near None near = tt
  pointer_value_near (Some pointer.Null) near = tt
  pointer_value_near (Some (pointer.Address a)) near = near

  number_near : (kind : IntType) (c : Option ℤ) → ValueIf (spec.number c kind)
  number_near kind None = tt
  number_near kind (Some n) = tt

  typed_near : (e : TermTree) (t : Ty) → ValueIf (spec.value_of_type k t (term_constant e) e)
  typed_near e (Int kind) = number_near kind (term_constant e)
  typed_near e (Pointer t) = pointer_value_near (spec.pointed k e) (pointed_near e)
  typed_near e (Array t n) = pointer_value_near (spec.pointed k e) (pointed_near e)
  typed_near e (Struct i) = pointer_value_near (spec.pointed k e) (pointed_near e)
  typed_near e Void = pointer_value_near (spec.pointed k e) (pointed_near e)

  -- ---- stores

  value_proper : (at : Place) (offset : ℕ) (o : Option StaticValue) → ValueIf o → StoreIf (stores.value_at at offset o)
  value_proper at offset None near = tt
  value_proper at offset (Some v) near = near

  store_proper : (at : Place) (x : StoreTree) → IsByteStore x → StoreIf (stores.static_store k at x)
  store_proper at (StoreValue offset e) plain = value_proper at offset (spec.static_value k e) (typed_near e (term_type e))
  store_proper at (StoreCopy offset l) plain = tt
  store_proper at (StoreText offset room text) plain = plain

  proper_more : (ss : List StaticStoreView) (s : StaticStoreView) → AreProperStores ss → IsProperStore s → AreProperStores (ss ++ s ∷ [])
  proper_more [] s all one = (one, tt)
  proper_more (x ∷ ss) s all one = (all.0, proper_more ss s all.1 one)

  one_behind : (r : Ruled StaticStoreView) (rest : StaticStoreView → Ruled (List StaticStoreView)) → StoreIf r → ((s : StaticStoreView) → IsProperStore s → StoresIf (rest s)) → StoresIf (stores.behind r rest)
  one_behind (Ok s) rest one more = more s one
  one_behind (Err f) rest one more = tt

  list_proper : (at : Place) (xs : List StoreTree) (made : List StaticStoreView) → AreByteStores xs → AreProperStores made → StoresIf (stores.stores_from k at made xs)
  unfolding stores.stores_from
  list_proper at [] made plain all = all
  list_proper at (x ∷ xs) made plain all = one_behind (stores.static_store k at x) (λ v. stores.stores_from k at (made ++ v ∷ []) xs) (store_proper at x plain.0) (λ s one. list_proper at xs (made ++ s ∷ []) plain.1 (proper_more made s all one))

  one_proper : (r : Ruled StaticStoreView) → StoreIf r → StoresIf (stores.one_store r)
  one_proper (Ok s) one = (one, tt)
  one_proper (Err f) one = tt

  -- what a static initializer stores
  constant_proper : (at : Place) (v : InitializedView) → IsByteInitial v → StoresIf (stores.constant_stores k at v)
  constant_proper at (ByTerm e) plain = one_proper (stores.value_at at 0 (spec.static_value k e)) (value_proper at 0 (spec.static_value k e) (typed_near e (term_type e)))
  constant_proper at (ByLvalue l) plain = tt
  constant_proper at (ByStores xs) plain = list_proper at xs [] plain tt

pub static_stores_proper : StaticStoresAreProper
static_stores_proper m k s u equals at t made i v model proper is = constant_proper k model at v (initializer_texts m s u equals t made i v proper is)
