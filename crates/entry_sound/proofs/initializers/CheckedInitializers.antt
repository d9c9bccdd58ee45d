-- The stores of checked units are typed.
use Rattle.std.proofs.Common.{◌≡◌, ℕ, zero, suc, ◌+◌, ◌-◌, ◌*◌, ◌<◌, ◌≤◌, ◌⊎◌, Bool, true, false, cond, ◌&&◌, List, [], ◌∷◌, length, Option, Some, None, Ok, slice_get, arith, ap, sym, subst, refl, inl, inr, ◌∙◌}
use Rattle.std.specs.Prelude.{◌==◌, ◌||◌, ◌^◌, not, nat_le, nat_lt, is_some, option_and_then}
use Rattle.std.specs.List.{list_all}
use Rattle.std.proofs.lemmas.Bool.{and_parts, eqb-true, ltb-true, ltb-false}
use Rattle.std.proofs.lemmas.Nat.{mul-le}
use Rattle.std.proofs.lemmas.Option.{same_Some}
use Rattle.cc_base.specs.IntegerTypes.{is_size, in_type}
use Rattle.cc_base.specs.declared.int_types.IntType.{IntType}
use Rattle.c_layout.specs.declared.data_model.Model.{Model}
use Rattle.c_layout.specs.declared.leaf_lists.Class.{Class}
use Rattle.c_layout.specs.declared.leaf_lists.Class.TheVariants as class
use Rattle.c_layout.specs.declared.checked_tree.checked_units.StaticValue.{StaticValue}
use Rattle.c_layout.specs.declared.checked_tree.checked_units.StaticValue.TheVariants.{Number, Null, Address}
use Rattle.c_layout.specs.CheckedUnits.{StaticStoreView, SetValue, SetText, StaticView, UnitView}
use Rattle.c_layout.specs.Layout.{most_bytes, size_of_type}
use Rattle.c_layout.specs.Leaves.{class_of, leaves_of}
use Rattle.c_layout.specs.Models.{is_model}
use Rattle.c_layout.specs.StructViews.{StructView, no_struct, struct_at}
use Rattle.c_layout.specs.Types.{Ty, Int, Pointer, Array, Struct, Void}
use Rattle.c_types_rules.specs.Rules.TypeSizes.{array_size, sized}
use Rattle.c_types_scopes.specs.Known.{Known, size_of}
use Rattle.c_types_initializers.specs.Subobjects.{SubobjectView, subobject}
use Rattle.c_types_initializers.specs.Literals.{room_of, character_room}
use Rattle.c_types_theorems.specs.Stores.PlacedStores.{IsPart}
use Rattle.c_types_theorems.specs.Units.PlacedUnits.{IsValueOf, IsPlacedStore, ArePlacedStores, HasNoBytes, IsPlacedObject, known_of}
use Rattle.c_types_theorems.proofs.units.Units.{initializers_placed}
use Rattle.lower_preconditions.specs.Objects.PlainObjects.{has_model_kind, has_length, is_plain_struct, is_plain_value, is_plain_store, is_plain_object, has_plain_objects}
use Rattle.cfg.specs.ModelKinds as flow
use Rattle.cfg.specs.ModelKinds.{is_int_type}
use Rattle.memory_model.specs.Memory.ScalarSizes.{class_bytes}
use Rattle.memory_model.specs.Memory.Tags.{tag_of}
use Rattle.store_sound.proofs.programs.ShapedBases.{all_at}
use Rattle.store_structs.specs.LaidApart.{has_class_bytes, are_laid_apart}
use Rattle.store_monotone.specs.Tags.TypeTags.{scalar_tags, type_tags}
use Rattle.store_monotone.proofs.tags.FoldedTags.{all_tags}
use Rattle.store_monotone.proofs.tags.PartTags.{of_element}
use Rattle.store_monotone.proofs.tags.TypeTags.{model_bytes, some_bytes}
use Rattle.analysis_preconditions.specs.StructNesting.OrderedStructs.{are_ordered}
use Rattle.transfer_system.specs.StartRows.{static_class}
use Rattle.library_sound.proofs.ScalarClasses.{class_same}
use Rattle.entry_sound.specs.Tables.TypedInitializers.{IsTypedValue, type_tag, HasScalar, HasCharacters, IsTypedStore, AreTypedStores, HasTypedInitializers}
use Rattle.entry_sound.specs.Initializers.CheckedInitializers.{CheckedInitializersAreTyped}
use Rattle.entry_sound.proofs.initializers.TypedParts.{sized_is, complete_long, IsTagged, part_tagged}

-- ---- integer types

kind_bytes : (m : Model) (k : IntType) → is_int_type m k ≡ true → (k.bytes == flow.class_bytes m (class_of k)) ≡ true
kind_bytes m k h =
    let p = and_parts (is_size k.bytes) ((k.bytes == flow.class_bytes m (class_of k)) && (nat_le 1 k.rank && nat_le k.rank 5)) h in
    (and_parts (k.bytes == flow.class_bytes m (class_of k)) (nat_le 1 k.rank && nat_le k.rank 5) p.1).0

kinds_have_bytes : (m : Model) (t : Ty) → has_model_kind m t ≡ true → has_class_bytes m t ≡ true
kinds_have_bytes m (Int k) h = kind_bytes m k h
kinds_have_bytes m (Pointer t) h = refl
kinds_have_bytes m (Array t n) h = kinds_have_bytes m t h
kinds_have_bytes m (Struct i) h = refl
kinds_have_bytes m Void h = refl

two_not : (c : Bool) (a b : ℕ) → 1 < a → 1 < b → cond c a b ≡ 1 → ⊥
two_not true a b h k e = omega (arith, h, e)
two_not false a b h k e = omega (arith, k, e)

-- one byte is a character's
one_byte : (m : Model) (c : Class) → class_bytes m c ≡ 1 → c ≡ class.Char
one_byte m class.Char e = refl
one_byte m class.Short e = absurd (omega (arith, e))
one_byte m class.Int e = absurd (two_not (m.int == 2) 2 4 (omega arith) (omega arith) e)
one_byte m class.Long e = absurd (two_not (m.long == 4) 4 8 (omega arith) (omega arith) e)
one_byte m class.LongLong e = absurd (omega (arith, e))
one_byte m class.Pointer e = absurd (two_not (m.pointer == 4) 4 8 (omega arith) (omega arith) e)

cond_is : {A : Type 0} (c : Bool) (a b : A) → cond c (Some a) None ≡ Some b → (c ≡ true) × (a ≡ b)
cond_is true a b h = (refl, same_Some a b h)
cond_is false a b h = absurd (cc)

scalar_tag : (m : Model) (c : Class) (x : ℕ) → x < class_bytes m c → scalar_tags m c x ≡ tag_of c x
scalar_tag m c x h = by_test (nat_lt x (class_bytes m c)) refl
  where
    by_test : (b : Bool) → nat_lt x (class_bytes m c) ≡ b → cond b (tag_of c x) None ≡ tag_of c x
    by_test true e = refl
    by_test false e = absurd (let k = ltb-false x (class_bytes m c) e in omega (arith, k, h))

-- ---- units

module _ (u : UnitView) (model : is_model u.model ≡ true) (apart : are_laid_apart u.model u.structs ≡ true) (ordered : are_ordered u.structs ≡ true) (plain : list_all is_plain_struct u.structs ≡ true) where
  abbrev size : Ty → ℕ
  size = size_of_type u.structs u.model.pointer

  -- a complete type has bytes
  some_size : (t : Ty) → has_class_bytes u.model t ≡ true → (n : ℕ) → size_of (known_of u) t ≡ Some n → 0 < n
  some_size (Int k) kind n h =
      let p = cond_is (nat_lt 0 k.bytes && nat_le k.bytes 8) k.bytes n h in
      let a = ltb-true 0 k.bytes (and_parts (nat_lt 0 k.bytes) (nat_le k.bytes 8) p.0).0 in
      let e = p.1 in omega (arith, a, e)
  some_size (Pointer t) kind n h =
      let e = same_Some u.model.pointer n h in
      let a = model_bytes u.model model class.Pointer in
      let b = some_bytes u.model class.Pointer in
      omega (arith, a, b, e)
  some_size (Array t count) kind n h = by_element (size_of (known_of u) t) refl h (some_size t kind)
    where
      by_element : (o : Option ℕ) → size_of (known_of u) t ≡ o → option_and_then (array_size count) o ≡ Some n → ((z : ℕ) → size_of (known_of u) t ≡ Some z → 0 < z) → 0 < n
      by_element None e k inner = absurd (cc)
      by_element (Some z) e k inner =
          let p = cond_is (nat_lt 0 count && nat_le (count * z) most_bytes) (count * z) n k in
          let a = ltb-true 0 count (and_parts (nat_lt 0 count) (nat_le (count * z) most_bytes) p.0).0 in
          let b = inner z e in
          let c : 1 * 1 ≤ count * z = mul-le 1 1 count z a b in
          let d = p.1 in omega (arith, c, d)
  some_size (Struct i) kind n h =
      let p = cond_is (nat_lt i (length u.structs) && (((struct_at u.structs i).complete && nat_lt 0 (struct_at u.structs i).align) && nat_le (struct_at u.structs i).size most_bytes)) (struct_at u.structs i).size n h in
      let a = and_parts (nat_lt i (length u.structs)) _ p.0 in
      let b = and_parts ((struct_at u.structs i).complete && nat_lt 0 (struct_at u.structs i).align) (nat_le (struct_at u.structs i).size most_bytes) a.1 in
      let c = and_parts (struct_at u.structs i).complete (nat_lt 0 (struct_at u.structs i).align) b.0 in
      let e = p.1 in
      let s = plain_at u.structs plain i (ltb-true i (length u.structs) a.0) in
      let f = has_bytes (struct_at u.structs i).complete (nat_lt 0 (struct_at u.structs i).size) c.0 (and_parts (not (struct_at u.structs i).complete || nat_lt 0 (struct_at u.structs i).size) (list_all (λ f. has_length f.ctype) (struct_at u.structs i).fields) s).0 in
      let g = ltb-true 0 (struct_at u.structs i).size f in
      omega (arith, e, g)
    where
      has_bytes : (a b : Bool) → a ≡ true → (not a || b) ≡ true → b ≡ true
      has_bytes true b h k = k
      has_bytes false b h k = absurd (cc)

      plain_at : (structs : List StructView) → list_all is_plain_struct structs ≡ true → (i : ℕ) → i < length structs → is_plain_struct (struct_at structs i) ≡ true
      plain_at [] h i less = absurd (omega (arith, less))
      plain_at (s ∷ structs) h zero less = (and_parts (is_plain_struct s) (list_all is_plain_struct structs) h).0
      plain_at (s ∷ structs) h (suc i) less = plain_at structs (and_parts (is_plain_struct s) (list_all is_plain_struct structs) h).1 i (omega (arith, less))
  some_size Void kind n h = absurd (cc)

  module _ (t : Ty) (kind : has_class_bytes u.model t ≡ true) (long : has_length t ≡ true) where
    tag_is : (x : ℕ) → type_tag u t x ≡ type_tags u.model u.structs t x
    tag_is x = all_tags u.model model u.structs apart t kind x

    in_part : (s : SubobjectView) → IsPart (known_of u) t s → IsTagged u.model model u.structs apart ordered plain t s
    in_part s part = part_tagged u.model model u.structs apart ordered plain t kind long s part

    scalar_in : (s : SubobjectView) (c : Class) (offset : ℕ) → IsTagged u.model model u.structs apart ordered plain t s → s.offset ≡ offset → size s.ctype ≡ class_bytes u.model c → ((x : ℕ) → type_tags u.model u.structs s.ctype x ≡ scalar_tags u.model c x) → HasScalar u t c offset
    scalar_in s c offset h at bytes tags =
        let to = h.to in
        record {
          tags = λ x k.
              let e : offset + x ≡ s.offset + x = omega (arith, at) in
              tag_is (offset + x) ∙ (ap (type_tags u.model u.structs t) e ∙ (h.tags x (omega (arith, k, bytes)) ∙ (tags x ∙ scalar_tag u.model c x k)));
          inside = omega (arith, to, at, bytes);
        }

    value_in : (offset : ℕ) (v : StaticValue) → is_plain_value u.model v ≡ true → (w : Ty) (at : ℕ) → IsTagged u.model model u.structs apart ordered plain t (subobject w at) → at ≡ offset → IsValueOf w v → IsTypedValue v × HasScalar u t (static_class v).0 offset
    value_in offset (Number n had) h (Int k) at part e is =
        let p = and_parts (is_int_type u.model had) (in_type had n) h in
        let same : class_of k ≡ (static_class (Number n had)).0 = sym (class_same had ∙ ap class_of is.0) in
        let bytes : k.bytes ≡ class_bytes u.model (class_of k) = eqb-true k.bytes (flow.class_bytes u.model (class_of k)) part.kind ∙ model_bytes u.model model (class_of k) in
        (p.1, subst (λ c. HasScalar u t c offset) same (scalar_in (subobject (Int k) at) (class_of k) offset part e bytes (λ x. refl)))
    value_in offset Null h (Pointer w) at part e is = (tt, scalar_in (subobject (Pointer w) at) class.Pointer offset part e (model_bytes u.model model class.Pointer) (λ x. refl))
    value_in offset (Address object o lo hi) h (Pointer w) at part e is = (tt, scalar_in (subobject (Pointer w) at) class.Pointer offset part e (model_bytes u.model model class.Pointer) (λ x. refl))
    value_in offset v h w at part e is = absurd (is)

    text_in : (offset room : ℕ) → nat_lt 0 room ≡ true → (w : Ty) (at : ℕ) → IsTagged u.model model u.structs apart ordered plain t (subobject w at) → at ≡ offset → character_room w ≡ Some room → HasCharacters u t offset room
    text_in offset room some (Array (Int k) count) at part e is =
        let p = cond_is (k.bytes == 1) count room is in
        let one : k.bytes ≡ 1 = eqb-true k.bytes 1 p.0 in
        let bytes : k.bytes ≡ class_bytes u.model (class_of k) = eqb-true k.bytes (flow.class_bytes u.model (class_of k)) part.kind ∙ model_bytes u.model model (class_of k) in
        let char : class_of k ≡ class.Char = one_byte u.model (class_of k) (sym bytes ∙ one) in
        let all : count * k.bytes ≡ count * 1 = ap (λ z. count * z) one in
        let long_as = p.1 in
        record {
          some = ltb-true 0 room some;
          tags = λ x from to.
              let y : ℕ = x - at in
              let o : x ≡ at + y = omega (arith, from, e) in
              let i : y ≡ y * k.bytes + 0 = (let z : y * k.bytes ≡ y * 1 = ap (λ z. y * z) one in omega (arith, z)) in
              tag_is x
              ∙ (ap (type_tags u.model u.structs t) o
              ∙ (part.tags y (omega (arith, to, from, e, all, long_as))
              ∙ (ap (type_tags u.model u.structs (Array (Int k) count)) i
              ∙ (of_element u.model model u.structs apart (Int k) count part.kind y 0 (omega (arith, to, from, e, long_as)) (omega (arith, one))
              ∙ (ap (λ c. scalar_tags u.model c 0) char ∙ scalar_tag u.model class.Char 0 (omega arith))))));
        }
    text_in offset room some (Array (Pointer w) count) at part e is = absurd (cc)
    text_in offset room some (Array (Array w n) count) at part e is = absurd (cc)
    text_in offset room some (Array (Struct i) count) at part e is = absurd (cc)
    text_in offset room some (Array Void count) at part e is = absurd (cc)
    text_in offset room some (Int k) at part e is = absurd (cc)
    text_in offset room some (Pointer w) at part e is = absurd (cc)
    text_in offset room some (Struct i) at part e is = absurd (cc)
    text_in offset room some Void at part e is = absurd (cc)

    stores_in : (ss : List StaticStoreView) → list_all (is_plain_store u.model) ss ≡ true → ArePlacedStores (known_of u) t ss → AreTypedStores u t ss
    stores_in [] h placed = tt
    stores_in (SetValue offset v ∷ ss) h placed =
        let p = and_parts (is_plain_value u.model v) (list_all (is_plain_store u.model) ss) h in
        let own = placed.0 in
        (value_in offset v p.0 own.0.ctype own.0.offset (in_part own.0 own.1) own.2 own.3, stores_in ss p.1 placed.1)
    stores_in (SetText offset room text ∷ ss) h placed =
        let p = and_parts (nat_lt 0 room) (list_all (is_plain_store u.model) ss) h in
        let own = placed.0 in
        (text_in offset room p.0 own.0.ctype own.0.offset (in_part own.0 own.1) own.2 own.3, stores_in ss p.1 placed.1)

  object_in : (o : StaticView) → is_plain_object u.model o ≡ true → IsPlacedObject (known_of u) o → AreTypedStores u o.ctype o.stores
  object_in o h placed =
      let p = and_parts (has_model_kind u.model o.ctype) (list_all (is_plain_store u.model) o.stores) h in
      let kind = kinds_have_bytes u.model o.ctype p.0 in
      elim placed [
        | inl none ↦ subst (AreTypedStores u o.ctype) (sym none) tt
        | inr known ↦ elim (known.1) [
          | inl stores ↦ stores_in o.ctype kind (complete_long u.structs u.model.pointer o.ctype known.0) o.stores p.1 stores
          | inr empty ↦ absurd (let a = some_size empty.element (subst (λ t. has_class_bytes u.model t ≡ true) empty.is kind) 0 empty.none in omega (arith, a))
        ]
      ]

pub checked_typed : CheckedInitializersAreTyped
checked_typed m name es u is model look apart ordered n o at =
    let a = and_parts (nat_lt (length u.objects) (2 ^ 32)) (list_all is_plain_struct u.structs && list_all (is_plain_object u.model) u.objects) look in
    let b = and_parts (list_all is_plain_struct u.structs) (list_all (is_plain_object u.model) u.objects) a.1 in
    object_in u model apart ordered b.0 o (all_at (is_plain_object u.model) u.objects n o b.1 at) (initializers_placed m name es u is (ltb-true (length u.objects) (2 ^ 32) a.0) n o at)
