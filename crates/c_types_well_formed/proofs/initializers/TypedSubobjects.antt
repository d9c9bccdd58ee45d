-- The subobjects of objects whose types are of a data model have such types.
use Rattle.std.proofs.Common.{◌≡◌, ℕ, zero, suc, Bool, true, false, List, [], ◌∷◌, Option, Some, None, slice_get, refl, subst}
use Rattle.std.specs.Prelude.{cond, option_map}
use Rattle.std.proofs.lemmas.Option.{same_Some}
use Rattle.c_layout.specs.Types.{Ty, Int, Pointer, Array, Struct, Void}
use Rattle.c_layout.specs.StructViews.{FieldView, StructView}
use Rattle.c_layout.specs.declared.data_model.Model.{Model}
use Rattle.c_types_scopes.specs.Known.{Known, size_of}
use Rattle.c_types_initializers.specs.Literals.{with_length}
use Rattle.c_types_initializers.specs.Subobjects.{SubobjectView, OpenView, entered, is_behind, element_of_size, at_offset, member_in, following_of, following, next_or, next}
use Rattle.c_types_initializers.specs.ListStores.{found_or, sought_within, sought}
use Rattle.c_types_well_formed.specs.WellFormed.ModelTypes.{IsTypeOf}

-- the members of structs
abbrev pub FieldsTyped : Model → Known → Type 0
FieldsTyped m k = (i j : ℕ) (v : StructView) (f : FieldView) → slice_get k.structs i ≡ Some v → slice_get v.fields j ≡ Some f → IsTypeOf m f.ctype

-- the aggregates that are open
abbrev pub AreTyped : Model → List OpenView → Type 0
AreTyped m [] = Unit {0}
AreTyped m (a ∷ outer) = IsTypeOf m a.ctype × AreTyped m outer

none_is : {A B : Type 0} (x : A) → None ≡ Some x → B
none_is x h = absurd (let e : None ≡ Some x = h in cc)

pub length_typed : (m : Model) (t : Ty) (n : ℕ) → IsTypeOf m t → IsTypeOf m (with_length t n)
length_typed m (Array t had) n h = h
length_typed m (Int kind) n h = h
length_typed m (Pointer t) n h = h
length_typed m (Struct i) n h = h
length_typed m Void n h = h

module _ (m : Model) (k : Known) (fields : FieldsTyped m k) where
  element_typed : (e : Ty) (offset n : ℕ) (b : Bool) (o : Option ℕ) (x : SubobjectView) → IsTypeOf m e → cond b None (element_of_size e offset n o) ≡ Some x → IsTypeOf m x.ctype
  element_typed e offset n true o x h is = none_is x is
  element_typed e offset n false None x h is = none_is x is
  element_typed e offset n false (Some size) x h is = subst (λ y. IsTypeOf m y.ctype) (same_Some _ x is) h

  member_typed : (owner offset n : ℕ) (o : Option StructView) (x : SubobjectView) → slice_get k.structs owner ≡ o → member_in offset n o ≡ Some x → IsTypeOf m x.ctype
  member_typed owner offset n None x there is = none_is x is
  member_typed owner offset n (Some v) x there is = of_field (slice_get v.fields n) refl is
    where
      of_field : (o : Option FieldView) → slice_get v.fields n ≡ o → option_map (at_offset offset) o ≡ Some x → IsTypeOf m x.ctype
      of_field None at is = none_is x is
      of_field (Some f) at is = subst (λ y. IsTypeOf m y.ctype) (same_Some (at_offset offset f) x is) (fields owner n v f there at)

  following_typed : (t : Ty) (offset n : ℕ) (x : SubobjectView) → IsTypeOf m t → following_of k t offset n ≡ Some x → IsTypeOf m x.ctype
  following_typed (Array e count) offset n x h is = element_typed e offset n (is_behind count n) (size_of k e) x h is
  following_typed (Struct owner) offset n x h is = member_typed owner offset n (slice_get k.structs owner) x refl is
  following_typed (Int kind) offset n x h is = none_is x is
  following_typed (Pointer t) offset n x h is = none_is x is
  following_typed Void offset n x h is = none_is x is

  -- a subobject that is found, and the aggregates that are open then
  pub record IsTypedFound (r : Option SubobjectView × List OpenView) : Type 0 where
    pub opened : AreTyped m r.1
    pub found : (x : SubobjectView) → r.0 ≡ Some x → IsTypeOf m x.ctype

  left_typed : (a : OpenView) (outer : List OpenView) (o : Option SubobjectView) (further : Option SubobjectView × List OpenView) → following k a ≡ o → IsTypeOf m a.ctype → AreTyped m outer → IsTypedFound further → IsTypedFound (next_or a outer o further)
  left_typed a outer (Some y) further is h rest f = record { opened = (h, rest); found = λ x e. subst (λ z. IsTypeOf m z.ctype) (same_Some y x e) (following_typed a.ctype a.offset a.passed y h is) }
  left_typed a [] None further is h rest f = record { opened = (h, rest); found = λ x e. none_is x e }
  left_typed a (b ∷ outer) None further is h rest f = f

  pub next_typed : (had : List OpenView) → AreTyped m had → IsTypedFound (next k had)
  unfolding next
  next_typed [] h = record { opened = tt; found = λ x e. none_is x e }
  next_typed (a ∷ outer) h = left_typed a outer (following k a) (next k outer) refl h.0 h.1 (next_typed outer h.1)

  module _ (wanted : Ty → Bool) where
    chosen_typed : (b : Bool) (s : SubobjectView) (left : List OpenView) (r : Option SubobjectView × List OpenView) → IsTypeOf m s.ctype → AreTyped m left → IsTypedFound r → IsTypedFound (cond b (Some s, left) r)
    chosen_typed true s left r h opened f = record { opened = opened; found = λ x e. subst (λ z. IsTypeOf m z.ctype) (same_Some s x e) h }
    chosen_typed false s left r h opened f = f

    found_typed : (o : Option SubobjectView) (left : List OpenView) (inside : List OpenView → Option SubobjectView × List OpenView) → IsTypedFound (o, left) → ((l : List OpenView) → AreTyped m l → IsTypedFound (inside l)) → IsTypedFound (found_or wanted inside o left)
    found_typed None left inside f go = record { opened = f.opened; found = λ x e. none_is x e }
    found_typed (Some s) left inside f go = chosen_typed (wanted s.ctype) s left (inside (entered s ∷ left)) (f.found s refl) f.opened (go (entered s ∷ left) (f.found s refl, f.opened))

    within_typed : (n : ℕ) (had : List OpenView) → AreTyped m had → IsTypedFound (sought_within n k wanted had)
    unfolding sought_within
    within_typed zero had h = record { opened = h; found = λ x e. none_is x e }
    within_typed (suc n) had h = found_typed (next k had).0 (next k had).1 (λ l. sought_within n k wanted l) (next_typed had h) (λ l opened. within_typed n l opened)

    pub sought_typed : (had : List OpenView) → AreTyped m had → IsTypedFound (sought k wanted had)
    sought_typed had h = within_typed 4294967295 had h
