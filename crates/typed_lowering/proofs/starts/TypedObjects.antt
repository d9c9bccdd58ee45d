-- The pointers among the first bytes of objects that pass the look point to what their types say.
use Rattle.std.proofs.Common.{◌≡◌, ℕ, ◌+◌, ◌-◌, ◌*◌, ◌/◌, ◌==◌, Bool, true, false, ◌&&◌, List, Option, Some, None, nat_le, ap, sym, subst, refl, ◌∙◌}
use Rattle.std.specs.List.{Contains, list_all}
use Rattle.std.proofs.lemmas.Bool.{and_parts, eqb-true, leb-true}
use Rattle.std.proofs.lemmas.List.Sums.{AllPass-from_list_all}
use Rattle.std.proofs.lemmas.Option.{slice_get_within, get_or_from_slice_get}
use Rattle.c_layout.specs.CheckedUnits.{StaticStoreView, SetValue, SetText, UnitView}
use Rattle.c_layout.specs.declared.checked_tree.checked_units.StaticValue.TheVariants as static_value
use Rattle.c_layout.specs.Layout.{size_of_type}
use Rattle.c_layout.specs.Types.{Ty}
use Rattle.memory_model.specs.Memory.Bytes.{into}
use Rattle.memory_model.specs.Effects.UnitStarts.{base_instance}
use Rattle.typed_programs.specs.Types.PointedTypes.{Element, IsElement, Points}
use Rattle.typed_programs.specs.Types.StandingTypes.{AreLaidOut}
use Rattle.typed_programs.specs.Types.TypedPrograms.{first_types, IsTypedStore, HasTypedObjects}
use Rattle.typed_lowering.specs.Conversions.TypedObjects.{all_begin, begins, is_element_of, points_in, points_if, is_typed_first_store, is_typed_object}
use Rattle.typed_lowering.proofs.starts.StandingStarts.{all_stand}

never : {A : Type 0} → false ≡ true → A
never e = absurd (cc)

one_of : {A : Type 0} (p : A → Bool) (xs : List A) (x : A) → list_all p xs ≡ true → Contains xs x → p x ≡ true
one_of p xs x all (k, less, at) = subst (λ z. p z ≡ true) at (AllPass-from_list_all p xs all k x less)

module _ (u : UnitView) (laid : AreLaidOut u.model u.structs) where
  abbrev size : Ty → ℕ
  size t = size_of_type u.structs u.model.pointer t

  element_is : (outer t : Ty) (offset lo hi count index : ℕ) → is_element_of u outer t offset lo hi count index ≡ true → IsElement u.structs u.model.pointer outer t offset lo hi
  element_is outer t offset lo hi count index is =
      let p = and_parts ((hi == lo + count * size t) && (offset == lo + index * size t)) (nat_le index count && all_begin count (size t) (begins u outer t) lo) is in
      let bounds = and_parts (hi == lo + count * size t) (offset == lo + index * size t) p.0 in
      let within = and_parts (nat_le index count) (all_begin count (size t) (begins u outer t) lo) p.1 in
      record {
        count = count;
        index = index;
        end = eqb-true hi (lo + count * size t) bounds.0;
        at = eqb-true offset (lo + index * size t) bounds.1;
        within = leb-true index count within.0;
        elements = λ k less. all_stand u laid outer t count lo within.1 k less;
      }

  points_is : (i offset lo hi : ℕ) (t : Ty) → points_in u (first_types u i) offset lo hi t ≡ true → Points u.structs u.model.pointer (first_types u) (Element t) (into i offset lo hi)
  points_is i offset lo hi t is = by (first_types u i) refl is
    where
      by : (o : Option Ty) → first_types u i ≡ o → points_in u o offset lo hi t ≡ true → Points u.structs u.model.pointer (first_types u) (Element t) (into i offset lo hi)
      by None e is = never is
      by (Some outer) e is = (outer, e, element_is outer t offset lo hi ((hi - lo) / size t) ((offset - lo) / size t) is)

  store_is : (outer : Ty) (store : StaticStoreView) → is_typed_first_store u outer store ≡ true → IsTypedStore u outer store
  store_is outer (SetText at room text) is = tt
  store_is outer (SetValue at (static_value.Number n kind)) is = tt
  store_is outer (SetValue at static_value.Null) is = tt
  store_is outer (SetValue at (static_value.Address b offset lo hi)) is = λ t there.
      points_is (base_instance u b) offset lo hi t (ap (λ o. points_if u o (λ s. points_in u (first_types u (base_instance u b)) offset lo hi s)) (sym there) ∙ is)

  pub objects_are : list_all (is_typed_object u) u.objects ≡ true → HasTypedObjects u
  objects_are all n o store stands among =
      let object : is_typed_object u o ≡ true = subst (λ z. is_typed_object u z ≡ true) (get_or_from_slice_get u.objects n o o stands) (AllPass-from_list_all (is_typed_object u) u.objects all n o (slice_get_within u.objects n o stands)) in
      store_is o.ctype store (one_of (is_typed_first_store u o.ctype) o.stores store object among)
