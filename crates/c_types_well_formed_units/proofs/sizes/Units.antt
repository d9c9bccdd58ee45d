-- Memory has room for the objects of each checked unit.
use Rattle.std.proofs.Common.{◌≡◌, ◌≤◌, ◌+◌, ◌^◌, ℕ, zero, suc, Bool, true, false, List, [], ◌∷◌, map, Option, Some, None, Ok, Err, length, slice_get, arith, refl, ap, subst, sym, ◌∙◌, inl, inr}
use Rattle.std.specs.Prelude.{◌&&◌, cond, nat_le}
use Rattle.std.specs.List.{list_all}
use Rattle.std.proofs.lemmas.Bool.{and_parts, leb-true}
use Rattle.std.proofs.lemmas.Option.{same_Some}
use Rattle.cc_base.specs.declared.diagnostics.Place.{Place}
use Rattle.c_layout.specs.Models.{is_model}
use Rattle.c_layout.specs.StructViews.{StructView}
use Rattle.c_layout.specs.Types.{Ty}
use Rattle.c_layout.specs.CheckedUnits.{FunctionView, StaticView, StaticStoreView, SetValue, SetText, LiteralView, UnitView}
use Rattle.c_layout.specs.DeclarationTrees.{ExternalTree}
use Rattle.c_layout.specs.declared.checked_tree.checked_units.StaticBase.TheVariants as base
use Rattle.c_layout.specs.declared.checked_tree.checked_units.StaticValue.{StaticValue}
use Rattle.c_layout.specs.declared.checked_tree.checked_units.StaticValue.TheVariants as value
use Rattle.c_layout.specs.declared.data_model.Model.{Model}
use Rattle.c_types_scopes.specs.Answers.{after}
use Rattle.c_types_scopes.specs.Known.{Known, size_of}
use Rattle.c_types_scopes.specs.Refusals.{Ruled}
use Rattle.c_types_scopes.specs.States.{State, first_state}
use Rattle.c_types_scopes.specs.declared.context.StaticInitializer.{StaticInitializer}
use Rattle.c_types_statement_rules.specs.Objects.UnitObjects as ends
use Rattle.c_types.specs.Units.Streams.{with_stream}
use Rattle.c_types.specs.Units.UnitChecks as checks
use Rattle.c_types.specs.Units.UnitDefinitions.{with_externals}
use Rattle.c_types.specs.Units.UnitEntries.{judged}
use Rattle.c_types_theorems.proofs.entries.Entries.{same_value}
use Rattle.memory_model.specs.Effects.LibraryChecks.{most_size}
use Rattle.c_layout.specs.ByteTexts.{are_bytes}
use Rattle.source_preservation.specs.UnitChecks.LookedUnits.{is_small, is_small_local, is_proper_value, is_proper_store, is_well_typed_static, is_well_typed_literal, are_well_typed_objects}
use Rattle.source_preservation.specs.UnitChecks.SmallUnits.{has_small_objects, is_small_unit}
use Rattle.c_types_well_formed.specs.WellFormed.ModelTypes.{IsTypeOf}
use Rattle.c_types_well_formed.specs.WellFormed.ProperStatements.{AreProperExternals}
use Rattle.c_types_well_formed.specs.WellFormed.ProperStores.{IsProperStore, AreProperStores}
use Rattle.c_types_well_formed.specs.Types.TypeLaws.{HeadsKeep}
use Rattle.c_types_well_formed.proofs.layouts.Inside.{sized_small}
use Rattle.c_types_well_formed.proofs.layouts.Laying.{none_is}
use Rattle.c_types_well_formed.specs.Initializers.PartLaws.{HasLaws}
use Rattle.c_types_well_formed.specs.Initializers.ReadyStates.{IsReady, Goes}
use Rattle.c_types_well_formed_units.proofs.units.Externals.{AreTypedFunctions, AreWellTypedBodies, externals_go, begun_ready}
use Rattle.c_types_well_formed_units.proofs.units.Functions.{IsTypedFunction}
use Rattle.c_types_well_formed_units.specs.Sizes.FitTypes.{IsFit}
use Rattle.c_types_well_formed_units.specs.Sizes.SmallChecks.{ChecksAreSmall}
use Rattle.c_types_well_formed_units.proofs.sizes.FitTypes.{fit_small, completed_small, room_fits}
use Rattle.c_types_well_formed_units.proofs.sizes.Keeping.{Sized, To}
use Rattle.c_types_well_formed_units.proofs.sizes.Listed.{AreListed}
use Rattle.c_types_well_formed_units.proofs.sizes.Functions.{IsFitFunction, AreFit, MakesAll, parts_to, begun_sized}

both : (a b : Bool) → a ≡ true → b ≡ true → (a && b) ≡ true
both true b h g = g
both false b h g = h

-- ---- lists

each_all : {A : Type 0} (look : A → Bool) (xs : List A) → ((i : ℕ) (x : A) → slice_get xs i ≡ Some x → look x ≡ true) → list_all look xs ≡ true
each_all look [] h = refl
each_all look (x ∷ xs) h = both (look x) (list_all look xs) (h 0 x refl) (each_all look xs (λ i y at. h (suc i) y at))

mapped_is : {V W : Type 0} (f : V → W) (vs : List V) (n : ℕ) (x : W) → slice_get (map f vs) n ≡ Some x → (v : V) × (slice_get vs n ≡ Some v) × (f v ≡ x)
mapped_is f [] n x is = none_is x is
mapped_is f (v ∷ vs) zero x is = (v, refl, same_Some (f v) x is)
mapped_is f (v ∷ vs) (suc n) x is = mapped_is f vs n x is

-- ---- addresses within their objects

none_past : (sizes : List ℕ) (os : List StaticView) (xs : List StaticInitializer) → ends.first_past sizes os xs ≡ None → (j : ℕ) (x : StaticInitializer) → slice_get xs j ≡ Some x → ends.object_fits sizes (slice_get os x.object) ≡ true
unfolding ends.first_past
none_past sizes os [] none j x at = none_is x at
none_past sizes os (y ∷ xs) none j x at = by (ends.object_fits sizes (slice_get os y.object)) refl none j at (none_past sizes os xs)
  where
    by : (b : Bool) → ends.object_fits sizes (slice_get os y.object) ≡ b → cond b (ends.first_past sizes os xs) (Some y.equals) ≡ None → (j : ℕ) → slice_get (y ∷ xs) j ≡ Some x
        → (ends.first_past sizes os xs ≡ None → (k : ℕ) (v : StaticInitializer) → slice_get xs k ≡ Some v → ends.object_fits sizes (slice_get os v.object) ≡ true) → ends.object_fits sizes (slice_get os x.object) ≡ true
    by true fits e zero at rest = subst (λ v. ends.object_fits sizes (slice_get os v.object) ≡ true) (same_Some y x at) fits
    by true fits e (suc k) at rest = rest e k x at
    by false fits e k at rest = absurd (cc)

-- an object without stores, or one whose initializer goes past no object
listed_fits : (sizes : List ℕ) (os : List StaticView) (xs : List StaticInitializer) → ends.first_past sizes os xs ≡ None → AreListed xs os → (i : ℕ) (o : StaticView) → slice_get os i ≡ Some o → ends.stores_fit sizes o.stores ≡ true
unfolding ends.stores_fit
listed_fits sizes os xs none listed i o at = elim (listed i o at) [
  | inl bare ↦ subst (λ stores. ends.stores_fit sizes stores ≡ true) (sym bare) refl
  | inr there ↦ subst (λ v. ends.object_fits sizes v ≡ true) (ap (slice_get os) there.3 ∙ at) (none_past sizes os xs none there.0 there.1 there.2)
]

fits_both : (a b : Bool) → cond a b false ≡ true → (a ≡ true) × (b ≡ true)
fits_both true b h = (refl, h)
fits_both false b h = absurd (cc)

-- the sizes that bound addresses
size_small : (k : Known) (os : List StaticView) (n : ℕ) → is_model k.numbers ≡ true → ends.or_0 (slice_get (map (ends.object_size k) os) n) ≤ 2 ^ 30
size_small k os n model = by_there (slice_get (map (ends.object_size k) os) n) refl
  where
    by_size : (t : Ty) (o : Option ℕ) → size_of k t ≡ o → ends.or_0 o ≤ 2 ^ 30
    by_size t None is = omega arith
    by_size t (Some size) is = sized_small k.numbers k.structs model t size is

    by_there : (o : Option ℕ) → slice_get (map (ends.object_size k) os) n ≡ o → ends.or_0 o ≤ 2 ^ 30
    by_there None at = omega arith
    by_there (Some size) at = let v = mapped_is (ends.object_size k) os n size at in subst (λ z. z ≤ 2 ^ 30) v.2 (by_size v.0.ctype (size_of k v.0.ctype) refl)

module _ (u : UnitView) (model : is_model u.model ≡ true) (sizes : List ℕ) (small : (n : ℕ) → ends.or_0 (slice_get sizes n) ≤ 2 ^ 30) where
  room : (n : ℕ) → n ≤ 2 ^ 30 → nat_le n (most_size u.model) ≡ true
  room n h = room_fits u.model n model h

  value_proper : (offset : ℕ) (v : StaticValue) → IsProperStore (SetValue offset v) → ends.value_fits sizes (ends.bounded sizes v) ≡ true → is_proper_value u (ends.bounded sizes v) ≡ true
  value_proper offset (value.Number n kind) near fits = refl
  value_proper offset value.Null near fits = refl
  value_proper offset (value.Address (base.Literal n) o low high) near fits = both (nat_le o (most_size u.model)) (nat_le high (most_size u.model)) (room o near.0) (room high near.1)
  value_proper offset (value.Address (base.Object n) o low high) near fits =
      let bound : ℕ = ends.bound_of sizes n high in
      let p = and_parts (nat_le o bound) (nat_le bound (ends.or_0 (slice_get sizes n))) fits in
      let a = leb-true o bound p.0 in
      let b = leb-true bound (ends.or_0 (slice_get sizes n)) p.1 in
      let c = small n in
      both (nat_le o (most_size u.model)) (nat_le bound (most_size u.model)) (room o (omega (arith, a, b, c))) (room bound (omega (arith, b, c)))

  store_proper : (x : StaticStoreView) → IsProperStore x → ends.store_fits sizes (ends.bounded_store sizes x) ≡ true → is_proper_store u (ends.bounded_store sizes x) ≡ true
  store_proper (SetValue offset v) proper fits = value_proper offset v proper fits
  store_proper (SetText offset room text) proper fits = proper

  stores_proper : (xs : List StaticStoreView) → AreProperStores xs → ends.stores_fit sizes (map (ends.bounded_store sizes) xs) ≡ true → list_all (is_proper_store u) (map (ends.bounded_store sizes) xs) ≡ true
  unfolding ends.stores_fit
  stores_proper [] proper fits = refl
  stores_proper (x ∷ xs) proper fits =
      let f = fits_both (ends.store_fits sizes (ends.bounded_store sizes x)) (ends.stores_fit sizes (map (ends.bounded_store sizes) xs)) fits in
      both (is_proper_store u (ends.bounded_store sizes x)) (list_all (is_proper_store u) (map (ends.bounded_store sizes) xs)) (store_proper x proper.0 f.0) (stores_proper xs proper.1 f.1)

-- ---- the end of a unit

module _ (m : Model) (model : is_model m ≡ true) (fs : List FunctionView) (s : State) (entry : ℕ) (ready : IsReady m s) (typed : AreTypedFunctions m fs) (sized : Sized s) (fit : AreFit s.known fs)
    (inside : ends.first_past (ends.object_sizes (ends.with_completed s)) (ends.with_bounded (ends.with_completed s)).statics s.initializers ≡ None) where
  abbrev sizes : List ℕ
  sizes = ends.object_sizes (ends.with_completed s)

  abbrev unit : UnitView
  unit = checks.unit_of m fs (ends.with_bounded (ends.with_completed s)) entry

  abbrev made : Model → List StructView → Known
  made a b = record { numbers = a; structs = b }

  own : s.known ≡ made m s.types.structs
  own = ap (λ n. made n s.known.structs) ready.numbers ∙ ap (made m) sized.settled

  type_small : (t : Ty) → IsTypeOf m t → IsFit s.known t → is_small unit t ≡ true
  type_small t is fits = room_fits m _ model (fit_small m s.types.structs model sized.small t is (subst (λ k. IsFit k t) own fits))

  function_small : (f : FunctionView) → IsTypedFunction m f → IsFitFunction s.known f → has_small_objects unit f ≡ true
  function_small f is fits =
      both (is_small unit f.returns) (list_all (is_small_local unit) f.locals) (type_small f.returns is.returns fits.returns)
      (each_all (is_small_local unit) f.locals (λ i l at. type_small l.ctype (is.locals i l at) (fits.locals i l at)))

  functions_small : (gs : List FunctionView) → AreTypedFunctions m gs → AreFit s.known gs → list_all (has_small_objects unit) gs ≡ true
  functions_small [] is fits = refl
  functions_small (f ∷ gs) is fits = both (has_small_objects unit f) (list_all (has_small_objects unit) gs) (function_small f is.0 fits.0) (functions_small gs is.1 fits.1)

  literal_small : (i : ℕ) (l : LiteralView) → slice_get s.literals i ≡ Some l → is_well_typed_literal unit l ≡ true
  literal_small i l at = let g = ready.types.literals i l at in both (are_bytes l.bytes) (nat_le (length l.bytes + 1) (most_size m)) g.bytes (room_fits m (length l.bytes + 1) model g.short)

  own_type : (t : Ty) → IsTypeOf s.known.numbers t → IsTypeOf m t
  own_type t is = subst (λ n. IsTypeOf n t) ready.numbers is

  -- an object with its length and bounds
  object_small : (i : ℕ) (o : StaticView) → slice_get s.statics i ≡ Some o → ends.stores_fit sizes (map (ends.bounded_store sizes) o.stores) ≡ true → is_well_typed_static unit (ends.bounded_object sizes (ends.completed_object o)) ≡ true
  object_small i o at fits =
      both (is_small unit (ends.completed o.ctype)) (list_all (is_proper_store unit) (map (ends.bounded_store sizes) o.stores))
      (room_fits m _ model (completed_small m s.types.structs model sized.small o.ctype (own_type o.ctype (ready.types.statics i o at)) (subst (λ k. IsFit k o.ctype) own (sized.static i o at))))
      (stores_proper unit model sizes (λ n. size_small s.known (ends.with_completed s).statics n ready.types.proper) o.stores (ready.types.stores i o at) fits)

  -- lengths and bounds leave the stores where they are
  bounded_listed : AreListed s.initializers (ends.with_bounded (ends.with_completed s)).statics
  bounded_listed i x at =
      let b = mapped_is (ends.bounded_object sizes) (ends.with_completed s).statics i x at in
      let c = mapped_is ends.completed_object s.statics i b.0 b.1 in
      let same : ends.bounded_object sizes (ends.completed_object c.0) ≡ x = ap (ends.bounded_object sizes) c.2 ∙ b.2 in
      elim (sized.listed i c.0 c.1) [
        | inl bare ↦ inl (ap (λ (v : StaticView). v.stores) (sym same) ∙ ap (map (ends.bounded_store sizes)) bare)
        | inr listed ↦ inr listed
      ]

  statics_small : (i : ℕ) (x : StaticView) → slice_get (ends.with_bounded (ends.with_completed s)).statics i ≡ Some x → is_well_typed_static unit x ≡ true
  statics_small i x at =
      let b = mapped_is (ends.bounded_object sizes) (ends.with_completed s).statics i x at in
      let c = mapped_is ends.completed_object s.statics i b.0 b.1 in
      let same : ends.bounded_object sizes (ends.completed_object c.0) ≡ x = ap (ends.bounded_object sizes) c.2 ∙ b.2 in
      let fits : ends.stores_fit sizes x.stores ≡ true = listed_fits sizes (ends.with_bounded (ends.with_completed s)).statics s.initializers inside bounded_listed i x at in
      subst (λ v. is_well_typed_static unit v ≡ true) same (object_small i c.0 c.1 (subst (λ v. ends.stores_fit sizes v.stores ≡ true) (sym same) fits))

  unit_small : is_small_unit unit ≡ true
  unit_small =
      both (list_all (has_small_objects unit) fs) (are_well_typed_objects unit) (functions_small fs typed fit)
      (both (list_all (is_well_typed_static unit) unit.objects) (list_all (is_well_typed_literal unit) s.literals) (each_all (is_well_typed_static unit) unit.objects statics_small) (each_all (is_well_typed_literal unit) s.literals literal_small))

-- ---- units

-- what typing gives in the end
abbrev WhenSmall : Model → Ruled (List FunctionView × State) → Type 0
WhenSmall m (Ok p) = (entry : ℕ) → is_small_unit (checks.unit_of m p.0 p.1 entry) ≡ true
WhenSmall m (Err f) = Unit {0}

module _ (laws : HasLaws) (heads_keep : HeadsKeep) where
  typed_small : (m : Model) (es : List ExternalTree) → is_model m ≡ true → AreProperExternals m es → WhenSmall m (checks.typed_unit (first_state m) es)
  typed_small m es model trees = of_parts (checks.externals begun [] es) (externals_go laws heads_keep m es begun [] (begun_ready m es model) tt trees) (parts_to es begun [] (begun_sized m es).0 tt)
    where
      begun : State
      begun = with_externals es (with_stream (first_state m))

      of_parts : (r : Ruled (List FunctionView × State)) → Goes m begun (AreTypedFunctions m) (λ u fs. AreWellTypedBodies u [] → AreWellTypedBodies u fs) r → To begun MakesAll r → WhenSmall m (after r checks.finished)
      of_parts (Ok p) h g = of_bounds (ends.first_past (ends.object_sizes (ends.with_completed p.1)) (ends.with_bounded (ends.with_completed p.1)).statics p.1.initializers) refl
        where
          of_bounds : (past : Option Place) → ends.first_past (ends.object_sizes (ends.with_completed p.1)) (ends.with_bounded (ends.with_completed p.1)).statics p.1.initializers ≡ past → WhenSmall m (after (ends.judged_bounds past (ends.with_bounded (ends.with_completed p.1))) (checks.functions_kept p.0))
          of_bounds (Some at) is = tt
          of_bounds None is = λ entry. unit_small m model p.0 p.1 entry h.0 h.1 g.0.0 g.1 is
      of_parts (Err f) h g = tt

  pub checks_small : ChecksAreSmall
  checks_small m name es u model trees is = of_unit (checks.typed_unit (first_state m) es) (typed_small m es model trees) is
    where
      of_entry : (fs : List FunctionView) (s : State) (r : Ruled ℕ) → ((entry : ℕ) → is_small_unit (checks.unit_of m fs s entry) ≡ true) → checks.entered m fs s r ≡ Ok u → is_small_unit u ≡ true
      of_entry fs s (Ok entry) h e = subst (λ x. is_small_unit x ≡ true) (same_value (checks.unit_of m fs s entry) u e) (h entry)
      of_entry fs s (Err f) h e = absurd (cc)

      of_unit : (r : Ruled (List FunctionView × State)) → WhenSmall m r → checks.judged_unit m name r ≡ Ok u → is_small_unit u ≡ true
      of_unit (Ok p) h e = of_entry p.0 p.1 (judged p.0 name p.1.calls) h e
      of_unit (Err f) h e = absurd (cc)
