-- Steps of declarations that leave a state ready, which is part of what comes then.
use Rattle.std.proofs.Common.{◌≡◌, ◌<◌, ℕ, zero, suc, List, [], ◌∷◌, ◌++◌, Option, Some, None, slice_get, length, arith, refl, ap, subst, sym, ◌∙◌, inl, inr}
use Rattle.std.specs.Prelude.{◌⊎◌, slice_set}
use Rattle.std.proofs.lemmas.Bool.{cases_eq}
use Rattle.std.proofs.lemmas.Option.{slice_get_within}
use Rattle.cc_base.specs.declared.diagnostics.Place.{Place}
use Rattle.c_layout.specs.Types.{Ty}
use Rattle.c_layout.specs.CheckedTrees.{TermTree}
use Rattle.c_layout.specs.CheckedUnits.{LocalView, StaticView, StaticStoreView}
use Rattle.c_layout.specs.DeclarationTrees.{NameView}
use Rattle.c_layout.specs.declared.data_model.Model.{Model}
use Rattle.c_types_scopes.specs.DeclaredTypes.{DeclaredView, ObjectView}
use Rattle.c_types_scopes.specs.Names.{ScopesView}
use Rattle.c_types_scopes.specs.States.{State, with_name, with_constant}
use Rattle.c_types_scopes.specs.declared.meanings.Meaning.{Meaning}
use Rattle.c_types_scopes.specs.declared.meanings.Meaning.TheVariants as meaning
use Rattle.c_types_statement_rules.specs.Objects.Changes.{changed, changed_at}
use Rattle.c_types_statement_rules.specs.Objects.LocalObjects.{typed_local, typed_object, typed_static, static_declaration, with_automatic, with_static_object, with_local_type, with_static_type}
use Rattle.c_types_statements.specs.StaticInitializers.{stored_static, with_stores}
use Rattle.c_types_theorems.proofs.units.Kept.{appended_is, front_stays, set_other}
use Rattle.c_types_theorems.proofs.units.Bodies.{changed_is}
use Rattle.c_types_well_formed.specs.WellFormed.ProperStores.{AreProperStores}
use Rattle.c_types_well_formed.specs.WellFormed.ModelTypes.{IsTypeOf, Each}
use Rattle.c_types_well_formed.specs.WellFormed.KnownTypes.{IsMeaning}
use Rattle.c_types_well_formed.specs.Initializers.ReadyStates.{IsReady}
use Rattle.c_types_well_formed.proofs.initializers.Going.{IsPassed}

-- ---- lists

pub each_more : {A : Type 0} (P : A → Type 0) (xs : List A) (y : A) → Each P xs → P y → Each P (xs ++ y ∷ [])
each_more P xs y all one i x is = elim (appended_is xs y i x is) [ inl old ↦ all i x old | inr new ↦ subst P (sym new.1) one ]

pub each_changed : {A : Type 0} (P : A → Type 0) (f : A → A) (n : ℕ) (xs : List A) → ((x : A) → P x → P (f x)) → Each P xs → Each P (changed f n xs)
each_changed P f n xs more all i x is =
    let c = changed_is f n xs i x is in
    elim c.2 [ inl here ↦ subst P (sym here.1) (more c.0 (all i c.0 c.1)) | inr other ↦ subst P (sym other.1) (all i c.0 c.1) ]

set_here : {A : Type 0} (xs : List A) (n : ℕ) (v : A) → n < length xs → slice_get (slice_set xs n v) n ≡ Some v
set_here [] n v h = absurd (omega (arith, h))
set_here (x ∷ xs) zero v h = refl
set_here (x ∷ xs) (suc n) v h = set_here xs n v (omega (arith, h))

-- an item of a list stands there, changed or not
changed_by : {A : Type 0} (f : A → A) (n : ℕ) (xs : List A) (i : ℕ) (x : A) (there : Option A) → slice_get xs n ≡ there → slice_get xs i ≡ Some x → (y : A) × (slice_get (changed_at f n xs there) i ≡ Some y) × ((y ≡ f x) ⊎ (y ≡ x))
changed_by f n xs i x None is at = (x, at, inr refl)
changed_by f n xs i x (Some v) is at = elim (cases_eq i n) [
  | inl same ↦ (
      let v_is : Some v ≡ Some x = sym is ∙ (ap (slice_get xs) (sym same) ∙ at) in
      let v_x : v ≡ x = cc in
      (f v, ap (slice_get (slice_set xs n (f v))) same ∙ set_here xs n (f v) (slice_get_within xs n v is), inl (ap f v_x)))
  | inr other ↦ (x, set_other xs n i (f v) other ∙ at, inr refl)
]

pub changed_there : {A : Type 0} (f : A → A) (n : ℕ) (xs : List A) (i : ℕ) (x : A) → slice_get xs i ≡ Some x → (y : A) × (slice_get (changed f n xs) i ≡ Some y) × ((y ≡ f x) ⊎ (y ≡ x))
changed_there f n xs i x at = changed_by f n xs i x (slice_get xs n) refl at

-- ---- states

module _ (m : Model) (s : State) (h : IsReady m s) where
  own_type : (t : Ty) → IsTypeOf m t → IsTypeOf s.known.numbers t
  own_type t typed = subst (λ n. IsTypeOf n t) (sym h.numbers) typed

  -- other scopes with the same meanings
  pub scoped_ready : (x : ScopesView) → x.meanings ≡ s.scopes.meanings → IsReady m (record s { scopes = x })
  scoped_ready x same = record {
    numbers = h.numbers;
    evaluated = h.evaluated;
    types = record { proper = h.types.proper; objects = h.types.objects; locals = h.types.locals; statics = h.types.statics; typedefs = h.types.typedefs; literals = h.types.literals; stores = h.types.stores; results = h.types.results; parameters = h.types.parameters; fields = h.types.fields; meanings = subst (λ ms. Each (IsMeaning s.known) ms) (sym same) h.types.meanings };
    layouts = record { proper = h.layouts.proper; settled = h.layouts.settled; bodies = h.layouts.bodies; laid = h.layouts.laid };
  }

  pub named_ready : (text : List ℕ) → IsReady m (with_name s text)
  named_ready text = scoped_ready (with_name s text).scopes refl

  pub constant_ready : (e : TermTree) → IsReady m (with_constant s e)
  constant_ready e = record {
    numbers = h.numbers;
    evaluated = h.evaluated;
    types = record { proper = h.types.proper; objects = h.types.objects; locals = h.types.locals; statics = h.types.statics; typedefs = h.types.typedefs; literals = h.types.literals; stores = h.types.stores; results = h.types.results; parameters = h.types.parameters; fields = h.types.fields; meanings = h.types.meanings };
    layouts = record { proper = h.layouts.proper; settled = h.layouts.settled; bodies = h.layouts.bodies; laid = h.layouts.laid };
  }

  -- a meaning that is no enumerator
  meaning_more : (x : Meaning) → ((n : _) → x ≡ meaning.Enumerator n → ⊥) → Each (IsMeaning s.known) (s.scopes.meanings ++ x ∷ [])
  meaning_more x other = each_more (IsMeaning s.known) s.scopes.meanings x h.types.meanings (λ n is. absurd (other n is))

  pub automatic_ready : (n : NameView) (d : DeclaredView) → IsTypeOf m d.ctype → IsReady m (with_automatic n d s)
  automatic_ready n d typed = record {
    numbers = h.numbers;
    evaluated = h.evaluated;
    types = record {
      proper = h.types.proper;
      objects = h.types.objects;
      locals = each_more (λ (l : LocalView). IsTypeOf s.known.numbers l.ctype) s.body.locals (record { name = n.text; at = n.at; ctype = d.ctype }) h.types.locals (own_type d.ctype typed);
      statics = h.types.statics;
      typedefs = h.types.typedefs;
      literals = h.types.literals;
      stores = h.types.stores;
      results = h.types.results;
      parameters = h.types.parameters;
      fields = h.types.fields;
      meanings = meaning_more (meaning.Local (length s.body.locals)) (λ k is. cc);
    };
    layouts = record { proper = h.layouts.proper; settled = h.layouts.settled; bodies = h.layouts.bodies; laid = h.layouts.laid };
  }

  pub static_ready : (n : NameView) (d : DeclaredView) → IsTypeOf m d.ctype → IsReady m (with_static_object n d s)
  static_ready n d typed = record {
    numbers = h.numbers;
    evaluated = h.evaluated;
    types = record {
      proper = h.types.proper;
      objects = each_more (λ (o : ObjectView). IsTypeOf s.known.numbers o.declared.ctype) s.objects (static_declaration (with_name s n.text) d) h.types.objects (own_type d.ctype typed);
      locals = h.types.locals;
      statics = each_more (λ (o : StaticView). IsTypeOf s.known.numbers o.ctype) s.statics (record { name = n.text; at = n.at; ctype = d.ctype; stores = [] }) h.types.statics (own_type d.ctype typed);
      typedefs = h.types.typedefs;
      literals = h.types.literals;
      stores = each_more (λ (o : StaticView). AreProperStores o.stores) s.statics (record { name = n.text; at = n.at; ctype = d.ctype; stores = [] }) h.types.stores tt;
      results = h.types.results;
      parameters = h.types.parameters;
      fields = h.types.fields;
      meanings = meaning_more (meaning.Static (length s.objects)) (λ k is. cc);
    };
    layouts = record { proper = h.layouts.proper; settled = h.layouts.settled; bodies = h.layouts.bodies; laid = h.layouts.laid };
  }

  pub local_type_ready : (number : ℕ) (t : Ty) → IsTypeOf m t → IsReady m (with_local_type number t s)
  local_type_ready number t typed = record {
    numbers = h.numbers;
    evaluated = h.evaluated;
    types = record {
      proper = h.types.proper;
      objects = h.types.objects;
      locals = each_changed (λ (l : LocalView). IsTypeOf s.known.numbers l.ctype) (typed_local t) number s.body.locals (λ l old. own_type t typed) h.types.locals;
      statics = h.types.statics;
      typedefs = h.types.typedefs;
      literals = h.types.literals;
      stores = h.types.stores;
      results = h.types.results;
      parameters = h.types.parameters;
      fields = h.types.fields;
      meanings = h.types.meanings;
    };
    layouts = record { proper = h.layouts.proper; settled = h.layouts.settled; bodies = h.layouts.bodies; laid = h.layouts.laid };
  }

  pub static_type_ready : (index number : ℕ) (t : Ty) → IsTypeOf m t → IsReady m (with_static_type index number t s)
  static_type_ready index number t typed = record {
    numbers = h.numbers;
    evaluated = h.evaluated;
    types = record {
      proper = h.types.proper;
      objects = each_changed (λ (o : ObjectView). IsTypeOf s.known.numbers o.declared.ctype) (typed_object t) index s.objects (λ o old. own_type t typed) h.types.objects;
      locals = h.types.locals;
      statics = each_changed (λ (o : StaticView). IsTypeOf s.known.numbers o.ctype) (typed_static t) number s.statics (λ o old. own_type t typed) h.types.statics;
      typedefs = h.types.typedefs;
      literals = h.types.literals;
      stores = each_changed (λ (o : StaticView). AreProperStores o.stores) (typed_static t) number s.statics (λ o old. old) h.types.stores;
      results = h.types.results;
      parameters = h.types.parameters;
      fields = h.types.fields;
      meanings = h.types.meanings;
    };
    layouts = record { proper = h.layouts.proper; settled = h.layouts.settled; bodies = h.layouts.bodies; laid = h.layouts.laid };
  }

  pub stores_ready : (equals : Place) (number : ℕ) (stores : List StaticStoreView) → AreProperStores stores → IsReady m (with_stores equals number stores s)
  stores_ready equals number stores proper = record {
    numbers = h.numbers;
    evaluated = h.evaluated;
    types = record {
      proper = h.types.proper;
      objects = h.types.objects;
      locals = h.types.locals;
      statics = each_changed (λ (o : StaticView). IsTypeOf s.known.numbers o.ctype) (stored_static stores) number s.statics (λ o old. old) h.types.statics;
      typedefs = h.types.typedefs;
      literals = h.types.literals;
      stores = each_changed (λ (o : StaticView). AreProperStores o.stores) (stored_static stores) number s.statics (λ o old. proper) h.types.stores;
      results = h.types.results;
      parameters = h.types.parameters;
      fields = h.types.fields;
      meanings = h.types.meanings;
    };
    layouts = record { proper = h.layouts.proper; settled = h.layouts.settled; bodies = h.layouts.bodies; laid = h.layouts.laid };
  }

-- ---- what is part of later states

module _ (s : State) where
  pub scoped_passes : (x : ScopesView) → IsPassed s (record s { scopes = x })
  scoped_passes x u p = record { model = p.model; objects = p.objects; literals = p.literals; functions = p.functions }

  pub constant_passes : (e : TermTree) → IsPassed s (with_constant s e)
  constant_passes e u p = record { model = p.model; objects = p.objects; literals = p.literals; functions = p.functions }

  pub automatic_passes : (n : NameView) (d : DeclaredView) → IsPassed s (with_automatic n d s)
  automatic_passes n d u p = record { model = p.model; objects = p.objects; literals = p.literals; functions = p.functions }

  pub static_passes : (n : NameView) (d : DeclaredView) → IsPassed s (with_static_object n d s)
  static_passes n d u p = record {
    model = p.model;
    objects = λ i o k is numbered. p.objects i o k (front_stays s.objects (static_declaration (with_name s n.text) d ∷ []) i o is) numbered;
    literals = p.literals;
    functions = p.functions;
  }

  pub local_type_passes : (number : ℕ) (t : Ty) → IsPassed s (with_local_type number t s)
  local_type_passes number t u p = record { model = p.model; objects = p.objects; literals = p.literals; functions = p.functions }

  pub static_type_passes : (index number : ℕ) (t : Ty) → IsPassed s (with_static_type index number t s)
  static_type_passes index number t u p = record {
    model = p.model;
    objects = λ i o k is numbered.
        let c = changed_there (typed_object t) index s.objects i o is in
        let same : c.0.number ≡ o.number = elim c.2 [ inl new ↦ ap (λ x. x.number) new | inr old ↦ ap (λ x. x.number) old ] in
        p.objects i c.0 k c.1 (same ∙ numbered);
    literals = p.literals;
    functions = p.functions;
  }

  pub stores_pass : (equals : Place) (number : ℕ) (stores : List StaticStoreView) → IsPassed s (with_stores equals number stores s)
  stores_pass equals number stores u p = record { model = p.model; objects = p.objects; literals = p.literals; functions = p.functions }
