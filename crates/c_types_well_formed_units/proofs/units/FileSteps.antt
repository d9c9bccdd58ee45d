-- Steps at file scope that leave a state ready, which is part of what comes then.
use Rattle.std.proofs.Common.{◌≡◌, ℕ, ℤ, Bool, true, false, List, [], ◌∷◌, ◌++◌, Option, Some, None, slice_get, length, refl, ap, subst, sym, ◌∙◌, inl, inr}
use Rattle.std.specs.Prelude.{cond}
use Rattle.c_layout.specs.Types.{Ty, Void}
use Rattle.c_layout.specs.CheckedUnits.{StaticView}
use Rattle.c_layout.specs.DeclarationTrees.{NameView}
use Rattle.c_layout.specs.declared.data_model.Model.{Model}
use Rattle.c_types_scopes.specs.DeclaredTypes.{DeclaredView, ObjectView, SignatureView}
use Rattle.c_types_scopes.specs.Definitions.{DefinitionsView, function_of}
use Rattle.c_types_scopes.specs.Names as names
use Rattle.c_types_scopes.specs.Names.{ScopesView}
use Rattle.c_types_scopes.specs.States.{State, BodyView, with_name, with_static}
use Rattle.c_types_scopes.specs.declared.meanings.Meaning.{Meaning}
use Rattle.c_types_scopes.specs.declared.meanings.Meaning.TheVariants as meaning
use Rattle.c_types_statement_rules.specs.Objects.Changes.{changed}
use Rattle.c_types_statement_rules.specs.Objects.FileObjects as objects
use Rattle.c_types.specs.FileScope.ExternalDeclarations.{with_typedef}
use Rattle.c_types.specs.FileScope.FunctionDeclarations as functions
use Rattle.c_types_theorems.proofs.units.Kept.{front_stays}
use Rattle.c_types_well_formed.specs.WellFormed.ProperStores.{AreProperStores}
use Rattle.c_types_well_formed.specs.WellFormed.ModelTypes.{IsTypeOf, Each}
use Rattle.c_types_well_formed.specs.WellFormed.KnownTypes.{HasTypes, IsMeaning, HasResult, HasParameters}
use Rattle.c_types_well_formed.specs.WellFormed.UnitParts.{IsPartOf}
use Rattle.c_types_well_formed.specs.Initializers.ReadyStates.{IsReady}
use Rattle.c_types_well_formed.proofs.initializers.Going.{IsPassed}
use Rattle.c_types_well_formed.proofs.initializers.ReadySteps.{each_more, each_changed, changed_there}

pub no_item : {A P : Type 0} (x : A) → None ≡ Some x → P
no_item x e = absurd (let d : ⊥ = cc in d)

module _ (m : Model) (s : State) (h : IsReady m s) where
  at_own : (t : Ty) → IsTypeOf m t → IsTypeOf s.known.numbers t
  at_own t typed = subst (λ n. IsTypeOf n t) (sym h.numbers) typed

  -- a meaning that is no enumerator
  pub meaning_more : (x : Meaning) → ((n : ℤ) → x ≡ meaning.Enumerator n → ⊥) → Each (IsMeaning s.known) (s.scopes.meanings ++ x ∷ [])
  meaning_more x other = each_more (IsMeaning s.known) s.scopes.meanings x h.types.meanings (λ n is. absurd (other n is))

  -- ---- steps that change no type

  pub defined_ready : (d : DefinitionsView) → IsReady m (record s { definitions = d })
  defined_ready d = record {
    numbers = h.numbers;
    evaluated = h.evaluated;
    types = record {
      proper = h.types.proper;
      objects = h.types.objects;
      locals = h.types.locals;
      statics = h.types.statics;
      typedefs = h.types.typedefs;
      literals = h.types.literals;
      stores = h.types.stores;
      results = h.types.results;
      parameters = h.types.parameters;
      fields = h.types.fields;
      meanings = h.types.meanings;
    };
    layouts = record { proper = h.layouts.proper; settled = h.layouts.settled; bodies = h.layouts.bodies; laid = h.layouts.laid };
  }

  pub streamed_ready : (n : ℕ) → IsReady m (record s { stream = n })
  streamed_ready n = record {
    numbers = h.numbers;
    evaluated = h.evaluated;
    types = record {
      proper = h.types.proper;
      objects = h.types.objects;
      locals = h.types.locals;
      statics = h.types.statics;
      typedefs = h.types.typedefs;
      literals = h.types.literals;
      stores = h.types.stores;
      results = h.types.results;
      parameters = h.types.parameters;
      fields = h.types.fields;
      meanings = h.types.meanings;
    };
    layouts = record { proper = h.layouts.proper; settled = h.layouts.settled; bodies = h.layouts.bodies; laid = h.layouts.laid };
  }

  pub bare_ready : (b : BodyView) → b.locals ≡ [] → IsReady m (record s { body = b })
  bare_ready b none = record {
    numbers = h.numbers;
    evaluated = h.evaluated;
    types = record {
      proper = h.types.proper;
      objects = h.types.objects;
      locals = λ i l is. absurd (no_item l (ap (λ xs. slice_get xs i) (sym none) ∙ is));
      statics = h.types.statics;
      typedefs = h.types.typedefs;
      literals = h.types.literals;
      stores = h.types.stores;
      results = h.types.results;
      parameters = h.types.parameters;
      fields = h.types.fields;
      meanings = h.types.meanings;
    };
    layouts = record { proper = h.layouts.proper; settled = h.layouts.settled; bodies = h.layouts.bodies; laid = h.layouts.laid };
  }

  pub numbered_ready : (n : ℕ) → IsReady m (record s { body = record s.body { number = n } })
  numbered_ready n = record {
    numbers = h.numbers;
    evaluated = h.evaluated;
    types = record {
      proper = h.types.proper;
      objects = h.types.objects;
      locals = h.types.locals;
      statics = h.types.statics;
      typedefs = h.types.typedefs;
      literals = h.types.literals;
      stores = h.types.stores;
      results = h.types.results;
      parameters = h.types.parameters;
      fields = h.types.fields;
      meanings = h.types.meanings;
    };
    layouts = record { proper = h.layouts.proper; settled = h.layouts.settled; bodies = h.layouts.bodies; laid = h.layouts.laid };
  }

  -- ---- objects

  pub static_more_ready : (n : NameView) (t : Ty) → IsTypeOf m t → IsReady m (with_static s n.text n.at t)
  static_more_ready n t typed = record {
    numbers = h.numbers;
    evaluated = h.evaluated;
    types = record {
      proper = h.types.proper;
      objects = h.types.objects;
      locals = h.types.locals;
      statics = each_more (λ (o : StaticView). IsTypeOf s.known.numbers o.ctype) s.statics (record { name = n.text; at = n.at; ctype = t; stores = [] }) h.types.statics (at_own t typed);
      typedefs = h.types.typedefs;
      literals = h.types.literals;
      stores = each_more (λ (o : StaticView). AreProperStores o.stores) s.statics (record { name = n.text; at = n.at; ctype = t; stores = [] }) h.types.stores tt;
      results = h.types.results;
      parameters = h.types.parameters;
      fields = h.types.fields;
      meanings = h.types.meanings;
    };
    layouts = record { proper = h.layouts.proper; settled = h.layouts.settled; bodies = h.layouts.bodies; laid = h.layouts.laid };
  }

  pub declaration_ready : (name : ℕ) (o : ObjectView) → IsTypeOf m o.declared.ctype → IsReady m (objects.with_declaration name o s)
  declaration_ready name o typed = record {
    numbers = h.numbers;
    evaluated = h.evaluated;
    types = record {
      proper = h.types.proper;
      objects = each_more (λ (x : ObjectView). IsTypeOf s.known.numbers x.declared.ctype) s.objects o h.types.objects (at_own o.declared.ctype typed);
      locals = h.types.locals;
      statics = h.types.statics;
      typedefs = h.types.typedefs;
      literals = h.types.literals;
      stores = h.types.stores;
      results = h.types.results;
      parameters = h.types.parameters;
      fields = h.types.fields;
      meanings = meaning_more (meaning.Static (length s.objects)) (λ k is. cc);
    };
    layouts = record { proper = h.layouts.proper; settled = h.layouts.settled; bodies = h.layouts.bodies; laid = h.layouts.laid };
  }

  pub enumerated_ready : (index : ℕ) (e : Option ℕ) → IsReady m (objects.with_enumeration index e s)
  enumerated_ready index e = record {
    numbers = h.numbers;
    evaluated = h.evaluated;
    types = record {
      proper = h.types.proper;
      objects = each_changed (λ (x : ObjectView). IsTypeOf s.known.numbers x.declared.ctype) (objects.with_object_enumeration e) index s.objects (λ x old. old) h.types.objects;
      locals = h.types.locals;
      statics = h.types.statics;
      typedefs = h.types.typedefs;
      literals = h.types.literals;
      stores = h.types.stores;
      results = h.types.results;
      parameters = h.types.parameters;
      fields = h.types.fields;
      meanings = h.types.meanings;
    };
    layouts = record { proper = h.layouts.proper; settled = h.layouts.settled; bodies = h.layouts.bodies; laid = h.layouts.laid };
  }

  pub initialized_ready : (index : ℕ) → IsReady m (objects.with_initialized index s)
  initialized_ready index = record {
    numbers = h.numbers;
    evaluated = h.evaluated;
    types = record {
      proper = h.types.proper;
      objects = each_changed (λ (x : ObjectView). IsTypeOf s.known.numbers x.declared.ctype) objects.initialized_object index s.objects (λ x old. old) h.types.objects;
      locals = h.types.locals;
      statics = h.types.statics;
      typedefs = h.types.typedefs;
      literals = h.types.literals;
      stores = h.types.stores;
      results = h.types.results;
      parameters = h.types.parameters;
      fields = h.types.fields;
      meanings = h.types.meanings;
    };
    layouts = record { proper = h.layouts.proper; settled = h.layouts.settled; bodies = h.layouts.bodies; laid = h.layouts.laid };
  }

  -- ---- typedef names

  pub typedef_ready : (name : ℕ) (d : DeclaredView) → IsTypeOf m d.ctype → IsReady m (with_typedef name d s)
  typedef_ready name d typed = record {
    numbers = h.numbers;
    evaluated = h.evaluated;
    types = record {
      proper = h.types.proper;
      objects = h.types.objects;
      locals = h.types.locals;
      statics = h.types.statics;
      typedefs = each_more (λ (x : DeclaredView). IsTypeOf s.known.numbers x.ctype) s.typedefs d h.types.typedefs (at_own d.ctype typed);
      literals = h.types.literals;
      stores = h.types.stores;
      results = h.types.results;
      parameters = h.types.parameters;
      fields = h.types.fields;
      meanings = meaning_more (meaning.Typedef (length s.typedefs)) (λ k is. cc);
    };
    layouts = record { proper = h.layouts.proper; settled = h.layouts.settled; bodies = h.layouts.bodies; laid = h.layouts.laid };
  }

  -- ---- functions

  pub function_ready : (name : ℕ) → IsReady m (functions.with_new_function s name)
  function_ready name = record {
    numbers = h.numbers;
    evaluated = h.evaluated;
    types = record {
      proper = h.types.proper;
      objects = h.types.objects;
      locals = h.types.locals;
      statics = h.types.statics;
      typedefs = h.types.typedefs;
      literals = h.types.literals;
      stores = h.types.stores;
      results = each_more (HasResult s.known.numbers) s.functions (functions.new_signature (function_of s.definitions name)) h.types.results tt;
      parameters = each_more (HasParameters s.known.numbers) s.functions (functions.new_signature (function_of s.definitions name)) h.types.parameters (λ i t is. absurd (no_item t is));
      fields = h.types.fields;
      meanings = meaning_more (meaning.Function (length s.functions)) (λ k is. cc);
    };
    layouts = record { proper = h.layouts.proper; settled = h.layouts.settled; bodies = h.layouts.bodies; laid = h.layouts.laid };
  }

  pub given_ready : (number : ℕ) (d : DeclaredView) (ts : List Ty) → IsTypeOf m d.ctype → Each (IsTypeOf m) ts → IsReady m (functions.with_given number d ts s)
  given_ready number d ts typed each = record {
    numbers = h.numbers;
    evaluated = h.evaluated;
    types = record {
      proper = h.types.proper;
      objects = h.types.objects;
      locals = h.types.locals;
      statics = h.types.statics;
      typedefs = h.types.typedefs;
      literals = h.types.literals;
      stores = h.types.stores;
      results = each_changed (HasResult s.known.numbers) (functions.given_signature d ts) number s.functions (λ x old. at_own d.ctype typed) h.types.results;
      parameters = each_changed (HasParameters s.known.numbers) (functions.given_signature d ts) number s.functions (λ x old i t is. at_own t (each i t is)) h.types.parameters;
      fields = h.types.fields;
      meanings = h.types.meanings;
    };
    layouts = record { proper = h.layouts.proper; settled = h.layouts.settled; bodies = h.layouts.bodies; laid = h.layouts.laid };
  }

  pub result_ready : (number : ℕ) (d : DeclaredView) → IsTypeOf m d.ctype → IsReady m (functions.with_result number d s)
  result_ready number d typed = record {
    numbers = h.numbers;
    evaluated = h.evaluated;
    types = record {
      proper = h.types.proper;
      objects = h.types.objects;
      locals = h.types.locals;
      statics = h.types.statics;
      typedefs = h.types.typedefs;
      literals = h.types.literals;
      stores = h.types.stores;
      results = each_changed (HasResult s.known.numbers) (functions.resulting_signature d) number s.functions (λ x old. at_own d.ctype typed) h.types.results;
      parameters = each_changed (HasParameters s.known.numbers) (functions.resulting_signature d) number s.functions (λ x old. old) h.types.parameters;
      fields = h.types.fields;
      meanings = h.types.meanings;
    };
    layouts = record { proper = h.layouts.proper; settled = h.layouts.settled; bodies = h.layouts.bodies; laid = h.layouts.laid };
  }

  pub met_ready : (number : ℕ) → IsReady m (functions.with_defined s number)
  met_ready number = record {
    numbers = h.numbers;
    evaluated = h.evaluated;
    types = record {
      proper = h.types.proper;
      objects = h.types.objects;
      locals = h.types.locals;
      statics = h.types.statics;
      typedefs = h.types.typedefs;
      literals = h.types.literals;
      stores = h.types.stores;
      results = each_changed (HasResult s.known.numbers) functions.defined_signature number s.functions (λ x old. old) h.types.results;
      parameters = each_changed (HasParameters s.known.numbers) functions.defined_signature number s.functions (λ x old. old) h.types.parameters;
      fields = h.types.fields;
      meanings = h.types.meanings;
    };
    layouts = record { proper = h.layouts.proper; settled = h.layouts.settled; bodies = h.layouts.bodies; laid = h.layouts.laid };
  }

-- ---- what is part of later states

module _ (s : State) where
  pub body_passes : (b : BodyView) → IsPassed s (record s { body = b })
  body_passes b u p = record { model = p.model; objects = p.objects; literals = p.literals; functions = p.functions }

  pub static_more_passes : (n : NameView) (t : Ty) → IsPassed s (with_static s n.text n.at t)
  static_more_passes n t u p = record { model = p.model; objects = p.objects; literals = p.literals; functions = p.functions }

  pub declaration_passes : (name : ℕ) (o : ObjectView) → IsPassed s (objects.with_declaration name o s)
  declaration_passes name o u p = record {
    model = p.model;
    objects = λ i x k is numbered. p.objects i x k (front_stays s.objects (o ∷ []) i x is) numbered;
    literals = p.literals;
    functions = p.functions;
  }

  -- objects that keep their numbers
  renumbered : (f : ObjectView → ObjectView) (index : ℕ) → ((x : ObjectView) → (f x).number ≡ x.number) → IsPassed s (record s { objects = changed f index s.objects })
  renumbered f index kept u p = record {
    model = p.model;
    objects = λ i x k is numbered.
        let c = changed_there f index s.objects i x is in
        let same : c.0.number ≡ x.number = elim c.2 [ inl new ↦ ap (λ o. o.number) new ∙ kept x | inr old ↦ ap (λ o. o.number) old ] in
        p.objects i c.0 k c.1 (same ∙ numbered);
    literals = p.literals;
    functions = p.functions;
  }

  pub enumerated_passes : (index : ℕ) (e : Option ℕ) → IsPassed s (objects.with_enumeration index e s)
  enumerated_passes index e = renumbered (objects.with_object_enumeration e) index (λ x. refl)

  pub initialized_passes : (index : ℕ) → IsPassed s (objects.with_initialized index s)
  initialized_passes index = renumbered objects.initialized_object index (λ x. refl)

  pub typedef_passes : (name : ℕ) (d : DeclaredView) → IsPassed s (with_typedef name d s)
  typedef_passes name d u p = record { model = p.model; objects = p.objects; literals = p.literals; functions = p.functions }
