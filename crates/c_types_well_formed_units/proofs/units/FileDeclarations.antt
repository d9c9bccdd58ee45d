-- Declarations at file scope leave states ready, which are part of what comes then.
use Rattle.std.proofs.Common.{◌≡◌, ℕ, Bool, true, false, List, [], ◌∷◌, ◌++◌, Option, Some, None, Ok, Err, slice_get, length, refl, ap, subst, sym, ◌∙◌, inl, inr}
use Rattle.std.specs.Prelude.{cond, is_some}
use Rattle.cc_base.specs.declared.diagnostics.Place.{Place}
use Rattle.c_layout.specs.Types.{Ty, Int, Pointer, Array, Struct, Void, same_type}
use Rattle.c_layout.specs.CheckedUnits.{UnitView}
use Rattle.c_layout.specs.DeclarationTrees.{NameView, DeclaratorLayerView, InitializerTree, InitDeclaratorView, Object, Initialized, Prototype, FunctionDeclaratorView, SpecTree, spec_trees}
use Rattle.c_layout.specs.declared.data_model.Model.{Model}
use Rattle.c_layout.specs.declared.syntax_tree.declarations.Storage.{Storage}
use Rattle.c_types_scopes.specs.Answers.{after, kept}
use Rattle.c_types_scopes.specs.DeclaredTypes.{DeclaredView, ObjectView, SignatureView}
use Rattle.c_types_scopes.specs.Definitions.{has_object}
use Rattle.c_types_scopes.specs.Names.{number_in, found_here}
use Rattle.c_types_scopes.specs.Refusals.{Ruled, redeclared}
use Rattle.c_types_scopes.specs.States.{State, with_name, with_static}
use Rattle.c_types_scopes.specs.declared.meanings.Meaning.{Meaning}
use Rattle.c_types_scopes.specs.declared.meanings.Meaning.TheVariants as meaning
use Rattle.c_types_declarations.specs.Declarators.{declared_type}
use Rattle.c_types_expressions.specs.BracedLists.Initializers.{initializer_of}
use Rattle.c_types_declarations.specs.SpecifierTrees.{specifiers}
use Rattle.c_types_declarations.specs.Specifiers.{SpecifiedView, is_library_name}
use Rattle.c_types_initializers.specs.Initialized.{InitializedView}
use Rattle.c_types_statement_rules.specs.Objects.FileObjects as objects
use Rattle.c_types_statement_rules.specs.Objects.FileObjects.{number_or, composite, composite_of, composite_with, array_composite, common_length}
use Rattle.c_types_statement_rules.specs.Objects.LocalObjects.{with_static_type}
use Rattle.c_types_statements.specs.LocalDeclarations.{are_none, is_empty}
use Rattle.c_types.specs.FileScope.ExternalDeclarations as external
use Rattle.c_types_rules.proofs.SameTypes.{type_is}
use Rattle.c_types_well_formed.specs.WellFormed.ModelTypes.{IsTypeOf, Each}
use Rattle.c_types_well_formed.specs.WellFormed.ProperStatements.{AreProperLayers, AreProperWords, IsProperInitializer, IsProperFunction, IsProperInitDeclarator, AreProperInitDeclarators}
use Rattle.c_types_well_formed.specs.WellFormed.UnitParts.{IsPartOf}
use Rattle.c_types_well_formed.specs.Initializers.PartLaws.{HasLaws}
use Rattle.c_types_well_formed.specs.Initializers.ReadyStates.{IsReady, Goes}
use Rattle.c_types_well_formed.proofs.initializers.Declaring.{specifiers_go, declared_goes, static_goes}
use Rattle.c_types_well_formed.proofs.initializers.Going as going
use Rattle.c_types_well_formed.proofs.initializers.Going.{IsPassed}
use Rattle.c_types_well_formed.proofs.initializers.Initializing.{initializer_goes}
use Rattle.c_types_well_formed.proofs.initializers.ReadySteps.{named_ready, scoped_passes, static_type_ready, static_type_passes}
use Rattle.c_types_well_formed_units.proofs.units.FileSteps.{static_more_ready, static_more_passes, declaration_ready, declaration_passes, enumerated_ready, enumerated_passes, initialized_ready, initialized_passes, typedef_ready, typedef_passes}

-- ---- the type of two declarations

either_type : (m : Model) (b : Bool) (t v : Ty) (o : Option Ty) → (o ≡ Some t → IsTypeOf m t) → IsTypeOf m v → cond b (Some v) o ≡ Some t → IsTypeOf m t
either_type m true t v o other typed is = subst (IsTypeOf m) (some_is v t is) typed
  where
    some_is : (x y : Ty) → Some x ≡ Some y → x ≡ y
    some_is x y e = cc
either_type m false t v o other typed is = other is

array_type : (m : Model) (element t : Ty) (count : Option ℕ) → IsTypeOf m element → array_composite element count ≡ Some t → IsTypeOf m t
array_type m element t None typed is = absurd (none is)
  where
    none : None ≡ Some t → ⊥
    none e = cc
array_type m element t (Some n) typed is = subst (IsTypeOf m) (some_is (Array element n) t is) typed
  where
    some_is : (x y : Ty) → Some x ≡ Some y → x ≡ y
    some_is x y e = cc

no_type : (m : Model) (t : Ty) → None ≡ Some t → IsTypeOf m t
no_type m t e = absurd (let d : ⊥ = cc in d)

arrays_type : (m : Model) (element : Ty) (n : ℕ) (new t : Ty) → IsTypeOf m element → composite_with element n new ≡ Some t → IsTypeOf m t
arrays_type m element n (Array other k) t typed is = by (same_type other element) refl is
  where
    by : (b : Bool) → same_type other element ≡ b → cond b (array_composite other (common_length n k)) None ≡ Some t → IsTypeOf m t
    by true same e = array_type m other t (common_length n k) (subst (IsTypeOf m) (sym (type_is other element same)) typed) e
    by false same e = no_type m t e
arrays_type m element n (Int kind) t typed is = no_type m t is
arrays_type m element n (Pointer v) t typed is = no_type m t is
arrays_type m element n (Struct i) t typed is = no_type m t is
arrays_type m element n Void t typed is = no_type m t is

parts_type : (m : Model) (old new t : Ty) → IsTypeOf m old → composite_of old new ≡ Some t → IsTypeOf m t
parts_type m (Array element n) new t typed is = arrays_type m element n new t typed is
parts_type m (Int kind) new t typed is = no_type m t is
parts_type m (Pointer v) new t typed is = no_type m t is
parts_type m (Struct i) new t typed is = no_type m t is
parts_type m Void new t typed is = no_type m t is

composite_type : (m : Model) (old new t : Ty) → IsTypeOf m old → IsTypeOf m new → composite old new ≡ Some t → IsTypeOf m t
composite_type m old new t had typed is = either_type m (same_type old new) t new (composite_of old new) (parts_type m old new t had) typed is

module _ (laws : HasLaws) (m : Model) where
  -- a step that leaves a state ready, which is part of what comes then
  abbrev pub Runs : {V : Type 0} → State → Ruled (V × State) → Type 0
  Runs {V = V} s r = Goes m s (λ (x : V). Unit {0}) (λ u (x : V). Unit {0}) r

  pub steps : {U V : Type 0} (s : State) (N : U → Type 0) (r : Ruled (U × State)) (next : U → State → Ruled (V × State)) → Goes m s N (λ u (x : U). Unit {0}) r → ((x : U) (t : State) → IsReady m t → N x → Runs t (next x t)) → Runs s (after r next)
  steps {U = U} {V = V} s N r next h go =
      going.then m s N (λ u (x : U). Unit {0}) (λ (x : V). Unit {0}) (λ u (x : V). Unit {0}) r next h
      (λ x t ready typed. going.weaker m t (λ (y : V). Unit {0}) (λ u (y : V). Unit {0}) (λ u (y : V). Unit {0} → Unit {0}) (next x t) (go x t ready typed) (λ u y old none. tt))

  pub on : {V : Type 0} (s t : State) (r : Ruled (V × State)) → IsPassed s t → Runs t r → Runs s r
  on {V = V} s t r passed h = going.onward m s t (λ (x : V). Unit {0}) (λ u (x : V). Unit {0}) r passed h

  pub done : {V : Type 0} (s t : State) (x : V) → IsPassed s t → IsReady m t → Runs s (Ok (x, t))
  done s t x passed ready = (ready, tt, λ u part. (passed u part, tt))

  pub choose : {V : Type 0} (s : State) (b : Bool) (x y : Ruled (V × State)) → Runs s x → Runs s y → Runs s (cond b x y)
  choose s true x y g h = g
  choose s false x y g h = h

  own : (s : State) (t : Ty) → IsReady m s → IsTypeOf s.known.numbers t → IsTypeOf m t
  own s t ready typed = subst (λ n. IsTypeOf n t) ready.numbers typed

  name_passes : (s : State) (text : List ℕ) → IsPassed s (with_name s text)
  name_passes s text = scoped_passes s (with_name s text).scopes

  -- ---- first and further declarations of objects

  first_runs : (name : ℕ) (n : NameView) (d : DeclaredView) (s : State) (index : ℕ) (b : Bool) → IsReady m s → IsTypeOf m d.ctype
      → Runs s (Ok (index, objects.with_declaration name (objects.first_object (cond b (Some (length s.statics)) None) d) (cond b (with_static s n.text n.at d.ctype) s)))
  first_runs name n d s index true ready typed =
      let t : State = with_static s n.text n.at d.ctype in
      let o : ObjectView = objects.first_object (Some (length s.statics)) d in
      done s (objects.with_declaration name o t) index (λ u part. static_more_passes s n d.ctype u (declaration_passes t name o u part)) (declaration_ready m t (static_more_ready m s ready n d.ctype typed) name o typed)
  first_runs name n d s index false ready typed =
      let o : ObjectView = objects.first_object None d in
      done s (objects.with_declaration name o s) index (declaration_passes s name o) (declaration_ready m s ready name o typed)

  next_runs : (index : ℕ) (at : Place) (d : DeclaredView) (s : State) (o : Option ObjectView) → slice_get s.objects index ≡ o → IsReady m s → IsTypeOf m d.ctype → Runs s (objects.next_of index at d s o)
  next_runs index at d s None there ready typed = tt
  next_runs index at d s (Some o) there ready typed = by_type (composite o.declared.ctype d.ctype) refl
    where
      by_type : (t : Option Ty) → composite o.declared.ctype d.ctype ≡ t → Runs s (objects.next_with index at d o.number s t)
      by_type None is = tt
      by_type (Some t) is =
          let v : State = objects.with_enumeration index d.enumeration s in
          let had : IsTypeOf m o.declared.ctype = own s o.declared.ctype ready (ready.types.objects index o there) in
          let both : IsTypeOf m t = composite_type m o.declared.ctype d.ctype t had typed is in
          done {V = Unit {0}} s (with_static_type index (number_or o.number) t v) tt (λ u part. enumerated_passes s index d.enumeration u (static_type_passes v index (number_or o.number) t u part)) (static_type_ready m v (enumerated_ready m s ready index d.enumeration) index (number_or o.number) t both)

  indexed_runs : (index : ℕ) (s : State) (r : Ruled (Unit {0} × State)) → Runs s r → Runs s (external.indexed index r)
  indexed_runs index s (Ok p) h = h
  indexed_runs index s (Err f) h = tt

  object_runs : (name : ℕ) (n : NameView) (d : DeclaredView) (s : State) (x : Option Meaning) → IsReady m s → IsTypeOf m d.ctype → Runs s (external.object_as name n d s x)
  object_runs name n d s None ready typed = first_runs name n d s (length s.objects) (has_object s.definitions name) ready typed
  object_runs name n d s (Some (meaning.Static index)) ready typed = indexed_runs index s (objects.next_declaration index n.at d s) (next_runs index n.at d s (slice_get s.objects index) refl ready typed)
  object_runs name n d s (Some (meaning.Local number)) ready typed = tt
  object_runs name n d s (Some (meaning.Function number)) ready typed = tt
  object_runs name n d s (Some (meaning.Typedef number)) ready typed = tt
  object_runs name n d s (Some (meaning.Enumerator value)) ready typed = tt

  named_runs : (n : NameView) (d : DeclaredView) (s : State) → IsReady m s → IsTypeOf m d.ctype → Runs s (external.object_named n d s)
  named_runs n d s ready typed =
      let t : State = with_name s n.text in
      choose s (is_library_name n.text) (redeclared n.at) (external.object_by (number_in s.scopes.names n.text) n d t) tt
      (on s t (external.object_by (number_in s.scopes.names n.text) n d t) (name_passes s n.text) (object_runs (number_in s.scopes.names n.text) n d t (found_here s.scopes (number_in s.scopes.names n.text)) (named_ready m s ready n.text) typed))

  pub declared_object_runs : (s : State) (base : SpecifiedView) (n : NameView) (layers : List DeclaratorLayerView) (has : Bool) → IsReady m s → IsTypeOf m base.declared.ctype → AreProperLayers m layers → Runs s (external.declared_object s base n layers has)
  declared_object_runs s base n layers has ready typed proper =
      steps s (λ (d : DeclaredView). IsTypeOf m d.ctype) (declared_type s n.at base.declared layers) (external.object_in n base.storage has) (declared_goes laws m s n.at base.declared layers ready typed proper)
      (λ d t there is. choose t (objects.may_be_object t.known d.ctype base.storage has) (external.object_named n d t) _ (named_runs n d t there is) tt)

  initializer_runs : (at equals : Place) (i : InitializerTree) (index : ℕ) (s : State) (o : Option ObjectView) → slice_get s.objects index ≡ o → IsReady m s → IsProperInitializer m i → Runs s (external.initializer_by equals i index s (objects.object_of at o))
  initializer_runs at equals i index s None there ready proper = tt
  initializer_runs at equals i index s (Some o) there ready proper = static_goes laws m s index (number_or o.number) equals o.declared.ctype i ready proper (own s o.declared.ctype ready (ready.types.objects index o there))

  pub object_initializer_runs : (at equals : Place) (i : InitializerTree) (index : ℕ) (s : State) → IsReady m s → IsProperInitializer m i → Runs s (external.object_initializer at equals i index s)
  object_initializer_runs at equals i index s ready proper =
      let t : State = objects.with_initialized index s in
      choose s (objects.is_initialized s index) _ (external.initializer_at at equals i index t) tt
      (on s t (external.initializer_at at equals i index t) (initialized_passes s index) (initializer_runs at equals i index t (slice_get t.objects index) refl (initialized_ready m s ready index) proper))

  -- ---- typedef names

  typedef_by_runs : (name : ℕ) (n : NameView) (d : DeclaredView) (s : State) → IsReady m s → IsTypeOf m d.ctype → Runs s (external.typedef_by name n d s)
  typedef_by_runs name n d s ready typed = choose s (external.is_taken name n.text s) _ _ tt (done {V = Unit {0}} s (external.with_typedef name d s) tt (typedef_passes s name d) (typedef_ready m s ready name d typed))

  pub typedef_runs : (s : State) (base : SpecifiedView) (at : Place) (d : InitDeclaratorView) → IsReady m s → IsTypeOf m base.declared.ctype → IsProperInitDeclarator m d → Runs s (external.typedef_declarator s base at d)
  typedef_runs s base at (Object d) ready typed proper = by_name d.name
    where
      by_name : (n : Option NameView) → Runs s (external.typedef_named s base at n d.layers)
      by_name None = tt
      by_name (Some n) =
          steps s (λ (x : DeclaredView). IsTypeOf m x.ctype) (declared_type s n.at base.declared d.layers) (external.typedef_in n) (declared_goes laws m s n.at base.declared d.layers ready typed proper)
          (λ x t there is. on t (with_name t n.text) (external.typedef_in n x t) (name_passes t n.text) (typedef_by_runs (number_in t.scopes.names n.text) n x (with_name t n.text) (named_ready m t there n.text) is))
  typedef_runs s base at (Initialized d equals i) ready typed proper = by_name d.name
    where
      by_name : (n : Option NameView) → Runs s (external.initialized_typedef_named s base n d.layers equals i)
      by_name None = tt
      by_name (Some n) =
          steps s (λ (x : DeclaredView). IsTypeOf m x.ctype) (declared_type s n.at base.declared d.layers) (external.typedef_initializer equals i) (declared_goes laws m s n.at base.declared d.layers ready typed proper.0)
          (λ x t there is. refused x t)
        where
          none_behind : (t : State) (r : Ruled ((InitializedView × Ty) × State)) → Runs t (after r (external.no_typedef equals))
          none_behind t (Ok p) = tt
          none_behind t (Err f) = tt

          refused : (x : DeclaredView) (t : State) → Runs t (external.typedef_initializer equals i x t)
          refused x t = none_behind t (initializer_of t equals x.ctype i)
  typedef_runs s base at (Prototype f) ready typed proper = tt
