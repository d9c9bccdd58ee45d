-- External declarations leave states ready, and the functions that they define are marked.
use Rattle.std.proofs.Common.{◌≡◌, ℕ, Bool, true, false, List, [], ◌∷◌, ◌++◌, Option, Some, None, Ok, Err, length, slice_get, refl, ap, subst, sym, ◌∙◌}
use Rattle.std.specs.Prelude.{cond}
use Rattle.cc_base.specs.declared.diagnostics.Place.{Place}
use Rattle.c_layout.specs.Models.{is_model}
use Rattle.c_layout.specs.Types.{Ty}
use Rattle.c_layout.specs.CheckedUnits.{FunctionView, UnitView}
use Rattle.c_layout.specs.DeclarationTrees.{NameView, InitDeclaratorView, Object, Initialized, Prototype, SpecTree, ExternalTree, Declared, Defined, spec_trees, statement_trees}
use Rattle.c_layout.specs.declared.data_model.Model.{Model}
use Rattle.c_types_scopes.specs.Answers.{after}
use Rattle.c_types_scopes.specs.Definitions as definitions
use Rattle.c_types_scopes.specs.Names.{number_in}
use Rattle.c_types_scopes.specs.Refusals.{Ruled, type_fault}
use Rattle.c_types_scopes.specs.States.{State, first_state, with_name}
use Rattle.c_types_scopes.specs.declared.meanings.Tag.TheVariants as tag
use Rattle.c_types_declarations.specs.ContextSteps.{with_struct, with_tag}
use Rattle.c_types_declarations.specs.SpecifierTrees.{specifiers}
use Rattle.c_types_declarations.specs.Specifiers.{SpecifiedView}
use Rattle.c_types_statements.specs.LocalDeclarations.{are_none, is_empty}
use Rattle.c_types.specs.FileScope.ExternalDeclarations as external
use Rattle.c_types.specs.Units.FunctionDefinitions as bodies
use Rattle.c_types.specs.Units.Streams.{stream_tag, with_declared, with_stream}
use Rattle.c_types.specs.Units.UnitChecks as checks
use Rattle.c_types.specs.Units.UnitDefinitions as reading
use Rattle.c_types_well_formed.specs.WellFormed.ModelTypes.{IsTypeOf}
use Rattle.c_types_well_formed.specs.WellFormed.ProperStatements.{AreProperWords, IsProperInitDeclarator, AreProperInitDeclarators, IsProperExternal, AreProperExternals}
use Rattle.c_types_well_formed.specs.WellFormed.TypingLaws.{Keeps}
use Rattle.c_types_well_formed.specs.WellFormed.UnitParts.{IsPartOf}
use Rattle.c_types_well_formed.specs.Layouts.LaidStructs.{HasLayouts}
use Rattle.c_types_well_formed.proofs.layouts.Laying.{struct_more}
use Rattle.c_types_well_formed.proofs.types.Changes.{struct_keeps}
use Rattle.c_types_well_formed.specs.Types.TypeLaws.{HeadsKeep}
use Rattle.c_types_well_formed.specs.Initializers.PartLaws.{HasLaws}
use Rattle.c_types_well_formed.specs.Initializers.ReadyStates.{IsReady, Goes}
use Rattle.c_types_well_formed.proofs.initializers.Declaring.{specifiers_go}
use Rattle.c_types_well_formed.proofs.initializers.Going as going
use Rattle.c_types_well_formed.proofs.initializers.Going.{IsPassed}
use Rattle.c_types_well_formed.proofs.initializers.ReadySteps.{named_ready, scoped_ready}
use Rattle.c_types_well_formed_units.proofs.units.FileDeclarations.{Runs, steps, done, choose, typedef_runs, declared_object_runs, object_initializer_runs}
use Rattle.c_types_well_formed_units.proofs.units.FileSteps.{no_item, defined_ready, streamed_ready}
use Rattle.c_types_well_formed_units.proofs.units.Functions.{IsTypedFunction, IsWellTypedBody, prototype_runs, function_goes}

-- what is known of the functions so far
abbrev pub AreTypedFunctions : Model → List FunctionView → Type 0
AreTypedFunctions m [] = Unit {0}
AreTypedFunctions m (f ∷ fs) = IsTypedFunction m f × AreTypedFunctions m fs

abbrev pub AreWellTypedBodies : UnitView → List FunctionView → Type 0
AreWellTypedBodies u [] = Unit {0}
AreWellTypedBodies u (f ∷ fs) = IsWellTypedBody u f × AreWellTypedBodies u fs

typed_more : (m : Model) (fs : List FunctionView) (f : FunctionView) → AreTypedFunctions m fs → IsTypedFunction m f → AreTypedFunctions m (fs ++ f ∷ [])
typed_more m [] f h g = (g, tt)
typed_more m (x ∷ fs) f h g = (h.0, typed_more m fs f h.1 g)

well_typed_more : (u : UnitView) (fs : List FunctionView) (f : FunctionView) → AreWellTypedBodies u fs → IsWellTypedBody u f → AreWellTypedBodies u (fs ++ f ∷ [])
well_typed_more u [] f h g = (g, tt)
well_typed_more u (x ∷ fs) f h g = (h.0, well_typed_more u fs f h.1 g)

module _ (laws : HasLaws) (heads_keep : HeadsKeep) (m : Model) where
  -- ---- declarations

  object_declarator_runs : (s : State) (base : SpecifiedView) (at : Place) (d : InitDeclaratorView) → IsReady m s → IsTypeOf m base.declared.ctype → IsProperInitDeclarator m d → Runs laws m s (external.object_declarator s base at d)
  object_declarator_runs s base at (Object d) ready typed proper = by_name d.name
    where
      by_name : (n : Option NameView) → Runs laws m s (external.plain_named s base at n d.layers)
      by_name None = tt
      by_name (Some n) =
          steps laws m s (λ (index : ℕ). Unit {0}) (external.declared_object s base n d.layers false) external.only_declared (declared_object_runs laws m s base n d.layers false ready typed proper)
          (λ index t there none. done laws m {V = Unit {0}} t t tt (λ u part. part) there)
  object_declarator_runs s base at (Initialized d equals i) ready typed proper = by_name d.name
    where
      by_name : (n : Option NameView) → Runs laws m s (external.initialized_named s base at n d.layers equals i)
      by_name None = tt
      by_name (Some n) =
          steps laws m s (λ (index : ℕ). Unit {0}) (external.declared_object s base n d.layers true) (external.object_initializer n.at equals i) (declared_object_runs laws m s base n d.layers true ready typed proper.0)
          (λ index t there none. object_initializer_runs laws m n.at equals i index t there proper.1)
  object_declarator_runs s base at (Prototype f) ready typed proper = prototype_runs laws heads_keep m s base f ready typed proper

  declarators_run : (ds : List InitDeclaratorView) (s : State) (base : SpecifiedView) (at : Place) → IsReady m s → IsTypeOf m base.declared.ctype → AreProperInitDeclarators m ds → Runs laws m s (external.declarators s base at ds)
  declarators_run [] s base at ready typed proper = done laws m {V = Unit {0}} s s tt (λ u part. part) ready
  declarators_run (d ∷ ds) s base at ready typed proper =
      steps laws m s (λ (x : Unit {0}). Unit {0}) (external.declarator s base at d) (λ x t. external.declarators t base at ds)
      (choose laws m s (external.is_typedef base.storage) (external.typedef_declarator s base at d) (external.object_declarator s base at d) (typedef_runs laws m s base at d ready typed proper.0) (object_declarator_runs s base at d ready typed proper.0))
      (λ x t there none. declarators_run ds t base at there typed proper.1)

  declaration_runs : (s : State) (at : Place) (words : List SpecTree) (ds : List InitDeclaratorView) → IsReady m s → AreProperWords m words → AreProperInitDeclarators m ds → Runs laws m s (external.external_declaration s at words ds)
  declaration_runs s at words ds ready specs proper =
      steps laws m s (λ (b : SpecifiedView). IsTypeOf m b.declared.ctype) (specifiers s at (are_none ds) (spec_trees words)) (external.declared_by at ds) (specifiers_go laws m s at (are_none ds) (spec_trees words) ready specs)
      (λ b t there is. choose laws m t (is_empty ds b) (type_fault at) (external.declarators t b at ds) tt (declarators_run ds t b at there is proper))

  -- ---- units

  -- with the functions that are made so far
  abbrev Goes_on : State → List FunctionView → Ruled (List FunctionView × State) → Type 0
  Goes_on s made r = Goes m s (AreTypedFunctions m) (λ u fs. AreWellTypedBodies u made → AreWellTypedBodies u fs) r

  external_goes : (s : State) (made : List FunctionView) (e : ExternalTree) → IsReady m s → AreTypedFunctions m made → IsProperExternal m e → Goes_on s made (checks.external s made e)
  external_goes s made (Declared at words ds) ready had proper = of_kept (external.external_declaration s at words ds) (declaration_runs s at words ds ready proper.0 proper.1)
    where
      of_kept : (r : Ruled (Unit {0} × State)) → Runs laws m s r → Goes_on s made (after r (checks.functions_kept made))
      of_kept (Ok p) h = (h.0, had, λ u part. ((h.2 u part).0, λ well_typed. well_typed))
      of_kept (Err f) h = tt
  external_goes s made (Defined at words f body) ready had proper = of_made (bodies.function_definition s at words f body) (function_goes laws heads_keep m s at words f body ready proper.0 proper.1.0 proper.1.1)
    where
      of_made : (r : Ruled (FunctionView × State)) → Goes m s (IsTypedFunction m) IsWellTypedBody r → Goes_on s made (after r (checks.with_function made))
      of_made (Ok p) h = (h.0, typed_more m made p.0 had h.1, λ u part. (let g = h.2 u part in (g.0, λ well_typed. well_typed_more u made p.0 well_typed g.1)))
      of_made (Err e) h = tt

  pub externals_go : (es : List ExternalTree) (s : State) (made : List FunctionView) → IsReady m s → AreTypedFunctions m made → AreProperExternals m es → Goes_on s made (checks.externals s made es)
  externals_go [] s made ready had proper = (ready, had, λ u part. (part, λ well_typed. well_typed))
  externals_go (e ∷ es) s made ready had proper = of_first (checks.external s made e) (external_goes s made e ready had proper.0) (λ more t there typed. externals_go es t more there typed proper.1)
    where
      of_rest : (more : List FunctionView) (t : State) (r : Ruled (List FunctionView × State)) → ((u : UnitView) → IsPartOf t u → IsPartOf s u × (AreWellTypedBodies u made → AreWellTypedBodies u more)) → Goes_on t more r → Goes_on s made r
      of_rest more t (Ok p) before h = (h.0, h.1, λ u part. (let g = h.2 u part in let k = before u g.0 in (k.0, λ well_typed. g.1 (k.1 well_typed))))
      of_rest more t (Err f) before h = tt

      of_first : (r : Ruled (List FunctionView × State)) → Goes_on s made r → ((more : List FunctionView) (t : State) → IsReady m t → AreTypedFunctions m more → Goes_on t more (checks.externals t more es)) → Goes_on s made (after r (λ more t. checks.externals t more es))
      of_first (Ok p) h rest = of_rest p.0 p.1 (checks.externals p.1 p.0 es) h.2 (rest p.0 p.1 h.0 h.1)
      of_first (Err f) h rest = tt

-- ---- before the first declaration

module _ (m : Model) where
  struct_ready : (s : State) → IsReady m s → IsReady m (with_struct s)
  struct_ready s h = record { numbers = h.numbers; evaluated = h.evaluated; types = (struct_keeps s h.types).types; layouts = (struct_more s h.layouts).layouts }

  stream_ready : (s : State) → IsReady m s → IsReady m (with_stream s)
  stream_ready s h =
      let a : State = with_name s stream_tag in
      let b : State = with_struct a in
      let c : State = with_declared s in
      streamed_ready m c (scoped_ready m b (struct_ready a (named_ready m s h stream_tag)) c.scopes refl) (length s.types.structs)

  object_read : (n : NameView) (s : State) → IsReady m s → IsReady m (reading.with_object n s)
  object_read n s h = defined_ready m (with_name s n.text) (named_ready m s h n.text) (definitions.with_object s.definitions (number_in s.scopes.names n.text))

  function_read : (n : NameView) (s : State) → IsReady m s → IsReady m (reading.with_function n s)
  function_read n s h = defined_ready m (with_name s n.text) (named_ready m s h n.text) (definitions.with_function s.definitions (number_in s.scopes.names n.text))

  named_read : (n : Option NameView) (s : State) → IsReady m s → IsReady m (reading.with_named n s)
  named_read None s h = h
  named_read (Some n) s h = object_read n s h

  either_ready : (b : Bool) (s t : State) → IsReady m s → IsReady m t → IsReady m (cond b s t)
  either_ready true s t h g = h
  either_ready false s t h g = g

  declarator_read : (defines : Bool) (d : InitDeclaratorView) (s : State) → IsReady m s → IsReady m (reading.with_declarator defines d s)
  declarator_read defines (Object d) s h = either_ready defines (reading.with_named d.name s) s (named_read d.name s h) h
  declarator_read defines (Initialized d equals i) s h = named_read d.name s h
  declarator_read defines (Prototype f) s h = h

  declarators_read : (defines : Bool) (ds : List InitDeclaratorView) (s : State) → IsReady m s → IsReady m (reading.with_declarators defines ds s)
  unfolding reading.with_declarators
  declarators_read defines [] s h = h
  declarators_read defines (d ∷ ds) s h = declarators_read defines ds (reading.with_declarator defines d s) (declarator_read defines d s h)

  external_read : (e : ExternalTree) (s : State) → IsReady m s → IsReady m (reading.with_external e s)
  external_read (Declared at words ds) s h = declarators_read (reading.is_definition (reading.storage_of words)) ds s h
  external_read (Defined at words f body) s h = function_read f.name s h

  externals_read : (es : List ExternalTree) (s : State) → IsReady m s → IsReady m (reading.with_externals es s)
  unfolding reading.with_externals
  externals_read [] s h = h
  externals_read (e ∷ es) s h = externals_read es (reading.with_external e s) (external_read e s h)

  first_ready : is_model m ≡ true → IsReady m (first_state m)
  first_ready proper = record {
    numbers = refl;
    evaluated = refl;
    types = record {
      proper = proper;
      objects = λ i x is. no_item x is;
      locals = λ i x is. no_item x is;
      statics = λ i x is. no_item x is;
      typedefs = λ i x is. no_item x is;
      literals = λ i x is. no_item x is;
      stores = λ i x is. no_item x is;
      results = λ i x is. no_item x is;
      parameters = λ i x is. no_item x is;
      fields = λ i x is. no_item x is;
      meanings = λ i x is. no_item x is;
    };
    layouts = record { proper = proper; settled = refl; bodies = λ n v is. no_item v is; laid = λ n i v f is at. no_item v is };
  }

  pub begun_ready : (es : List ExternalTree) → is_model m ≡ true → IsReady m (reading.with_externals es (with_stream (first_state m)))
  begun_ready es proper = externals_read es (with_stream (first_state m)) (stream_ready (first_state m) (first_ready proper))
