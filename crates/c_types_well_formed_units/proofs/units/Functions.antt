-- Prototypes and definitions of functions leave states ready, and what is made of bodies is marked.
use Rattle.std.proofs.Common.{◌≡◌, ◌≤◌, ℕ, Bool, true, false, List, [], ◌∷◌, ◌++◌, Option, Some, None, Ok, Err, length, arith, refl, ap, subst, sym, ◌∙◌}
use Rattle.std.specs.Prelude.{cond, ◌==◌}
use Rattle.c_layout.specs.Types.{Ty}
use Rattle.c_layout.specs.CheckedTrees.{statement_trees}
use Rattle.c_layout.specs.CheckedUnits.{FunctionView, LocalView, UnitView}
use Rattle.c_layout.specs.DeclarationTrees as syntax
use Rattle.c_layout.specs.DeclarationTrees.{NameView, FunctionDeclaratorView, StatementTrees, SpecTree, spec_trees}
use Rattle.c_layout.specs.declared.data_model.Model.{Model}
use Rattle.cc_base.specs.declared.diagnostics.Place.{Place}
use Rattle.c_types_scopes.specs.Answers.{after}
use Rattle.c_types_scopes.specs.Definitions.{function_of}
use Rattle.c_types_scopes.specs.Names.{number_in}
use Rattle.c_types_scopes.specs.Refusals.{Ruled, redeclared, type_fault}
use Rattle.c_types_scopes.specs.States.{State, with_name}
use Rattle.c_types_declarations.specs.FunctionHeads as heads
use Rattle.c_types_declarations.specs.FunctionHeads.{HeadView}
use Rattle.c_types_declarations.specs.SpecifierTrees.{specifiers}
use Rattle.c_types_declarations.specs.Specifiers.{SpecifiedView, is_library_name}
use Rattle.c_types_statement_rules.specs.Objects.LocalObjects.{PartsView}
use Rattle.c_types.specs.FileScope.ExternalDeclarations.{is_typedef}
use Rattle.c_types.specs.FileScope.FunctionDeclarations as functions
use Rattle.c_types.specs.declared.file_scope.function_declarations.FunctionSlot.{FunctionSlot}
use Rattle.c_types.specs.declared.file_scope.function_declarations.NameBefore.{NameBefore}
use Rattle.c_types.specs.declared.file_scope.function_declarations.NameBefore.TheVariants as standing
use Rattle.c_types.specs.Units.FunctionDefinitions as bodies
use Rattle.c_types_theorems.proofs.entries.Leading.{Leads}
use Rattle.source_preservation.specs.UnitChecks.LookedStatements.{are_well_typed_statements}
use Rattle.c_types_well_formed.specs.WellFormed.ModelTypes.{IsTypeOf, Each}
use Rattle.c_types_well_formed.specs.WellFormed.ProperStatements.{IsProperFunction, AreProperStatements, AreProperWords}
use Rattle.c_types_well_formed.specs.WellFormed.UnitParts.{IsPartOf}
use Rattle.c_types_well_formed.specs.WellFormed.TypingLaws.{LeadsOn}
use Rattle.c_types_well_formed.specs.Layouts.LaidStructs.{LaidBehind}
use Rattle.c_types_well_formed.specs.Types.TypeLaws.{HasHead, HeadsKeep}
use Rattle.c_types_well_formed.specs.Initializers.PartLaws.{HasLaws}
use Rattle.c_types_well_formed.specs.Initializers.WellTypedDeclarations.{AreWellTypedParts}
use Rattle.c_types_well_formed.specs.Initializers.ReadyStates.{IsReady, Goes}
use Rattle.c_types_well_formed.proofs.statements.Bodies.{bodies_are_well_typed}
use Rattle.c_types_well_formed.proofs.initializers.Declaring.{specifiers_go}
use Rattle.c_types_well_formed.proofs.initializers.Going as going
use Rattle.c_types_well_formed.proofs.initializers.Going.{IsPassed}
use Rattle.c_types_well_formed.proofs.initializers.ReadySteps.{named_ready, scoped_ready, scoped_passes}
use Rattle.c_types_well_formed_units.proofs.units.FileDeclarations.{Runs, steps, on, done, choose}
use Rattle.c_types_well_formed_units.proofs.units.FileSteps.{bare_ready, numbered_ready, body_passes, function_ready, given_ready, result_ready, met_ready}
use Rattle.c_types_well_formed_units.proofs.units.HeadLayouts.{heads_lay}
use Rattle.c_types_well_formed_units.proofs.units.HeadSteps.{IsSameFile, heads_same, head_leads}
use Rattle.c_types_well_formed_units.proofs.units.Signatures.{given_passes, result_passes, met_passes}

-- a head that is typed: its types are of the model, and the file is as before
record IsTypedHead (m : Model) (s : State) (h : HeadView) (t : State) : Type 0 where
  pub ready : IsReady m t
  pub result : IsTypeOf m h.declared.ctype
  pub parameters : Each (IsTypeOf m) h.parameters
  pub file : IsSameFile s t

abbrev WhenTyped : Model → State → Ruled (HeadView × State) → Type 0
WhenTyped m s (Ok p) = IsTypedHead m s p.0 p.1
WhenTyped m s (Err f) = Unit {0}

typed_head : (m : Model) (s : State) (r : Ruled (HeadView × State)) → IsReady m s → LeadsOn s HasHead r → LaidBehind r → Leads IsSameFile s r → WhenTyped m s r
typed_head m s (Ok p) ready g laid file =
    let same : p.1.known.numbers ≡ m = g.0.model ∙ ready.numbers in
    record {
      ready = record { numbers = same; evaluated = ap (λ n. n == 0) g.0.unevaluated ∙ ready.evaluated; types = g.0.types; layouts = laid };
      result = subst (λ n. IsTypeOf n p.0.declared.ctype) same g.1.result;
      parameters = subst (λ n. Each (IsTypeOf n) p.0.parameters) same g.1.parameters;
      file = file;
    }
typed_head m s (Err f) ready g laid file = tt

-- what is known of a function at once, and in each unit that comes of it
pub record IsTypedFunction (m : Model) (f : FunctionView) : Type 0 where
  pub returns : IsTypeOf m f.returns
  pub locals : Each (λ (l : LocalView). IsTypeOf m l.ctype) f.locals

abbrev pub IsWellTypedBody : UnitView → FunctionView → Type 0
IsWellTypedBody u f = are_well_typed_statements u f (statement_trees f.body) ≡ true

-- the function that a body and its head are
abbrev view_of : NameView → HeadView → PartsView × ℕ → State → FunctionView
view_of n h b s = record {
  name = n.text;
  at = n.at;
  returns = h.declared.ctype;
  parameters = length h.parameters;
  locals = s.body.locals;
  scope = b.0.objects;
  body = b.0.statements;
  labels = b.1;
}

module _ (laws : HasLaws) (heads_keep : HeadsKeep) (m : Model) where
  head_typed : (s : State) (b : SpecifiedView) (f : FunctionDeclaratorView) → IsReady m s → IsTypeOf m b.declared.ctype → IsProperFunction m f → WhenTyped m s (heads.function_head s b.declared f)
  head_typed s b f ready typed proper =
      typed_head m s (heads.function_head s b.declared f) ready
      (heads_keep s b.declared f ready.types (subst (λ n. IsTypeOf n b.declared.ctype) (sym ready.numbers) typed) (subst (λ n. IsProperFunction n f) (sym ready.numbers) proper))
      (heads_lay s b.declared f ready.layouts) (head_leads IsSameFile heads_same s b.declared f)

  -- ---- the type of a function

  -- a declared function takes the type of its head
  signed_runs : (name : ℕ) (n : NameView) (b : NameBefore) (h : HeadView) (s v : State) → IsReady m v → IsTypeOf m h.declared.ctype → Each (IsTypeOf m) h.parameters → IsSameFile (functions.with_slot s name b) v → Runs laws m s (functions.signed n (functions.slot s b) b h v)
  signed_runs name n standing.Nothing h s v ready typed each file =
      choose laws m s (is_library_name n.text) _ (functions.signed_first n.at (length s.functions) h v) tt
      (choose laws m s (functions.is_declared v (length s.functions)) _ _
      (done laws m {V = Unit {0}} s (functions.with_given (length s.functions) h.declared h.parameters v) tt
      (given_passes s v (functions.new_signature (function_of s.definitions name)) h.declared h.parameters (record { functions = file.functions; objects = file.objects; statics = file.statics; definitions = file.definitions; literals = file.literals; model = file.model }))
      (given_ready m v ready (length s.functions) h.declared h.parameters typed each)) tt)
  signed_runs name n (standing.Function k) h s v ready typed each file = choose laws m s (is_library_name n.text) _ (functions.signed_again n.at k h v) tt (by_same (functions.has_signature v k h) refl)
    where
      by_same : (same : Bool) → functions.has_signature v k h ≡ same → Runs laws m s (cond same (Ok (tt {0}, functions.with_result k h.declared v)) (redeclared n.at))
      by_same true is = done laws m {V = Unit {0}} s (functions.with_result k h.declared v) tt (result_passes s v k h file is) (result_ready m v ready k h.declared typed)
      by_same false is = tt
  signed_runs name n standing.Other h s v ready typed each file = choose laws m s (is_library_name n.text) (redeclared n.at) (redeclared n.at) tt tt

  slot_ready : (name : ℕ) (b : NameBefore) (s : State) → IsReady m s → IsReady m (functions.with_slot s name b)
  slot_ready name standing.Nothing s ready = function_ready m s ready name
  slot_ready name (standing.Function k) s ready = ready
  slot_ready name standing.Other s ready = ready

  -- ---- prototypes

  prototype_by : (base : SpecifiedView) (f : FunctionDeclaratorView) (name : ℕ) (b : NameBefore) (s : State) → IsReady m s → IsTypeOf m base.declared.ctype → IsProperFunction m f → Runs laws m s (functions.prototype_of base f (functions.slot_by name b s))
  prototype_by base f name b s ready typed proper = of_head (heads.function_head t base.declared f) (head_typed t base f (scoped_ready m v (slot_ready name b s ready) t.scopes refl) typed proper)
    where
      v : State
      v = functions.with_slot s name b

      t : State
      t = functions.in_scope v

      of_head : (r : Ruled (HeadView × State)) → WhenTyped m t r → Runs laws m s (after r (λ h w. functions.signed f.name (functions.slot s b) b h (functions.out_of_scope w)))
      of_head (Ok p) h =
          let file = h.file in
          signed_runs name f.name b p.0 s (functions.out_of_scope p.1) (scoped_ready m p.1 h.ready (functions.out_of_scope p.1).scopes refl) h.result h.parameters
          (record { functions = file.functions; objects = file.objects; statics = file.statics; definitions = file.definitions; literals = file.literals; model = file.model })
      of_head (Err e) h = tt

  pub prototype_runs : (s : State) (base : SpecifiedView) (f : FunctionDeclaratorView) → IsReady m s → IsTypeOf m base.declared.ctype → IsProperFunction m f → Runs laws m s (functions.prototype s base f)
  prototype_runs s base f ready typed proper =
      let t : State = with_name s f.name.text in
      on laws m s t (functions.prototype s base f) (scoped_passes s t.scopes) (prototype_by base f (number_in s.scopes.names f.name.text) (functions.name_before t (number_in s.scopes.names f.name.text)) t (named_ready m s ready f.name.text) typed proper)

  -- ---- heads of definitions

  -- the result of a function has a type of the model
  abbrev HasResult : HeadView → Type 0
  HasResult h = IsTypeOf m h.declared.ctype

  abbrev Heads : State → Ruled (HeadView × State) → Type 0
  Heads s r = Goes m s HasResult (λ u h. Unit {0}) r

  numbered_heads : (name : ℕ) (h : HeadView) (s v : State) → IsPassed s v → IsReady m v → HasResult h → Heads s (bodies.numbered name h tt v)
  numbered_heads name h s v passed ready typed =
      let k : ℕ = bodies.or_0 (function_of v.definitions name) in
      (numbered_ready m v ready k, typed, λ u part. (passed u (body_passes v (record v.body { number = k }) u part), tt))

  met_heads : (name : ℕ) (n : NameView) (k : ℕ) (h : HeadView) (s : State) (r : Ruled (Unit {0} × State)) → HasResult h → Runs laws m s r → Heads s (after (after r (λ u t. functions.met_head n k h t)) (bodies.numbered name h))
  met_heads name n k h s (Ok p) typed g = by_defined (functions.is_defined p.1 k)
    where
      by_named : (named : Bool) → Heads s (after (cond named (Ok (tt {0}, functions.with_defined p.1 k)) (type_fault n.at)) (bodies.numbered name h))
      by_named true = numbered_heads name h s (functions.with_defined p.1 k) (λ u part. (g.2 u (met_passes p.1 k u part)).0) (met_ready m p.1 g.0 k) typed
      by_named false = tt

      by_defined : (was : Bool) → Heads s (after (cond was (redeclared n.at) (cond h.are_named (Ok (tt {0}, functions.with_defined p.1 k)) (type_fault n.at))) (bodies.numbered name h))
      by_defined true = tt
      by_defined false = by_named h.are_named
  met_heads name n k h s (Err e) typed g = tt

  head_by : (base : SpecifiedView) (f : FunctionDeclaratorView) (name : ℕ) (b : NameBefore) (s : State) → IsReady m s → IsTypeOf m base.declared.ctype → IsProperFunction m f → Heads s (bodies.head_of base f (functions.slot_by name b s))
  head_by base f name b s ready typed proper = of_head (heads.function_head t base.declared f) (head_typed t base f (scoped_ready m v (slot_ready name b s ready) t.scopes refl) typed proper)
    where
      v : State
      v = functions.with_slot s name b

      t : State
      t = functions.in_scope v

      of_head : (r : Ruled (HeadView × State)) → WhenTyped m t r → Heads s (after r (bodies.head_in f.name (functions.slot_by name b s).0))
      of_head (Ok p) h =
          let file = h.file in
          met_heads name f.name (functions.slot s b) p.0 s (functions.signed f.name (functions.slot s b) b p.0 p.1) h.result
          (signed_runs name f.name b p.0 s p.1 h.ready h.result h.parameters (record { functions = file.functions; objects = file.objects; statics = file.statics; definitions = file.definitions; literals = file.literals; model = file.model }))
      of_head (Err e) h = tt

  defined_heads : (s : State) (base : SpecifiedView) (f : FunctionDeclaratorView) → IsReady m s → IsTypeOf m base.declared.ctype → IsProperFunction m f → Heads s (bodies.defined_head s base f)
  defined_heads s base f ready typed proper =
      let t : State = with_name s f.name.text in
      going.onward m s t HasResult (λ u h. Unit {0}) (bodies.defined_head s base f) (scoped_passes s t.scopes)
      (head_by base f (number_in s.scopes.names f.name.text) (functions.name_before t (number_in s.scopes.names f.name.text)) t (named_ready m s ready f.name.text) typed proper)

  -- ---- bodies

  body_goes : (n : NameView) (ts : StatementTrees) (h : HeadView) (s : State) → IsReady m s → HasResult h → AreProperStatements m ts → Goes m s (IsTypedFunction m) IsWellTypedBody (bodies.with_body n ts h s)
  body_goes n ts h s ready typed proper =
      going.then m s (λ (b : PartsView × ℕ). Unit {0}) (λ u b. AreWellTypedParts h.declared.ctype u b.0) (IsTypedFunction m) IsWellTypedBody (bodies.body_parts h ts s) (bodies.function_of_parts n h) (bodies_are_well_typed laws m s h ts ready typed proper)
      (λ b t there none. (
        bare_ready m t there functions.no_body refl,
        record { returns = typed; locals = subst (λ k. Each (λ (l : LocalView). IsTypeOf k l.ctype) t.body.locals) there.numbers there.types.locals },
        λ u part. (body_passes t functions.no_body u part, λ well_typed. well_typed (view_of n h b t) refl),
      ))

  ended_goes : (s : State) (f : FunctionView) → IsReady m s → IsTypedFunction m f → Goes m s (IsTypedFunction m) (λ u y. IsWellTypedBody u f → IsWellTypedBody u y) (bodies.ended f s)
  ended_goes s f ready typed =
      let t : State = functions.out_of_scope s in
      (scoped_ready m s ready t.scopes refl, typed, λ u part. (scoped_passes s t.scopes u part, λ well_typed. well_typed))

  defined_goes : (s : State) (base : SpecifiedView) (f : FunctionDeclaratorView) (ts : StatementTrees) → IsReady m s → IsTypeOf m base.declared.ctype → IsProperFunction m f → AreProperStatements m ts → Goes m s (IsTypedFunction m) IsWellTypedBody (bodies.defined f ts base s)
  defined_goes s base f ts ready typed proper well_typed =
      going.then m s (IsTypedFunction m) IsWellTypedBody (IsTypedFunction m) IsWellTypedBody (after (bodies.defined_head s base f) (bodies.with_body f.name ts)) bodies.ended
      (going.then m s HasResult (λ u h. Unit {0}) (IsTypedFunction m) IsWellTypedBody (bodies.defined_head s base f) (bodies.with_body f.name ts) (defined_heads s base f ready typed proper)
      (λ h t there is. going.weaker m t (IsTypedFunction m) IsWellTypedBody (λ u y. Unit {0} → IsWellTypedBody u y) (bodies.with_body f.name ts h t) (body_goes f.name ts h t there is well_typed) (λ u y body none. body)))
      (λ y t there is. ended_goes t y there is)

  pub function_goes : (s : State) (at : Place) (words : List SpecTree) (f : FunctionDeclaratorView) (body : List syntax.StatementTree) → IsReady m s → AreProperWords m words → IsProperFunction m f → AreProperStatements m (syntax.statement_trees body) → Goes m s (IsTypedFunction m) IsWellTypedBody (bodies.function_definition s at words f body)
  function_goes s at words f body ready specs proper statements =
      going.then m s (λ (b : SpecifiedView). IsTypeOf m b.declared.ctype) (λ u b. Unit {0}) (IsTypedFunction m) IsWellTypedBody (specifiers s at false (spec_trees words)) (bodies.defined_by f (syntax.statement_trees body)) (specifiers_go laws m s at false (spec_trees words) ready specs)
      (λ b t there is.
      going.weaker m t (IsTypedFunction m) IsWellTypedBody (λ u y. Unit {0} → IsWellTypedBody u y) (bodies.defined_by f (syntax.statement_trees body) b t)
      (going.cond_goes m t (IsTypedFunction m) IsWellTypedBody (is_typedef b.storage) (type_fault f.name.at) (bodies.defined f (syntax.statement_trees body) b t) tt (defined_goes t b f (syntax.statement_trees body) there is proper statements))
      (λ u y body none. body))
