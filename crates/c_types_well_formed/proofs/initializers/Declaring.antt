-- What typing makes of declarations in blocks is marked.
use Rattle.std.proofs.Common.{◌≡◌, ◌≤◌, ◌^◌, ◌-◌, ◌*◌, ℕ, List, [], ◌∷◌, ◌++◌, length, Option, Some, None, Ok, Err, arith, refl, subst, sym, inl, inr}
use Rattle.std.specs.Prelude.{◌⊎◌, Bool, true, false, ◌&&◌, cond, nat_le}
use Rattle.std.specs.List.{list_all}
use Rattle.std.proofs.lemmas.Bool.{and_parts, le-leb}
use Rattle.cc_base.specs.declared.diagnostics.Place.{Place}
use Rattle.c_layout.specs.Models.{is_model}
use Rattle.c_layout.specs.Types.{Ty}
use Rattle.c_layout.specs.CheckedTrees as made
use Rattle.c_layout.specs.CheckedTrees.{StatementTree, StoreTree, StoreValue, StoreCopy, StoreText, statement_trees}
use Rattle.c_layout.specs.CheckedUnits.{FunctionView, StaticStoreView, UnitView}
use Rattle.c_layout.specs.DeclarationTrees.{NameView, DeclaratorLayerView, InitializerTree, InitDeclaratorView, Object, Initialized, Prototype, LocalView, SpecTrees, spec_trees}
use Rattle.c_layout.specs.declared.data_model.Model.{Model}
use Rattle.c_types_scopes.specs.DeclaredTypes.{DeclaredView}
use Rattle.c_types_scopes.specs.Names.{number_in, found_here}
use Rattle.c_types_scopes.specs.Refusals.{Ruled, type_fault}
use Rattle.c_types_scopes.specs.Answers.{after, kept}
use Rattle.c_types_scopes.specs.States.{State, with_name, with_constant}
use Rattle.c_types_scopes.specs.declared.meanings.Meaning.{Meaning}
use Rattle.c_types_initializers.specs.Initialized.{InitializedView, ByTerm, ByLvalue, ByStores}
use Rattle.c_types_initializers.specs.StaticStores.{with_list, with_expressions, constant_stores}
use Rattle.c_types_expressions.specs.BracedLists.Initializers.{initializer_of}
use Rattle.c_types_declarations.specs.Declarators.{declared_type}
use Rattle.c_types_declarations.specs.Specifiers.{SpecifiedView}
use Rattle.c_types_declarations.specs.SpecifierTrees.{specifiers}
use Rattle.c_types_statement_rules.specs.Objects.LocalObjects.{PartsView, with_object, may_be_local, with_automatic, with_static_object, with_local_type, with_static_type, start, is_static}
use Rattle.c_types_statements.specs.LocalDeclarations as locals
use Rattle.c_types_statements.specs.StaticInitializers as statics
use Rattle.c_types_statements.specs.StaticInitializers.{has_size}
use Rattle.c_types_theorems.specs.Stores.PlacedStores.{IsInitialized}
use Rattle.c_types_theorems.proofs.stores.Initials.{stores_placed}
use Rattle.lower_templates.specs.Worklist.TermKinds.{term_type}
use Rattle.memory_model.specs.Effects.LibraryChecks.{most_size}
use Rattle.source_preservation.specs.Checks.LookedTypes.{is_scalar_type}
use Rattle.source_preservation.specs.Checks.LookedTerms.{is_well_typed_term, is_well_typed_place}
use Rattle.source_preservation.specs.UnitChecks.LookedStatements.{is_well_typed_store, is_well_typed_statement, are_well_typed_statements}
use Rattle.c_types_well_formed.specs.WellFormed.ModelTypes.{IsTypeOf}
use Rattle.c_types_well_formed.specs.WellFormed.UnitParts.{IsPartOf}
use Rattle.c_types_well_formed.specs.WellFormed.ProperStatements.{AreProperLayers, AreProperSpecs, IsProperInitializer, IsProperInitDeclarator, AreProperInitDeclarators, IsProperLocal}
use Rattle.c_types_well_formed.specs.Types.TypeLaws.{HasSpecified, HasDeclared}
use Rattle.c_types_well_formed.specs.Layouts.LaidStructs.{AreNear}
use Rattle.c_types_well_formed.proofs.layouts.Laying.{pointer_is}
use Rattle.c_types_well_formed.proofs.layouts.Declaring.{declarators_lay}
use Rattle.c_types_well_formed.proofs.layouts.Specifying.{specifiers_lay}
use Rattle.c_types_well_formed.proofs.layouts.NearStores.{stores_are_near}
use Rattle.c_types_well_formed.specs.Initializers.ReadyStates.{IsReady, Goes}
use Rattle.c_types_well_formed.specs.Initializers.PartLaws.{HasLaws}
use Rattle.c_types_well_formed.specs.Initializers.WellTypedDeclarations.{AreWellTypedParts}
use Rattle.c_types_well_formed.proofs.initializers.Going.{IsPassed, Rules, ground, onward, then, weaker, kept_goes, cond_goes, led_goes}
use Rattle.c_types_well_formed.proofs.initializers.Going as going
use Rattle.c_types_well_formed.proofs.initializers.ReadySteps.{scoped_passes, named_ready, constant_ready, constant_passes, automatic_ready, automatic_passes, static_ready, static_passes, local_type_ready, local_type_passes, static_type_ready, static_type_passes, stores_ready, stores_pass}
use Rattle.c_types_well_formed.specs.Initializers.WellTypedInitializers.{AreValued, IsInitial}
use Rattle.c_types_well_formed.specs.Stores.StaticStores.{StoresIf}
use Rattle.c_types_well_formed.proofs.stores.Addresses.{static_stores_proper}
use Rattle.c_types_well_formed.proofs.initializers.Initializing.{Initializes, initializer_goes}

-- ---- lists

pub both : (a b : Bool) → a ≡ true → b ≡ true → (a && b) ≡ true
both true true g h = refl
both true false g h = absurd (cc)
both false b g h = absurd (cc)

pub well_typed_more : (u : UnitView) (f : FunctionView) (xs : List StatementTree) (x : StatementTree) → are_well_typed_statements u f (statement_trees xs) ≡ true → is_well_typed_statement u f x ≡ true → are_well_typed_statements u f (statement_trees (xs ++ x ∷ [])) ≡ true
well_typed_more u f [] x all one = both (is_well_typed_statement u f x) true one refl
well_typed_more u f (y ∷ xs) x all one =
    let p = and_parts (is_well_typed_statement u f y) (are_well_typed_statements u f (statement_trees xs)) all in
    both (is_well_typed_statement u f y) (are_well_typed_statements u f (statement_trees (xs ++ x ∷ []))) p.0 (well_typed_more u f xs x p.1 one)

-- ---- sizes

room_of : (n : ℕ) → (n ≡ 4) ⊎ (n ≡ 8) → 2 ^ 30 ≤ 2 ^ (8 * n - 1) - 1
room_of n (inl four) = subst (λ k. 2 ^ 30 ≤ 2 ^ (8 * k - 1) - 1) (sym four) (omega arith)
room_of n (inr eight) = subst (λ k. 2 ^ 30 ≤ 2 ^ (8 * k - 1) - 1) (sym eight) (omega arith)

pub most_room : (m : Model) → is_model m ≡ true → 2 ^ 30 ≤ most_size m
most_room m h = room_of m.pointer (pointer_is m h)

near_fits : (u : UnitView) (offset : ℕ) → is_model u.model ≡ true → offset ≤ 2 ^ 30 → nat_le offset (most_size u.model) ≡ true
near_fits u offset h near = le-leb offset (most_size u.model) (let room = most_room u.model h in omega (arith, room, near))

-- ---- stores and starts

stores_well_typed : (u : UnitView) (xs : List StoreTree) → is_model u.model ≡ true → AreValued u xs → AreNear xs → list_all (is_well_typed_store u) xs ≡ true
stores_well_typed u [] h all near = refl
stores_well_typed u (StoreValue offset e ∷ xs) h all near =
    both (is_well_typed_store u (StoreValue offset e)) (list_all (is_well_typed_store u) xs)
    (both (is_well_typed_term u true e) (is_scalar_type u (term_type e) && nat_le offset (most_size u.model)) all.0.0 (both (is_scalar_type u (term_type e)) (nat_le offset (most_size u.model)) all.0.1 (near_fits u offset h near.0)))
    (stores_well_typed u xs h all.1 near.1)
stores_well_typed u (StoreCopy offset l ∷ xs) h all near =
    both (is_well_typed_store u (StoreCopy offset l)) (list_all (is_well_typed_store u) xs) (both (is_well_typed_place u l) (nat_le offset (most_size u.model)) all.0 (near_fits u offset h near.0)) (stores_well_typed u xs h all.1 near.1)
stores_well_typed u (StoreText offset room text ∷ xs) h all near = both (is_well_typed_store u (StoreText offset room text)) (list_all (is_well_typed_store u) xs) all.0 (stores_well_typed u xs h all.1 near.1)

-- the stores of an initializer, if it has some
abbrev pub IsNearInitial : InitializedView → Type 0
IsNearInitial (ByTerm e) = Unit {0}
IsNearInitial (ByLvalue l) = Unit {0}
IsNearInitial (ByStores xs) = AreNear xs

start_well_typed : (u : UnitView) (f : FunctionView) (at : Place) (number : ℕ) (v : InitializedView) → is_model u.model ≡ true → IsInitial u v → IsNearInitial v → is_well_typed_statement u f (start at number v) ≡ true
start_well_typed u f at number (ByTerm e) h g near = both (is_well_typed_term u true e) (is_scalar_type u (term_type e)) g.0 g.1
start_well_typed u f at number (ByLvalue l) h g near = g
start_well_typed u f at number (ByStores xs) h g near = stores_well_typed u xs h g near

module _ (laws : HasLaws) (m : Model) where
  -- the stores of an initializer stand within its object
  near_of : (s : State) (t made : Ty) (v : InitializedView) → IsReady m s → has_size s.known made ≡ true → IsInitialized s.known t v made → IsNearInitial v
  near_of s t made (ByTerm e) h sized placed = tt
  near_of s t made (ByLvalue l) h sized placed = tt
  near_of s t made (ByStores xs) h sized placed = stores_are_near s t made xs h.layouts sized placed

  pub initializer_near : (s later : State) (equals : Place) (t made : Ty) (i : InitializerTree) (v : InitializedView) → IsReady m s → IsReady m later → initializer_of s equals t i ≡ Ok ((v, made), later) → has_size later.known made ≡ true → IsNearInitial v
  initializer_near s later equals t made i v h ready is sized = near_of later t made v ready sized (stores_placed s later equals t made i v h.layouts.settled is)

  -- ---- specifiers and declarators

  pub specifiers_go : (s : State) (at : Place) (alone : Bool) (words : SpecTrees) → IsReady m s → AreProperSpecs m words → Goes m s (λ (b : SpecifiedView). IsTypeOf m b.declared.ctype) (λ u b. Unit {0}) (specifiers s at alone words)
  specifiers_go s at alone words h proper =
      led_goes m s HasSpecified (λ (b : SpecifiedView). IsTypeOf m b.declared.ctype) (λ u b. Unit {0}) (specifiers s at alone words) h (laws.specifiers s at alone words h.types (subst (λ n. AreProperSpecs n words) (sym h.numbers) proper)) (specifiers_lay s at alone words h.layouts)
      (λ b t numbers typed. (subst (λ n. IsTypeOf n b.declared.ctype) numbers typed, λ u part. tt))

  pub declared_goes : (s : State) (at : Place) (d : DeclaredView) (layers : List DeclaratorLayerView) → IsReady m s → IsTypeOf m d.ctype → AreProperLayers m layers → Goes m s (λ (x : DeclaredView). IsTypeOf m x.ctype) (λ u x. Unit {0}) (declared_type s at d layers)
  declared_goes s at d layers h typed proper =
      led_goes m s HasDeclared (λ (x : DeclaredView). IsTypeOf m x.ctype) (λ u x. Unit {0}) (declared_type s at d layers) h (laws.declarators s at d layers h.types (subst (λ n. IsTypeOf n d.ctype) (sym h.numbers) typed) (subst (λ n. AreProperLayers n layers) (sym h.numbers) proper)) (declarators_lay s at d layers h.layouts)
      (λ x t numbers g. (subst (λ n. IsTypeOf n x.ctype) numbers g, λ u part. tt))

  -- the type of an object, and the state in which it is declared
  abbrev Types : State → Ruled (DeclaredView × State) → Type 0
  Types s r = Goes m s (λ (d : DeclaredView). IsTypeOf m d.ctype) (λ u d. Unit {0}) r

  judged_goes : (n : NameView) (has : Bool) (d : DeclaredView) (s : State) → IsReady m s → IsTypeOf m d.ctype → Types s (locals.judged_object n has d s)
  judged_goes n has d s h typed =
      let t : State = with_name s n.text in
      cond_goes m s (λ (x : DeclaredView). IsTypeOf m x.ctype) (λ u x. Unit {0}) (may_be_local s.known d.ctype has) (kept t (locals.if_free (number_in s.scopes.names n.text) n d t)) (type_fault n.at)
      (onward m s t (λ (x : DeclaredView). IsTypeOf m x.ctype) (λ u x. Unit {0}) (kept t (locals.if_free (number_in s.scopes.names n.text) n d t)) (scoped_passes s t.scopes)
      (kept_goes m t (λ (x : DeclaredView). IsTypeOf m x.ctype) (λ u x. Unit {0}) (locals.if_free (number_in s.scopes.names n.text) n d t) (named_ready m s h n.text) (free_rules t (found_here t.scopes (number_in s.scopes.names n.text)))))
      tt
    where
      free_rules : (t : State) (o : Option Meaning) → Rules t (λ (x : DeclaredView). IsTypeOf m x.ctype) (λ u x. Unit {0}) (locals.free_of n d o)
      free_rules t None = (typed, λ u part. tt)
      free_rules t (Some x) = tt

  object_type_goes : (s : State) (base : SpecifiedView) (n : NameView) (layers : List DeclaratorLayerView) (has : Bool) → IsReady m s → IsTypeOf m base.declared.ctype → AreProperLayers m layers → Types s (locals.object_type s base n layers has)
  object_type_goes s base n layers has h typed proper = then m s (λ (x : DeclaredView). IsTypeOf m x.ctype) (λ u x. Unit {0}) (λ (x : DeclaredView). IsTypeOf m x.ctype) (λ u x. Unit {0}) (declared_type s n.at base.declared layers) (locals.judged_object n has) (declared_goes s n.at base.declared layers h typed proper)
      (λ d t ready of. weaker m t (λ (x : DeclaredView). IsTypeOf m x.ctype) (λ u x. Unit {0}) (λ u x. Unit {0} → Unit {0}) (locals.judged_object n has d t) (judged_goes n has d t ready of) (λ u x g k. tt))

  -- ---- initializers of objects of static storage

  list_ready : (stores : List StoreTree) (s : State) → IsReady m s → IsReady m (with_list s stores)
  unfolding with_list
  list_ready [] s h = h
  list_ready (StoreValue offset e ∷ stores) s h = list_ready stores (with_constant s e) (constant_ready m s h e)
  list_ready (StoreCopy offset l ∷ stores) s h = list_ready stores s h
  list_ready (StoreText offset room text ∷ stores) s h = list_ready stores s h

  expressions_ready : (s : State) (v : InitializedView) → IsReady m s → IsReady m (with_expressions s v)
  expressions_ready s (ByTerm e) h = constant_ready m s h e
  expressions_ready s (ByLvalue l) h = h
  expressions_ready s (ByStores stores) h = list_ready stores s h

  list_passes : (stores : List StoreTree) (s : State) → IsPassed s (with_list s stores)
  unfolding with_list
  list_passes [] s u p = p
  list_passes (StoreValue offset e ∷ stores) s u p = constant_passes s e u (list_passes stores (with_constant s e) u p)
  list_passes (StoreCopy offset l ∷ stores) s u p = list_passes stores s u p
  list_passes (StoreText offset room text ∷ stores) s u p = list_passes stores s u p

  expressions_pass : (s : State) (v : InitializedView) → IsPassed s (with_expressions s v)
  expressions_pass s (ByTerm e) u p = constant_passes s e u p
  expressions_pass s (ByLvalue l) u p = p
  expressions_pass s (ByStores stores) u p = list_passes stores s u p

  abbrev Stores : State → Ruled (Unit {0} × State) → Type 0
  Stores s r = Goes m s going.nothing (λ u x. Unit {0}) r

  stored_goes : (equals : Place) (index number : ℕ) (v : InitializedView) (t : Ty) (s : State) (r : Ruled (List StaticStoreView)) → IsReady m s → IsTypeOf m t → StoresIf r → Stores s (after (kept (with_expressions s v) r) (statics.with_initial equals index number t))
  stored_goes equals index number v t s (Ok stores) h typed proper =
      let s1 : State = with_expressions s v in
      let h1 = expressions_ready s v h in
      let s2 : State = with_static_type index number t s1 in (
        stores_ready m s2 (static_type_ready m s1 h1 index number t typed) equals number stores proper,
        tt,
        λ u part. (expressions_pass s v u (static_type_passes s1 index number t u (stores_pass s2 equals number stores u part)), tt),
      )
  stored_goes equals index number v t s (Err f) h typed proper = tt

  pub static_goes : (s : State) (index number : ℕ) (equals : Place) (t : Ty) (i : InitializerTree) → IsReady m s → IsProperInitializer m i → IsTypeOf m t → Stores s (statics.static_initializer s index number equals t i)
  static_goes s index number equals t i h proper typed = of_made (initializer_of s equals t i) refl (initializer_goes laws m s equals t i h proper typed)
    where
      of_size : (v : InitializedView) (made : Ty) (later : State) → IsReady m later → IsTypeOf m made → StoresIf (constant_stores later.known equals v) → (b : Bool) → Stores later (cond b (statics.store_static equals index number v made later) (type_fault equals))
      of_size v made later ready of proper true = stored_goes equals index number v made later (constant_stores later.known equals v) ready of proper
      of_size v made later ready of proper false = tt

      of_made : (r : Ruled ((InitializedView × Ty) × State)) → initializer_of s equals t i ≡ r → Initializes laws m s r → Stores s (after r (statics.judged_static index number equals))
      of_made (Ok q) is g =
          onward m s q.1 going.nothing (λ u x. Unit {0}) (statics.judged_static index number equals q.0 q.1) (λ u part. (g.2 u part).0)
          (of_size q.0.0 q.0.1 q.1 g.0 g.1 (static_stores_proper m q.1.known s q.1 equals equals t q.0.1 i q.0.0 g.0.types.proper proper is) (has_size q.1.known q.0.1))
      of_made (Err f) is g = tt

  -- ---- objects of blocks

  module _ (returns : Ty) where
    -- what is added to the parts of a block
    abbrev pub Adds : State → PartsView → Ruled (PartsView × State) → Type 0
    Adds s p r = Goes m s going.nothing (λ u q. AreWellTypedParts returns u p → AreWellTypedParts returns u q) r

    plain_adds : (n : NameView) (d : DeclaredView) (p : PartsView) (b : Ruled Bool) (s : State) → IsReady m s → IsTypeOf m d.ctype → Adds s p (locals.plain_by n d p b s)
    plain_adds n d p (Ok true) s h typed = (static_ready m s h n d typed, tt, λ u part. (static_passes s n d u part, λ all. all))
    plain_adds n d p (Ok false) s h typed = (automatic_ready m s h n d typed, tt, λ u part. (automatic_passes s n d u part, λ all f is. well_typed_more u f p.statements (made.Forget n.at (length s.body.locals)) (all f is) refl))
    plain_adds n d p (Err f) s h typed = tt

    started_adds : (n : NameView) (number : ℕ) (equals : Place) (t : Ty) (i : InitializerTree) (p : PartsView) (s : State) → IsReady m s → IsProperInitializer m i → IsTypeOf m t → Adds s p (after (initializer_of s equals t i) (locals.start_automatic n.at equals number (with_object p number)))
    started_adds n number equals t i p s h proper typed = of_made (initializer_of s equals t i) refl (initializer_goes laws m s equals t i h proper typed)
      where
        of_size : (v : InitializedView) (made : Ty) (later : State) → IsReady m later → IsTypeOf m made → ((u : UnitView) → IsPartOf later u → IsPartOf s u × IsInitial u v) → initializer_of s equals t i ≡ Ok ((v, made), later) → (b : Bool) → has_size later.known made ≡ b
            → Adds s p (cond b (Ok (locals.started n.at number v (with_object p number), with_local_type number made later)) (type_fault equals))
        of_size v made later ready of ends is true sized = (
          local_type_ready m later ready number made of,
          tt,
          λ u part.
              let here = local_type_passes later number made u part in
              let a = ends u here in (
                a.0,
                λ all f same. well_typed_more u f p.statements (start n.at number v) (all f same) (start_well_typed u f n.at number v (ground m later u ready here).proper a.1 (initializer_near s later equals t made i v h ready is sized)),
              ),
        )
        of_size v made later ready of ends is false sized = tt

        of_made : (r : Ruled ((InitializedView × Ty) × State)) → initializer_of s equals t i ≡ r → Initializes laws m s r → Adds s p (after r (locals.start_automatic n.at equals number (with_object p number)))
        of_made (Ok q) is g = of_size q.0.0 q.0.1 q.1 g.0 g.1 g.2 is (has_size q.1.known q.0.1) refl
        of_made (Err f) is g = tt

    kept_adds : (s : State) (p : PartsView) (r : Ruled (Unit {0} × State)) → Stores s r → Adds s p (after r (locals.parts_kept p))
    kept_adds s p (Ok q) g = (g.0, tt, λ u part. ((g.2 u part).0, λ all. all))
    kept_adds s p (Err f) g = tt

    initialized_adds : (n : NameView) (d : DeclaredView) (equals : Place) (i : InitializerTree) (p : PartsView) (b : Ruled Bool) (s : State) → IsReady m s → IsProperInitializer m i → IsTypeOf m d.ctype → Adds s p (locals.initialized_by n d equals i p b s)
    initialized_adds n d equals i p (Ok true) s h proper typed =
        let s1 : State = with_static_object n d s in
        kept_adds s p (locals.initialized_static n d equals i s) (onward m s s1 going.nothing (λ u x. Unit {0}) (locals.initialized_static n d equals i s) (static_passes s n d) (static_goes s1 (length s.objects) (length s.statics) equals d.ctype i (static_ready m s h n d typed) proper typed))
    initialized_adds n d equals i p (Ok false) s h proper typed =
        let s1 : State = with_automatic n d s in
        onward m s s1 going.nothing (λ u q. AreWellTypedParts returns u p → AreWellTypedParts returns u q) (locals.initialized_automatic n d equals i p s) (automatic_passes s n d) (started_adds n (length s.body.locals) equals d.ctype i p s1 (automatic_ready m s h n d typed) proper typed)
    initialized_adds n d equals i p (Err f) s h proper typed = tt

    -- an object whose type is known
    behind_type : (s : State) (p : PartsView) (r : Ruled (DeclaredView × State)) (next : DeclaredView → State → Ruled (PartsView × State)) → Types s r → ((d : DeclaredView) (t : State) → IsReady m t → IsTypeOf m d.ctype → Adds t p (next d t)) → Adds s p (after r next)
    behind_type s p (Ok q) next g go = onward m s q.1 going.nothing (λ u x. AreWellTypedParts returns u p → AreWellTypedParts returns u x) (next q.0 q.1) (λ u part. (g.2 u part).0) (go q.0 q.1 g.0 g.1)
    behind_type s p (Err f) next g go = tt

    plain_named_adds : (s : State) (base : SpecifiedView) (at : Place) (n : Option NameView) (layers : List DeclaratorLayerView) (p : PartsView) → IsReady m s → IsTypeOf m base.declared.ctype → AreProperLayers m layers → Adds s p (locals.plain_named s base at n layers p)
    plain_named_adds s base at None layers p h typed proper = tt
    plain_named_adds s base at (Some n) layers p h typed proper = behind_type s p (locals.object_type s base n layers false) (locals.plain_in base.storage n p) (object_type_goes s base n layers false h typed proper) (λ d t ready of. plain_adds n d p (is_static base.storage n.at) t ready of)

    initialized_named_adds : (s : State) (base : SpecifiedView) (at : Place) (n : Option NameView) (layers : List DeclaratorLayerView) (equals : Place) (i : InitializerTree) (p : PartsView) → IsReady m s → IsTypeOf m base.declared.ctype → AreProperLayers m layers → IsProperInitializer m i → Adds s p (locals.initialized_named s base at n layers equals i p)
    initialized_named_adds s base at None layers equals i p h typed proper initial = tt
    initialized_named_adds s base at (Some n) layers equals i p h typed proper initial = behind_type s p (locals.object_type s base n layers true) (locals.initialized_in base.storage n equals i p) (object_type_goes s base n layers true h typed proper) (λ d t ready of. initialized_adds n d equals i p (is_static base.storage n.at) t ready initial of)

    declarator_adds : (s : State) (base : SpecifiedView) (at : Place) (d : InitDeclaratorView) (p : PartsView) → IsReady m s → IsTypeOf m base.declared.ctype → IsProperInitDeclarator m d → Adds s p (locals.declarator s base at d p)
    declarator_adds s base at (Object d) p h typed proper = plain_named_adds s base at d.name d.layers p h typed proper
    declarator_adds s base at (Initialized d equals i) p h typed proper = initialized_named_adds s base at d.name d.layers equals i p h typed proper.0 proper.1
    declarator_adds s base at (Prototype f) p h typed proper = tt

    -- steps that add to parts, one after another
    further : (s : State) (p : PartsView) (r : Ruled (PartsView × State)) (next : PartsView → State → Ruled (PartsView × State)) → Adds s p r → ((q : PartsView) (t : State) → IsReady m t → Adds t q (next q t)) → Adds s p (after r next)
    further s p (Ok q) next g go = on (next q.0 q.1) (go q.0 q.1 g.0)
      where
        on : (r : Ruled (PartsView × State)) → Adds q.1 q.0 r → Adds s p r
        on (Ok x) i = (i.0, tt, λ u part. (let a = i.2 u part in let b = g.2 u a.0 in (b.0, λ all. a.1 (b.1 all))))
        on (Err f) i = tt
    further s p (Err f) next g go = tt

    declarators_add : (ds : List InitDeclaratorView) (s : State) (base : SpecifiedView) (at : Place) (p : PartsView) → IsReady m s → IsTypeOf m base.declared.ctype → AreProperInitDeclarators m ds → Adds s p (locals.declarators s base at ds p)
    declarators_add [] s base at p h typed proper = (h, tt, λ u part. (part, λ all. all))
    declarators_add (d ∷ ds) s base at p h typed proper = further s p (locals.declarator s base at d p) (λ q t. locals.declarators t base at ds q) (declarator_adds s base at d p h typed proper.0) (λ q t ready. declarators_add ds t base at q ready typed proper.1)

    pub local_adds : (s : State) (l : LocalView) (p : PartsView) → IsReady m s → IsProperLocal m l → Adds s p (locals.local_declaration s l p)
    local_adds s l p h proper = of_words (specifiers s l.at (locals.are_none l.declarators) (spec_trees l.words)) (specifiers_go s l.at (locals.are_none l.declarators) (spec_trees l.words) h proper.0)
      where
        of_words : (r : Ruled (SpecifiedView × State)) → Goes m s (λ (b : SpecifiedView). IsTypeOf m b.declared.ctype) (λ u b. Unit {0}) r → Adds s p (after r (locals.declared_by l p))
        of_words (Ok b) g =
            onward m s b.1 going.nothing (λ u x. AreWellTypedParts returns u p → AreWellTypedParts returns u x) (locals.declared_by l p b.0 b.1) (λ u part. (g.2 u part).0)
            (cond_goes m b.1 going.nothing (λ u x. AreWellTypedParts returns u p → AreWellTypedParts returns u x) (locals.is_empty l.declarators b.0) (type_fault l.at) (locals.declarators b.1 b.0 l.at l.declarators p) tt (declarators_add l.declarators b.1 b.0 l.at p g.0 g.1 proper.1))
        of_words (Err f) g = tt
