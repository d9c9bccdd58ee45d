-- Declarations of blocks: their objects are new, and their statements name what lives.
use Rattle.std.proofs.Common.{◌≡◌, ◌+◌, ℕ, Bool, true, false, List, [], ◌∷◌, ◌++◌, length, Option, Some, None, Ok, Err, arith, refl, ap, sym, ◌∙◌, append_assoc}
use Rattle.std.specs.Prelude.{cond}
use Rattle.std.specs.List.{list_all}
use Rattle.std.proofs.lemmas.List.{append-nil, length-append}
use Rattle.cc_base.specs.declared.diagnostics.Place.{Place}
use Rattle.c_layout.specs.Types.{Ty}
use Rattle.c_layout.specs.CheckedTrees as tree
use Rattle.c_layout.specs.CheckedTrees.{StatementTree, StoreTree, StoreValue, StoreCopy, StoreText, statement_trees}
use Rattle.c_layout.specs.CheckedUnits.{FunctionView}
use Rattle.c_layout.specs.DeclarationTrees.{NameView, DeclaratorLayerView, InitializerTree, InitDeclaratorView, Object, Initialized, Prototype, LocalView, spec_trees}
use Rattle.c_types_scopes.specs.Answers.{after, kept}
use Rattle.c_types_scopes.specs.DeclaredTypes.{DeclaredView}
use Rattle.c_types_scopes.specs.Names.{number_in}
use Rattle.c_types_scopes.specs.Refusals.{Ruled, type_fault}
use Rattle.c_types_scopes.specs.States.{State, with_name, with_constant}
use Rattle.c_types_scopes.specs.declared.meanings.Meaning.TheVariants as meaning
use Rattle.c_types_initializers.specs.Initialized.{InitializedView, ByTerm, ByLvalue, ByStores}
use Rattle.c_types_initializers.specs.StaticStores.{static_stores, constant_stores, with_expressions, with_list}
use Rattle.c_types_declarations.specs.Declarators.{declared_type}
use Rattle.c_types_expressions.specs.BracedLists.Initializers.{initializer_of}
use Rattle.c_types_declarations.specs.SpecifierTrees.{specifiers}
use Rattle.c_types_declarations.specs.Specifiers.{SpecifiedView}
use Rattle.c_types_statement_rules.specs.Objects.LocalObjects.{PartsView, with_object, may_be_local, with_automatic, with_static_object, with_local_type, typed_local, start, is_static}
use Rattle.c_types_statements.specs.LocalDeclarations as locals
use Rattle.c_types_statements.specs.StaticInitializers as statics
use Rattle.c_types_theorems.proofs.entries.Initializing.{initializer_leads}
use Rattle.c_types_theorems.proofs.entries.Leading.{Leads, kept_leads, cond_leads, onward, then}
use Rattle.c_types_theorems.proofs.entries.Specifying.{declared_leads, specifiers_lead}
use Rattle.c_types_theorems.proofs.units.Bodies.{changed_long}
use Rattle.semantics.specs.SourceMachine.Scopes.{is_in}
use Rattle.source_preservation.specs.UnitChecks.LookedScopes.{is_scoped_term, is_scoped_place, is_scoped_store, is_scoped_statement, are_scoped_statements}
use Rattle.source_preservation.proofs.checks.Truths.{both_true}
use Rattle.source_items.specs.Returns.EndedObjects.{AreAmong}
use Rattle.c_types_well_formed_units.specs.Scoped.ScopedLaws.{Yields}
use Rattle.c_types_well_formed_units.specs.Scoped.ScopedOperands.{ScopedInitial, ScopedMade}
use Rattle.c_types_well_formed_units.specs.Scoped.SeenObjects.{SeesAt, Follows, Stays, count}
use Rattle.c_types_well_formed_units.proofs.scoped.Filled.{initializer_yields}
use Rattle.c_types_well_formed_units.proofs.scoped.Numbers.{two, in_front, in_back, in_itself, none_new, one_new}
use Rattle.c_types_well_formed_units.proofs.scoped.Seen.{declares, stays_so, stays_same, stays_twice, stays_sees, stays_follows, follows_stays, follows_twice, steps_stay, specifiers_stay}
use Rattle.c_types_well_formed_units.specs.ScopedBodies.ScopedBodies.{Apart, Adds}
use Rattle.c_types_well_formed_units.proofs.scoped_bodies.Beside.{apart_first, apart_second, apart_after, apart_before}

pub statements_both : (f : FunctionView) (alive : List ℕ) (xs ys : List StatementTree) → are_scoped_statements f alive (statement_trees xs) ≡ true → are_scoped_statements f alive (statement_trees ys) ≡ true → are_scoped_statements f alive (statement_trees (xs ++ ys)) ≡ true
statements_both f alive [] ys g h = h
statements_both f alive (x ∷ xs) ys g h =
    let p = both_true (is_scoped_statement f alive x) (are_scoped_statements f alive (statement_trees xs)) g in
    two (is_scoped_statement f alive x) (are_scoped_statements f alive (statement_trees (xs ++ ys))) p.0 (statements_both f alive xs ys p.1 h)

pub adds_twice : (s t u : State) (returned : Ty) (parts more most : PartsView) → Adds s t returned parts more → Adds t u returned more most → Adds s u returned parts most
adds_twice s t u returned parts more most a b = record {
  new = a.new ++ b.new;
  made = a.made ++ b.made;
  follows = follows_twice s.scopes.ordinary t.scopes.ordinary u.scopes.ordinary s.scopes.meanings t.scopes.meanings u.scopes.meanings (count s) (count t) (count u) a.new b.new a.follows b.follows;
  objects = b.objects ∙ (ap (λ l. l ++ b.new) a.objects ∙ append_assoc parts.objects a.new b.new);
  statements = b.statements ∙ (ap (λ l. l ++ b.made) a.statements ∙ append_assoc parts.statements a.made b.made);
  scoped = λ f same alive all sees apart.
      let first : AreAmong a.new alive = λ k is. all k (in_front k a.new b.new is) in
      let second : AreAmong b.new alive = λ k is. all k (in_back k a.new b.new is) in
      statements_both f alive a.made b.made
      (a.scoped f same alive first sees (apart_first alive a.new b.new (count s) (count t) (count u) b.follows.count b.follows.news apart))
      (b.scoped f same alive second (a.follows.sees alive first sees) (apart_second alive a.new b.new (count s) (count t) (count u) a.follows.count a.follows.news apart));
}

pub stays_adds : (s t u : State) (returned : Ty) (parts more : PartsView) → Stays s t → Adds t u returned parts more → Adds s u returned parts more
stays_adds s t u returned parts more g a = record {
  new = a.new;
  made = a.made;
  follows = stays_follows s t u a.new g a.follows;
  objects = a.objects;
  statements = a.statements;
  scoped = λ f same alive all sees apart. a.scoped f same alive all (stays_sees alive s t g sees) (apart_after alive a.new (count s) (count t) (count u) g.count apart);
}

abbrev pub adds_stays : (s t u : State) (returned : Ty) (parts more : PartsView) → Adds s t returned parts more → Stays t u → Adds s u returned parts more
adds_stays s t u returned parts more a g = record {
  new = a.new;
  made = a.made;
  follows = follows_stays s t u a.new a.follows g;
  objects = a.objects;
  statements = a.statements;
  scoped = λ f same alive all sees apart. a.scoped f same alive all sees (apart_before alive a.new (count s) (count t) (count u) g.count apart);
}

pub adds_nothing : (s t : State) (returned : Ty) (parts : PartsView) → Stays s t → Adds s t returned parts parts
adds_nothing s t returned parts g = record {
  new = [];
  made = [];
  follows = g;
  objects = sym (append-nil parts.objects);
  statements = sym (append-nil parts.statements);
  scoped = λ f same alive all sees apart. refl;
}

-- a statement that makes no object
pub adds_statement : (s t : State) (returned : Ty) (parts : PartsView) (made : StatementTree) → Stays s t → ((f : FunctionView) → f.returns ≡ returned → (alive : List ℕ) → SeesAt alive s → Apart alive (count s) (count t) [] → is_scoped_statement f alive made ≡ true) → Adds s t returned parts (record parts { statements = parts.statements ++ made ∷ [] })
adds_statement s t returned parts made g h = record {
  new = [];
  made = made ∷ [];
  follows = g;
  objects = sym (append-nil parts.objects);
  statements = refl;
  scoped = λ f same alive all sees apart. two (is_scoped_statement f alive made) true (h f same alive sees apart) refl;
}

-- ---- objects of static storage

list_stays : (xs : List StoreTree) (s : State) → Stays s (with_list s xs)
unfolding with_list
list_stays [] s = stays_same s
list_stays (StoreValue offset e ∷ xs) s = list_stays xs (with_constant s e)
list_stays (StoreCopy offset l ∷ xs) s = list_stays xs s
list_stays (StoreText offset room text ∷ xs) s = list_stays xs s

expressions_stay : (s : State) (v : InitializedView) → Stays s (with_expressions s v)
expressions_stay s (ByTerm e) = stays_same s
expressions_stay s (ByLvalue l) = stays_same s
expressions_stay s (ByStores xs) = list_stays xs s

pub static_leads : (s : State) (index number : ℕ) (equals : Place) (t : Ty) (i : InitializerTree) → Leads Stays s (statics.static_initializer s index number equals t i)
static_leads s index number equals t i =
    then Stays stays_twice s (initializer_of s equals t i) (statics.judged_static index number equals) (initializer_leads Stays steps_stay s equals t i)
    (λ m u. cond_leads Stays u (statics.has_size u.known m.1) (statics.store_static equals index number m.0 m.1 u) (type_fault equals)
    (then Stays stays_twice u (static_stores equals m.0 u) (statics.with_initial equals index number m.1) (kept_leads Stays u (with_expressions u m.0) (constant_stores u.known equals m.0) (expressions_stay u m.0)) (λ stores v. stays_same v)) tt)

static_more : (n : NameView) (d : DeclaredView) (s : State) → Stays s (with_static_object n d s)
static_more n d s = declares s.scopes.ordinary s.scopes.meanings (count s) (count s) (number_in s.scopes.names n.text) (meaning.Static (length s.objects)) [] (omega arith) (none_new (count s) (count s)) (λ alive all. tt)

-- ---- objects of automatic storage

automatic_more : (n : NameView) (d : DeclaredView) (s : State) → Follows s (with_automatic n d s) (count s ∷ [])
automatic_more n d s = declares s.scopes.ordinary s.scopes.meanings (count s) (count (with_automatic n d s)) (number_in s.scopes.names n.text) (meaning.Local (count s)) (count s ∷ []) (omega (arith, more)) (one_new (count s) (count (with_automatic n d s)) (omega (arith, more))) (λ alive all. all (count s) (in_itself (count s)))
  where
    more : count (with_automatic n d s) ≡ count s + 1
    more = length-append s.body.locals (record { name = n.text; at = n.at; ctype = d.ctype } ∷ [])

retyped_stays : (number : ℕ) (t : Ty) (s : State) → Stays s (with_local_type number t s)
retyped_stays number t s = stays_so s.scopes.ordinary s.scopes.meanings (count s) (count (with_local_type number t s)) (let l = changed_long (typed_local t) number s.body.locals in omega (arith, l))

start_scoped : (f : FunctionView) (alive : List ℕ) (at : Place) (k : ℕ) (v : InitializedView) → is_in k alive ≡ true → ScopedInitial alive v → is_scoped_statement f alive (start at k v) ≡ true
start_scoped f alive at k (ByTerm e) g h = two (is_in k alive) (is_scoped_term alive e) g h
start_scoped f alive at k (ByLvalue l) g h = two (is_in k alive) (is_scoped_place alive l) g h
start_scoped f alive at k (ByStores xs) g h = two (is_in k alive) (list_all (is_scoped_store alive) xs) g h

module _ (returned : Ty) where
  abbrev pub Declares : State → PartsView → Ruled (PartsView × State) → Type 0
  Declares s parts (Ok p) = Adds s p.1 returned parts p.0
  Declares s parts (Err f) = Unit {0}

  onwards : (s t : State) (parts : PartsView) (r : Ruled (PartsView × State)) → Stays s t → Declares t parts r → Declares s parts r
  onwards s t parts (Ok p) g h = stays_adds s t p.1 returned parts p.0 g h
  onwards s t parts (Err f) g h = tt

  behind : {U : Type 0} (s : State) (parts : PartsView) (r : Ruled (U × State)) (next : U → State → Ruled (PartsView × State)) → Leads Stays s r → ((u : U) (t : State) → Declares t parts (next u t)) → Declares s parts (after r next)
  behind s parts (Ok p) next g h = onwards s p.1 parts (next p.0 p.1) g (h p.0 p.1)
  behind s parts (Err f) next g h = tt

  more_behind : (s t : State) (parts more : PartsView) (r : Ruled (PartsView × State)) → Adds s t returned parts more → Declares t more r → Declares s parts r
  more_behind s t parts more (Ok p) g h = adds_twice s t p.1 returned parts more p.0 g h
  more_behind s t parts more (Err f) g h = tt

  then_more : (s : State) (parts : PartsView) (r : Ruled (PartsView × State)) (next : PartsView → State → Ruled (PartsView × State)) → Declares s parts r → ((more : PartsView) (t : State) → Declares t more (next more t)) → Declares s parts (after r next)
  then_more s parts (Ok p) next g h = more_behind s p.1 parts p.0 (next p.0 p.1) g (h p.0 p.1)
  then_more s parts (Err f) next g h = tt

  cond_declares : (s : State) (parts : PartsView) (b : Bool) (x y : Ruled (PartsView × State)) → Declares s parts x → Declares s parts y → Declares s parts (cond b x y)
  cond_declares s parts true x y g h = g
  cond_declares s parts false x y g h = h

  -- ---- objects without initializer

  forgotten : (n : NameView) (d : DeclaredView) (parts : PartsView) (s : State) → Declares s parts (locals.plain_automatic n d parts s)
  forgotten n d parts s = record {
    new = count s ∷ [];
    made = tree.Forget n.at (count s) ∷ [];
    follows = automatic_more n d s;
    objects = refl;
    statements = refl;
    scoped = λ f same alive all sees apart. two (is_in (count s) alive) true (all (count s) (in_itself (count s))) refl;
  }

  plain_by : (n : NameView) (d : DeclaredView) (parts : PartsView) (b : Ruled Bool) (s : State) → Declares s parts (locals.plain_by n d parts b s)
  plain_by n d parts (Ok true) s = adds_nothing s (with_static_object n d s) returned parts (static_more n d s)
  plain_by n d parts (Ok false) s = forgotten n d parts s
  plain_by n d parts (Err f) s = tt

  -- ---- objects with an initializer

  started : (n : NameView) (d : DeclaredView) (equals : Place) (parts : PartsView) (s t : State) (m : InitializedView × Ty) → Stays (with_automatic n d s) t → ((alive : List ℕ) → SeesAt alive (with_automatic n d s) → ScopedMade alive m) → (b : Bool)
      → Declares s parts (cond b (Ok (locals.started n.at (count s) m.0 (with_object parts (count s)), with_local_type (count s) m.1 t)) (type_fault equals))
  started n d equals parts s t m g h false = tt
  started n d equals parts s t m g h true = record {
    new = count s ∷ [];
    made = start n.at (count s) m.0 ∷ [];
    follows = follows_stays s (with_automatic n d s) (with_local_type (count s) m.1 t) (count s ∷ []) (automatic_more n d s) (stays_twice (with_automatic n d s) t (with_local_type (count s) m.1 t) g (retyped_stays (count s) m.1 t));
    objects = refl;
    statements = refl;
    scoped = λ f same alive all sees apart. two (is_scoped_statement f alive (start n.at (count s) m.0)) true (start_scoped f alive n.at (count s) m.0 (all (count s) (in_itself (count s))) (h alive ((automatic_more n d s).sees alive all sees))) refl;
  }

  automatic_by : (n : NameView) (d : DeclaredView) (equals : Place) (parts : PartsView) (s : State) (r : Ruled ((InitializedView × Ty) × State)) → Yields (with_automatic n d s) ScopedMade r → Declares s parts (after r (locals.start_automatic n.at equals (count s) (with_object parts (count s))))
  automatic_by n d equals parts s (Ok p) h = started n d equals parts s p.1 p.0 h.0 h.1 (statics.has_size p.1.known p.0.1)
  automatic_by n d equals parts s (Err f) h = tt

  initialized_by : (n : NameView) (d : DeclaredView) (equals : Place) (i : InitializerTree) (parts : PartsView) (b : Ruled Bool) (s : State) → Declares s parts (locals.initialized_by n d equals i parts b s)
  initialized_by n d equals i parts (Ok true) s =
      behind s parts (locals.initialized_static n d equals i s) (locals.parts_kept parts)
      (onward Stays stays_twice s (with_static_object n d s) (locals.initialized_static n d equals i s) (static_more n d s) (static_leads (with_static_object n d s) (length s.objects) (length s.statics) equals d.ctype i))
      (λ u t. adds_nothing t t returned parts (stays_same t))
  initialized_by n d equals i parts (Ok false) s = automatic_by n d equals parts s (initializer_of (with_automatic n d s) equals d.ctype i) (initializer_yields (with_automatic n d s) equals d.ctype i)
  initialized_by n d equals i parts (Err f) s = tt

  -- ---- declarators

  object_type_leads : (s : State) (base : SpecifiedView) (n : NameView) (layers : List DeclaratorLayerView) (initial : Bool) → Leads Stays s (locals.object_type s base n layers initial)
  object_type_leads s base n layers initial =
      then Stays stays_twice s (declared_type s n.at base.declared layers) (locals.judged_object n initial) (declared_leads Stays specifiers_stay s n.at base.declared layers)
      (λ d t. cond_leads Stays t (may_be_local t.known d.ctype initial) (kept (with_name t n.text) (locals.if_free (number_in t.scopes.names n.text) n d (with_name t n.text))) (type_fault n.at) (kept_leads Stays t (with_name t n.text) (locals.if_free (number_in t.scopes.names n.text) n d (with_name t n.text)) (stays_same t)) tt)

  plain_named : (s : State) (base : SpecifiedView) (at : Place) (n : Option NameView) (layers : List DeclaratorLayerView) (parts : PartsView) → Declares s parts (locals.plain_named s base at n layers parts)
  plain_named s base at None layers parts = tt
  plain_named s base at (Some n) layers parts = behind s parts (locals.object_type s base n layers false) (locals.plain_in base.storage n parts) (object_type_leads s base n layers false) (λ d t. plain_by n d parts (is_static base.storage n.at) t)

  initialized_named : (s : State) (base : SpecifiedView) (at : Place) (n : Option NameView) (layers : List DeclaratorLayerView) (equals : Place) (i : InitializerTree) (parts : PartsView) → Declares s parts (locals.initialized_named s base at n layers equals i parts)
  initialized_named s base at None layers equals i parts = tt
  initialized_named s base at (Some n) layers equals i parts = behind s parts (locals.object_type s base n layers true) (locals.initialized_in base.storage n equals i parts) (object_type_leads s base n layers true) (λ d t. initialized_by n d equals i parts (is_static base.storage n.at) t)

  declarator : (s : State) (base : SpecifiedView) (at : Place) (d : InitDeclaratorView) (parts : PartsView) → Declares s parts (locals.declarator s base at d parts)
  declarator s base at (Object d) parts = plain_named s base at d.name d.layers parts
  declarator s base at (Initialized d equals i) parts = initialized_named s base at d.name d.layers equals i parts
  declarator s base at (Prototype f) parts = tt

  declarators : (ds : List InitDeclaratorView) (s : State) (base : SpecifiedView) (at : Place) (parts : PartsView) → Declares s parts (locals.declarators s base at ds parts)
  declarators [] s base at parts = adds_nothing s s returned parts (stays_same s)
  declarators (d ∷ ds) s base at parts = then_more s parts (locals.declarator s base at d parts) (λ q t. locals.declarators t base at ds q) (declarator s base at d parts) (λ q t. declarators ds t base at q)

  -- a declaration in a block or in a `for`
  pub local_declares : (s : State) (l : LocalView) (parts : PartsView) → Declares s parts (locals.local_declaration s l parts)
  local_declares s l parts =
      behind s parts (specifiers s l.at (locals.are_none l.declarators) (spec_trees l.words)) (locals.declared_by l parts) (specifiers_lead Stays specifiers_stay s l.at (locals.are_none l.declarators) (spec_trees l.words))
      (λ base t. cond_declares t parts (locals.is_empty l.declarators base) (type_fault l.at) (locals.declarators t base l.at l.declarators parts) tt (declarators l.declarators t base l.at parts))
