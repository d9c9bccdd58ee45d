-- What typing the statements of a body leads to, by what its steps do: scopes are opened and closed again, and an
-- initializer changes the type of its own object alone.
use Rattle.std.proofs.Common.{◌≡◌, ℕ, List, [], ◌∷◌, ◌++◌, Option, Some, None, Ok, Err, length, slice_get, refl}
use Rattle.std.specs.Prelude.{Bool, true, false, cond}
use Rattle.cc_base.specs.declared.diagnostics.Place.{Place}
use Rattle.c_layout.specs.Types.{Ty}
use Rattle.c_layout.specs.CheckedTrees.{StoreTree, StoreValue, StoreCopy, StoreText}
use Rattle.c_layout.specs.CheckedUnits.{StaticStoreView}
use Rattle.c_layout.specs.DeclarationTrees as syntax
use Rattle.c_layout.specs.DeclarationTrees.{NameView, DeclaratorLayerView, InitializerTree, InitDeclaratorView, Object, Initialized, Prototype, LocalView, spec_trees}
use Rattle.c_types_scopes.specs.Refusals.{Ruled, type_fault}
use Rattle.c_types_scopes.specs.Answers.{after, kept}
use Rattle.c_types_scopes.specs.DeclaredTypes.{DeclaredView, ObjectView}
use Rattle.c_types_scopes.specs.Names as names
use Rattle.c_types_scopes.specs.Names.{number_in}
use Rattle.c_types_scopes.specs.States.{State, with_name, with_constant}
use Rattle.c_types_initializers.specs.Initialized.{InitializedView, ByTerm, ByLvalue, ByStores}
use Rattle.c_types_initializers.specs.StaticStores.{with_list, with_expressions, constant_stores}
use Rattle.c_types_declarations.specs.Declarators.{declared_type}
use Rattle.c_types_declarations.specs.Specifiers.{SpecifiedView}
use Rattle.c_types_declarations.specs.SpecifierTrees.{specifiers}
use Rattle.c_types_expressions.specs.BracedLists.Initializers.{initializer_of}
use Rattle.c_types_statement_rules.specs.Objects.FileObjects.{number_or}
use Rattle.c_types_statement_rules.specs.Objects.LocalObjects.{PartsView, with_object, may_be_local, with_automatic, static_declaration, with_static_object, with_local_type, with_static_type, is_static}
use Rattle.c_types_statement_rules.specs.StatementRules.Points.{Point}
use Rattle.c_types_statement_rules.specs.StatementRules.SimpleStatements as simple
use Rattle.c_types_statement_rules.specs.StatementRules.CompoundStatements as compound
use Rattle.c_types_statement_rules.specs.StatementRules.StatementNodes as nodes
use Rattle.c_types_statements.specs.LabelNumbers as labels
use Rattle.c_types_statements.specs.LocalDeclarations as locals
use Rattle.c_types_statements.specs.StaticInitializers as statics
use Rattle.c_types_statements.specs.Statements as spec
use Rattle.c_types_theorems.proofs.entries.Leading.{Leads, kept_leads, cond_leads, onward, then}
use Rattle.c_types_theorems.proofs.entries.Specifying.{HasSpecifiers, declared_leads, specifiers_lead}
use Rattle.c_types_theorems.proofs.entries.Initializing.{initializer_leads}
use Rattle.c_types_theorems.proofs.entries.Statements as statements

-- an object that was declared, with its number among those of the run, or that of none
abbrev pub IsNumbered : State → ℕ → ℕ → Type 0
IsNumbered s index number = (x : ObjectView) × (slice_get s.objects index ≡ Some x) × (number_or x.number ≡ number)

-- a relation in which the steps of bodies stand too
pub record HasBlocks (R : State → State → Type 0) : Type 0 where
  pub specifies : HasSpecifiers R
  pub in_block : (s t : State) → R (record s { scopes = names.opened s.scopes }) t → R s (record t { scopes = names.closed t.scopes })
  pub automatic : (n : NameView) (d : DeclaredView) (s : State) → R s (with_automatic n d s)
  pub started : (n : NameView) (d : DeclaredView) (s t : State) (made : Ty) → R (with_automatic n d s) t → R s (with_local_type (length s.body.locals) made t)
  pub static : (n : NameView) (d : DeclaredView) (s : State) → R s (with_static_object n d s)
  pub initial : (s u : State) (equals : Place) (index number : ℕ) (t made : Ty) (i : InitializerTree) (v : InitializedView) (stores : List StaticStoreView) → IsNumbered s index number → initializer_of s equals t i ≡ Ok ((v, made), u) → R s u
      → statics.has_size u.known made ≡ true → constant_stores u.known equals v ≡ Ok stores → R u (with_expressions u v) → R s (statics.with_stores equals number stores (with_static_type index number made (with_expressions u v)))

-- the point behind a statement that is not refused
abbrev pub Comes : {V : Type 0} → (State → State → Type 0) → State → Ruled (V × Point) → Type 0
Comes R s r = statements.Comes R s r

newest_is : {A : Type 0} (xs : List A) (y : A) → slice_get (xs ++ y ∷ []) (length xs) ≡ Some y
newest_is [] y = refl
newest_is (z ∷ xs) y = newest_is xs y

module _ (R : State → State → Type 0) (has : HasBlocks R) where
  step : {U V : Type 0} (s : State) (r : Ruled (U × State)) (next : U → State → Ruled (V × State)) → Leads R s r → ((u : U) (t : State) → Leads R t (next u t)) → Leads R s (after r next)
  step s r next = then R has.specifies.steps.trans s r next

  go : {V : Type 0} (s t : State) (r : Ruled (V × State)) → R s t → Leads R t r → Leads R s r
  go s t r = onward R has.specifies.steps.trans s t r

  stays : {V : Type 0} (s : State) (rule : Ruled V) → Leads R s (kept s rule)
  stays s rule = kept_leads R s s rule (has.specifies.steps.same s)

  -- ---- initializers of objects of static storage

  list_kept : (stores : List StoreTree) (s : State) → R s (with_list s stores)
  unfolding with_list
  list_kept [] s = has.specifies.steps.same s
  list_kept (StoreValue offset e ∷ stores) s = has.specifies.steps.trans s (with_constant s e) (with_list (with_constant s e) stores) (has.specifies.steps.constant s e) (list_kept stores (with_constant s e))
  list_kept (StoreCopy offset l ∷ stores) s = list_kept stores s
  list_kept (StoreText offset room text ∷ stores) s = list_kept stores s

  expressions_kept : (s : State) (made : InitializedView) → R s (with_expressions s made)
  expressions_kept s (ByTerm e) = has.specifies.steps.constant s e
  expressions_kept s (ByLvalue l) = has.specifies.steps.same s
  expressions_kept s (ByStores stores) = list_kept stores s

  pub static_leads : (s : State) (index number : ℕ) (equals : Place) (t : Ty) (i : InitializerTree) → IsNumbered s index number → Leads R s (statics.static_initializer s index number equals t i)
  static_leads s index number equals t i numbered = of_made (initializer_of s equals t i) refl (initializer_leads R has.specifies.steps s equals t i)
    where
      of_stores : (v : InitializedView) (made : Ty) (u : State) → initializer_of s equals t i ≡ Ok ((v, made), u) → R s u → statics.has_size u.known made ≡ true → (r : Ruled (List StaticStoreView)) → constant_stores u.known equals v ≡ r → Leads R s (after (kept (with_expressions u v) r) (statics.with_initial equals index number made))
      of_stores v made u is g sized (Ok stores) constant = has.initial s u equals index number t made i v stores numbered is g sized constant (expressions_kept u v)
      of_stores v made u is g sized (Err f) constant = tt

      of_size : (v : InitializedView) (made : Ty) (u : State) → initializer_of s equals t i ≡ Ok ((v, made), u) → R s u → (b : Bool) → statics.has_size u.known made ≡ b → Leads R s (cond b (statics.store_static equals index number v made u) (type_fault equals))
      of_size v made u is g true sized = of_stores v made u is g sized (constant_stores u.known equals v) refl
      of_size v made u is g false sized = tt

      of_made : (r : Ruled ((InitializedView × Ty) × State)) → initializer_of s equals t i ≡ r → Leads R s r → Leads R s (after r (statics.judged_static index number equals))
      of_made (Ok p) is g = of_size p.0.0 p.0.1 p.1 is g (statics.has_size p.1.known p.0.1) refl
      of_made (Err f) is g = tt

  -- ---- objects of blocks

  -- the newest object has the number that it is given
  newest_numbered : (n : NameView) (d : DeclaredView) (s : State) → IsNumbered (with_static_object n d s) (length s.objects) (length s.statics)
  newest_numbered n d s = (static_declaration (with_name s n.text) d, newest_is s.objects (static_declaration (with_name s n.text) d), refl)

  object_type_leads : (s : State) (base : SpecifiedView) (n : NameView) (layers : List DeclaratorLayerView) (initial : Bool) → Leads R s (locals.object_type s base n layers initial)
  object_type_leads s base n layers initial =
      step s (declared_type s n.at base.declared layers) (locals.judged_object n initial) (declared_leads R has.specifies s n.at base.declared layers)
      (λ d t. cond_leads R t (may_be_local t.known d.ctype initial) (kept (with_name t n.text) (locals.if_free (number_in t.scopes.names n.text) n d (with_name t n.text))) _ (kept_leads R t (with_name t n.text) (locals.if_free (number_in t.scopes.names n.text) n d (with_name t n.text)) (has.specifies.steps.named t n.text)) tt)

  plain_leads : (n : NameView) (d : DeclaredView) (p : PartsView) (b : Ruled Bool) (s : State) → Leads R s (locals.plain_by n d p b s)
  plain_leads n d p (Ok true) s = has.static n d s
  plain_leads n d p (Ok false) s = has.automatic n d s
  plain_leads n d p (Err f) s = tt

  started_leads : (n : NameView) (d : DeclaredView) (equals : Place) (s t : State) (p : PartsView) (m : InitializedView × Ty) → R (with_automatic n d s) t → Leads R s (locals.start_automatic n.at equals (length s.body.locals) p m t)
  started_leads n d equals s t p m g = cond_leads R s (statics.has_size t.known m.1) _ _ (has.started n d s t m.1 g) tt

  automatic_leads : (n : NameView) (d : DeclaredView) (equals : Place) (s : State) (p : PartsView) (r : Ruled ((InitializedView × Ty) × State)) → Leads R (with_automatic n d s) r → Leads R s (after r (locals.start_automatic n.at equals (length s.body.locals) p))
  automatic_leads n d equals s p (Ok m) g = started_leads n d equals s m.1 p m.0 g
  automatic_leads n d equals s p (Err f) g = tt

  initialized_leads : (n : NameView) (d : DeclaredView) (equals : Place) (i : InitializerTree) (p : PartsView) (b : Ruled Bool) (s : State) → Leads R s (locals.initialized_by n d equals i p b s)
  initialized_leads n d equals i p (Ok true) s =
      step s (locals.initialized_static n d equals i s) (locals.parts_kept p)
      (go s (with_static_object n d s) (locals.initialized_static n d equals i s) (has.static n d s) (static_leads (with_static_object n d s) (length s.objects) (length s.statics) equals d.ctype i (newest_numbered n d s)))
      (λ u t. has.specifies.steps.same t)
  initialized_leads n d equals i p (Ok false) s = automatic_leads n d equals s (with_object p (length s.body.locals)) (initializer_of (with_automatic n d s) equals d.ctype i) (initializer_leads R has.specifies.steps (with_automatic n d s) equals d.ctype i)
  initialized_leads n d equals i p (Err f) s = tt

  plain_named_leads : (s : State) (base : SpecifiedView) (at : Place) (n : Option NameView) (layers : List DeclaratorLayerView) (p : PartsView) → Leads R s (locals.plain_named s base at n layers p)
  plain_named_leads s base at None layers p = tt
  plain_named_leads s base at (Some n) layers p = step s (locals.object_type s base n layers false) (locals.plain_in base.storage n p) (object_type_leads s base n layers false) (λ d t. plain_leads n d p (is_static base.storage n.at) t)

  initialized_named_leads : (s : State) (base : SpecifiedView) (at : Place) (n : Option NameView) (layers : List DeclaratorLayerView) (equals : Place) (i : InitializerTree) (p : PartsView) → Leads R s (locals.initialized_named s base at n layers equals i p)
  initialized_named_leads s base at None layers equals i p = tt
  initialized_named_leads s base at (Some n) layers equals i p = step s (locals.object_type s base n layers true) (locals.initialized_in base.storage n equals i p) (object_type_leads s base n layers true) (λ d t. initialized_leads n d equals i p (is_static base.storage n.at) t)

  declarator_leads : (s : State) (base : SpecifiedView) (at : Place) (d : InitDeclaratorView) (p : PartsView) → Leads R s (locals.declarator s base at d p)
  declarator_leads s base at (Object d) p = plain_named_leads s base at d.name d.layers p
  declarator_leads s base at (Initialized d equals i) p = initialized_named_leads s base at d.name d.layers equals i p
  declarator_leads s base at (Prototype f) p = tt

  declarators_lead : (ds : List InitDeclaratorView) (s : State) (base : SpecifiedView) (at : Place) (p : PartsView) → Leads R s (locals.declarators s base at ds p)
  declarators_lead [] s base at p = has.specifies.steps.same s
  declarators_lead (d ∷ ds) s base at p = step s (locals.declarator s base at d p) _ (declarator_leads s base at d p) (λ q t. declarators_lead ds t base at q)

  local_leads : (s : State) (l : LocalView) (p : PartsView) → Leads R s (locals.local_declaration s l p)
  local_leads s l p =
      step s (specifiers s l.at (locals.are_none l.declarators) (spec_trees l.words)) (locals.declared_by l p) (specifiers_lead R has.specifies s l.at (locals.are_none l.declarators) (spec_trees l.words))
      (λ base t. cond_leads R t (locals.is_empty l.declarators base) _ (locals.declarators t base l.at l.declarators p) tt (declarators_lead l.declarators t base l.at p))

  -- ---- statements

  pub statement_comes : (p : Point) (t : syntax.StatementTree) → Comes R p.state (spec.statement locals.local_declaration p t)
  statement_comes p t = statements.statement_comes R has.specifies.steps has.in_block local_leads p t

  pub items_come : (p : Point) (parts : PartsView) (ts : syntax.StatementTrees) → Comes R p.state (spec.items locals.local_declaration p parts ts)
  items_come p parts ts = statements.items_come R has.specifies.steps has.in_block local_leads p parts ts

  pub all_labels_lead : (ts : syntax.StatementTrees) (p : Point) → R p.state (labels.with_all_labels ts p).state
  all_labels_lead ts p = statements.all_labels_lead R has.specifies.steps has.in_block local_leads ts p
