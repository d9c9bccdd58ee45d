-- Declarations in blocks, and so bodies, keep the types of what is declared fit.
use Rattle.std.proofs.Common.{ℕ, List, [], ◌∷◌, ◌++◌, Option, Some, None, Ok, Err, length, refl}
use Rattle.std.specs.Prelude.{Bool, true, false}
use Rattle.cc_base.specs.declared.diagnostics.Place.{Place}
use Rattle.c_layout.specs.Types.{Ty}
use Rattle.c_layout.specs.CheckedTrees.{StoreTree, StoreValue, StoreCopy, StoreText}
use Rattle.c_layout.specs.CheckedUnits.{LocalView, StaticView, StaticStoreView}
use Rattle.c_layout.specs.DeclarationTrees as syntax
use Rattle.c_layout.specs.DeclarationTrees.{NameView, DeclaratorLayerView, InitializerTree, InitDeclaratorView, Object, Initialized, Prototype, spec_trees}
use Rattle.c_types_scopes.specs.Answers.{after, kept}
use Rattle.c_types_scopes.specs.DeclaredTypes.{DeclaredView, ObjectView}
use Rattle.c_types_scopes.specs.Names.{number_in, found_here}
use Rattle.c_types_scopes.specs.Refusals.{Ruled, type_fault}
use Rattle.c_types_scopes.specs.States.{State, with_name, with_constant}
use Rattle.c_types_scopes.specs.declared.meanings.Meaning.{Meaning}
use Rattle.c_types_initializers.specs.Initialized.{InitializedView, ByTerm, ByLvalue, ByStores}
use Rattle.c_types_initializers.specs.StaticStores.{with_list, with_expressions, constant_stores}
use Rattle.c_types_declarations.specs.Declarators.{declared_type}
use Rattle.c_types_expressions.specs.BracedLists.Initializers.{initializer_of}
use Rattle.c_types_declarations.specs.Specifiers.{SpecifiedView}
use Rattle.c_types_declarations.specs.SpecifierTrees.{specifiers}
use Rattle.c_types_statement_rules.specs.Objects.Changes.{changed}
use Rattle.c_types_statement_rules.specs.Objects.LocalObjects.{PartsView, with_object, may_be_local, typed_local, typed_object, typed_static, with_automatic, static_declaration, with_static_object, with_local_type, with_static_type, is_static}
use Rattle.c_types_statement_rules.specs.StatementRules.Points.{Point}
use Rattle.c_types_statements.specs.LabelNumbers as labels
use Rattle.c_types_statements.specs.LocalDeclarations as locals
use Rattle.c_types_statements.specs.StaticInitializers as statics
use Rattle.c_types_statements.specs.StaticInitializers.{stored_static, with_stores}
use Rattle.c_types_statements.specs.Statements.{items}
use Rattle.c_types_theorems.proofs.entries.Initializing.{initializer_leads}
use Rattle.c_types_theorems.proofs.entries.Statements as statements
use Rattle.c_types_theorems.proofs.entries.Statements.{Comes, InBlock, LocalsLead}
use Rattle.c_types_well_formed.proofs.initializers.ReadySteps.{each_more, each_changed}
use Rattle.c_types_well_formed_units.specs.Sizes.FitTypes.{IsFit}
use Rattle.c_types_well_formed_units.proofs.sizes.FitTypes.{elements_grown, fit_grown, complete_fit, local_fit}
use Rattle.c_types_well_formed_units.proofs.sizes.Keeping as keeping
use Rattle.c_types_well_formed_units.proofs.sizes.Keeping.{Sized, Keeps, keeps_same, keeps_twice, steps_keep, To, any, Holds, here, onward, then, cond_to, stays, led, leads_of}
use Rattle.c_types_well_formed_units.proofs.sizes.Listed.{listed_more, listed_typed, listed_stored}
use Rattle.c_types_well_formed_units.proofs.sizes.Specifying.{HasParts, Parts, Said, specifiers_to, declared_to}
use Rattle.c_types_theorems.proofs.units.Kept.{later_same}

-- ---- objects more, and other types

module _ (s : State) (h : Sized s) where
  pub automatic_more : (n : NameView) (d : DeclaredView) → IsFit s.known d.ctype → Sized (with_automatic n d s)
  automatic_more n d fit =
      let new : LocalView = record { name = n.text; at = n.at; ctype = d.ctype } in
      keeping.with_local s.known s.types s.typedefs s.objects s.body.locals s.statics s.initializers h (s.body.locals ++ new ∷ []) (each_more (λ (l : LocalView). IsFit s.known l.ctype) s.body.locals new h.local fit)

  pub static_more : (n : NameView) (d : DeclaredView) → IsFit s.known d.ctype → Sized (with_static_object n d s)
  static_more n d fit =
      let new : StaticView = record { name = n.text; at = n.at; ctype = d.ctype; stores = [] } in
      let object : ObjectView = static_declaration (with_name s n.text) d in
      keeping.with_static s.known s.types s.typedefs (s.objects ++ object ∷ []) s.body.locals s.statics s.initializers
      (keeping.with_declared s.known s.types s.typedefs s.objects s.body.locals s.statics s.initializers h (s.objects ++ object ∷ []) (each_more (λ (o : ObjectView). IsFit s.known o.declared.ctype) s.objects object h.declared fit))
      (s.statics ++ new ∷ []) s.initializers (each_more (λ (o : StaticView). IsFit s.known o.ctype) s.statics new h.static fit) (listed_more s.initializers s.statics new refl h.listed)

  local_typed : (number : ℕ) (t : Ty) → IsFit s.known t → Sized (with_local_type number t s)
  local_typed number t fit =
      keeping.with_local s.known s.types s.typedefs s.objects s.body.locals s.statics s.initializers h (changed (typed_local t) number s.body.locals) (each_changed (λ (l : LocalView). IsFit s.known l.ctype) (typed_local t) number s.body.locals (λ l old. fit) h.local)

  pub static_typed : (index number : ℕ) (t : Ty) → IsFit s.known t → Sized (with_static_type index number t s)
  static_typed index number t fit =
      keeping.with_static s.known s.types s.typedefs (changed (typed_object t) index s.objects) s.body.locals s.statics s.initializers
      (keeping.with_declared s.known s.types s.typedefs s.objects s.body.locals s.statics s.initializers h (changed (typed_object t) index s.objects) (each_changed (λ (o : ObjectView). IsFit s.known o.declared.ctype) (typed_object t) index s.objects (λ o old. fit) h.declared))
      (changed (typed_static t) number s.statics) s.initializers (each_changed (λ (o : StaticView). IsFit s.known o.ctype) (typed_static t) number s.statics (λ o old. fit) h.static) (listed_typed s.initializers s.statics t number h.listed)

  stored : (equals : Place) (number : ℕ) (stores : List StaticStoreView) → Sized (with_stores equals number stores s)
  stored equals number stores =
      keeping.with_static s.known s.types s.typedefs s.objects s.body.locals s.statics s.initializers h (changed (stored_static stores) number s.statics) (s.initializers ++ record { object = number; equals = equals } ∷ [])
      (each_changed (λ (o : StaticView). IsFit s.known o.ctype) (stored_static stores) number s.statics (λ o old. old) h.static) (listed_stored s.initializers s.statics equals number stores h.listed)

-- ---- initializers of objects of static storage

list_keeps : (stores : List StoreTree) (s : State) → Keeps s (with_list s stores)
unfolding with_list
list_keeps [] s = keeps_same s
list_keeps (StoreValue offset e ∷ stores) s = keeps_twice s (with_constant s e) (with_list (with_constant s e) stores) (keeps_same s) (list_keeps stores (with_constant s e))
list_keeps (StoreCopy offset l ∷ stores) s = list_keeps stores s
list_keeps (StoreText offset room text ∷ stores) s = list_keeps stores s

expressions_keep : (s : State) (v : InitializedView) → Keeps s (with_expressions s v)
expressions_keep s (ByTerm e) = keeps_same s
expressions_keep s (ByLvalue l) = keeps_same s
expressions_keep s (ByStores stores) = list_keeps stores s

stored_to : (equals : Place) (index number : ℕ) (v : InitializedView) (t : Ty) (s : State) (r : Ruled (List StaticStoreView)) → Sized s → IsFit s.known t → To s any (after (kept (with_expressions s v) r) (statics.with_initial equals index number t))
stored_to equals index number v t s (Ok stores) h fit =
    let w : State = with_expressions s v in
    let e = expressions_keep s v h in
    let typed : State = with_static_type index number t w in
    ((stored typed (static_typed w e.0 index number t (fit_grown s.known w.known t e.1.extends fit)) equals number stores, e.1), tt)
stored_to equals index number v t s (Err f) h fit = tt

pub static_to : (s : State) (index number : ℕ) (equals : Place) (t : Ty) (i : InitializerTree) → Sized s → To s any (statics.static_initializer s index number equals t i)
static_to s index number equals t i h =
    then s any any (initializer_of s equals t i) (statics.judged_static index number equals) (led s (initializer_of s equals t i) h (initializer_leads Keeps steps_keep s equals t i))
    (λ m u g later x. cond_to u any (statics.has_size u.known m.1) (statics.store_static equals index number m.0 m.1 u) (type_fault equals)
    (λ sized. stored_to equals index number m.0 m.1 u (constant_stores u.known equals m.0) g (complete_fit u.known m.1 sized)) tt)

-- ---- objects of blocks

abbrev pub Fits : DeclaredView → State → Type 0
Fits d t = IsFit t.known d.ctype

free_to : (t : State) (n : NameView) (d : DeclaredView) (o : Option Meaning) → Fits d t → Holds (λ (x : DeclaredView). Fits x t) (locals.free_of n d o)
free_to t n d None fit = fit
free_to t n d (Some m) fit = tt

object_type_to : (s : State) (base : SpecifiedView) (n : NameView) (layers : List DeclaratorLayerView) (has : Bool) → Sized s → HasParts s.known base.declared → To s Fits (locals.object_type s base n layers has)
object_type_to s base n layers has h had =
    then s Parts Fits (declared_type s n.at base.declared layers) (locals.judged_object n has) (declared_to s n.at base.declared layers h had)
    (λ d t g later parts. cond_to t Fits (may_be_local t.known d.ctype has) (kept (with_name t n.text) (locals.if_free (number_in t.scopes.names n.text) n d (with_name t n.text))) (type_fault n.at)
    (λ may. onward t (with_name t n.text) Fits (kept (with_name t n.text) (locals.if_free (number_in t.scopes.names n.text) n d (with_name t n.text))) (g, later_same t.known t.types)
    (stays (with_name t n.text) Fits (locals.if_free (number_in t.scopes.names n.text) n d (with_name t n.text)) g
    (free_to (with_name t n.text) n d (found_here t.scopes (number_in t.scopes.names n.text)) (local_fit t.known d.ctype has parts may))))
    tt)

plain_to : (n : NameView) (d : DeclaredView) (p : PartsView) (b : Ruled Bool) (s : State) → Sized s → Fits d s → To s any (locals.plain_by n d p b s)
plain_to n d p (Ok true) s h fit = ((static_more s h n d fit, later_same s.known s.types), tt)
plain_to n d p (Ok false) s h fit = ((automatic_more s h n d fit, later_same s.known s.types), tt)
plain_to n d p (Err f) s h fit = tt

initialized_to : (n : NameView) (d : DeclaredView) (equals : Place) (i : InitializerTree) (p : PartsView) (b : Ruled Bool) (s : State) → Sized s → Fits d s → To s any (locals.initialized_by n d equals i p b s)
initialized_to n d equals i p (Ok true) s h fit =
    let t : State = with_static_object n d s in
    let g = static_more s h n d fit in
    then s any any (locals.initialized_static n d equals i s) (locals.parts_kept p)
    (onward s t any (locals.initialized_static n d equals i s) (g, later_same s.known s.types) (static_to t (length s.objects) (length s.statics) equals d.ctype i g))
    (λ u v k later x. here v any p k tt)
initialized_to n d equals i p (Ok false) s h fit =
    let t : State = with_automatic n d s in
    let g = automatic_more s h n d fit in
    let number : ℕ = length s.body.locals in
    onward s t any (locals.initialized_automatic n d equals i p s) (g, later_same s.known s.types)
    (then t any any (initializer_of t equals d.ctype i) (locals.start_automatic n.at equals number (with_object p number)) (led t (initializer_of t equals d.ctype i) g (initializer_leads Keeps steps_keep t equals d.ctype i))
    (λ m u k later x. cond_to u any (statics.has_size u.known m.1) (Ok (locals.started n.at number m.0 (with_object p number), with_local_type number m.1 u)) (type_fault equals)
    (λ sized. ((local_typed u k number m.1 (complete_fit u.known m.1 sized), later_same u.known u.types), tt)) tt))
initialized_to n d equals i p (Err f) s h fit = tt

plain_named_to : (s : State) (base : SpecifiedView) (at : Place) (n : Option NameView) (layers : List DeclaratorLayerView) (p : PartsView) → Sized s → HasParts s.known base.declared → To s any (locals.plain_named s base at n layers p)
plain_named_to s base at None layers p h had = tt
plain_named_to s base at (Some n) layers p h had =
    then s Fits any (locals.object_type s base n layers false) (locals.plain_in base.storage n p) (object_type_to s base n layers false h had) (λ d t g later fit. plain_to n d p (is_static base.storage n.at) t g fit)

initialized_named_to : (s : State) (base : SpecifiedView) (at : Place) (n : Option NameView) (layers : List DeclaratorLayerView) (equals : Place) (i : InitializerTree) (p : PartsView) → Sized s → HasParts s.known base.declared → To s any (locals.initialized_named s base at n layers equals i p)
initialized_named_to s base at None layers equals i p h had = tt
initialized_named_to s base at (Some n) layers equals i p h had =
    then s Fits any (locals.object_type s base n layers true) (locals.initialized_in base.storage n equals i p) (object_type_to s base n layers true h had) (λ d t g later fit. initialized_to n d equals i p (is_static base.storage n.at) t g fit)

declarator_to : (s : State) (base : SpecifiedView) (at : Place) (d : InitDeclaratorView) (p : PartsView) → Sized s → HasParts s.known base.declared → To s any (locals.declarator s base at d p)
declarator_to s base at (Object d) p h had = plain_named_to s base at d.name d.layers p h had
declarator_to s base at (Initialized d equals i) p h had = initialized_named_to s base at d.name d.layers equals i p h had
declarator_to s base at (Prototype f) p h had = tt

declarators_to : (ds : List InitDeclaratorView) (s : State) (base : SpecifiedView) (at : Place) (p : PartsView) → Sized s → HasParts s.known base.declared → To s any (locals.declarators s base at ds p)
declarators_to [] s base at p h had = here s any p h tt
declarators_to (d ∷ ds) s base at p h had =
    then s any any (locals.declarator s base at d p) (λ q t. locals.declarators t base at ds q) (declarator_to s base at d p h had)
    (λ q t g later x. declarators_to ds t base at q g (elements_grown s.known t.known base.declared.ctype later.extends had))

local_to : (s : State) (l : syntax.LocalView) (p : PartsView) → Sized s → To s any (locals.local_declaration s l p)
local_to s l p h =
    then s Said any (specifiers s l.at (locals.are_none l.declarators) (spec_trees l.words)) (locals.declared_by l p) (specifiers_to s l.at (locals.are_none l.declarators) (spec_trees l.words) h)
    (λ base t g later had. cond_to t any (locals.is_empty l.declarators base) (type_fault l.at) (locals.declarators t base l.at l.declarators p) (λ empty. tt) (declarators_to l.declarators t base l.at p g had))

-- ---- bodies

in_block : InBlock Keeps
in_block s t g h = g h

locals_lead : LocalsLead Keeps
locals_lead s l p = leads_of s any (locals.local_declaration s l p) (local_to s l p)

pub items_come : (p : Point) (parts : PartsView) (ts : syntax.StatementTrees) → Comes Keeps p.state (items locals.local_declaration p parts ts)
items_come p parts ts = statements.items_come Keeps steps_keep in_block locals_lead p parts ts

pub labels_keep : (ts : syntax.StatementTrees) (p : Point) → Keeps p.state (labels.with_all_labels ts p).state
labels_keep ts p = statements.all_labels_lead Keeps steps_keep in_block locals_lead ts p
