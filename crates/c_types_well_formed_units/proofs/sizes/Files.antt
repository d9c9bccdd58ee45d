-- Declarations at file scope keep the types of what is declared fit.
use Rattle.std.proofs.Common.{◌≡◌, ℕ, List, [], ◌∷◌, ◌++◌, Option, Some, None, Ok, Err, length, slice_get, refl}
use Rattle.std.specs.Prelude.{Bool, true, false, cond}
use Rattle.cc_base.specs.declared.diagnostics.Place.{Place}
use Rattle.c_layout.specs.Types.{Ty}
use Rattle.c_layout.specs.CheckedUnits.{StaticView}
use Rattle.c_layout.specs.DeclarationTrees.{NameView, DeclaratorLayerView, InitializerTree, InitDeclaratorView, Object, Initialized, Prototype, FunctionDeclaratorView, SpecTree, spec_trees}
use Rattle.c_types_scopes.specs.Answers.{after}
use Rattle.c_types_scopes.specs.DeclaredTypes.{DeclaredView, ObjectView}
use Rattle.c_types_scopes.specs.Definitions.{has_object}
use Rattle.c_types_scopes.specs.Names.{number_in, found_here}
use Rattle.c_types_scopes.specs.Refusals.{Ruled, type_fault, redeclared}
use Rattle.c_types_scopes.specs.States.{State, with_name, with_static}
use Rattle.c_types_scopes.specs.declared.meanings.Meaning.{Meaning}
use Rattle.c_types_scopes.specs.declared.meanings.Meaning.TheVariants as meaning
use Rattle.c_types_initializers.specs.Initialized.{InitializedView}
use Rattle.c_types_declarations.specs.Declarators.{declared_type}
use Rattle.c_types_declarations.specs.FunctionHeads as heads
use Rattle.c_types_declarations.specs.FunctionHeads.{HeadView}
use Rattle.c_types_expressions.specs.BracedLists.Initializers.{initializer_of}
use Rattle.c_types_declarations.specs.SpecifierTrees.{specifiers}
use Rattle.c_types_declarations.specs.Specifiers.{SpecifiedView, is_library_name}
use Rattle.c_types_statement_rules.specs.Objects.Changes.{changed}
use Rattle.c_types_statement_rules.specs.Objects.FileObjects as objects
use Rattle.c_types_statement_rules.specs.Objects.FileObjects.{number_or, composite}
use Rattle.c_types_statements.specs.LocalDeclarations.{are_none, is_empty}
use Rattle.c_types.specs.FileScope.ExternalDeclarations as external
use Rattle.c_types.specs.FileScope.FunctionDeclarations as functions
use Rattle.c_types.specs.declared.file_scope.function_declarations.NameBefore.{NameBefore}
use Rattle.c_types.specs.declared.file_scope.function_declarations.NameBefore.TheVariants as standing
use Rattle.c_types_theorems.proofs.entries.Leading.{Leads, cond_leads}
use Rattle.c_types_theorems.proofs.units.Kept.{later_same}
use Rattle.c_types_well_formed.proofs.initializers.ReadySteps.{each_more, each_changed}
use Rattle.c_types_well_formed_units.specs.Sizes.FitTypes.{HasElements, IsFit}
use Rattle.c_types_well_formed_units.proofs.sizes.FitTypes.{elements_grown, object_fit, composite_fit}
use Rattle.c_types_well_formed_units.proofs.sizes.Keeping as keeping
use Rattle.c_types_well_formed_units.proofs.sizes.Keeping.{Sized, Keeps, keeps_same, To, any, here, onward, then, cond_to, led}
use Rattle.c_types_well_formed_units.proofs.sizes.Listed.{listed_more}
use Rattle.c_types_well_formed_units.proofs.sizes.Specifying.{HasParts, Parts, Said, specifiers_to, declared_to}
use Rattle.c_types_well_formed_units.proofs.sizes.Locals.{Fits, static_typed, static_to}
use Rattle.c_types_well_formed_units.proofs.sizes.Heads.{HasFit, head_to}

-- ---- first and further declarations of objects

module _ (s : State) (h : Sized s) where
  run_more : (n : NameView) (t : Ty) → IsFit s.known t → Sized (with_static s n.text n.at t)
  run_more n t fit =
      let new : StaticView = record { name = n.text; at = n.at; ctype = t; stores = [] } in
      keeping.with_static s.known s.types s.typedefs s.objects s.body.locals s.statics s.initializers h (s.statics ++ new ∷ []) s.initializers (each_more (λ (o : StaticView). IsFit s.known o.ctype) s.statics new h.static fit) (listed_more s.initializers s.statics new refl h.listed)

  declared_more : (name : ℕ) (o : ObjectView) → IsFit s.known o.declared.ctype → Sized (objects.with_declaration name o s)
  declared_more name o fit = keeping.with_declared s.known s.types s.typedefs s.objects s.body.locals s.statics s.initializers h (s.objects ++ o ∷ []) (each_more (λ (x : ObjectView). IsFit s.known x.declared.ctype) s.objects o h.declared fit)

  -- an object that is changed but for its type
  alike : (f : ObjectView → ObjectView) (index : ℕ) → ((o : ObjectView) → IsFit s.known o.declared.ctype → IsFit s.known (f o).declared.ctype) → Sized (record s { objects = changed f index s.objects })
  alike f index same = keeping.with_declared s.known s.types s.typedefs s.objects s.body.locals s.statics s.initializers h (changed f index s.objects) (each_changed (λ (x : ObjectView). IsFit s.known x.declared.ctype) f index s.objects same h.declared)

  typedef_more : (name : ℕ) (d : DeclaredView) → HasParts s.known d → Sized (external.with_typedef name d s)
  typedef_more name d had = keeping.with_named s.known s.types s.typedefs s.objects s.body.locals s.statics s.initializers h (s.typedefs ++ d ∷ []) (each_more (λ (x : DeclaredView). HasElements s.known x.ctype) s.typedefs d h.named had)

first_to : (name : ℕ) (n : NameView) (d : DeclaredView) (s : State) (index : ℕ) (b : Bool) → Sized s → Fits d s
    → To s any (Ok (index, objects.with_declaration name (objects.first_object (cond b (Some (length s.statics)) None) d) (cond b (with_static s n.text n.at d.ctype) s)))
first_to name n d s index true h fit = ((declared_more (with_static s n.text n.at d.ctype) (run_more s h n d.ctype fit) name (objects.first_object (Some (length s.statics)) d) fit, later_same s.known s.types), tt)
first_to name n d s index false h fit = ((declared_more s h name (objects.first_object None d) fit, later_same s.known s.types), tt)

next_to : (index : ℕ) (at : Place) (d : DeclaredView) (s : State) (o : Option ObjectView) → slice_get s.objects index ≡ o → Sized s → Fits d s → To s any (objects.next_of index at d s o)
next_to index at d s None there h fit = tt
next_to index at d s (Some o) there h fit = by_type (composite o.declared.ctype d.ctype) refl
  where
    by_type : (t : Option Ty) → composite o.declared.ctype d.ctype ≡ t → To s any (objects.next_with index at d o.number s t)
    by_type None is = tt
    by_type (Some t) is =
        let v : State = objects.with_enumeration index d.enumeration s in
        ((static_typed v (alike s h (objects.with_object_enumeration d.enumeration) index (λ x old. old)) index (number_or o.number) t (composite_fit s.known o.declared.ctype d.ctype t (h.declared index o there) fit is), later_same s.known s.types), tt)

indexed_to : (index : ℕ) (s : State) (r : Ruled (Unit {0} × State)) → To s any r → To s any (external.indexed index r)
indexed_to index s (Ok p) h = (h.0, tt)
indexed_to index s (Err f) h = tt

object_to : (name : ℕ) (n : NameView) (d : DeclaredView) (s : State) (m : Option Meaning) → Sized s → Fits d s → To s any (external.object_as name n d s m)
object_to name n d s None h fit = first_to name n d s (length s.objects) (has_object s.definitions name) h fit
object_to name n d s (Some (meaning.Static index)) h fit = indexed_to index s (objects.next_declaration index n.at d s) (next_to index n.at d s (slice_get s.objects index) refl h fit)
object_to name n d s (Some (meaning.Local number)) h fit = tt
object_to name n d s (Some (meaning.Function number)) h fit = tt
object_to name n d s (Some (meaning.Typedef number)) h fit = tt
object_to name n d s (Some (meaning.Enumerator value)) h fit = tt

named_to : (n : NameView) (d : DeclaredView) (s : State) → Sized s → Fits d s → To s any (external.object_named n d s)
named_to n d s h fit =
    let t : State = with_name s n.text in
    cond_to s any (is_library_name n.text) (redeclared n.at) (external.object_by (number_in s.scopes.names n.text) n d t) (λ is. tt)
    (onward s t any (external.object_by (number_in s.scopes.names n.text) n d t) (h, later_same s.known s.types) (object_to (number_in s.scopes.names n.text) n d t (found_here s.scopes (number_in s.scopes.names n.text)) h fit))

declared_object_to : (s : State) (base : SpecifiedView) (n : NameView) (layers : List DeclaratorLayerView) (has : Bool) → Sized s → HasParts s.known base.declared → To s any (external.declared_object s base n layers has)
declared_object_to s base n layers has h had =
    then s Parts any (declared_type s n.at base.declared layers) (external.object_in n base.storage has) (declared_to s n.at base.declared layers h had)
    (λ d t g later parts. cond_to t any (objects.may_be_object t.known d.ctype base.storage has) (external.object_named n d t) (type_fault n.at) (λ may. named_to n d t g (object_fit t.known d.ctype base.storage has parts may)) tt)

initializer_to : (at equals : Place) (i : InitializerTree) (index : ℕ) (s : State) (o : Option ObjectView) → Sized s → To s any (external.initializer_by equals i index s (objects.object_of at o))
initializer_to at equals i index s None h = tt
initializer_to at equals i index s (Some o) h = static_to s index (number_or o.number) equals o.declared.ctype i h

object_initializer_to : (at equals : Place) (i : InitializerTree) (index : ℕ) (s : State) → Sized s → To s any (external.object_initializer at equals i index s)
object_initializer_to at equals i index s h =
    let t : State = objects.with_initialized index s in
    let g = alike s h objects.initialized_object index (λ x old. old) in
    cond_to s any (objects.is_initialized s index) (redeclared at) (external.initializer_at at equals i index t) (λ is. tt)
    (onward s t any (external.initializer_at at equals i index t) (g, later_same s.known s.types) (initializer_to at equals i index t (slice_get t.objects index) g))

-- ---- typedef names

typedef_to : (s : State) (base : SpecifiedView) (at : Place) (d : InitDeclaratorView) → Sized s → HasParts s.known base.declared → To s any (external.typedef_declarator s base at d)
typedef_to s base at (Object d) h had = by_name d.name
  where
    by_name : (n : Option NameView) → To s any (external.typedef_named s base at n d.layers)
    by_name None = tt
    by_name (Some n) =
        then s Parts any (declared_type s n.at base.declared d.layers) (external.typedef_in n) (declared_to s n.at base.declared d.layers h had)
        (λ x t g later parts.
        let name : ℕ = number_in t.scopes.names n.text in
        let u : State = with_name t n.text in
        onward t u any (external.typedef_by name n x u) (g, later_same t.known t.types)
        (cond_to u any (external.is_taken name n.text u) (redeclared n.at) (Ok (tt {0}, external.with_typedef name x u)) (λ is. tt) ((typedef_more u g name x parts, later_same u.known u.types), tt)))
typedef_to s base at (Initialized d equals i) h had = by_name d.name
  where
    none_behind : (t : State) (r : Ruled ((InitializedView × Ty) × State)) → To t any (after r (external.no_typedef equals))
    none_behind t (Ok p) = tt
    none_behind t (Err f) = tt

    by_name : (n : Option NameView) → To s any (external.initialized_typedef_named s base n d.layers equals i)
    by_name None = tt
    by_name (Some n) =
        then s Parts any (declared_type s n.at base.declared d.layers) (external.typedef_initializer equals i) (declared_to s n.at base.declared d.layers h had) (λ x t g later parts. none_behind t (initializer_of t equals x.ctype i))
typedef_to s base at (Prototype f) h had = tt

-- ---- functions

pub signed_leads : (n : NameView) (number : ℕ) (b : NameBefore) (h : HeadView) (s : State) → Leads Keeps s (functions.signed n number b h s)
signed_leads n number b h s = cond_leads Keeps s (is_library_name n.text) _ (functions.signed_by n.at number b h s) tt (by_before b)
  where
    by_before : (b : NameBefore) → Leads Keeps s (functions.signed_by n.at number b h s)
    by_before standing.Nothing = cond_leads Keeps s (functions.is_declared s number) _ _ (keeps_same s) tt
    by_before (standing.Function other) = cond_leads Keeps s (functions.has_signature s number h) _ _ (keeps_same s) tt
    by_before standing.Other = tt

slot_keeps : (name : ℕ) (b : NameBefore) (s : State) → Keeps s (functions.with_slot s name b)
slot_keeps name standing.Nothing s = keeps_same s
slot_keeps name (standing.Function number) s = keeps_same s
slot_keeps name standing.Other s = keeps_same s

pub function_slot_keeps : (n : NameView) (s : State) → Keeps s (functions.function_slot n s).1
function_slot_keeps n s = slot_keeps (number_in s.scopes.names n.text) (functions.name_before (with_name s n.text) (number_in s.scopes.names n.text)) (with_name s n.text)

-- the head of a function in a scope of its own
pub scoped_head_to : (s : State) (b : SpecifiedView) (f : FunctionDeclaratorView) → Sized s → To s HasFit (heads.function_head (functions.in_scope s) b.declared f)
scoped_head_to s b f h = onward s (functions.in_scope s) HasFit (heads.function_head (functions.in_scope s) b.declared f) (h, later_same s.known s.types) (head_to (functions.in_scope s) b.declared f h)

prototype_to : (s : State) (b : SpecifiedView) (f : FunctionDeclaratorView) → Sized s → To s any (functions.prototype s b f)
prototype_to s b f h =
    let p = functions.function_slot f.name s in
    let g = function_slot_keeps f.name s h in
    onward s p.1 any (functions.prototype_of b f p) g
    (then p.1 HasFit any (heads.function_head (functions.in_scope p.1) b.declared f) (λ x t. functions.signed f.name p.0.number p.0.before x (functions.out_of_scope t)) (scoped_head_to p.1 b f g.0)
    (λ x t k later fit. onward t (functions.out_of_scope t) any (functions.signed f.name p.0.number p.0.before x (functions.out_of_scope t)) (k, later_same t.known t.types)
    (led (functions.out_of_scope t) (functions.signed f.name p.0.number p.0.before x (functions.out_of_scope t)) k (signed_leads f.name p.0.number p.0.before x (functions.out_of_scope t)))))

-- ---- declarations

object_declarator_to : (s : State) (b : SpecifiedView) (at : Place) (d : InitDeclaratorView) → Sized s → HasParts s.known b.declared → To s any (external.object_declarator s b at d)
object_declarator_to s b at (Object d) h had = by_name d.name
  where
    by_name : (n : Option NameView) → To s any (external.plain_named s b at n d.layers)
    by_name None = tt
    by_name (Some n) = then s any any (external.declared_object s b n d.layers false) external.only_declared (declared_object_to s b n d.layers false h had) (λ index t g later x. here t any (tt {0}) g tt)
object_declarator_to s b at (Initialized d equals i) h had = by_name d.name
  where
    by_name : (n : Option NameView) → To s any (external.initialized_named s b at n d.layers equals i)
    by_name None = tt
    by_name (Some n) = then s any any (external.declared_object s b n d.layers true) (external.object_initializer n.at equals i) (declared_object_to s b n d.layers true h had) (λ index t g later x. object_initializer_to n.at equals i index t g)
object_declarator_to s b at (Prototype f) h had = prototype_to s b f h

declarators_to : (ds : List InitDeclaratorView) (s : State) (b : SpecifiedView) (at : Place) → Sized s → HasParts s.known b.declared → To s any (external.declarators s b at ds)
declarators_to [] s b at h had = here s any (tt {0}) h tt
declarators_to (d ∷ ds) s b at h had =
    then s any any (external.declarator s b at d) (λ u t. external.declarators t b at ds)
    (cond_to s any (external.is_typedef b.storage) (external.typedef_declarator s b at d) (external.object_declarator s b at d) (λ is. typedef_to s b at d h had) (object_declarator_to s b at d h had))
    (λ u t g later x. declarators_to ds t b at g (elements_grown s.known t.known b.declared.ctype later.extends had))

pub external_to : (s : State) (at : Place) (words : List SpecTree) (ds : List InitDeclaratorView) → Sized s → To s any (external.external_declaration s at words ds)
external_to s at words ds h =
    then s Said any (specifiers s at (are_none ds) (spec_trees words)) (external.declared_by at ds) (specifiers_to s at (are_none ds) (spec_trees words) h)
    (λ b t g later had. cond_to t any (is_empty ds b) (type_fault at) (external.declarators t b at ds) (λ is. tt) (declarators_to ds t b at g had))
