-- Objects and typedef names at file scope.
use Rattle.std.proofs.Common.{◌≡◌, ◌+◌, ℕ, Bool, true, false, List, [], ◌∷◌, ◌++◌, length, slice_get, Option, Some, None, Ok, Err, arith, refl}
use Rattle.std.specs.Prelude.{cond}
use Rattle.std.proofs.lemmas.List.{length-append}
use Rattle.std.proofs.lemmas.Option.{same_Some}
use Rattle.cc_base.specs.declared.diagnostics.Place.{Place}
use Rattle.c_layout.specs.Types.{Ty}
use Rattle.c_layout.specs.DeclarationTrees.{NameView, SpecTree, DeclaratorLayerView, InitializerTree, InitDeclaratorView, Object, Initialized, Prototype, spec_trees}
use Rattle.c_types_scopes.specs.Answers.{after}
use Rattle.c_types_scopes.specs.DeclaredTypes.{DeclaredView, ObjectView}
use Rattle.c_types_scopes.specs.Definitions.{has_object}
use Rattle.c_types_scopes.specs.Names.{number_in, found_here}
use Rattle.c_types_scopes.specs.Refusals.{Ruled}
use Rattle.c_types_scopes.specs.States.{State, with_name, with_static}
use Rattle.c_types_scopes.specs.declared.meanings.Meaning.{Meaning}
use Rattle.c_types_scopes.specs.declared.meanings.Meaning.TheVariants as meaning
use Rattle.c_types_declarations.specs.Declarators.{declared_type}
use Rattle.c_types_expressions.specs.BracedLists.Initializers.{initializer_of}
use Rattle.c_types_declarations.specs.SpecifierTrees.{specifiers}
use Rattle.c_types_declarations.specs.Specifiers.{SpecifiedView, is_library_name}
use Rattle.c_types_statement_rules.specs.Objects.FileObjects as objects
use Rattle.c_types_statement_rules.specs.Objects.FileObjects.{number_or, composite}
use Rattle.c_types_statement_rules.specs.Objects.LocalObjects.{typed_object, typed_static, with_static_type}
use Rattle.c_types.specs.FileScope.ExternalDeclarations as external
use Rattle.c_types_theorems.proofs.entries.Leading.{Leads, cond_leads, onward, then}
use Rattle.c_types_theorems.proofs.entries.Initializing.{initializer_leads}
use Rattle.c_types_theorems.proofs.entries.Specifying.{declared_leads, specifiers_lead}
use Rattle.c_types_theorems.proofs.entries.Blocks.{static_leads}
use Rattle.c_types_theorems.proofs.units.Bodies.{changed_long}
use Rattle.c_types_well_formed_units.specs.Parameters.BodyObjects.{AreLike}
use Rattle.c_types_well_formed_units.proofs.parameters.Growing.{scope, grows_twice, grows_objects, grows_declared, few_more, few_changed}
use Rattle.c_types_well_formed_units.proofs.parameters.Steps.{Goes, goes_same, goes_twice, goes_named, steps_go, specifiers_go, like_passes, blocks_go}
use Rattle.c_types_statement_rules.specs.Objects.Changes.{changed}

abbrev pub G : State → State → Type 0
G s t = Goes AreLike s t

same : (s : State) → G s s
same s = goes_same AreLike like_passes s

twice : (s t u : State) → G s t → G t u → G s u
twice s t u g h = goes_twice AreLike like_passes s t u g h

step : {U V : Type 0} (s : State) (r : Ruled (U × State)) (next : U → State → Ruled (V × State)) → Leads G s r → ((u : U) (t : State) → Leads G t (next u t)) → Leads G s (after r next)
step s r next = then G twice s r next

go : {V : Type 0} (s t : State) (r : Ruled (V × State)) → G s t → Leads G t r → Leads G s r
go s t r = onward G twice s t r

pub named : (s : State) (text : List ℕ) → G s (with_name s text)
named s text = goes_named AreLike like_passes s text

type_leads : (s : State) (at : Place) (b : DeclaredView) (layers : List DeclaratorLayerView) → Leads G s (declared_type s at b layers)
type_leads s at b layers = declared_leads G (specifiers_go AreLike like_passes) s at b layers

pub words_lead : (s : State) (at : Place) (alone : Bool) (words : List SpecTree) → Leads G s (specifiers s at alone (spec_trees words))
words_lead s at alone words = specifiers_lead G (specifiers_go AreLike like_passes) s at alone (spec_trees words)

-- ---- objects

first_goes : (name : ℕ) (n : NameView) (d : DeclaredView) (s : State) (b : Bool) → G s (objects.with_declaration name (objects.first_object (cond b (Some (length s.statics)) None) d) (cond b (with_static s n.text n.at d.ctype) s))
first_goes name n d s true =
    let object = objects.first_object (Some (length s.statics)) d in
    let t = with_static s n.text n.at d.ctype in
    let long = length-append s.statics (record { name = n.text; at = n.at; ctype = d.ctype; stores = [] } ∷ []) in
    let u : State = record s { objects = s.objects ++ object ∷ []; statics = t.statics } in (
      grows_twice (scope s) (scope u) (scope (objects.with_declaration name object t))
          (grows_objects (scope s) u.objects u.statics (few_more s.objects s.statics t.statics object (omega (arith, long)) (λ k is. (let e = same_Some (length s.statics) k is in omega (arith, e, long)))))
          (grows_declared (scope u) name (meaning.Static (length s.objects)) tt),
      like_passes.same s.body.locals,
    )
first_goes name n d s false =
    let object = objects.first_object None d in
    let u : State = record s { objects = s.objects ++ object ∷ [] } in (
      grows_twice (scope s) (scope u) (scope (objects.with_declaration name object s))
          (grows_objects (scope s) u.objects u.statics (few_more s.objects s.statics s.statics object (omega arith) (λ k is. absurd (cc))))
          (grows_declared (scope u) name (meaning.Static (length s.objects)) tt),
      like_passes.same s.body.locals,
    )

changed_goes : (f : ObjectView → ObjectView) → ((o : ObjectView) → (f o).number ≡ o.number) → (index : ℕ) (s : State) → G s (record s { objects = changed f index s.objects })
changed_goes f number index s = (
  grows_objects (scope s) (changed f index s.objects) s.statics (few_changed f index s.objects s.statics s.statics number refl),
  like_passes.same s.body.locals,
)

retyped_goes : (index number : ℕ) (t : Ty) (s : State) → G s (with_static_type index number t s)
retyped_goes index number t s = (
  grows_objects (scope s) (with_static_type index number t s).objects (with_static_type index number t s).statics (few_changed (typed_object t) index s.objects s.statics (with_static_type index number t s).statics (λ o. refl) (changed_long (typed_static t) number s.statics)),
  like_passes.same s.body.locals,
)

next_leads : (index : ℕ) (at : Place) (d : DeclaredView) (s : State) (o : Option ObjectView) → Leads G s (objects.next_of index at d s o)
next_leads index at d s None = tt
next_leads index at d s (Some o) = by_type (composite o.declared.ctype d.ctype)
  where
    by_type : (t : Option Ty) → Leads G s (objects.next_with index at d o.number s t)
    by_type None = tt
    by_type (Some t) =
        let u = objects.with_enumeration index d.enumeration s in
        twice s u (with_static_type index (number_or o.number) t u) (changed_goes (objects.with_object_enumeration d.enumeration) (λ x. refl) index s) (retyped_goes index (number_or o.number) t u)

indexed_leads : (index : ℕ) (s : State) (r : Ruled (Unit {0} × State)) → Leads G s r → Leads G s (external.indexed index r)
indexed_leads index s (Ok p) h = h
indexed_leads index s (Err f) h = tt

object_leads : (name : ℕ) (n : NameView) (d : DeclaredView) (s : State) (m : Option Meaning) → Leads G s (external.object_as name n d s m)
object_leads name n d s None = first_goes name n d s (has_object s.definitions name)
object_leads name n d s (Some (meaning.Static index)) = indexed_leads index s (objects.next_declaration index n.at d s) (next_leads index n.at d s (slice_get s.objects index))
object_leads name n d s (Some (meaning.Local number)) = tt
object_leads name n d s (Some (meaning.Function number)) = tt
object_leads name n d s (Some (meaning.Typedef number)) = tt
object_leads name n d s (Some (meaning.Enumerator value)) = tt

named_leads : (n : NameView) (d : DeclaredView) (s : State) → Leads G s (external.object_named n d s)
named_leads n d s =
    let name = number_in s.scopes.names n.text in
    cond_leads G s (is_library_name n.text) _ (external.object_by name n d (with_name s n.text)) tt
    (go s (with_name s n.text) (external.object_by name n d (with_name s n.text)) (named s n.text) (object_leads name n d (with_name s n.text) (found_here s.scopes name)))

declared_object_leads : (s : State) (b : SpecifiedView) (n : NameView) (layers : List DeclaratorLayerView) (initial : Bool) → Leads G s (external.declared_object s b n layers initial)
declared_object_leads s b n layers initial =
    step s (declared_type s n.at b.declared layers) (external.object_in n b.storage initial) (type_leads s n.at b.declared layers)
    (λ d t. cond_leads G t (objects.may_be_object t.known d.ctype b.storage initial) (external.object_named n d t) _ (named_leads n d t) tt)

initializer_goes : (at equals : Place) (i : InitializerTree) (index : ℕ) (s : State) (o : Option ObjectView) → slice_get s.objects index ≡ o → Leads G s (external.initializer_by equals i index s (objects.object_of at o))
initializer_goes at equals i index s None there = tt
initializer_goes at equals i index s (Some o) there = static_leads G blocks_go s index (number_or o.number) equals o.declared.ctype i (o, there, refl)

object_initializer_leads : (at equals : Place) (i : InitializerTree) (index : ℕ) (s : State) → Leads G s (external.object_initializer at equals i index s)
object_initializer_leads at equals i index s =
    let t : State = objects.with_initialized index s in
    cond_leads G s (objects.is_initialized s index) _ (external.initializer_at at equals i index t) tt
    (go s t (external.initializer_at at equals i index t) (changed_goes objects.initialized_object (λ x. refl) index s) (initializer_goes at equals i index t (slice_get t.objects index) refl))

-- ---- typedef names

typedef_by_leads : (name : ℕ) (n : NameView) (d : DeclaredView) (s : State) → Leads G s (external.typedef_by name n d s)
typedef_by_leads name n d s = cond_leads G s (external.is_taken name n.text s) _ _ tt (grows_declared (scope s) name (meaning.Typedef (length s.typedefs)) tt, like_passes.same s.body.locals)

pub typedef_leads : (s : State) (b : SpecifiedView) (at : Place) (d : InitDeclaratorView) → Leads G s (external.typedef_declarator s b at d)
typedef_leads s b at (Object d) = by_name d.name
  where
    by_name : (n : Option NameView) → Leads G s (external.typedef_named s b at n d.layers)
    by_name None = tt
    by_name (Some n) =
        step s (declared_type s n.at b.declared d.layers) (external.typedef_in n) (type_leads s n.at b.declared d.layers)
        (λ x t. go t (with_name t n.text) (external.typedef_in n x t) (named t n.text) (typedef_by_leads (number_in t.scopes.names n.text) n x (with_name t n.text)))
typedef_leads s b at (Initialized d equals i) = by_name d.name
  where
    by_name : (n : Option NameView) → Leads G s (external.initialized_typedef_named s b n d.layers equals i)
    by_name None = tt
    by_name (Some n) =
        step s (declared_type s n.at b.declared d.layers) (external.typedef_initializer equals i) (type_leads s n.at b.declared d.layers)
        (λ x t. step t (initializer_of t equals x.ctype i) (external.no_typedef equals) (initializer_leads G (steps_go AreLike like_passes) t equals x.ctype i) (λ m u. tt))
typedef_leads s b at (Prototype f) = tt

pub object_declarator_leads : (s : State) (b : SpecifiedView) (n : NameView) (layers : List DeclaratorLayerView) → Leads G s (external.plain_object s b n layers)
object_declarator_leads s b n layers = step s (external.declared_object s b n layers false) external.only_declared (declared_object_leads s b n layers false) (λ index t. same t)

pub initialized_declarator_leads : (s : State) (b : SpecifiedView) (n : NameView) (layers : List DeclaratorLayerView) (equals : Place) (i : InitializerTree) → Leads G s (external.initialized_object s b n layers equals i)
initialized_declarator_leads s b n layers equals i = step s (external.declared_object s b n layers true) (external.object_initializer n.at equals i) (declared_object_leads s b n layers true) (λ index t. object_initializer_leads n.at equals i index t)
