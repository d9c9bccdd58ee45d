-- The initial values of a checked unit stand at parts of their objects.
use Rattle.std.proofs.Common.{◌≡◌, ◌<◌, ◌≤◌, ◌^◌, ℕ, zero, suc, Bool, true, false, List, [], ◌∷◌, ◌++◌, length, map, Option, Some, None, Ok, Err, slice_get, arith, refl, ap, subst, sym, ◌∙◌, inl, inr}
use Rattle.std.specs.Prelude.{◌⊎◌, ◌==◌, cond, is_some, slice_set, option_and_then}
use Rattle.std.proofs.lemmas.List.{length-append, length-map}
use Rattle.std.proofs.lemmas.Option.{same_Some}
use Rattle.cc_base.specs.declared.diagnostics.Place.{Place}
use Rattle.c_layout.specs.StructViews.{StructView}
use Rattle.c_layout.specs.Types.{Ty, Int, Pointer, Array, Struct, Void}
use Rattle.c_layout.specs.CheckedUnits.{StaticView, StaticStoreView, SetValue, SetText, FunctionView, UnitView}
use Rattle.c_layout.specs.DeclarationTrees as syntax
use Rattle.c_layout.specs.DeclarationTrees.{NameView, SpecTree, DeclaratorView, DeclaratorLayerView, InitializerTree, InitDeclaratorView, Object, Initialized, Prototype, ParameterView, ParametersView, NoParameters, OnlyVoid, ParameterList, FunctionDeclaratorView, StatementTrees, ExternalTree, Declared, Defined, spec_trees, statement_trees}
use Rattle.c_layout.specs.declared.checked_tree.checked_units.StaticValue.{StaticValue}
use Rattle.c_layout.specs.declared.checked_tree.checked_units.StaticValue.TheVariants.{Number, Null, Address}
use Rattle.c_layout.specs.declared.checked_tree.checked_units.StaticBase.TheVariants as base
use Rattle.c_layout.specs.declared.data_model.Model.{Model}
use Rattle.c_layout.specs.declared.syntax_tree.declarations.Storage.{Storage}
use Rattle.c_types_rules.specs.Rules.TypeSizes.{array_size}
use Rattle.c_types_scopes.specs.Answers.{after, kept}
use Rattle.c_types_scopes.specs.DeclaredTypes.{DeclaredView, ObjectView}
use Rattle.c_types_scopes.specs.Definitions.{has_object}
use Rattle.c_types_scopes.specs.Known.{Known, size_of}
use Rattle.c_types_scopes.specs.Names.{number_in, found_here}
use Rattle.c_types_scopes.specs.Refusals.{Ruled, type_fault, redeclared}
use Rattle.c_types_scopes.specs.States.{State, first_state, with_name, with_static}
use Rattle.c_types_scopes.specs.declared.meanings.Meaning.{Meaning}
use Rattle.c_types_scopes.specs.declared.meanings.Meaning.TheVariants as meaning
use Rattle.c_types_initializers.specs.Initialized.{InitializedView}
use Rattle.c_types_declarations.specs.Declarators.{declared_type}
use Rattle.c_types_declarations.specs.FunctionHeads as heads
use Rattle.c_types_declarations.specs.FunctionHeads.{HeadView}
use Rattle.c_types_expressions.specs.BracedLists.Initializers.{initializer_of}
use Rattle.c_types_declarations.specs.Parameters as parameters
use Rattle.c_types_declarations.specs.SpecifierTrees.{specifiers}
use Rattle.c_types_declarations.specs.Specifiers.{SpecifiedView, is_library_name}
use Rattle.c_types_declarations.specs.StructBodies.{is_stored}
use Rattle.c_types_statement_rules.specs.Objects.Changes.{changed, changed_at}
use Rattle.c_types_statement_rules.specs.Objects.FileObjects as objects
use Rattle.c_types_statement_rules.specs.Objects.FileObjects.{number_or, composite}
use Rattle.c_types_statement_rules.specs.Objects.UnitObjects as ends
use Rattle.c_types_statement_rules.specs.StatementRules.BodyFlow.{no_flow}
use Rattle.c_types_statement_rules.specs.StatementRules.Points.{Point, point}
use Rattle.c_types_statement_rules.specs.StatementRules.StatementNodes.{no_parts}
use Rattle.c_types_statement_rules.specs.Objects.LocalObjects.{with_static_type, PartsView}
use Rattle.c_types_statements.specs.LocalDeclarations.{local_declaration, are_none, is_empty}
use Rattle.c_types_statements.specs.StaticInitializers.{static_initializer}
use Rattle.c_types_statements.specs.Statements.{items}
use Rattle.c_types.specs.FileScope.ExternalDeclarations as external
use Rattle.c_types.specs.FileScope.FunctionDeclarations as functions
use Rattle.c_types.specs.declared.file_scope.function_declarations.FunctionSlot.{FunctionSlot}
use Rattle.c_types.specs.declared.file_scope.function_declarations.NameBefore.{NameBefore}
use Rattle.c_types.specs.declared.file_scope.function_declarations.NameBefore.TheVariants as standing
use Rattle.c_types.specs.Units.Streams.{with_stream}
use Rattle.c_types.specs.Units.UnitDefinitions as definitions
use Rattle.c_types.specs.Units.UnitEntries.{judged}
use Rattle.c_types.specs.Units.FunctionDefinitions as bodies
use Rattle.c_types.specs.Units.UnitChecks as checks
use Rattle.c_types_theorems.proofs.entries.Leading.{Leads, kept_leads, cond_leads, onward, then}
use Rattle.c_types_theorems.proofs.entries.Declaring.{declared_leads, specifiers_lead}
use Rattle.c_types_theorems.proofs.entries.Initializing.{initializer_leads}
use Rattle.c_types_theorems.proofs.entries.Stating.{Comes, static_leads, items_come, all_labels_lead}
use Rattle.c_types_theorems.proofs.entries.Entries.{same_value}
use Rattle.c_types_theorems.specs.Units.PlacedUnits.{IsValueOf, IsPlacedStore, ArePlacedStores, IsPlacedObject, known_of, InitializersArePlaced}
use Rattle.c_types_theorems.proofs.units.Kept.{IsGoodBy, most, Keeps, later_same, keeps_same, keeps_twice, steps_keep, declarations_keep, at_most}
use Rattle.c_types_theorems.proofs.units.Bodies.{declared_good, undefined_good, bodies_keep}
use Rattle.c_types_theorems.proofs.units.Files.{suc_not, step, stays, IsAlike, alike_keeps, retyped_keeps}

go : {V : Type 0} (s t : State) (r : Ruled (V × State)) → Keeps s t → Leads Keeps t r → Leads Keeps s r
go s t r = onward Keeps keeps_twice s t r

-- ---- first and further declarations of objects

first_keeps : (name : ℕ) (n : NameView) (d : DeclaredView) (s : State) (b : Bool) → Keeps s (objects.with_declaration name (objects.first_object (cond b (Some (length s.statics)) None) d) (cond b (with_static s n.text n.at d.ctype) s))
first_keeps name n d s true = (
  let long = length-append s.statics (record { name = n.text; at = n.at; ctype = d.ctype; stores = [] } ∷ []) in omega (arith, long),
  λ few good. (declared_good s.known s.types s.objects s.statics (objects.first_object (Some (length s.statics)) d) (record { name = n.text; at = n.at; ctype = d.ctype; stores = [] }) refl refl refl good, later_same s.known s.types),
)
first_keeps name n d s false = (at_most (length s.statics), λ few good. (undefined_good s.known s.types s.objects s.statics (objects.first_object None d) refl good, later_same s.known s.types))

set_here : {V : Type 0} (xs : List V) (k : ℕ) (v x : V) → slice_get xs k ≡ Some x → slice_get (slice_set xs k v) k ≡ Some v
set_here [] k v x h = absurd (cc)
set_here (y ∷ xs) zero v x h = refl
set_here (y ∷ xs) (suc k) v x h = set_here xs k v x h

changed_here : {V : Type 0} (f : V → V) (i : ℕ) (vs : List V) (v : V) → slice_get vs i ≡ Some v → slice_get (changed f i vs) i ≡ Some (f v)
changed_here f i vs v is = ap (λ o. slice_get (changed_at f i vs o) i) is ∙ set_here vs i (f v) v is

next_leads : (index : ℕ) (at : Place) (d : DeclaredView) (s : State) (o : Option ObjectView) → slice_get s.objects index ≡ o → Leads Keeps s (objects.next_of index at d s o)
next_leads index at d s None there = tt
next_leads index at d s (Some o) there = by_type (composite o.declared.ctype d.ctype) refl
  where
    by_type : (t : Option Ty) → composite o.declared.ctype d.ctype ≡ t → Leads Keeps s (objects.next_with index at d o.number s t)
    by_type None is = tt
    by_type (Some t) is =
        keeps_twice s (objects.with_enumeration index d.enumeration s) (with_static_type index (number_or o.number) t (objects.with_enumeration index d.enumeration s)) (alike_keeps (objects.with_object_enumeration d.enumeration) (record { number = λ x. refl; ctype = λ x. refl }) index s)
        (retyped_keeps (objects.with_enumeration index d.enumeration s) index (objects.with_object_enumeration d.enumeration o) d.ctype t (changed_here (objects.with_object_enumeration d.enumeration) index s.objects o there) is)

indexed_leads : (index : ℕ) (s : State) (r : Ruled (Unit {0} × State)) → Leads Keeps s r → Leads Keeps s (external.indexed index r)
indexed_leads index s (Ok p) h = h
indexed_leads index s (Err f) h = tt

object_leads : (name : ℕ) (n : NameView) (d : DeclaredView) (s : State) (m : Option Meaning) → Leads Keeps s (external.object_as name n d s m)
object_leads name n d s None = first_keeps name n d s (has_object s.definitions name)
object_leads name n d s (Some (meaning.Static index)) = indexed_leads index s (objects.next_declaration index n.at d s) (next_leads index n.at d s (slice_get s.objects index) refl)
object_leads name n d s (Some (meaning.Local number)) = tt
object_leads name n d s (Some (meaning.Function number)) = tt
object_leads name n d s (Some (meaning.Typedef number)) = tt
object_leads name n d s (Some (meaning.Enumerator value)) = tt

named_leads : (n : NameView) (d : DeclaredView) (s : State) → Leads Keeps s (external.object_named n d s)
named_leads n d s = cond_leads Keeps s (is_library_name n.text) _ (external.object_by (number_in s.scopes.names n.text) n d (with_name s n.text)) tt (go s (with_name s n.text) (external.object_by (number_in s.scopes.names n.text) n d (with_name s n.text)) (keeps_same s) (object_leads (number_in s.scopes.names n.text) n d (with_name s n.text) (found_here s.scopes (number_in s.scopes.names n.text))))

declared_object_leads : (s : State) (base : SpecifiedView) (n : NameView) (layers : List DeclaratorLayerView) (initial : Bool) → Leads Keeps s (external.declared_object s base n layers initial)
declared_object_leads s base n layers initial =
    step s (declared_type s n.at base.declared layers) (external.object_in n base.storage initial) (declared_leads Keeps declarations_keep s n.at base.declared layers)
    (λ d t. cond_leads Keeps t (objects.may_be_object t.known d.ctype base.storage initial) (external.object_named n d t) _ (named_leads n d t) tt)

initializer_keeps : (at equals : Place) (i : InitializerTree) (index : ℕ) (s : State) (o : Option ObjectView) → slice_get s.objects index ≡ o → Leads Keeps s (external.initializer_by equals i index s (objects.object_of at o))
initializer_keeps at equals i index s None there = tt
initializer_keeps at equals i index s (Some o) there = static_leads Keeps bodies_keep s index (number_or o.number) equals o.declared.ctype i (o, there, refl)

object_initializer_leads : (at equals : Place) (i : InitializerTree) (index : ℕ) (s : State) → Leads Keeps s (external.object_initializer at equals i index s)
object_initializer_leads at equals i index s =
    let t : State = objects.with_initialized index s in
    cond_leads Keeps s (objects.is_initialized s index) _ (external.initializer_at at equals i index t) tt
    (go s t (external.initializer_at at equals i index t) (alike_keeps objects.initialized_object (record { number = λ x. refl; ctype = λ x. refl }) index s) (initializer_keeps at equals i index t (slice_get t.objects index) refl))

-- ---- declarators

typedef_by_leads : (name : ℕ) (n : NameView) (d : DeclaredView) (s : State) → Leads Keeps s (external.typedef_by name n d s)
typedef_by_leads name n d s = cond_leads Keeps s (external.is_taken name n.text s) _ _ tt (keeps_same s)

typedef_leads : (s : State) (base : SpecifiedView) (at : Place) (d : InitDeclaratorView) → Leads Keeps s (external.typedef_declarator s base at d)
typedef_leads s base at (Object d) = by_name d.name
  where
    by_name : (n : Option NameView) → Leads Keeps s (external.typedef_named s base at n d.layers)
    by_name None = tt
    by_name (Some n) = step s (declared_type s n.at base.declared d.layers) (external.typedef_in n) (declared_leads Keeps declarations_keep s n.at base.declared d.layers) (λ x t. typedef_by_leads (number_in t.scopes.names n.text) n x (with_name t n.text))
typedef_leads s base at (Initialized d equals i) = by_name d.name
  where
    by_name : (n : Option NameView) → Leads Keeps s (external.initialized_typedef_named s base n d.layers equals i)
    by_name None = tt
    by_name (Some n) =
        step s (declared_type s n.at base.declared d.layers) (external.typedef_initializer equals i) (declared_leads Keeps declarations_keep s n.at base.declared d.layers)
        (λ x t. step t (initializer_of t equals x.ctype i) (external.no_typedef equals) (initializer_leads Keeps steps_keep t equals x.ctype i) (λ m u. tt))
typedef_leads s base at (Prototype f) = tt

parameter_of_leads : (name : ℕ) (n : NameView) (d : DeclaredView) (s : State) (m : Option Meaning) → Leads Keeps s (parameters.parameter_of name n d s m)
parameter_of_leads name n d s None = keeps_same s
parameter_of_leads name n d s (Some m) = tt

named_parameter_leads : (n : Option NameView) (d : DeclaredView) (s : State) → Leads Keeps s (parameters.named_parameter n d s)
named_parameter_leads None d s = keeps_same s
named_parameter_leads (Some n) d s = go s (with_name s n.text) (parameters.declare_parameter n d s) (keeps_same s) (parameter_of_leads (number_in s.scopes.names n.text) n d (with_name s n.text) (found_here s.scopes (number_in s.scopes.names n.text)))

typed_as_leads : (t : Ty) (s : State) (r : Ruled (Unit {0} × State)) → Leads Keeps s r → Leads Keeps s (parameters.typed_as t r)
typed_as_leads t s (Ok p) h = h
typed_as_leads t s (Err f) h = tt

parameter_type_leads : (s : State) (at : Place) (b : DeclaredView) (d : Option DeclaratorView) → Leads Keeps s (heads.parameter_type s at b d)
parameter_type_leads s at b None = stays s (parameters.as_parameter at b)
parameter_type_leads s at b (Some d) = step s (declared_type s at b d.layers) (heads.as_parameter_in at) (declared_leads Keeps declarations_keep s at b d.layers) (λ v t. stays t (parameters.as_parameter at v))

parameter_leads : (s : State) (p : ParameterView) → Leads Keeps s (heads.add_parameter s p)
parameter_leads s p =
    step s (specifiers s p.at false (spec_trees p.words)) (heads.specified_parameter p) (specifiers_lead Keeps declarations_keep s p.at false (spec_trees p.words))
    (λ b t. step t (heads.parameter_type t (parameters.parameter_place p) b.declared p.declarator) (parameters.finish_parameter (parameters.parameter_place p) b.storage (parameters.parameter_name p)) (parameter_type_leads t (parameters.parameter_place p) b.declared p.declarator)
    (λ d u. cond_leads Keeps u (is_stored b.storage) _ _ tt (typed_as_leads d.ctype u (parameters.named_parameter (parameters.parameter_name p) d u) (named_parameter_leads (parameters.parameter_name p) d u))))

parameters_lead : (ps : List ParameterView) (s : State) → Leads Keeps s (heads.add_parameters s ps)
parameters_lead [] s = keeps_same s
parameters_lead (p ∷ ps) s = step s (heads.add_parameter s p) _ (parameter_leads s p) (λ t s1. step s1 (heads.add_parameters s1 ps) _ (parameters_lead ps s1) (λ ts u. keeps_same u))

all_parameters_lead : (ps : ParametersView) (s : State) → Leads Keeps s (heads.parameters_of s ps)
all_parameters_lead NoParameters s = keeps_same s
all_parameters_lead OnlyVoid s = keeps_same s
all_parameters_lead (ParameterList ps) s = parameters_lead ps s

head_leads : (s : State) (b : DeclaredView) (f : FunctionDeclaratorView) → Leads Keeps s (heads.function_head s b f)
head_leads s b f =
    step s (heads.parameters_of (parameters.without_locals s) f.parameters) (heads.headed b f)
    (go s (parameters.without_locals s) (heads.parameters_of (parameters.without_locals s) f.parameters) (keeps_same s) (all_parameters_lead f.parameters (parameters.without_locals s)))
    (λ ts t. stays t (heads.head_by t.known b f ts))

signed_leads : (n : NameView) (number : ℕ) (b : NameBefore) (h : HeadView) (s : State) → Leads Keeps s (functions.signed n number b h s)
signed_leads n number b h s = cond_leads Keeps s (is_library_name n.text) _ (functions.signed_by n.at number b h s) tt (by_before b)
  where
    by_before : (b : NameBefore) → Leads Keeps s (functions.signed_by n.at number b h s)
    by_before standing.Nothing = cond_leads Keeps s (functions.is_declared s number) _ _ (keeps_same s) tt
    by_before (standing.Function other) = cond_leads Keeps s (functions.has_signature s number h) _ _ (keeps_same s) tt
    by_before standing.Other = tt

slot_keeps : (name : ℕ) (b : NameBefore) (s : State) → Keeps s (functions.with_slot s name b)
slot_keeps name standing.Nothing s = keeps_same s
slot_keeps name (standing.Function number) s = keeps_same s
slot_keeps name standing.Other s = keeps_same s

function_slot_keeps : (n : NameView) (s : State) → Keeps s (functions.function_slot n s).1
function_slot_keeps n s = slot_keeps (number_in s.scopes.names n.text) (functions.name_before (with_name s n.text) (number_in s.scopes.names n.text)) (with_name s n.text)

prototype_leads : (s : State) (b : SpecifiedView) (f : FunctionDeclaratorView) → Leads Keeps s (functions.prototype s b f)
prototype_leads s b f =
    let p = functions.function_slot f.name s in
    go s p.1 (functions.prototype_of b f p) (function_slot_keeps f.name s)
    (step p.1 (heads.function_head (functions.in_scope p.1) b.declared f) _ (go p.1 (functions.in_scope p.1) (heads.function_head (functions.in_scope p.1) b.declared f) (keeps_same p.1) (head_leads (functions.in_scope p.1) b.declared f))
    (λ h t. go t (functions.out_of_scope t) (functions.signed f.name p.0.number p.0.before h (functions.out_of_scope t)) (keeps_same t) (signed_leads f.name p.0.number p.0.before h (functions.out_of_scope t))))

declarator_leads : (s : State) (b : SpecifiedView) (at : Place) (d : InitDeclaratorView) → Leads Keeps s (external.object_declarator s b at d)
declarator_leads s b at (Object d) = by_name d.name
  where
    by_name : (n : Option NameView) → Leads Keeps s (external.plain_named s b at n d.layers)
    by_name None = tt
    by_name (Some n) = step s (external.declared_object s b n d.layers false) external.only_declared (declared_object_leads s b n d.layers false) (λ index t. keeps_same t)
declarator_leads s b at (Initialized d equals i) = by_name d.name
  where
    by_name : (n : Option NameView) → Leads Keeps s (external.initialized_named s b at n d.layers equals i)
    by_name None = tt
    by_name (Some n) = step s (external.declared_object s b n d.layers true) (external.object_initializer n.at equals i) (declared_object_leads s b n d.layers true) (λ index t. object_initializer_leads n.at equals i index t)
declarator_leads s b at (Prototype f) = prototype_leads s b f

declarators_lead : (ds : List InitDeclaratorView) (s : State) (b : SpecifiedView) (at : Place) → Leads Keeps s (external.declarators s b at ds)
declarators_lead [] s b at = keeps_same s
declarators_lead (d ∷ ds) s b at =
    step s (external.declarator s b at d) _ (cond_leads Keeps s (external.is_typedef b.storage) (external.typedef_declarator s b at d) (external.object_declarator s b at d) (typedef_leads s b at d) (declarator_leads s b at d))
    (λ u t. declarators_lead ds t b at)

external_leads : (s : State) (at : Place) (words : List SpecTree) (ds : List InitDeclaratorView) → Leads Keeps s (external.external_declaration s at words ds)
external_leads s at words ds =
    step s (specifiers s at (are_none ds) (spec_trees words)) (external.declared_by at ds) (specifiers_lead Keeps declarations_keep s at (are_none ds) (spec_trees words))
    (λ b t. cond_leads Keeps t (is_empty ds b) _ (external.declarators t b at ds) tt (declarators_lead ds t b at))

-- ---- functions

met_leads : (n : NameView) (number : ℕ) (h : HeadView) (s : State) → Leads Keeps s (functions.met_head n number h s)
met_leads n number h s = cond_leads Keeps s (functions.is_defined s number) _ _ tt (cond_leads Keeps s h.are_named _ _ (keeps_same s) tt)

defined_head_leads : (s : State) (b : SpecifiedView) (f : FunctionDeclaratorView) → Leads Keeps s (bodies.defined_head s b f)
defined_head_leads s b f =
    let p = functions.function_slot f.name s in
    go s p.1 (bodies.head_of b f p) (function_slot_keeps f.name s)
    (step p.1 (heads.function_head (functions.in_scope p.1) b.declared f) (bodies.head_in f.name p.0) (go p.1 (functions.in_scope p.1) (heads.function_head (functions.in_scope p.1) b.declared f) (keeps_same p.1) (head_leads (functions.in_scope p.1) b.declared f))
    (λ h t. step t (functions.judged_head f.name p.0.number p.0.before h t) (bodies.numbered p.0.known h)
    (step t (functions.signed f.name p.0.number p.0.before h t) _ (signed_leads f.name p.0.number p.0.before h t) (λ u v. met_leads f.name p.0.number h v))
    (λ u v. keeps_same v)))

body_leads : (n : NameView) (ts : StatementTrees) (h : HeadView) (s : State) → Leads Keeps s (bodies.with_body n ts h s)
body_leads n ts h s = of_items (items local_declaration (bodies.before_body h ts s) no_parts ts) (items_come Keeps bodies_keep (bodies.before_body h ts s) no_parts ts)
  where
    of_items : (r : Ruled (PartsView × Point)) → Comes Keeps (bodies.before_body h ts s).state r → Leads Keeps s (after (bodies.counted r) (bodies.function_of_parts n h))
    of_items (Ok p) g = keeps_twice s (bodies.before_body h ts s).state p.1.state (all_labels_lead Keeps bodies_keep ts (point s (no_flow h.declared.ctype))) g
    of_items (Err f) g = tt

function_leads : (s : State) (at : Place) (words : List SpecTree) (f : FunctionDeclaratorView) (body : List syntax.StatementTree) → Leads Keeps s (bodies.function_definition s at words f body)
function_leads s at words f body =
    step s (specifiers s at false (spec_trees words)) (bodies.defined_by f (statement_trees body)) (specifiers_lead Keeps declarations_keep s at false (spec_trees words))
    (λ b t. cond_leads Keeps t (external.is_typedef b.storage) _ (bodies.defined f (statement_trees body) b t) tt
    (step t (after (bodies.defined_head t b f) (bodies.with_body f.name (statement_trees body))) bodies.ended
    (step t (bodies.defined_head t b f) (bodies.with_body f.name (statement_trees body)) (defined_head_leads t b f) (λ h u. body_leads f.name (statement_trees body) h u))
    (λ g u. keeps_same u)))

-- ---- units

unit_part_leads : (s : State) (made : List FunctionView) (e : ExternalTree) → Leads Keeps s (checks.external s made e)
unit_part_leads s made (Declared at words ds) = step s (external.external_declaration s at words ds) (checks.functions_kept made) (external_leads s at words ds) (λ u t. keeps_same t)
unit_part_leads s made (Defined at words f body) = step s (bodies.function_definition s at words f body) (checks.with_function made) (function_leads s at words f body) (λ g t. keeps_same t)

parts_lead : (es : List ExternalTree) (s : State) (made : List FunctionView) → Leads Keeps s (checks.externals s made es)
parts_lead [] s made = keeps_same s
parts_lead (e ∷ es) s made = step s (checks.external s made e) _ (unit_part_leads s made e) (λ more t. parts_lead es t more)

named_object_keeps : (n : Option NameView) (s : State) → Keeps s (definitions.with_named n s)
named_object_keeps None s = keeps_same s
named_object_keeps (Some n) s = keeps_same s

cond_keeps : (s : State) (b : Bool) (t : State) → Keeps s t → Keeps s (cond b t s)
cond_keeps s true t h = h
cond_keeps s false t h = keeps_same s

defined_keeps : (defines : Bool) (d : InitDeclaratorView) (s : State) → Keeps s (definitions.with_declarator defines d s)
defined_keeps defines (Object d) s = cond_keeps s defines (definitions.with_named d.name s) (named_object_keeps d.name s)
defined_keeps defines (Initialized d equals i) s = named_object_keeps d.name s
defined_keeps defines (Prototype f) s = keeps_same s

all_defined_keep : (defines : Bool) (ds : List InitDeclaratorView) (s : State) → Keeps s (definitions.with_declarators defines ds s)
unfolding definitions.with_declarators
all_defined_keep defines [] s = keeps_same s
all_defined_keep defines (d ∷ ds) s = keeps_twice s (definitions.with_declarator defines d s) (definitions.with_declarators defines ds (definitions.with_declarator defines d s)) (defined_keeps defines d s) (all_defined_keep defines ds (definitions.with_declarator defines d s))

definition_keeps : (e : ExternalTree) (s : State) → Keeps s (definitions.with_external e s)
definition_keeps (Declared at words ds) s = all_defined_keep (definitions.is_definition (definitions.storage_of words)) ds s
definition_keeps (Defined at words f body) s = keeps_same s

definitions_keep : (es : List ExternalTree) (s : State) → Keeps s (definitions.with_externals es s)
unfolding definitions.with_externals
definitions_keep [] s = keeps_same s
definitions_keep (e ∷ es) s = keeps_twice s (definitions.with_external e s) (definitions.with_externals es (definitions.with_external e s)) (definition_keeps e s) (definitions_keep es (definitions.with_external e s))

stream_keeps : (s : State) → Keeps s (with_stream s)
stream_keeps s = declarations_keep.struct_more s

none_of : {A : Type 0} (x : A) → None ≡ Some x → ⊥
none_of x h = cc

first_good : (m : Model) → IsGoodBy (first_state m).known (first_state m).types [] []
first_good m = record {
  settled = refl;
  bodies = λ n v is. absurd (none_of v is);
  placed = λ n o is. absurd (none_of o is);
  linked = record {
    few = λ i n x is num. absurd (none_of x is);
    typed = λ i n x o is num at. absurd (none_of x is);
    apart = λ i j n x y isx isy nx ny. absurd (none_of x isx);
  };
}

-- ---- the end of a unit

mapped_is : {V W : Type 0} (f : V → W) (vs : List V) (n : ℕ) (x : W) → slice_get (map f vs) n ≡ Some x → (v : V) × (slice_get vs n ≡ Some v) × (f v ≡ x)
mapped_is f [] n x is = absurd (none_of x is)
mapped_is f (v ∷ vs) zero x is = (v, refl, same_Some (f v) x is)
mapped_is f (v ∷ vs) (suc n) x is = mapped_is f vs n x is

counted_is : (count : ℕ) (o : Option ℕ) → is_some (option_and_then (array_size count) o) ≡ true → ends.completed_count count ≡ count
counted_is count None h = absurd (cc)
counted_is zero (Some size) h = absurd (cc)
counted_is (suc n) (Some size) h = ap (λ c. cond c 1 (suc n)) (suc_not n)

completed_is : (k : Known) (t : Ty) → is_some (size_of k t) ≡ true → ends.completed t ≡ t
completed_is k (Int kind) h = refl
completed_is k (Pointer t) h = refl
completed_is k (Array t count) h = ap (Array t) (counted_is count (size_of k t) h)
completed_is k (Struct i) h = refl
completed_is k Void h = refl

completed_placed : (k : Known) (o : StaticView) → IsPlacedObject k o → IsPlacedObject k (ends.completed_object o)
completed_placed k o (inl none) = inl none
completed_placed k o (inr h) = subst (λ t. IsPlacedObject k (record o { ctype = t })) (sym (completed_is k o.ctype h.0)) (inr h)

bounded_value : (sizes : List ℕ) (t : Ty) (v : StaticValue) → IsValueOf t v → IsValueOf t (ends.bounded sizes v)
bounded_value sizes t (Number n kind) h = h
bounded_value sizes t Null h = h
bounded_value sizes (Pointer t) (Address (base.Object number) offset low high) h = tt
bounded_value sizes (Pointer t) (Address (base.Literal number) offset low high) h = tt
bounded_value sizes (Int kind) (Address b offset low high) h = absurd h
bounded_value sizes (Array t n) (Address b offset low high) h = absurd h
bounded_value sizes (Struct i) (Address b offset low high) h = absurd h
bounded_value sizes Void (Address b offset low high) h = absurd h

bounded_store : (k : Known) (sizes : List ℕ) (t : Ty) (s : StaticStoreView) → IsPlacedStore k t s → IsPlacedStore k t (ends.bounded_store sizes s)
bounded_store k sizes t (SetValue offset v) h = (h.0, h.1, h.2, bounded_value sizes h.0.ctype v h.3)
bounded_store k sizes t (SetText offset room text) h = h

bounded_stores : (k : Known) (sizes : List ℕ) (t : Ty) (ss : List StaticStoreView) → ArePlacedStores k t ss → ArePlacedStores k t (map (ends.bounded_store sizes) ss)
bounded_stores k sizes t [] h = tt
bounded_stores k sizes t (s ∷ ss) h = (bounded_store k sizes t s h.0, bounded_stores k sizes t ss h.1)

bounded_placed : (k : Known) (sizes : List ℕ) (o : StaticView) → IsPlacedObject k o → IsPlacedObject k (ends.bounded_object sizes o)
bounded_placed k sizes o (inl none) = inl (ap (map (ends.bounded_store sizes)) none)
bounded_placed k sizes o (inr (sized, inl placed)) = inr (sized, inl (bounded_stores k sizes o.ctype o.stores placed))
bounded_placed k sizes o (inr (sized, inr none)) = inr (sized, inr none)

finished_long : (s : State) → length (ends.with_bounded (ends.with_completed s)).statics ≡ length s.statics
finished_long s = length-map (map ends.completed_object s.statics) (ends.bounded_object (ends.object_sizes (ends.with_completed s))) ∙ length-map s.statics ends.completed_object

finished_placed : (k : Known) (s : State) → ((n : ℕ) (o : StaticView) → slice_get s.statics n ≡ Some o → IsPlacedObject k o) → (n : ℕ) (o : StaticView) → slice_get (ends.with_bounded (ends.with_completed s)).statics n ≡ Some o → IsPlacedObject k o
finished_placed k s h n o is =
    let b = mapped_is (ends.bounded_object (ends.object_sizes (ends.with_completed s))) (map ends.completed_object s.statics) n o is in
    let c = mapped_is ends.completed_object s.statics n b.0 b.1 in
    subst (IsPlacedObject k) b.2 (bounded_placed k (ends.object_sizes (ends.with_completed s)) b.0 (subst (IsPlacedObject k) c.2 (completed_placed k c.0 (h n c.0 c.1))))

-- what a unit's state holds at its end
abbrev IsDone : Model → Ruled (List FunctionView × State) → Type 0
IsDone m (Ok p) = length p.1.statics ≤ most → (n : ℕ) (o : StaticView) → slice_get p.1.statics n ≡ Some o → IsPlacedObject (record { numbers = m; structs = p.1.types.structs }) o
IsDone m (Err f) = Unit {0}

abbrev begun : Model → List ExternalTree → State
begun m es = definitions.with_externals es (with_stream (first_state m))

begins : (m : Model) (es : List ExternalTree) → Keeps (first_state m) (begun m es)
begins m es = keeps_twice (first_state m) (with_stream (first_state m)) (begun m es) (stream_keeps (first_state m)) (definitions_keep es (with_stream (first_state m)))

parts_done : (m : Model) (es : List ExternalTree) (r : Ruled (List FunctionView × State)) → Leads Keeps (begun m es) r → IsDone m (after r checks.finished)
parts_done m es (Ok p) g = of_bounds (ends.first_past (ends.object_sizes (ends.with_completed p.1)) (ends.with_bounded (ends.with_completed p.1)).statics p.1.initializers)
  where
    of_bounds : (past : Option Place) → IsDone m (after (ends.judged_bounds past (ends.with_bounded (ends.with_completed p.1))) (checks.functions_kept p.0))
    of_bounds (Some at) = tt
    of_bounds None = λ few n o is.
        let long = finished_long p.1 in
        let all = keeps_twice (first_state m) (begun m es) p.1 (begins m es) g in
        let x = all.1 (omega (arith, few, long)) (first_good m) in
        let made : Model → List StructView → Known = λ a b. record { numbers = a; structs = b } in
        let same : p.1.known ≡ made m p.1.types.structs = ap (λ z. made z p.1.known.structs) x.1.extends.numbers ∙ ap (made m) x.0.settled in
        finished_placed (made m p.1.types.structs) p.1 (λ j v at. subst (λ z. IsPlacedObject z v) same (x.0.placed j v at)) n o is
parts_done m es (Err f) g = tt

unit_done : (m : Model) (es : List ExternalTree) → IsDone m (checks.typed_unit (first_state m) es)
unit_done m es = parts_done m es (checks.externals (begun m es) [] es) (parts_lead es (begun m es) [])

pub initializers_placed : InitializersArePlaced
initializers_placed m name es u is few n o at = of_unit (checks.typed_unit (first_state m) es) (unit_done m es) is
  where
    of_entry : (fs : List FunctionView) (s : State) (r : Ruled ℕ) → (length s.statics ≤ most → (j : ℕ) (v : StaticView) → slice_get s.statics j ≡ Some v → IsPlacedObject (record { numbers = m; structs = s.types.structs }) v) → checks.entered m fs s r ≡ Ok u → IsPlacedObject (known_of u) o
    of_entry fs s (Ok entry) h e =
        let same : checks.unit_of m fs s entry ≡ u = same_value (checks.unit_of m fs s entry) u e in
        let all : length s.statics < 2 ^ 32 = subst (λ z. length z.objects < 2 ^ 32) (sym same) few in
        subst (λ z. IsPlacedObject (known_of z) o) same (h (omega (arith, all)) n o (ap (λ z. slice_get z.objects n) same ∙ at))
    of_entry fs s (Err f) h e = absurd (cc)

    of_unit : (r : Ruled (List FunctionView × State)) → IsDone m r → checks.judged_unit m name r ≡ Ok u → IsPlacedObject (known_of u) o
    of_unit (Ok p) h e = of_entry p.0 p.1 (judged p.0 name p.1.calls) h e
    of_unit (Err f) h e = absurd (cc)
