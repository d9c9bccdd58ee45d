-- Declarations at file scope: no name means a local object behind them.
use Rattle.std.proofs.Common.{ℕ, Bool, true, false, List, [], ◌∷◌, length, slice_get, Option, Some, None, Ok, Err, arith}
use Rattle.std.specs.Prelude.{cond}
use Rattle.cc_base.specs.declared.diagnostics.Place.{Place}
use Rattle.c_layout.specs.Types.{Ty}
use Rattle.c_layout.specs.DeclarationTrees.{NameView, SpecTree, DeclaratorLayerView, InitializerTree, InitDeclaratorView, Object, Initialized, Prototype, FunctionDeclaratorView, spec_trees}
use Rattle.c_layout.specs.declared.syntax_tree.declarations.Storage.{Storage}
use Rattle.c_types_scopes.specs.Answers.{after}
use Rattle.c_types_scopes.specs.DeclaredTypes.{DeclaredView, ObjectView}
use Rattle.c_types_scopes.specs.Definitions.{has_object}
use Rattle.c_types_scopes.specs.Names.{number_in, found_here}
use Rattle.c_types_scopes.specs.Refusals.{Ruled, redeclared, type_fault}
use Rattle.c_types_scopes.specs.States.{State, with_name, with_static}
use Rattle.c_types_scopes.specs.declared.meanings.Meaning.{Meaning}
use Rattle.c_types_scopes.specs.declared.meanings.Meaning.TheVariants as meaning
use Rattle.c_types_declarations.specs.Declarators.{declared_type}
use Rattle.c_types_declarations.specs.FunctionHeads as heads
use Rattle.c_types_declarations.specs.FunctionHeads.{HeadView}
use Rattle.c_types_expressions.specs.BracedLists.Initializers.{initializer_of}
use Rattle.c_types_declarations.specs.Parameters as parameters
use Rattle.c_types_declarations.specs.SpecifierTrees.{specifiers}
use Rattle.c_types_declarations.specs.Specifiers.{SpecifiedView, is_library_name}
use Rattle.c_types_statement_rules.specs.Objects.FileObjects as objects
use Rattle.c_types_statement_rules.specs.Objects.FileObjects.{composite}
use Rattle.c_types_statements.specs.LocalDeclarations.{are_none, is_empty}
use Rattle.c_types.specs.FileScope.ExternalDeclarations as external
use Rattle.c_types.specs.FileScope.FunctionDeclarations as functions
use Rattle.c_types.specs.declared.file_scope.function_declarations.FunctionSlot.{FunctionSlot}
use Rattle.c_types_theorems.proofs.entries.Initializing.{initializer_leads}
use Rattle.c_types_theorems.proofs.entries.Leading.{Leads, cond_leads, onward, then}
use Rattle.c_types_theorems.proofs.entries.Specifying.{declared_leads, specifiers_lead}
use Rattle.source_preservation.proofs.checks.Truths.{never}
use Rattle.c_types_well_formed_units.specs.Scoped.SeenObjects.{SeesAt, Stays, count}
use Rattle.c_types_well_formed_units.proofs.scoped.Numbers.{none_new}
use Rattle.c_types_well_formed_units.proofs.scoped.Seen.{closes, declares, specifiers_stay, stays_same, stays_sees, stays_twice, steps_stay}
use Rattle.c_types_well_formed_units.proofs.scoped_bodies.Declared.{static_leads}
use Rattle.c_types_well_formed_units.proofs.scoped_units.Headed.{HeadsBy, Heads, function_heads, parameter_count, signed_stays, slot_stays}

step : {U V : Type 0} (s : State) (r : Ruled (U × State)) (next : U → State → Ruled (V × State)) → Leads Stays s r → ((u : U) (t : State) → Leads Stays t (next u t)) → Leads Stays s (after r next)
step s r next = then Stays stays_twice s r next

-- ---- typedef names

typedef_leads : (n : NameView) (d : DeclaredView) (s : State) → Leads Stays s (external.typedef_in n d s)
typedef_leads n d s =
    let name : ℕ = number_in s.scopes.names n.text in
    cond_leads Stays s (external.is_taken name n.text (with_name s n.text)) (redeclared n.at) (Ok (tt, external.with_typedef name d (with_name s n.text))) tt
    (declares s.scopes.ordinary s.scopes.meanings (count s) (count s) name (meaning.Typedef (length s.typedefs)) [] (omega arith) (none_new (count s) (count s)) (λ alive all. tt))

typedef_declarator : (s : State) (base : SpecifiedView) (at : Place) (d : InitDeclaratorView) → Leads Stays s (external.typedef_declarator s base at d)
typedef_declarator s base at (Object d) = by_name d.name
  where
    by_name : (n : Option NameView) → Leads Stays s (external.typedef_named s base at n d.layers)
    by_name None = tt
    by_name (Some n) = step s (declared_type s n.at base.declared d.layers) (external.typedef_in n) (declared_leads Stays specifiers_stay s n.at base.declared d.layers) (λ v t. typedef_leads n v t)
typedef_declarator s base at (Initialized d equals i) = by_name d.name
  where
    by_name : (n : Option NameView) → Leads Stays s (external.initialized_typedef_named s base n d.layers equals i)
    by_name None = tt
    by_name (Some n) =
        step s (declared_type s n.at base.declared d.layers) (external.typedef_initializer equals i) (declared_leads Stays specifiers_stay s n.at base.declared d.layers)
        (λ v t. step t (initializer_of t equals v.ctype i) (external.no_typedef equals) (initializer_leads Stays steps_stay t equals v.ctype i) (λ m u. tt))
typedef_declarator s base at (Prototype f) = tt

-- ---- objects

first_stays : (name : ℕ) (n : NameView) (d : DeclaredView) (s : State) → Stays s (objects.first_declaration name n d s)
first_stays name n d s = by_definition (has_object s.definitions name)
  where
    by_definition : (b : Bool) → Stays s (objects.with_declaration name (objects.first_object (objects.defined_number name s) d) (cond b (with_static s n.text n.at d.ctype) s))
    by_definition true = declares s.scopes.ordinary s.scopes.meanings (count s) (count s) name (meaning.Static (length s.objects)) [] (omega arith) (none_new (count s) (count s)) (λ alive all. tt)
    by_definition false = declares s.scopes.ordinary s.scopes.meanings (count s) (count s) name (meaning.Static (length s.objects)) [] (omega arith) (none_new (count s) (count s)) (λ alive all. tt)

indexed_leads : (index : ℕ) (s : State) (r : Ruled (Unit {0} × State)) → Leads Stays s r → Leads Stays s (external.indexed index r)
indexed_leads index s (Ok p) h = h
indexed_leads index s (Err f) h = tt

next_with : (index : ℕ) (at : Place) (d : DeclaredView) (number : Option ℕ) (s : State) (o : Option Ty) → Leads Stays s (objects.next_with index at d number s o)
next_with index at d number s None = tt
next_with index at d number s (Some t) = stays_same s

next_of : (index : ℕ) (at : Place) (d : DeclaredView) (s : State) (o : Option ObjectView) → Leads Stays s (objects.next_of index at d s o)
next_of index at d s None = tt
next_of index at d s (Some o) = next_with index at d o.number s (composite o.declared.ctype d.ctype)

object_as : (name : ℕ) (n : NameView) (d : DeclaredView) (s : State) (m : Option Meaning) → Leads Stays s (external.object_as name n d s m)
object_as name n d s None = first_stays name n d s
object_as name n d s (Some (meaning.Static index)) = indexed_leads index s (objects.next_declaration index n.at d s) (next_of index n.at d s (slice_get s.objects index))
object_as name n d s (Some (meaning.Local k)) = tt
object_as name n d s (Some (meaning.Function k)) = tt
object_as name n d s (Some (meaning.Typedef k)) = tt
object_as name n d s (Some (meaning.Enumerator v)) = tt

object_in : (n : NameView) (stored : Option Storage) (has : Bool) (d : DeclaredView) (s : State) → Leads Stays s (external.object_in n stored has d s)
object_in n stored has d s =
    let name : ℕ = number_in s.scopes.names n.text in
    cond_leads Stays s (objects.may_be_object s.known d.ctype stored has) (external.object_named n d s) (type_fault n.at)
    (cond_leads Stays s (is_library_name n.text) (redeclared n.at) (external.object_by name n d (with_name s n.text)) tt (object_as name n d (with_name s n.text) (found_here s.scopes name)))
    tt

declared_object : (s : State) (base : SpecifiedView) (n : NameView) (layers : List DeclaratorLayerView) (has : Bool) → Leads Stays s (external.declared_object s base n layers has)
declared_object s base n layers has = step s (declared_type s n.at base.declared layers) (external.object_in n base.storage has) (declared_leads Stays specifiers_stay s n.at base.declared layers) (λ d t. object_in n base.storage has d t)

initializer_by : (equals : Place) (i : InitializerTree) (index : ℕ) (s : State) (r : Ruled (Ty × ℕ)) → Leads Stays s (external.initializer_by equals i index s r)
initializer_by equals i index s (Ok o) = static_leads s index o.1 equals o.0 i
initializer_by equals i index s (Err f) = tt

object_initializer : (at equals : Place) (i : InitializerTree) (index : ℕ) (s : State) → Leads Stays s (external.object_initializer at equals i index s)
object_initializer at equals i index s =
    let begun : State = objects.with_initialized index s in
    cond_leads Stays s (objects.is_initialized s index) (redeclared at) (external.initializer_at at equals i index begun) tt
    (onward Stays stays_twice s begun (external.initializer_at at equals i index begun) (stays_same s) (initializer_by equals i index begun (objects.object_at begun at index)))

-- ---- prototypes

-- a step behind which no name means a local object, if none did before it
abbrev pub Sighted : State → State → Type 0
Sighted s t = SeesAt [] s → SeesAt [] t

pub sighted_twice : (s t u : State) → Sighted s t → Sighted t u → Sighted s u
sighted_twice s t u g h sees = h (g sees)

pub sighted : {V : Type 0} (s : State) (r : Ruled (V × State)) → Leads Stays s r → Leads Sighted s r
sighted s (Ok p) g = λ sees. stays_sees [] s p.1 g sees
sighted s (Err f) g = tt

prototype_leads : (s : State) (base : SpecifiedView) (f : FunctionDeclaratorView) → Leads Sighted s (functions.prototype s base f)
prototype_leads s base f = of_head (functions.function_slot f.name s).0 (heads.function_head (functions.in_scope slot) base.declared f) (function_heads (functions.in_scope slot) base.declared f)
  where
    slot : State
    slot = (functions.function_slot f.name s).1

    outside : (t : State) (n : ℕ) → Heads (parameters.without_locals (functions.in_scope slot)) t n → Sighted s (functions.out_of_scope t)
    outside t n g sees = (closes slot.scopes.ordinary slot.scopes.meanings 0 t.scopes.ordinary t.scopes.meanings (count t) g.new g.follows).sees [] (λ k none. never none) (stays_sees [] s slot (slot_stays f.name s) sees)

    of_head : (p : FunctionSlot) (r : Ruled (HeadView × State)) → HeadsBy parameter_count (parameters.without_locals (functions.in_scope slot)) r → Leads Sighted s (after r (λ h t. functions.signed f.name p.number p.before h (functions.out_of_scope t)))
    of_head p (Ok q) g = onward Sighted sighted_twice s (functions.out_of_scope q.1) (functions.signed f.name p.number p.before q.0 (functions.out_of_scope q.1)) (outside q.1 (parameter_count q.0) g) (sighted (functions.out_of_scope q.1) (functions.signed f.name p.number p.before q.0 (functions.out_of_scope q.1)) (signed_stays f.name p.number p.before q.0 (functions.out_of_scope q.1)))
    of_head p (Err e) g = tt

-- ---- declarations

plain_named : (s : State) (base : SpecifiedView) (at : Place) (n : Option NameView) (layers : List DeclaratorLayerView) → Leads Stays s (external.plain_named s base at n layers)
plain_named s base at None layers = tt
plain_named s base at (Some n) layers = step s (external.declared_object s base n layers false) external.only_declared (declared_object s base n layers false) (λ index t. stays_same t)

initialized_named : (s : State) (base : SpecifiedView) (at : Place) (n : Option NameView) (layers : List DeclaratorLayerView) (equals : Place) (i : InitializerTree) → Leads Stays s (external.initialized_named s base at n layers equals i)
initialized_named s base at None layers equals i = tt
initialized_named s base at (Some n) layers equals i = step s (external.declared_object s base n layers true) (external.object_initializer n.at equals i) (declared_object s base n layers true) (λ index t. object_initializer n.at equals i index t)

object_declarator : (s : State) (base : SpecifiedView) (at : Place) (d : InitDeclaratorView) → Leads Sighted s (external.object_declarator s base at d)
object_declarator s base at (Object d) = sighted s (external.plain_named s base at d.name d.layers) (plain_named s base at d.name d.layers)
object_declarator s base at (Initialized d equals i) = sighted s (external.initialized_named s base at d.name d.layers equals i) (initialized_named s base at d.name d.layers equals i)
object_declarator s base at (Prototype f) = prototype_leads s base f

declarators_lead : (ds : List InitDeclaratorView) (s : State) (base : SpecifiedView) (at : Place) → Leads Sighted s (external.declarators s base at ds)
declarators_lead [] s base at = λ sees. sees
declarators_lead (d ∷ ds) s base at =
    then Sighted sighted_twice s (external.declarator s base at d) (λ u t. external.declarators t base at ds)
    (cond_leads Sighted s (external.is_typedef base.storage) (external.typedef_declarator s base at d) (external.object_declarator s base at d) (sighted s (external.typedef_declarator s base at d) (typedef_declarator s base at d)) (object_declarator s base at d))
    (λ u t. declarators_lead ds t base at)

pub external_leads : (s : State) (at : Place) (words : List SpecTree) (ds : List InitDeclaratorView) → Leads Sighted s (external.external_declaration s at words ds)
external_leads s at words ds =
    then Sighted sighted_twice s (specifiers s at (are_none ds) (spec_trees words)) (external.declared_by at ds) (sighted s (specifiers s at (are_none ds) (spec_trees words)) (specifiers_lead Stays specifiers_stay s at (are_none ds) (spec_trees words)))
    (λ base t. cond_leads Sighted t (is_empty ds base) (type_fault at) (external.declarators t base at ds) tt (declarators_lead ds t base at))
