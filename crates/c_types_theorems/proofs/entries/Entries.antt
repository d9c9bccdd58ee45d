-- The entry of a checked unit takes integers: each parameter of a function definition has a name, and so is a local object.
use Rattle.std.proofs.Common.{◌≡◌, ◌<◌, ◌≤◌, ◌+◌, ℕ, zero, suc, List, [], ◌∷◌, ◌++◌, Option, Some, None, Ok, Err, length, slice_get, arith, refl, ap, subst, sym, ◌∙◌}
use Rattle.std.specs.Prelude.{Bool, true, false, cond, not, is_some, nat_le, nat_lt, slice_set}
use Rattle.std.proofs.lemmas.List.{length-append}
use Rattle.std.proofs.lemmas.Bool.{lt-ltb}
use Rattle.std.proofs.lemmas.Option.{same_Some}
use Rattle.cc_base.specs.declared.diagnostics.Place.{Place}
use Rattle.cc_base.specs.declared.int_types.IntType.{IntType}
use Rattle.c_layout.specs.Types.{Ty, Int, Pointer, Array, Struct, Void}
use Rattle.c_layout.specs.DeclarationTrees.{NameView, ParameterView, ParametersView, NoParameters, OnlyVoid, ParameterList, FunctionDeclaratorView, ExternalTree, Declared, Defined, DeclaratorView, SpecTree, StatementTrees, spec_trees, statement_trees}
use Rattle.c_layout.specs.DeclarationTrees as syntax
use Rattle.c_layout.specs.CheckedUnits.{LocalView, FunctionView}
use Rattle.c_types_rules.specs.declared.call_cycles.call_graph.Call.{Call}
use Rattle.c_types_rules.specs.CallCycles.CallCycles.{first_cycle}
use Rattle.c_types_scopes.specs.Refusals.{Ruled, type_fault, redeclared}
use Rattle.c_types_scopes.specs.Answers.{after, kept}
use Rattle.c_types_scopes.specs.DeclaredTypes.{DeclaredView}
use Rattle.c_types_scopes.specs.Names.{number_in, found_here, narrowed}
use Rattle.c_types_scopes.specs.States.{State, first_state, is_evaluated, with_name}
use Rattle.c_types_scopes.specs.declared.meanings.Meaning.{Meaning}
use Rattle.c_types_declarations.specs.Declarators.{declared_type}
use Rattle.c_types_declarations.specs.Specifiers.{SpecifiedView, is_library_name}
use Rattle.c_types_declarations.specs.StructBodies.{is_stored}
use Rattle.c_types_expressions.specs.Expressions.Expressions.{before}
use Rattle.c_types_declarations.specs.SpecifierTrees.{specifiers}
use Rattle.c_types_declarations.specs.Parameters as parameters
use Rattle.c_types_declarations.specs.FunctionHeads as heads
use Rattle.c_types_declarations.specs.FunctionHeads.{HeadView}
use Rattle.c_types_statement_rules.specs.Objects.Changes.{changed_at}
use Rattle.c_types_statement_rules.specs.Objects.LocalObjects.{PartsView, typed_local}
use Rattle.c_types_statement_rules.specs.Objects.UnitObjects.{finished_objects}
use Rattle.c_types_statement_rules.specs.StatementRules.BodyFlow.{no_flow}
use Rattle.c_types_statement_rules.specs.StatementRules.Points.{Point, point}
use Rattle.c_types_statement_rules.specs.StatementRules.StatementNodes.{no_parts}
use Rattle.c_types_statements.specs.LocalDeclarations.{local_declaration}
use Rattle.c_types_statements.specs.Statements.{items}
use Rattle.c_types.specs.FileScope.ExternalDeclarations.{external_declaration, is_typedef}
use Rattle.c_types.specs.FileScope.FunctionDeclarations as functions
use Rattle.c_types.specs.declared.file_scope.function_declarations.FunctionSlot.{FunctionSlot}
use Rattle.c_types.specs.declared.file_scope.function_declarations.NameBefore.{NameBefore}
use Rattle.c_types.specs.declared.file_scope.function_declarations.NameBefore.TheVariants as standing
use Rattle.c_types.specs.Units.Streams.{with_stream}
use Rattle.c_types.specs.Units.UnitDefinitions.{with_externals}
use Rattle.c_types.specs.Units.FunctionDefinitions as definitions
use Rattle.c_types.specs.Units.UnitEntries.{is_integer, integers_from, takes_integers, entry_if, entry_from, entry_number, has_name, judged_entry, judged_calls, judged, is_other_parameter}
use Rattle.c_types.specs.Units.UnitChecks as checks
use Rattle.c_types_theorems.specs.Entries.IntegerEntries.{IsInteger, TakesIntegers, EntriesTakeIntegers}
use Rattle.c_types_theorems.proofs.entries.Leading.{Leads, kept_leads, cond_leads, then}
use Rattle.c_types_theorems.proofs.entries.Expressing.{HasSteps}
use Rattle.c_types_theorems.proofs.entries.Declaring.{HasDeclarations, declared_leads, specifiers_lead}
use Rattle.c_types_theorems.proofs.entries.Stating.{HasBodies, Comes, items_come, all_labels_lead}

-- ---- the objects of a body become more

-- how many objects the body at hand has
abbrev count : State → ℕ
count s = length s.body.locals

abbrev Grows : State → State → Type 0
Grows s t = count s ≤ count t

at_most : (n : ℕ) → n ≤ n
at_most n = omega arith

either : (s : State) (b : Bool) (x y : State) → Grows s x → Grows s y → Grows s (cond b x y)
either s true x y g h = g
either s false x y g h = h

set_long : {V : Type 0} (vs : List V) (k : ℕ) (v : V) → length (slice_set vs k v) ≡ length vs
set_long [] k v = refl
set_long (w ∷ ws) zero v = refl
set_long (w ∷ ws) (suc k) v = ap suc (set_long ws k v)

changed_at_long : {V : Type 0} (f : V → V) (k : ℕ) (vs : List V) (o : Option V) → length (changed_at f k vs o) ≡ length vs
changed_at_long f k vs None = refl
changed_at_long f k vs (Some v) = set_long vs k (f v)

steps_grow : HasSteps Grows
steps_grow = record {
  same = λ s. at_most (count s);
  trans = λ s t u a b. omega (arith, a, b);
  named = λ s text. at_most (count s);
  literal = λ s at bytes. either s (is_evaluated s) _ s (at_most (count s)) (at_most (count s));
  constant = λ s e. at_most (count s);
  called = λ s callee at. either s (is_evaluated s) _ s (at_most (count s)) (at_most (count s));
  unevaluated = λ s n. at_most (count s);
  tagged = λ s name. at_most (count s);
}

declarations_grow : HasDeclarations Grows
declarations_grow = record {
  steps = steps_grow;
  scoped = λ s x. at_most (count s);
  struct_more = λ s. at_most (count s);
  body = λ s owner. at_most (count s);
  member = λ s owner name field e. at_most (count s);
  completed = λ s t owner made first grown. grown;
  enumerations = λ s x. at_most (count s);
}

bodies_grow : HasBodies Grows
bodies_grow = record {
  declares = declarations_grow;
  local = λ s text at d. (let l = length-append s.body.locals (record { name = text; at = at; ctype = d.ctype } ∷ []) in omega (arith, l));
  local_type = λ s number t. (let l = changed_at_long (typed_local t) number s.body.locals (slice_get s.body.locals number) in omega (arith, l));
  static = λ n d s. at_most (count s);
  initial = λ s u equals index number t made i v stores numbered is grown sized constant kept. omega (arith, grown, kept);
}

-- ---- steps that make so many objects

abbrev Makes : {V : Type 0} → (V → ℕ) → State → Ruled (V × State) → Type 0
Makes n s (Ok p) = n p.0 + count s ≤ count p.1
Makes n s (Err f) = Unit {0}

more_first : {V : Type 0} (n : V → ℕ) (s t : State) (r : Ruled (V × State)) → Grows s t → Makes n t r → Makes n s r
more_first n s t (Ok p) g h = omega (arith, g, h)
more_first n s t (Err f) g h = tt

made_behind : {U V : Type 0} (n : V → ℕ) (s : State) (r : Ruled (U × State)) (next : U → State → Ruled (V × State)) → Leads Grows s r → ((u : U) (t : State) → Makes n t (next u t)) → Makes n s (after r next)
made_behind n s (Ok p) next a b = more_first n s p.1 (next p.0 p.1) a (b p.0 p.1)
made_behind n s (Err f) next a b = tt

-- ---- parameters

both_true : (a b : Bool) → cond a b false ≡ true → (a ≡ true) × (b ≡ true)
both_true true b h = (refl, h)
both_true false b h = absurd (cc)

abbrev one : {V : Type 0} → V → ℕ
one v = 1

declared_makes : (name : ℕ) (n : NameView) (d : DeclaredView) (s : State) (m : Option Meaning) → Makes one s (parameters.parameter_of name n d s m)
declared_makes name n d s (Some m) = tt
declared_makes name n d s None = let l = length-append s.body.locals (record { name = n.text; at = n.at; ctype = d.ctype } ∷ []) in omega (arith, l)

typed_as_makes : (t : Ty) (s : State) (r : Ruled (Unit {0} × State)) → Makes one s r → Makes one s (parameters.typed_as t r)
typed_as_makes t s (Ok p) h = h
typed_as_makes t s (Err f) h = tt

named_makes : (n : Option NameView) (d : DeclaredView) (s : State) → is_some n ≡ true → Makes one s (parameters.named_parameter n d s)
named_makes None d s is = absurd (cc)
named_makes (Some n) d s is = declared_makes (number_in s.scopes.names n.text) n d (with_name s n.text) (found_here s.scopes (number_in s.scopes.names n.text))

stored_makes : (b : Bool) (s : State) (x y : Ruled (Ty × State)) → Makes one s x → Makes one s y → Makes one s (cond b x y)
stored_makes true s x y g h = g
stored_makes false s x y g h = h

type_grows : (s : State) (at : Place) (base : DeclaredView) (d : Option DeclaratorView) → Leads Grows s (heads.parameter_type s at base d)
type_grows s at base None = kept_leads Grows s s (parameters.as_parameter at base) (at_most (count s))
type_grows s at base (Some d) =
    then Grows steps_grow.trans s (declared_type s at base d.layers) (heads.as_parameter_in at) (declared_leads Grows declarations_grow s at base d.layers)
    (λ v t. kept_leads Grows t t (parameters.as_parameter at v) (at_most (count t)))

parameter_makes : (s : State) (p : ParameterView) → is_some (parameters.parameter_name p) ≡ true → Makes one s (heads.add_parameter s p)
parameter_makes s p is =
    made_behind one s (specifiers s p.at false (spec_trees p.words)) (heads.specified_parameter p) (specifiers_lead Grows declarations_grow s p.at false (spec_trees p.words))
    (λ base t. made_behind one t (heads.parameter_type t (parameters.parameter_place p) base.declared p.declarator) (parameters.finish_parameter (parameters.parameter_place p) base.storage (parameters.parameter_name p)) (type_grows t (parameters.parameter_place p) base.declared p.declarator)
    (λ d u. stored_makes (is_stored base.storage) u _ _ tt (typed_as_makes d.ctype u (parameters.named_parameter (parameters.parameter_name p) d u) (named_makes (parameters.parameter_name p) d u is))))

one_before : (u : Ty) (s : State) (t : State) (r : Ruled (List Ty × State)) → 1 + count s ≤ count t → Makes length t r → Makes length s (after r (before u))
one_before u s t (Ok p) a b = omega (arith, a, b)
one_before u s t (Err f) a b = tt

first_and_rest : (ps : List ParameterView) (s : State) (r : Ruled (Ty × State)) → Makes one s r → ((t : State) → Makes length t (heads.add_parameters t ps)) → Makes length s (after r (λ u t. after (heads.add_parameters t ps) (before u)))
first_and_rest ps s (Ok p) a b = one_before p.0 s p.1 (heads.add_parameters p.1 ps) a (b p.1)
first_and_rest ps s (Err f) a b = tt

parameters_make : (ps : List ParameterView) (s : State) → parameters.each_named ps ≡ true → Makes length s (heads.add_parameters s ps)
unfolding parameters.each_named
parameters_make [] s is = omega arith
parameters_make (p ∷ ps) s is =
    let h = both_true (is_some (parameters.parameter_name p)) (parameters.each_named ps) is in
    first_and_rest ps s (heads.add_parameter s p) (parameter_makes s p h.0) (λ t. parameters_make ps t h.1)

all_make : (ps : ParametersView) (s : State) → parameters.are_named ps ≡ true → Makes length s (heads.parameters_of s ps)
all_make NoParameters s is = omega arith
all_make OnlyVoid s is = omega arith
all_make (ParameterList ps) s is = parameters_make ps s is

-- ---- heads

-- a head all of whose parameters have names has no more of them than there are objects
abbrev HasRoom : Ruled (HeadView × State) → Type 0
HasRoom (Ok p) = p.0.are_named ≡ true → length p.0.parameters ≤ count p.1
HasRoom (Err f) = Unit {0}

headed_room : (base : DeclaredView) (f : FunctionDeclaratorView) (ts : List Ty) (t : State) → (parameters.are_named f.parameters ≡ true → length ts ≤ count t) → HasRoom (heads.headed base f ts t)
headed_room base f ts t h = of_result (parameters.result_type t.known f.name.at base (length f.stars))
  where
    of_result : (r : Ruled DeclaredView) → HasRoom (kept t (heads.head_of ts (parameters.are_named f.parameters) r))
    of_result (Ok d) = h
    of_result (Err e) = tt

head_room : (s : State) (base : DeclaredView) (f : FunctionDeclaratorView) → HasRoom (heads.function_head s base f)
head_room s base f = of_parameters (heads.parameters_of (parameters.without_locals s) f.parameters) (λ is. all_make f.parameters (parameters.without_locals s) is)
  where
    of_parameters : (r : Ruled (List Ty × State)) → (parameters.are_named f.parameters ≡ true → Makes length (parameters.without_locals s) r) → HasRoom (after r (heads.headed base f))
    of_parameters (Ok p) h = headed_room base f p.0 p.1 (λ is. (let n = h is in omega (arith, n)))
    of_parameters (Err e) h = tt

-- what is met has names for all its parameters, and as many objects as before
abbrev IsMet : HeadView → State → Ruled (Unit {0} × State) → Type 0
IsMet h s (Ok p) = (h.are_named ≡ true) × Grows s p.1
IsMet h s (Err f) = Unit {0}

met_room : (n : NameView) (h : HeadView) (t : State) (number : ℕ) (b c : Bool) → h.are_named ≡ c → IsMet h t (cond b (redeclared n.at) (cond c (Ok (tt, functions.with_defined t number)) (type_fault n.at)))
met_room n h t number true c is = tt
met_room n h t number false true is = (is, at_most (count t))
met_room n h t number false false is = tt

signed_grows : (n : NameView) (number : ℕ) (b : NameBefore) (h : HeadView) (s : State) → Leads Grows s (functions.signed n number b h s)
signed_grows n number b h s = cond_leads Grows s (is_library_name n.text) _ (functions.signed_by n.at number b h s) tt (by_before b)
  where
    by_before : (b : NameBefore) → Leads Grows s (functions.signed_by n.at number b h s)
    by_before standing.Nothing = cond_leads Grows s (functions.is_declared s number) _ _ (at_most (count s)) tt
    by_before (standing.Function other) = cond_leads Grows s (functions.has_signature s number h) _ _ (at_most (count s)) tt
    by_before standing.Other = tt

met_behind : (n : NameView) (number : ℕ) (h : HeadView) (s : State) (r : Ruled (Unit {0} × State)) → Leads Grows s r → IsMet h s (after r (λ u t. functions.met_head n number h t))
met_behind n number h s (Ok p) g = on (functions.met_head n number h p.1) (met_room n h p.1 number (functions.is_defined p.1 number) h.are_named refl)
  where
    on : (r : Ruled (Unit {0} × State)) → IsMet h p.1 r → IsMet h s r
    on (Ok q) i = (i.0, omega (arith, g, i.1))
    on (Err f) i = tt
met_behind n number h s (Err f) g = tt

abbrev pub HasAll : Ruled (HeadView × State) → Type 0
HasAll (Ok p) = length p.0.parameters ≤ count p.1
HasAll (Err f) = Unit {0}

judged_room : (n : NameView) (slot : FunctionSlot) (h : HeadView) (s : State) → (h.are_named ≡ true → length h.parameters ≤ count s) → HasAll (definitions.head_in n slot h s)
judged_room n slot h s room = of_met (functions.judged_head n slot.number slot.before h s) (met_behind n slot.number h s (functions.signed n slot.number slot.before h s) (signed_grows n slot.number slot.before h s))
  where
    of_met : (r : Ruled (Unit {0} × State)) → IsMet h s r → HasAll (after r (definitions.numbered slot.known h))
    of_met (Ok p) i = let a = room i.0 in let b = i.1 in omega (arith, a, b)
    of_met (Err f) i = tt

pub defined_room : (s : State) (base : SpecifiedView) (f : FunctionDeclaratorView) → HasAll (definitions.defined_head s base f)
defined_room s base f = of_head (functions.function_slot f.name s).0 (heads.function_head (functions.in_scope (functions.function_slot f.name s).1) base.declared f) (head_room (functions.in_scope (functions.function_slot f.name s).1) base.declared f)
  where
    of_head : (slot : FunctionSlot) (r : Ruled (HeadView × State)) → HasRoom r → HasAll (after r (definitions.head_in f.name slot))
    of_head slot (Ok p) h = judged_room f.name slot p.0 p.1 h
    of_head slot (Err e) h = tt

-- ---- functions

-- the parameters of a function are among its local objects
abbrev HasParameters : FunctionView → Type 0
HasParameters f = f.parameters ≤ length f.locals

abbrev IsFunction : Ruled (FunctionView × State) → Type 0
IsFunction (Ok p) = HasParameters p.0
IsFunction (Err f) = Unit {0}

body_room : (n : NameView) (ts : StatementTrees) (h : HeadView) (s : State) → length h.parameters ≤ count s → IsFunction (definitions.with_body n ts h s)
body_room n ts h s room = of_items (items local_declaration (definitions.before_body h ts s) no_parts ts) (items_come Grows bodies_grow (definitions.before_body h ts s) no_parts ts)
  where
    labelled : Grows s (definitions.before_body h ts s).state
    labelled = all_labels_lead Grows bodies_grow ts (point s (no_flow h.declared.ctype))

    of_items : (r : Ruled (PartsView × Point)) → Comes Grows (definitions.before_body h ts s).state r → IsFunction (after (definitions.counted r) (definitions.function_of_parts n h))
    of_items (Ok p) g = let a = labelled in omega (arith, room, a, g)
    of_items (Err f) g = tt

function_room : (s : State) (at : Place) (words : List SpecTree) (f : FunctionDeclaratorView) (body : List syntax.StatementTree) → IsFunction (definitions.function_definition s at words f body)
function_room s at words f body = of_words (specifiers s at false (spec_trees words))
  where
    of_body : (r : Ruled (FunctionView × State)) → IsFunction r → IsFunction (after r definitions.ended)
    of_body (Ok p) h = h
    of_body (Err e) h = tt

    of_head : (r : Ruled (HeadView × State)) → HasAll r → IsFunction (after r (definitions.with_body f.name (statement_trees body)))
    of_head (Ok p) h = body_room f.name (statement_trees body) p.0 p.1 h
    of_head (Err e) h = tt

    of_storage : (b : Bool) (r : Ruled (FunctionView × State)) → IsFunction r → IsFunction (cond b (type_fault f.name.at) r)
    of_storage true r h = tt
    of_storage false r h = h

    of_words : (r : Ruled (SpecifiedView × State)) → IsFunction (after r (definitions.defined_by f (statement_trees body)))
    of_words (Ok p) =
        let head = definitions.defined_head p.1 p.0 f in
        of_storage (is_typedef p.0.storage) (definitions.defined f (statement_trees body) p.0 p.1)
        (of_body (after head (definitions.with_body f.name (statement_trees body))) (of_head head (defined_room p.1 p.0 f)))
    of_words (Err e) = tt

abbrev All : List FunctionView → Type 0
All [] = Unit {0}
All (f ∷ fs) = HasParameters f × All fs

all_with : (fs : List FunctionView) (f : FunctionView) → All fs → HasParameters f → All (fs ++ f ∷ [])
all_with [] f all one = (one, tt)
all_with (g ∷ fs) f all one = (all.0, all_with fs f all.1 one)

all_at : (fs : List FunctionView) (k : ℕ) (f : FunctionView) → All fs → slice_get fs k ≡ Some f → HasParameters f
all_at [] k f all is = absurd (cc)
all_at (g ∷ fs) zero f all is = subst HasParameters (same_Some g f is) all.0
all_at (g ∷ fs) (suc k) f all is = all_at fs k f all.1 is

abbrev AreFunctions : Ruled (List FunctionView × State) → Type 0
AreFunctions (Ok p) = All p.0
AreFunctions (Err f) = Unit {0}

external_room : (s : State) (made : List FunctionView) (e : ExternalTree) → All made → AreFunctions (checks.external s made e)
external_room s made (Declared at words ds) all = of_declaration (external_declaration s at words ds)
  where
    of_declaration : (r : Ruled (Unit {0} × State)) → AreFunctions (after r (checks.functions_kept made))
    of_declaration (Ok p) = all
    of_declaration (Err f) = tt
external_room s made (Defined at words f body) all = of_function (definitions.function_definition s at words f body) (function_room s at words f body)
  where
    of_function : (r : Ruled (FunctionView × State)) → IsFunction r → AreFunctions (after r (checks.with_function made))
    of_function (Ok p) h = all_with made p.0 all h
    of_function (Err e) h = tt

further : (es : List ExternalTree) (r : Ruled (List FunctionView × State)) → ((t : State) (more : List FunctionView) → All more → AreFunctions (checks.externals t more es)) → AreFunctions r → AreFunctions (after r (λ more t. checks.externals t more es))
further es (Ok p) all h = all p.1 p.0 h
further es (Err f) all h = tt

externals_room : (es : List ExternalTree) (s : State) (made : List FunctionView) → All made → AreFunctions (checks.externals s made es)
externals_room [] s made all = all
externals_room (e ∷ es) s made all = further es (checks.external s made e) (λ t more h. externals_room es t more h) (external_room s made e all)

unit_room : (s : State) (es : List ExternalTree) → AreFunctions (checks.typed_unit s es)
unit_room s es = of_externals (checks.externals (with_externals es (with_stream s)) [] es) (externals_room es (with_externals es (with_stream s)) [] tt)
  where
    of_objects : (made : List FunctionView) → All made → (r : Ruled (Unit {0} × State)) → AreFunctions (after r (checks.functions_kept made))
    of_objects made h (Ok p) = h
    of_objects made h (Err f) = tt

    of_externals : (r : Ruled (List FunctionView × State)) → AreFunctions r → AreFunctions (after r checks.finished)
    of_externals (Ok p) h = of_objects p.0 h (finished_objects p.1)
    of_externals (Err f) h = tt

-- ---- entries

get_within : {A : Type 0} (xs : List A) (k : ℕ) → k < length xs → (x : A) × (slice_get xs k ≡ Some x)
get_within [] k h = absurd (omega (arith, h))
get_within (x ∷ xs) zero h = (x, refl)
get_within (x ∷ xs) (suc k) h = get_within xs k (omega (arith, h))

is_kind : (t : Ty) → is_integer t ≡ true → (kind : IntType) × (t ≡ Int kind)
is_kind (Int kind) h = (kind, refl)
is_kind (Pointer t) h = absurd (cc)
is_kind (Array t n) h = absurd (cc)
is_kind (Struct i) h = absurd (cc)
is_kind Void h = absurd (cc)

not_other : (b c : Bool) → cond b (not c) false ≡ false → b ≡ true → c ≡ true
not_other true true h is = refl
not_other true false h is = absurd (cc)
not_other false c h is = absurd (cc)

neither : (b c : Bool) → cond b false c ≡ true → (b ≡ false) × (c ≡ true)
neither true c h = absurd (cc)
neither false c h = (refl, h)

integers_at : (ls : List LocalView) (at n k : ℕ) (l : LocalView) → integers_from at n ls ≡ true → slice_get ls k ≡ Some l → at + k < n → is_integer l.ctype ≡ true
unfolding integers_from
integers_at [] at n k l h is less = absurd (cc)
integers_at (m ∷ ls) at n zero l h is less =
    let first = neither (is_other_parameter at n m) (integers_from (at + 1) n ls) h in
    let small : nat_lt at n ≡ true = lt-ltb at n (omega (arith, less)) in
    subst (λ v. is_integer v.ctype ≡ true) (same_Some m l is) (not_other (nat_lt at n) (is_integer m.ctype) first.0 small)
integers_at (m ∷ ls) at n (suc k) l h is less =
    let first = neither (is_other_parameter at n m) (integers_from (at + 1) n ls) h in
    integers_at ls (at + 1) n k l first.1 is (omega (arith, less))

-- what is found is a function that takes integers
pub record IsEntry (at : ℕ) (fs : List FunctionView) (entry : ℕ) : Type 0 where
  pub k : ℕ
  pub is : entry ≡ at + k
  pub f : FunctionView
  pub among : slice_get fs k ≡ Some f
  pub takes : takes_integers f ≡ true

narrowed_is : (at e : ℕ) (b : Bool) → cond b (Some at) None ≡ Some e → e ≡ at
narrowed_is at e true h = sym (same_Some at e h)
narrowed_is at e false h = absurd (cc)

taken : (b : Bool) (at e : ℕ) → cond b (narrowed (Some at)) None ≡ Some e → (b ≡ true) × (e ≡ at)
taken true at e h = (refl, narrowed_is at e (nat_le at 4294967295) h)
taken false at e h = absurd (cc)

named_entry : (f : FunctionView) (fs : List FunctionView) (at e : ℕ) (b : Bool) (rest : Option ℕ) → (rest ≡ Some e → IsEntry (at + 1) fs e) → cond b (entry_if f at) rest ≡ Some e → IsEntry at (f ∷ fs) e
named_entry f fs at e true rest more h = let t = taken (takes_integers f) at e h in let i = t.1 in record { k = 0; is = omega (arith, i); f = f; among = refl; takes = t.0 }
named_entry f fs at e false rest more h = let r = more h in let i = r.is in record { k = suc r.k; is = omega (arith, i); f = r.f; among = r.among; takes = r.takes }

pub found_entry : (fs : List FunctionView) (at : ℕ) (name : List ℕ) (e : ℕ) → entry_from at fs name ≡ Some e → IsEntry at fs e
unfolding entry_from
found_entry [] at name e h = absurd (cc)
found_entry (f ∷ fs) at name e h = named_entry f fs at e (has_name f name) (entry_from (at + 1) fs name) (λ g. found_entry fs (at + 1) name e g) h

abbrev value_or : {V : Type 0} → V → Ruled V → V
value_or other (Ok v) = v
value_or other (Err f) = other

pub same_value : {V : Type 0} (a b : V) → (let r : Ruled V = Ok a in r) ≡ Ok b → a ≡ b
same_value a b h = ap (value_or a) h

pub judged_is : (fs : List FunctionView) (calls : List Call) (e : ℕ) (found : Option ℕ) → judged_entry calls found ≡ Ok e → found ≡ Some e
judged_is fs calls e None h = absurd (cc)
judged_is fs calls e (Some n) h = by_calls (first_cycle calls) h
  where
    by_calls : (o : Option Place) → judged_calls n o ≡ Ok e → Some n ≡ Some e
    by_calls None g = ap Some (same_value n e g)
    by_calls (Some at) g = absurd (cc)

takes_all : (fs : List FunctionView) (entry : ℕ) (name : List ℕ) → All fs → entry_number fs name ≡ Some entry → (f : FunctionView) → slice_get fs entry ≡ Some f → (k : ℕ) → k < f.parameters → IsInteger f k
takes_all fs entry name all found f among k less =
    let e = found_entry fs 0 name entry found in
    let here : slice_get fs entry ≡ Some e.f = ap (slice_get fs) (let i = e.is in let j : entry ≡ e.k = omega (arith, i) in j) ∙ e.among in
    let same : e.f ≡ f = same_Some e.f f (sym here ∙ among) in
    let takes : takes_integers f ≡ true = subst (λ g. takes_integers g ≡ true) same e.takes in
    let room = all_at fs entry f all among in
    let l = get_within f.locals k (omega (arith, room, less)) in
    let kind = is_kind l.0.ctype (integers_at f.locals 0 f.parameters k l.0 takes l.1 (omega (arith, less))) in
    (l.0, kind.0, l.1, kind.1)

pub entries_take_integers : EntriesTakeIntegers
entries_take_integers m name es u is = of_unit (checks.typed_unit (first_state m) es) (unit_room (first_state m) es) is
  where
    of_entry : (fs : List FunctionView) (s : State) (r : Ruled ℕ) → All fs → (e : (entry : ℕ) → r ≡ Ok entry → entry_number fs name ≡ Some entry) → checks.entered m fs s r ≡ Ok u → TakesIntegers u
    of_entry fs s (Ok entry) all e h = subst TakesIntegers (same_value (checks.unit_of m fs s entry) u h) (λ f among k less. takes_all fs entry name all (e entry refl) f among k less)
    of_entry fs s (Err f) all e h = absurd (cc)

    of_unit : (r : Ruled (List FunctionView × State)) → AreFunctions r → checks.judged_unit m name r ≡ Ok u → TakesIntegers u
    of_unit (Ok p) all h = of_entry p.0 p.1 (judged p.0 name p.1.calls) all (λ entry j. judged_is p.0 p.1.calls entry (entry_number p.0 name) j) h
    of_unit (Err f) all h = absurd (cc)
