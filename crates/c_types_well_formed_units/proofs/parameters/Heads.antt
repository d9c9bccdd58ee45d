-- The parameters of a head that all have names are the first objects of the body, each of its type, and stay so.
use Rattle.std.proofs.Common.{◌≡◌, ℕ, Bool, true, false, List, [], ◌∷◌, ◌++◌, length, map, Option, Some, None, Ok, Err, refl, ap, subst, sym, ◌∙◌, append_assoc}
use Rattle.std.specs.Prelude.{cond, is_some}
use Rattle.std.proofs.lemmas.List.{append-nil, map-append}
use Rattle.cc_base.specs.declared.diagnostics.Place.{Place}
use Rattle.c_layout.specs.Types.{Ty}
use Rattle.c_layout.specs.DeclarationTrees.{NameView, DeclaratorView, ParameterView, ParametersView, NoParameters, OnlyVoid, ParameterList, FunctionDeclaratorView, StatementTrees, spec_trees}
use Rattle.c_layout.specs.CheckedUnits.{LocalView, FunctionView}
use Rattle.c_types_scopes.specs.Answers.{after, kept}
use Rattle.c_types_scopes.specs.DeclaredTypes.{DeclaredView}
use Rattle.c_types_scopes.specs.Names.{number_in, found_here}
use Rattle.c_types_scopes.specs.Refusals.{Ruled}
use Rattle.c_types_scopes.specs.States.{State, with_name}
use Rattle.c_types_scopes.specs.declared.meanings.Meaning.{Meaning}
use Rattle.c_types_scopes.specs.declared.meanings.Meaning.TheVariants as meaning
use Rattle.c_types_expressions.specs.Expressions.Expressions.{before}
use Rattle.c_types_declarations.specs.Declarators.{declared_type}
use Rattle.c_types_declarations.specs.FunctionHeads as heads
use Rattle.c_types_declarations.specs.FunctionHeads.{HeadView}
use Rattle.c_types_declarations.specs.Parameters as parameters
use Rattle.c_types_declarations.specs.SpecifierTrees.{specifiers}
use Rattle.c_types_declarations.specs.StructBodies.{is_stored}
use Rattle.c_types_statement_rules.specs.Objects.LocalObjects.{PartsView}
use Rattle.c_types_statement_rules.specs.StatementRules.BodyFlow.{no_flow}
use Rattle.c_types_statement_rules.specs.StatementRules.Points.{Point, point}
use Rattle.c_types_statement_rules.specs.StatementRules.StatementNodes.{no_parts}
use Rattle.c_types_statements.specs.LocalDeclarations.{local_declaration}
use Rattle.c_types_statements.specs.Statements.{items}
use Rattle.c_types.specs.Units.FunctionDefinitions as definitions
use Rattle.c_types_theorems.proofs.entries.Leading.{Leads, kept_leads, then}
use Rattle.c_types_theorems.proofs.entries.Entries.{same_value}
use Rattle.c_types_theorems.proofs.entries.Specifying.{declared_leads, specifiers_lead}
use Rattle.c_types_theorems.proofs.entries.Blocks.{Comes, items_come, all_labels_lead}
use Rattle.c_types_well_formed_units.specs.Parameters.BodyObjects.{local_ctype, types_of, AreLike, HeadsMakeObjects, BodiesKeepTypes}
use Rattle.c_types_well_formed_units.proofs.parameters.Growing.{scope, Grows, grows_same, grows_twice, grows_declared}
use Rattle.c_types_well_formed_units.proofs.parameters.Steps.{Goes, goes_same, goes_twice, goes_named, specifiers_go, IsSame, same_passes, blocks_go}

-- parameters more, which are objects if they have names
record Adds (named : Bool) (s t : State) (ts : List Ty) : Type 0 where
  grows : Grows (scope s) (scope t)
  typed : named ≡ true → types_of t ≡ types_of s ++ ts

abbrev AddsOne : Bool → State → Ruled (Ty × State) → Type 0
AddsOne b s (Ok p) = Adds b s p.1 (p.0 ∷ [])
AddsOne b s (Err f) = Unit {0}

abbrev AddsAll : Bool → State → Ruled (List Ty × State) → Type 0
AddsAll b s (Ok p) = Adds b s p.1 p.0
AddsAll b s (Err f) = Unit {0}

one_onwards : (b : Bool) (s t : State) (r : Ruled (Ty × State)) → Goes IsSame s t → AddsOne b t r → AddsOne b s r
one_onwards b s t (Ok p) g h = record { grows = grows_twice (scope s) (scope t) (scope p.1) g.0 h.grows; typed = λ is. h.typed is ∙ ap (λ ls. map local_ctype ls ++ p.0 ∷ []) g.1 }
one_onwards b s t (Err f) g h = tt

one_behind : {U : Type 0} (b : Bool) (s : State) (r : Ruled (U × State)) (next : U → State → Ruled (Ty × State)) → Leads (Goes IsSame) s r → ((u : U) (t : State) → AddsOne b t (next u t)) → AddsOne b s (after r next)
one_behind b s (Ok p) next g h = one_onwards b s p.1 (next p.0 p.1) g (h p.0 p.1)
one_behind b s (Err f) next g h = tt

declared_adds : (name : ℕ) (n : NameView) (d : DeclaredView) (s : State) (m : Option Meaning) → AddsOne true s (parameters.typed_as d.ctype (parameters.parameter_of name n d s m))
declared_adds name n d s (Some m) = tt
declared_adds name n d s None = record {
  grows = grows_declared (scope s) name (meaning.Local (length s.body.locals)) tt;
  typed = λ is. map-append local_ctype s.body.locals (record { name = n.text; at = n.at; ctype = d.ctype } ∷ []);
}

named_adds : (n : Option NameView) (d : DeclaredView) (s : State) → AddsOne (is_some n) s (parameters.typed_as d.ctype (parameters.named_parameter n d s))
named_adds None d s = record { grows = grows_same (scope s); typed = λ is. absurd (cc) }
named_adds (Some n) d s =
    one_onwards true s (with_name s n.text) _ (goes_named IsSame same_passes s n.text)
    (declared_adds (number_in s.scopes.names n.text) n d (with_name s n.text) (found_here s.scopes (number_in s.scopes.names n.text)))

cond_adds : (b c : Bool) (s : State) (x y : Ruled (Ty × State)) → AddsOne b s x → AddsOne b s y → AddsOne b s (cond c x y)
cond_adds b true s x y g h = g
cond_adds b false s x y g h = h

type_goes : (s : State) (at : Place) (base : DeclaredView) (d : Option DeclaratorView) → Leads (Goes IsSame) s (heads.parameter_type s at base d)
type_goes s at base None = kept_leads (Goes IsSame) s s (parameters.as_parameter at base) (goes_same IsSame same_passes s)
type_goes s at base (Some d) =
    then (Goes IsSame) (goes_twice IsSame same_passes) s (declared_type s at base d.layers) (heads.as_parameter_in at) (declared_leads (Goes IsSame) (specifiers_go IsSame same_passes) s at base d.layers)
    (λ v t. kept_leads (Goes IsSame) t t (parameters.as_parameter at v) (goes_same IsSame same_passes t))

parameter_adds : (s : State) (p : ParameterView) → AddsOne (is_some (parameters.parameter_name p)) s (heads.add_parameter s p)
parameter_adds s p =
    let b = is_some (parameters.parameter_name p) in
    one_behind b s (specifiers s p.at false (spec_trees p.words)) (heads.specified_parameter p) (specifiers_lead (Goes IsSame) (specifiers_go IsSame same_passes) s p.at false (spec_trees p.words))
    (λ base t. one_behind b t (heads.parameter_type t (parameters.parameter_place p) base.declared p.declarator) (parameters.finish_parameter (parameters.parameter_place p) base.storage (parameters.parameter_name p)) (type_goes t (parameters.parameter_place p) base.declared p.declarator)
    (λ d u. cond_adds b (is_stored base.storage) u _ (parameters.typed_as d.ctype (parameters.named_parameter (parameters.parameter_name p) d u)) tt (named_adds (parameters.parameter_name p) d u)))

both_true : (a b : Bool) → cond a b false ≡ true → (a ≡ true) × (b ≡ true)
both_true true b h = (refl, h)
both_true false b h = absurd (cc)

one_before : (b c : Bool) (u : Ty) (s t : State) (r : Ruled (List Ty × State)) → Adds b s t (u ∷ []) → AddsAll c t r → AddsAll (cond b c false) s (after r (before u))
one_before b c u s t (Ok p) g h = record {
  grows = grows_twice (scope s) (scope t) (scope p.1) g.grows h.grows;
  typed = λ is. (let x = both_true b c is in h.typed x.1 ∙ (ap (λ ts. ts ++ p.0) (g.typed x.0) ∙ append_assoc (types_of s) (u ∷ []) p.0));
}
one_before b c u s t (Err f) g h = tt

first_and_rest : (b c : Bool) (ps : List ParameterView) (s : State) (r : Ruled (Ty × State)) → AddsOne b s r → ((t : State) → AddsAll c t (heads.add_parameters t ps)) → AddsAll (cond b c false) s (after r (λ u t. after (heads.add_parameters t ps) (before u)))
first_and_rest b c ps s (Ok p) g h = one_before b c p.0 s p.1 (heads.add_parameters p.1 ps) g (h p.1)
first_and_rest b c ps s (Err f) g h = tt

adds_nothing : (s : State) → Adds true s s []
adds_nothing s = record { grows = grows_same (scope s); typed = λ is. sym (append-nil (types_of s)) }

parameters_add : (ps : List ParameterView) (s : State) → AddsAll (parameters.each_named ps) s (heads.add_parameters s ps)
unfolding parameters.each_named
parameters_add [] s = adds_nothing s
parameters_add (p ∷ ps) s = first_and_rest (is_some (parameters.parameter_name p)) (parameters.each_named ps) ps s (heads.add_parameter s p) (parameter_adds s p) (λ t. parameters_add ps t)

all_add : (ps : ParametersView) (s : State) → AddsAll (parameters.are_named ps) s (heads.parameters_of s ps)
all_add NoParameters s = adds_nothing s
all_add OnlyVoid s = adds_nothing s
all_add (ParameterList ps) s = parameters_add ps s

-- ---- heads

abbrev pub Heads : State → Ruled (HeadView × State) → Type 0
Heads s (Ok p) = Grows (scope s) (scope p.1) × (p.0.are_named ≡ true → types_of p.1 ≡ p.0.parameters)
Heads s (Err f) = Unit {0}

headed : (s t : State) (ts : List Ty) (b : Bool) (r : Ruled DeclaredView) → Adds b (parameters.without_locals s) t ts → Heads s (kept t (heads.head_of ts b r))
headed s t ts b (Ok d) h = (h.grows, h.typed)
headed s t ts b (Err f) h = tt

pub function_heads : (s : State) (base : DeclaredView) (f : FunctionDeclaratorView) → Heads s (heads.function_head s base f)
function_heads s base f = of_parameters (heads.parameters_of (parameters.without_locals s) f.parameters) (all_add f.parameters (parameters.without_locals s))
  where
    of_parameters : (r : Ruled (List Ty × State)) → AddsAll (parameters.are_named f.parameters) (parameters.without_locals s) r → Heads s (after r (heads.headed base f))
    of_parameters (Ok p) h = headed s p.1 p.0 (parameters.are_named f.parameters) (parameters.result_type p.1.known f.name.at base (length f.stars)) h
    of_parameters (Err e) h = tt

-- ---- bodies

-- a function of a head, whose first objects are those at hand
pub record IsFunctionOf (h : HeadView) (locals : List LocalView) (f : FunctionView) : Type 0 where
  pub returns : f.returns ≡ h.declared.ctype
  pub counted : f.parameters ≡ length h.parameters
  pub like : AreLike locals f.locals

abbrev pub HasBody : HeadView → State → Ruled (FunctionView × State) → Type 0
HasBody h s (Ok p) = Grows (scope s) (scope p.1) × IsFunctionOf h s.body.locals p.0
HasBody h s (Err f) = Unit {0}

pub body_goes : (n : NameView) (ts : StatementTrees) (h : HeadView) (s : State) → HasBody h s (definitions.with_body n ts h s)
body_goes n ts h s = of_items (items local_declaration (definitions.before_body h ts s) no_parts ts) (items_come (Goes AreLike) blocks_go (definitions.before_body h ts s) no_parts ts)
  where
    labelled : Goes AreLike s (definitions.before_body h ts s).state
    labelled = all_labels_lead (Goes AreLike) blocks_go ts (point s (no_flow h.declared.ctype))

    of_items : (r : Ruled (PartsView × Point)) → Comes (Goes AreLike) (definitions.before_body h ts s).state r → HasBody h s (after (definitions.counted r) (definitions.function_of_parts n h))
    of_items (Ok p) g =
        let all = blocks_go.specifies.steps.trans s (definitions.before_body h ts s).state p.1.state labelled g in
        (all.0, record { returns = refl; counted = refl; like = all.1 })
    of_items (Err f) g = tt

-- ---- the laws

head_made : (s t : State) (h : HeadView) (r : Ruled (HeadView × State)) → Heads s r → r ≡ Ok (h, t) → h.are_named ≡ true → types_of t ≡ h.parameters
head_made s t h (Ok p) g is = subst (λ q. q.0.are_named ≡ true → types_of q.1 ≡ q.0.parameters) (same_value p (h, t) is) g.1
head_made s t h (Err f) g is = absurd (cc)

pub heads_make_objects : HeadsMakeObjects
heads_make_objects s t b f h is named = head_made s t h (heads.function_head s b f) (function_heads s b f) is named

body_made : (h : HeadView) (s t : State) (f : FunctionView) (r : Ruled (FunctionView × State)) → HasBody h s r → r ≡ Ok (f, t) → AreLike s.body.locals f.locals
body_made h s t f (Ok p) g is = subst (λ q. AreLike s.body.locals q.0.locals) (same_value p (f, t) is) g.1.like
body_made h s t f (Err e) g is = absurd (cc)

pub bodies_keep_types : BodiesKeepTypes
bodies_keep_types n ts h s t f is = body_made h s t f (definitions.with_body n ts h s) (body_goes n ts h s) is
