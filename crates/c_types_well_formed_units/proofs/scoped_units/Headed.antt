-- Function definitions: the parameters are the first objects of the body, and the body names what lives.
use Rattle.std.proofs.Common.{◌≡◌, ◌<◌, ◌≤◌, ◌+◌, ◌⊎◌, inl, inr, ℕ, suc, Bool, true, false, List, [], ◌∷◌, ◌++◌, length, Option, Some, None, Ok, Err, arith, refl, subst, sym, ◌∙◌}
use Rattle.std.specs.Prelude.{cond, ◌&&◌, nat_le, is_some}
use Rattle.std.proofs.lemmas.Bool.{le-leb}
use Rattle.std.proofs.lemmas.List.{length-append}
use Rattle.cc_base.specs.declared.diagnostics.Place.{Place}
use Rattle.c_layout.specs.Types.{Ty}
use Rattle.c_layout.specs.CheckedTrees as tree
use Rattle.c_layout.specs.CheckedUnits.{FunctionView}
use Rattle.c_layout.specs.DeclarationTrees as syntax
use Rattle.c_layout.specs.DeclarationTrees.{NameView, DeclaratorView, ParameterView, ParametersView, NoParameters, OnlyVoid, ParameterList, FunctionDeclaratorView, SpecTree, StatementTrees, spec_trees}
use Rattle.c_types_scopes.specs.Answers.{after, kept}
use Rattle.c_types_scopes.specs.DeclaredTypes.{DeclaredView}
use Rattle.c_types_scopes.specs.Names.{number_in, found_here}
use Rattle.c_types_scopes.specs.Refusals.{Ruled, type_fault, redeclared}
use Rattle.c_types_scopes.specs.ScopeTables as table
use Rattle.c_types_scopes.specs.ScopeTables.{TableView}
use Rattle.c_types_scopes.specs.States.{State, is_evaluated, with_name}
use Rattle.c_types_scopes.specs.declared.meanings.Meaning.{Meaning}
use Rattle.c_types_scopes.specs.declared.meanings.Meaning.TheVariants as meaning
use Rattle.c_types_expressions.specs.Expressions.Expressions.{before}
use Rattle.c_types_declarations.specs.Declarators.{declared_type}
use Rattle.c_types_declarations.specs.FunctionHeads as heads
use Rattle.c_types_declarations.specs.FunctionHeads.{HeadView}
use Rattle.c_types_declarations.specs.Parameters as parameters
use Rattle.c_types_declarations.specs.SpecifierTrees.{specifiers}
use Rattle.c_types_declarations.specs.Specifiers.{SpecifiedView, is_library_name}
use Rattle.c_types_declarations.specs.StructBodies.{is_stored}
use Rattle.c_types_statement_rules.specs.Objects.LocalObjects.{PartsView}
use Rattle.c_types_statement_rules.specs.StatementRules.BodyFlow.{FlowView, label_count, label_of, no_flow, with_new_label}
use Rattle.c_types_statement_rules.specs.StatementRules.Points.{Point, point}
use Rattle.c_types_statement_rules.specs.StatementRules.StatementNodes.{no_parts}
use Rattle.c_types_statements.specs.LabelNumbers as labels
use Rattle.c_types_statements.specs.LocalDeclarations.{local_declaration}
use Rattle.c_types_statements.specs.Statements.{items}
use Rattle.c_types.specs.FileScope.ExternalDeclarations.{is_typedef}
use Rattle.c_types.specs.FileScope.FunctionDeclarations as functions
use Rattle.c_types.specs.declared.file_scope.function_declarations.FunctionSlot.{FunctionSlot}
use Rattle.c_types.specs.declared.file_scope.function_declarations.NameBefore.{NameBefore}
use Rattle.c_types.specs.declared.file_scope.function_declarations.NameBefore.TheVariants as standing
use Rattle.c_types.specs.Units.FunctionDefinitions as definitions
use Rattle.c_types_theorems.proofs.entries.Entries.{HasAll, defined_room}
use Rattle.c_types_theorems.proofs.entries.Leading.{Leads, kept_leads, cond_leads, then}
use Rattle.c_types_theorems.proofs.entries.Specifying.{HasSpecifiers, declared_leads, specifiers_lead}
use Rattle.lower_functions.specs.Functions.Functions.{numbers_from}
use Rattle.lower_templates.specs.Worklist.TermKinds.{is_void}
use Rattle.semantics.specs.SourceMachine.Scopes.{is_in}
use Rattle.semantics.specs.SourceMachine.SourceStates.{result_object}
use Rattle.source_items.specs.Liveness.Lives.{kept_objects}
use Rattle.source_preservation.proofs.checks.Truths.{never}
use Rattle.source_preservation.specs.UnitChecks.LookedScopes.{is_scoped_body, is_scoped_function, are_new, are_scoped_statements}
use Rattle.source_items.specs.Returns.EndedObjects.{AreAmong}
use Rattle.c_types_well_formed_units.specs.Scoped.BlockDeclarations.{DeclareInBlocks}
use Rattle.c_types_well_formed_units.specs.Scoped.SeenObjects.{SeesAt, FollowsBy, Stays, count}
use Rattle.c_types_well_formed_units.proofs.scoped.Numbers.{two, in_parts, in_front, in_back, is_only, in_numbers, numbers_are, none_new, one_new, in_itself}
use Rattle.c_types_well_formed_units.proofs.scoped.Seen.{closes, declares, follows_twice, follows_stays, sees_more, specifiers_stay, stays_follows, stays_same, stays_sees, stays_twice}
use Rattle.c_types_well_formed_units.specs.ScopedBodies.ScopedBodies.{Adds, Apart, Itemized}
use Rattle.c_types_well_formed_units.proofs.scoped_bodies.Beside.{new_beside, apart_inside}
use Rattle.c_types_well_formed_units.proofs.scoped_bodies.Stated.{Moves, items_scoped}

-- ---- steps that make no object

-- a step by which the body at hand has as many objects as before
abbrev Even : State → State → Type 0
Even s t = Stays s t × (count t ≤ count s)

even_same : (s : State) → Even s s
even_same s = (stays_same s, omega arith)

either : (s : State) (b : Bool) (x y : State) → Even s x → Even s y → Even s (cond b x y)
either s true x y g h = g
either s false x y g h = h

even_twice : (s t u : State) → Even s t → Even t u → Even s u
even_twice s t u g h = (stays_twice s t u g.0 h.0, let a = g.1 in let b = h.1 in omega (arith, a, b))

specifiers_even : HasSpecifiers Even
specifiers_even = record {
  steps = record {
    same = even_same;
    trans = even_twice;
    named = λ s text. even_same s;
    literal = λ s at bytes. either s (is_evaluated s) _ s (even_same s) (even_same s);
    constant = λ s e. even_same s;
    called = λ s callee at. either s (is_evaluated s) _ s (even_same s) (even_same s);
    unevaluated = λ s n. even_same s;
    tagged = λ s name. even_same s;
  };
  tagged = λ s name t. even_same s;
  enumerated = λ s name value. (specifiers_stay.enumerated s name value, omega arith);
  struct_more = λ s. even_same s;
  body = λ s owner. even_same s;
  member = λ s owner name field e. even_same s;
  completed = λ s t owner p made first laid g. g;
  enumerations = λ s x. even_same s;
}

-- ---- parameters

-- a step declares at most so many new objects
pub record HeadsOf (had : TableView) (meant : List Meaning) (few : ℕ) (has : TableView) (means : List Meaning) (many extra : ℕ) : Type 0 where
  pub new : List ℕ
  pub follows : FollowsBy had meant few has means many new
  pub few_more : many ≤ few + extra

abbrev pub Heads : State → State → ℕ → Type 0
Heads s t n = HeadsOf s.scopes.ordinary s.scopes.meanings (count s) t.scopes.ordinary t.scopes.meanings (count t) n

abbrev pub HeadsBy : {V : Type 0} → (V → ℕ) → State → Ruled (V × State) → Type 0
HeadsBy n s (Ok p) = Heads s p.1 (n p.0)
HeadsBy n s (Err f) = Unit {0}

heads_twice : (s t u : State) (n m : ℕ) → Heads s t n → Heads t u m → Heads s u (n + m)
heads_twice s t u n m g h = record {
  new = g.new ++ h.new;
  follows = follows_twice s.scopes.ordinary t.scopes.ordinary u.scopes.ordinary s.scopes.meanings t.scopes.meanings u.scopes.meanings (count s) (count t) (count u) g.new h.new g.follows h.follows;
  few_more = (let a = g.few_more in let b = h.few_more in omega (arith, a, b));
}

even_heads : (s t u : State) (n : ℕ) → Even s t → Heads t u n → Heads s u n
even_heads s t u n g h = record {
  new = h.new;
  follows = stays_follows s t u h.new g.0 h.follows;
  few_more = (let a = g.1 in let b = h.few_more in omega (arith, a, b));
}

heads_even : (s t u : State) (n : ℕ) → Heads s t n → Even t u → Heads s u n
heads_even s t u n g h = record {
  new = g.new;
  follows = follows_stays s t u g.new g.follows h.0;
  few_more = (let a = g.few_more in let b = h.1 in omega (arith, a, b));
}

no_heads : (s : State) (n : ℕ) → Heads s s n
no_heads s n = record { new = []; follows = stays_same s; few_more = omega arith }

behind_even : {U V : Type 0} (n : V → ℕ) (s : State) (r : Ruled (U × State)) (next : U → State → Ruled (V × State)) → Leads Even s r → ((u : U) (t : State) → HeadsBy n t (next u t)) → HeadsBy n s (after r next)
behind_even n s (Ok p) next g h = on (next p.0 p.1) (h p.0 p.1)
  where
    on : (r : Ruled (_ × State)) → HeadsBy n p.1 r → HeadsBy n s r
    on (Ok q) l = even_heads s p.1 q.1 (n q.0) g l
    on (Err f) l = tt
behind_even n s (Err f) next g h = tt

abbrev one : {V : Type 0} → V → ℕ
one v = 1

local_heads : (name : ℕ) (n : NameView) (d : DeclaredView) (s : State) → Heads s (parameters.declared_local name n d s) 1
local_heads name n d s = record {
  new = count s ∷ [];
  follows = declares s.scopes.ordinary s.scopes.meanings (count s) (count (parameters.declared_local name n d s)) name (meaning.Local (count s)) (count s ∷ []) (omega (arith, more)) (one_new (count s) (count (parameters.declared_local name n d s)) (omega (arith, more))) (λ alive all. all (count s) (in_itself (count s)));
  few_more = omega (arith, more);
}
  where
    more : count (parameters.declared_local name n d s) ≡ count s + 1
    more = length-append s.body.locals (record { name = n.text; at = n.at; ctype = d.ctype } ∷ [])

parameter_of : (name : ℕ) (n : NameView) (d : DeclaredView) (s : State) (m : Option Meaning) → HeadsBy one s (parameters.parameter_of name n d s m)
parameter_of name n d s (Some m) = tt
parameter_of name n d s None = local_heads name n d s

named_parameter : (n : Option NameView) (d : DeclaredView) (s : State) → HeadsBy one s (parameters.named_parameter n d s)
named_parameter None d s = no_heads s 1
named_parameter (Some n) d s = parameter_of (number_in s.scopes.names n.text) n d (with_name s n.text) (found_here s.scopes (number_in s.scopes.names n.text))

typed_as : (t : Ty) (s : State) (r : Ruled (Unit {0} × State)) → HeadsBy one s r → HeadsBy one s (parameters.typed_as t r)
typed_as t s (Ok p) h = h
typed_as t s (Err f) h = tt

finished : (at : Place) (b : Bool) (s : State) (r : Ruled (Ty × State)) → HeadsBy one s r → HeadsBy one s (cond b (type_fault at) r)
finished at true s r h = tt
finished at false s r h = h

type_even : (s : State) (at : Place) (base : DeclaredView) (d : Option DeclaratorView) → Leads Even s (heads.parameter_type s at base d)
type_even s at base None = kept_leads Even s s (parameters.as_parameter at base) (even_same s)
type_even s at base (Some d) = then Even even_twice s (declared_type s at base d.layers) (heads.as_parameter_in at) (declared_leads Even specifiers_even s at base d.layers) (λ v t. kept_leads Even t t (parameters.as_parameter at v) (even_same t))

parameter_heads : (s : State) (p : ParameterView) → HeadsBy one s (heads.add_parameter s p)
parameter_heads s p =
    behind_even one s (specifiers s p.at false (spec_trees p.words)) (heads.specified_parameter p) (specifiers_lead Even specifiers_even s p.at false (spec_trees p.words))
    (λ base t. behind_even one t (heads.parameter_type t (parameters.parameter_place p) base.declared p.declarator) (parameters.finish_parameter (parameters.parameter_place p) base.storage (parameters.parameter_name p)) (type_even t (parameters.parameter_place p) base.declared p.declarator)
    (λ d u. finished (parameters.parameter_place p) (is_stored base.storage) u (parameters.typed_as d.ctype (parameters.named_parameter (parameters.parameter_name p) d u)) (typed_as d.ctype u (parameters.named_parameter (parameters.parameter_name p) d u) (named_parameter (parameters.parameter_name p) d u))))

first_and_rest : (ps : List ParameterView) (s : State) (r : Ruled (Ty × State)) → HeadsBy one s r → ((s1 : State) → HeadsBy length s1 (heads.add_parameters s1 ps)) → HeadsBy length s (after r (λ t s1. after (heads.add_parameters s1 ps) (before t)))
first_and_rest ps s (Err f) g h = tt
first_and_rest ps s (Ok p) g h = of_rest (heads.add_parameters p.1 ps) (h p.1)
  where
    of_rest : (r : Ruled (List Ty × State)) → HeadsBy length p.1 r → HeadsBy length s (after r (before p.0))
    of_rest (Ok q) l = subst (λ n. Heads s q.1 n) (let e : 1 + length q.0 ≡ suc (length q.0) = omega arith in e) (heads_twice s p.1 q.1 1 (length q.0) g l)
    of_rest (Err f) l = tt

parameters_head : (ps : List ParameterView) (s : State) → HeadsBy length s (heads.add_parameters s ps)
parameters_head [] s = no_heads s 0
parameters_head (p ∷ ps) s = first_and_rest ps s (heads.add_parameter s p) (parameter_heads s p) (λ s1. parameters_head ps s1)

parameters_of : (s : State) (ps : ParametersView) → HeadsBy length s (heads.parameters_of s ps)
parameters_of s NoParameters = no_heads s 0
parameters_of s OnlyVoid = no_heads s 0
parameters_of s (ParameterList ps) = parameters_head ps s

-- ---- heads

abbrev pub parameter_count : HeadView → ℕ
parameter_count h = length h.parameters

pub function_heads : (s : State) (base : DeclaredView) (f : FunctionDeclaratorView) → HeadsBy parameter_count (parameters.without_locals s) (heads.function_head s base f)
function_heads s base f = of_parameters (heads.parameters_of (parameters.without_locals s) f.parameters) (parameters_of (parameters.without_locals s) f.parameters)
  where
    of_result : (ts : List Ty) (t : State) (named : Bool) (r : Ruled DeclaredView) → Heads (parameters.without_locals s) t (length ts) → HeadsBy parameter_count (parameters.without_locals s) (kept t (heads.head_of ts named r))
    of_result ts t named (Ok d) h = h
    of_result ts t named (Err e) h = tt

    of_parameters : (r : Ruled (List Ty × State)) → HeadsBy length (parameters.without_locals s) r → HeadsBy parameter_count (parameters.without_locals s) (after r (heads.headed base f))
    of_parameters (Ok p) h = of_result p.0 p.1 (parameters.are_named f.parameters) (parameters.result_type p.1.known f.name.at base (length f.stars)) h
    of_parameters (Err e) h = tt

signed_even : (n : NameView) (number : ℕ) (b : NameBefore) (h : HeadView) (s : State) → Leads Even s (functions.signed n number b h s)
signed_even n number b h s = cond_leads Even s (is_library_name n.text) (redeclared n.at) (functions.signed_by n.at number b h s) tt (by_before b)
  where
    by_before : (b : NameBefore) → Leads Even s (functions.signed_by n.at number b h s)
    by_before standing.Nothing = cond_leads Even s (functions.is_declared s number) (Ok (tt, functions.with_given number h.declared h.parameters s)) (redeclared n.at) (even_same s) tt
    by_before (standing.Function other) = cond_leads Even s (functions.has_signature s number h) (Ok (tt, functions.with_result number h.declared s)) (redeclared n.at) (even_same s) tt
    by_before standing.Other = tt

pub signed_stays : (n : NameView) (number : ℕ) (b : NameBefore) (h : HeadView) (s : State) → Leads Stays s (functions.signed n number b h s)
signed_stays n number b h s = of_signed (functions.signed n number b h s) (signed_even n number b h s)
  where
    of_signed : (r : Ruled (Unit {0} × State)) → Leads Even s r → Leads Stays s r
    of_signed (Ok p) g = g.0
    of_signed (Err f) g = tt

judged_even : (n : NameView) (number : ℕ) (b : NameBefore) (h : HeadView) (s : State) → Leads Even s (functions.judged_head n number b h s)
judged_even n number b h s =
    then Even even_twice s (functions.signed n number b h s) (λ u t. functions.met_head n number h t) (signed_even n number b h s)
    (λ u t. cond_leads Even t (functions.is_defined t number) (redeclared n.at) (cond h.are_named (Ok (tt, functions.with_defined t number)) (type_fault n.at)) tt
    (cond_leads Even t h.are_named (Ok (tt, functions.with_defined t number)) (type_fault n.at) (even_same t) tt))

-- a function's name is declared, and what its head declares stands in a scope of its own
pub slot_stays : (n : NameView) (s : State) → Stays s (functions.function_slot n s).1
slot_stays n s = by_before (functions.name_before (with_name s n.text) name)
  where
    name : ℕ
    name = number_in s.scopes.names n.text

    by_before : (b : NameBefore) → Stays s (functions.with_slot (with_name s n.text) name b)
    by_before standing.Nothing = declares s.scopes.ordinary s.scopes.meanings (count s) (count s) name (meaning.Function (length s.functions)) [] (omega arith) (none_new (count s) (count s)) (λ alive all. tt)
    by_before (standing.Function number) = stays_same s
    by_before standing.Other = stays_same s

defined_heads : (s : State) (base : SpecifiedView) (f : FunctionDeclaratorView) → HeadsBy parameter_count (parameters.without_locals (functions.in_scope (functions.function_slot f.name s).1)) (definitions.defined_head s base f)
defined_heads s base f = of_head (functions.function_slot f.name s).0 (functions.in_scope (functions.function_slot f.name s).1) (heads.function_head (functions.in_scope (functions.function_slot f.name s).1) base.declared f) (function_heads (functions.in_scope (functions.function_slot f.name s).1) base.declared f)
  where
    of_judged : (slot : FunctionSlot) (s1 t : State) (h : HeadView) → Heads (parameters.without_locals s1) t (parameter_count h) → (r : Ruled (Unit {0} × State)) → Leads Even t r → HeadsBy parameter_count (parameters.without_locals s1) (after r (definitions.numbered slot.known h))
    of_judged slot s1 t h g (Ok q) l = heads_even (parameters.without_locals s1) t (definitions.with_number slot.known q.1) (parameter_count h) g l
    of_judged slot s1 t h g (Err e) l = tt

    of_head : (slot : FunctionSlot) (s1 : State) (r : Ruled (HeadView × State)) → HeadsBy parameter_count (parameters.without_locals s1) r → HeadsBy parameter_count (parameters.without_locals s1) (after r (definitions.head_in f.name slot))
    of_head slot s1 (Ok p) g = of_judged slot s1 p.1 p.0 g (functions.judged_head f.name slot.number slot.before p.0 p.1) (judged_even f.name slot.number slot.before p.0 p.1)
    of_head slot s1 (Err e) g = tt

-- ---- labels

labelled_returns : (f : FlowView) (name : ℕ) (b : Bool) → (cond b f (with_new_label f name)).returns ≡ f.returns
labelled_returns f name true = refl
labelled_returns f name false = refl

moves_on : (p q r : Point) → Moves p q → Moves q r → Moves p r
moves_on p q r g h = (stays_twice p.state q.state r.state g.0 h.0, h.1 ∙ g.1)

mutual
  labels_move : (t : syntax.StatementTree) (p : Point) → Moves p (labels.with_labels t p)
  labels_move (syntax.Declaration l) p = (stays_same p.state, refl)
  labels_move (syntax.Label n t) p = moves_on p (labels.labelled n p) (labels.with_labels t (labels.labelled n p)) (stays_same p.state, labelled_returns p.flow (number_in p.state.scopes.names n.text) (is_some (label_of p.flow (number_in p.state.scopes.names n.text)))) (labels_move t (labels.labelled n p))
  labels_move (syntax.Case at e t) p = labels_move t p
  labels_move (syntax.Default at t) p = labels_move t p
  labels_move (syntax.Block at ts) p = all_labels_move ts p
  labels_move (syntax.Expression at e) p = (stays_same p.state, refl)
  labels_move (syntax.If at c t) p = labels_move t p
  labels_move (syntax.IfElse at c t u) p = moves_on p (labels.with_labels t p) (labels.with_labels u (labels.with_labels t p)) (labels_move t p) (labels_move u (labels.with_labels t p))
  labels_move (syntax.Switch at e t) p = labels_move t p
  labels_move (syntax.While at c t) p = labels_move t p
  labels_move (syntax.Do at t c) p = labels_move t p
  labels_move (syntax.For at f c step t) p = labels_move t p
  labels_move (syntax.Goto at n) p = (stays_same p.state, refl)
  labels_move (syntax.Continue at) p = (stays_same p.state, refl)
  labels_move (syntax.Break at) p = (stays_same p.state, refl)
  labels_move (syntax.Return at e) p = (stays_same p.state, refl)

  all_labels_move : (ts : StatementTrees) (p : Point) → Moves p (labels.with_all_labels ts p)
  all_labels_move syntax.NoStatement p = (stays_same p.state, refl)
  all_labels_move (syntax.MoreStatements t ts) p = moves_on p (labels.with_labels t p) (labels.with_all_labels ts (labels.with_labels t p)) (labels_move t p) (all_labels_move ts (labels.with_labels t p))

-- ---- functions

-- what a body names lives where the parameters do and what else stands behind all its objects
body_scoped : (f : FunctionView) (b q : State) (parts : PartsView) (a : Adds b q f.returns no_parts parts) → f.scope ≡ parts.objects → f.body ≡ parts.statements → (alive : List ℕ) → SeesAt alive b → Apart alive (count b) (count q) [] → is_scoped_body f alive ≡ true
body_scoped f b q parts a scope body alive sees apart =
    subst (λ l. (are_new l alive && are_scoped_statements f (l ++ alive) (tree.statement_trees f.body)) ≡ true) (sym (scope ∙ a.objects)) (subst (λ l. (are_new a.new alive && are_scoped_statements f (a.new ++ alive) (tree.statement_trees l)) ≡ true) (sym (body ∙ a.statements))
    (two (are_new a.new alive) (are_scoped_statements f (a.new ++ alive) (tree.statement_trees a.made))
    (new_beside alive a.new (count b) (count q) a.follows.news apart)
    (a.scoped f refl (a.new ++ alive) (λ k is. in_front k a.new alive is) (sees_more alive (a.new ++ alive) b.scopes.ordinary.entries b.scopes.meanings (λ k is. in_back k a.new alive is) sees) (apart_inside alive a.new (count b) (count q) apart))))

numbers_below : (n k : ℕ) → is_in k (numbers_from 0 n) ≡ true → k < n
numbers_below n k h = let b = numbers_are 0 n k h in omega (arith, b)

-- the objects that are kept for a body are the parameters, and that of the result
kept_are : (f : FunctionView) (is_entry : Bool) (k : ℕ) → is_in k (kept_objects f is_entry) ≡ true → (k < f.parameters) ⊎ (k ≡ length f.locals)
kept_are f true k is = inl (numbers_below f.parameters k is)
kept_are f false k is = by_void (is_void f.returns) is
  where
    by_void : (b : Bool) → is_in k (cond b (numbers_from 0 f.parameters) (numbers_from 0 f.parameters ++ result_object f ∷ [])) ≡ true → (k < f.parameters) ⊎ (k ≡ length f.locals)
    by_void true h = inl (numbers_below f.parameters k h)
    by_void false h = elim (in_parts k (numbers_from 0 f.parameters) (result_object f ∷ []) h) [ inl front ↦ inl (numbers_below f.parameters k front) | inr back ↦ inr (is_only k (result_object f) back) ]

parameters_kept : (f : FunctionView) (is_entry : Bool) → AreAmong (numbers_from 0 f.parameters) (kept_objects f is_entry)
parameters_kept f true k is = is
parameters_kept f false k is = by_void (is_void f.returns)
  where
    by_void : (b : Bool) → is_in k (cond b (numbers_from 0 f.parameters) (numbers_from 0 f.parameters ++ result_object f ∷ [])) ≡ true
    by_void true = is
    by_void false = in_front k (numbers_from 0 f.parameters) (result_object f ∷ []) is

function_scoped : (f : FunctionView) (b q : State) (parts : PartsView) (a : Adds b q f.returns no_parts parts) → f.scope ≡ parts.objects → f.body ≡ parts.statements → f.parameters ≤ count b → count q ≡ length f.locals → SeesAt (numbers_from 0 f.parameters) b → is_scoped_function f ≡ true
function_scoped f b q parts a scope body few all sees =
    two (nat_le f.parameters (length f.locals)) (is_scoped_body f (kept_objects f true) && is_scoped_body f (kept_objects f false)) (le-leb f.parameters (length f.locals) (let c = a.follows.count in omega (arith, few, all, c)))
    (two (is_scoped_body f (kept_objects f true)) (is_scoped_body f (kept_objects f false)) (at_once true) (at_once false))
  where
    apart : (is_entry : Bool) → Apart (kept_objects f is_entry) (count b) (count q) []
    apart is_entry k is = elim (kept_are f is_entry k is) [ inl parameter ↦ inl (omega (arith, parameter, few)) | inr result ↦ inr (inl (omega (arith, result, all))) ]

    at_once : (is_entry : Bool) → is_scoped_body f (kept_objects f is_entry) ≡ true
    at_once is_entry = body_scoped f b q parts a scope body (kept_objects f is_entry) (sees_more (numbers_from 0 f.parameters) (kept_objects f is_entry) b.scopes.ordinary.entries b.scopes.meanings (parameters_kept f is_entry) sees) (apart is_entry)

-- a function that is defined names what lives, and no local object is seen behind it
abbrev pub Defines : State → Ruled (FunctionView × State) → Type 0
Defines s (Ok p) = SeesAt [] s → (is_scoped_function p.0 ≡ true) × SeesAt [] p.1
Defines s (Err f) = Unit {0}

-- a body behind its head
body_defines : (s t : State) (n : NameView) (ts : StatementTrees) (h : HeadView) → DeclareInBlocks ts → Heads (parameters.without_locals (functions.in_scope s)) t (parameter_count h) → parameter_count h ≤ count t → Defines s (after (definitions.with_body n ts h t) definitions.ended)
body_defines s t n ts h blocks head room = of_items (items local_declaration b no_parts ts) (items_scoped b no_parts ts blocks)
  where
    b : Point
    b = definitions.before_body h ts t

    few : ℕ
    few = parameter_count h

    labels_on : Moves (point t (no_flow h.declared.ctype)) b
    labels_on = all_labels_move ts (point t (no_flow h.declared.ctype))

    sees_parameters : SeesAt [] s → SeesAt (numbers_from 0 few) b.state
    sees_parameters sees =
        stays_sees (numbers_from 0 few) t b.state labels_on.0
        (head.follows.sees (numbers_from 0 few) (λ k is. (let m = head.follows.news.most k is in let c = head.few_more in in_numbers 0 few k (omega arith) (omega (arith, m, c)))) (sees_more [] (numbers_from 0 few) s.scopes.ordinary.entries s.scopes.meanings (λ k none. never none) sees))

    of_items : (r : Ruled (PartsView × Point)) → Itemized b no_parts r → Defines s (after (after (definitions.counted r) (definitions.function_of_parts n h)) definitions.ended)
    of_items (Err e) g = tt
    of_items (Ok v) g = λ sees.
        let a : Adds b.state v.1.state h.declared.ctype no_parts v.0 = subst (λ u. Adds b.state v.1.state u no_parts v.0) labels_on.1 g.1 in
        let inside : FollowsBy (table.opened s.scopes.ordinary) s.scopes.meanings 0 v.1.state.scopes.ordinary v.1.state.scopes.meanings (count v.1.state) (head.new ++ a.new) = follows_twice (table.opened s.scopes.ordinary) b.state.scopes.ordinary v.1.state.scopes.ordinary s.scopes.meanings b.state.scopes.meanings v.1.state.scopes.meanings 0 (count b.state) (count v.1.state) head.new a.new (follows_stays (parameters.without_locals (functions.in_scope s)) t b.state head.new head.follows labels_on.0) a.follows in (
          function_scoped (record { name = n.text; at = n.at; returns = h.declared.ctype; parameters = few; locals = v.1.state.body.locals; scope = v.0.objects; body = v.0.statements; labels = label_count v.1.flow }) b.state v.1.state v.0 a refl refl (let c = labels_on.0.count in omega (arith, room, c)) refl (sees_parameters sees),
          (closes s.scopes.ordinary s.scopes.meanings 0 v.1.state.scopes.ordinary v.1.state.scopes.meanings (count v.1.state) (head.new ++ a.new) inside).sees [] (λ k none. never none) sees,
        )

pub function_defines : (s : State) (at : Place) (words : List SpecTree) (f : FunctionDeclaratorView) (body : List syntax.StatementTree) → DeclareInBlocks (syntax.statement_trees body) → Defines s (definitions.function_definition s at words f body)
function_defines s at words f body blocks = of_words (specifiers s at false (spec_trees words)) (specifiers_lead Stays specifiers_stay s at false (spec_trees words))
  where
    ts : StatementTrees
    ts = syntax.statement_trees body

    of_head : (t : State) (r : Ruled (HeadView × State)) → HeadsBy parameter_count (parameters.without_locals (functions.in_scope t)) r → HasAll r → Defines t (after (after r (definitions.with_body f.name ts)) definitions.ended)
    of_head t (Ok p) g room = body_defines t p.1 f.name ts p.0 blocks g room
    of_head t (Err e) g room = tt

    earlier : (t u : State) (r : Ruled (FunctionView × State)) → Stays t u → Defines u r → Defines t r
    earlier t u (Ok p) g h = λ sees. h (stays_sees [] t u g sees)
    earlier t u (Err e) g h = tt

    of_storage : (t : State) (b : Bool) (r : Ruled (FunctionView × State)) → Defines t r → Defines t (cond b (type_fault f.name.at) r)
    of_storage t true r h = tt
    of_storage t false r h = h

    of_words : (r : Ruled (SpecifiedView × State)) → Leads Stays s r → Defines s (after r (definitions.defined_by f ts))
    of_words (Err e) g = tt
    of_words (Ok p) g =
        let slot : State = (functions.function_slot f.name p.1).1 in
        of_storage s (is_typedef p.0.storage) (definitions.defined f ts p.0 p.1)
        (earlier s slot (definitions.defined f ts p.0 p.1) (stays_twice s p.1 slot g (slot_stays f.name p.1)) (of_head slot (definitions.defined_head p.1 p.0 f) (defined_heads p.1 p.0 f) (defined_room p.1 p.0 f)))
