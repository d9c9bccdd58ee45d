-- What typing the head of a function leads to, by what its steps do.
use Rattle.std.proofs.Common.{◌≡◌, ◌≤◌, ◌+◌, ℕ, Bool, List, [], ◌∷◌, ◌++◌, Option, Some, None, Ok, Err, length, refl, arith, ◌∙◌}
use Rattle.std.specs.Prelude.{cond, true, false}
use Rattle.std.proofs.lemmas.List.{length-append}
use Rattle.cc_base.specs.declared.diagnostics.Place.{Place}
use Rattle.c_layout.specs.Types.{Ty}
use Rattle.c_layout.specs.DeclarationTrees.{NameView, DeclaratorView, ParameterView, ParametersView, NoParameters, OnlyVoid, ParameterList, FunctionDeclaratorView, spec_trees}
use Rattle.c_types_scopes.specs.Answers.{after, kept}
use Rattle.c_types_scopes.specs.DeclaredTypes.{DeclaredView}
use Rattle.c_types_scopes.specs.Names.{number_in, found_here}
use Rattle.c_types_scopes.specs.Refusals.{Ruled}
use Rattle.c_types_scopes.specs.States.{State, is_evaluated, with_name, with_local}
use Rattle.c_types_scopes.specs.declared.meanings.Meaning.{Meaning}
use Rattle.c_types_declarations.specs.Declarators.{declared_type}
use Rattle.c_types_declarations.specs.FunctionHeads as heads
use Rattle.c_types_declarations.specs.Parameters as parameters
use Rattle.c_types_declarations.specs.SpecifierTrees.{specifiers}
use Rattle.c_types_declarations.specs.StructBodies.{is_stored}
use Rattle.c_types_theorems.proofs.entries.Leading.{Leads, kept_leads, cond_leads, onward, then}
use Rattle.c_types_theorems.proofs.entries.Declaring.{HasDeclarations, declared_leads, specifiers_lead}
use Rattle.c_types_theorems.proofs.entries.Expressing.{HasSteps}

-- a relation in which the steps of heads stand too
pub record HasHeads (R : State → State → Type 0) : Type 0 where
  pub declares : HasDeclarations R
  pub local : (s : State) (text : List ℕ) (at : Place) (d : DeclaredView) → R s (with_local s text at d)
  pub bare : (s : State) → R s (parameters.without_locals s)

module _ (R : State → State → Type 0) (has : HasHeads R) where
  same : (s : State) → R s s
  same s = has.declares.steps.same s

  step : {U V : Type 0} (s : State) (r : Ruled (U × State)) (next : U → State → Ruled (V × State)) → Leads R s r → ((u : U) (t : State) → Leads R t (next u t)) → Leads R s (after r next)
  step s r next = then R has.declares.steps.trans s r next

  go : {V : Type 0} (s t : State) (r : Ruled (V × State)) → R s t → Leads R t r → Leads R s r
  go s t r = onward R has.declares.steps.trans s t r

  stays : {V : Type 0} (s : State) (rule : Ruled V) → Leads R s (kept s rule)
  stays s rule = kept_leads R s s rule (same s)

  parameter_of_leads : (name : ℕ) (n : NameView) (d : DeclaredView) (s : State) (m : Option Meaning) → Leads R s (parameters.parameter_of name n d s m)
  parameter_of_leads name n d s None = has.declares.steps.trans s (with_local s n.text n.at d) (parameters.declared_local name n d s) (has.local s n.text n.at d) (has.declares.scoped (with_local s n.text n.at d) _)
  parameter_of_leads name n d s (Some m) = tt

  named_parameter_leads : (n : Option NameView) (d : DeclaredView) (s : State) → Leads R s (parameters.named_parameter n d s)
  named_parameter_leads None d s = same s
  named_parameter_leads (Some n) d s = go s (with_name s n.text) (parameters.declare_parameter n d s) (has.declares.steps.named s n.text) (parameter_of_leads (number_in s.scopes.names n.text) n d (with_name s n.text) (found_here s.scopes (number_in s.scopes.names n.text)))

  typed_as_leads : (t : Ty) (s : State) (r : Ruled (Unit {0} × State)) → Leads R s r → Leads R s (parameters.typed_as t r)
  typed_as_leads t s (Ok p) h = h
  typed_as_leads t s (Err f) h = tt

  parameter_type_leads : (s : State) (at : Place) (b : DeclaredView) (d : Option DeclaratorView) → Leads R s (heads.parameter_type s at b d)
  parameter_type_leads s at b None = stays s (parameters.as_parameter at b)
  parameter_type_leads s at b (Some d) = step s (declared_type s at b d.layers) (heads.as_parameter_in at) (declared_leads R has.declares s at b d.layers) (λ v t. stays t (parameters.as_parameter at v))

  parameter_leads : (s : State) (p : ParameterView) → Leads R s (heads.add_parameter s p)
  parameter_leads s p =
      step s (specifiers s p.at false (spec_trees p.words)) (heads.specified_parameter p) (specifiers_lead R has.declares s p.at false (spec_trees p.words))
      (λ b t. step t (heads.parameter_type t (parameters.parameter_place p) b.declared p.declarator) (parameters.finish_parameter (parameters.parameter_place p) b.storage (parameters.parameter_name p)) (parameter_type_leads t (parameters.parameter_place p) b.declared p.declarator)
      (λ d u. cond_leads R u (is_stored b.storage) _ _ tt (typed_as_leads d.ctype u (parameters.named_parameter (parameters.parameter_name p) d u) (named_parameter_leads (parameters.parameter_name p) d u))))

  parameters_lead : (ps : List ParameterView) (s : State) → Leads R s (heads.add_parameters s ps)
  parameters_lead [] s = same s
  parameters_lead (p ∷ ps) s = step s (heads.add_parameter s p) _ (parameter_leads s p) (λ t s1. step s1 (heads.add_parameters s1 ps) _ (parameters_lead ps s1) (λ ts u. same u))

  all_parameters_lead : (ps : ParametersView) (s : State) → Leads R s (heads.parameters_of s ps)
  all_parameters_lead NoParameters s = same s
  all_parameters_lead OnlyVoid s = same s
  all_parameters_lead (ParameterList ps) s = parameters_lead ps s

  pub head_leads : (s : State) (b : DeclaredView) (f : FunctionDeclaratorView) → Leads R s (heads.function_head s b f)
  head_leads s b f =
      step s (heads.parameters_of (parameters.without_locals s) f.parameters) (heads.headed b f)
      (go s (parameters.without_locals s) (heads.parameters_of (parameters.without_locals s) f.parameters) (has.bare s) (all_parameters_lead f.parameters (parameters.without_locals s)))
      (λ ts t. stays t (heads.head_by t.known b f ts))

-- ---- what a head leaves as it is

-- the functions and objects that were declared, and the literals so far
pub record IsSameFile (s t : State) : Type 0 where
  pub functions : t.functions ≡ s.functions
  pub objects : t.objects ≡ s.objects
  pub statics : t.statics ≡ s.statics
  pub definitions : t.definitions ≡ s.definitions
  pub literals : length s.literals ≤ length t.literals
  pub model : t.known.numbers ≡ s.known.numbers

file_same : (s : State) → IsSameFile s s
file_same s = record { functions = refl; objects = refl; statics = refl; definitions = refl; literals = omega arith; model = refl }

file_twice : (s t u : State) → IsSameFile s t → IsSameFile t u → IsSameFile s u
file_twice s t u g h = record {
  functions = h.functions ∙ g.functions;
  objects = h.objects ∙ g.objects;
  statics = h.statics ∙ g.statics;
  definitions = h.definitions ∙ g.definitions;
  literals = (let a = g.literals in let b = h.literals in omega (arith, a, b));
  model = h.model ∙ g.model;
}

file_either : (s : State) (b : Bool) (x y : State) → IsSameFile s x → IsSameFile s y → IsSameFile s (cond b x y)
file_either s true x y g h = g
file_either s false x y g h = h

literal_more : (s : State) (at : Place) (bytes : List ℕ) → IsSameFile s (record s { literals = s.literals ++ record { at = at; bytes = bytes } ∷ [] })
literal_more s at bytes = record { functions = refl; objects = refl; statics = refl; definitions = refl; literals = (let long = length-append s.literals (record { at = at; bytes = bytes } ∷ []) in omega (arith, long)); model = refl }

plain_step : (s t : State) → t.functions ≡ s.functions → t.objects ≡ s.objects → t.statics ≡ s.statics → t.definitions ≡ s.definitions → t.literals ≡ s.literals → t.known.numbers ≡ s.known.numbers → IsSameFile s t
plain_step s t f o v d l m = record { functions = f; objects = o; statics = v; definitions = d; literals = (let e : length t.literals ≡ length s.literals = rw l refl in omega (arith, e)); model = m }

file_steps : HasSteps IsSameFile
file_steps = record {
  same = file_same;
  trans = file_twice;
  named = λ s text. plain_step s _ refl refl refl refl refl refl;
  literal = λ s at bytes. file_either s (is_evaluated s) _ s (literal_more s at bytes) (file_same s);
  constant = λ s e. plain_step s _ refl refl refl refl refl refl;
  called = λ s callee at. file_either s (is_evaluated s) _ s (plain_step s _ refl refl refl refl refl refl) (file_same s);
  unevaluated = λ s n. plain_step s _ refl refl refl refl refl refl;
  tagged = λ s name. plain_step s _ refl refl refl refl refl refl;
}

pub file_declarations : HasDeclarations IsSameFile
file_declarations = record {
  steps = file_steps;
  scoped = λ s x. plain_step s _ refl refl refl refl refl refl;
  struct_more = λ s. plain_step s _ refl refl refl refl refl refl;
  body = λ s owner. plain_step s _ refl refl refl refl refl refl;
  member = λ s owner name field e. plain_step s _ refl refl refl refl refl refl;
  completed = λ s t owner made first g. record { functions = g.functions; objects = g.objects; statics = g.statics; definitions = g.definitions; literals = g.literals; model = g.model };
  enumerations = λ s x. plain_step s _ refl refl refl refl refl refl;
}

pub heads_same : HasHeads IsSameFile
heads_same = record {
  declares = file_declarations;
  local = λ s text at d. plain_step s _ refl refl refl refl refl refl;
  bare = λ s. plain_step s _ refl refl refl refl refl refl;
}
