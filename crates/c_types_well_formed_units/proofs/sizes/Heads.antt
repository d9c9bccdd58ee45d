-- Heads of functions keep types fit, and give a result and parameters that are.
use Rattle.std.proofs.Common.{◌≡◌, ℕ, List, [], ◌∷◌, ◌++◌, Option, Some, None, Ok, Err, length, refl}
use Rattle.std.specs.Prelude.{Bool, true, false, cond}
use Rattle.cc_base.specs.declared.diagnostics.Place.{Place}
use Rattle.c_layout.specs.Types.{Ty}
use Rattle.c_layout.specs.CheckedUnits.{LocalView}
use Rattle.c_layout.specs.DeclarationTrees.{NameView, DeclaratorView, ParameterView, ParametersView, NoParameters, OnlyVoid, ParameterList, FunctionDeclaratorView, spec_trees}
use Rattle.c_types_scopes.specs.Answers.{after}
use Rattle.c_types_scopes.specs.DeclaredTypes.{DeclaredView}
use Rattle.c_types_scopes.specs.Known.{Known}
use Rattle.c_types_scopes.specs.Names.{number_in, found_here}
use Rattle.c_types_scopes.specs.Refusals.{Ruled, type_fault}
use Rattle.c_types_scopes.specs.States.{State, with_name}
use Rattle.c_types_scopes.specs.declared.meanings.Meaning.{Meaning}
use Rattle.c_types_operands.specs.Operands.{is_scalar}
use Rattle.c_types_expressions.specs.Expressions.Expressions.{before}
use Rattle.c_types_declarations.specs.Declarators.{declared_type}
use Rattle.c_types_declarations.specs.FunctionHeads as heads
use Rattle.c_types_declarations.specs.FunctionHeads.{HeadView}
use Rattle.c_types_declarations.specs.Parameters as parameters
use Rattle.c_types_declarations.specs.SpecifierTrees.{specifiers}
use Rattle.c_types_declarations.specs.StructBodies.{is_stored}
use Rattle.c_types_theorems.proofs.entries.Specifying.{declared_leads, specifiers_lead}
use Rattle.c_types_theorems.proofs.units.Kept.{later_same}
use Rattle.c_types_well_formed.proofs.initializers.ReadySteps.{each_more}
use Rattle.c_types_well_formed_units.specs.Sizes.FitTypes.{IsFit}
use Rattle.c_types_well_formed_units.proofs.sizes.FitTypes.{scalar_fit, result_fit}
use Rattle.c_types_well_formed_units.proofs.sizes.Keeping as keeping
use Rattle.c_types_well_formed_units.proofs.sizes.Keeping.{Sized, Keeps, specifiers_keep, To, any, Holds, here, onward, then, cond_to, stays, led}
use Rattle.c_types_well_formed_units.proofs.sizes.Locals.{Fits}

-- ---- parameters

parameter_more : (s : State) (name : ℕ) (n : NameView) (d : DeclaredView) → Sized s → Fits d s → Sized (parameters.declared_local name n d s)
parameter_more s name n d h fit =
    let new : LocalView = record { name = n.text; at = n.at; ctype = d.ctype } in
    keeping.with_local s.known s.types s.typedefs s.objects s.body.locals s.statics s.initializers h (s.body.locals ++ new ∷ []) (each_more (λ (l : LocalView). IsFit s.known l.ctype) s.body.locals new h.local fit)

parameter_to : (name : ℕ) (n : NameView) (d : DeclaredView) (s : State) (m : Option Meaning) → Sized s → Fits d s → To s any (parameters.parameter_of name n d s m)
parameter_to name n d s None h fit = ((parameter_more s name n d h fit, later_same s.known s.types), tt)
parameter_to name n d s (Some m) h fit = tt

named_to : (n : Option NameView) (d : DeclaredView) (s : State) → Sized s → Fits d s → To s any (parameters.named_parameter n d s)
named_to None d s h fit = here s any (tt {0}) h tt
named_to (Some n) d s h fit =
    onward s (with_name s n.text) any (parameters.declare_parameter n d s) (h, later_same s.known s.types) (parameter_to (number_in s.scopes.names n.text) n d (with_name s n.text) (found_here s.scopes (number_in s.scopes.names n.text)) h fit)

typed_as_to : (t : Ty) (s : State) (r : Ruled (Unit {0} × State)) → To s any r → To s any (parameters.typed_as t r)
typed_as_to t s (Ok p) h = (h.0, tt)
typed_as_to t s (Err f) h = tt

scalar_holds : (k : Known) (at : Place) (d : DeclaredView) → Holds (λ (x : DeclaredView). IsFit k x.ctype) (parameters.if_scalar at d)
scalar_holds k at d = by (is_scalar d.ctype) refl
  where
    by : (b : Bool) → is_scalar d.ctype ≡ b → Holds (λ (x : DeclaredView). IsFit k x.ctype) (cond b (Ok d) (type_fault at))
    by true is = scalar_fit k d.ctype is
    by false is = tt

type_to : (s : State) (at : Place) (b : DeclaredView) (d : Option DeclaratorView) → Sized s → To s Fits (heads.parameter_type s at b d)
type_to s at b None h = stays s Fits (parameters.as_parameter at b) h (scalar_holds s.known at (parameters.adjusted b))
type_to s at b (Some d) h =
    then s any Fits (declared_type s at b d.layers) (heads.as_parameter_in at) (led s (declared_type s at b d.layers) h (declared_leads Keeps specifiers_keep s at b d.layers))
    (λ v t g later x. stays t Fits (parameters.as_parameter at v) g (scalar_holds t.known at (parameters.adjusted v)))

add_to : (s : State) (p : ParameterView) → Sized s → To s any (heads.add_parameter s p)
add_to s p h =
    then s any any (specifiers s p.at false (spec_trees p.words)) (heads.specified_parameter p) (led s (specifiers s p.at false (spec_trees p.words)) h (specifiers_lead Keeps specifiers_keep s p.at false (spec_trees p.words)))
    (λ b t g later x. then t Fits any (heads.parameter_type t (parameters.parameter_place p) b.declared p.declarator) (parameters.finish_parameter (parameters.parameter_place p) b.storage (parameters.parameter_name p)) (type_to t (parameters.parameter_place p) b.declared p.declarator g)
    (λ d u k further fit. cond_to u any (is_stored b.storage) (type_fault (parameters.parameter_place p)) (parameters.typed_as d.ctype (parameters.named_parameter (parameters.parameter_name p) d u)) (λ is. tt) (typed_as_to d.ctype u (parameters.named_parameter (parameters.parameter_name p) d u) (named_to (parameters.parameter_name p) d u k fit))))

adds_to : (ps : List ParameterView) (s : State) → Sized s → To s any (heads.add_parameters s ps)
adds_to [] s h = here {V = List Ty} s any [] h tt
adds_to (p ∷ ps) s h =
    then s any any (heads.add_parameter s p) (λ t s1. after (heads.add_parameters s1 ps) (before t)) (add_to s p h)
    (λ t s1 g later x. then s1 any any (heads.add_parameters s1 ps) (before t) (adds_to ps s1 g) (λ ts u k further y. here u any (t ∷ ts) k tt))

parameters_to : (ps : ParametersView) (s : State) → Sized s → To s any (heads.parameters_of s ps)
parameters_to NoParameters s h = here {V = List Ty} s any [] h tt
parameters_to OnlyVoid s h = here {V = List Ty} s any [] h tt
parameters_to (ParameterList ps) s h = adds_to ps s h

-- ---- heads

-- the result of a function
abbrev pub HasFit : HeadView → State → Type 0
HasFit h t = IsFit t.known h.declared.ctype

result_holds : (k : Known) (at : Place) (e : Option ℕ) (r : Ruled Ty) → Holds (λ (x : DeclaredView). IsFit k x.ctype) (parameters.result_of at e r)
result_holds k at e (Err f) = tt
result_holds k at e (Ok t) = by (parameters.is_result t) refl
  where
    by : (b : Bool) → parameters.is_result t ≡ b → Holds (λ (x : DeclaredView). IsFit k x.ctype) (cond b (Ok (record { ctype = t; enumeration = e })) (type_fault at))
    by true is = result_fit k t is
    by false is = tt

head_holds : (k : Known) (ts : List Ty) (named : Bool) (r : Ruled DeclaredView) → Holds (λ (x : DeclaredView). IsFit k x.ctype) r → Holds (λ (x : HeadView). IsFit k x.declared.ctype) (heads.head_of ts named r)
head_holds k ts named (Ok d) h = h
head_holds k ts named (Err f) h = tt

-- a body without objects
pub bare : (s : State) → Sized s → Sized (parameters.without_locals s)
bare s h = keeping.with_local s.known s.types s.typedefs s.objects s.body.locals s.statics s.initializers h [] (λ i l at. absurd (cc))

pub head_to : (s : State) (b : DeclaredView) (f : FunctionDeclaratorView) → Sized s → To s HasFit (heads.function_head s b f)
head_to s b f h =
    let t : State = parameters.without_locals s in
    then s any HasFit (heads.parameters_of t f.parameters) (heads.headed b f) (onward s t any (heads.parameters_of t f.parameters) (bare s h, later_same s.known s.types) (parameters_to f.parameters t (bare s h)))
    (λ ts u g later x. stays u HasFit (heads.head_by u.known b f ts) g
    (head_holds u.known ts (parameters.are_named f.parameters) (parameters.result_type u.known f.name.at b (length f.stars)) (result_holds u.known f.name.at (parameters.enumeration_of b (length f.stars)) (parameters.pointed_type u.known f.name.at b (length f.stars)))))
