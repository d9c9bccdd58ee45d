-- Function heads and bodies keep layouts.
use Rattle.std.proofs.Common.{◌≡◌, ℕ, Bool, false, List, [], ◌∷◌, Option, Some, None, Ok, Err, refl}
use Rattle.cc_base.specs.declared.diagnostics.Place.{Place}
use Rattle.c_layout.specs.Types.{Ty}
use Rattle.c_layout.specs.DeclarationTrees.{NameView, DeclaratorView, ParameterView, ParametersView, NoParameters, OnlyVoid, ParameterList, FunctionDeclaratorView, spec_trees}
use Rattle.c_types_scopes.specs.DeclaredTypes.{DeclaredView}
use Rattle.c_types_scopes.specs.Names.{number_in, found_here}
use Rattle.c_types_scopes.specs.Refusals.{Ruled, type_fault}
use Rattle.c_types_scopes.specs.States.{State, with_name}
use Rattle.c_types_scopes.specs.declared.meanings.Meaning.{Meaning}
use Rattle.c_types_declarations.specs.Declarators.{declared_type}
use Rattle.c_types_declarations.specs.FunctionHeads as heads
use Rattle.c_types_declarations.specs.Parameters as parameters
use Rattle.c_types_declarations.specs.SpecifierTrees.{specifiers}
use Rattle.c_types_declarations.specs.StructBodies.{is_stored}
use Rattle.c_types_well_formed.specs.Layouts.LaidStructs.{HasLayouts, LaidBehind}
use Rattle.c_types_well_formed.proofs.layouts.Declaring.{declared_lays}
use Rattle.c_types_well_formed.proofs.layouts.Expressing.{laid_behind}
use Rattle.c_types_well_formed.proofs.layouts.Laying.{LaidTo, any, lays_same, onward, then, stays, cond_laid, same_structs}
use Rattle.c_types_well_formed.proofs.layouts.Specifying.{specifiers_lays}

parameter_of_lays : (name : ℕ) (n : NameView) (d : DeclaredView) (s : State) (m : Option Meaning) → HasLayouts s → LaidTo s any (parameters.parameter_of name n d s m)
parameter_of_lays name n d s None h = (same_structs s (parameters.declared_local name n d s) refl refl h, tt)
parameter_of_lays name n d s (Some m) h = tt

named_parameter_lays : (n : Option NameView) (d : DeclaredView) (s : State) → HasLayouts s → LaidTo s any (parameters.named_parameter n d s)
named_parameter_lays None d s h = (lays_same s h, tt)
named_parameter_lays (Some n) d s h =
    let g = same_structs s (with_name s n.text) refl refl h in
    onward s (with_name s n.text) any (parameters.declare_parameter n d s) g (parameter_of_lays (number_in s.scopes.names n.text) n d (with_name s n.text) (found_here s.scopes (number_in s.scopes.names n.text)) g.layouts)

typed_as_lays : (t : Ty) (s : State) (r : Ruled (Unit {0} × State)) → LaidTo s any r → LaidTo s any (parameters.typed_as t r)
typed_as_lays t s (Ok p) h = h
typed_as_lays t s (Err f) h = tt

parameter_type_lays : (s : State) (at : Place) (b : DeclaredView) (d : Option DeclaratorView) → HasLayouts s → LaidTo s any (heads.parameter_type s at b d)
parameter_type_lays s at b None h = stays s (parameters.as_parameter at b) h
parameter_type_lays s at b (Some d) h = then s any any (declared_type s at b d.layers) (heads.as_parameter_in at) (declared_lays s at b d.layers h) (λ v t g u. stays t (parameters.as_parameter at v) g.layouts)

parameter_lays : (s : State) (p : ParameterView) → HasLayouts s → LaidTo s any (heads.add_parameter s p)
parameter_lays s p h =
    then s any any (specifiers s p.at false (spec_trees p.words)) (heads.specified_parameter p) (specifiers_lays s p.at false (spec_trees p.words) h)
    (λ b t g u. then t any any (heads.parameter_type t (parameters.parameter_place p) b.declared p.declarator) (parameters.finish_parameter (parameters.parameter_place p) b.storage (parameters.parameter_name p)) (parameter_type_lays t (parameters.parameter_place p) b.declared p.declarator g.layouts)
    (λ d v k w. cond_laid v any (is_stored b.storage) (type_fault (parameters.parameter_place p)) (parameters.typed_as d.ctype (parameters.named_parameter (parameters.parameter_name p) d v)) tt (typed_as_lays d.ctype v (parameters.named_parameter (parameters.parameter_name p) d v) (named_parameter_lays (parameters.parameter_name p) d v k.layouts))))

parameters_lay : (ps : List ParameterView) (s : State) → HasLayouts s → LaidTo s any (heads.add_parameters s ps)
parameters_lay [] s h = (lays_same s h, tt)
parameters_lay (p ∷ ps) s h = then s any any (heads.add_parameter s p) _ (parameter_lays s p h) (λ t s1 g u. then s1 any any (heads.add_parameters s1 ps) _ (parameters_lay ps s1 g.layouts) (λ ts v k w. (lays_same v k.layouts, tt)))

all_parameters_lay : (ps : ParametersView) (s : State) → HasLayouts s → LaidTo s any (heads.parameters_of s ps)
all_parameters_lay NoParameters s h = (lays_same s h, tt)
all_parameters_lay OnlyVoid s h = (lays_same s h, tt)
all_parameters_lay (ParameterList ps) s h = parameters_lay ps s h

pub heads_lay : (s : State) (b : DeclaredView) (f : FunctionDeclaratorView) → HasLayouts s → LaidBehind (heads.function_head s b f)
heads_lay s b f h =
    let t : State = parameters.without_locals s in
    let g = same_structs s t refl refl h in
    laid_behind s any (heads.function_head s b f)
    (then s any any (heads.parameters_of t f.parameters) (heads.headed b f) (onward s t any (heads.parameters_of t f.parameters) g (all_parameters_lay f.parameters t g.layouts))
    (λ ts v k w. stays v (heads.head_by v.known b f ts) k.layouts))
