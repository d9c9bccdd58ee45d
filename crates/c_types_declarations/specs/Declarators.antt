-- The types that declarators make (6.7.6).
use Rattle.std.specs.Prelude.{ℕ, ◌==◌, Bool, true, false, cond, List, [], ◌∷◌, ◌++◌, length, replicate, Option, Some, None, Ok, Err}
use Rattle.cc_base.specs.declared.diagnostics.Place.{Place}
use Rattle.c_layout.specs.Types.{Ty}
use Rattle.c_layout.specs.SyntaxTrees.{Tree}
use Rattle.c_layout.specs.DeclarationTrees.{SuffixView, DeclaratorLayerView}
use Rattle.c_types_scopes.specs.Answers.{after, kept}
use Rattle.c_types_scopes.specs.Known.{Known}
use Rattle.c_types_scopes.specs.Refusals.{Ruled, constant_needed, or_type_fault}
use Rattle.c_types_scopes.specs.DeclaredTypes.{DeclaredView, plain}
use Rattle.c_types_scopes.specs.States.{State}
use Rattle.c_types_scopes.specs.TypeSteps.{declarator_type}
use Rattle.c_types_scopes.specs.declared.type_steps.TypeStep.{TypeStep}
use Rattle.c_types_scopes.specs.declared.type_steps.TypeStep.TheVariants as step
use Rattle.c_types_expressions.specs.Expressions.Expressions as expressions
use Rattle.c_types_declarations.specs.declared.declarators.TypedSteps.{TypedSteps}

-- the steps of a declarator from its name outwards, and whether each length that it gives is a constant above 0
pub record StepsView : Type 0 where
  pub steps : List TypeStep
  pub are_constant : Bool

abbrev pub steps_view : TypedSteps → StepsView
steps_view s = record { steps = s.steps.items; are_constant = s.are_constant }

abbrev pub no_steps : StepsView
no_steps = record { steps = []; are_constant = true }

-- brackets whose length is a constant above 0, or not
abbrev pub with_length : StepsView → Option ℕ → StepsView
with_length v (Some count) = record { steps = v.steps ++ step.Array count ∷ []; are_constant = v.are_constant }
with_length v None = record { steps = v.steps ++ step.Array 1 ∷ []; are_constant = false }

abbrev pub pointers : ℕ → List TypeStep
pointers stars = replicate stars step.Pointer

-- the type that steps make, or the refusal at a place
abbrev pub stepped_type : Known → Place → Ty → List TypeStep → Ruled Ty
stepped_type k at t steps = or_type_fault at (declarator_type k t steps)

abbrev pub plain_by : Ruled Ty → Ruled DeclaredView
plain_by (Ok t) = Ok (plain t)
plain_by (Err f) = Err f

-- a declarator that is its name alone keeps what the specifiers say of the type
abbrev pub declared_with : Known → Place → DeclaredView → List TypeStep → Ruled DeclaredView
declared_with k at d steps = cond (length steps == 0) (Ok d) (plain_by (stepped_type k at d.ctype steps))

-- the type that a declarator gives its name
abbrev pub declared_by : Known → Place → DeclaredView → StepsView → Ruled DeclaredView
declared_by k at d v = cond v.are_constant (declared_with k at d v.steps) (constant_needed at)

-- ---- the way down a declarator

-- the length that brackets give; 0 stands for one that is not written
abbrev pub suffix_length : State → Option Tree → Ruled (Option ℕ × State)
suffix_length s None = Ok (Some 0, s)
suffix_length s (Some e) = expressions.length s e

abbrev pub lengthened : StepsView → Option ℕ → State → Ruled (StepsView × State)
lengthened v length t = Ok (with_length v length, t)

-- with the step of brackets
abbrev pub with_array : State → StepsView → SuffixView → Ruled (StepsView × State)
with_array s v a = after (suffix_length s a.length) (lengthened v)

-- with those of several
abbrev pub with_arrays : State → StepsView → List SuffixView → Ruled (StepsView × State)
with_arrays s v [] = Ok (v, s)
with_arrays s v (a ∷ more) = after (with_array s v a) (λ w t. with_arrays t w more)

abbrev pub with_pointers : StepsView → ℕ → StepsView
with_pointers v stars = record v { steps = v.steps ++ pointers stars }

abbrev pub pointed : ℕ → StepsView → State → Ruled (StepsView × State)
pointed stars v t = Ok (with_pointers v stars, t)

-- with the steps of a layer: its brackets, and then its stars
abbrev pub with_layer : State → StepsView → DeclaratorLayerView → Ruled (StepsView × State)
with_layer s v l = after (with_arrays s v l.arrays) (pointed (length l.stars))

-- the steps of layers: the last one is the innermost, and its lengths are the first to be typed
abbrev pub typed_steps : State → List DeclaratorLayerView → Ruled (StepsView × State)
typed_steps s [] = Ok (no_steps, s)
typed_steps s (l ∷ inner) = after (typed_steps s inner) (λ v t. with_layer t v l)

abbrev pub declared_in : Place → DeclaredView → StepsView → State → Ruled (DeclaredView × State)
declared_in at d v t = kept t (declared_by t.known at d v)

-- the type that a declarator gives its name, after its lengths were typed
abbrev pub declared_type : State → Place → DeclaredView → List DeclaratorLayerView → Ruled (DeclaredView × State)
declared_type s at d layers = after (typed_steps s layers) (declared_in at d)
