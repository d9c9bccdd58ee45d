-- Declarators keep what typing knows, and make types of the data model.
use Rattle.std.proofs.Common.{◌==◌, List, [], ◌∷◌, Option, Some, None, Ok, Err, length, refl, subst, sym}
use Rattle.std.specs.Prelude.{Bool, true, false, cond}
use Rattle.cc_base.specs.declared.diagnostics.Place.{Place}
use Rattle.c_layout.specs.Types.{Ty}
use Rattle.c_layout.specs.SyntaxTrees.{Tree}
use Rattle.c_layout.specs.DeclarationTrees.{SuffixView, DeclaratorLayerView}
use Rattle.c_layout.specs.declared.data_model.Model.{Model}
use Rattle.c_types_scopes.specs.DeclaredTypes.{DeclaredView}
use Rattle.c_types_scopes.specs.Known.{Known}
use Rattle.c_types_scopes.specs.Refusals.{Ruled, constant_needed}
use Rattle.c_types_scopes.specs.States.{State}
use Rattle.c_types_scopes.specs.TypeSteps.{declarator_type}
use Rattle.c_types_scopes.specs.declared.type_steps.TypeStep.{TypeStep}
use Rattle.c_types_declarations.specs.Declarators as declarators
use Rattle.c_types_declarations.specs.Declarators.{StepsView, declared_type}
use Rattle.c_types_well_formed.specs.WellFormed.ModelTypes.{IsTypeOf}
use Rattle.c_types_well_formed.specs.WellFormed.ProperStatements.{IsProperIf, AreProperSuffixes, AreProperLayers}
use Rattle.c_types_well_formed.specs.WellFormed.ProperTrees.{IsProperTree}
use Rattle.c_types_well_formed.specs.WellFormed.TypingLaws.{LeadsOn}
use Rattle.c_types_well_formed.proofs.terms.Expressions.{lengths_keep}
use Rattle.c_types_well_formed.proofs.terms.Parts.{or_fault_holds, steps_hold, in_model}
use Rattle.c_types_well_formed.proofs.terms.Steps.{IsAt, keeps_same, at_later, then, weaker, stays, Holds}
use Rattle.c_types_well_formed.proofs.terms.TypeNames.{IsDeclaredOf, Anything}
use Rattle.c_types_well_formed.specs.Types.TypeLaws.{DeclaratorsKeep, HasDeclared}

suffix_on : (m : Model) (s : State) (e : Option Tree) → IsAt m s → IsProperIf m e → LeadsOn s Anything (declarators.suffix_length s e)
suffix_on m s None a proper = (keeps_same s a.types, tt)
suffix_on m s (Some e) a proper = lengths_keep s e a.types (subst (λ x. IsProperTree x e) (sym a.same) proper)

array_on : (m : Model) (s : State) (v : StepsView) (x : SuffixView) → IsAt m s → IsProperIf m x.length → LeadsOn s Anything (declarators.with_array s v x)
array_on m s v x a proper = then s Anything Anything (declarators.suffix_length s x.length) (declarators.lengthened v) (suffix_on m s x.length a proper) (λ n t k any. (keeps_same t k.types, tt))

arrays_on : (m : Model) (more : List SuffixView) (s : State) (v : StepsView) → IsAt m s → AreProperSuffixes m more → LeadsOn s Anything (declarators.with_arrays s v more)
arrays_on m [] s v a proper = (keeps_same s a.types, tt)
arrays_on m (x ∷ more) s v a proper = then s Anything Anything (declarators.with_array s v x) (λ w t. declarators.with_arrays t w more) (array_on m s v x a proper.0) (λ w t k any. arrays_on m more t w (at_later m s t a k) proper.1)

layer_on : (m : Model) (s : State) (v : StepsView) (l : DeclaratorLayerView) → IsAt m s → AreProperSuffixes m l.arrays → LeadsOn s Anything (declarators.with_layer s v l)
layer_on m s v l a proper = then s Anything Anything (declarators.with_arrays s v l.arrays) (declarators.pointed (length l.stars)) (arrays_on m l.arrays s v a proper) (λ w t k any. (keeps_same t k.types, tt))

layers_on : (m : Model) (layers : List DeclaratorLayerView) (s : State) → IsAt m s → AreProperLayers m layers → LeadsOn s Anything (declarators.typed_steps s layers)
layers_on m [] s a proper = (keeps_same s a.types, tt)
layers_on m (l ∷ inner) s a proper = then s Anything Anything (declarators.typed_steps s inner) (λ v t. declarators.with_layer t v l) (layers_on m inner s a proper.1) (λ v t k any. layer_on m t v l (at_later m s t a k) proper.0)

-- ---- types

pub cond_holds : {V : Type 0} (P : V → Type 0) (b : Bool) (x y : Ruled V) → Holds P x → Holds P y → Holds P (cond b x y)
cond_holds P true x y g h = g
cond_holds P false x y g h = h

plain_holds : (m : Model) (r : Ruled Ty) → Holds (IsTypeOf m) r → Holds (IsDeclaredOf m) (declarators.plain_by r)
plain_holds m (Ok t) h = h
plain_holds m (Err f) h = tt

pub stepped_holds : (m : Model) (k : Known) (at : Place) (t : Ty) (steps : List TypeStep) → IsTypeOf m t → Holds (IsTypeOf m) (declarators.stepped_type k at t steps)
stepped_holds m k at t steps h = or_fault_holds (IsTypeOf m) at (declarator_type k t steps) (steps_hold m k.structs k.numbers.pointer t steps h)

declared_by_holds : (m : Model) (k : Known) (at : Place) (d : DeclaredView) (v : StepsView) → IsDeclaredOf m d → Holds (IsDeclaredOf m) (declarators.declared_by k at d v)
declared_by_holds m k at d v h =
    cond_holds (IsDeclaredOf m) v.are_constant (declarators.declared_with k at d v.steps) (constant_needed at)
    (cond_holds (IsDeclaredOf m) (length v.steps == 0) (Ok d) (declarators.plain_by (declarators.stepped_type k at d.ctype v.steps)) h (plain_holds m (declarators.stepped_type k at d.ctype v.steps) (stepped_holds m k at d.ctype v.steps h)))
    tt

pub declared_on : (m : Model) (s : State) (at : Place) (d : DeclaredView) (layers : List DeclaratorLayerView) → IsAt m s → IsDeclaredOf m d → AreProperLayers m layers → LeadsOn s (λ d t. IsDeclaredOf m d) (declared_type s at d layers)
declared_on m s at d layers a h proper =
    then s Anything (λ d t. IsDeclaredOf m d) (declarators.typed_steps s layers) (declarators.declared_in at d) (layers_on m layers s a proper)
    (λ v t k any. stays t (λ d t. IsDeclaredOf m d) (declarators.declared_by t.known at d v) k.types (declared_by_holds m t.known at d v h))

pub declarators_keep : DeclaratorsKeep
declarators_keep s at d layers h typed proper =
    weaker s (λ d t. IsDeclaredOf s.known.numbers d) HasDeclared (declared_type s at d layers) (λ d1 t k g. in_model s.known.numbers t.known.numbers d1.ctype (sym k.model) g)
    (declared_on s.known.numbers s at d layers (record { same = refl; types = h }) typed proper)
