-- Declarators keep layouts.
use Rattle.std.proofs.Common.{List, [], ◌∷◌, Option, Some, None, length}
use Rattle.cc_base.specs.declared.diagnostics.Place.{Place}
use Rattle.c_layout.specs.SyntaxTrees.{Tree}
use Rattle.c_layout.specs.DeclarationTrees.{SuffixView, DeclaratorLayerView}
use Rattle.c_types_scopes.specs.DeclaredTypes.{DeclaredView}
use Rattle.c_types_scopes.specs.States.{State}
use Rattle.c_types_expressions.specs.Expressions.Expressions as expressions
use Rattle.c_types_declarations.specs.Declarators as declarators
use Rattle.c_types_declarations.specs.Declarators.{StepsView, declared_type}
use Rattle.c_types_theorems.proofs.entries.Expressing.{length_leads}
use Rattle.c_types_well_formed.specs.Layouts.LaidStructs.{HasLayouts, DeclaratorsLay}
use Rattle.c_types_well_formed.proofs.layouts.Laying.{MayLay, LaidTo, any, lays_same, then, stays, led, steps_lay}
use Rattle.c_types_well_formed.proofs.layouts.Expressing.{laid_behind}

suffix_lays : (s : State) (l : Option Tree) → HasLayouts s → LaidTo s any (declarators.suffix_length s l)
suffix_lays s None h = (lays_same s h, tt)
suffix_lays s (Some e) h = led s (expressions.length s e) h (length_leads MayLay steps_lay s e)

array_lays : (s : State) (v : StepsView) (a : SuffixView) → HasLayouts s → LaidTo s any (declarators.with_array s v a)
array_lays s v a h = then s any any (declarators.suffix_length s a.length) (declarators.lengthened v) (suffix_lays s a.length h) (λ n t g u. (lays_same t g.layouts, tt))

arrays_lay : (more : List SuffixView) (s : State) (v : StepsView) → HasLayouts s → LaidTo s any (declarators.with_arrays s v more)
arrays_lay [] s v h = (lays_same s h, tt)
arrays_lay (a ∷ more) s v h = then s any any (declarators.with_array s v a) (λ w t. declarators.with_arrays t w more) (array_lays s v a h) (λ w t g u. arrays_lay more t w g.layouts)

layer_lays : (s : State) (v : StepsView) (l : DeclaratorLayerView) → HasLayouts s → LaidTo s any (declarators.with_layer s v l)
layer_lays s v l h = then s any any (declarators.with_arrays s v l.arrays) (declarators.pointed (length l.stars)) (arrays_lay l.arrays s v h) (λ w t g u. (lays_same t g.layouts, tt))

layers_lay : (layers : List DeclaratorLayerView) (s : State) → HasLayouts s → LaidTo s any (declarators.typed_steps s layers)
layers_lay [] s h = (lays_same s h, tt)
layers_lay (l ∷ inner) s h = then s any any (declarators.typed_steps s inner) (λ v t. declarators.with_layer t v l) (layers_lay inner s h) (λ v t g u. layer_lays t v l g.layouts)

pub declared_lays : (s : State) (at : Place) (d : DeclaredView) (layers : List DeclaratorLayerView) → HasLayouts s → LaidTo s any (declared_type s at d layers)
declared_lays s at d layers h = then s any any (declarators.typed_steps s layers) (declarators.declared_in at d) (layers_lay layers s h) (λ v t g u. stays t (declarators.declared_by t.known at d v) g.layouts)

pub declarators_lay : DeclaratorsLay
declarators_lay s at d layers h = laid_behind s any (declared_type s at d layers) (declared_lays s at d layers h)
