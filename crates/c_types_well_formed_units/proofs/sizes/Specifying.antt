-- Specifiers and declarators give arrays of complete elements.
use Rattle.std.proofs.Common.{◌≡◌, ℕ, List, [], ◌∷◌, Option, Some, None, Ok, Err, length, slice_get, refl, subst}
use Rattle.std.specs.Prelude.{Bool, true, false, ◌==◌, cond, is_some}
use Rattle.std.proofs.lemmas.Option.{same_Some}
use Rattle.cc_base.specs.declared.diagnostics.Place.{Place}
use Rattle.c_layout.specs.Types.{Ty, Pointer, Array}
use Rattle.c_layout.specs.DeclarationTrees as tree
use Rattle.c_layout.specs.DeclarationTrees.{DeclaratorLayerView, SpecTree, SpecTrees}
use Rattle.c_types_rules.specs.Rules.TypeSizes.{sized}
use Rattle.c_types_rules.specs.Rules.TypeWords as words
use Rattle.c_types_rules.specs.declared.rules.type_words.NamedKind.{NamedKind}
use Rattle.c_types_rules.specs.declared.rules.type_words.NamedKind.TheVariants as kind
use Rattle.c_types_rules.specs.declared.rules.type_words.WordCounts.{WordCounts}
use Rattle.c_types_scopes.specs.Answers.{after}
use Rattle.c_types_scopes.specs.DeclaredTypes.{DeclaredView}
use Rattle.c_types_scopes.specs.Known.{Known}
use Rattle.c_types_scopes.specs.Refusals.{Ruled, constant_needed, or_type_fault}
use Rattle.c_types_scopes.specs.States.{State}
use Rattle.c_types_scopes.specs.TypeSteps as steps
use Rattle.c_types_scopes.specs.TypeSteps.{declarator_type}
use Rattle.c_types_scopes.specs.declared.meanings.Meaning.{Meaning}
use Rattle.c_types_scopes.specs.declared.meanings.Meaning.TheVariants as meaning
use Rattle.c_types_scopes.specs.declared.type_steps.TypeStep.{TypeStep}
use Rattle.c_types_scopes.specs.declared.type_steps.TypeStep.TheVariants as step
use Rattle.c_types_primary.specs.Primaries.{meaning_of}
use Rattle.c_types_primary.specs.TypeNames as names
use Rattle.c_types_declarations.specs.Declarators as declarators
use Rattle.c_types_declarations.specs.Declarators.{StepsView, declared_type}
use Rattle.c_types_declarations.specs.Enumerations.{enumeration}
use Rattle.c_types_declarations.specs.Specifiers as said
use Rattle.c_types_declarations.specs.Specifiers.{SpecifiedView, ReadingView, nothing_read}
use Rattle.c_types_declarations.specs.SpecifierTrees as spec
use Rattle.c_types_theorems.proofs.entries.Leading.{Leads}
use Rattle.c_types_theorems.proofs.entries.Specifying.{read_leads, layers_lead}
use Rattle.c_types_well_formed.proofs.layouts.Laying.{none_is}
use Rattle.c_types_well_formed_units.specs.Sizes.FitTypes.{HasElements}
use Rattle.c_types_well_formed_units.proofs.sizes.FitTypes.{elements_grown}
use Rattle.c_types_well_formed_units.proofs.sizes.Keeping.{Sized, Keeps, To, any, Holds, here, then, stays, led, specifiers_keep}

-- ---- declarators

repeated_some : (count : ℕ) (o : Option ℕ) → steps.may_repeat count o ≡ true → is_some o ≡ true
repeated_some count None h = h
repeated_some count (Some size) h = refl

step_elements : (k : Known) (t made : Ty) (s : TypeStep) → steps.step_of k.structs k.numbers.pointer t s ≡ Some made → HasElements k made
step_elements k t made step.Pointer h = subst (HasElements k) (same_Some (Pointer t) made h) tt
step_elements k t made (step.Array count) h = by_room (steps.may_be_element k.structs k.numbers.pointer t count) refl h
  where
    by_room : (b : Bool) → steps.may_be_element k.structs k.numbers.pointer t count ≡ b → cond b (Some (Array t count)) None ≡ Some made → HasElements k made
    by_room true is e = subst (HasElements k) (same_Some (Array t count) made e) (repeated_some count (sized k.structs k.numbers.pointer t) is)
    by_room false is e = none_is made e

stepped_elements : (k : Known) (t made : Ty) (ss : List TypeStep) → HasElements k t → steps.stepped k.structs k.numbers.pointer t ss ≡ Some made → HasElements k made
unfolding steps.stepped
stepped_elements k t made [] had h = subst (HasElements k) (same_Some t made h) had
stepped_elements k t made (s ∷ ss) had h = of_inner (steps.stepped k.structs k.numbers.pointer t ss) h
  where
    of_inner : (o : Option Ty) → steps.then_step k.structs k.numbers.pointer s o ≡ Some made → HasElements k made
    of_inner None e = none_is made e
    of_inner (Some x) e = step_elements k x made s e

abbrev pub HasParts : Known → DeclaredView → Type 0
HasParts k d = HasElements k d.ctype

plain_holds : (k : Known) (at : Place) (o : Option Ty) → ((t : Ty) → o ≡ Some t → HasElements k t) → Holds (HasParts k) (declarators.plain_by (or_type_fault at o))
plain_holds k at None h = tt
plain_holds k at (Some t) h = h t refl

declared_holds : (k : Known) (at : Place) (d : DeclaredView) (v : StepsView) → HasParts k d → Holds (HasParts k) (declarators.declared_by k at d v)
declared_holds k at d v had = by_constant v.are_constant
  where
    by_length : (b : Bool) → Holds (HasParts k) (cond b (Ok d) (declarators.plain_by (declarators.stepped_type k at d.ctype v.steps)))
    by_length true = had
    by_length false = plain_holds k at (declarator_type k d.ctype v.steps) (λ t is. stepped_elements k d.ctype t v.steps had is)

    by_constant : (b : Bool) → Holds (HasParts k) (cond b (declarators.declared_with k at d v.steps) (constant_needed at))
    by_constant true = by_length (length v.steps == 0)
    by_constant false = tt

-- what has its parts in the state behind a step
abbrev pub Parts : DeclaredView → State → Type 0
Parts d t = HasParts t.known d

pub declared_to : (s : State) (at : Place) (d : DeclaredView) (layers : List DeclaratorLayerView) → Sized s → HasParts s.known d → To s Parts (declared_type s at d layers)
declared_to s at d layers h had =
    then s any Parts (declarators.typed_steps s layers) (declarators.declared_in at d) (led s (declarators.typed_steps s layers) h (layers_lead Keeps specifiers_keep layers s))
    (λ v t g later u. stays t Parts (declarators.declared_by t.known at d v) g (declared_holds t.known at d v (elements_grown s.known t.known d.ctype later.extends had)))

-- ---- specifiers

abbrev NamedIn : Known → Option DeclaredView → Type 0
NamedIn k None = Unit {0}
NamedIn k (Some d) = HasParts k d

abbrev HasNamed : ReadingView → State → Type 0
HasNamed r t = NamedIn t.known r.named

struct_read : (s : State) (r : ReadingView) (declares : Bool) (x : Ruled (ℕ × State)) → Sized s → Leads Keeps s (after x (spec.struct_said r declares)) → To s HasNamed (after x (spec.struct_said r declares))
struct_read s r declares (Ok p) h g = (g h, tt)
struct_read s r declares (Err f) h g = tt

enumeration_read : (s : State) (r : ReadingView) (x : Ruled (ℕ × State)) → Sized s → Leads Keeps s (after x (spec.enumeration_said r)) → To s HasNamed (after x (spec.enumeration_said r))
enumeration_read s r (Ok p) h g = (g h, tt)
enumeration_read s r (Err f) h g = tt

typedef_holds : (s : State) (at : Place) (o : Option Meaning) → Sized s → Holds (HasParts s.known) (names.typedef_by s at o)
typedef_holds s at None h = tt
typedef_holds s at (Some (meaning.Typedef number)) h = found (slice_get s.typedefs number) refl
  where
    found : (o : Option DeclaredView) → slice_get s.typedefs number ≡ o → Holds (HasParts s.known) (names.typedef_found at o)
    found None is = tt
    found (Some d) is = h.named number d is
typedef_holds s at (Some (meaning.Static number)) h = tt
typedef_holds s at (Some (meaning.Local number)) h = tt
typedef_holds s at (Some (meaning.Function number)) h = tt
typedef_holds s at (Some (meaning.Enumerator n)) h = tt

typedef_read : (k : Known) (r : ReadingView) (d : Ruled DeclaredView) → Holds (HasParts k) d → Holds (λ (x : ReadingView). NamedIn k x.named) (spec.with_typedef r d)
typedef_read k r (Ok d) h = h
typedef_read k r (Err f) h = tt

read_to : (w : SpecTree) (s : State) (alone : Bool) (r : ReadingView) → Sized s → HasNamed r s → To s HasNamed (spec.read s alone r w)
read_to (tree.StorageWord at word) s alone r h had = here s HasNamed (spec.with_storage r word) h had
read_to (tree.Qualifier at) s alone r h had = here s HasNamed r h had
read_to (tree.TypeOf at word) s alone r h had = here s HasNamed (spec.with_type_word r word) h had
read_to (tree.StructTag at t) s alone r h had = struct_read s r (is_some t) (spec.struct_alone s alone at t) h (read_leads Keeps specifiers_keep s alone r (tree.StructTag at t))
read_to (tree.StructBody at t members) s alone r h had = struct_read s r (is_some t) (spec.struct_body s at t members) h (read_leads Keeps specifiers_keep s alone r (tree.StructBody at t members))
read_to (tree.EnumTag at t) s alone r h had = enumeration_read s r (spec.enumeration_alone s at t) h (read_leads Keeps specifiers_keep s alone r (tree.EnumTag at t))
read_to (tree.EnumBody at t es) s alone r h had = enumeration_read s r (enumeration s t es) h (read_leads Keeps specifiers_keep s alone r (tree.EnumBody at t es))
read_to (tree.TypedefName name) s alone r h had =
    stays s HasNamed (spec.with_typedef r (names.typedef_named s (spec.name_of name))) h (typedef_read s.known r (names.typedef_named s (spec.name_of name)) (typedef_holds s name.at (meaning_of s name.text) h))

read_all_to : (ws : SpecTrees) (s : State) (alone : Bool) (r : ReadingView) → Sized s → HasNamed r s → To s HasNamed (spec.read_all s alone r ws)
read_all_to tree.NoWord s alone r h had = here s HasNamed r h had
read_all_to (tree.MoreWords w ws) s alone r h had =
    then s HasNamed HasNamed (spec.read s alone r w) (λ r1 s1. spec.read_all s1 alone r1 ws) (read_to w s alone r h had) (λ r1 s1 g later named. read_all_to ws s1 alone r1 g named)

counted_holds : (k : Known) (at : Place) (o : Option NamedKind) → Holds (HasParts k) (said.counted_as at o)
counted_holds k at None = tt
counted_holds k at (Some kind.Void) = tt
counted_holds k at (Some (kind.Integer i)) = tt

said_holds : (k : Known) (at : Place) (o : Option DeclaredView) (counts : WordCounts) → NamedIn k o → Holds (HasParts k) (said.declared_of k at o counts)
said_holds k at (Some d) counts h = h
said_holds k at None counts h = counted_holds k at (words.named k.numbers counts)

whole_holds : (k : Known) (r : ReadingView) (d : Ruled DeclaredView) → Holds (HasParts k) d → Holds (λ (b : SpecifiedView). HasParts k b.declared) (said.said_with r d)
whole_holds k r (Ok d) h = h
whole_holds k r (Err f) h = tt

-- what specifiers say
abbrev pub Said : SpecifiedView → State → Type 0
Said b t = HasParts t.known b.declared

pub specifiers_to : (s : State) (at : Place) (alone : Bool) (ws : SpecTrees) → Sized s → To s Said (spec.specifiers s at alone ws)
specifiers_to s at alone ws h =
    then s HasNamed Said (spec.read_all s (spec.is_alone alone ws) nothing_read ws) (spec.said_in at) (read_all_to ws s (spec.is_alone alone ws) nothing_read h tt)
    (λ r t g later named. stays t Said (said.said t.known at r) g (whole_holds t.known r (said.declared_of t.known at r.named r.counts) (said_holds t.known at r.named r.counts named)))
