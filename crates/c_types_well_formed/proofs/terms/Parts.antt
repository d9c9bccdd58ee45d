-- What has a property where it is there: options, elements of lists, and types made of types.
use Rattle.std.proofs.Common.{◌≡◌, ◌+◌, ℕ, zero, suc, List, [], ◌∷◌, ◌++◌, Option, Some, None, slice_get, refl, subst}
use Rattle.std.specs.Prelude.{Bool, true, false, cond}
use Rattle.std.proofs.lemmas.Option.{same_Some}
use Rattle.cc_base.specs.declared.diagnostics.Place.{Place}
use Rattle.c_layout.specs.Types.{Ty, Array}
use Rattle.c_layout.specs.StructViews.{StructView}
use Rattle.c_layout.specs.declared.data_model.Model.{Model}
use Rattle.c_types_rules.specs.Rules.IntegerKinds.{kind_of}
use Rattle.c_types_rules.specs.Rules.TypeWords as words
use Rattle.c_types_rules.specs.declared.rules.integer_kinds.Rank.{Rank}
use Rattle.c_types_rules.specs.declared.rules.integer_kinds.Rank.TheVariants as rank
use Rattle.c_types_rules.specs.declared.rules.type_words.NamedKind.{NamedKind}
use Rattle.c_types_rules.specs.declared.rules.type_words.NamedKind.TheVariants as named
use Rattle.c_types_rules.specs.declared.rules.type_words.WordCounts.{WordCounts}
use Rattle.c_types_scopes.specs.Refusals.{or_type_fault}
use Rattle.c_types_scopes.specs.TypeSteps.{then_step, stepped, may_be_element}
use Rattle.c_types_scopes.specs.declared.type_steps.TypeStep.{TypeStep}
use Rattle.c_types_scopes.specs.declared.type_steps.TypeStep.TheVariants as step
use Rattle.c_types_well_formed.specs.WellFormed.ModelTypes.{IsKindOf, IsTypeOf, Each}
use Rattle.c_types_well_formed.proofs.terms.Steps.{Holds}

abbrev pub HoldsIf : {V : Type 0} → (V → Type 0) → Option V → Type 0
HoldsIf P None = Unit {0}
HoldsIf P (Some v) = P v

pub none_of : {A : Type 0} (x : A) → None ≡ Some x → ⊥
none_of x h = cc

pub cond_if : {V : Type 0} (P : V → Type 0) (b : Bool) (x y : Option V) → HoldsIf P x → HoldsIf P y → HoldsIf P (cond b x y)
cond_if P true x y g h = g
cond_if P false x y g h = h

pub or_fault_holds : {V : Type 0} (P : V → Type 0) (at : Place) (o : Option V) → HoldsIf P o → Holds P (or_type_fault at o)
or_fault_holds P at None h = tt
or_fault_holds P at (Some v) h = h

-- ---- lists

pub there_if : {V : Type 0} (P : V → Type 0) (xs : List V) (i : ℕ) → Each P xs → HoldsIf P (slice_get xs i)
there_if {V} P xs i h = of (slice_get xs i) (λ x is. h i x is)
  where
    of : (o : Option V) → ((x : V) → o ≡ Some x → P x) → HoldsIf P o
    of None g = tt
    of (Some x) g = g x refl

pub each_none : {V : Type 0} (P : V → Type 0) → Each P []
each_none P i x is = absurd (none_of x is)

pub each_first : {V : Type 0} (P : V → Type 0) (x : V) (xs : List V) → P x → Each P xs → Each P (x ∷ xs)
each_first P x xs p h zero y is = subst P (same_Some x y is) p
each_first P x xs p h (suc i) y is = h i y is

pub each_more : {V : Type 0} (P : V → Type 0) (xs : List V) (y : V) → Each P xs → P y → Each P (xs ++ y ∷ [])
each_more P [] y h p zero x is = subst P (same_Some y x is) p
each_more P [] y h p (suc i) x is = absurd (none_of x is)
each_more P (z ∷ xs) y h p zero x is = h zero x is
each_more P (z ∷ xs) y h p (suc i) x is = each_more P xs y (λ j. h (suc j)) p i x is

-- ---- types

pub kind_is : (m : Model) (r : Rank) (signed : Bool) → IsKindOf m (kind_of m r signed)
kind_is m r signed = (r, refl)

pub in_model : (m n : Model) (t : Ty) → m ≡ n → IsTypeOf m t → IsTypeOf n t
in_model m n t e h = subst (λ x. IsTypeOf x t) e h

abbrev pub IsNamedOf : Model → NamedKind → Type 0
IsNamedOf m named.Void = Unit {0}
IsNamedOf m (named.Integer kind) = IsKindOf m kind

ranked_holds : (m : Model) (w : WordCounts) (o : Option Rank) → HoldsIf (IsNamedOf m) (words.with_rank m w o)
ranked_holds m w None = tt
ranked_holds m w (Some r) = kind_is m r _

-- what words name
pub words_hold : (m : Model) (w : WordCounts) → HoldsIf (IsNamedOf m) (words.named m w)
words_hold m w =
    cond_if (IsNamedOf m) (words.is_void w) (Some named.Void) _ tt
    (cond_if (IsNamedOf m) (words.is_char w) (Some (named.Integer (kind_of m rank.Char (words.char_signed m w)))) _ (kind_is m rank.Char (words.char_signed m w))
    (cond_if (IsNamedOf m) (words.is_integer w) (words.with_rank m w (words.rank_of w)) None (ranked_holds m w (words.rank_of w)) tt))

step_holds : (m : Model) (structs : List StructView) (pointer : ℕ) (s : TypeStep) (o : Option Ty) → HoldsIf (IsTypeOf m) o → HoldsIf (IsTypeOf m) (then_step structs pointer s o)
step_holds m structs pointer s None h = tt
step_holds m structs pointer step.Pointer (Some t) h = h
step_holds m structs pointer (step.Array count) (Some t) h = cond_if (IsTypeOf m) (may_be_element structs pointer t count) (Some (Array t count)) None h tt

-- what steps make of a type
pub steps_hold : (m : Model) (structs : List StructView) (pointer : ℕ) (t : Ty) (steps : List TypeStep) → IsTypeOf m t → HoldsIf (IsTypeOf m) (stepped structs pointer t steps)
unfolding stepped
steps_hold m structs pointer t [] h = h
steps_hold m structs pointer t (s ∷ steps) h = step_holds m structs pointer s (stepped structs pointer t steps) (steps_hold m structs pointer t steps h)
