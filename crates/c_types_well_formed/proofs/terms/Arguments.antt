-- Arguments that are converted to the types of their parameters.
use Rattle.std.proofs.Common.{◌≡◌, ◌+◌, ◌==◌, ℕ, suc, List, [], ◌∷◌, map, Some, Ok, Err, slice_get, length, refl, ap, subst, sym, ◌∙◌, arith}
use Rattle.std.specs.Prelude.{Bool, true, false, cond}
use Rattle.std.proofs.lemmas.Bool.{eqb-true, eq-eqb, and_from}
use Rattle.cc_base.specs.declared.diagnostics.Place.{Place}
use Rattle.c_layout.specs.Types.{Ty}
use Rattle.c_layout.specs.CheckedTrees as tree
use Rattle.c_layout.specs.CheckedTrees.{TermTree, term_trees}
use Rattle.c_layout.specs.CheckedUnits.{FunctionView, UnitView}
use Rattle.c_types_scopes.specs.Known.{Known}
use Rattle.c_types_scopes.specs.Refusals.{Ruled, type_fault}
use Rattle.c_types_operands.specs.Conversions.{assigned}
use Rattle.c_types_operands.specs.Operands.{OperandView, term_of, term_type}
use Rattle.c_types_primary.specs.Calls.{each_converted, converted_arguments}
use Rattle.c_types_primary.specs.Lists.{with_first, if_first}
use Rattle.lower_functions.specs.Functions.Functions.{local_type}
use Rattle.lower_templates.specs.Worklist.TermKinds as flow
use Rattle.source_items.specs.StackKinds.KindedTerms.{argument_kinds}
use Rattle.source_items.specs.Operations.Kinds.{kind_of_type}
use Rattle.source_preservation.specs.Checks.LookedTerms.{are_well_typed_terms, have_parameters}
use Rattle.source_preservation.specs.Checks.LookedTypes.{same_mark}
use Rattle.c_types_well_formed.specs.WellFormed.MadeLaws.{ValuesAreMade, ConversionsGive}
use Rattle.c_types_well_formed.specs.WellFormed.MadeTerms.{IsMadeOperand, IsGiven, Gives}
use Rattle.c_types_well_formed.specs.WellFormed.ModelTypes.{IsTypeOf, IsGround, Each}

abbrev pub AreMade : UnitView → List OperandView → Type 0
AreMade u [] = Unit {0}
AreMade u (x ∷ xs) = IsMadeOperand u x × AreMade u xs

abbrev pub AreGiven : UnitView → List TermTree → List Ty → Type 0
AreGiven u [] [] = Unit {0}
AreGiven u [] (t ∷ ts) = ⊥
AreGiven u (e ∷ es) [] = ⊥
AreGiven u (e ∷ es) (t ∷ ts) = IsGiven u e t × AreGiven u es ts

abbrev pub GivesAll : UnitView → List Ty → Ruled (List TermTree) → Type 0
GivesAll u ts (Ok es) = AreGiven u es ts
GivesAll u ts (Err f) = Unit {0}

-- the looks' word for a type is another one
pub type_is : (e : TermTree) → flow.term_type e ≡ term_type e
type_is (tree.Typed at t parens constant f) = refl

-- ---- conversions

with_first_given : (u : UnitView) (e : TermTree) (t : Ty) (ts : List Ty) (r : Ruled (List TermTree)) → IsGiven u e t → GivesAll u ts r → GivesAll u (t ∷ ts) (with_first e r)
with_first_given u e t ts (Ok es) g h = (g, h)
with_first_given u e t ts (Err f) g h = tt

if_first_given : (u : UnitView) (t : Ty) (ts : List Ty) (r : Ruled TermTree) (rs : Ruled (List TermTree)) → Gives u t r → GivesAll u ts rs → GivesAll u (t ∷ ts) (if_first r rs)
if_first_given u t ts (Ok e) rs g h = with_first_given u e t ts rs g h
if_first_given u t ts (Err f) rs g h = tt

module _ (u : UnitView) (k : Known) (known : IsGround u k) (values : ValuesAreMade) (conversions : ConversionsGive) where
  each_given : (at : Place) (xs : List OperandView) (ts : List Ty) → length xs ≡ length ts → AreMade u xs → Each (IsTypeOf u.model) ts → GivesAll u ts (each_converted k at xs ts)
  unfolding each_converted
  each_given at [] [] long made typed = tt
  each_given at [] (t ∷ ts) long made typed = absurd (omega (arith, long))
  each_given at (x ∷ xs) [] long made typed = tt
  each_given at (x ∷ xs) (t ∷ ts) long made typed =
      if_first_given u t ts (assigned k at (term_of x) t) (each_converted k at xs ts)
      (conversions u k known at (term_of x) t (values u k known x made.0) (typed 0 t refl))
      (each_given at xs ts (omega (arith, long)) made.1 (λ i. typed (suc i)))

  pub arguments_given : (at : Place) (xs : List OperandView) (ts : List Ty) → AreMade u xs → Each (IsTypeOf u.model) ts → GivesAll u ts (converted_arguments k at xs ts)
  arguments_given at xs ts made typed = of (length xs == length ts) (λ e. eqb-true (length xs) (length ts) e)
    where
      of : (b : Bool) → (b ≡ true → length xs ≡ length ts) → GivesAll u ts (cond b (each_converted k at xs ts) (type_fault at))
      of true h = each_given at xs ts (h refl) made typed
      of false h = tt

-- ---- what the looks see of them

pub given_well_typed : (u : UnitView) (es : List TermTree) (ts : List Ty) → AreGiven u es ts → are_well_typed_terms u (term_trees es) ≡ true
given_well_typed u [] [] h = refl
given_well_typed u [] (t ∷ ts) h = absurd h
given_well_typed u (e ∷ es) [] h = absurd h
given_well_typed u (e ∷ es) (t ∷ ts) h = and_from _ _ h.0.well_typed (given_well_typed u es ts h.1)

pub given_kinds : (u : UnitView) (es : List TermTree) (ts : List Ty) → AreGiven u es ts → argument_kinds (term_trees es) ≡ map kind_of_type ts
given_kinds u [] [] h = refl
given_kinds u [] (t ∷ ts) h = absurd h
given_kinds u (e ∷ es) [] h = absurd h
given_kinds u (e ∷ es) (t ∷ ts) h = ap (λ t. kind_of_type t ∷ argument_kinds (term_trees es)) (type_is e ∙ h.0.same) ∙ ap (λ ks. kind_of_type t ∷ ks) (given_kinds u es ts h.1)

pub given_parameters : (u : UnitView) (f : FunctionView) (n : ℕ) (es : List TermTree) (ts : List Ty) → AreGiven u es ts → ((i : ℕ) (t : Ty) → slice_get ts i ≡ Some t → same_mark t (local_type f (n + i)) ≡ true) → n + length ts ≡ f.parameters → have_parameters f n (term_trees es) ≡ true
given_parameters u f n [] [] h typed long = let e : n ≡ f.parameters = omega (arith, long) in eq-eqb n f.parameters e
given_parameters u f n [] (t ∷ ts) h typed long = absurd h
given_parameters u f n (e ∷ es) [] h typed long = absurd h
given_parameters u f n (e ∷ es) (t ∷ ts) h typed long =
    let here : n + 0 ≡ n = omega arith in
    and_from _ _
    (subst (λ x. same_mark x (local_type f n) ≡ true) (sym (type_is e ∙ h.0.same)) (subst (λ i. same_mark t (local_type f i) ≡ true) here (typed 0 t refl)))
    (given_parameters u f (n + 1) es ts h.1 (λ i t1 is. let next : n + suc i ≡ (n + 1) + i = omega arith in subst (λ j. same_mark t1 (local_type f j) ≡ true) next (typed (suc i) t1 is)) (omega (arith, long)))
