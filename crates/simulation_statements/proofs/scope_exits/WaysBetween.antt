-- The pieces on the way from a scope to another one.
use Rattle.std.proofs.Common.{◌≡◌, ◌≤◌, ◌<◌, ℕ, suc, ◌==◌, Bool, true, false, not, cond, nat_lt, List, [], ◌∷◌, ◌++◌, length, refl, arith, ap, sym, ◌∙◌}
use Rattle.std.proofs.lemmas.Bool.{eq-eqb, eqb-true, lt-ltb, ltb-true}
use Rattle.std.proofs.lemmas.List.{append-nil}
use Rattle.cc_base.specs.declared.diagnostics.Place.{Place}
use Rattle.lower_templates.specs.Worklist.Plans.{Plan}
use Rattle.lower_templates.specs.Worklist.Scopes.{ScopeView}
use Rattle.lower_templates.specs.Worklist.Settings.{SettingView}
use Rattle.lower_functions.specs.Statements.ScopeJumps as scopes
use Rattle.lower_functions.specs.Statements.ScopeJumps.{way, enters, all_left, all_entered, is_empty}
use Rattle.semantics.specs.SourceMachine.Scopes.{without}
use Rattle.simulation_terms.specs.Scopes.Contexts.{AreIn}
use Rattle.simulation_terms.specs.Scopes.SuitedStatements.{AreNew}
use Rattle.simulation_terms.proofs.scopes.Ways.{with_none, without_on, all_in}
use Rattle.simulation_statements.specs.ScopeExits.Between.{Between, here, out, inside}

all_entered_on : (at : Place) (xs ys : List ℕ) (p : Plan) → all_entered at (xs ++ ys) p ≡ all_entered at ys (all_entered at xs p)
all_entered_on at [] ys p = refl
all_entered_on at (x ∷ xs) ys p = all_entered_on at xs ys (scopes.entered at x p)

all_left_on : (at : Place) (xs ys : List ℕ) (p : Plan) → all_left at (xs ++ ys) p ≡ all_left at ys (all_left at xs p)
all_left_on at [] ys p = refl
all_left_on at (x ∷ xs) ys p = all_left_on at xs ys (scopes.left at x p)

differs : (a b : ℕ) → (a ≡ b → ⊥) → (a == b) ≡ false
differs a b apart = by (a == b) refl
  where
    by : (x : Bool) → (a == b) ≡ x → (a == b) ≡ false
    by false e = e
    by true e = absurd (apart (eqb-true a b e))

not_less : (a b : ℕ) → b < a → nat_lt a b ≡ false
not_less a b less = by (nat_lt a b) refl
  where
    both : a < b → ⊥
    both more = omega (arith, less, more)

    by : (x : Bool) → nat_lt a b ≡ x → nat_lt a b ≡ false
    by false e = e
    by true e = absurd (both (ltb-true a b e))

above : (a b : ℕ) → b < a → a ≡ b → ⊥
above a b less e = omega (arith, less, e)

beneath : (a b : ℕ) → a < b → a ≡ b → ⊥
beneath a b less e = omega (arith, less, e)

shorter : (a b c : ℕ) → a < b → b ≤ suc c → a ≤ c
shorter a b c x y = omega (arith, x, y)

nothing_left : (a b : ℕ) → b < a → a ≤ 0 → ⊥
nothing_left a b x y = omega (arith, x, y)

-- nothing behind a list
ends_empty : (xs : List ℕ) → is_empty (xs ++ []) ≡ is_empty xs
ends_empty xs = ap is_empty (append-nil xs)

some_behind : (xs : List ℕ) (y : ℕ) (ys : List ℕ) → is_empty (xs ++ (y ∷ ys)) ≡ false
some_behind [] y ys = refl
some_behind (x ∷ xs) y ys = refl

module _ (s : SettingView) where
  abbrev outward : List ScopeView → ℕ → ℕ → Plan → Plan
  outward steps from to p = way s steps (scopes.around s from) to (all_left s.at (scopes.objects s from) p)

  abbrev inward : List ScopeView → ℕ → ℕ → Plan → Plan
  inward steps from to p = all_entered s.at (scopes.objects s to) (way s steps from (scopes.around s to) p)

  pub way_is : (steps : List ScopeView) (from to : ℕ) (xs ys : List ℕ) → Between s from to xs ys → from ≤ length steps → to ≤ length steps → (p : Plan) → way s steps from to p ≡ all_entered s.at ys (all_left s.at xs p)
  way_is [] _ _ _ _ (here k) enough also p = refl
  way_is (x ∷ steps) _ _ _ _ (here k) enough also p = ap (λ b. cond b p (cond (nat_lt k k) (outward steps k k p) (inward steps k k p))) (eq-eqb k k refl)
  way_is [] _ _ _ _ (out number around to objects xs ys less is b) enough also p = absurd (nothing_left number to less enough)
  way_is (x ∷ steps) _ _ _ _ (out number around to objects xs ys less is b) enough also p =
      ap (λ c. cond c p (cond (nat_lt to number) (outward steps number to p) (inward steps number to p))) (differs number to (above number to less))
      ∙ ap (λ c. cond c (outward steps number to p) (inward steps number to p)) (lt-ltb to number less)
      ∙ ap (λ k. way s steps k to (all_left s.at (scopes.objects s number) p)) is.inside
      ∙ ap (λ zs. way s steps around to (all_left s.at zs p)) is.holds
      ∙ way_is steps around to xs ys b (shorter around number (length steps) is.later enough) (shorter to number (length steps) less enough) (all_left s.at objects p)
      ∙ ap (all_entered s.at ys) (sym (all_left_on s.at objects xs p))
  way_is [] _ _ _ _ (inside from number around objects xs ys less is b) enough also p = absurd (nothing_left number from less also)
  way_is (x ∷ steps) _ _ _ _ (inside from number around objects xs ys less is b) enough also p =
      ap (λ c. cond c p (cond (nat_lt number from) (outward steps from number p) (inward steps from number p))) (differs from number (beneath from number less))
      ∙ ap (λ c. cond c (outward steps from number p) (inward steps from number p)) (not_less number from less)
      ∙ ap (λ zs. all_entered s.at zs (way s steps from (scopes.around s number) p)) is.holds
      ∙ ap (λ k. all_entered s.at objects (way s steps from k p)) is.inside
      ∙ ap (all_entered s.at objects) (way_is steps from around xs ys b (shorter from number (length steps) less also) (shorter around number (length steps) is.later also) p)
      ∙ sym (all_entered_on s.at ys objects (all_left s.at xs p))

  pub enters_is : (steps : List ScopeView) (from to : ℕ) (xs ys : List ℕ) → Between s from to xs ys → from ≤ length steps → to ≤ length steps → enters s steps from to ≡ not (is_empty ys)
  enters_is [] _ _ _ _ (here k) enough also = refl
  enters_is (x ∷ steps) _ _ _ _ (here k) enough also = ap (λ b. cond b false (cond (nat_lt k k) (enters s steps (scopes.around s k) k) (cond (is_empty (scopes.objects s k)) (enters s steps k (scopes.around s k)) true))) (eq-eqb k k refl)
  enters_is [] _ _ _ _ (out number around to objects xs ys less is b) enough also = absurd (nothing_left number to less enough)
  enters_is (x ∷ steps) _ _ _ _ (out number around to objects xs ys less is b) enough also =
      ap (λ c. cond c false (cond (nat_lt to number) (enters s steps (scopes.around s number) to) (cond (is_empty (scopes.objects s to)) (enters s steps number (scopes.around s to)) true))) (differs number to (above number to less))
      ∙ ap (λ c. cond c (enters s steps (scopes.around s number) to) (cond (is_empty (scopes.objects s to)) (enters s steps number (scopes.around s to)) true)) (lt-ltb to number less)
      ∙ ap (λ k. enters s steps k to) is.inside
      ∙ enters_is steps around to xs ys b (shorter around number (length steps) is.later enough) (shorter to number (length steps) less enough)
  enters_is [] _ _ _ _ (inside from number around objects xs ys less is b) enough also = absurd (nothing_left number from less also)
  enters_is (x ∷ steps) _ _ _ _ (inside from number around objects xs ys less is b) enough also =
      ap (λ c. cond c false (cond (nat_lt number from) (enters s steps (scopes.around s from) number) (cond (is_empty (scopes.objects s number)) (enters s steps from (scopes.around s number)) true))) (differs from number (beneath from number less))
      ∙ ap (λ c. cond c (enters s steps (scopes.around s from) number) (cond (is_empty (scopes.objects s number)) (enters s steps from (scopes.around s number)) true)) (not_less number from less)
      ∙ ap (λ zs. cond (is_empty zs) (enters s steps from (scopes.around s number)) true) is.holds
      ∙ ap (λ k. cond (is_empty objects) (enters s steps from k) true) is.inside
      ∙ ap (λ c. cond (is_empty objects) c true) (enters_is steps from around xs ys b (shorter from number (length steps) less also) (shorter around number (length steps) is.later also))
      ∙ by objects
    where
      by : (objects : List ℕ) → cond (is_empty objects) (not (is_empty ys)) true ≡ not (is_empty (ys ++ objects))
      by [] = ap not (sym (ends_empty ys))
      by (y ∷ more) = ap not (sym (some_behind ys y more))

-- ---- what the source leaves and enters

pub jump_is : (xs ys both known there inwards : List ℕ) → known ≡ xs ++ both → AreNew xs there → AreIn both there → inwards ≡ both ++ ys → AreNew ys known → AreIn both known → (without there known ≡ xs) × (without known inwards ≡ ys)
jump_is xs ys both known there inwards is new stays inward_is new_there here_too = (
  ap (without there) is ∙ without_on there xs both ∙ ap (λ zs. zs ++ without there both) (with_none there xs new) ∙ ap (λ zs. xs ++ zs) (all_in there both stays) ∙ append-nil xs,
  ap (without known) inward_is ∙ without_on known both ys ∙ ap (λ zs. zs ++ without known ys) (all_in known both here_too) ∙ with_none known ys new_there,
)
