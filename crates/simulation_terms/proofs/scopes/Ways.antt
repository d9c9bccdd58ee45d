-- The ways out of scopes, and what is left on them.
use Rattle.std.proofs.Common.{◌≡◌, ◌≤◌, ◌<◌, ℕ, suc, ◌==◌, Bool, true, false, cond, nat_lt, ◌||◌, List, [], ◌∷◌, ◌++◌, length, refl, arith, ap, sym, ◌∙◌}
use Rattle.std.proofs.lemmas.Bool.{eq-eqb, eqb-true, lt-ltb}
use Rattle.cc_base.specs.declared.diagnostics.Place.{Place}
use Rattle.lower_templates.specs.Worklist.Plans.{Plan}
use Rattle.lower_templates.specs.Worklist.Scopes.{ScopeView}
use Rattle.lower_templates.specs.Worklist.Settings.{SettingView}
use Rattle.lower_functions.specs.Statements.ScopeJumps as scopes
use Rattle.lower_functions.specs.Statements.ScopeJumps.{way, all_left}
use Rattle.semantics.specs.SourceMachine.Scopes.{is_in, without, all_of}
use Rattle.simulation_terms.specs.Scopes.Contexts.{Up, here, out, AreIn}
use Rattle.simulation_terms.specs.Scopes.SuitedStatements.{AreNew}
use Rattle.simulation_terms.specs.Scopes.Chains as chains
use Rattle.simulation_terms.specs.Scopes.Chains.{Chain}

pub outwards : (s : SettingView) (from to : ℕ) (xs : List ℕ) → Up s from to xs → to ≤ from
outwards s _ _ _ (here k) = itself k
  where
    itself : (k : ℕ) → k ≤ k
    itself k = omega arith
outwards s _ _ _ (out number around to objects xs less is up) = omega (arith, less)

-- scopes of a chain are there, and lead to that of the parameters
pub chain_there : (s : SettingView) (number : ℕ) (scopes : List (List ℕ)) → Chain s number scopes → number ≤ length s.scopes.scopes
chain_there s _ _ chains.outermost = least (length s.scopes.scopes)
  where
    least : (a : ℕ) → 0 ≤ a
    least a = omega arith
chain_there s _ _ (chains.inside number around objects scopes is chain) = at_most number (length s.scopes.scopes) is.there
  where
    at_most : (a b : ℕ) → a < b → a ≤ b
    at_most a b less = omega (arith, less)

pub chain_home : (s : SettingView) (number : ℕ) (scopes : List (List ℕ)) → Chain s number scopes → Up s number 0 (all_of scopes)
chain_home s _ _ chains.outermost = here 0
chain_home s _ _ (chains.inside number around objects scopes is chain) = out number around 0 objects (all_of scopes) (above around number is.later) is (chain_home s around scopes chain)
  where
    above : (a b : ℕ) → a < b → 0 < b
    above a b less = omega (arith, less)

all_left_on : (at : Place) (xs ys : List ℕ) (p : Plan) → all_left at (xs ++ ys) p ≡ all_left at ys (all_left at xs p)
all_left_on at [] ys p = refl
all_left_on at (x ∷ xs) ys p = all_left_on at xs ys (scopes.left at x p)

differs : (a b : ℕ) → b < a → (a == b) ≡ false
differs a b less = by (a == b) refl
  where
    apart : a ≡ b → ⊥
    apart e = omega (arith, less, e)

    by : (x : Bool) → (a == b) ≡ x → (a == b) ≡ false
    by false e = e
    by true e = absurd (apart (eqb-true a b e))

module _ (s : SettingView) where
  pub way_up : (steps : List ScopeView) (from to : ℕ) (xs : List ℕ) → Up s from to xs → from ≤ length steps → (p : Plan) → way s steps from to p ≡ all_left s.at xs p
  way_up [] _ _ _ (here k) enough p = refl
  way_up (x ∷ steps) _ _ _ (here k) enough p = ap (λ b. cond b p (cond (nat_lt k k) (way s steps (scopes.around s k) k (all_left s.at (scopes.objects s k) p)) (scopes.all_entered s.at (scopes.objects s k) (way s steps k (scopes.around s k) p)))) (eq-eqb k k refl)
  way_up [] _ _ _ (out number around to objects xs less is up) enough p = absurd (no number to less enough)
    where
      no : (a b : ℕ) → b < a → a ≤ 0 → ⊥
      no a b x y = omega (arith, x, y)
  way_up (x ∷ steps) _ _ _ (out number around to objects xs less is up) enough p =
      ap (λ b. cond b p (cond (nat_lt to number) (way s steps (scopes.around s number) to (all_left s.at (scopes.objects s number) p)) (scopes.all_entered s.at (scopes.objects s to) (way s steps number (scopes.around s to) p)))) (differs number to less)
      ∙ ap (λ b. cond b (way s steps (scopes.around s number) to (all_left s.at (scopes.objects s number) p)) (scopes.all_entered s.at (scopes.objects s to) (way s steps number (scopes.around s to) p))) (is_less to number less)
      ∙ ap (λ k. way s steps k to (all_left s.at (scopes.objects s number) p)) is.inside
      ∙ ap (λ ys. way s steps around to (all_left s.at ys p)) is.holds
      ∙ way_up steps around to xs up (shorter around number (length steps) is.later enough) (all_left s.at objects p)
      ∙ sym (all_left_on s.at objects xs p)
    where
      is_less : (a b : ℕ) → a < b → nat_lt a b ≡ true
      is_less a b l = lt-ltb a b l

      shorter : (a b c : ℕ) → a < b → b ≤ suc c → a ≤ c
      shorter a b c x y = omega (arith, x, y)

-- ---- lists of objects

pub with_none : (known xs : List ℕ) → AreNew xs known → without known xs ≡ xs
with_none known [] new = refl
with_none known (x ∷ xs) new = ap (λ b. cond b (without known xs) (x ∷ without known xs)) new.0 ∙ ap (λ ys. x ∷ ys) (with_none known xs new.1)

pub without_on : (known xs ys : List ℕ) → without known (xs ++ ys) ≡ without known xs ++ without known ys
without_on known [] ys = refl
without_on known (x ∷ xs) ys = by (is_in x known) (without_on known xs ys)
  where
    by : (b : Bool) → without known (xs ++ ys) ≡ without known xs ++ without known ys → cond b (without known (xs ++ ys)) (x ∷ without known (xs ++ ys)) ≡ cond b (without known xs) (x ∷ without known xs) ++ without known ys
    by true e = e
    by false e = ap (λ zs. x ∷ zs) e

-- whatever is known is known among more
pub in_more : (x : ℕ) (xs known : List ℕ) → is_in x known ≡ true → is_in x (xs ++ known) ≡ true
in_more x [] known e = e
in_more x (y ∷ xs) known e = ap (λ b. (x == y) || b) (in_more x xs known e) ∙ or_true (x == y)
  where
    or_true : (b : Bool) → (b || true) ≡ true
    or_true true = refl
    or_true false = refl

pub all_in : (known xs : List ℕ) → AreIn xs known → without known xs ≡ []
all_in known [] there = refl
all_in known (x ∷ xs) there = ap (λ b. cond b (without known xs) (x ∷ without known xs)) there.0 ∙ all_in known xs there.1

pub in_more_all : (xs ys known : List ℕ) → AreIn ys known → AreIn ys (xs ++ known)
in_more_all xs [] known there = tt
in_more_all xs (y ∷ ys) known there = (in_more y xs known there.0, in_more_all xs ys known there.1)

pub new_for_fewer : (xs fewer known : List ℕ) → ((x : ℕ) → is_in x fewer ≡ true → is_in x known ≡ true) → AreNew xs known → AreNew xs fewer
new_for_fewer [] fewer known within new = tt
new_for_fewer (x ∷ xs) fewer known within new = (by (is_in x fewer) refl, new_for_fewer xs fewer known within new.1)
  where
    both : is_in x known ≡ true → ⊥
    both e = no (sym e ∙ new.0)
      where
        no : true ≡ false → ⊥
        no e = cc

    by : (b : Bool) → is_in x fewer ≡ b → is_in x fewer ≡ false
    by false e = e
    by true e = absurd (both (within x e))
