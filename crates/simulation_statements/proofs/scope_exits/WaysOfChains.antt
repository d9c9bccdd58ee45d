-- The way between any two places of a function, by the scopes around them.
use Rattle.std.proofs.Common.{◌≡◌, ◌≤◌, ◌<◌, ℕ, zero, suc, ◌+◌, ◌==◌, Bool, true, false, cond, ◌||◌, nat_lt, List, [], ◌∷◌, ◌++◌, refl, arith, ap, sym, subst, ◌∙◌}
use Rattle.std.proofs.lemmas.Bool.{eq-eqb, eqb-true, lt-ltb, ltb-true}
use Rattle.lower_templates.specs.Worklist.Settings.{SettingView}
use Rattle.semantics.specs.SourceMachine.Scopes.{is_in, all_of, inwards, without}
use Rattle.simulation_terms.specs.Scopes.Scopes.{IsScope}
use Rattle.simulation_terms.specs.Scopes.SuitedStatements.{AreNew}
use Rattle.simulation_terms.proofs.scopes.Ways.{with_none, without_on, all_in}
use Rattle.simulation_terms.proofs.scopes.Contexts.{self_in, inwards_in}
use Rattle.simulation_statements.specs.ScopeExits.Between as between
use Rattle.simulation_statements.specs.ScopeExits.Between.{Between}
use Rattle.simulation_terms.specs.Scopes.Chains.{Chain, outermost, inside, AreApart}
use Rattle.simulation_statements.specs.ScopeExits.Chains.{IsWay}

-- ---- lists of objects

-- what is in neither list
in_neither : (x : ℕ) (xs ys : List ℕ) → is_in x xs ≡ false → is_in x (xs ++ ys) ≡ is_in x ys
in_neither x [] ys e = refl
in_neither x (y ∷ xs) ys e = by (x == y) e (in_neither x xs ys)
  where
    by : (b : Bool) → (b || is_in x xs) ≡ false → (is_in x xs ≡ false → is_in x (xs ++ ys) ≡ is_in x ys) → (b || is_in x (xs ++ ys)) ≡ is_in x ys
    by true e later = absurd (no e)
      where
        no : true ≡ false → ⊥
        no e = cc
    by false e later = later e

new_for_both : (xs ys zs : List ℕ) → AreNew xs ys → AreNew xs zs → AreNew xs (ys ++ zs)
new_for_both [] ys zs one other = tt
new_for_both (x ∷ xs) ys zs one other = (in_neither x ys zs one.0 ∙ other.0, new_for_both xs ys zs one.1 other.1)

new_for_none : (xs : List ℕ) → AreNew xs []
new_for_none [] = tt
new_for_none (x ∷ xs) = (refl, new_for_none xs)

both_new : (xs ys zs : List ℕ) → AreNew xs zs → AreNew ys zs → AreNew (xs ++ ys) zs
both_new [] ys zs one other = other
both_new (x ∷ xs) ys zs one other = (one.0, both_new xs ys zs one.1 other)

-- what is known in vain
without_more : (more known xs : List ℕ) → AreNew xs more → without (more ++ known) xs ≡ without known xs
without_more more known [] new = refl
without_more more known (x ∷ xs) new =
    ap (λ b. cond b (without (more ++ known) xs) (x ∷ without (more ++ known) xs)) (in_neither x more known new.0)
    ∙ ap (λ ys. cond (is_in x known) ys (x ∷ ys)) (without_more more known xs new.1)

-- ---- numbers

not_below : (a b : ℕ) → b < 0 → a ≡ a → ⊥
not_below a b less e = omega (arith, less)

through : (a b c : ℕ) → a < b → b < c → a < c
through a b c x y = omega (arith, x, y)

above : (a b : ℕ) → b < a → a ≡ b → ⊥
above a b less e = omega (arith, less, e)

beneath : (a b : ℕ) → b < a → b ≡ a → ⊥
beneath a b less e = omega (arith, less, e)

not_equal : (a b : ℕ) → (a == b) ≡ false → a ≡ b → ⊥
not_equal a b e same = absurd (never (sym (eq-eqb a b same) ∙ e))
  where
    never : true ≡ false → ⊥
    never e = cc

not_less : (a b : ℕ) → nat_lt a b ≡ false → a < b → ⊥
not_less a b e less = absurd (never (sym (lt-ltb a b less) ∙ e))
  where
    never : true ≡ false → ⊥
    never e = cc

greater : (a b : ℕ) → (a ≡ b → ⊥) → (a < b → ⊥) → b < a
greater a b apart more = by (nat_lt b a) refl
  where
    neither : (a b : ℕ) → (a < b → ⊥) → (b < a → ⊥) → a ≡ b
    neither zero zero less more = refl
    neither zero (suc b) less more = absurd (less (omega arith))
    neither (suc a) zero less more = absurd (more (omega arith))
    neither (suc a) (suc b) less more = ap (λ n. suc n) (neither a b (λ e. less (one_on a b e)) (λ e. more (one_on b a e)))
      where
        one_on : (a b : ℕ) → a < b → suc a < suc b
        one_on a b e = omega (arith, e)

    by : (x : Bool) → nat_lt b a ≡ x → b < a
    by true e = ltb-true b a e
    by false e = absurd (apart (neither a b more (not_less b a e)))

-- one of three cases
compared : {R : Type 0} (a b : ℕ) → (a ≡ b → R) → (a < b → R) → (b < a → R) → R
compared {R} a b same less more = by (a == b) refl
  where
    by_less : (x : Bool) → nat_lt a b ≡ x → (a ≡ b → ⊥) → R
    by_less true e apart = less (ltb-true a b e)
    by_less false e apart = more (greater a b apart (not_less a b e))

    by : (x : Bool) → (a == b) ≡ x → R
    by true e = same (eqb-true a b e)
    by false e = by_less (nat_lt a b) refl (not_equal a b e)

fewer_left : (a b c k : ℕ) → c < a → a + b ≤ suc k → c + b ≤ k
fewer_left a b c k x y = omega (arith, x, y)

fewer_right : (a b c k : ℕ) → c < b → a + b ≤ suc k → a + c ≤ k
fewer_right a b c k x y = omega (arith, x, y)

both_none : (a b : ℕ) → a + b ≤ 0 → a ≡ b
both_none a b e = omega (arith, e)

itself : (k : ℕ) → k ≤ k
itself k = omega arith

module _ (s : SettingView) where
  not_outermost : (around : ℕ) (objects : List ℕ) → IsScope s 0 around objects → ⊥
  not_outermost around objects is = let less = is.later in omega (arith, less)

  -- a scope has one chain
  same_chain : (number : ℕ) (here there : List (List ℕ)) → Chain s number here → Chain s number there → here ≡ there
  same_chain _ _ _ outermost outermost = refl
  same_chain _ _ _ outermost (inside _ around objects scopes is chain) = absurd (not_outermost around objects is)
  same_chain _ _ _ (inside _ around objects scopes is chain) outermost = absurd (not_outermost around objects is)
  same_chain _ _ _ (inside number around objects scopes is chain) (inside _ outer others more also other) =
      let same_around : outer ≡ around = sym also.inside ∙ is.inside in
      ap (λ xs. xs ∷ scopes) (sym is.holds ∙ also.holds) ∙ ap (λ xs. others ∷ xs) (same_chain around scopes more chain (subst (λ k. Chain s k more) same_around other))

  module _ (apart : AreApart s) where
    -- the objects of a scope are not those of scopes that begin before it
    new_outwards : (number around k : ℕ) (objects : List ℕ) (scopes : List (List ℕ)) → IsScope s number around objects → k < number → Chain s k scopes → AreNew objects (all_of scopes)
    new_outwards number around _ objects _ is less outermost = new_for_none objects
    new_outwards number around _ objects _ is less (inside k outer others scopes also chain) =
        new_for_both objects others (all_of scopes) (apart number k around outer objects others is also (above number k less)) (new_outwards number around outer objects scopes is (through outer k number also.later less) chain)

    -- and those of such scopes are not its own
    all_new : (number around k : ℕ) (objects : List ℕ) (scopes : List (List ℕ)) → IsScope s number around objects → k < number → Chain s k scopes → AreNew (all_of scopes) objects
    all_new number around _ objects _ is less outermost = tt
    all_new number around _ objects _ is less (inside k outer others scopes also chain) =
        both_new others (all_of scopes) objects (apart k number outer around others objects also is (beneath number k less)) (all_new number around outer objects scopes is (through outer k number also.later less) chain)

    inwards_new : (number around k : ℕ) (objects : List ℕ) (scopes : List (List ℕ)) → IsScope s number around objects → k < number → Chain s k scopes → AreNew (inwards scopes) objects
    inwards_new number around _ objects _ is less outermost = tt
    inwards_new number around _ objects _ is less (inside k outer others scopes also chain) =
        both_new (inwards scopes) others objects (inwards_new number around outer objects scopes is (through outer k number also.later less) chain) (apart k number outer around others objects also is (beneath number k less))

    -- ---- ways

    here_way : (number : ℕ) (scopes : List (List ℕ)) → IsWay s number number scopes scopes
    here_way number scopes = record {
      leaves = [];
      enters = [];
      between = between.here number;
      left = all_in (all_of scopes) (all_of scopes) (self_in (all_of scopes) []);
      entered = all_in (all_of scopes) (inwards scopes) (inwards_in scopes);
    }

    out_way : (number around to : ℕ) (objects : List ℕ) (scopes there : List (List ℕ)) → to < number → IsScope s number around objects → Chain s to there → IsWay s around to scopes there → IsWay s number to (objects ∷ scopes) there
    out_way number around to objects scopes there less is chain w = record {
      leaves = objects ++ w.leaves;
      enters = w.enters;
      between = between.out number around to objects w.leaves w.enters less is w.between;
      left = without_on (all_of there) objects (all_of scopes) ∙ ap (λ xs. xs ++ without (all_of there) (all_of scopes)) (with_none (all_of there) objects (new_outwards number around to objects there is less chain)) ∙ ap (λ xs. objects ++ xs) w.left;
      entered = without_more objects (all_of scopes) (inwards there) (inwards_new number around to objects there is less chain) ∙ w.entered;
    }

    in_way : (from number around : ℕ) (objects : List ℕ) (here scopes : List (List ℕ)) → from < number → IsScope s number around objects → Chain s from here → IsWay s from around here scopes → IsWay s from number here (objects ∷ scopes)
    in_way from number around objects here scopes less is chain w = record {
      leaves = w.leaves;
      enters = w.enters ++ objects;
      between = between.inside from number around objects w.leaves w.enters less is w.between;
      left = without_more objects (all_of scopes) (all_of here) (all_new number around from objects here is less chain) ∙ w.left;
      entered = without_on (all_of here) (inwards scopes) objects ∙ ap (λ xs. xs ++ without (all_of here) objects) w.entered ∙ ap (λ xs. w.enters ++ xs) (with_none (all_of here) objects (new_outwards number around from objects here is less chain));
    }

    at_same : (from to : ℕ) (here there : List (List ℕ)) → from ≡ to → Chain s from here → Chain s to there → IsWay s from to here there
    at_same from to here there same one other =
        let chains = same_chain from here there one (subst (λ m. Chain s m there) (sym same) other) in
        subst (λ m. IsWay s from m here there) same (subst (λ xs. IsWay s from from here xs) chains (here_way from here))

    -- ways by so many scopes at most
    abbrev WaysWithin : ℕ → Type 0
    WaysWithin k = (from to : ℕ) (here there : List (List ℕ)) → from + to ≤ k → Chain s from here → Chain s to there → IsWay s from to here there

    outwards_by : (k : ℕ) → WaysWithin k → (from to : ℕ) (here there : List (List ℕ)) → to < from → from + to ≤ suc k → Chain s from here → Chain s to there → IsWay s from to here there
    outwards_by k ways _ to _ there less few outermost other = absurd (not_below to to less refl)
    outwards_by k ways _ to _ there less few (inside from around objects scopes is one) other = out_way from around to objects scopes there less is other (ways around to scopes there (fewer_left from to around k is.later few) one other)

    inwards_by : (k : ℕ) → WaysWithin k → (from to : ℕ) (here there : List (List ℕ)) → from < to → from + to ≤ suc k → Chain s from here → Chain s to there → IsWay s from to here there
    inwards_by k ways from _ here _ less few one outermost = absurd (not_below from from less refl)
    inwards_by k ways from _ here _ less few one (inside to around objects scopes is other) = in_way from to around objects here scopes less is one (ways from around here scopes (fewer_right from to around k is.later few) one other)

    way_by : (k : ℕ) → WaysWithin k
    way_by zero from to here there few one other = at_same from to here there (both_none from to few) one other
    way_by (suc k) from to here there few one other = compared from to (λ same. at_same from to here there same one other) (λ less. inwards_by k (way_by k) from to here there less few one other) (λ less. outwards_by k (way_by k) from to here there less few one other)

    pub way_of : (from to : ℕ) (here there : List (List ℕ)) → Chain s from here → Chain s to there → IsWay s from to here there
    way_of from to here there one other = way_by (from + to) from to here there (itself (from + to)) one other
