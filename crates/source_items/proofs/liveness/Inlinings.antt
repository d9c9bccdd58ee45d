-- What is left and entered between two places of a body makes the lives of one into those of the other.
use Rattle.std.proofs.Common.{◌≡◌, ℕ, Bool, true, false, not, ◌&&◌, ◌||◌, List, ◌∷◌, ◌++◌, append_assoc, refl, ap, sym, subst, ◌∙◌}
use Rattle.semantics.specs.SourceMachine.Scopes.{is_in, all_of, without, inwards}
use Rattle.source_items.specs.Liveness.Lives.{Lives, with_those, without_those, AreDistinct, AreNew, AreAlive, AreOpen}
use Rattle.source_items.proofs.liveness.Members.{apart, other_apart, left_or, is_in-append, is_in-inwards, is_in-without, distinct_left, distinct_apart, distinct_both, distinct_without, distinct_inwards}

-- ---- truth

and_left : (a b : Bool) → (a && b) ≡ true → a ≡ true
and_left true b e = refl
and_left false b e = absurd (apart e)

and_not : (a b : Bool) → (a && not b) ≡ true → b ≡ false
and_not true true e = absurd (apart e)
and_not true false e = refl
and_not false b e = absurd (apart e)

jumped : (a b c : Bool) → (b ≡ true → c ≡ false) → ((a && not b) || (not (b && not a) && (b || c))) ≡ (a || c)
jumped true true c h = refl
jumped true false c h = refl
jumped false true true h = absurd (other_apart (h refl))
jumped false true false h = refl
jumped false false c h = refl

leapt : (a b c : Bool) → (b ≡ true → c ≡ false) → (a ≡ true → b ≡ true) → (not (b && not a) && (b || c)) ≡ (a || c)
leapt true true c h k = refl
leapt true false c h k = absurd (apart (k refl))
leapt false true true h k = absurd (other_apart (h refl))
leapt false true false h k = refl
leapt false false c h k = refl

-- ---- scopes

module _ (objects : List ℕ) where
  pub parts : (alive : Lives) (scopes : List (List ℕ)) → AreOpen objects alive scopes → (n : ℕ) → alive n ≡ (is_in n (all_of scopes) || is_in n objects)
  parts alive scopes opened n = opened.same n ∙ is_in-append n (all_of scopes) objects

  -- what lives in the whole body is in no scope
  pub kept_apart : (alive : Lives) (scopes : List (List ℕ)) → AreOpen objects alive scopes → (n : ℕ) → is_in n (all_of scopes) ≡ true → is_in n objects ≡ false
  kept_apart alive scopes opened n e = distinct_apart (all_of scopes) objects opened.distinct n e

  -- one scope more
  pub scope_opens : (alive : Lives) (scopes : List (List ℕ)) (scope : List ℕ) → AreNew scope alive → AreOpen objects alive scopes → AreOpen objects (with_those scope alive) (scope ∷ scopes)
  scope_opens alive scopes scope new opened = record { same = same; distinct = distinct }
    where
      flat : (scope ++ all_of scopes) ++ objects ≡ scope ++ (all_of scopes ++ objects)
      flat = append_assoc scope (all_of scopes) objects

      same : (n : ℕ) → (is_in n scope || alive n) ≡ is_in n ((scope ++ all_of scopes) ++ objects)
      same n = ap (λ b. is_in n scope || b) (opened.same n) ∙ sym (is_in-append n scope (all_of scopes ++ objects)) ∙ sym (ap (is_in n) flat)

      distinct : AreDistinct ((scope ++ all_of scopes) ++ objects)
      distinct = subst AreDistinct (sym flat) (distinct_both scope (all_of scopes ++ objects) new.0 opened.distinct (λ n e. sym (opened.same n) ∙ new.1 n e))

  module _ (here there : Lives) (from to : List (List ℕ)) (opened : AreOpen objects here from) (reaches : AreOpen objects there to) where
    abbrev left : List ℕ
    left = without (all_of to) (all_of from)

    abbrev entered : List ℕ
    entered = without (all_of from) (inwards to)

    is_left : (n : ℕ) → is_in n left ≡ (is_in n (all_of from) && not (is_in n (all_of to)))
    is_left n = is_in-without (all_of to) n (all_of from)

    is_entered : (n : ℕ) → is_in n entered ≡ (is_in n (all_of to) && not (is_in n (all_of from)))
    is_entered n = is_in-without (all_of from) n (inwards to) ∙ ap (λ b. b && not (is_in n (all_of from))) (is_in-inwards n to)

    behind_enters : (n : ℕ) → without_those entered there n ≡ (not (is_in n (all_of to) && not (is_in n (all_of from))) && (is_in n (all_of to) || is_in n objects))
    behind_enters n = ap (λ b. not b && there n) (is_entered n) ∙ ap (λ b. not (is_in n (all_of to) && not (is_in n (all_of from))) && b) (parts there to reaches n)

    pub jump_same : (n : ℕ) → with_those left (without_those entered there) n ≡ here n
    jump_same n =
        ap (λ b. b || without_those entered there n) (is_left n)
        ∙ ap (λ b. (is_in n (all_of from) && not (is_in n (all_of to))) || b) (behind_enters n)
        ∙ jumped (is_in n (all_of from)) (is_in n (all_of to)) (is_in n objects) (kept_apart there to reaches n)
        ∙ sym (parts here from opened n)

    pub leap_same : ((n : ℕ) → is_in n (all_of from) ≡ true → is_in n (all_of to) ≡ true) → (n : ℕ) → without_those entered there n ≡ here n
    leap_same within n = behind_enters n ∙ leapt (is_in n (all_of from)) (is_in n (all_of to)) (is_in n objects) (kept_apart there to reaches n) (within n) ∙ sym (parts here from opened n)

    pub left_new : AreNew left (without_those entered there)
    left_new = (distinct_without (all_of to) (all_of from) (distinct_left (all_of from) objects opened.distinct), none)
      where
        by : (a b c : Bool) → a ≡ true → b ≡ false → c ≡ false → (not (b && not a) && (b || c)) ≡ false
        by a true c x y z = absurd (other_apart y)
        by a false c x y z = z

        none : (n : ℕ) → is_in n left ≡ true → without_those entered there n ≡ false
        none n e =
            let was : (is_in n (all_of from) && not (is_in n (all_of to))) ≡ true = sym (is_left n) ∙ e in
            let inside : is_in n (all_of from) ≡ true = and_left (is_in n (all_of from)) (not (is_in n (all_of to))) was in
            behind_enters n ∙ by (is_in n (all_of from)) (is_in n (all_of to)) (is_in n objects) inside (and_not (is_in n (all_of from)) (is_in n (all_of to)) was) (kept_apart here from opened n inside)

    pub entered_alive : AreAlive entered there
    entered_alive = (distinct_without (all_of from) (inwards to) (distinct_inwards to (distinct_left (all_of to) objects reaches.distinct)), all)
      where
        all : (n : ℕ) → is_in n entered ≡ true → there n ≡ true
        all n e =
            let inside : is_in n (all_of to) ≡ true = and_left (is_in n (all_of to)) (not (is_in n (all_of from))) (sym (is_entered n) ∙ e) in
            parts there to reaches n ∙ left_or (is_in n (all_of to)) (is_in n objects) inside
