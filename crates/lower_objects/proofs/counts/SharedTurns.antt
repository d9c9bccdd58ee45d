-- Shared objects are counted one after another.
use Rattle.std.proofs.Common.{◌≡◌, ◌<◌, ◌≤◌, ◌-◌, ◌+◌, ℕ, List, [], ◌∷◌, ◌++◌, Option, Some, None, reverse, refl, zero, suc, arith, ap, sym, ◌∙◌}
use Rattle.std.proofs.lemmas.List.{reverse-append}
use Rattle.c_layout.specs.CheckedUnits.{UnitView}
use Rattle.c_layout.specs.declared.checked_tree.checked_units.StaticBase.{StaticBase}
use Rattle.lower_objects.specs.Counts.SharedObjects.{Sharing, before_all, all_visited, visited, brought}

pub before_rest : (base : Option StaticBase) (rest : List StaticBase) → before_all base [] ++ rest ≡ before_all base rest
before_rest None rest = refl
before_rest (Some base) rest = refl

pub nothing_left : (u : UnitView) (n : ℕ) (s : Sharing) → all_visited u n [] s ≡ s
nothing_left u zero s = refl
nothing_left u (suc n) s = refl

pub no_turns : (u : UnitView) (most turn : ℕ) (stack : List StaticBase) (s : Sharing) → most ≤ turn → all_visited u (most - turn) stack s ≡ s
no_turns u most turn stack s done = let none : most - turn ≡ 0 = omega arith in ap (λ k. all_visited u k stack s) none

by_turn : (u : UnitView) (n left : ℕ) (xs : List StaticBase) (x : StaticBase) (s : Sharing) → n ≡ suc left → all_visited u n (x ∷ xs) s ≡ all_visited u left (brought u x s ++ xs) (visited u x s)
by_turn u n left xs x s is = ap (λ k. all_visited u k (x ∷ xs) s) is

pub one_turn : (u : UnitView) (most turn : ℕ) (before rest now : List StaticBase) (x : StaticBase) (s t whole : Sharing) → turn < most → before ≡ x ∷ rest → t ≡ visited u x s → now ≡ brought u x s ++ rest
    → all_visited u (most - turn) before s ≡ whole → all_visited u (most - (turn + 1)) now t ≡ whole
one_turn u most turn before rest now x s t whole less is_before is_t is_now known =
    let left : most - turn ≡ suc (most - (turn + 1)) = omega arith in
    (λ i. all_visited u (most - (turn + 1)) (is_now i) (is_t i))
    ∙ sym (by_turn u (most - turn) (most - (turn + 1)) rest x s left)
    ∙ sym (ap (λ b. all_visited u (most - turn) b s) is_before)
    ∙ known

pub top : {A : Type 0} (stack : List A) (x : A) → reverse (stack ++ x ∷ []) ≡ x ∷ reverse stack
top stack x = reverse-append stack (x ∷ [])

-- what comes on a stack behind others is seen first from the top
pub on_top : {A : Type 0} (stack more : List A) → reverse (stack ++ more) ≡ reverse more ++ reverse stack
on_top stack more = reverse-append stack more
