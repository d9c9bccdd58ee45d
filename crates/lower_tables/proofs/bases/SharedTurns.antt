-- The bases of what is to come, one after another.
use Rattle.std.proofs.Common.{◌≡◌, ◌<◌, ◌≤◌, ◌-◌, ◌+◌, ℕ, List, [], ◌∷◌, ◌++◌, reverse, refl, zero, suc, arith, ap, sym, ◌∙◌}
use Rattle.c_layout.specs.CheckedUnits.{UnitView}
use Rattle.c_layout.specs.declared.checked_tree.checked_units.StaticBase.{StaticBase}
use Rattle.lower_tables.specs.Bases.BaseTables.{TableView, with_all, with_shared, brought}

pub nothing_left : (u : UnitView) (n : ℕ) (b : TableView) → with_all u n [] b ≡ b
nothing_left u zero b = refl
nothing_left u (suc n) b = refl

pub no_turns : (u : UnitView) (most turn : ℕ) (stack : List StaticBase) (b : TableView) → most ≤ turn → with_all u (most - turn) stack b ≡ b
no_turns u most turn stack b done = let none : most - turn ≡ 0 = omega arith in ap (λ k. with_all u k stack b) none

by_turn : (u : UnitView) (n left : ℕ) (xs : List StaticBase) (x : StaticBase) (b : TableView) → n ≡ suc left → with_all u n (x ∷ xs) b ≡ with_all u left (brought u x b ++ xs) (with_shared u x b)
by_turn u n left xs x b is = ap (λ k. with_all u k (x ∷ xs) b) is

pub one_turn : (u : UnitView) (most turn : ℕ) (before rest now : List StaticBase) (x : StaticBase) (b c whole : TableView) → turn < most → before ≡ x ∷ rest → c ≡ with_shared u x b → now ≡ brought u x b ++ rest
    → with_all u (most - turn) before b ≡ whole → with_all u (most - (turn + 1)) now c ≡ whole
one_turn u most turn before rest now x b c whole less is_before is_c is_now known =
    let left : most - turn ≡ suc (most - (turn + 1)) = omega arith in
    (λ i. with_all u (most - (turn + 1)) (is_now i) (is_c i))
    ∙ sym (by_turn u (most - turn) (most - (turn + 1)) rest x b left)
    ∙ sym (ap (λ s. with_all u (most - turn) s b) is_before)
    ∙ known

pub begun_at : (u : UnitView) (n : ℕ) (x : StaticBase) (stack : List StaticBase) (b : TableView) → stack ≡ x ∷ [] → with_all u n (reverse stack) b ≡ with_all u n (x ∷ []) b
begun_at u n x stack b is = ap (λ xs. with_all u n (reverse xs) b) is
