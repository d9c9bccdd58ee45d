-- Pieces are added one after another, until no copy is left.
use Rattle.std.proofs.Common.{◌≡◌, ◌<◌, ◌≤◌, ◌-◌, ◌+◌, ℕ, List, [], ◌∷◌, Option, refl, zero, suc, arith, ap, sym, ◌∙◌}
use Rattle.c_layout.specs.CheckedUnits.{UnitView}
use Rattle.lower_templates.specs.Worklist.Pieces.{TemplateView}
use Rattle.lower.specs.Inlining.Inlinings.{CopyView, Made, Placed, placed, Inlined, next, inlined, run, with_local, with_parameters, all_run, entry_run, unresolved}

pub no_copy : (u : UnitView) (ts : List (Option TemplateView)) (n : ℕ) (m : Made) → run u ts n [] m ≡ inlined [] m
no_copy u ts zero m = refl
no_copy u ts (suc n) m = refl

pub no_turns : (u : UnitView) (ts : List (Option TemplateView)) (most turn : ℕ) (stack : List CopyView) (m : Made) → most ≤ turn → run u ts (most - turn) stack m ≡ inlined stack m
no_turns u ts most turn stack m done = let none : most - turn ≡ 0 = omega arith in ap (λ k. run u ts k stack m) none

by_turn : (u : UnitView) (ts : List (Option TemplateView)) (n left : ℕ) (c : CopyView) (stack : List CopyView) (m : Made) → n ≡ suc left → run u ts n (c ∷ stack) m ≡ run u ts left (next u ts c stack m).stack (next u ts c stack m).program
by_turn u ts n left c stack m is = ap (λ k. run u ts k (c ∷ stack) m) is

pub one_turn : (u : UnitView) (ts : List (Option TemplateView)) (most turn : ℕ) (before rest : List CopyView) (c : CopyView) (m : Made) (o : Inlined) (whole : Inlined) → turn < most → before ≡ c ∷ rest → o ≡ next u ts c rest m
    → run u ts (most - turn) before m ≡ whole → run u ts (most - (turn + 1)) o.stack o.program ≡ whole
one_turn u ts most turn before rest c m o whole less is_before is_next known =
    let left : most - turn ≡ suc (most - (turn + 1)) = omega arith in
    ap (λ q. run u ts (most - (turn + 1)) q.stack q.program) is_next
    ∙ sym (by_turn u ts (most - turn) (most - (turn + 1)) c rest m left)
    ∙ sym (ap (λ s. run u ts (most - turn) s m) is_before)
    ∙ known

pub next_parameter : (u : UnitView) (n : ℕ) (p : Placed) → with_parameters u (n + 1) p ≡ with_local u n (with_parameters u n p)
next_parameter u n p = let e : n + 1 ≡ suc n = omega arith in ap (λ k. with_parameters u k p) e

pub run_at : (u : UnitView) (ts : List (Option TemplateView)) (n : ℕ) (a b : List CopyView) (m : Made) → a ≡ b → run u ts n a m ≡ run u ts n b m
run_at u ts n a b m same = ap (λ stack. run u ts n stack m) same

-- the entry's parameters are named, and then all is opened
pub run_from : (u : UnitView) (ts : List (Option TemplateView)) (o : Inlined) (c : CopyView) (rest : List CopyView) (p : Placed) (whole : Inlined) → o.stack ≡ c ∷ rest → p ≡ with_parameters u c.function.parameters (placed o.program c) → whole ≡ all_run u ts rest p → whole ≡ unresolved u ts o
run_from u ts o c rest p whole is_stack is_p is = is ∙ ap (λ q. all_run u ts rest q) is_p ∙ sym (ap (λ s. entry_run u ts s o.program) is_stack)
