-- Tables as lists, and how many instructions a run can still come to.
use Rattle.std.proofs.Common.{◌≡◌, ℕ, zero, suc, ◌+◌, ◌<◌, ◌≤◌, Bool, true, false, Option, Some, None, List, [], ◌∷◌, length, arith, subst, sym, refl, ap, ◌∙◌, inl, inr}
use Rattle.std.specs.Prelude.{slice_get, slice_index_or, ◌==◌}
use Rattle.std.proofs.lemmas.Bool.{cases_Bool, eqb-true, eq-eqb}
use Rattle.cfg.specs.declared.basic_blocks.BasicBlock.{BasicBlock}
use Rattle.memory_model.specs.Effects.NumberedTables.{put_at}

-- ---- tables

pub put_here : {A : Type 0} (f : ℕ → Option A) (n : ℕ) (x : A) → put_at f n x n ≡ Some x
put_here f n x = grind arith

pub put_else : {A : Type 0} (f : ℕ → Option A) (n : ℕ) (x : A) (m : ℕ) → (m ≡ n → ⊥) → put_at f n x m ≡ f m
put_else f n x m ne = grind arith

-- the list of what a table has for the numbers from 0 on
abbrev pub listed : {A : Type 0} → (ℕ → Option A) → ℕ → List (Option A)
listed f zero = []
listed f (suc n) = f 0 ∷ listed (λ k. f (suc k)) n

pub listed_length : {A : Type 0} (f : ℕ → Option A) (n : ℕ) → length (listed f n) ≡ n
listed_length f zero = refl
listed_length f (suc n) = ap suc (listed_length (λ k. f (suc k)) n)

pub listed_at : {A : Type 0} (f : ℕ → Option A) (n : ℕ) → ((k : ℕ) → n ≤ k → f k ≡ None) → (k : ℕ) → slice_index_or (listed f n) k None ≡ f k
listed_at f zero h k = sym (h k (omega arith))
listed_at f (suc n) h zero = refl
listed_at f (suc n) h (suc k) = listed_at (λ j. f (suc j)) n (λ j le. h (suc j) (omega (arith, le))) k

-- ---- instructions that are left

-- how many instructions the blocks from a number on have
abbrev pub left_from : List BasicBlock → ℕ → ℕ
left_from [] b = 0
left_from (x ∷ xs) zero = length x.instructions.items + left_from xs 0
left_from (x ∷ xs) (suc b) = left_from xs b

pub left_in : (bs : List BasicBlock) (b : ℕ) (x : BasicBlock) → slice_get bs b ≡ Some x → left_from bs b ≡ length x.instructions.items + left_from bs (suc b)
left_in [] b x e = cc
left_in (y ∷ ys) zero x e = let d : y ≡ x = cc in ap (λ z. length z.instructions.items + left_from ys 0) d
left_in (y ∷ ys) (suc b) x e = left_in ys b x e

pub left_less : (bs : List BasicBlock) (b c : ℕ) → b ≤ c → left_from bs c ≤ left_from bs b
left_less [] b c h = omega arith
left_less (y ∷ ys) zero zero h = omega arith
left_less (y ∷ ys) zero (suc c) h = let r = left_less ys 0 c (omega arith) in omega (arith, r)
left_less (y ∷ ys) (suc b) zero h = absurd (omega (arith, h))
left_less (y ∷ ys) (suc b) (suc c) h = left_less ys b c (omega (arith, h))
