-- The edges of a block are added one after another.
use Rattle.std.proofs.Common.{◌≡◌, ◌<◌, ◌+◌, ℕ, zero, suc, List, [], ◌∷◌, drop, get_or, length, map, arith, ap, sym, ◌∙◌}
use Rattle.c_layout.specs.CheckedUnits.{UnitView}
use Rattle.lower_templates.specs.Worklist.Pieces.{exit_view}
use Rattle.lower_templates.specs.declared.worklist.template_pieces.Exit.{Exit}
use Rattle.lower.specs.Inlining.Inlinings.{Placed, with_exit, with_exits}

rest_suc : {A B : Type 0} (view : A → B) (xs : List A) (n : ℕ) (x : A) → n < length xs → x ≡ get_or xs n x → map view (drop n xs) ≡ view x ∷ map view (drop (suc n) xs)
rest_suc view [] n x less is = absurd (omega arith)
rest_suc view (y ∷ ys) zero x less is = ap (λ z. view z ∷ map view ys) (sym is)
rest_suc view (y ∷ ys) (suc n) x less is = rest_suc view ys n x (omega arith) is

pub one_exit : (u : UnitView) (from : ℕ) (exits : List Exit) (n : ℕ) (e : Exit) (p q whole : Placed) → n < length exits → e ≡ get_or exits n e → q ≡ with_exit u from (exit_view e) p
    → with_exits u from (map exit_view (drop n exits)) p ≡ whole → with_exits u from (map exit_view (drop (n + 1) exits)) q ≡ whole
one_exit u from exits n e p q whole less is_item is_next known =
    let next : suc n ≡ n + 1 = omega arith in
    let rest = rest_suc exit_view exits n e less is_item ∙ ap (λ k. exit_view e ∷ map exit_view (drop k exits)) next in
    ap (λ r. with_exits u from (map exit_view (drop (n + 1) exits)) r) is_next ∙ sym (ap (λ es. with_exits u from es p) rest) ∙ known
