-- The lines and calls of functions, one after the other.
use Rattle.std.proofs.Common.{◌≡◌, ◌<◌, ◌+◌, ◌-◌, ℕ, suc, List, [], ◌++◌, ◌∙◌, arith, refl, sym, ap, append_assoc}
use Rattle.cli_texts.specs.LoadUnits.{next_seed, kind_of, function_line, function_lines, call_of, calls_from}

pub calls_next : (k n : ℕ) → k < n → calls_from k (n - k) ≡ call_of k ++ calls_from (k + 1) (n - (k + 1))
calls_next k n h =
    let e : n - k ≡ suc (n - (k + 1)) = omega arith in
    rw e refl

pub calls_end : (k : ℕ) → calls_from k (k - k) ≡ []
calls_end k =
    let e : k - k ≡ 0 = omega arith in
    rw e refl

pub lines_next : (s k n : ℕ) → k < n → function_lines s k (n - k) ≡ function_line (kind_of (next_seed s)) k ++ function_lines (next_seed s) (k + 1) (n - (k + 1))
lines_next s k n h =
    let e : n - k ≡ suc (n - (k + 1)) = omega arith in
    rw e refl

pub lines_end : (s k : ℕ) → function_lines s k (k - k) ≡ []
lines_end s k =
    let e : k - k ≡ 0 = omega arith in
    rw e refl

-- a text with the next call added
pub calls_grow : (old new whole : List ℕ) (k n : ℕ) → k < n → old ++ calls_from k (n - k) ≡ whole → new ≡ old ++ call_of k → new ++ calls_from (k + 1) (n - (k + 1)) ≡ whole
calls_grow old new whole k n h e g =
    ap (λ x. x ++ calls_from (k + 1) (n - (k + 1))) g ∙ append_assoc old (call_of k) (calls_from (k + 1) (n - (k + 1))) ∙ ap (λ x. old ++ x) (sym (calls_next k n h)) ∙ e

-- a text with the next function added
pub lines_grow : (old new whole : List ℕ) (s k n : ℕ) → k < n → old ++ function_lines s k (n - k) ≡ whole → new ≡ old ++ function_line (kind_of (next_seed s)) k → new ++ function_lines (next_seed s) (k + 1) (n - (k + 1)) ≡ whole
lines_grow old new whole s k n h e g =
    ap (λ x. x ++ function_lines (next_seed s) (k + 1) (n - (k + 1))) g ∙ append_assoc old (function_line (kind_of (next_seed s)) k) (function_lines (next_seed s) (k + 1) (n - (k + 1))) ∙ ap (λ x. old ++ x) (sym (lines_next s k n h)) ∙ e

-- three pieces, one after the other
pub three_pieces : (old a b c x y z : List ℕ) → x ≡ old ++ a → y ≡ x ++ b → z ≡ y ++ c → z ≡ old ++ (a ++ (b ++ c))
three_pieces old a b c x y z e f g =
    g ∙ ap (λ w. w ++ c) (f ∙ ap (λ w. w ++ b) e) ∙ append_assoc (old ++ a) b c ∙ append_assoc old a (b ++ c)
