-- The digits of a set, one after the other.
use Rattle.std.proofs.Common.{◌≡◌, ◌<◌, ◌-◌, ◌∙◌, ℕ, zero, suc, List, [], ◌∷◌, ◌++◌, arith, refl, sym, ap, append_assoc}
use Rattle.pointer_domain.specs.declared.base_sets.Bases.{Bases}
use Rattle.certificate_text.specs.Lines.BaseDigits.{nibble, hex_digit, digits_below}

pub digits_next : (set : Bases) (n : ℕ) → 0 < n → digits_below set n ≡ hex_digit (nibble set (n - 1)) ∷ digits_below set (n - 1)
digits_next set zero h = absurd (omega arith)
digits_next set (suc n) h =
    let e : suc n - 1 ≡ n = omega arith in
    rw e refl

-- a text with the next digit added
pub digits_grow : (set : Bases) (old new whole : List ℕ) (n : ℕ) → 0 < n → old ++ digits_below set n ≡ whole → new ≡ old ++ (hex_digit (nibble set (n - 1)) ∷ []) → new ++ digits_below set (n - 1) ≡ whole
digits_grow set old new whole n h e g =
    ap (λ x. x ++ digits_below set (n - 1)) g ∙ append_assoc old (hex_digit (nibble set (n - 1)) ∷ []) (digits_below set (n - 1)) ∙ ap (λ x. old ++ x) (sym (digits_next set n h)) ∙ e
