-- One parameter is read.
use Rattle.std.proofs.Common.{◌≡◌, ℕ, zero, suc, refl, ◌<◌, ◌-◌, ◌≤◌, Bool, false, List, [], ◌∷◌, length, take, drop, get_or, Some, sym, ◌∙◌, ap, arith}
use Rattle.std.proofs.Math.Seq.{take-length}
use Rattle.c_preproc_macros.specs.declared.lexeme.Lexeme.{Lexeme}
use Rattle.c_preproc_macros.specs.declared.lexeme.Lexeme.TheVariants.{Name}
use Rattle.c_preproc_directives.specs.Definitions.{fresh, ends, parted, with_names, heading, same_rest}
use Rattle.c_preproc_macros.specs.declared.macro_table.Part.{Part}

abbrev pub any_lexeme : Lexeme
any_lexeme = Name 0 (record { place = record { file = 0; line = 0; col = 0 }; first = false; space = false })

pub goes_on : (barred : ℕ → Bool) (names names1 : List ℕ) (left : List Lexeme) (b : Bool) → 2 ≤ length left → fresh barred names (get_or left 0 any_lexeme) ≡ Some names1 → Some b ≡ ends (get_or left 1 any_lexeme) → b ≡ false
    → heading barred names left ≡ heading barred names1 (take (length left - 2) (drop 2 left))
goes_on barred names names1 [] b h f e t = absurd (omega arith)
goes_on barred names names1 (x ∷ []) b h f e t = absurd (omega arith)
goes_on barred names names1 (x ∷ y ∷ more) b h f e t =
    let all : length (x ∷ y ∷ more) - 2 ≡ length more = omega arith in
    ap (λ o. with_names o y more (λ names2. heading barred names2 more)) f
    ∙ ap (λ o. parted o names1 more (λ names2. heading barred names2 more)) (sym e ∙ ap Some t)
    ∙ ap (heading barred names1) (sym (ap (λ n. take n more) all ∙ take-length more))

-- a list that goes on where another is at its end
pub rest_longer : (x y : List Part) (i : ℕ) → i < length x → length y < 1 → same_rest (drop i x) y ≡ false
rest_longer x (b ∷ y) i h k = absurd (omega arith)
rest_longer [] [] i h k = absurd (omega arith)
rest_longer (a ∷ x) [] zero h k = refl
rest_longer (a ∷ x) [] (suc i) h k = rest_longer x [] i (omega arith) k
