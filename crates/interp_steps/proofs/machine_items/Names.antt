-- The instances that objects name.
use Rattle.std.proofs.Common.{◌≡◌, ℕ, zero, suc, ◌<◌, ◌==◌, Bool, true, false, List, [], ◌∷◌, ◌++◌, length, set, Option, None, refl, sym, ap, subst, ◌∙◌, arith, ⊎_elim}
use Rattle.std.proofs.Math.Path.{fun_ext}
use Rattle.std.proofs.lemmas.Bool.Decides.{eqb_tells}
use Rattle.memory_model.specs.Effects.NumberedTables.{set_at}
use Rattle.interp_steps.specs.MachineItems.MachineViews.{names_view}

-- a table at the number where it has something else, and at another one
pub set_here : (f : ℕ → Option ℕ) (at n : ℕ) (x : Option ℕ) → (n == at) ≡ true → set_at f at x n ≡ x
set_here f at n x e = subst (λ (b : Bool). elim b as (λ _. Option ℕ) [ true ↦ x | false ↦ f n ] ≡ x) (sym e) refl

pub set_elsewhere : (f : ℕ → Option ℕ) (at n : ℕ) (x : Option ℕ) → (n == at) ≡ false → set_at f at x n ≡ f n
set_elsewhere f at n x e = subst (λ (b : Bool). elim b as (λ _. Option ℕ) [ true ↦ x | false ↦ f n ] ≡ f n) (sym e) refl

none_at : (xs : List (Option ℕ)) (n : ℕ) → names_view (xs ++ None ∷ []) n ≡ names_view xs n
none_at [] zero = refl
none_at [] (suc n) = refl
none_at (x ∷ xs) zero = refl
none_at (x ∷ xs) (suc n) = none_at xs n

-- a place more, without a name
pub names_more : (xs : List (Option ℕ)) → names_view (xs ++ None ∷ []) ≡ names_view xs
names_more xs = fun_ext (none_at xs)

name_here : (xs : List (Option ℕ)) (at : ℕ) (x : Option ℕ) → at < length xs → names_view (set xs at x) at ≡ x
name_here [] at x h = absurd (omega arith)
name_here (y ∷ ys) zero x h = refl
name_here (y ∷ ys) (suc at) x h = name_here ys at x (omega arith)

name_elsewhere : (xs : List (Option ℕ)) (at : ℕ) (x : Option ℕ) (n : ℕ) → (n ≡ at → ⊥) → names_view (set xs at x) n ≡ names_view xs n
name_elsewhere [] at x n h = refl
name_elsewhere (y ∷ ys) zero x zero h = absurd (h refl)
name_elsewhere (y ∷ ys) zero x (suc n) h = refl
name_elsewhere (y ∷ ys) (suc at) x zero h = refl
name_elsewhere (y ∷ ys) (suc at) x (suc n) h = name_elsewhere ys at x n (λ e. h (ap suc e))

pub names_set : (xs : List (Option ℕ)) (at : ℕ) (x : Option ℕ) → at < length xs → names_view (set xs at x) ≡ set_at (names_view xs) at x
names_set xs at x h = fun_ext (λ n.
    ⊎_elim
    (λ (p : ((n == at) ≡ true) × (n ≡ at)). ap (names_view (set xs at x)) p.1 ∙ name_here xs at x h ∙ sym (set_here (names_view xs) at n x p.0))
    (λ (p : ((n == at) ≡ false) × (n ≡ at → ⊥)). name_elsewhere xs at x n p.1 ∙ sym (set_elsewhere (names_view xs) at n x p.0))
    (eqb_tells n at))
