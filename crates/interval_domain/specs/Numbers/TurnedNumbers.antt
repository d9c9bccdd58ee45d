-- Numbers by blocks: one more, and products by magnitudes.
use Rattle.std.specs.Prelude.{◌≡◌, ℕ, ◌+◌, ◌*◌, ◌/◌, ◌%◌, ◌<◌, suc, ℤ, pos, negsuc, neg_ℤ, unsigned_abs, ◌+ℤ◌, ◌*ℤ◌, ◌≤ℤ◌, ◌<ℤ◌, Bool, ◌&&◌}
use Rattle.std.specs.Int.{int_div_euclid, int_rem_euclid}
use Rattle.std.specs.Ordering.{int_eq}
use Rattle.std.proofs.Common.{arith, ap, ◌∙◌, sym, subst}
use Rattle.std.proofs.lemmas.Int.{ints}
use Rattle.std.proofs.lemmas.Nat.{div-add-mod', div-mul-add, mod-mul-add}
use lib.IntN.{pos-*ℤ-pos, pos-*ℤ-negsuc, negsuc-*ℤ-pos, negsuc-*ℤ-negsuc}
use Rattle.interval_domain.specs.declared.numbers.turned_numbers.Turned.{Turned}

-- the block of m numbers that holds z, and its place in the block
abbrev pub turned : ℕ → ℤ → Turned
turned m z = record { turns = int_div_euclid z (pos m); rest = int_rem_euclid z (pos m) }

-- all four have one block
abbrev pub one_block : ℤ → ℤ → ℤ → ℤ → Bool
one_block a b c d = int_eq a b && (int_eq a c && int_eq a d)

abbrev pub next_start : ℤ → Turned
next_start q = record { turns = q +ℤ pos 1; rest = pos 0 }

-- ---- one more

next_block : (n m : ℕ) → 0 < m → (n % m) + 1 ≡ m → (suc n / m ≡ n / m + 1) × (suc n % m ≡ 0)
next_block n m h k =
    let e = div-add-mod' n m in
    let q : (n / m + 1) * m ≡ (n / m) * m + m = omega arith in
    let p : (n / m + 1) * m + 0 ≡ suc n = omega arith in
    (subst (λ x. x / m ≡ n / m + 1) p (div-mul-add (n / m + 1) m 0 h), subst (λ x. x % m ≡ 0) p (mod-mul-add (n / m + 1) m 0 h))

pub turned_next : (n m : ℕ) (q : ℤ) → 0 < m → q ≡ pos (n / m) → (n % m) + 1 ≡ m → next_start q ≡ turned m (pos (n + 1))
turned_next n m q h e f =
    let r = next_block n m h f in
    let a : (q +ℤ pos 1) ≡ pos (suc n / m) = omega (arith, ints) in
    let b : pos 0 ≡ pos (suc n % m) = ap pos (sym r.1) in
    let c : suc n ≡ n + 1 = omega arith in
    subst (λ x. next_start q ≡ turned m (pos x)) c (λ i. record { turns = a i; rest = b i })
