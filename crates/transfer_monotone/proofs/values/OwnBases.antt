-- Sets of bases within a set of words, and the bases of a program within the set of all.
use Rattle.std.specs.Prelude.{◌≡◌, ℕ, ◌^◌, ◌<◌, ◌==◌, true, bit_or}
use Rattle.std.proofs.Common.{arith}
use Rattle.std.proofs.lemmas.Bool.{cond_both, eqb-true}
use Rattle.std.proofs.lemmas.Nat.{le_or_l}
use Rattle.pointer_domain.specs.declared.base_sets.Bases.{Bases}
use Rattle.pointer_domain.specs.BaseSets.{bases_within, word_within}
use Rattle.domain_theorems.specs.Values.Consistency.{AreWords}
use Rattle.domain_theorems.proofs.values.Bases.{words_within}

word_less : (a b : ℕ) → word_within a b ≡ true → b < 2 ^ 128 → a < 2 ^ 128
word_less a b h k = let e = eqb-true (bit_or a b) b h in let m = le_or_l a b in omega arith

-- a set within one of words is one of words
pub words_less : (s t : Bases) → bases_within s t ≡ true → AreWords t → AreWords s
words_less s t h k i =
    let w = words_within s t h in
    cond_both (i == 0) s.word0 _ (λ x. x < 2 ^ 128) (λ e. word_less s.word0 t.word0 w.at0 (k 0)) (λ e.
    cond_both (i == 1) s.word1 _ (λ x. x < 2 ^ 128) (λ e. word_less s.word1 t.word1 w.at1 (k 1)) (λ e.
    cond_both (i == 2) s.word2 _ (λ x. x < 2 ^ 128) (λ e. word_less s.word2 t.word2 w.at2 (k 2)) (λ e.
    cond_both (i == 3) s.word3 _ (λ x. x < 2 ^ 128) (λ e. word_less s.word3 t.word3 w.at3 (k 3)) (λ e.
    cond_both (i == 4) s.word4 _ (λ x. x < 2 ^ 128) (λ e. word_less s.word4 t.word4 w.at4 (k 4)) (λ e.
    cond_both (i == 5) s.word5 _ (λ x. x < 2 ^ 128) (λ e. word_less s.word5 t.word5 w.at5 (k 5)) (λ e.
    cond_both (i == 6) s.word6 s.word7 (λ x. x < 2 ^ 128) (λ e. word_less s.word6 t.word6 w.at6 (k 6)) (λ e. word_less s.word7 t.word7 w.at7 (k 7))))))))
