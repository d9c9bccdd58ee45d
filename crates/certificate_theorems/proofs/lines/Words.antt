-- The words of a line: what stands before a byte that a word does not have, and behind it.
use Rattle.std.proofs.Common.{◌≡◌, ◌∙◌, ◌+◌, ℕ, suc, true, false, cond, ◌==◌, [], ◌∷◌, ◌++◌, length, take, drop, refl, ap, arith}
use Rattle.certificate_text.specs.Lines.LineWords.{Bytes, word_length, until, behind}

-- the byte is not among these
abbrev pub IsFreeOf : ℕ → Bytes → Type 0
IsFreeOf stop [] = Unit {0}
IsFreeOf stop (c ∷ cs) = ((c == stop) ≡ false) × IsFreeOf stop cs

pub free_both : (stop : ℕ) (w v : Bytes) → IsFreeOf stop w → IsFreeOf stop v → IsFreeOf stop (w ++ v)
free_both stop [] v h k = k
free_both stop (c ∷ cs) v h k = (h.0, free_both stop cs v h.1 k)

pub word_ends : (stop : ℕ) (w t : Bytes) → IsFreeOf stop w → word_length stop (w ++ (stop ∷ t)) ≡ length w
word_ends stop [] t h = let e : (stop == stop) ≡ true = grind arith in ap (λ b. cond b 0 (1 + word_length stop t)) e
word_ends stop (c ∷ cs) t h = ap (λ b. cond b 0 (1 + word_length stop (cs ++ (stop ∷ t)))) h.0 ∙ (let e = word_ends stop cs t h.1 in omega arith)

pub word_alone : (stop : ℕ) (w : Bytes) → IsFreeOf stop w → word_length stop w ≡ length w
word_alone stop [] h = refl
word_alone stop (c ∷ cs) h = ap (λ b. cond b 0 (1 + word_length stop cs)) h.0 ∙ (let e = word_alone stop cs h.1 in omega arith)

take_front : (w t : Bytes) → take (length w) (w ++ t) ≡ w
take_front [] t = refl
take_front (c ∷ cs) t = ap (λ z. c ∷ z) (take_front cs t)

take_whole : (w : Bytes) → take (length w) w ≡ w
take_whole [] = refl
take_whole (c ∷ cs) = ap (λ z. c ∷ z) (take_whole cs)

drop_front : (w : Bytes) (c : ℕ) (t : Bytes) → drop (length w + 1) (w ++ (c ∷ t)) ≡ t
drop_front [] c t = refl
drop_front (d ∷ ds) c t = let n : suc (length ds) + 1 ≡ suc (length ds + 1) = omega arith in ap (λ k. drop k (d ∷ (ds ++ (c ∷ t)))) n ∙ drop_front ds c t

-- the word that stands before the byte
pub until_is : (stop : ℕ) (w t : Bytes) → IsFreeOf stop w → until stop (w ++ (stop ∷ t)) ≡ w
unfolding until
until_is stop w t h = ap (λ n. take n (w ++ (stop ∷ t))) (word_ends stop w t h) ∙ take_front w (stop ∷ t)

-- what stands behind the byte
pub behind_is : (stop : ℕ) (w t : Bytes) → IsFreeOf stop w → behind stop (w ++ (stop ∷ t)) ≡ t
unfolding behind
behind_is stop w t h = ap (λ n. drop (n + 1) (w ++ (stop ∷ t))) (word_ends stop w t h) ∙ drop_front w stop t
