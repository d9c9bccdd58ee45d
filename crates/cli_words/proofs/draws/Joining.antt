-- The numbers of words, one word after the other.
use Rattle.std.proofs.Common.{◌≡◌, ◌∙◌, ◌<◌, ◌≤◌, ◌+◌, ◌-◌, ℕ, ℤ, true, false, List, [], ◌∷◌, ◌++◌, length, drop, take, get_or, Option, Some, None, refl, sym, ap, arith, subst, append_assoc, append-nil}
use Rattle.std.proofs.Math.Seq.{drop-length}
use Rattle.std.proofs.lemmas.List.{take_more, drop_more, get_or-drop, length-drop}
use Rattle.cli_words.specs.Draws.DrawsFiles.{is_gap, words_from, numbers_in, joined, numbers_of}

joined_assoc : (a b c : Option (List ℤ)) → joined (joined a b) c ≡ joined a (joined b c)
joined_assoc None b c = refl
joined_assoc (Some ns) None c = refl
joined_assoc (Some ns) (Some ms) None = refl
joined_assoc (Some ns) (Some ms) (Some os) = ap Some (append_assoc ns ms os)

joined_nothing : (a : Option (List ℤ)) → joined a (Some []) ≡ a
joined_nothing None = refl
joined_nothing (Some ns) = ap Some (append-nil ns)

-- behind a gap the next word begins
gap_next : (text word : List ℕ) (at : ℕ) → at < length text → is_gap (get_or text at 0) ≡ true → words_from word (drop at text) ≡ word ∷ words_from [] (drop (at + 1) text)
gap_next text word at l g = rw (drop_more text at 0 l, g) refl

-- another byte is one more of the word
word_next : (text word : List ℕ) (at : ℕ) → at < length text → is_gap (get_or text at 0) ≡ false → words_from word (drop at text) ≡ words_from (word ++ (get_or text at 0 ∷ [])) (drop (at + 1) text)
word_next text word at l g = rw (drop_more text at 0 l, g) refl

word_grows : (text : List ℕ) (start at : ℕ) → start ≤ at → at < length text → take (at + 1 - start) (drop start text) ≡ take (at - start) (drop start text) ++ (get_or text at 0 ∷ [])
word_grows text start at s l =
    let steps : at + 1 - start ≡ (at - start) + 1 = omega arith in
    let back : start + (at - start) ≡ at = omega arith in
    let within : at - start < length (drop start text) = omega (arith, length-drop start text) in
    let byte : get_or (drop start text) (at - start) 0 ≡ get_or text at 0 = get_or-drop start text (at - start) 0 ∙ ap (λ i. get_or text i 0) back in
    rw (steps, ← byte) (take_more (drop start text) (at - start) 0 within)

-- the numbers with those of a word, and with those behind it
pub word_passed : (old new : List ℤ) (word : List ℕ) (rest : List (List ℕ)) → joined (Some old) (numbers_in word) ≡ Some new → joined (Some new) (numbers_of rest) ≡ joined (Some old) (numbers_of (word ∷ rest))
word_passed old new word rest e = rw (← e) (joined_assoc (Some old) (numbers_in word) (numbers_of rest))

pub gap_passed : (old new : List ℤ) (text word : List ℕ) (at : ℕ) → at < length text → is_gap (get_or text at 0) ≡ true → joined (Some old) (numbers_in word) ≡ Some new → joined (Some new) (numbers_of (words_from [] (drop (at + 1) text))) ≡ joined (Some old) (numbers_of (words_from word (drop at text)))
gap_passed old new text word at l g e = word_passed old new word (words_from [] (drop (at + 1) text)) e ∙ ap (λ ws. joined (Some old) (numbers_of ws)) (sym (gap_next text word at l g))

pub byte_passed : (text : List ℕ) (start at : ℕ) → start ≤ at → at < length text → is_gap (get_or text at 0) ≡ false → words_from (take (at + 1 - start) (drop start text)) (drop (at + 1) text) ≡ words_from (take (at - start) (drop start text)) (drop at text)
byte_passed text start at s l g =
    ap (λ w. words_from w (drop (at + 1) text)) (word_grows text start at s l) ∙ sym (word_next text (take (at - start) (drop start text)) at l g)

-- behind the last byte the last word ends
pub last_passed : (old new : List ℤ) (word : List ℕ) → joined (Some old) (numbers_in word) ≡ Some new → joined (Some old) (numbers_of (words_from word [])) ≡ Some new
last_passed old new word e = ap (joined (Some old)) (joined_nothing (numbers_in word)) ∙ e

-- the loop goes on behind a gap
pub gap_kept : (old new : List ℤ) (text : List ℕ) (whole : Option (List ℤ)) (start at after : ℕ) → at < length text → is_gap (get_or text at 0) ≡ true → joined (Some old) (numbers_in (take (at - start) (drop start text))) ≡ Some new → joined (Some old) (numbers_of (words_from (take (at - start) (drop start text)) (drop at text))) ≡ whole → after ≡ at + 1 → joined (Some new) (numbers_of (words_from (take (at + 1 - after) (drop after text)) (drop (at + 1) text))) ≡ whole
gap_kept old new text whole start at after l g e kept is =
    let none : at + 1 - after ≡ 0 = omega arith in
    rw none (gap_passed old new text (take (at - start) (drop start text)) at l g e ∙ kept)

-- and behind another byte
pub byte_kept : (old : List ℤ) (text : List ℕ) (whole : Option (List ℤ)) (start at : ℕ) → start ≤ at → at < length text → is_gap (get_or text at 0) ≡ false → joined (Some old) (numbers_of (words_from (take (at - start) (drop start text)) (drop at text))) ≡ whole → joined (Some old) (numbers_of (words_from (take (at + 1 - start) (drop start text)) (drop (at + 1) text))) ≡ whole
byte_kept old text whole start at s l g kept = ap (λ ws. joined (Some old) (numbers_of ws)) (byte_passed text start at s l g) ∙ kept

-- the loop has ended
pub end_kept : (old new : List ℤ) (text : List ℕ) (whole : Option (List ℤ)) (start at : ℕ) → at ≡ length text → joined (Some old) (numbers_of (words_from (take (at - start) (drop start text)) (drop at text))) ≡ whole → joined (Some old) (numbers_in (take (length text - start) (drop start text))) ≡ Some new → whole ≡ Some new
end_kept old new text whole start at is kept e =
    let none : drop at text ≡ [] = rw is (drop-length text) in
    let last : joined (Some old) (numbers_of (words_from (take (at - start) (drop start text)) [])) ≡ Some new = last_passed old new (take (at - start) (drop start text)) (rw is e) in
    let begun : joined (Some old) (numbers_of (words_from (take (at - start) (drop start text)) [])) ≡ whole = subst (λ rest. joined (Some old) (numbers_of (words_from (take (at - start) (drop start text)) rest)) ≡ whole) none kept in
    sym begun ∙ last
