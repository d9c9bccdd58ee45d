-- A line that a text has to its end, in a text that begins alike.
use Rattle.std.proofs.Common.{◌≡◌, ◌∙◌, ◌+◌, ◌-◌, ◌<◌, ◌≤◌, ℕ, zero, suc, Bool, true, false, cond, ◌==◌, nat_lt, [], ◌∷◌, ◌++◌, length, take, drop, min, None, refl, sym, ap, arith, lt-ltb, length-append}
use Rattle.std.proofs.lemmas.Int.{clamps}
use Rattle.std.proofs.lemmas.List.{drop-drop, length-take, length-drop}
use Rattle.certificate_text.specs.Lines.LineWords.{Bytes, word_length, until, behind}
use Rattle.certificate_text.specs.Lines.MapLines.{line_of}
use Rattle.certificate_check.specs.Reading.TextPlaces.{line_at, next_place}

-- the line at a place has its end
abbrev pub Ends : Bytes → ℕ → Type 0
Ends s a = word_length 10 (drop a s) < length (drop a s)

-- ---- texts that begin alike

front_same : (u v : Bytes) (w k : ℕ) → w ≤ k → w ≤ length u → take w (take k u ++ v) ≡ take w u
front_same u v zero k h l = refl
front_same [] v (suc w) k h l = absurd (omega arith)
front_same (c ∷ cs) v (suc w) zero h l = absurd (omega arith)
front_same (c ∷ cs) v (suc w) (suc k) h l = ap (λ z. c ∷ z) (front_same cs v w k (omega arith) (omega arith))

word_step : (c : ℕ) (cs v : Bytes) (k : ℕ) (t : Bool) → (c == 10) ≡ t → (word_length 10 cs < length cs → word_length 10 cs < k → word_length 10 (take k cs ++ v) ≡ word_length 10 cs) → cond t 0 (1 + word_length 10 cs) < length (c ∷ cs) → cond t 0 (1 + word_length 10 cs) < suc k → cond t 0 (1 + word_length 10 (take k cs ++ v)) ≡ cond t 0 (1 + word_length 10 cs)
word_step c cs v k true e more l h = refl
word_step c cs v k false e more l h = ap (λ n. 1 + n) (more (omega arith) (omega arith))

word_same : (u v : Bytes) (k : ℕ) → word_length 10 u < length u → word_length 10 u < k → word_length 10 (take k u ++ v) ≡ word_length 10 u
word_same [] v k l h = absurd (omega arith)
word_same (c ∷ cs) v zero l h = absurd (omega arith)
word_same (c ∷ cs) v (suc k) l h = word_step c cs v k (c == 10) refl (word_same cs v k) l h

rest_same : (s v : Bytes) (a e : ℕ) → a ≤ e → e ≤ length s → drop a (take e s ++ v) ≡ take (e - a) (drop a s) ++ v
rest_same s v zero e h l = let n : e - 0 ≡ e = omega arith in rw n refl
rest_same [] v (suc a) e h l = absurd (omega arith)
rest_same (c ∷ cs) v (suc a) zero h l = absurd (omega arith)
rest_same (c ∷ cs) v (suc a) (suc e) h l =
    let n : suc e - suc a ≡ e - a = omega arith in
    rw n (rest_same cs v a e (omega arith) (omega arith))

-- ---- places

-- the next line begins behind the end
pub next_is : (s : Bytes) (a : ℕ) → Ends s a → next_place s a ≡ a + (word_length 10 (drop a s) + 1)
unfolding next_place behind
next_is s a h =
    let w = word_length 10 (drop a s) in
    let size : length (drop (w + 1) (drop a s)) ≡ length s - (a + (w + 1)) = ap length (drop-drop (w + 1) a s) ∙ length-drop (a + (w + 1)) s in
    let left : length (drop a s) ≡ length s - a = length-drop a s in
    omega arith

-- and within the text
pub next_within : (s : Bytes) (a : ℕ) → Ends s a → next_place s a ≤ length s
next_within s a h = let n = next_is s a h in let left : length (drop a s) ≡ length s - a = length-drop a s in omega arith

pub next_rises : (s : Bytes) (a : ℕ) → Ends s a → a < next_place s a
next_rises s a h = let n = next_is s a h in omega arith

until_less : (s : Bytes) (a : ℕ) → Ends s a → nat_lt (length (until 10 (drop a s))) (length (drop a s)) ≡ true
unfolding until
until_less s a h =
    let size = length-take (word_length 10 (drop a s)) (drop a s) in
    lt-ltb (length (take (word_length 10 (drop a s)) (drop a s))) (length (drop a s)) (omega (arith, clamps))

pub ends_from : (s : Bytes) (a : ℕ) → length (until 10 (drop a s)) < length (drop a s) → Ends s a
unfolding until
ends_from s a h =
    let size = length-take (word_length 10 (drop a s)) (drop a s) in
    omega (arith, clamps)

-- ---- the same line in another text

-- the first bytes of a text, with others behind them
abbrev pub begun : Bytes → ℕ → Bytes → Bytes
begun s e v = take e s ++ v

module _ (s v : Bytes) (e a : ℕ) (fits : e ≤ length s) (ends : Ends s a) (before : next_place s a ≤ e) where
  word_there : word_length 10 (drop a (begun s e v)) ≡ word_length 10 (drop a s)
  word_there =
      let n = next_is s a ends in
      ap (word_length 10) (rest_same s v a e (omega arith) fits) ∙ word_same (drop a s) v (e - a) ends (omega arith)

  ends_there : Ends (begun s e v) a
  ends_there =
      let n = next_is s a ends in
      let w = word_there in
      let left : length (drop a s) ≡ length s - a = length-drop a s in
      let other : length (drop a (begun s e v)) ≡ length (begun s e v) - a = length-drop a (begun s e v) in
      let whole : length (begun s e v) ≡ length (take e s) + length v = length-append (take e s) v in
      let front : length (take e s) ≡ min e (length s) = length-take e s in
      omega (arith, clamps)

  pub until_there : until 10 (drop a (begun s e v)) ≡ until 10 (drop a s)
  unfolding until
  until_there =
      let n = next_is s a ends in
      ap (λ w. take w (drop a (begun s e v))) word_there
      ∙ ap (take (word_length 10 (drop a s))) (rest_same s v a e (omega arith) fits)
      ∙ front_same (drop a s) v (word_length 10 (drop a s)) (e - a) (omega arith) (omega arith)

  pub less_there : nat_lt (length (until 10 (drop a (begun s e v)))) (length (drop a (begun s e v))) ≡ nat_lt (length (until 10 (drop a s))) (length (drop a s))
  less_there = until_less (begun s e v) a ends_there ∙ sym (until_less s a ends)

  pub line_there : line_at (begun s e v) a ≡ line_at s a
  unfolding line_at
  line_there =
      ap (λ b. cond b (line_of (until 10 (drop a (begun s e v)))) None) less_there
      ∙ ap (λ u. cond (nat_lt (length (until 10 (drop a s))) (length (drop a s))) (line_of u) None) until_there

  pub next_there : next_place (begun s e v) a ≡ next_place s a
  next_there = next_is (begun s e v) a ends_there ∙ ap (λ w. a + (w + 1)) word_there ∙ sym (next_is s a ends)
