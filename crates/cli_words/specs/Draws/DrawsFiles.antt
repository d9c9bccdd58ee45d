-- The numbers of a draws file: words that blanks, tabs and line feeds set apart.
use Rattle.std.specs.Prelude.{◌≡◌, refl, codes, ℕ, ℤ, pos, ◌-ℤ◌, Bool, cond, ◌||◌, ◌==◌, nat_le, List, [], ◌∷◌, ◌++◌, length, Option, Some, None}
use Rattle.cli_words.specs.Draws.DrawNumbers.{draw_of}
use Rattle.cli_words.specs.Numerals.{Bytes}

abbrev pub is_gap : ℕ → Bool
is_gap c = (c == 32) || ((c == 10) || (c == 9))

-- the words between gaps, the first of which is begun; two gaps in a row have an empty one between them
abbrev pub words_from : Bytes → Bytes → List Bytes
words_from word [] = word ∷ []
words_from word (c ∷ cs) = cond (is_gap c) (word ∷ words_from [] cs) (words_from (word ++ (c ∷ [])) cs)

abbrev pub alone : Option ℤ → Option (List ℤ)
alone None = None
alone (Some n) = Some (n ∷ [])

-- the numbers of a word: none where it is empty
abbrev pub numbers_in : Bytes → Option (List ℤ)
numbers_in [] = Some []
numbers_in (c ∷ cs) = alone (draw_of (c ∷ cs))

-- both, where there are both
abbrev pub joined : Option (List ℤ) → Option (List ℤ) → Option (List ℤ)
joined (Some ns) (Some ms) = Some (ns ++ ms)
joined _ _ = None

-- the numbers of words; none where one of them is no number
abbrev pub numbers_of : List Bytes → Option (List ℤ)
numbers_of [] = Some []
numbers_of (w ∷ ws) = joined (numbers_in w) (numbers_of ws)

-- at most 65,536 of them
abbrev pub few : Option (List ℤ) → Option (List ℤ)
few None = None
few (Some ns) = cond (nat_le (length ns) 65536) (Some ns) None

-- what a text gives
unfoldable pub draws_in : Bytes → Option (List ℤ)
draws_in text = few (numbers_of (words_from [] text))

-- numbers between any gaps, none, and a comma
two : draws_in (codes "\n 65\t-1 \n") ≡ Some (pos 65 ∷ ((pos 0 -ℤ pos 1) ∷ []))
unfolding draws_in
two = refl

none : draws_in (codes "\n") ≡ Some []
unfolding draws_in
none = refl

comma : draws_in (codes "65,66") ≡ None
unfolding draws_in
comma = refl
