-- The words of a line.
use Rattle.std.specs.Prelude.{ℕ, ◌+◌, Bool, true, false, cond, ◌&&◌, ◌==◌, List, [], ◌∷◌, take, drop, length}

abbrev pub Bytes : Type 0
Bytes = List ℕ

-- how many bytes stand before the first byte of a kind
abbrev pub word_length : ℕ → Bytes → ℕ
word_length stop [] = 0
word_length stop (c ∷ cs) = cond (c == stop) 0 (1 + word_length stop cs)

-- the bytes before it
unfoldable pub until : ℕ → Bytes → Bytes
until stop text = take (word_length stop text) text

-- the bytes behind it
unfoldable pub behind : ℕ → Bytes → Bytes
behind stop text = drop (word_length stop text + 1) text

unfoldable pub first_byte : Bytes → ℕ
first_byte [] = 0
first_byte (c ∷ cs) = c

-- the bytes at each place that both texts have are the same
abbrev pub same_all : Bytes → Bytes → Bool
same_all [] ds = true
same_all (c ∷ cs) [] = true
same_all (c ∷ cs) (d ∷ ds) = (c == d) && same_all cs ds

-- the texts are the same
unfoldable pub same_bytes : Bytes → Bytes → Bool
same_bytes one other = (length one == length other) && same_all one other
