-- Functions on strings (7.24.2.3 to 7.24.6.3).
use Rattle.std.specs.Prelude.{ℕ, ◌+◌, ◌-◌, ℤ, pos, negsuc, cond, nat_lt, min, List, [], ◌∷◌, ◌++◌, take, replicate, ◌==◌}
use Rattle.memory_model.specs.Memory.Labels.{no_labels}
use Rattle.memory_model.specs.Memory.Bytes.{MachinePointer, Content, indeterminate, number, part}
use Rattle.memory_model.specs.Memory.Scalars.{Scalar, integer, pointer}
use Rattle.memory_model.specs.Effects.Worlds.{World, Left, Stuck, Reply, goes, stops, behind}
use Rattle.memory_model.specs.Effects.ScalarBytes.{contents}
use Rattle.memory_model.specs.Effects.StructCopies.{overlap}
use Rattle.memory_model.specs.Effects.LibraryChecks.{Reach, size_of, with_size, reached, bytes_from, string_length, length_within, fitting, writable}
use Rattle.memory_model.specs.Effects.MemoryCalls.{with_contents}

abbrev pub plain : ℤ → Scalar
plain n = integer n no_labels

abbrev pub strlen : List Scalar → World → Reply Scalar
strlen (pointer p ∷ []) w = behind (reached p w) (λ s w. behind (string_length s w) (λ n w. goes (plain (pos n)) w))
strlen arguments w = stops Stuck w

-- text is written where it does not overlap what was read
abbrev pub written : Reach → ℕ → Reach → ℕ → List Content → Scalar → World → Reply Scalar
written to size from room text result w = cond (overlap to.spot size from.spot room) (stops Left w) (goes result (with_contents w to text))

abbrev pub copy_string : MachinePointer → MachinePointer → World → Reply Scalar
copy_string p q w =
    behind (reached p w) (λ to w.
    behind (reached q w) (λ from w.
    behind (string_length from w) (λ n w.
    behind (fitting (n + 1) to w) (λ _ w.
    behind (writable (n + 1) to w) (λ _ w.
    written to (n + 1) from (n + 1) (contents (bytes_from w from (n + 1))) (pointer p) w)))))

abbrev pub strcpy : List Scalar → World → Reply Scalar
strcpy (pointer p ∷ (pointer q ∷ [])) w = copy_string p q w
strcpy arguments w = stops Stuck w

-- so many characters, and zeros behind them
abbrev pub padded : List Content → ℕ → ℕ → List Content
padded text characters size = take characters text ++ replicate (size - characters) (number 0 no_labels)

-- nothing is read or written where the size is 0
abbrev pub fill_padded : MachinePointer → ℕ → ℕ → Reach → Reach → World → Reply Scalar
fill_padded p size n to from w = cond (size == 0) (goes (pointer p) w) (written to size from (min size (n + 1)) (padded (contents (bytes_from w from n)) n size) (pointer p) w)

abbrev pub copy_padded : MachinePointer → MachinePointer → ℕ → World → Reply Scalar
copy_padded p q size w =
    behind (reached p w) (λ to w.
    behind (reached q w) (λ from w.
    behind (length_within size from w) (λ n w.
    behind (fitting size to w) (λ _ w.
    behind (writable size to w) (λ _ w.
    fill_padded p size n to from w)))))

abbrev pub strncpy : List Scalar → World → Reply Scalar
strncpy (pointer p ∷ (pointer q ∷ (integer n labels ∷ []))) w = copy_padded p q (size_of n) (with_size w labels)
strncpy arguments w = stops Stuck w

abbrev pub further : Reach → ℕ → Reach
further r n = record { spot = record { instance = r.spot.instance; offset = r.spot.offset + n }; room = r.room - n }

abbrev pub append_string : MachinePointer → MachinePointer → World → Reply Scalar
append_string p q w =
    behind (reached p w) (λ to w.
    behind (reached q w) (λ from w.
    behind (string_length to w) (λ m w.
    behind (string_length from w) (λ n w.
    behind (fitting ((m + n) + 1) to w) (λ _ w.
    behind (writable ((m + n) + 1) to w) (λ _ w.
    written (further to m) (n + 1) from (n + 1) (contents (bytes_from w from (n + 1))) (pointer p) w))))))

abbrev pub strcat : List Scalar → World → Reply Scalar
strcat (pointer p ∷ (pointer q ∷ [])) w = append_string p q w
strcat arguments w = stops Stuck w

-- ---- comparison

abbrev pub character_of : Content → ℕ
character_of (number n labels) = n
character_of indeterminate = 0
character_of (part p k) = 0

abbrev pub order_of : ℕ → ℕ → ℤ → ℤ
order_of a b same = cond (nat_lt a b) (negsuc 0) (cond (nat_lt b a) (pos 1) same)

-- the first bytes that differ decide
abbrev pub order_in : List Content → List Content → ℤ
order_in (c ∷ cs) (d ∷ ds) = order_of (character_of c) (character_of d) (order_in cs ds)
order_in cs ds = pos 0

abbrev pub compare_strings : MachinePointer → MachinePointer → World → Reply Scalar
compare_strings p q w =
    behind (reached p w) (λ a w.
    behind (reached q w) (λ b w.
    behind (string_length a w) (λ m w.
    behind (string_length b w) (λ n w.
    goes (plain (order_in (contents (bytes_from w a (m + 1))) (contents (bytes_from w b (n + 1))))) w))))

abbrev pub strcmp : List Scalar → World → Reply Scalar
strcmp (pointer p ∷ (pointer q ∷ [])) w = compare_strings p q w
strcmp arguments w = stops Stuck w
