-- Calls of the library: input and output (7.21), and all functions by name.
use Rattle.std.specs.Prelude.{ℕ, zero, suc, ◌-◌, ◌*◌, ◌^◌, ℤ, pos, negsuc, ◌-ℤ◌, unsigned_abs, int_lt, true, cond, List, [], ◌∷◌, ◌++◌, Option, Some, None}
use Rattle.cc_base.specs.declared.int_types.IntType.{IntType}
use Rattle.c_layout.specs.declared.data_model.Model.{Model}
use Rattle.c_layout.specs.declared.library_functions.LibFn.{LibFn}
use Rattle.c_layout.specs.declared.library_functions.LibFn.TheVariants as f
use Rattle.memory_model.specs.Memory.Labels.{no_labels, input_labels}
use Rattle.memory_model.specs.Memory.Bytes.{MachinePointer, null, Content, number}
use Rattle.memory_model.specs.Memory.Scalars.{Scalar, integer, pointer}
use Rattle.memory_model.specs.Effects.Worlds.{World, Ended, Left, Stuck, Reply, goes, stops, behind, done, drawn}
use Rattle.memory_model.specs.Effects.ScalarBytes.{bits_in}
use Rattle.memory_model.specs.Effects.LibraryChecks.{Reach, size_of, with_size, reached, string_length, fitting, writable}
use Rattle.memory_model.specs.Effects.AllocationCalls.{malloc, calloc, realloc, free}
use Rattle.memory_model.specs.Effects.MemoryCalls.{memcpy, memmove, memset, with_contents}
use Rattle.memory_model.specs.Effects.StringCalls.{plain, strlen, strcpy, strncpy, strcat, strcmp}
use Rattle.memory_model.specs.Effects.CharacterCalls.{on_character}

-- ---- characters from the outside

abbrev pub int_type : Model → IntType
int_type m = record { bytes = m.int; signed = true; rank = 3 }

abbrev pub char_type : Model → IntType
char_type m = record { bytes = 1; signed = m.char_signed; rank = 1 }

abbrev pub getchar : Model → World → Reply Scalar
getchar m w = behind (drawn w (negsuc 0) (pos 255)) (λ c w. goes (integer c (input_labels (int_type m))) w)

abbrev pub and_character : Model → ℤ → List Content → World → Reply (List Content)
and_character m c cs w = goes (number (unsigned_abs c) (input_labels (char_type m)) ∷ cs) w

-- so many characters of a line
abbrev pub line_of : Model → ℕ → World → Reply (List Content)
line_of m zero w = goes [] w
line_of m (suc k) w = behind (drawn w (pos 0) (pos 255)) (λ c w. behind (line_of m k w) (and_character m c))

abbrev pub line_read : Model → MachinePointer → ℕ → Reach → ℤ → World → Reply Scalar
line_read m p size to k w = behind (line_of m (unsigned_abs k) w) (λ cs w. goes (pointer p) (with_contents w to (cs ++ number 0 no_labels ∷ [])))

-- nothing is written where there is no line
abbrev pub if_read : Model → MachinePointer → ℕ → Reach → ℤ → World → Reply Scalar
if_read m p size to (pos zero) w = goes (pointer null) w
if_read m p size to answer w = behind (drawn w (pos 0) (pos size -ℤ pos 1)) (line_read m p size to)

abbrev pub line_into : Model → MachinePointer → ℕ → Reach → World → Reply Scalar
line_into m p size to w =
    behind (fitting size to w) (λ _ w.
    behind (writable size to w) (λ _ w.
    behind (drawn w (pos 0) (pos 1)) (if_read m p size to)))

-- a line of no character at all is not looked at
abbrev pub read_into : Model → MachinePointer → ℤ → Reach → World → Reply Scalar
read_into m p n to w = cond (int_lt n (pos 1)) (stops Left w) (line_into m p (size_of n) to w)

-- the stream is not looked at
abbrev pub fgets : Model → List Scalar → World → Reply Scalar
fgets m (pointer p ∷ (integer n labels ∷ (pointer stream ∷ []))) w = behind (reached p (with_size w labels)) (read_into m p n)
fgets m arguments w = stops Stuck w

-- ---- output

abbrev pub putchar : List Scalar → World → Reply Scalar
putchar (integer c labels ∷ []) w = goes (integer (pos (bits_in 1 c)) labels) w
putchar arguments w = stops Stuck w

abbrev pub puts : List Scalar → World → Reply Scalar
puts (pointer p ∷ []) w = behind (reached p w) (λ s w. behind (string_length s w) (λ _ w. goes (plain (pos 0)) w))
puts arguments w = stops Stuck w

abbrev pub and_reach : Reach → List Reach → World → Reply (List Reach)
and_reach r rs w = goes (r ∷ rs) w

-- the pointers among arguments, each of which is a string
abbrev pub strings_in : List Scalar → World → Reply (List Reach)
strings_in [] w = goes [] w
strings_in (integer n labels ∷ vs) w = strings_in vs w
strings_in (pointer p ∷ vs) w = behind (reached p w) (λ r w. behind (strings_in vs w) (and_reach r))

abbrev pub all_scanned : List Reach → World → Reply (Unit {0})
all_scanned [] w = done w
all_scanned (r ∷ rs) w = behind (string_length r w) (λ _ w. all_scanned rs w)

abbrev pub most_int : Model → ℤ
most_int m = pos (2 ^ (8 * m.int - 1) - 1)

-- the format, a literal, is not scanned; the strings are, and then the outside says how many characters
-- were written
abbrev pub printf : Model → List Scalar → World → Reply Scalar
printf m (pointer format ∷ arguments) w =
    behind (reached format w) (λ _ w.
    behind (strings_in arguments w) (λ rs w.
    behind (all_scanned rs w) (λ _ w.
    behind (drawn w (pos 0) (most_int m)) (λ n w. goes (plain n) w))))
printf m arguments w = stops Stuck w

-- ---- functions on characters

abbrev pub character_call : LibFn → List Scalar → World → Reply Scalar
character_call function (integer c labels ∷ []) w = on_character function c labels w
character_call function arguments w = stops Stuck w

-- ---- all functions

abbrev pub with_result : Reply Scalar → Reply (Option Scalar)
with_result reply = behind reply (λ v w. goes (Some v) w)

-- a call: its result, where it has one; an allocation is converted at once to an object of so many bytes
abbrev pub library : Model → Option ℕ → LibFn → List Scalar → World → Reply (Option Scalar)
library m wanted f.Malloc arguments w = with_result (malloc m wanted arguments w)
library m wanted f.Calloc arguments w = with_result (calloc m wanted arguments w)
library m wanted f.Realloc arguments w = with_result (realloc m wanted arguments w)
library m wanted f.Free arguments w = behind (free arguments w) (λ _ w. goes None w)
library m wanted f.Memcpy arguments w = with_result (memcpy arguments w)
library m wanted f.Memmove arguments w = with_result (memmove arguments w)
library m wanted f.Memset arguments w = with_result (memset arguments w)
library m wanted f.Strlen arguments w = with_result (strlen arguments w)
library m wanted f.Strcpy arguments w = with_result (strcpy arguments w)
library m wanted f.Strncpy arguments w = with_result (strncpy arguments w)
library m wanted f.Strcat arguments w = with_result (strcat arguments w)
library m wanted f.Strcmp arguments w = with_result (strcmp arguments w)
library m wanted f.Getchar arguments w = with_result (getchar m w)
library m wanted f.Fgets arguments w = with_result (fgets m arguments w)
library m wanted f.Putchar arguments w = with_result (putchar arguments w)
library m wanted f.Puts arguments w = with_result (puts arguments w)
library m wanted f.Printf arguments w = with_result (printf m arguments w)
library m wanted f.Exit arguments w = stops Ended w
library m wanted f.Abort arguments w = stops Ended w
library m wanted function arguments w = with_result (character_call function arguments w)
