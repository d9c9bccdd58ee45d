-- The bytes of a file with their places, line ends made one byte and spliced lines joined (5.1.1.2, phases 1 and 2).
use Rattle.std.specs.Prelude.{ℕ, ◌+◌, ◌-◌, Bool, true, false, not, ◌&&◌, ◌==◌, if◌then◌else◌, List, [], ◌∷◌, map}
use Rattle.std.specs.List.{list_all}
use Rattle.cc_base.specs.declared.diagnostics.Place.{Place}
use Rattle.c_lexer.specs.ByteClasses.{begins}

pub record Cell : Type 0 where
  pub byte : ℕ
  pub line : ℕ
  pub column : ℕ

abbrev pub cell_of : ℕ → ℕ → ℕ → Cell
cell_of b l c = record { byte = b; line = l; column = c }

-- each byte with its place; a CR before a LF is left out
abbrev pub placed : ℕ → ℕ → List ℕ → List Cell
placed l c [] = []
placed l c (b ∷ s) = if b == 13 && begins 10 s then placed l (c + 1) s
    else cell_of b l c ∷ placed (if b == 10 then l + 1 else l) (if b == 10 then 1 else c + 1) s

-- each backslash before a line end is removed with it
abbrev pub joined : List Cell → List Cell
joined [] = []
joined (x ∷ []) = x ∷ []
joined (x ∷ (y ∷ s)) = if x.byte == 92 && y.byte == 10 then joined s else x ∷ joined (y ∷ s)

unfoldable pub spliced_from : ℕ → ℕ → List ℕ → List Cell
spliced_from l c s = joined (placed l c s)

abbrev pub spliced : List ℕ → List Cell
spliced s = spliced_from 1 1 s

abbrev pub bytes_of : List Cell → List ℕ
bytes_of cells = map (λ x. x.byte) cells

-- how many bytes at the front are no character: a splice, or a CR before a LF
abbrev pub skipped_by : Bool → Bool → Bool → Bool → ℕ
skipped_by backslash line return lone =
    if backslash then (if line then 2 else if return then 3 else 0) else if lone && line then 1 else 0

abbrev pub begins_return : List ℕ → Bool
begins_return [] = false
begins_return (x ∷ t) = x == 13 && begins 10 t

abbrev pub skipped : List ℕ → ℕ
skipped [] = 0
skipped (b ∷ s) = skipped_by (b == 92) (begins 10 s) (begins_return s) (b == 13)

-- the place of the first cell
abbrev pub place_of : ℕ → List Cell → Place
place_of file [] = record { file = file; line = 0; col = 0 }
place_of file (x ∷ s) = record { file = file; line = x.line; col = x.column }

abbrev pub first_byte : List Cell → ℕ
first_byte [] = 0
first_byte (x ∷ s) = x.byte

-- neither a backslash nor a CR
abbrev pub is_plain : List ℕ → Bool
is_plain s = list_all (λ b. not (b == 92) && not (b == 13)) s

abbrev pub line_after : Bool → ℕ → ℕ
line_after ends l = if ends then l + 1 else l

abbrev pub column_after : Bool → ℕ → ℕ
column_after ends c = if ends then 1 else c + 1

-- a step over so many bytes that are no character, or else over this one, ends the line
abbrev pub ends_line : ℕ → ℕ → Bool
ends_line over b = if over == 0 then b == 10 else not (over == 1)

abbrev pub step_size : ℕ → ℕ
step_size over = if over == 0 then 1 else over

abbrev pub left_after : ℕ → ℕ → ℕ
left_after over left = if over == 0 then left - 1 else left

abbrev pub is_no_cell : List Cell → Bool
is_no_cell [] = true
is_no_cell (x ∷ s) = false
