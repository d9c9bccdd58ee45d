-- The formats of `printf` (7.21.6.1).
use Rattle.std.specs.Prelude.{ℕ, zero, suc, ◌==◌, Bool, true, false, ◌||◌, cond, List, [], ◌∷◌, length, Option, Some, None, option_map}
use Rattle.std.specs.Char.{is_ascii_digit}
use Rattle.c_library.specs.declared.formats.printf_formats.Length.{Length}
use Rattle.c_library.specs.declared.formats.printf_formats.Length.TheVariants as size
use Rattle.c_library.specs.declared.formats.printf_formats.Wanted.{Wanted}
use Rattle.c_library.specs.declared.formats.printf_formats.Wanted.TheVariants as want
use Rattle.c_library.specs.declared.formats.printf_formats.Piece.{Piece}
use Rattle.c_library.specs.declared.formats.printf_formats.Piece.TheVariants as pieces

-- `-`, `+`, a space, `0` or `#`
abbrev pub is_flag : ℕ → Bool
is_flag b = b == 45 || (b == 43 || (b == 32 || (b == 48 || b == 35)))

-- what is left behind flags
unfoldable pub behind_flags : List ℕ → List ℕ
behind_flags [] = []
behind_flags (b ∷ more) = cond (is_flag b) (behind_flags more) (b ∷ more)

-- what is left behind a width
unfoldable pub behind_width : List ℕ → List ℕ
behind_width [] = []
behind_width (b ∷ more) = cond (is_ascii_digit b) (behind_width more) (b ∷ more)

-- a length, whether one is written, and what is left behind it
pub record LengthView : Type 0 where
  pub extent : Length
  pub is_written : Bool
  pub rest : List ℕ

abbrev pub length_view : Length → Bool → List ℕ → LengthView
length_view extent is_written rest = record { extent = extent; is_written = is_written; rest = rest }

abbrev pub written : Length → List ℕ → LengthView
written extent rest = length_view extent true rest

abbrev pub unwritten : List ℕ → LengthView
unwritten rest = length_view size.Plain false rest

-- behind one `h`
abbrev pub behind_h : List ℕ → LengthView
behind_h [] = written size.Plain []
behind_h (b ∷ more) = cond (b == 104) (written size.Plain more) (written size.Plain (b ∷ more))

-- behind one `l`
abbrev pub behind_l : List ℕ → LengthView
behind_l [] = written size.Long []
behind_l (b ∷ more) = cond (b == 108) (written size.LongLong more) (written size.Long (b ∷ more))

abbrev pub length_from : ℕ → List ℕ → List ℕ → LengthView
length_from b more text = cond (b == 104) (behind_h more) (cond (b == 108) (behind_l more) (cond (b == 122) (written size.Size more) (unwritten text)))

-- `hh`, `h`, `ll`, `l`, `z` or none
abbrev pub length_of : List ℕ → LengthView
length_of [] = unwritten []
length_of (b ∷ more) = length_from b more (b ∷ more)

-- `d`, `i`, `u`, `x`, `X` or `o`
abbrev pub is_number : ℕ → Bool
is_number b = b == 100 || (b == 105 || (b == 117 || (b == 120 || (b == 88 || b == 111))))

-- a letter that takes no length: `c` or `s`
abbrev pub plain_letter : ℕ → Option Wanted
plain_letter b = cond (b == 99) (Some want.Character) (cond (b == 115) (Some want.Text) None)

-- what the letter of a conversion wants
abbrev pub letter : ℕ → Length → Bool → Option Wanted
letter b extent is_written = cond (is_number b) (Some (want.Number extent)) (cond is_written None (plain_letter b))

-- a piece of a format
pub data PieceView : Type 0 where
  -- the end: nothing, or a zero byte
  Ends : PieceView
  -- a byte that is written as it stands, or `%%`
  Passes : (rest : List ℕ) → PieceView
  -- a conversion
  Takes : (wanted : Wanted) (rest : List ℕ) → PieceView
  -- a `%` with another form behind it
  Faults : PieceView

abbrev pub piece_view : Piece → PieceView
piece_view pieces.Ends = Ends
piece_view (pieces.Passes rest) = Passes rest.now
piece_view (pieces.Takes wanted rest) = Takes wanted rest.now
piece_view pieces.Faults = Faults

abbrev pub taken : List ℕ → Option Wanted → PieceView
taken rest None = Faults
taken rest (Some wanted) = Takes wanted rest

abbrev pub lettered : Length → Bool → List ℕ → PieceView
lettered extent is_written [] = Faults
lettered extent is_written (b ∷ more) = taken more (letter b extent is_written)

abbrev pub with_length : LengthView → PieceView
with_length l = lettered l.extent l.is_written l.rest

-- a conversion behind its `%`: flags, a width, a length and a letter
abbrev pub conversion : List ℕ → PieceView
conversion text = with_length (length_of (behind_width (behind_flags text)))

-- behind a `%`
abbrev pub behind_percent : List ℕ → PieceView
behind_percent [] = conversion []
behind_percent (b ∷ more) = cond (b == 37) (Passes more) (conversion (b ∷ more))

abbrev pub piece_from : ℕ → List ℕ → PieceView
piece_from b more = cond (b == 0) Ends (cond (b == 37) (behind_percent more) (Passes more))

-- the first piece of a format
abbrev pub first_piece : List ℕ → PieceView
first_piece [] = Ends
first_piece (b ∷ more) = piece_from b more

abbrev pub with_wanted : Wanted → List Wanted → List Wanted
with_wanted w ws = w ∷ ws

-- what a piece and those behind it want
abbrev pub wanted_from : PieceView → (List ℕ → Option (List Wanted)) → Option (List Wanted)
wanted_from Ends others = Some []
wanted_from (Passes rest) others = others rest
wanted_from (Takes wanted rest) others = option_map (with_wanted wanted) (others rest)
wanted_from Faults others = None

-- what so many pieces want, in order; none where one has another form
unfoldable pub wanted_within : ℕ → List ℕ → Option (List Wanted)
wanted_within zero text = Some []
wanted_within (suc n) text = wanted_from (first_piece text) (wanted_within n)

-- what the conversions of a format want: each piece but the end has a byte
abbrev pub wanted_by : List ℕ → Option (List Wanted)
wanted_by format = wanted_within (length format) format
