-- What is read at the front of a list of bytes.
use Rattle.std.specs.Prelude.{ℕ, suc, ◌+◌, Bool, true, false, ◌&&◌, ◌==◌, if◌then◌else◌, List, [], ◌∷◌, Option, Some, None}
use Rattle.cc_base.specs.declared.lexemes.Kind.TheVariants.{Name, Number, Char, Str, Punct, HeaderName}
use Rattle.c_lexer.specs.declared.byte_class.Class.{Class}
use Rattle.c_lexer.specs.declared.byte_class.Class.TheVariants.{Letter, Digit, Dot, Quote, Apostrophe, Slash, Less, LineEnd, Blank, Other}
use Rattle.c_lexer.specs.declared.pieces.Shape.{Shape}
use Rattle.c_lexer.specs.declared.pieces.Shape.TheVariants as shape
use Rattle.c_lexer.specs.declared.pieces.Piece.{Piece}
use Rattle.c_lexer.specs.declared.pieces.Context.{Context}
use Rattle.c_lexer.specs.declared.pieces.Context.TheVariants as context
use Rattle.c_lexer.specs.ByteClasses.{is_word, goes_on, begins, begins_digit, is_no_line_end, class_of}
use Rattle.c_lexer.specs.Punctuators.{punctuator_length}

-- how many bytes at the front pass a test
abbrev pub prefix_length : (ℕ → Bool) → List ℕ → ℕ
prefix_length p [] = 0
prefix_length p (b ∷ s) = if p b then suc (prefix_length p s) else 0

abbrev pub number_length : ℕ → List ℕ → ℕ
number_length last [] = 0
number_length last (b ∷ t) = if goes_on last b then suc (number_length b t) else 0

-- where the literal ends that is open at `at`
abbrev pub close_at : ℕ → Bool → Bool → ℕ → List ℕ → Option ℕ
close_at quote escapes escaped at [] = None
close_at quote escapes escaped at (b ∷ t) = if b == 10 then None else if escaped then close_at quote escapes false (suc at) t
    else if b == quote then Some (suc at) else close_at quote escapes (escapes && b == 92) (suc at) t

abbrev pub header_end : ℕ → List ℕ → Option ℕ
header_end quote z = if begins quote z then None else close_at quote false false 0 z

-- where the comment ends that is open at `at`
abbrev pub comment_end : Bool → ℕ → List ℕ → Option ℕ
comment_end star at [] = None
comment_end star at (b ∷ t) = if star && b == 47 then Some (suc at) else comment_end (b == 42) (suc at) t

abbrev pub piece_of : Shape → ℕ → Piece
piece_of p n = record { shape = p; size = n }

abbrev pub rest_of : List ℕ → List ℕ
rest_of [] = []
rest_of (x ∷ s) = s

-- the first byte, or 0
abbrev pub head_of : List ℕ → ℕ
head_of [] = 0
head_of (x ∷ s) = x

abbrev pub punctuator_piece : ℕ → Option Piece
punctuator_piece n = if n == 0 then None else Some (piece_of (shape.Token Punct) n)

unfoldable pub punctuator_at : ℕ → List ℕ → Option Piece
punctuator_at b z = punctuator_piece (punctuator_length b (head_of z) (head_of (rest_of z)))

abbrev pub longer_piece : Shape → ℕ → Option ℕ → Option Piece
longer_piece p more None = None
longer_piece p more (Some n) = Some (piece_of p (n + more))

abbrev pub slash_at : ℕ → List ℕ → Option Piece
slash_at b z = if begins 42 z then longer_piece shape.Comment 2 (comment_end false 0 (rest_of z))
    else if begins 47 z then Some (piece_of shape.Comment (prefix_length is_no_line_end (rest_of z) + 2))
    else punctuator_at b z

abbrev pub plain_at : Class → ℕ → List ℕ → Option Piece
plain_at Letter b z = Some (piece_of (shape.Token Name) (prefix_length is_word z + 1))
plain_at Digit b z = Some (piece_of (shape.Token Number) (number_length b z + 1))
plain_at Dot b z = if begins_digit z then Some (piece_of (shape.Token Number) (number_length b z + 1)) else punctuator_at b z
plain_at Quote b z = longer_piece (shape.Token Str) 1 (close_at b true false 0 z)
plain_at Apostrophe b z = longer_piece (shape.Token Char) 1 (close_at b true false 0 z)
plain_at Slash b z = slash_at b z
plain_at LineEnd b z = Some (piece_of shape.LineEnd 1)
plain_at Blank b z = Some (piece_of shape.Blank 1)
plain_at Less b z = punctuator_at b z
plain_at Other b z = punctuator_at b z

abbrev pub or_else : Option Piece → Option Piece → Option Piece
or_else None other = other
or_else (Some p) other = Some p

abbrev pub header_at : Class → List ℕ → Option Piece
header_at Quote z = longer_piece (shape.Token HeaderName) 1 (header_end 34 z)
header_at Less z = longer_piece (shape.Token HeaderName) 1 (header_end 62 z)
header_at c z = None

abbrev pub piece_by : Context → Class → ℕ → List ℕ → Option Piece
piece_by context.AfterInclude c b z = or_else (header_at c z) (plain_at c b z)
piece_by k c b z = plain_at c b z

-- the piece at the front, if one begins there
unfoldable pub piece_at : Context → List ℕ → Option Piece
piece_at k [] = None
piece_at k (b ∷ z) = piece_by k (class_of b) b z
