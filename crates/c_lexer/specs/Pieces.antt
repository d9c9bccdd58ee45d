-- What a piece of a file is: white space, a comment or a token, by the class of its first byte.
use Rattle.std.specs.Prelude.{ℕ, Bool, true, false, not, ◌&&◌, ◌==◌, if◌then◌else◌, List, [], ◌∷◌}
use Rattle.std.specs.List.{list_all}
use Rattle.cc_base.specs.declared.lexemes.Kind.TheVariants.{Name, Number, Char, Str, Punct, HeaderName}
use Rattle.c_lexer.specs.declared.byte_class.Class.{Class}
use Rattle.c_lexer.specs.declared.byte_class.Class.TheVariants.{Letter, Digit, Dot, Quote, Apostrophe, Slash, Less, LineEnd, Blank}
use Rattle.c_lexer.specs.declared.pieces.Shape.{Shape}
use Rattle.c_lexer.specs.declared.pieces.Shape.TheVariants as shape
use Rattle.c_lexer.specs.ByteClasses.{is_word, is_text, is_source, goes_on, begins, begins_digit, is_no_line_end, class_of}
use Rattle.c_lexer.specs.Punctuators.{is_punctuator}
use Rattle.cc_base.specs.declared.lexemes.Kind.{Kind}

abbrev pub is_empty : List ℕ → Bool
is_empty [] = true
is_empty (x ∷ s) = false

-- all bytes go on with the number that ends before them
abbrev pub runs_on : ℕ → List ℕ → Bool
runs_on last [] = true
runs_on last (b ∷ t) = goes_on last b && runs_on b t

-- the first quote that no backslash takes ends the list, and no line end stands before it
abbrev pub closes : ℕ → Bool → Bool → List ℕ → Bool
closes quote escapes escaped [] = false
closes quote escapes escaped (b ∷ t) = if b == 10 then false else if escaped then closes quote escapes false t
    else if b == quote then is_empty t else closes quote escapes (escapes && b == 92) t

-- the rest of a header name, which has a character (6.4.7)
abbrev pub closes_header : ℕ → List ℕ → Bool
closes_header quote t = not (begins quote t) && closes quote false false t

-- the first `*/` ends the list; `star` says that a `*` stands before it
abbrev pub ends_comment : Bool → List ℕ → Bool
ends_comment star [] = false
ends_comment star (b ∷ t) = if star && b == 47 then is_empty t else ends_comment (b == 42) t

-- what follows the `/` of a comment (6.4.9)
abbrev pub is_comment : List ℕ → Bool
is_comment [] = false
is_comment (b ∷ t) = if b == 42 then ends_comment false t else b == 47 && list_all is_no_line_end t

-- the token of this kind that `b` begins goes on as `t`
abbrev pub is_token_by : Kind → Class → ℕ → List ℕ → Bool
is_token_by Name Letter b t = list_all is_word t
is_token_by Number Digit b t = runs_on b t
is_token_by Number Dot b t = begins_digit t && runs_on b t
is_token_by Str Quote b t = closes b true false t
is_token_by Char Apostrophe b t = closes b true false t
is_token_by HeaderName Quote b t = closes_header 34 t
is_token_by HeaderName Less b t = closes_header 62 t
is_token_by Punct c b t = is_punctuator (b ∷ t)
is_token_by k c b t = false

abbrev pub is_piece_by : Shape → Class → ℕ → List ℕ → Bool
is_piece_by (shape.Token k) c b t = is_token_by k c b t
is_piece_by shape.Comment Slash b t = is_comment t
is_piece_by shape.Blank Blank b t = is_empty t
is_piece_by shape.LineEnd LineEnd b t = is_empty t
is_piece_by p c b t = false

abbrev pub is_piece : Shape → List ℕ → Bool
is_piece p [] = false
is_piece p (b ∷ t) = is_piece_by p (class_of b) b t

-- which bytes may stand in a piece
abbrev pub may_stand : Shape → ℕ → Bool
may_stand shape.Comment b = is_text b
may_stand (shape.Token Str) b = is_text b
may_stand p b = is_source b
