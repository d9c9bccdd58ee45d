-- Worked rows of the definitions.
use Rattle.std.proofs.Common.{◌≡◌, false, true, List, [], ◌∷◌, ◌++◌, Some, None, refl, codes}
use Rattle.cc_base.specs.declared.lexemes.Kind.TheVariants as kind
use Rattle.c_lexer.specs.declared.pieces.Shape.TheVariants as shape
use Rattle.c_lexer.specs.declared.pieces.Context.TheVariants as context
use Rattle.c_lexer.specs.ByteClasses.{class_of}
use Rattle.c_lexer.specs.Punctuators.{is_punctuator, punctuator_length}
use Rattle.c_lexer.specs.Pieces.{is_piece}
use Rattle.c_lexer.specs.Reading.{piece_at, punctuator_at, piece_of}
use Rattle.c_lexer.specs.Splicing.{bytes_of, spliced, spliced_from}

-- `>>=` is one punctuator
shift : piece_at context.Plain (codes ">>=x") ≡ Some (piece_of (shape.Token kind.Punct) 3)
unfolding piece_at class_of punctuator_at punctuator_length
shift = refl

-- the first of `a+++b` is the name
name : piece_at context.Plain (codes "a+++b") ≡ Some (piece_of (shape.Token kind.Name) 1)
unfolding piece_at class_of
name = refl

-- a header name goes before a string literal
header : piece_at context.AfterInclude (codes "\"a\\\"b\"") ≡ Some (piece_of (shape.Token kind.HeaderName) 4)
unfolding piece_at class_of
header = refl

-- a comment ends at its first `*/`
first_end : is_piece shape.Comment (codes "/* a */ */") ≡ false
unfolding class_of
first_end = refl

-- a comment inside a literal is none
literal : is_piece (shape.Token kind.Str) (codes "\"/*\"") ≡ true
unfolding class_of
literal = refl

-- a number goes on with a sign behind an exponent
number : is_piece (shape.Token kind.Number) (codes "0x1e+1.2") ≡ true
unfolding class_of
number = refl

-- a digraph is no punctuator
digraph : is_punctuator (codes "<:") ≡ false
unfolding is_punctuator
digraph = refl

-- a backslash before CR LF joins two lines
joined_lines : bytes_of (spliced (codes "a" ++ 92 ∷ 13 ∷ 10 ∷ codes "b")) ≡ codes "ab"
unfolding spliced_from
joined_lines = refl
