-- The pieces of a unit, each of which must be one external declaration: a piece ends at a `;` outside
-- of braces, at the `}` that closes an outermost `{` behind a `)`, or with the unit.
use Rattle.std.specs.Prelude.{ℕ, ◌+◌, ◌-◌, ◌==◌, true, false, ◌&&◌, List, [], ◌∷◌, if◌then◌else◌}
use Rattle.c_parser_tokens.specs.declared.terminals.Terminal.{Terminal}
use Rattle.c_parser_tokens.specs.declared.terminals.Symbol.{Symbol}
use Rattle.c_parser_tokens.specs.declared.terminals.Symbol.TheVariants as symbol
use Rattle.c_parser_tokens.specs.declared.terminals.Punctuator.TheVariants as p
use Rattle.c_parser.specs.declared.pieces.Progress.{Progress}

-- a piece that has had nothing
abbrev pub begun : Progress
begun = record { depth = 0; is_body = false; is_behind_parenthesis = false; is_complete = false }

-- behind a `{`: whether the piece is a function's body hangs on what stands before an outermost one
abbrev pub behind_left_brace : Progress → Progress
behind_left_brace b = record { depth = b.depth + 1; is_body = if b.depth == 0 then b.is_behind_parenthesis else b.is_body; is_behind_parenthesis = false; is_complete = false }

abbrev pub behind_right_brace : Progress → Progress
behind_right_brace b = record { depth = b.depth - 1; is_body = b.is_body; is_behind_parenthesis = false; is_complete = (b.depth == 1) && b.is_body }

-- behind one symbol more
abbrev pub behind : Progress → Symbol → Progress
behind b (symbol.Punctuator p.LeftBrace) = behind_left_brace b
behind b (symbol.Punctuator p.RightBrace) = behind_right_brace b
behind b (symbol.Punctuator p.Semicolon) = record { depth = b.depth; is_body = b.is_body; is_behind_parenthesis = false; is_complete = b.depth == 0 }
behind b (symbol.Punctuator p.RightParenthesis) = record { depth = b.depth; is_body = b.is_body; is_behind_parenthesis = true; is_complete = false }
behind b _ = record { depth = b.depth; is_body = b.is_body; is_behind_parenthesis = false; is_complete = false }

-- how many of these terminals go on with a piece
abbrev pub length_from : Progress → List Terminal → ℕ
length_from b [] = 0
length_from b (t ∷ ts) = if (behind b t.symbol).is_complete then 1 else 1 + length_from (behind b t.symbol) ts

-- the length of the first piece
abbrev pub piece_length : List Terminal → ℕ
piece_length ts = length_from begun ts
