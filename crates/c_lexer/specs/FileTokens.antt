-- The tokens of a file, or its first refusal, computed piece by piece. They are those of the cutting, as
-- `every_file_has_an_answer` proves.
use Rattle.std.specs.Prelude.{◌≡◌, ◌++◌, ℕ, zero, suc, cond, nat_lt, List, [], ◌∷◌, length, take, drop, Option, Some, None, Result, Ok, Err}
use Rattle.cc_base.specs.declared.lexemes.Token.{Token}
use Rattle.cc_base.specs.declared.refusals.Fault.{Fault}
use Rattle.cc_base.specs.declared.refusals.Refusal.TheVariants.{BadByte}
use Rattle.cc_base.specs.declared.refusals.Stop.{Stop}
use Rattle.cc_base.specs.declared.refusals.Stop.TheVariants as stop
use Rattle.c_lexer.specs.declared.pieces.Piece.{Piece}
use Rattle.c_lexer.specs.declared.pieces.State.{State}
use Rattle.c_lexer.specs.Pieces.{may_stand}
use Rattle.c_lexer.specs.Reading.{prefix_length, piece_at}
use Rattle.c_lexer.specs.Splicing.{Cell, bytes_of, place_of, spliced}
use Rattle.c_lexer.specs.Cutting.{after, start, token_list, cause, is_past, too_many, fault_of, Lexes, Refuses}

-- a piece whose bytes may all stand in it is taken, and `go` goes on behind it; `ts` are the tokens before it
abbrev pub legal_piece : ℕ → (State → List Token → List Cell → Result (List Token) Fault) → State → List Token → List Cell → Piece → List ℕ → Result (List Token) Fault
legal_piece file go st ts s p t =
    cond (nat_lt (prefix_length (may_stand p.shape) t) (length t)) (Err (fault_of (place_of file (drop (prefix_length (may_stand p.shape) t) s)) BadByte))
    (go (after st p.shape t) (ts ++ token_list st p.shape t (place_of file s)) (drop p.size s))

abbrev pub piece_taken : ℕ → (State → List Token → List Cell → Result (List Token) Fault) → State → List Token → List Cell → Option Piece → Result (List Token) Fault
piece_taken file go st ts s None = Err (fault_of (place_of file s) (cause (bytes_of s)))
piece_taken file go st ts s (Some p) =
    cond (is_past p.shape (length ts)) (Err (fault_of (place_of file s) too_many)) (legal_piece file go st ts s p (take p.size (bytes_of s)))

-- by a count that is no less than the cells that are left
unfoldable pub pieces_taken : ℕ → ℕ → State → List Token → List Cell → Result (List Token) Fault
pieces_taken file zero st ts s = Ok ts
pieces_taken file (suc turns) st ts [] = Ok ts
pieces_taken file (suc turns) st ts (x ∷ s) = piece_taken file (pieces_taken file turns) st ts (x ∷ s) (piece_at st.context (bytes_of (x ∷ s)))

-- the tokens of a file, the `file`th of its unit, or its first refusal
unfoldable pub file_tokens : ℕ → List ℕ → Result (List Token) Fault
file_tokens file bytes = pieces_taken file (length (spliced bytes)) start [] (spliced bytes)

-- what the cutting says of an answer
abbrev pub IsFileAnswer : ℕ → List ℕ → Result (List Token) Fault → Type 0
IsFileAnswer file bytes (Ok ts) = Lexes file bytes ts
IsFileAnswer file bytes (Err f) = Refuses file bytes f

-- an answer is what the definition gives, unless memory ran out
abbrev pub Gives : Result (List Token) Fault → Result (List Token) Stop → Type 0
Gives wanted (Ok ts) = wanted ≡ Ok ts
Gives wanted (Err (stop.Refused f)) = wanted ≡ Err f
Gives wanted (Err stop.Memory) = Unit {0}
Gives wanted (Err stop.NotHeld) = ⊥
Gives wanted (Err stop.ReadFault) = ⊥
