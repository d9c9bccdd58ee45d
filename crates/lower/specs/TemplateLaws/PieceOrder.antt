-- The order in which the pieces of a template stand.
use Rattle.std.specs.Prelude.{Bool, true, false, List, [], ◌∷◌}
use Rattle.lower_templates.specs.Worklist.Pieces.{PieceView, Do, DoIfUsed, End, Mark, Call}

-- an instruction, which comes into the current block
abbrev pub IsInstruction : PieceView → Type 0
IsInstruction (Do s) = Unit {0}
IsInstruction (DoIfUsed s) = Unit {0}
IsInstruction (End s exits) = Unit {0}
IsInstruction (Mark label) = ⊥
IsInstruction (Call c) = ⊥

-- the next piece is an instruction
abbrev pub GoesOn : List PieceView → Type 0
GoesOn [] = ⊥
GoesOn (p ∷ ps) = IsInstruction p

-- behind an instruction that is done only where a call's value is used the block goes on
abbrev pub IsFollowed : PieceView → List PieceView → Type 0
IsFollowed (Do s) ps = Unit {0}
IsFollowed (DoIfUsed s) ps = GoesOn ps
IsFollowed (End s exits) ps = Unit {0}
IsFollowed (Mark label) ps = Unit {0}
IsFollowed (Call c) ps = Unit {0}

abbrev pub AreFollowed : List PieceView → Type 0
AreFollowed [] = Unit {0}
AreFollowed (p ∷ ps) = IsFollowed p ps × AreFollowed ps

abbrev pub is_end : PieceView → Bool
is_end (Do s) = false
is_end (DoIfUsed s) = false
is_end (End s exits) = true
is_end (Mark label) = false
is_end (Call c) = false

abbrev pub last_ends : Bool → List PieceView → Bool
last_ends before [] = before
last_ends before (p ∷ ps) = last_ends (is_end p) ps

-- whether the last piece ends a block
abbrev pub ends_block : List PieceView → Bool
ends_block ps = last_ends false ps
