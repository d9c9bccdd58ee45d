-- Pieces in the place of others.
use Rattle.std.proofs.Common.{◌≡◌, Bool, true, false, List, [], ◌∷◌, ◌++◌, refl}
use Rattle.lower_templates.specs.Worklist.Pieces.{PieceView, Do, DoIfUsed, End, Mark, Call}
use Rattle.lower.specs.TemplateLaws.PieceOrder.{IsInstruction, GoesOn, IsFollowed, AreFollowed, is_end, last_ends}

-- pieces that are done in any case
abbrev pub IsPlainPiece : PieceView → Type 0
IsPlainPiece (Do s) = Unit {0}
IsPlainPiece (DoIfUsed s) = ⊥
IsPlainPiece (End s exits) = Unit {0}
IsPlainPiece (Mark label) = Unit {0}
IsPlainPiece (Call c) = Unit {0}

abbrev pub ArePlain : List PieceView → Type 0
ArePlain [] = Unit {0}
ArePlain (p ∷ ps) = IsPlainPiece p × ArePlain ps

pub plain_more : (ps : List PieceView) (p : PieceView) → ArePlain ps → IsPlainPiece p → ArePlain (ps ++ p ∷ [])
plain_more [] p all one = (one, tt)
plain_more (q ∷ ps) p (first, all) one = (first, plain_more ps p all one)

plain_is_followed : (p : PieceView) (ps : List PieceView) → IsPlainPiece p → IsFollowed p ps
plain_is_followed (Do s) ps plain = tt
plain_is_followed (DoIfUsed s) ps plain = absurd plain
plain_is_followed (End s exits) ps plain = tt
plain_is_followed (Mark label) ps plain = tt
plain_is_followed (Call c) ps plain = tt

pub plain_before : (ps rest : List PieceView) → ArePlain ps → AreFollowed rest → AreFollowed (ps ++ rest)
plain_before [] rest plain followed = followed
plain_before (p ∷ ps) rest (one, plain) followed = (plain_is_followed p (ps ++ rest) one, plain_before ps rest plain followed)

-- a piece that begins no instruction gives way to plain ones
goes_on_without : (xs ps rest : List PieceView) (q : PieceView) → (IsInstruction q → ⊥) → GoesOn (xs ++ q ∷ rest) → GoesOn (xs ++ (ps ++ rest))
goes_on_without [] ps rest q none on = absurd (none on)
goes_on_without (x ∷ xs) ps rest q none on = on

followed_without : (x : PieceView) (xs ps rest : List PieceView) (q : PieceView) → (IsInstruction q → ⊥) → IsFollowed x (xs ++ q ∷ rest) → IsFollowed x (xs ++ (ps ++ rest))
followed_without (Do s) xs ps rest q none is = tt
followed_without (DoIfUsed s) xs ps rest q none is = goes_on_without xs ps rest q none is
followed_without (End s exits) xs ps rest q none is = tt
followed_without (Mark label) xs ps rest q none is = tt
followed_without (Call c) xs ps rest q none is = tt

pub in_place : (xs ps rest : List PieceView) (q : PieceView) → (IsInstruction q → ⊥) → ArePlain ps → AreFollowed (xs ++ q ∷ rest) → AreFollowed (xs ++ (ps ++ rest))
in_place [] ps rest q none plain (one, followed) = plain_before ps rest plain followed
in_place (x ∷ xs) ps rest q none plain (one, followed) = (followed_without x xs ps rest q none one, in_place xs ps rest q none plain followed)

-- a piece that is an instruction where another one is, and needs no more
goes_on_as : (xs rest : List PieceView) (q r : PieceView) → (IsInstruction q → IsInstruction r) → GoesOn (xs ++ q ∷ rest) → GoesOn (xs ++ r ∷ rest)
goes_on_as [] rest q r same on = same on
goes_on_as (x ∷ xs) rest q r same on = on

followed_as : (x : PieceView) (xs rest : List PieceView) (q r : PieceView) → (IsInstruction q → IsInstruction r) → IsFollowed x (xs ++ q ∷ rest) → IsFollowed x (xs ++ r ∷ rest)
followed_as (Do s) xs rest q r same is = tt
followed_as (DoIfUsed s) xs rest q r same is = goes_on_as xs rest q r same is
followed_as (End s exits) xs rest q r same is = tt
followed_as (Mark label) xs rest q r same is = tt
followed_as (Call c) xs rest q r same is = tt

pub instead : (xs rest : List PieceView) (q r : PieceView) → (IsInstruction q → IsInstruction r) → (IsFollowed q rest → IsFollowed r rest) → AreFollowed (xs ++ q ∷ rest) → AreFollowed (xs ++ r ∷ rest)
instead [] rest q r same needs (one, followed) = (needs one, followed)
instead (x ∷ xs) rest q r same needs (one, followed) = (followed_as x xs rest q r same one, instead xs rest q r same needs followed)

-- the last piece
pub last_more : (b : Bool) (xs : List PieceView) (p : PieceView) → last_ends b (xs ++ p ∷ []) ≡ is_end p
last_more b [] p = refl
last_more b (x ∷ xs) p = last_more (is_end x) xs p

last_of_any : (b : Bool) (rest : List PieceView) → last_ends false rest ≡ true → last_ends b rest ≡ true
last_of_any b [] is = cc
last_of_any b (p ∷ ps) is = is

last_behind : (b : Bool) (ps rest : List PieceView) → last_ends false rest ≡ true → last_ends b (ps ++ rest) ≡ true
last_behind b [] rest is = last_of_any b rest is
last_behind b (p ∷ ps) rest is = last_behind (is_end p) ps rest is

at_false : (b : Bool) (rest : List PieceView) → b ≡ false → last_ends b rest ≡ true → last_ends false rest ≡ true
at_false true rest none is = cc
at_false false rest none is = is

pub last_in_place : (b : Bool) (xs ps rest : List PieceView) (q : PieceView) → is_end q ≡ false → last_ends b (xs ++ q ∷ rest) ≡ true → last_ends b (xs ++ (ps ++ rest)) ≡ true
last_in_place b [] ps rest q none is = last_behind b ps rest (at_false (is_end q) rest none is)
last_in_place b (x ∷ xs) ps rest q none is = last_in_place (is_end x) xs ps rest q none is
