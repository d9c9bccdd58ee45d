-- Every file has an answer, and a reader's answer is that one.
use Rattle.std.proofs.Common.{◌≡◌, ◌≤◌, ◌<◌, ◌+◌, ◌++◌, ℕ, zero, suc, Bool, true, false, cond, nat_lt, List, [], ◌∷◌, length, take, drop, Option, Some, None, Result, Ok, Err, IfOk, refl, sym, ap, subst, arith, length-drop}
use Rattle.std.proofs.lemmas.List.{length-map}
use Rattle.std.proofs.lemmas.Bool.Decides.{nat_tests}
use Rattle.cc_base.specs.declared.lexemes.Token.{Token}
use Rattle.cc_base.specs.declared.refusals.Fault.{Fault}
use Rattle.cc_base.specs.declared.refusals.Stop.{Stop}
use Rattle.cc_base.specs.declared.refusals.Stop.TheVariants as stop
use Rattle.c_lexer.specs.declared.pieces.Piece.{Piece}
use Rattle.c_lexer.specs.declared.pieces.State.{State}
use Rattle.c_lexer.specs.Pieces.{may_stand}
use Rattle.c_lexer.specs.Reading.{prefix_length, piece_at}
use Rattle.c_lexer.specs.Splicing.{Cell, bytes_of, place_of, spliced}
use Rattle.c_lexer.specs.Cutting.{after, start, token_list, cause, is_past, too_many, fault_of, Lexes, Refuses}
use Rattle.c_lexer.specs.Answers.{IfRefused}
use Rattle.c_lexer.specs.FileTokens.{legal_piece, piece_taken, pieces_taken, file_tokens, IsFileAnswer, Gives}
use Rattle.c_lexer.proofs.Sizes.{size_fits}
use Rattle.c_lexer.proofs.Splices.{bytes_of-drop}
use Rattle.c_lexer.proofs.Along.{Goes, starts_at, goes_by, lexes_by, refuses_nothing, refuses_many, refuses_bad}
use Rattle.c_lexer.proofs.Only.{one_list, one_fault, no_both}

either : {A : Type 0} (t : Bool) (x y : A) (P : A → Type 0) → (t ≡ true → P x) → (t ≡ false → P y) → P (cond t x y)
either true x y P h k = h refl
either false x y P h k = k refl

less : (m n : ℕ) → nat_lt m n ≡ true → m < n
less m n e = grind (arith, nat_tests)

no_less : (m n : ℕ) → nat_lt m n ≡ false → n ≤ m
no_less m n e = grind (arith, nat_tests)

fewer : (n : ℕ) (s : List Cell) → 1 ≤ n → n ≤ length (bytes_of s) → length (drop n s) < length s
fewer n s h k = omega (arith, length-drop n s, length-map s (λ x. x.byte))

legal_is : (file : ℕ) (bytes : List ℕ) (go : State → List Token → List Cell → Result (List Token) Fault) (st : State) (ts : List Token) (s : List Cell) (p : Piece)
    → ((st2 : State) (ts2 : List Token) (s2 : List Cell) → Goes file bytes (bytes_of s2) st2 ts2 s2 → length s2 < length s → IsFileAnswer file bytes (go st2 ts2 s2))
    → Goes file bytes (bytes_of s) st ts s → piece_at st.context (bytes_of s) ≡ Some p → is_past p.shape (length ts) ≡ false
    → IsFileAnswer file bytes (legal_piece file go st ts s p (take p.size (bytes_of s)))
legal_is file bytes go st ts s p ih g e past =
    let z : List ℕ = bytes_of s in
    let t : List ℕ = take p.size z in
    let good : ℕ = prefix_length (may_stand p.shape) t in
    let fits = size_fits st.context z p e in
    either (nat_lt good (length t)) _ _ (IsFileAnswer file bytes)
    (λ k. refuses_bad file bytes z st ts s (drop good s) p (place_of file (drop good s)) t good g e past refl refl (less good (length t) k) refl refl)
    (λ k. ih (after st p.shape t) (ts ++ token_list st p.shape t (place_of file s)) (drop p.size s)
    (goes_by file bytes z st ts s p (place_of file s) t good (bytes_of (drop p.size s)) (after st p.shape t) (ts ++ token_list st p.shape t (place_of file s)) (drop p.size s)
    g e past refl refl refl (no_less good (length t) k) (bytes_of-drop p.size s) refl refl refl)
    (fewer p.size s fits.0 fits.1))

piece_is : (file : ℕ) (bytes : List ℕ) (go : State → List Token → List Cell → Result (List Token) Fault) (st : State) (ts : List Token) (s : List Cell) (o : Option Piece)
    → ((st2 : State) (ts2 : List Token) (s2 : List Cell) → Goes file bytes (bytes_of s2) st2 ts2 s2 → length s2 < length s → IsFileAnswer file bytes (go st2 ts2 s2))
    → Goes file bytes (bytes_of s) st ts s → 0 < length (bytes_of s) → piece_at st.context (bytes_of s) ≡ o → IsFileAnswer file bytes (piece_taken file go st ts s o)
piece_is file bytes go st ts s None ih g h e = refuses_nothing file bytes (bytes_of s) st ts s (place_of file s) (cause (bytes_of s)) g h e refl refl
piece_is file bytes go st ts s (Some p) ih g h e = either (is_past p.shape (length ts)) _ _ (IsFileAnswer file bytes)
    (λ k. refuses_many file bytes (bytes_of s) st ts s p (place_of file s) too_many g e k refl refl)
    (λ k. legal_is file bytes go st ts s p ih g e k)

pieces_are : (file : ℕ) (bytes : List ℕ) (turns : ℕ) (st : State) (ts : List Token) (s : List Cell) → Goes file bytes (bytes_of s) st ts s → length s ≤ turns → IsFileAnswer file bytes (pieces_taken file turns st ts s)
unfolding pieces_taken
pieces_are file bytes zero st ts [] g h = lexes_by file bytes [] st ts [] g (omega arith)
pieces_are file bytes zero st ts (x ∷ s) g h = absurd (omega arith)
pieces_are file bytes (suc turns) st ts [] g h = lexes_by file bytes [] st ts [] g (omega arith)
pieces_are file bytes (suc turns) st ts (x ∷ s) g h = piece_is file bytes (pieces_taken file turns) st ts (x ∷ s) (piece_at st.context (bytes_of (x ∷ s)))
    (λ st2 ts2 s2 g2 k. pieces_are file bytes turns st2 ts2 s2 g2 (omega arith)) g (omega arith) refl

pub answer_is : (file : ℕ) (bytes : List ℕ) → IsFileAnswer file bytes (file_tokens file bytes)
unfolding file_tokens
answer_is file bytes = pieces_are file bytes (length (spliced bytes)) start [] (spliced bytes) (starts_at file bytes (bytes_of (spliced bytes)) start [] (spliced bytes) refl refl refl refl) (omega arith)

lexed : (file : ℕ) (bytes : List ℕ) (ts : List Token) (r : Result (List Token) Fault) → IsFileAnswer file bytes r → Lexes file bytes ts → r ≡ Ok ts
lexed file bytes ts (Ok us) a l = ap Ok (one_list file bytes us ts a l)
lexed file bytes ts (Err f) a l = absurd (no_both file bytes ts f l a)

refused : (file : ℕ) (bytes : List ℕ) (f : Fault) (r : Result (List Token) Fault) → IsFileAnswer file bytes r → Refuses file bytes f → r ≡ Err f
refused file bytes f (Ok us) a l = absurd (no_both file bytes us f a l)
refused file bytes f (Err g) a l = ap Err (one_fault file bytes g f a l)

pub gives : (file : ℕ) (bytes : List ℕ) (r : Result (List Token) Stop) → IfOk r (Lexes file bytes) → IfRefused r (Refuses file bytes) → Gives (file_tokens file bytes) r
gives file bytes (Ok ts) l f = lexed file bytes ts (file_tokens file bytes) (answer_is file bytes) l
gives file bytes (Err (stop.Refused g)) l f = refused file bytes g (file_tokens file bytes) (answer_is file bytes) f
gives file bytes (Err stop.Memory) l f = tt
gives file bytes (Err stop.NotHeld) l f = f
gives file bytes (Err stop.ReadFault) l f = f
