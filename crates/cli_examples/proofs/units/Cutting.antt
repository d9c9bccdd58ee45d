-- The tokens of the file. Bytes that end no line and join none are their own cells.
use Rattle.std.specs.Prelude.{◌≡◌, refl, ℕ, ◌+◌, Bool, true, false, not, ◌&&◌, ◌==◌, if◌then◌else◌, List, [], ◌∷◌, length, Ok, codes}
use Rattle.std.specs.List.{list_all}
use Rattle.std.proofs.Common.{ap, ◌∙◌}
use Rattle.c_lexer.specs.ByteClasses.{class_of, begins}
use Rattle.c_lexer.specs.Cutting.{start}
use Rattle.c_lexer.specs.FileTokens.{file_tokens, pieces_taken}
use Rattle.c_lexer.specs.Punctuators.{punctuator_length}
use Rattle.c_lexer.specs.Reading.{punctuator_at, piece_at}
use Rattle.c_lexer.specs.Splicing.{Cell, cell_of, placed, joined, spliced_from, spliced}
use Rattle.cli_examples.specs.Units.WorkedTexts.{Bytes, unit_text, tokens_with}

-- neither a backslash, a CR nor a LF
abbrev is_simple : ℕ → Bool
is_simple b = not (b == 13) && (not (b == 10) && not (b == 92))

abbrev cells : ℕ → ℕ → Bytes → List Cell
cells l c [] = []
cells l c (b ∷ s) = cell_of b l c ∷ cells l (c + 1) s

first_of : (a b : Bool) → (a && b) ≡ true → a ≡ true
first_of true b h = refl
first_of false b h = cc

last_of : (a b : Bool) → (a && b) ≡ true → b ≡ true
last_of true b h = h
last_of false b h = cc

-- one byte, whatever stands behind it
one_placed : (is_return is_line is_backslash follows : Bool) (A : Type 0) (x : A) (kept : A) → (not is_return && (not is_line && not is_backslash)) ≡ true → (if is_return && follows then x else kept) ≡ kept
one_placed true is_line is_backslash follows A x kept h = cc
one_placed false is_line is_backslash follows A x kept h = refl

next_line : (is_return is_line is_backslash : Bool) (A : Type 0) (x y : A) → (not is_return && (not is_line && not is_backslash)) ≡ true → (if is_line then x else y) ≡ y
next_line true is_line is_backslash A x y h = cc
next_line false true is_backslash A x y h = cc
next_line false false is_backslash A x y h = refl

placed_simple : (l c : ℕ) (s : Bytes) → list_all is_simple s ≡ true → placed l c s ≡ cells l c s
placed_simple l c [] h = refl
placed_simple l c (b ∷ s) h =
    let simple = first_of (is_simple b) (list_all is_simple s) h in
    one_placed (b == 13) (b == 10) (b == 92) (begins 10 s) (List Cell) (placed l (c + 1) s) (cell_of b l c ∷ placed (if b == 10 then l + 1 else l) (if b == 10 then 1 else c + 1) s) simple
    ∙ (ap (λ (n : ℕ). cell_of b l c ∷ placed n (if b == 10 then 1 else c + 1) s) (next_line (b == 13) (b == 10) (b == 92) ℕ (l + 1) l simple)
    ∙ (ap (λ (n : ℕ). cell_of b l c ∷ placed l n s) (next_line (b == 13) (b == 10) (b == 92) ℕ 1 (c + 1) simple)
    ∙ ap (λ (xs : List Cell). cell_of b l c ∷ xs) (placed_simple l (c + 1) s (last_of (is_simple b) (list_all is_simple s) h))))

one_joined : (is_return is_line is_backslash follows : Bool) (A : Type 0) (x kept : A) → (not is_return && (not is_line && not is_backslash)) ≡ true → (if is_backslash && follows then x else kept) ≡ kept
one_joined true is_line is_backslash follows A x kept h = cc
one_joined false true is_backslash follows A x kept h = cc
one_joined false false true follows A x kept h = cc
one_joined false false false follows A x kept h = refl

joined_simple : (l c : ℕ) (s : Bytes) → list_all is_simple s ≡ true → joined (cells l c s) ≡ cells l c s
joined_simple l c [] h = refl
joined_simple l c (b ∷ []) h = refl
joined_simple l c (b ∷ (d ∷ s)) h =
    one_joined (b == 13) (b == 10) (b == 92) (d == 10) (List Cell) (joined (cells l (c + 1 + 1) s)) (cell_of b l c ∷ joined (cells l (c + 1) (d ∷ s))) (first_of (is_simple b) (list_all is_simple (d ∷ s)) h)
    ∙ ap (λ (xs : List Cell). cell_of b l c ∷ xs) (joined_simple l (c + 1) (d ∷ s) (last_of (is_simple b) (list_all is_simple (d ∷ s)) h))

spliced_is : (s : Bytes) → list_all is_simple s ≡ true → spliced s ≡ cells 1 1 s
unfolding spliced_from
spliced_is s h = ap (λ (xs : List Cell). joined xs) (placed_simple 1 1 s h) ∙ joined_simple 1 1 s h

taken : pieces_taken 0 27 start [] (cells 1 1 unit_text) ≡ Ok (tokens_with (codes "0"))
unfolding pieces_taken class_of punctuator_length punctuator_at piece_at
taken = refl

pub cut : file_tokens 0 unit_text ≡ Ok (tokens_with (codes "0"))
unfolding file_tokens
cut = ap (λ (xs : List Cell). pieces_taken 0 (length xs) start [] xs) (spliced_is unit_text refl) ∙ taken
