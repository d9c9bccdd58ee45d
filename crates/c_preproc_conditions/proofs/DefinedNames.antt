-- A line is replaced from its front on.
use Rattle.std.proofs.Common.{◌≡◌, ℕ, zero, suc, ◌≤◌, true, false, cond, List, [], ◌∷◌, ◌++◌, length, Option, Some, None, option_map, append_assoc, refl, sym, ◌∙◌, ap, subst, arith}
use Rattle.c_preproc_macros.specs.declared.lexeme.Mark.{Mark}
use Rattle.c_preproc_macros.specs.declared.lexeme.Lexeme.{Lexeme}
use Rattle.c_preproc_macros.specs.declared.lexeme.Lexeme.TheVariants.{Name, Painted, Open, Close, Comma, Other}
use Rattle.c_preproc_macros.specs.Lexemes.{mark_of}
use Rattle.c_preproc_macros.specs.Rules.{Defined}
use Rattle.c_preproc_conditions.specs.declared.defined_names.Digits.{Digits}
use Rattle.c_preproc_conditions.specs.DefinedNames.{Named, closed_by, parenthesized, in_parentheses, named_by, named, digit, is_defined_word, is_defined, put_before, put_digit, replaced_by, replaced}

abbrev pub behind : List Lexeme → Option (List Lexeme) → Option (List Lexeme)
behind made o = option_map (λ xs. made ++ xs) o

behind-put : (made : List Lexeme) (x : Lexeme) (o : Option (List Lexeme)) → behind (made ++ x ∷ []) o ≡ behind made (put_before x o)
behind-put made x None = refl
behind-put made x (Some xs) = ap Some (append_assoc made (x ∷ []) xs)

-- a name that is read leaves fewer tokens
abbrev Short : ℕ → Option Named → Type 0
Short k None = Unit {0}
Short k (Some p) = length p.rest ≤ k

closed_by-short : (n : ℕ) (y : Lexeme) (more : List Lexeme) (k : ℕ) → length more ≤ k → Short k (closed_by n y more)
closed_by-short n (Close m) more k h = h
closed_by-short n (Name a m) more k h = tt
closed_by-short n (Painted a m) more k h = tt
closed_by-short n (Open m) more k h = tt
closed_by-short n (Comma m) more k h = tt
closed_by-short n (Other a b m) more k h = tt

parenthesized-short : (x y : Lexeme) (more : List Lexeme) (k : ℕ) → length more ≤ k → Short k (parenthesized x y more)
parenthesized-short (Name n m) y more k h = closed_by-short n y more k h
parenthesized-short (Painted a m) y more k h = tt
parenthesized-short (Open m) y more k h = tt
parenthesized-short (Close m) y more k h = tt
parenthesized-short (Comma m) y more k h = tt
parenthesized-short (Other a b m) y more k h = tt

in_parentheses-short : (xs : List Lexeme) (k : ℕ) → length xs ≤ k → Short k (in_parentheses xs)
in_parentheses-short [] k h = tt
in_parentheses-short (x ∷ []) k h = tt
in_parentheses-short (x ∷ y ∷ more) k h = parenthesized-short x y more k (omega arith)

named_by-short : (x : Lexeme) (more : List Lexeme) (k : ℕ) → length more ≤ k → Short k (named_by x more)
named_by-short (Name n m) more k h = h
named_by-short (Open m) more k h = in_parentheses-short more k h
named_by-short (Painted a m) more k h = tt
named_by-short (Close m) more k h = tt
named_by-short (Comma m) more k h = tt
named_by-short (Other a b m) more k h = tt

named-short : (xs : List Lexeme) → Short (length xs) (named xs)
named-short [] = tt
named-short (x ∷ more) = named_by-short x more (length (x ∷ more)) (omega arith)

digit-same : (macros : List (ℕ × Defined)) (digits : Digits) (m : Mark) (k : ℕ) (o : Option Named) (f g : List Lexeme → Option (List Lexeme)) → Short k o → ((ts : List Lexeme) → length ts ≤ k → f ts ≡ g ts)
    → put_digit macros digits m o f ≡ put_digit macros digits m o g
digit-same macros digits m k None f g h e = refl
digit-same macros digits m k (Some p) f g h e = ap (put_before (digit digits (is_defined macros p.name) m)) (e p.rest h)

-- the count says nothing more than that it is enough
turns-same : (texts : List (List ℕ)) (macros : List (ℕ × Defined)) (digits : Digits) (t u : ℕ) (ts : List Lexeme) → length ts ≤ t → length ts ≤ u → replaced_by texts macros digits t ts ≡ replaced_by texts macros digits u ts
turns-same texts macros digits zero zero ts h k = refl
turns-same texts macros digits zero (suc u) [] h k = refl
turns-same texts macros digits (suc t) zero [] h k = refl
turns-same texts macros digits (suc t) (suc u) [] h k = refl
turns-same texts macros digits zero (suc u) (x ∷ xs) h k = absurd (omega arith)
turns-same texts macros digits (suc t) zero (x ∷ xs) h k = absurd (omega arith)
turns-same texts macros digits (suc t) (suc u) (x ∷ xs) h k =
    let along : (ts : List Lexeme) → length ts ≤ length xs → replaced_by texts macros digits t ts ≡ replaced_by texts macros digits u ts = λ ts l. turns-same texts macros digits t u ts (omega arith) (omega arith) in
    ap (λ o. cond (is_defined_word texts x) o (put_before x (replaced_by texts macros digits t xs)))
    (digit-same macros digits (mark_of x) (length xs) (named xs) (replaced_by texts macros digits t) (replaced_by texts macros digits u) (named-short xs) along)
    ∙ ap (λ o. cond (is_defined_word texts x) (put_digit macros digits (mark_of x) (named xs) (replaced_by texts macros digits u)) (put_before x o)) (along xs (omega arith))

-- a token that stays
pub goes_on : (texts : List (List ℕ)) (macros : List (ℕ × Defined)) (digits : Digits) (made made1 rest more : List Lexeme) (x : Lexeme) (whole : Option (List Lexeme)) → behind made (replaced texts macros digits rest) ≡ whole → rest ≡ x ∷ more
    → is_defined_word texts x ≡ false → made1 ≡ made ++ x ∷ [] → behind made1 (replaced texts macros digits more) ≡ whole
goes_on texts macros digits made made1 rest more x whole h e w m =
    ap (λ l. behind l (replaced texts macros digits more)) m ∙ behind-put made x (replaced texts macros digits more)
    ∙ ap (behind made) (sym (ap (λ b. cond b (put_digit macros digits (mark_of x) (named more) (replaced_by texts macros digits (length more))) (put_before x (replaced texts macros digits more))) w))
    ∙ ap (λ l. behind made (replaced texts macros digits l)) (sym e) ∙ h

word-is : (texts : List (List ℕ)) (macros : List (ℕ × Defined)) (digits : Digits) (rest more : List Lexeme) (x : Lexeme) (o : Option Named) → rest ≡ x ∷ more → is_defined_word texts x ≡ true → named more ≡ o
    → replaced texts macros digits rest ≡ put_digit macros digits (mark_of x) o (replaced_by texts macros digits (length more))
word-is texts macros digits rest more x o e w n =
    ap (replaced texts macros digits) e
    ∙ ap (λ b. cond b (put_digit macros digits (mark_of x) (named more) (replaced_by texts macros digits (length more))) (put_before x (replaced texts macros digits more))) w
    ∙ ap (λ v. put_digit macros digits (mark_of x) v (replaced_by texts macros digits (length more))) n

-- `defined` and a name
pub puts_digit : (texts : List (List ℕ)) (macros : List (ℕ × Defined)) (digits : Digits) (made made1 rest more left : List Lexeme) (x : Lexeme) (n : ℕ) (whole : Option (List Lexeme)) → behind made (replaced texts macros digits rest) ≡ whole → rest ≡ x ∷ more
    → is_defined_word texts x ≡ true → named more ≡ Some (record { name = n; rest = left }) → made1 ≡ made ++ digit digits (is_defined macros n) (mark_of x) ∷ [] → behind made1 (replaced texts macros digits left) ≡ whole
puts_digit texts macros digits made made1 rest more left x n whole h e w p m =
    let d : Lexeme = digit digits (is_defined macros n) (mark_of x) in
    let short : length left ≤ length more = subst (Short (length more)) p (named-short more) in
    ap (λ l. behind l (replaced texts macros digits left)) m ∙ behind-put made d (replaced texts macros digits left)
    ∙ ap (λ o. behind made (put_before d o)) (turns-same texts macros digits (length left) (length more) left (omega arith) short)
    ∙ ap (behind made) (sym (word-is texts macros digits rest more x (Some (record { name = n; rest = left })) e w p)) ∙ h
