-- The tokens of a text that ends its line.
use Rattle.std.proofs.Common.{◌≡◌, ℕ, Bool, true, false, cond, ◌&&◌, List, [], ◌∷◌, ◌++◌, refl, sym, ap, ap₂, ◌∙◌, append_assoc, append-nil}
use Rattle.json.specs.Token.{Token, begin_object, end_object, begin_array, end_array, key, string, number, boolean, null, bad}
use Rattle.json.specs.Word.{ends_word, word}
use Rattle.json.specs.Lex.{Lexeme, token, comma, colon, string_token, lex, between, fresh, punctuate, tokens}
use Rattle.json.specs.Print.{escape, quoted, token_text, begins, ends, separator, print_from, print, IsPrintable, ArePrintable}
use Rattle.json.proofs.Printed.Strings.{content-escape, lex-escape}
use Rattle.json.proofs.Printed.Numbers.{lex-number, in_word-ended}
use Rattle.json.proofs.Printed.Tokens.{tokens-print}

abbrev token_lexemes : Token → List Lexeme
token_lexemes begin_object = token begin_object ∷ []
token_lexemes end_object = token end_object ∷ []
token_lexemes begin_array = token begin_array ∷ []
token_lexemes end_array = token end_array ∷ []
token_lexemes (key s) = token (string s) ∷ colon ∷ []
token_lexemes (string s) = token (string s) ∷ []
token_lexemes (number s) = token (number s) ∷ []
token_lexemes (boolean b) = token (boolean b) ∷ []
token_lexemes null = token null ∷ []
token_lexemes bad = []

abbrev commas : Bool → List Lexeme
commas c = cond c (comma ∷ []) []

abbrev lexemes : Bool → List Token → List Lexeme
lexemes c [] = []
lexemes c (t ∷ ts) = commas (c && begins t) ++ (token_lexemes t ++ lexemes (ends t) ts)

-- a word ends behind a value, whatever ends the text
ends_behind : (ts : List Token) (rest : List ℕ) → ends_word rest ≡ true → ends_word (print_from true ts ++ rest) ≡ true
unfolding print_from
ends_behind [] rest e = e
ends_behind (begin_object ∷ ts) rest e = refl
ends_behind (end_object ∷ ts) rest e = refl
ends_behind (begin_array ∷ ts) rest e = refl
ends_behind (end_array ∷ ts) rest e = refl
ends_behind (key s ∷ ts) rest e = refl
ends_behind (string s ∷ ts) rest e = refl
ends_behind (number s ∷ ts) rest e = refl
ends_behind (boolean b ∷ ts) rest e = refl
ends_behind (null ∷ ts) rest e = refl
ends_behind (bad ∷ ts) rest e = refl

lex-quoted : (s r : List ℕ) → lex between (quoted s ++ r) ≡ token (string s) ∷ lex between r
unfolding lex
lex-quoted s r =
    ap (λ l. lex between (34 ∷ l)) (append_assoc (escape s) (34 ∷ []) r) ∙ ap₂ (λ o l. token (string_token o) ∷ l) (content-escape s r) (lex-escape s r)

lex-token_text : (t : Token) (r : List ℕ) → IsPrintable t → (ends t ≡ true → ends_word r ≡ true) → lex between (token_text t ++ r) ≡ token_lexemes t ++ lex between r
unfolding lex word
lex-token_text begin_object r h ended = refl
lex-token_text end_object r h ended = refl
lex-token_text begin_array r h ended = refl
lex-token_text end_array r h ended = refl
lex-token_text (key s) r h ended = ap (lex between) (append_assoc (quoted s) (58 ∷ []) r) ∙ lex-quoted s (58 ∷ r)
lex-token_text (string s) r h ended = lex-quoted s r
lex-token_text (number s) r h ended = lex-number s r h (ended refl)
lex-token_text (boolean true) r h ended = ap₂ (λ b l. token (cond b (boolean true) bad) ∷ l) (ended refl) (in_word-ended r (ended refl))
lex-token_text (boolean false) r h ended = ap₂ (λ b l. token (cond b (boolean false) bad) ∷ l) (ended refl) (in_word-ended r (ended refl))
lex-token_text null r h ended = ap₂ (λ b l. token (cond b null bad) ∷ l) (ended refl) (in_word-ended r (ended refl))
lex-token_text bad r h ended = absurd h

lex-separator : (b : Bool) (r : List ℕ) → lex between (cond b (44 ∷ []) [] ++ r) ≡ commas b ++ lex between r
unfolding lex
lex-separator true r = refl
lex-separator false r = refl

-- what is printed has its lexemes, and then come those of the rest
lex-printed : (c : Bool) (ts : List Token) (rest : List ℕ) → ArePrintable ts → ends_word rest ≡ true → lex between (print_from c ts ++ rest) ≡ lexemes c ts ++ lex between rest
unfolding print_from ArePrintable
lex-printed c [] rest h e = refl
lex-printed c (t ∷ ts) rest h e =
    let more = print_from (ends t) ts in
    let inner = ap (lex between) (append_assoc (token_text t) more rest) ∙ lex-token_text t (more ++ rest) h.0 (λ k. ap (λ b. ends_word (print_from b ts ++ rest)) k ∙ ends_behind ts rest e)
    ∙ ap (λ l. token_lexemes t ++ l) (lex-printed (ends t) ts rest h.1 e) ∙ sym (append_assoc (token_lexemes t) (lexemes (ends t) ts) (lex between rest))
    in
    ap (lex between) (append_assoc (separator c t) (token_text t ++ more) rest) ∙ lex-separator (c && begins t) ((token_text t ++ more) ++ rest)
    ∙ ap (λ l. commas (c && begins t) ++ l) inner ∙ sym (append_assoc (commas (c && begins t)) (token_lexemes t ++ lexemes (ends t) ts) (lex between rest))

end_of_line : lex between (10 ∷ []) ≡ lex between []
unfolding lex
end_of_line = refl

pub line_tokens : (ts : List Token) → ArePrintable ts → tokens (print ts ++ 10 ∷ []) ≡ ts
line_tokens ts h =
    ap (punctuate fresh) (lex-printed false ts (10 ∷ []) h refl ∙ ap (λ l. lexemes false ts ++ l) end_of_line ∙ sym (lex-printed false ts [] h refl) ∙ ap (lex between) (append-nil (print ts)))
    ∙ tokens-print ts h
