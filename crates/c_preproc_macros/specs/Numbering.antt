-- Spellings by their numbers.
use Rattle.std.specs.Prelude.{ℕ, cond, ◌==◌, nat_eq, List, [], ◌∷◌, map, slice_get, unwrap_or, vec_items, Option, Some, None}
use Rattle.std.specs.List.{position_or_len}
use Rattle.std.specs.Cmp.Lexicographic.{pointwise}
use Rattle.indexmap.specs.IndexSet.{insert_key}
use Rattle.cc_base.specs.declared.lexemes.Kind.{Kind}
use Rattle.cc_base.specs.declared.lexemes.Kind.TheVariants as kind
use Rattle.cc_base.specs.declared.lexemes.Token.{Token}
use Rattle.c_preproc_macros.specs.declared.lexeme.Mark.{Mark}
use Rattle.c_preproc_macros.specs.declared.lexeme.Lexeme.{Lexeme}
use Rattle.c_preproc_macros.specs.declared.lexeme.Lexeme.TheVariants.{Name, Painted, Open, Close, Comma, Other}
use Rattle.c_preproc_macros.specs.Lexemes.{mark_of, kind_of}
use Rattle.c_preproc_macros.specs.declared.spelling_numbers.Spellings.{Spellings}

abbrev pub texts_of : Spellings → List (List ℕ)
texts_of spellings = map vec_items spellings.texts.keys

-- the spelling with a number in a list; empty where there is none
abbrev pub text_at : List (List ℕ) → ℕ → List ℕ
text_at texts n = unwrap_or (slice_get texts n) []

-- the spelling with a number; empty where no spelling has it
abbrev pub text_of : Spellings → ℕ → List ℕ
text_of spellings n = unwrap_or (slice_get (texts_of spellings) n) []

-- how a token is spelled
abbrev pub spelled_in : List (List ℕ) → Lexeme → List ℕ
spelled_in texts (Name n m) = text_at texts n
spelled_in texts (Painted n m) = text_at texts n
spelled_in texts (Open m) = 40 ∷ []
spelled_in texts (Close m) = 41 ∷ []
spelled_in texts (Comma m) = 44 ∷ []
spelled_in texts (Other k n m) = text_at texts n

abbrev pub spelled : Spellings → Lexeme → List ℕ
spelled spellings x = spelled_in (texts_of spellings) x

-- the token again
abbrev pub token_in : List (List ℕ) → Lexeme → Token
token_in texts x = record { kind = kind_of x; text = spelled_in texts x; place = (mark_of x).place; first = (mark_of x).first; space = (mark_of x).space }

-- the number of a spelling: its place in the list, or else the number behind it
abbrev pub number_in : List (List ℕ) → List ℕ → ℕ
number_in texts text = position_or_len (pointwise nat_eq text) texts

-- the list with a spelling, which goes to its end if it is new
abbrev pub with_text : List (List ℕ) → List ℕ → List (List ℕ)
with_text texts text = insert_key (pointwise nat_eq) texts text

-- where a token of a file stands
abbrev pub mark_in : Token → Mark
mark_in t = record { place = t.place; first = t.first; space = t.space }

-- parentheses and commas have no number
abbrev pub bracket : List ℕ → Mark → Option Lexeme
bracket (b ∷ []) m = cond (b == 40) (Some (Open m)) (cond (b == 41) (Some (Close m)) (cond (b == 44) (Some (Comma m)) None))
bracket text m = None

abbrev pub bracket_of : Kind → List ℕ → Mark → Option Lexeme
bracket_of kind.Punct text m = bracket text m
bracket_of k text m = None

-- a token with a number
abbrev pub numbered : Kind → ℕ → Mark → Lexeme
numbered kind.Name n m = Name n m
numbered k n m = Other k n m

abbrev pub read_as : List (List ℕ) → Kind → List ℕ → Mark → Option Lexeme → List (List ℕ) × Lexeme
read_as texts k text m (Some x) = (texts, x)
read_as texts k text m None = (with_text texts text, numbered k (number_in texts text) m)

-- a token of a file with its spelling as a number, and the spellings after it
abbrev pub read_token : List (List ℕ) → Token → List (List ℕ) × Lexeme
read_token texts t = read_as texts t.kind t.text (mark_in t) (bracket_of t.kind t.text (mark_in t))
