-- A file that is being read, line by line (6.10).
use Rattle.std.specs.Prelude.{ℕ, Bool, true, false, ◌&&◌, cond, codes, nat_eq, List, [], ◌∷◌, Option, Some, None}
use Rattle.std.specs.Cmp.Lexicographic.{pointwise}
use Rattle.cc_base.specs.declared.lexemes.Kind.{Kind}
use Rattle.cc_base.specs.declared.lexemes.Kind.TheVariants as kind
use Rattle.cc_base.specs.declared.lexemes.Token.{Token}
use Rattle.c_preproc_macros.specs.declared.lexeme.Lexeme.{Lexeme}
use Rattle.c_preproc_macros.specs.declared.lexeme.Lexeme.TheVariants.{Other}
use Rattle.c_preproc_macros.specs.Lexemes.{mark_of}
use Rattle.c_preproc_macros.specs.Numbering.{text_at, read_token}
use Rattle.c_preproc_directives.specs.declared.conditional_groups.Section.{Section}
use Rattle.c_preproc_directives.specs.declared.open_files.OpenFile.{OpenFile}

abbrev pub is_punctuator : Kind → Bool
is_punctuator kind.Punct = true
is_punctuator k = false

-- a `#` that is the first token of its line (6.10p2)
abbrev pub begins_directive : List (List ℕ) → Lexeme → Bool
begins_directive texts (Other k n m) = is_punctuator k && m.first && pointwise nat_eq (text_at texts n) (codes "#")
begins_directive texts x = false

abbrev pub first_of : List Lexeme → Option Lexeme
first_of [] = None
first_of (x ∷ xs) = Some x

-- the front of a list, and what is behind it
pub record Cut : Type 0 where
  pub front : List Lexeme
  pub rest : List Lexeme

abbrev pub cut : List Lexeme → List Lexeme → Cut
cut front rest = record { front = front; rest = rest }

abbrev pub with_front : Lexeme → Cut → Cut
with_front x both = record { front = x ∷ both.front; rest = both.rest }

-- before the first token that begins a directive
abbrev pub cut_text : List (List ℕ) → List Lexeme → Cut
cut_text texts [] = cut [] []
cut_text texts (x ∷ xs) = cond (begins_directive texts x) (cut [] (x ∷ xs)) (with_front x (cut_text texts xs))

-- before the first token that begins a line
abbrev pub cut_line : List Lexeme → Cut
cut_line [] = cut [] []
cut_line (x ∷ xs) = cond (mark_of x).first (cut [] (x ∷ xs)) (with_front x (cut_line xs))

-- the line of a directive behind the token that begins it
abbrev pub cut_directive : List Lexeme → Cut
cut_directive [] = cut [] []
cut_directive (x ∷ xs) = cut_line xs

-- a file that is being read: its index in the list of file names, the sections that are open in it, and its tokens
-- that are not read yet
pub record Opened : Type 0 where
  pub file : ℕ
  pub sections : List Section
  pub unread : List Lexeme

abbrev pub opened_of : OpenFile → Opened
opened_of f = record { file = f.file; sections = f.sections.open.items; unread = f.unread.items }

abbrev pub before_read : Lexeme → List (List ℕ) × List Lexeme → List (List ℕ) × List Lexeme
before_read x p = (p.0, x ∷ p.1)

-- tokens with their spellings as numbers, and the spellings after them
abbrev pub read_tokens : List (List ℕ) → List Token → List (List ℕ) × List Lexeme
read_tokens texts [] = (texts, [])
read_tokens texts (t ∷ ts) = before_read (read_token texts t).1 (read_tokens (read_token texts t).0 ts)

abbrev pub opened_with : ℕ → List (List ℕ) × List Lexeme → List (List ℕ) × Opened
opened_with file p = (p.0, record { file = file; sections = []; unread = p.1 })

-- a file that begins with these tokens
abbrev pub opened_file : List (List ℕ) → ℕ → List Token → List (List ℕ) × Opened
opened_file texts file tokens = opened_with file (read_tokens texts tokens)
