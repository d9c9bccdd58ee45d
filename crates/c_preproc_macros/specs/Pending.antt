-- What is still to be read: tokens with notes, and the ends of replaced lists.
use Rattle.std.specs.Prelude.{◌≡◌, ℕ, suc, Bool, true, false, List, [], ◌∷◌, Option, Some, None}
use Rattle.c_preproc_macros.specs.declared.lexeme.Lexeme.{Lexeme}
use Rattle.c_preproc_macros.specs.declared.lexeme.Lexeme.TheVariants.{Open, Close, Comma}
use Rattle.c_preproc_macros.specs.declared.pending_list.Item.{Item}
use Rattle.c_preproc_macros.specs.declared.pending_list.Item.TheVariants.{Unread, Leave}

-- up to the end of the list that is being read
abbrev pub current : List Item → List Lexeme
current [] = []
current (Unread x commas ∷ items) = x ∷ current items
current (Leave ∷ items) = []

-- from that end on
abbrev pub beyond : List Item → List Item
beyond [] = []
beyond (Unread x commas ∷ items) = beyond items
beyond (Leave ∷ items) = Leave ∷ items

abbrev pub opens : Lexeme → Bool
opens (Open m) = true
opens x = false

abbrev pub closes : Lexeme → Bool
closes (Close m) = true
closes x = false

-- `(` is the next token, through the ends of replaced lists
abbrev pub next_open : List Item → Bool
next_open [] = false
next_open (Unread x commas ∷ items) = opens x
next_open (Leave ∷ items) = next_open items

-- the next item is `)`
abbrev pub next_close : List Item → Bool
next_close [] = false
next_close (Unread x commas ∷ items) = closes x
next_close (Leave ∷ items) = false

-- For the part of a list behind a place, the number of commas at each depth of parentheses that is closed, the innermost first.
abbrev pub more_commas : List ℕ → List ℕ
more_commas [] = []
more_commas (c ∷ cs) = suc c ∷ cs

abbrev pub outside : List ℕ → List ℕ
outside [] = []
outside (c ∷ cs) = cs

abbrev pub counts_with : Lexeme → List ℕ → List ℕ
counts_with (Open m) cs = outside cs
counts_with (Close m) cs = 0 ∷ cs
counts_with (Comma m) cs = more_commas cs
counts_with x cs = cs

abbrev pub counts_of : List Lexeme → List ℕ
counts_of [] = []
counts_of (x ∷ xs) = counts_with x (counts_of xs)

abbrev pub innermost : List ℕ → Option ℕ
innermost [] = None
innermost (c ∷ cs) = Some c

-- the number of commas of the call that a token opens, where it is `(` and closed in its list
abbrev pub note_of : Lexeme → List ℕ → Option ℕ
note_of (Open m) cs = innermost cs
note_of x cs = None

-- a list in front of other items
abbrev pub pushed : List Lexeme → List Item → List Item
pushed [] items = items
pushed (x ∷ xs) items = Unread x (note_of x (counts_of xs)) ∷ pushed xs items

-- what an item says of the next token, where it stands before some items
abbrev pub Seen : List Item → List Item → Option Bool → Type 0
Seen here behind None = next_open here ≡ next_open behind
Seen here behind (Some answer) = next_open here ≡ answer
