-- The expansion of a list of tokens (6.10.3), as a rewriting of nested lists.
use Rattle.std.specs.Prelude.{◌≡◌, ℕ, zero, suc, ◌+◌, Bool, true, false, ◌||◌, ◌&&◌, ◌==◌, nat_le, cond, List, [], ◌∷◌, ◌++◌, length, Option, Some, None}
use Rattle.cc_base.specs.declared.diagnostics.Place.{Place}
use Rattle.c_preproc_macros.specs.declared.lexeme.Mark.{Mark}
use Rattle.c_preproc_macros.specs.declared.lexeme.Lexeme.{Lexeme}
use Rattle.c_preproc_macros.specs.declared.lexeme.Lexeme.TheVariants.{Name, Painted, Open, Close, Comma}
use Rattle.c_preproc_macros.specs.declared.macro_table.Part.{Part}
use Rattle.c_preproc_macros.specs.declared.macro_table.Part.TheVariants.{Parameter, Word}
use Rattle.c_preproc_macros.specs.declared.trouble.Trouble.{Trouble}
use Rattle.c_preproc_macros.specs.declared.trouble.Trouble.TheVariants.{Spill, Arguments, Unclosed, TooMany}
use Rattle.c_preproc_macros.specs.Lexemes.{mark_of, place_by, moved}

-- a macro: how many parameters it has, if it has a list of them, and its replacement list
pub record Rule : Type 0 where
  pub parameters : Option ℕ
  pub body : List Part

-- what is fixed while a list is expanded: the macros by their names, and the most tokens that replacements may make
pub record Setting : Type 0 where
  pub table : List (ℕ × Rule)
  pub limit : ℕ

-- what an expansion gives: a value and the tokens that replacements have made, or a trouble and its place
pub data Outcome (A : Type 0) : Type 0 where
  done : (value : A) → (used : ℕ) → Outcome A
  refused : (why : Trouble) → (place : Place) → Outcome A

abbrev pub bind : {A B : Type 0} → Outcome A → (A → ℕ → Outcome B) → Outcome B
bind (done x c) f = f x c
bind (refused why place) f = refused why place

-- the first argument, the further ones, and what follows the closing parenthesis
pub record Split : Type 0 where
  pub first : List Lexeme
  pub others : List (List Lexeme)
  pub rest : List Lexeme

abbrev pub with_first : Lexeme → Option Split → Option Split
with_first x None = None
with_first x (Some p) = Some (record { first = x ∷ p.first; others = p.others; rest = p.rest })

abbrev pub next_argument : Option Split → Option Split
next_argument None = None
next_argument (Some p) = Some (record { first = []; others = p.first ∷ p.others; rest = p.rest })

-- the arguments behind a `(`, at a depth of parentheses that are open in the argument
abbrev pub arguments : ℕ → List Lexeme → Option Split
arguments d [] = None
arguments d (Open m ∷ ts) = with_first (Open m) (arguments (suc d) ts)
arguments zero (Close m ∷ ts) = Some (record { first = []; others = []; rest = ts })
arguments (suc d) (Close m ∷ ts) = with_first (Close m) (arguments d ts)
arguments zero (Comma m ∷ ts) = next_argument (arguments zero ts)
arguments (suc d) (Comma m ∷ ts) = with_first (Comma m) (arguments (suc d) ts)
arguments d (x ∷ ts) = with_first x (arguments d ts)

abbrev pub look : List (ℕ × Rule) → ℕ → Option Rule
look [] n = None
look (e ∷ es) n = cond (n == e.0) (Some e.1) (look es n)

abbrev pub member : ℕ → List ℕ → Bool
member n [] = false
member n (x ∷ xs) = (x == n) || member n xs

abbrev pub is_nil : {A : Type 0} → List A → Bool
is_nil [] = true
is_nil (x ∷ xs) = false

-- a call with these arguments has as many as the macro has parameters
abbrev pub fits : ℕ → List Lexeme → List (List Lexeme) → Bool
fits zero first others = is_nil first && is_nil others
fits (suc k) first others = length others == k

abbrev pub nth_list : List (List Lexeme) → ℕ → List Lexeme
nth_list [] k = []
nth_list (xs ∷ xss) zero = xs
nth_list (xs ∷ xss) (suc k) = nth_list xss k

-- what a part of a replacement list stands for
abbrev pub part_of : List (List Lexeme) → Part → List Lexeme
part_of lists (Parameter k s) = nth_list lists k
part_of lists (Word x) = x ∷ []

-- a replacement list with its parameters replaced
abbrev pub put : List (List Lexeme) → List Part → List Lexeme
put lists [] = []
put lists (p ∷ ps) = part_of lists p ++ put lists ps

-- what becomes of the token at the head of a list
pub data Action : Type 0 where
  keep : (x : Lexeme) → Action
  replace : (name : ℕ) → (rule : Rule) → (args : List (List Lexeme)) → (rest : List Lexeme) → Action
  stop : (why : Trouble) → Action

-- no closing parenthesis: this parts from a wrong number of arguments in the text itself alone
abbrev pub unclosed : Option Place → Trouble
unclosed None = Unclosed
unclosed (Some outer) = Arguments

abbrev pub called : ℕ → Rule → ℕ → Trouble → Option Split → Action
called n r k lack None = stop lack
called n r k lack (Some p) = cond (fits k p.first p.others) (replace n r (p.first ∷ p.others) p.rest) (stop Arguments)

-- `spills` says that the list is a replacement and that `(` is the next token behind it
abbrev pub at_function : Bool → ℕ → Mark → Rule → ℕ → Trouble → List Lexeme → Action
at_function spills n m r k lack [] = cond spills (stop Spill) (keep (Name n m))
at_function spills n m r k lack (Open o ∷ ts) = called n r k lack (arguments zero ts)
at_function spills n m r k lack (x ∷ ts) = keep (Name n m)

abbrev pub at_macro : Bool → ℕ → Mark → Rule → Option ℕ → Trouble → List Lexeme → Action
at_macro spills n m r None lack ts = replace n r [] ts
at_macro spills n m r (Some k) lack ts = at_function spills n m r k lack ts

abbrev pub at_name : Bool → ℕ → Mark → Option Rule → Bool → Trouble → List Lexeme → Action
at_name spills n m None hidden lack ts = keep (Name n m)
at_name spills n m (Some r) true lack ts = keep (Painted n m)
at_name spills n m (Some r) false lack ts = at_macro spills n m r r.parameters lack ts

abbrev pub act : List (ℕ × Rule) → Bool → List ℕ → Trouble → Lexeme → List Lexeme → Action
act table spills hidden lack (Name n m) ts = at_name spills n m (look table n) (member n hidden) lack ts
act table spills hidden lack x ts = keep x

-- `(` is the next token behind a list that is made before `rest`
abbrev pub next_in : Bool → List Lexeme → Bool
next_in spills [] = spills
next_in spills (Open m ∷ ts) = true
next_in spills (x ∷ ts) = false

-- one list after the other
abbrev pub each : (List Lexeme → ℕ → Outcome (List Lexeme)) → List (List Lexeme) → ℕ → Outcome (List (List Lexeme))
each f [] c = done [] c
each f (xs ∷ xss) c = bind (f xs c) (λ ys c1. bind (each f xss c1) (λ yss c2. done (ys ∷ yss) c2))

-- a list that is made counts before it is expanded itself
abbrev pub counted : ℕ → Place → ℕ → List Lexeme → Outcome (List Lexeme)
counted limit place c made = cond (nat_le (c + length made) limit) (done made (c + length made)) (refused (TooMany (c + length made)) place)

-- what an action gives, with the list behind the token expanded by `go`, arguments by `argument` and a list that is
-- made by `deeper`
abbrev pub follow : Setting → Option Place → Place → (ℕ → List Lexeme → List Lexeme → ℕ → Outcome (List Lexeme)) → (List Lexeme → ℕ → Outcome (List Lexeme)) → (List Lexeme → ℕ → Outcome (List Lexeme)) → List Lexeme → ℕ → Action → Outcome (List Lexeme)
follow s at place deeper argument go xs c (keep x) = bind (go xs c) (λ ys c1. done (moved at x ∷ ys) c1)
follow s at place deeper argument go xs c (stop why) = refused why place
follow s at place deeper argument go xs c (replace n r args rest) =
    bind (each argument args c) (λ lists c1. bind (counted s.limit place c1 (put lists r.body)) (λ made c2.
    bind (deeper n rest made c2) (λ ys c3. bind (go rest c3) (λ zs c4. done (ys ++ zs) c4))))

-- along a list, by a count that is at least its length
unfoldable pub along : Setting → (Option Place → ℕ → Bool → List Lexeme → ℕ → Outcome (List Lexeme)) → List ℕ → ℕ → Option Place → Bool → List Lexeme → ℕ → Outcome (List Lexeme)
along s deeper hidden turns at spills [] c = done [] c
along s deeper hidden zero at spills (x ∷ xs) c = done [] c
along s deeper hidden (suc turns) at spills (x ∷ xs) c =
    let place : Place = place_by at (mark_of x).place in
    follow s at place (λ n rest made c1. deeper (Some place) n (next_in spills rest) made c1)
    (along s deeper hidden turns (Some place) false) (along s deeper hidden turns at spills) xs c (act s.table spills hidden (unclosed at) x xs)

-- into lists that are made, by a count that is at least the number of names that are not hidden
unfoldable pub within : Setting → ℕ → List ℕ → Option Place → Bool → List Lexeme → ℕ → Outcome (List Lexeme)
within s zero hidden at spills ts c = done [] c
within s (suc d) hidden at spills ts c = along s (λ outer n more made c1. within s d (n ∷ hidden) outer more made c1) hidden (length ts) at spills ts c

-- a list with its macros replaced: under these hidden names, inside a macro at this place, with `(` behind it or not, where
-- replacements before it have made `c` tokens
unfoldable pub repl : Setting → List ℕ → Option Place → Bool → List Lexeme → ℕ → Outcome (List Lexeme)
repl s hidden at spills ts c = within s (suc (length s.table)) hidden at spills ts c

-- the expansion of a list of text under no hidden name
abbrev pub expansion : Setting → List Lexeme → ℕ → Outcome (List Lexeme)
expansion s ts c = repl s [] None false ts c

-- What a replaced list is: nothing at its end, and else what becomes of its first token. So the counts above bound
-- the recursion and say nothing more.
abbrev pub EndsEmpty : Type 0
EndsEmpty = (s : Setting) (hidden : List ℕ) (at : Option Place) (spills : Bool) (c : ℕ) → repl s hidden at spills [] c ≡ done [] c

abbrev pub GoesByItsFirst : Type 0
GoesByItsFirst =
    (s : Setting) (hidden : List ℕ) (at : Option Place) (spills : Bool) (x : Lexeme) (xs : List Lexeme) (c : ℕ)
    → repl s hidden at spills (x ∷ xs) c
    ≡ follow s at (place_by at (mark_of x).place) (λ n rest made c1. repl s (n ∷ hidden) (Some (place_by at (mark_of x).place)) (next_in spills rest) made c1)
    (repl s hidden (Some (place_by at (mark_of x).place)) false) (repl s hidden at spills) xs c (act s.table spills hidden (unclosed at) x xs)
