-- Lists that are pushed, and their notes.
use Rattle.std.proofs.Common.{◌≡◌, ℕ, zero, suc, ◌==◌, ◌&&◌, Bool, true, false, List, [], ◌∷◌, length, Option, Some, None, refl, sym, ◌∙◌, ap, subst}
use Rattle.c_preproc_macros.specs.declared.lexeme.Mark.{Mark}
use Rattle.c_preproc_macros.specs.declared.lexeme.Lexeme.{Lexeme}
use Rattle.c_preproc_macros.specs.declared.lexeme.Lexeme.TheVariants.{Name, Painted, Open, Close, Comma, Other}
use Rattle.c_preproc_macros.specs.declared.pending_list.Item.{Item}
use Rattle.c_preproc_macros.specs.declared.pending_list.Item.TheVariants.{Unread, Leave}
use Rattle.c_preproc_macros.specs.Expanding.{Split, with_first, next_argument, arguments, fits, is_nil, next_in}
use Rattle.c_preproc_macros.specs.Pending.{current, beyond, opens, closes, next_open, next_close, more_commas, outside, counts_of, innermost, note_of, pushed}
use Rattle.c_preproc_macros.specs.Machine.{suits}

pub current-pushed : (list : List Lexeme) (items : List Item) → current items ≡ [] → current (pushed list items) ≡ list
current-pushed [] items e = e
current-pushed (x ∷ xs) items e = ap (λ l. x ∷ l) (current-pushed xs items e)

pub beyond-pushed : (list : List Lexeme) (items : List Item) → beyond (pushed list items) ≡ beyond items
beyond-pushed [] items = refl
beyond-pushed (x ∷ xs) items = beyond-pushed xs items

next_in-opens : (b : Bool) (x : Lexeme) (ts : List Lexeme) → opens x ≡ next_in b (x ∷ ts)
next_in-opens b (Open m) ts = refl
next_in-opens b x ts = refl

-- the next token, by the list that is being read and what is beyond it
pub next_open-next_in : (items : List Item) → next_open items ≡ next_in (next_open (beyond items)) (current items)
next_open-next_in [] = refl
next_open-next_in (Unread x commas ∷ items) = next_in-opens (next_open (beyond items)) x (current items)
next_open-next_in (Leave ∷ items) = refl

-- how many commas a call has, if it is closed
abbrev pub commas_of : Option Split → Option ℕ
commas_of None = None
commas_of (Some p) = Some (length p.others)

abbrev nth_count : ℕ → List ℕ → Option ℕ
nth_count d [] = None
nth_count zero (c ∷ cs) = Some c
nth_count (suc d) (c ∷ cs) = nth_count d cs

abbrev option_suc : Option ℕ → Option ℕ
option_suc None = None
option_suc (Some c) = Some (suc c)

commas-first : (x : Lexeme) (o : Option Split) → commas_of (with_first x o) ≡ commas_of o
commas-first x None = refl
commas-first x (Some p) = refl

commas-next : (o : Option Split) → commas_of (next_argument o) ≡ option_suc (commas_of o)
commas-next None = refl
commas-next (Some p) = refl

count-outside : (d : ℕ) (cs : List ℕ) → nth_count (suc d) cs ≡ nth_count d (outside cs)
count-outside d [] = refl
count-outside d (c ∷ cs) = refl

count-more_first : (cs : List ℕ) → option_suc (nth_count zero cs) ≡ nth_count zero (more_commas cs)
count-more_first [] = refl
count-more_first (c ∷ cs) = refl

count-more_later : (d : ℕ) (cs : List ℕ) → nth_count (suc d) cs ≡ nth_count (suc d) (more_commas cs)
count-more_later d [] = refl
count-more_later d (c ∷ cs) = refl

commas-counts : (d : ℕ) (ts : List Lexeme) → commas_of (arguments d ts) ≡ nth_count d (counts_of ts)
commas-counts d [] = refl
commas-counts d (Open m ∷ ts) = commas-first (Open m) (arguments (suc d) ts) ∙ commas-counts (suc d) ts ∙ count-outside d (counts_of ts)
commas-counts zero (Close m ∷ ts) = refl
commas-counts (suc d) (Close m ∷ ts) = commas-first (Close m) (arguments d ts) ∙ commas-counts d ts
commas-counts zero (Comma m ∷ ts) = commas-next (arguments zero ts) ∙ ap option_suc (commas-counts zero ts) ∙ count-more_first (counts_of ts)
commas-counts (suc d) (Comma m ∷ ts) = commas-first (Comma m) (arguments (suc d) ts) ∙ commas-counts (suc d) ts ∙ count-more_later d (counts_of ts)
commas-counts d (x ∷ ts) = commas-first x (arguments d ts) ∙ commas-counts d ts

innermost-count : (cs : List ℕ) → innermost cs ≡ nth_count zero cs
innermost-count [] = refl
innermost-count (c ∷ cs) = refl

-- each `(` has the commas of the call that it opens
abbrev pub NotedAt : Lexeme → Option ℕ → List Lexeme → Type 0
NotedAt (Open m) commas ts = commas ≡ commas_of (arguments zero ts)
NotedAt x commas ts = Unit {0}

abbrev pub Noted : List Item → Type 0
Noted [] = Unit {0}
Noted (Unread x commas ∷ items) = NotedAt x commas (current items) × Noted items
Noted (Leave ∷ items) = Noted items

noted_at : (x : Lexeme) (ts : List Lexeme) → NotedAt x (note_of x (counts_of ts)) ts
noted_at (Open m) ts = innermost-count (counts_of ts) ∙ sym (commas-counts zero ts)
noted_at x ts = tt

pub noted-pushed : (list : List Lexeme) (items : List Item) → current items ≡ [] → Noted items → Noted (pushed list items)
noted-pushed [] items e h = h
noted-pushed (x ∷ xs) items e h =
    (subst (λ l. NotedAt x (note_of x (counts_of xs)) l) (sym (current-pushed xs items e)) (noted_at x xs), noted-pushed xs items e h)

and-false : (b : Bool) → (b && false) ≡ false
and-false true = refl
and-false false = refl

-- the machine's test of the number of arguments
abbrev SuitsIf : List Item → Option Split → Type 0
SuitsIf items None = Unit {0}
SuitsIf items (Some p) = ((length p.others == 0) && next_close items) ≡ (is_nil p.first && is_nil p.others)

suits-first : (x : Lexeme) (commas : Option ℕ) (items : List Item) → closes x ≡ false → (o : Option Split) → SuitsIf (Unread x commas ∷ items) (with_first x o)
suits-first x commas items e None = tt
suits-first x commas items e (Some p) = ap (λ b. (length p.others == 0) && b) e ∙ and-false (length p.others == 0)

suits-next : (m : Mark) (commas : Option ℕ) (items : List Item) (o : Option Split) → SuitsIf (Unread (Comma m) commas ∷ items) (next_argument o)
suits-next m commas items None = tt
suits-next m commas items (Some p) = and-false ((suc (length p.others)) == 0)

suits-items : (items : List Item) → SuitsIf items (arguments zero (current items))
suits-items [] = tt
suits-items (Leave ∷ items) = tt
suits-items (Unread (Close m) commas ∷ items) = refl
suits-items (Unread (Comma m) commas ∷ items) = suits-next m commas items (arguments zero (current items))
suits-items (Unread (Open m) commas ∷ items) = suits-first (Open m) commas items refl (arguments (suc zero) (current items))
suits-items (Unread (Name n m) commas ∷ items) = suits-first (Name n m) commas items refl (arguments zero (current items))
suits-items (Unread (Painted n m) commas ∷ items) = suits-first (Painted n m) commas items refl (arguments zero (current items))
suits-items (Unread (Other k n m) commas ∷ items) = suits-first (Other k n m) commas items refl (arguments zero (current items))

pub suits-fits : (k : ℕ) (items : List Item) (p : Split) → arguments zero (current items) ≡ Some p → suits k (length p.others) items ≡ fits k p.first p.others
suits-fits zero items p e = let h : SuitsIf items (Some p) = subst (SuitsIf items) e (suits-items items) in h
suits-fits (suc k) items p e = refl
