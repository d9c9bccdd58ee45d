-- The laws of a replaced list: what it is at its end, and at its first token.
use Rattle.std.proofs.Common.{◌≡◌, ℕ, zero, suc, ◌<◌, ◌≤◌, ◌==◌, ◌||◌, Bool, true, false, cond, List, [], ◌∷◌, ◌++◌, length, Option, Some, None, refl, sym, ◌∙◌, ap, arith}
use Rattle.std.proofs.lemmas.Bool.{eqb-true}
use Rattle.cc_base.specs.declared.diagnostics.Place.{Place}
use Rattle.c_preproc_macros.specs.declared.lexeme.Mark.{Mark}
use Rattle.c_preproc_macros.specs.declared.lexeme.Lexeme.{Lexeme}
use Rattle.c_preproc_macros.specs.declared.lexeme.Lexeme.TheVariants.{Name, Open, Close, Comma}
use Rattle.c_preproc_macros.specs.declared.trouble.Trouble.{Trouble}
use Rattle.c_preproc_macros.specs.declared.trouble.Trouble.TheVariants.{Spill, Arguments}
use Rattle.c_preproc_macros.specs.Lexemes.{mark_of, place_by, moved}
use Rattle.c_preproc_macros.specs.Expanding.{Rule, Setting, Outcome, bind, Split, with_first, next_argument, arguments, look, member, fits, put, Action, unclosed, called, at_function, at_macro, at_name, act, next_in, each, counted, follow, along, within, repl}
use Rattle.c_preproc_macros.specs.Expanding.Outcome.{done, refused}
use Rattle.c_preproc_macros.specs.Expanding.Action.{keep, replace, stop}

pub bind-same : {A B : Type 0} (o : Outcome A) (f g : A → ℕ → Outcome B) → ((x : A) (c : ℕ) → f x c ≡ g x c) → bind o f ≡ bind o g
bind-same (done x c) f g h = h x c
bind-same (refused why place) f g h = refl

pub bind-both : {A B : Type 0} (o p : Outcome A) (f g : A → ℕ → Outcome B) → o ≡ p → ((x : A) (c : ℕ) → f x c ≡ g x c) → bind o f ≡ bind p g
bind-both o p f g e h = ap (λ v. bind v f) e ∙ bind-same p f g h

pub bind-bind : {A B C : Type 0} (o : Outcome A) (f : A → ℕ → Outcome B) (g : B → ℕ → Outcome C) → bind (bind o f) g ≡ bind o (λ x c. bind (f x c) g)
bind-bind (done x c) f g = refl
bind-bind (refused why place) f g = refl

-- no list is longer
abbrev pub AllShort : ℕ → List (List Lexeme) → Type 0
AllShort k [] = Unit {0}
AllShort k (xs ∷ xss) = (length xs ≤ k) × AllShort k xss

all_short-suc : (k : ℕ) (xss : List (List Lexeme)) → AllShort k xss → AllShort (suc k) xss
all_short-suc k [] h = tt
all_short-suc k (xs ∷ xss) h = let first : length xs ≤ k = h.0 in (omega arith, all_short-suc k xss h.1)

abbrev ShortIf : ℕ → Option Split → Type 0
ShortIf k None = Unit {0}
ShortIf k (Some p) = (length p.first ≤ k) × AllShort k p.others × (length p.rest ≤ k)

short-suc : (k : ℕ) (o : Option Split) → ShortIf k o → ShortIf (suc k) o
short-suc k None h = tt
short-suc k (Some p) h = let first : length p.first ≤ k = h.0 in let rest : length p.rest ≤ k = h.2 in (omega arith, all_short-suc k p.others h.1, omega arith)

short-first : (k : ℕ) (x : Lexeme) (o : Option Split) → ShortIf k o → ShortIf (suc k) (with_first x o)
short-first k x None h = tt
short-first k x (Some p) h = let first : length p.first ≤ k = h.0 in let rest : length p.rest ≤ k = h.2 in (omega arith, all_short-suc k p.others h.1, omega arith)

short-next : (k : ℕ) (o : Option Split) → ShortIf k o → ShortIf (suc k) (next_argument o)
short-next k None h = tt
short-next k (Some p) h = let first : length p.first ≤ k = h.0 in let rest : length p.rest ≤ k = h.2 in (omega arith, (omega arith, all_short-suc k p.others h.1), omega arith)

arguments-short : (d : ℕ) (ts : List Lexeme) → ShortIf (length ts) (arguments d ts)
arguments-short d [] = tt
arguments-short d (Open m ∷ ts) = short-first (length ts) (Open m) (arguments (suc d) ts) (arguments-short (suc d) ts)
arguments-short zero (Close m ∷ ts) = (omega arith, tt, omega arith)
arguments-short (suc d) (Close m ∷ ts) = short-first (length ts) (Close m) (arguments d ts) (arguments-short d ts)
arguments-short zero (Comma m ∷ ts) = short-next (length ts) (arguments zero ts) (arguments-short zero ts)
arguments-short (suc d) (Comma m ∷ ts) = short-first (length ts) (Comma m) (arguments (suc d) ts) (arguments-short (suc d) ts)
arguments-short d (x ∷ ts) = short-first (length ts) x (arguments d ts) (arguments-short d ts)

-- how many entries have a name that is not hidden
pub left : List (ℕ × Rule) → List ℕ → ℕ
left [] hidden = 0
left (e ∷ es) hidden = cond (member e.0 hidden) (left es hidden) (suc (left es hidden))

left-length : (es : List (ℕ × Rule)) (hidden : List ℕ) → left es hidden ≤ length es
unfolding left
left-length [] hidden = omega arith
left-length (e ∷ es) hidden =
    let rest : left es hidden ≤ length es = left-length es hidden in
    elim (member e.0 hidden) as (λ b. cond b (left es hidden) (suc (left es hidden)) ≤ suc (length es)) [ true ↦ omega arith | false ↦ omega arith ]

-- with one more name hidden
left-with : (es : List (ℕ × Rule)) (n : ℕ) (hidden : List ℕ) → left es (n ∷ hidden) ≤ left es hidden
unfolding left
left-with [] n hidden = omega arith
left-with (e ∷ es) n hidden =
    let rest : left es (n ∷ hidden) ≤ left es hidden = left-with es n hidden in
    elim (n == e.0) as (λ a. cond (a || member e.0 hidden) (left es (n ∷ hidden)) (suc (left es (n ∷ hidden))) ≤ cond (member e.0 hidden) (left es hidden) (suc (left es hidden))) [
      | true ↦ elim (member e.0 hidden) as (λ b. left es (n ∷ hidden) ≤ cond b (left es hidden) (suc (left es hidden))) [ true ↦ rest | false ↦ omega arith ]
      | false ↦ elim (member e.0 hidden) as (λ b. cond b (left es (n ∷ hidden)) (suc (left es (n ∷ hidden))) ≤ cond b (left es hidden) (suc (left es hidden))) [ true ↦ rest | false ↦ omega arith ]
    ]

falls-at : (es : List (ℕ × Rule)) (n : ℕ) (hidden : List ℕ) (r : Rule) (v : ℕ) (rv : Rule) → member n hidden ≡ false → left es (n ∷ hidden) ≤ left es hidden
    → (look es n ≡ Some r → left es (n ∷ hidden) < left es hidden) → (a : Bool) → (n == v) ≡ a → cond a (Some rv) (look es n) ≡ Some r
    → cond (a || member v hidden) (left es (n ∷ hidden)) (suc (left es (n ∷ hidden))) < cond (member v hidden) (left es hidden) (suc (left es hidden))
falls-at es n hidden r v rv h w ih true q e =
    let m : member v hidden ≡ false = ap (λ k. member k hidden) (sym (eqb-true n v q)) ∙ h in
    rw m (omega arith)
falls-at es n hidden r v rv h w ih false q e =
    let less : left es (n ∷ hidden) < left es hidden = ih e in
    elim (member v hidden) as (λ b. cond b (left es (n ∷ hidden)) (suc (left es (n ∷ hidden))) < cond b (left es hidden) (suc (left es hidden))) [ true ↦ less | false ↦ omega arith ]

left-falls : (es : List (ℕ × Rule)) (n : ℕ) (hidden : List ℕ) (r : Rule) → look es n ≡ Some r → member n hidden ≡ false → left es (n ∷ hidden) < left es hidden
unfolding left
left-falls [] n hidden r e h = cc
left-falls (x ∷ es) n hidden r e h = falls-at es n hidden r x.0 x.1 h (left-with es n hidden) (λ q. left-falls es n hidden r q h) (n == x.0) refl e

-- an action expands no longer lists, and hides one more name of the table
abbrev pub Fine : List (ℕ × Rule) → List ℕ → ℕ → Action → Type 0
Fine table hidden k (keep x) = Unit {0}
Fine table hidden k (stop why) = Unit {0}
Fine table hidden k (replace n r args rest) = AllShort k args × (length rest ≤ k) × (left table (n ∷ hidden) < left table hidden)

called-fine : (table : List (ℕ × Rule)) (hidden : List ℕ) (j n : ℕ) (r : Rule) (k : ℕ) (lack : Trouble) (o : Option Split) → left table (n ∷ hidden) < left table hidden → ShortIf j o → Fine table hidden (suc j) (called n r k lack o)
called-fine table hidden j n r k lack None falls h = tt
called-fine table hidden j n r k lack (Some p) falls h =
    let short : ShortIf (suc j) (Some p) = short-suc j (Some p) h in
    elim (fits k p.first p.others) as (λ b. Fine table hidden (suc j) (cond b (replace n r (p.first ∷ p.others) p.rest) (stop Arguments))) [
      | true ↦ ((short.0, short.1), short.2, falls)
      | false ↦ tt
    ]

function-fine : (table : List (ℕ × Rule)) (hidden : List ℕ) (spills : Bool) (n : ℕ) (m : Mark) (r : Rule) (k : ℕ) (lack : Trouble) (ts : List Lexeme) → left table (n ∷ hidden) < left table hidden → Fine table hidden (length ts) (at_function spills n m r k lack ts)
function-fine table hidden spills n m r k lack [] falls =
    elim spills as (λ b. Fine table hidden 0 (cond b (stop Spill) (keep (Name n m)))) [ true ↦ tt | false ↦ tt ]
function-fine table hidden spills n m r k lack (Open o ∷ ts) falls = called-fine table hidden (length ts) n r k lack (arguments zero ts) falls (arguments-short zero ts)
function-fine table hidden spills n m r k lack (x ∷ ts) falls = tt

macro-fine : (table : List (ℕ × Rule)) (hidden : List ℕ) (spills : Bool) (n : ℕ) (m : Mark) (r : Rule) (o : Option ℕ) (lack : Trouble) (ts : List Lexeme) → left table (n ∷ hidden) < left table hidden → Fine table hidden (length ts) (at_macro spills n m r o lack ts)
macro-fine table hidden spills n m r None lack ts falls = (tt, omega arith, falls)
macro-fine table hidden spills n m r (Some k) lack ts falls = function-fine table hidden spills n m r k lack ts falls

name-fine : (table : List (ℕ × Rule)) (hidden : List ℕ) (spills : Bool) (n : ℕ) (m : Mark) (lack : Trouble) (ts : List Lexeme) (o : Option Rule) → look table n ≡ o → (b : Bool) → member n hidden ≡ b → Fine table hidden (length ts) (at_name spills n m o b lack ts)
name-fine table hidden spills n m lack ts None e b h = tt
name-fine table hidden spills n m lack ts (Some r) e true h = tt
name-fine table hidden spills n m lack ts (Some r) e false h = macro-fine table hidden spills n m r r.parameters lack ts (left-falls table n hidden r e h)

act-fine : (table : List (ℕ × Rule)) (spills : Bool) (hidden : List ℕ) (lack : Trouble) (x : Lexeme) (ts : List Lexeme) → Fine table hidden (length ts) (act table spills hidden lack x ts)
act-fine table spills hidden lack (Name n m) ts = name-fine table hidden spills n m lack ts (look table n) refl (member n hidden) refl
act-fine table spills hidden lack x ts = tt

each-same : (k : ℕ) (f g : List Lexeme → ℕ → Outcome (List Lexeme)) → ((ts : List Lexeme) (c : ℕ) → length ts ≤ k → f ts c ≡ g ts c) → (xss : List (List Lexeme)) (c : ℕ) → AllShort k xss → each f xss c ≡ each g xss c
each-same k f g same [] c h = refl
each-same k f g same (xs ∷ xss) c h =
    bind-both (f xs c) (g xs c) (λ ys c1. bind (each f xss c1) (λ yss c2. done (ys ∷ yss) c2)) (λ ys c1. bind (each g xss c1) (λ yss c2. done (ys ∷ yss) c2)) (same xs c h.0)
    (λ ys c1. ap (λ o. bind o (λ yss c2. done (ys ∷ yss) c2)) (each-same k f g same xss c1 h.1))

abbrev pub joined : (List Lexeme → ℕ → Outcome (List Lexeme)) → List Lexeme → List Lexeme → ℕ → Outcome (List Lexeme)
joined go rest ys c = bind (go rest c) (λ zs c1. done (ys ++ zs) c1)

abbrev pub made_of : Setting → Place → (List Lexeme → ℕ → Outcome (List Lexeme)) → (List Lexeme → ℕ → Outcome (List Lexeme)) → Rule → List (List Lexeme) → ℕ → Outcome (List Lexeme)
made_of s place deeper behind r lists c = bind (counted s.limit place c (put lists r.body)) (λ made c1. bind (deeper made c1) behind)

follow-same : (s : Setting) (at : Option Place) (place : Place) (hidden : List ℕ) (deep1 deep2 : ℕ → List Lexeme → List Lexeme → ℕ → Outcome (List Lexeme)) (arg1 arg2 go1 go2 : List Lexeme → ℕ → Outcome (List Lexeme)) (xs : List Lexeme) (c : ℕ) (a : Action)
    → Fine s.table hidden (length xs) a
    → ((n : ℕ) (rest made : List Lexeme) (c1 : ℕ) → left s.table (n ∷ hidden) < left s.table hidden → deep1 n rest made c1 ≡ deep2 n rest made c1)
    → ((ts : List Lexeme) (c1 : ℕ) → length ts ≤ length xs → arg1 ts c1 ≡ arg2 ts c1)
    → ((ts : List Lexeme) (c1 : ℕ) → length ts ≤ length xs → go1 ts c1 ≡ go2 ts c1)
    → follow s at place deep1 arg1 go1 xs c a ≡ follow s at place deep2 arg2 go2 xs c a
follow-same s at place hidden deep1 deep2 arg1 arg2 go1 go2 xs c (keep x) f d e g = ap (λ o. bind o (λ ys c1. done (moved at x ∷ ys) c1)) (g xs c (omega arith))
follow-same s at place hidden deep1 deep2 arg1 arg2 go1 go2 xs c (stop why) f d e g = refl
follow-same s at place hidden deep1 deep2 arg1 arg2 go1 go2 xs c (replace n r args rest) f d e g =
    bind-both (each arg1 args c) (each arg2 args c) (made_of s place (deep1 n rest) (joined go1 rest) r) (made_of s place (deep2 n rest) (joined go2 rest) r)
    (each-same (length xs) arg1 arg2 e args c f.0)
    (λ lists c1. bind-same (counted s.limit place c1 (put lists r.body)) (λ made c2. bind (deep1 n rest made c2) (joined go1 rest)) (λ made c2. bind (deep2 n rest made c2) (joined go2 rest))
    (λ made c2. bind-both (deep1 n rest made c2) (deep2 n rest made c2) (joined go1 rest) (joined go2 rest) (d n rest made c2 f.2)
    (λ ys c3. ap (λ o. bind o (λ zs c4. done (ys ++ zs) c4)) (g rest c3 f.1))))

along-same : (s : Setting) (hidden : List ℕ) (deep1 deep2 : Option Place → ℕ → Bool → List Lexeme → ℕ → Outcome (List Lexeme))
    → ((outer : Option Place) (n : ℕ) (more : Bool) (made : List Lexeme) (c : ℕ) → left s.table (n ∷ hidden) < left s.table hidden → deep1 outer n more made c ≡ deep2 outer n more made c)
    → (t1 t2 : ℕ) (at : Option Place) (spills : Bool) (ts : List Lexeme) (c : ℕ) → length ts ≤ t1 → length ts ≤ t2 → along s deep1 hidden t1 at spills ts c ≡ along s deep2 hidden t2 at spills ts c
unfolding along
along-same s hidden deep1 deep2 d t1 t2 at spills [] c h1 h2 = refl
along-same s hidden deep1 deep2 d zero t2 at spills (x ∷ xs) c h1 h2 = absurd (omega arith)
along-same s hidden deep1 deep2 d (suc t1) zero at spills (x ∷ xs) c h1 h2 = absurd (omega arith)
along-same s hidden deep1 deep2 d (suc t1) (suc t2) at spills (x ∷ xs) c h1 h2 =
    let place : Place = place_by at (mark_of x).place in
    follow-same s at place hidden (λ n rest made c1. deep1 (Some place) n (next_in spills rest) made c1) (λ n rest made c1. deep2 (Some place) n (next_in spills rest) made c1)
    (along s deep1 hidden t1 (Some place) false) (along s deep2 hidden t2 (Some place) false) (along s deep1 hidden t1 at spills) (along s deep2 hidden t2 at spills)
    xs c (act s.table spills hidden (unclosed at) x xs) (act-fine s.table spills hidden (unclosed at) x xs)
    (λ n rest made c1 h. d (Some place) n (next_in spills rest) made c1 h)
    (λ ts c1 h. along-same s hidden deep1 deep2 d t1 t2 (Some place) false ts c1 (omega arith) (omega arith))
    (λ ts c1 h. along-same s hidden deep1 deep2 d t1 t2 at spills ts c1 (omega arith) (omega arith))

-- two counts that are large enough give the same
within-same : (s : Setting) (d1 d2 : ℕ) (hidden : List ℕ) (at : Option Place) (spills : Bool) (ts : List Lexeme) (c : ℕ) → left s.table hidden ≤ d1 → left s.table hidden ≤ d2
    → within s (suc d1) hidden at spills ts c ≡ within s (suc d2) hidden at spills ts c
unfolding within
within-same s zero d2 hidden at spills ts c h1 h2 =
    along-same s hidden (λ outer n more made c1. within s zero (n ∷ hidden) outer more made c1) (λ outer n more made c1. within s d2 (n ∷ hidden) outer more made c1)
    (λ outer n more made c1 h. absurd (omega arith)) (length ts) (length ts) at spills ts c (omega arith) (omega arith)
within-same s (suc d1) zero hidden at spills ts c h1 h2 =
    along-same s hidden (λ outer n more made c1. within s (suc d1) (n ∷ hidden) outer more made c1) (λ outer n more made c1. within s zero (n ∷ hidden) outer more made c1)
    (λ outer n more made c1 h. absurd (omega arith)) (length ts) (length ts) at spills ts c (omega arith) (omega arith)
within-same s (suc d1) (suc d2) hidden at spills ts c h1 h2 =
    along-same s hidden (λ outer n more made c1. within s (suc d1) (n ∷ hidden) outer more made c1) (λ outer n more made c1. within s (suc d2) (n ∷ hidden) outer more made c1)
    (λ outer n more made c1 h. within-same s d1 d2 (n ∷ hidden) outer more made c1 (omega arith) (omega arith)) (length ts) (length ts) at spills ts c (omega arith) (omega arith)

within-repl : (s : Setting) (d : ℕ) (hidden : List ℕ) (at : Option Place) (spills : Bool) (ts : List Lexeme) (c : ℕ) → left s.table hidden < d → within s d hidden at spills ts c ≡ repl s hidden at spills ts c
unfolding repl
within-repl s zero hidden at spills ts c h = absurd (omega arith)
within-repl s (suc d) hidden at spills ts c h = let most : left s.table hidden ≤ length s.table = left-length s.table hidden in within-same s d (length s.table) hidden at spills ts c (omega arith) most

-- at its end
pub repl-nil : (s : Setting) (hidden : List ℕ) (at : Option Place) (spills : Bool) (c : ℕ) → repl s hidden at spills [] c ≡ done [] c
unfolding repl within along
repl-nil s hidden at spills c = refl

along-repl : (s : Setting) (hidden : List ℕ) (turns : ℕ) (at : Option Place) (spills : Bool) (ts : List Lexeme) (c : ℕ) → length ts ≤ turns
    → along s (λ outer n more made c1. within s (length s.table) (n ∷ hidden) outer more made c1) hidden turns at spills ts c ≡ repl s hidden at spills ts c
unfolding repl within
along-repl s hidden turns at spills ts c h =
    along-same s hidden (λ outer n more made c1. within s (length s.table) (n ∷ hidden) outer more made c1) (λ outer n more made c1. within s (length s.table) (n ∷ hidden) outer more made c1)
    (λ outer n more made c1 l. refl) turns (length ts) at spills ts c h (omega arith)

repl-along : (s : Setting) (hidden : List ℕ) (at : Option Place) (spills : Bool) (x : Lexeme) (xs : List Lexeme) (c : ℕ)
    → repl s hidden at spills (x ∷ xs) c ≡ follow s at (place_by at (mark_of x).place) (λ n rest made c1. within s (length s.table) (n ∷ hidden) (Some (place_by at (mark_of x).place)) (next_in spills rest) made c1)
    (along s (λ outer n more made c1. within s (length s.table) (n ∷ hidden) outer more made c1) hidden (length xs) (Some (place_by at (mark_of x).place)) false)
    (along s (λ outer n more made c1. within s (length s.table) (n ∷ hidden) outer more made c1) hidden (length xs) at spills) xs c (act s.table spills hidden (unclosed at) x xs)
unfolding repl within along
repl-along s hidden at spills x xs c = refl

-- at its first token
pub repl-cons : (s : Setting) (hidden : List ℕ) (at : Option Place) (spills : Bool) (x : Lexeme) (xs : List Lexeme) (c : ℕ)
    → repl s hidden at spills (x ∷ xs) c ≡ follow s at (place_by at (mark_of x).place) (λ n rest made c1. repl s (n ∷ hidden) (Some (place_by at (mark_of x).place)) (next_in spills rest) made c1)
    (repl s hidden (Some (place_by at (mark_of x).place)) false) (repl s hidden at spills) xs c (act s.table spills hidden (unclosed at) x xs)
repl-cons s hidden at spills x xs c =
    let place : Place = place_by at (mark_of x).place in
    let deep : Option Place → ℕ → Bool → List Lexeme → ℕ → Outcome (List Lexeme) = λ outer n more made c1. within s (length s.table) (n ∷ hidden) outer more made c1 in
    let most : left s.table hidden ≤ length s.table = left-length s.table hidden in
    repl-along s hidden at spills x xs c ∙
    follow-same s at place hidden (λ n rest made c1. within s (length s.table) (n ∷ hidden) (Some place) (next_in spills rest) made c1) (λ n rest made c1. repl s (n ∷ hidden) (Some place) (next_in spills rest) made c1)
    (along s deep hidden (length xs) (Some place) false) (repl s hidden (Some place) false) (along s deep hidden (length xs) at spills) (repl s hidden at spills)
    xs c (act s.table spills hidden (unclosed at) x xs) (act-fine s.table spills hidden (unclosed at) x xs)
    (λ n rest made c1 h. within-repl s (length s.table) (n ∷ hidden) (Some place) (next_in spills rest) made c1 (omega arith))
    (λ ts c1 h. along-repl s hidden (length xs) (Some place) false ts c1 h)
    (λ ts c1 h. along-repl s hidden (length xs) at spills ts c1 h)
