-- What is expanded stands where the text stands.
use Rattle.std.proofs.Common.{◌≡◌, ℕ, zero, suc, ◌+◌, nat_le, cond, Bool, true, false, List, [], ◌∷◌, ◌++◌, length, Option, Some, None, Result, Ok, Err, refl, sym, subst}
use Rattle.std.specs.List.{All}
use Rattle.std.proofs.lemmas.List.Elements.{All-nil, All-cons, All-head, All-tail, All-append}
use Rattle.cc_base.specs.declared.diagnostics.Place.{Place}
use Rattle.c_preproc_macros.specs.declared.lexeme.Mark.{Mark}
use Rattle.c_preproc_macros.specs.declared.lexeme.Lexeme.{Lexeme}
use Rattle.c_preproc_macros.specs.declared.lexeme.Lexeme.TheVariants.{Name, Painted, Open, Close, Comma, Other}
use Rattle.c_preproc_macros.specs.declared.machine.Expansion.{Expansion}
use Rattle.c_preproc_macros.specs.declared.trouble.Trouble.{Trouble}
use Rattle.c_preproc_macros.specs.declared.trouble.Trouble.TheVariants.{Arguments, TooMany}
use Rattle.c_preproc_macros.specs.declared.trouble.Failure.{Failure}
use Rattle.c_preproc_macros.specs.declared.trouble.Failure.TheVariants.{Refused, Memory}
use Rattle.c_preproc_macros.specs.Lexemes.{mark_of, placed_at, moved}
use Rattle.c_preproc_macros.specs.Expanding.{Rule, Setting, Outcome, bind, Split, with_first, next_argument, arguments, look, member, fits, put, Action, unclosed, called, at_function, at_macro, at_name, act, next_in, each, counted, follow, along, within, repl, expansion}
use Rattle.c_preproc_macros.specs.Expanding.Outcome.{done, refused}
use Rattle.c_preproc_macros.specs.Expanding.Action.{keep, replace, stop}
use Rattle.c_preproc_macros.specs.States.{Expands}
use Rattle.c_preproc_macros.specs.Places.{StandsBy, IfPlaced}

abbrev pub PlacedIf : (Place → Type 0) → Outcome (List Lexeme) → Type 0
PlacedIf P (done ys c) = All (StandsBy P) ys
PlacedIf P (refused why place) = P place

abbrev RefusedIf : {A : Type 0} → (Place → Type 0) → Outcome A → Type 0
RefusedIf P (done x c) = Unit {0}
RefusedIf P (refused why place) = P place

bind-placed : {A : Type 0} (P : Place → Type 0) (o : Outcome A) (f : A → ℕ → Outcome (List Lexeme)) → RefusedIf P o → ((x : A) (c : ℕ) → PlacedIf P (f x c)) → PlacedIf P (bind o f)
bind-placed P (done x c) f h k = k x c
bind-placed P (refused why place) f h k = h

bind-refused : {A B : Type 0} (P : Place → Type 0) (o : Outcome A) (f : A → ℕ → Outcome B) → RefusedIf P o → ((x : A) (c : ℕ) → RefusedIf P (f x c)) → RefusedIf P (bind o f)
bind-refused P (done x c) f h k = k x c
bind-refused P (refused why place) f h k = h

placed-refused : (P : Place → Type 0) (o : Outcome (List Lexeme)) → PlacedIf P o → RefusedIf P o
placed-refused P (done x c) h = tt
placed-refused P (refused why place) h = h

-- one token before an expansion
put-first : (P : Place → Type 0) (x : Lexeme) (o : Outcome (List Lexeme)) → StandsBy P x → PlacedIf P o → PlacedIf P (bind o (λ ys c. done (x ∷ ys) c))
put-first P x (done ys c) h k = All-cons (StandsBy P) x ys h k
put-first P x (refused why place) h k = k

-- one expansion before another
put-behind : (P : Place → Type 0) (ys : List Lexeme) (o : Outcome (List Lexeme)) → All (StandsBy P) ys → PlacedIf P o → PlacedIf P (bind o (λ zs c. done (ys ++ zs) c))
put-behind P ys (done zs c) h k = All-append (StandsBy P) ys zs h k
put-behind P ys (refused why place) h k = k

put-both : (P : Place → Type 0) (o : Outcome (List Lexeme)) (go : ℕ → Outcome (List Lexeme)) → PlacedIf P o → ((c : ℕ) → PlacedIf P (go c)) → PlacedIf P (bind o (λ ys c. bind (go c) (λ zs c1. done (ys ++ zs) c1)))
put-both P (done ys c) go h k = put-behind P ys (go c) h (k c)
put-both P (refused why place) go h k = h

each-refused : (P : Place → Type 0) (f : List Lexeme → ℕ → Outcome (List Lexeme)) → ((xs : List Lexeme) (c : ℕ) → PlacedIf P (f xs c)) → (xss : List (List Lexeme)) (c : ℕ) → RefusedIf P (each f xss c)
each-refused P f h [] c = tt
each-refused P f h (xs ∷ xss) c =
    bind-refused P (f xs c) (λ ys c1. bind (each f xss c1) (λ yss c2. done (ys ∷ yss) c2)) (placed-refused P (f xs c) (h xs c))
    (λ ys c1. bind-refused P (each f xss c1) (λ yss c2. done (ys ∷ yss) c2) (each-refused P f h xss c1) (λ yss c2. tt))

counted-refused : (P : Place → Type 0) (limit : ℕ) (place : Place) (c : ℕ) (made : List Lexeme) → P place → RefusedIf P (counted limit place c made)
counted-refused P limit place c made h = chosen (nat_le (c + length made) limit)
  where
    chosen : (b : Bool) → RefusedIf P (cond b (done made (c + length made)) (refused (TooMany (c + length made)) place))
    chosen true = tt
    chosen false = h

-- what an action leaves of the list can be expanded
abbrev Fine : (Place → Type 0) → (List Lexeme → Type 0) → Option Place → Action → Type 0
Fine P Q at (keep x) = StandsBy P (moved at x)
Fine P Q at (replace n r args rest) = Q rest
Fine P Q at (stop why) = Unit {0}

follow-placed : (P : Place → Type 0) (Q : List Lexeme → Type 0) (s : Setting) (at : Option Place) (place : Place) (deeper : ℕ → List Lexeme → List Lexeme → ℕ → Outcome (List Lexeme))
    (argument go : List Lexeme → ℕ → Outcome (List Lexeme)) (xs : List Lexeme) (c : ℕ) (a : Action) → P place
    → ((n : ℕ) (rest made : List Lexeme) (c1 : ℕ) → PlacedIf P (deeper n rest made c1)) → ((ts : List Lexeme) (c1 : ℕ) → PlacedIf P (argument ts c1))
    → ((ts : List Lexeme) (c1 : ℕ) → Q ts → PlacedIf P (go ts c1)) → Q xs → Fine P Q at a → PlacedIf P (follow s at place deeper argument go xs c a)
follow-placed P Q s at place deeper argument go xs c (keep x) p d a g q f = put-first P (moved at x) (go xs c) f (g xs c q)
follow-placed P Q s at place deeper argument go xs c (stop why) p d a g q f = p
follow-placed P Q s at place deeper argument go xs c (replace n r args rest) p d a g q f =
    bind-placed P (each argument args c) (λ lists c1. bind (counted s.limit place c1 (put lists r.body)) (λ made c2. bind (deeper n rest made c2) (λ ys c3. bind (go rest c3) (λ zs c4. done (ys ++ zs) c4))))
    (each-refused P argument a args c)
    (λ lists c1. bind-placed P (counted s.limit place c1 (put lists r.body)) (λ made c2. bind (deeper n rest made c2) (λ ys c3. bind (go rest c3) (λ zs c4. done (ys ++ zs) c4)))
    (counted-refused P s.limit place c1 (put lists r.body) p)
    (λ made c2. put-both P (deeper n rest made c2) (λ c3. go rest c3) (d n rest made c2) (λ c3. g rest c3 f)))

-- inside a replacement each token stands at the place of the outermost name
placed-place : (p : Place) (x : Lexeme) → (mark_of (placed_at p x)).place ≡ p
placed-place p (Name n m) = refl
placed-place p (Painted n m) = refl
placed-place p (Open m) = refl
placed-place p (Close m) = refl
placed-place p (Comma m) = refl
placed-place p (Other k n m) = refl

abbrev Any_list : List Lexeme → Type 0
Any_list ts = Unit {0}

fine-inside : (P : Place → Type 0) (p : Place) (a : Action) → P p → Fine P Any_list (Some p) a
fine-inside P p (keep x) h = subst P (sym (placed-place p x)) h
fine-inside P p (replace n r args rest) h = tt
fine-inside P p (stop why) h = tt

along-inside : (P : Place → Type 0) (s : Setting) (deeper : Option Place → ℕ → Bool → List Lexeme → ℕ → Outcome (List Lexeme)) (hidden : List ℕ) (p : Place) → P p
    → ((n : ℕ) (spills : Bool) (made : List Lexeme) (c : ℕ) → PlacedIf P (deeper (Some p) n spills made c))
    → (turns : ℕ) (spills : Bool) (ts : List Lexeme) (c : ℕ) → PlacedIf P (along s deeper hidden turns (Some p) spills ts c)
unfolding along
along-inside P s deeper hidden p h d turns spills [] c = All-nil (StandsBy P)
along-inside P s deeper hidden p h d zero spills (x ∷ xs) c = All-nil (StandsBy P)
along-inside P s deeper hidden p h d (suc turns) spills (x ∷ xs) c =
    follow-placed P Any_list s (Some p) p (λ n rest made c1. deeper (Some p) n (next_in spills rest) made c1) (along s deeper hidden turns (Some p) false) (along s deeper hidden turns (Some p) spills)
    xs c (act s.table spills hidden (unclosed (Some p)) x xs) h (λ n rest made c1. d n (next_in spills rest) made c1)
    (λ ts c1. along-inside P s deeper hidden p h d turns false ts c1) (λ ts c1 q. along-inside P s deeper hidden p h d turns spills ts c1) tt
    (fine-inside P p (act s.table spills hidden (unclosed (Some p)) x xs) h)

within-inside : (P : Place → Type 0) (s : Setting) (d : ℕ) (hidden : List ℕ) (p : Place) (spills : Bool) (ts : List Lexeme) (c : ℕ) → P p → PlacedIf P (within s d hidden (Some p) spills ts c)
unfolding within
within-inside P s zero hidden p spills ts c h = All-nil (StandsBy P)
within-inside P s (suc d) hidden p spills ts c h =
    along-inside P s (λ outer n more made c1. within s d (n ∷ hidden) outer more made c1) hidden p h (λ n more made c1. within-inside P s d (n ∷ hidden) p more made c1 h) (length ts) spills ts c

-- in a text what stays of the list stands where it stood
abbrev RestIf : (Place → Type 0) → Option Split → Type 0
RestIf P None = Unit {0}
RestIf P (Some p) = All (StandsBy P) p.rest

rest-first : (P : Place → Type 0) (x : Lexeme) (o : Option Split) → RestIf P o → RestIf P (with_first x o)
rest-first P x None h = tt
rest-first P x (Some p) h = h

rest-next : (P : Place → Type 0) (o : Option Split) → RestIf P o → RestIf P (next_argument o)
rest-next P None h = tt
rest-next P (Some p) h = h

arguments-rest : (P : Place → Type 0) (d : ℕ) (ts : List Lexeme) → All (StandsBy P) ts → RestIf P (arguments d ts)
arguments-rest P d [] h = tt
arguments-rest P d (Open m ∷ ts) h = rest-first P (Open m) (arguments (suc d) ts) (arguments-rest P (suc d) ts (All-tail (StandsBy P) (Open m) ts h))
arguments-rest P zero (Close m ∷ ts) h = All-tail (StandsBy P) (Close m) ts h
arguments-rest P (suc d) (Close m ∷ ts) h = rest-first P (Close m) (arguments d ts) (arguments-rest P d ts (All-tail (StandsBy P) (Close m) ts h))
arguments-rest P zero (Comma m ∷ ts) h = rest-next P (arguments zero ts) (arguments-rest P zero ts (All-tail (StandsBy P) (Comma m) ts h))
arguments-rest P (suc d) (Comma m ∷ ts) h = rest-first P (Comma m) (arguments (suc d) ts) (arguments-rest P (suc d) ts (All-tail (StandsBy P) (Comma m) ts h))
arguments-rest P d (x ∷ ts) h = rest-first P x (arguments d ts) (arguments-rest P d ts (All-tail (StandsBy P) x ts h))

called-fine : (P : Place → Type 0) (n : ℕ) (r : Rule) (k : ℕ) (lack : Trouble) (o : Option Split) → RestIf P o → Fine P (All (StandsBy P)) None (called n r k lack o)
called-fine P n r k lack None h = tt
called-fine P n r k lack (Some p) h = chosen (fits k p.first p.others)
  where
    chosen : (b : Bool) → Fine P (All (StandsBy P)) None (cond b (replace n r (p.first ∷ p.others) p.rest) (stop Arguments))
    chosen true = h
    chosen false = tt

function-fine : (P : Place → Type 0) (spills : Bool) (n : ℕ) (m : Mark) (r : Rule) (k : ℕ) (lack : Trouble) (ts : List Lexeme) → P m.place → All (StandsBy P) ts → Fine P (All (StandsBy P)) None (at_function spills n m r k lack ts)
function-fine P true n m r k lack [] p h = tt
function-fine P false n m r k lack [] p h = p
function-fine P spills n m r k lack (Open o ∷ ts) p h = called-fine P n r k lack (arguments zero ts) (arguments-rest P zero ts (All-tail (StandsBy P) (Open o) ts h))
function-fine P spills n m r k lack (x ∷ ts) p h = p

macro-fine : (P : Place → Type 0) (spills : Bool) (n : ℕ) (m : Mark) (r : Rule) (k : Option ℕ) (lack : Trouble) (ts : List Lexeme) → P m.place → All (StandsBy P) ts → Fine P (All (StandsBy P)) None (at_macro spills n m r k lack ts)
macro-fine P spills n m r None lack ts p h = h
macro-fine P spills n m r (Some k) lack ts p h = function-fine P spills n m r k lack ts p h

name-fine : (P : Place → Type 0) (spills : Bool) (n : ℕ) (m : Mark) (o : Option Rule) (hidden : Bool) (lack : Trouble) (ts : List Lexeme) → P m.place → All (StandsBy P) ts → Fine P (All (StandsBy P)) None (at_name spills n m o hidden lack ts)
name-fine P spills n m None hidden lack ts p h = p
name-fine P spills n m (Some r) true lack ts p h = p
name-fine P spills n m (Some r) false lack ts p h = macro-fine P spills n m r r.parameters lack ts p h

act-fine : (P : Place → Type 0) (table : List (ℕ × Rule)) (spills : Bool) (hidden : List ℕ) (lack : Trouble) (x : Lexeme) (ts : List Lexeme) → StandsBy P x → All (StandsBy P) ts → Fine P (All (StandsBy P)) None (act table spills hidden lack x ts)
act-fine P table spills hidden lack (Name n m) ts p h = name-fine P spills n m (look table n) (member n hidden) lack ts p h
act-fine P table spills hidden lack (Painted n m) ts p h = p
act-fine P table spills hidden lack (Open m) ts p h = p
act-fine P table spills hidden lack (Close m) ts p h = p
act-fine P table spills hidden lack (Comma m) ts p h = p
act-fine P table spills hidden lack (Other k n m) ts p h = p

along-text : (P : Place → Type 0) (s : Setting) (deeper : Option Place → ℕ → Bool → List Lexeme → ℕ → Outcome (List Lexeme)) (hidden : List ℕ)
    → ((p : Place) (n : ℕ) (spills : Bool) (made : List Lexeme) (c : ℕ) → P p → PlacedIf P (deeper (Some p) n spills made c))
    → (turns : ℕ) (spills : Bool) (ts : List Lexeme) (c : ℕ) → All (StandsBy P) ts → PlacedIf P (along s deeper hidden turns None spills ts c)
unfolding along
along-text P s deeper hidden d turns spills [] c h = All-nil (StandsBy P)
along-text P s deeper hidden d zero spills (x ∷ xs) c h = All-nil (StandsBy P)
along-text P s deeper hidden d (suc turns) spills (x ∷ xs) c h =
    let p : P (mark_of x).place = All-head (StandsBy P) x xs h in
    let behind : All (StandsBy P) xs = All-tail (StandsBy P) x xs h in
    follow-placed P (All (StandsBy P)) s None (mark_of x).place (λ n rest made c1. deeper (Some (mark_of x).place) n (next_in spills rest) made c1)
    (along s deeper hidden turns (Some (mark_of x).place) false) (along s deeper hidden turns None spills)
    xs c (act s.table spills hidden (unclosed None) x xs) p (λ n rest made c1. d (mark_of x).place n (next_in spills rest) made c1 p)
    (λ ts c1. along-inside P s deeper hidden (mark_of x).place p (λ n more made c2. d (mark_of x).place n more made c2 p) turns false ts c1)
    (λ ts c1 q. along-text P s deeper hidden d turns spills ts c1 q) behind (act-fine P s.table spills hidden (unclosed None) x xs p behind)

pub expansion-placed : (P : Place → Type 0) (s : Setting) (ts : List Lexeme) (c : ℕ) → All (StandsBy P) ts → PlacedIf P (expansion s ts c)
unfolding repl within
expansion-placed P s ts c h =
    along-text P s (λ outer n more made c1. within s (length s.table) (n ∷ []) outer more made c1) [] (λ p n more made c1 q. within-inside P s (length s.table) (n ∷ []) p more made c1 q) (length ts) false ts c h

answer-placed : (P : Place → Type 0) (o : Outcome (List Lexeme)) (r : Result Expansion Failure) → PlacedIf P o → Expands o r → IfPlaced P r
answer-placed P o (Ok e) h k = subst (PlacedIf P) k h
answer-placed P o (Err (Refused r)) h k = subst (PlacedIf P) k h
answer-placed P o (Err Memory) h k = tt

pub list-placed : (P : Place → Type 0) (s : Setting) (ts : List Lexeme) (c : ℕ) (r : Result Expansion Failure) → Expands (expansion s ts c) r → All (StandsBy P) ts → IfPlaced P r
list-placed P s ts c r k h = answer-placed P (expansion s ts c) r (expansion-placed P s ts c h) k
