-- What the definition still has to give, by what is under way and what is still to be read.
use Rattle.std.proofs.Common.{◌≡◌, ℕ, zero, suc, Bool, false, List, [], ◌∷◌, ◌++◌, Option, Some, None, refl, sym, ◌∙◌, ap, subst}
use Rattle.std.proofs.lemmas.List.{append_assoc}
use Rattle.cc_base.specs.declared.diagnostics.Place.{Place}
use Rattle.c_preproc_macros.specs.declared.lexeme.Lexeme.{Lexeme}
use Rattle.c_preproc_macros.specs.declared.lexeme.Lexeme.TheVariants.{Open, Close, Comma}
use Rattle.c_preproc_macros.specs.declared.pending_list.Item.{Item}
use Rattle.c_preproc_macros.specs.declared.pending_list.Item.TheVariants.{Unread, Leave}
use Rattle.c_preproc_macros.specs.declared.trouble.Trouble.{Trouble}
use Rattle.c_preproc_macros.specs.Lexemes.{mark_of, place_by, moved}
use Rattle.c_preproc_macros.specs.Expanding.{Rule, Setting, Outcome, bind, Split, with_first, next_argument, arguments, look, put, unclosed, act, next_in, each, counted, follow, repl}
use Rattle.c_preproc_macros.specs.Expanding.Outcome.{done, refused}
use Rattle.c_preproc_macros.specs.Expanding.Action.{keep, replace, stop}
use Rattle.c_preproc_macros.specs.Pending.{current, beyond, next_open}
use Rattle.c_preproc_macros.specs.Machine.{Frame, at_of}
use Rattle.c_preproc_macros.specs.Machine.Frame.{inside, calling}
use Rattle.c_preproc_macros.proofs.Laws.{bind-same, bind-both, bind-bind, repl-cons}

-- the names that are not replaced
abbrev pub hidden : List Frame → List ℕ
hidden [] = []
hidden (inside n ∷ frames) = n ∷ hidden frames
hidden (calling n d outer finished ∷ frames) = hidden frames

abbrev pub left_behind : List Item → List Item
left_behind [] = []
left_behind (Unread x commas ∷ items) = []
left_behind (Leave ∷ items) = items

abbrev pub IsLeave : List Item → Type 0
IsLeave [] = ⊥
IsLeave (Unread x commas ∷ items) = ⊥
IsLeave (Leave ∷ items) = Unit {0}

abbrev pub HoldsOf : Option Split → (Split → Type 0) → Type 0
HoldsOf None P = ⊥
HoldsOf (Some q) P = P q

-- each call that is open is closed in its list, and each replaced list has an end
abbrev pub Closed : List Frame → List Lexeme → List Item → Type 0
Closed [] now tail = tail ≡ []
Closed (inside n ∷ frames) now tail = IsLeave tail × Closed frames (current (left_behind tail)) (beyond (left_behind tail))
Closed (calling n d outer finished ∷ frames) now tail = HoldsOf (arguments d now) (λ q. Closed frames q.rest tail)

-- a macro's list with these arguments, and what comes behind it
abbrev pub finish : Setting → Place → List ℕ → ℕ → Rule → Bool → (List Lexeme → ℕ → Outcome (List Lexeme)) → List (List Lexeme) → ℕ → Outcome (List Lexeme)
finish s place names n r spills behind lists c = bind (counted s.limit place c (put lists r.body)) (λ made c1. bind (repl s (n ∷ names) (Some place) spills made c1) behind)

abbrev pub finish_if : Option Rule → Setting → Place → List ℕ → ℕ → Bool → (List Lexeme → ℕ → Outcome (List Lexeme)) → List (List Lexeme) → ℕ → Outcome (List Lexeme)
finish_if None s place names n spills behind lists c = behind [] c
finish_if (Some r) s place names n spills behind lists c = finish s place names n r spills behind lists c

abbrev pub on_split : Option Split → (Split → Outcome (List Lexeme)) → Outcome (List Lexeme)
on_split None k = done [] 0
on_split (Some q) k = k q

unfoldable pub final : Setting → Place → List Frame → List Lexeme → List Item → List Lexeme → ℕ → Outcome (List Lexeme)
final s p [] now tail out c = bind (repl s [] None false now c) (λ ys c1. done (out ++ ys) c1)
final s p (inside n ∷ frames) now tail out c =
    bind (repl s (n ∷ hidden frames) (Some p) (next_open tail) now c) (λ ys c1. final s p frames (current (left_behind tail)) (beyond (left_behind tail)) (out ++ ys) c1)
final s p (calling n d outer finished ∷ frames) now tail out c =
    on_split (arguments d now) (λ q.
    bind (repl s (hidden frames) (Some p) false q.first c) (λ ys c1. bind (each (repl s (hidden frames) (Some p) false) q.others c1) (λ lists c2.
    finish_if (look s.table n) s p (hidden frames) n (next_in (next_open tail) q.rest) (λ zs c3. final s p frames q.rest tail (outer ++ zs) c3) (finished ++ (out ++ ys) ∷ lists) c2)))

-- the place is of no account where nothing is under way
pub final-place : (s : Setting) (p own : Place) (frames : List Frame) (now : List Lexeme) (tail : List Item) (out : List Lexeme) (c : ℕ) → final s (place_by (at_of frames p) own) frames now tail out c ≡ final s p frames now tail out c
unfolding final
final-place s p own [] now tail out c = refl
final-place s p own (f ∷ frames) now tail out c = refl

-- a list that is read, from `before` on to `after`, while `now` goes on to `now1`
pub record Turn (s : Setting) (frames frames1 : List Frame) (p : Place) (now now1 : List Lexeme) (tail : List Item) (before after : List Lexeme) : Type 0 where
  pub spills : Bool
  pub behind : List Lexeme → ℕ → Outcome (List Lexeme)
  pub enters : (out : List Lexeme) (c : ℕ) → final s p frames now tail out c ≡ bind (repl s (hidden frames) (at_of frames p) spills before c) (λ ys c1. behind (out ++ ys) c1)
  pub leaves : (out : List Lexeme) (c : ℕ) → final s p frames1 now1 tail out c ≡ bind (repl s (hidden frames) (at_of frames p) spills after c) (λ ys c1. behind (out ++ ys) c1)
  pub nexts : next_in (next_open tail) now1 ≡ next_in spills after
  pub closed : Closed frames1 now1 tail

pub text_turn : (s : Setting) (p : Place) (now now1 : List Lexeme) (tail : List Item) → tail ≡ [] → Turn s [] [] p now now1 tail now now1
unfolding final
text_turn s p now now1 tail e = record {
  spills = false;
  behind = λ ys c. done ys c;
  enters = λ out c. refl;
  leaves = λ out c. refl;
  nexts = ap (λ t. next_in (next_open t) now1) e;
  closed = e;
}

pub inside_turn : (s : Setting) (n : ℕ) (frames : List Frame) (p : Place) (now now1 : List Lexeme) (tail : List Item) → Closed (inside n ∷ frames) now tail → Turn s (inside n ∷ frames) (inside n ∷ frames) p now now1 tail now now1
unfolding final
inside_turn s n frames p now now1 tail h = record {
  spills = next_open tail;
  behind = λ ys c. final s p frames (current (left_behind tail)) (beyond (left_behind tail)) ys c;
  enters = λ out c. refl;
  leaves = λ out c. refl;
  nexts = refl;
  closed = h;
}

-- where an argument is read, the next token is no later than its end
abbrev NextIf : Bool → List Lexeme → Option Split → Type 0
NextIf b now None = Unit {0}
NextIf b now (Some q) = next_in b now ≡ next_in false q.first

next-head : (a b : Bool) (x : Lexeme) (ts us : List Lexeme) → next_in a (x ∷ ts) ≡ next_in b (x ∷ us)
next-head a b (Open m) ts us = refl
next-head a b x ts us = refl

next-first : (b : Bool) (x : Lexeme) (ts : List Lexeme) (o : Option Split) → NextIf b (x ∷ ts) (with_first x o)
next-first b x ts None = tt
next-first b x ts (Some q) = next-head b false x ts q.first

next-comma : (b : Bool) (x : Lexeme) (ts : List Lexeme) → next_in b (x ∷ ts) ≡ false → (o : Option Split) → NextIf b (x ∷ ts) (next_argument o)
next-comma b x ts e None = tt
next-comma b x ts e (Some q) = e

next-arguments : (b : Bool) (d : ℕ) (ts : List Lexeme) → NextIf b ts (arguments d ts)
next-arguments b d [] = tt
next-arguments b d (Open m ∷ ts) = next-first b (Open m) ts (arguments (suc d) ts)
next-arguments b zero (Close m ∷ ts) = refl
next-arguments b (suc d) (Close m ∷ ts) = next-first b (Close m) ts (arguments d ts)
next-arguments b zero (Comma m ∷ ts) = next-comma b (Comma m) ts refl (arguments zero ts)
next-arguments b (suc d) (Comma m ∷ ts) = next-first b (Comma m) ts (arguments (suc d) ts)
next-arguments b d (x ∷ ts) = next-first b x ts (arguments d ts)

-- what is behind an argument that is read
abbrev argument_behind : Setting → Place → List Frame → ℕ → List Lexeme → List (List Lexeme) → Split → List Item → List Lexeme → ℕ → Outcome (List Lexeme)
argument_behind s p frames n outer finished q tail ys c =
    bind (each (repl s (hidden frames) (Some p) false) q.others c) (λ lists c2.
    finish_if (look s.table n) s p (hidden frames) n (next_in (next_open tail) q.rest) (λ zs c3. final s p frames q.rest tail (outer ++ zs) c3) (finished ++ ys ∷ lists) c2)

pub calling_turn : (s : Setting) (n d d1 : ℕ) (outer : List Lexeme) (finished : List (List Lexeme)) (frames : List Frame) (p : Place) (now now1 : List Lexeme) (tail : List Item) (before : List Lexeme) (q : Split)
    → arguments d now ≡ Some (record { first = before; others = q.others; rest = q.rest }) → arguments d1 now1 ≡ Some q → Closed frames q.rest tail
    → Turn s (calling n d outer finished ∷ frames) (calling n d1 outer finished ∷ frames) p now now1 tail before q.first
unfolding final
calling_turn s n d d1 outer finished frames p now now1 tail before q e e1 h = record {
  spills = false;
  behind = argument_behind s p frames n outer finished q tail;
  enters = λ out c. ap (λ o. on_split o (λ r. bind (repl s (hidden frames) (Some p) false r.first c) (λ ys c1. argument_behind s p frames n outer finished r tail (out ++ ys) c1))) e;
  leaves = λ out c. ap (λ o. on_split o (λ r. bind (repl s (hidden frames) (Some p) false r.first c) (λ ys c1. argument_behind s p frames n outer finished r tail (out ++ ys) c1))) e1;
  nexts = let next : NextIf (next_open tail) now1 (Some q) = subst (NextIf (next_open tail) now1) e1 (next-arguments (next_open tail) d1 now1) in next;
  closed = subst (λ o. HoldsOf o (λ r. Closed frames r.rest tail)) (sym e1) h;
}

-- a token is read
pub record Step (s : Setting) (frames frames1 : List Frame) (p : Place) (x : Lexeme) (now1 : List Lexeme) (tail : List Item) : Type 0 where
  pub after : List Lexeme
  pub turn : Turn s frames frames1 p (x ∷ now1) now1 tail (x ∷ after) after

pub text_step : (s : Setting) (p : Place) (x : Lexeme) (now1 : List Lexeme) (tail : List Item) → Closed [] (x ∷ now1) tail → Step s [] [] p x now1 tail
text_step s p x now1 tail h = record { after = now1; turn = text_turn s p (x ∷ now1) now1 tail h }

pub inside_step : (s : Setting) (n : ℕ) (frames : List Frame) (p : Place) (x : Lexeme) (now1 : List Lexeme) (tail : List Item) → Closed (inside n ∷ frames) (x ∷ now1) tail → Step s (inside n ∷ frames) (inside n ∷ frames) p x now1 tail
inside_step s n frames p x now1 tail h = record { after = now1; turn = inside_turn s n frames p (x ∷ now1) now1 tail h }

calling_with : (s : Setting) (n d d1 : ℕ) (outer : List Lexeme) (finished : List (List Lexeme)) (frames : List Frame) (p : Place) (x : Lexeme) (now1 : List Lexeme) (tail : List Item)
    → arguments d (x ∷ now1) ≡ with_first x (arguments d1 now1) → (o : Option Split) → arguments d1 now1 ≡ o → HoldsOf (with_first x o) (λ q. Closed frames q.rest tail)
    → Step s (calling n d outer finished ∷ frames) (calling n d1 outer finished ∷ frames) p x now1 tail
calling_with s n d d1 outer finished frames p x now1 tail step None e h = absurd h
calling_with s n d d1 outer finished frames p x now1 tail step (Some q) e h =
    record { after = q.first; turn = calling_turn s n d d1 outer finished frames p (x ∷ now1) now1 tail (x ∷ q.first) q (step ∙ ap (with_first x) e) e h }

pub calling_step : (s : Setting) (n d d1 : ℕ) (outer : List Lexeme) (finished : List (List Lexeme)) (frames : List Frame) (p : Place) (x : Lexeme) (now1 : List Lexeme) (tail : List Item)
    → arguments d (x ∷ now1) ≡ with_first x (arguments d1 now1) → Closed (calling n d outer finished ∷ frames) (x ∷ now1) tail
    → Step s (calling n d outer finished ∷ frames) (calling n d1 outer finished ∷ frames) p x now1 tail
calling_step s n d d1 outer finished frames p x now1 tail step h =
    calling_with s n d d1 outer finished frames p x now1 tail step (arguments d1 now1) refl (subst (λ o. HoldsOf o (λ q. Closed frames q.rest tail)) step h)

-- a token that is no parenthesis and no comma
pub plain_step : (s : Setting) (frames : List Frame) (p : Place) (x : Lexeme) (now1 : List Lexeme) (tail : List Item) → ((d : ℕ) (l : List Lexeme) → arguments d (x ∷ l) ≡ with_first x (arguments d l)) → Closed frames (x ∷ now1) tail → Step s frames frames p x now1 tail
plain_step s [] p x now1 tail step h = text_step s p x now1 tail h
plain_step s (inside n ∷ frames) p x now1 tail step h = inside_step s n frames p x now1 tail h
plain_step s (calling n d outer finished ∷ frames) p x now1 tail step h = calling_step s n d d outer finished frames p x now1 tail (step d now1) h

-- what a token that stays gives
pub keeps : (s : Setting) (frames frames1 : List Frame) (p : Place) (x : Lexeme) (y : Lexeme) (now now1 : List Lexeme) (tail : List Item) (after : List Lexeme) (t : Turn s frames frames1 p now now1 tail (x ∷ after) after) (out : List Lexeme) (c : ℕ)
    → act s.table t.spills (hidden frames) (unclosed (at_of frames p)) x after ≡ keep y
    → final s p frames now tail out c ≡ final s p frames1 now1 tail (out ++ moved (at_of frames p) y ∷ []) c
keeps s frames frames1 p x y now now1 tail after t out c e =
    let at : Option Place = at_of frames p in
    let names : List ℕ = hidden frames in
    let place : Place = place_by at (mark_of x).place in
    let deep : ℕ → List Lexeme → List Lexeme → ℕ → Outcome (List Lexeme) = λ n rest made c1. repl s (n ∷ names) (Some place) (next_in t.spills rest) made c1 in
    let went : repl s names at t.spills (x ∷ after) c ≡ bind (repl s names at t.spills after c) (λ ys c1. done (moved at y ∷ ys) c1) =
    repl-cons s names at t.spills x after c ∙ ap (λ a. follow s at place deep (repl s names (Some place) false) (repl s names at t.spills) after c a) e in
    t.enters out c ∙ ap (λ o. bind o (λ ys c1. t.behind (out ++ ys) c1)) went
    ∙ bind-bind (repl s names at t.spills after c) (λ ys c1. done (moved at y ∷ ys) c1) (λ ys c1. t.behind (out ++ ys) c1)
    ∙ bind-same (repl s names at t.spills after c) (λ ys c1. t.behind (out ++ moved at y ∷ ys) c1) (λ ys c1. t.behind ((out ++ moved at y ∷ []) ++ ys) c1)
    (λ ys c1. ap (λ zs. t.behind zs c1) (sym (append_assoc out (moved at y ∷ []) ys)))
    ∙ sym (t.leaves (out ++ moved at y ∷ []) c)

pub stops : (s : Setting) (frames frames1 : List Frame) (p : Place) (x : Lexeme) (why : Trouble) (now now1 : List Lexeme) (tail : List Item) (before after : List Lexeme) (t : Turn s frames frames1 p now now1 tail (x ∷ before) after) (out : List Lexeme) (c : ℕ)
    → act s.table t.spills (hidden frames) (unclosed (at_of frames p)) x before ≡ stop why
    → final s p frames now tail out c ≡ refused why (place_by (at_of frames p) (mark_of x).place)
stops s frames frames1 p x why now now1 tail before after t out c e =
    let at : Option Place = at_of frames p in
    let names : List ℕ = hidden frames in
    let place : Place = place_by at (mark_of x).place in
    let deep : ℕ → List Lexeme → List Lexeme → ℕ → Outcome (List Lexeme) = λ n rest made c1. repl s (n ∷ names) (Some place) (next_in t.spills rest) made c1 in
    t.enters out c ∙ ap (λ o. bind o (λ ys c1. t.behind (out ++ ys) c1))
    (repl-cons s names at t.spills x before c ∙ ap (λ a. follow s at place deep (repl s names (Some place) false) (repl s names at t.spills) before c a) e)

pub replaces : (s : Setting) (frames frames1 : List Frame) (p : Place) (x : Lexeme) (n : ℕ) (r : Rule) (args : List (List Lexeme)) (now now1 : List Lexeme) (tail : List Item) (before after : List Lexeme) (t : Turn s frames frames1 p now now1 tail (x ∷ before) after) (out : List Lexeme) (c : ℕ)
    → act s.table t.spills (hidden frames) (unclosed (at_of frames p)) x before ≡ replace n r args after
    → final s p frames now tail out c ≡ bind (each (repl s (hidden frames) (Some (place_by (at_of frames p) (mark_of x).place)) false) args c)
    (finish s (place_by (at_of frames p) (mark_of x).place) (hidden frames) n r (next_in (next_open tail) now1) (λ ys c1. final s p frames1 now1 tail (out ++ ys) c1))
replaces s frames frames1 p x n r args now now1 tail before after t out c e =
    let at : Option Place = at_of frames p in
    let names : List ℕ = hidden frames in
    let place : Place = place_by at (mark_of x).place in
    let deep : ℕ → List Lexeme → List Lexeme → ℕ → Outcome (List Lexeme) = λ n rest made c1. repl s (n ∷ names) (Some place) (next_in t.spills rest) made c1 in
    let go : List Lexeme → ℕ → Outcome (List Lexeme) = repl s names at t.spills in
    let argument : List Lexeme → ℕ → Outcome (List Lexeme) = repl s names (Some place) false in
    let rests : List Lexeme → ℕ → Outcome (List Lexeme) = λ ys c3. bind (go after c3) (λ zs c4. done (ys ++ zs) c4) in
    let last : List Lexeme → ℕ → Outcome (List Lexeme) = λ ys c1. t.behind (out ++ ys) c1 in
    let makes : List (List Lexeme) → ℕ → Outcome (List Lexeme) = λ lists c1. bind (counted s.limit place c1 (put lists r.body)) (λ made c2. bind (deep n after made c2) rests) in
    let ends : List Lexeme → ℕ → Outcome (List Lexeme) = λ ys c1. final s p frames1 now1 tail (out ++ ys) c1 in
    t.enters out c
    ∙ ap (λ o. bind o last) (repl-cons s names at t.spills x before c ∙ ap (λ a. follow s at place deep argument go before c a) e)
    ∙ bind-bind (each argument args c) makes last
    ∙ bind-same (each argument args c) (λ lists c1. bind (makes lists c1) last) (finish s place names n r (next_in (next_open tail) now1) ends)
    (λ lists c1.
    bind-bind (counted s.limit place c1 (put lists r.body)) (λ made c2. bind (deep n after made c2) rests) last
    ∙ bind-same (counted s.limit place c1 (put lists r.body)) (λ made c2. bind (bind (deep n after made c2) rests) last) (λ made c2. bind (repl s (n ∷ names) (Some place) (next_in (next_open tail) now1) made c2) ends)
    (λ made c2.
    bind-bind (deep n after made c2) rests last
    ∙ bind-both (deep n after made c2) (repl s (n ∷ names) (Some place) (next_in (next_open tail) now1) made c2) (λ ys c3. bind (rests ys c3) last) ends
    (ap (λ b. repl s (n ∷ names) (Some place) b made c2) (sym t.nexts))
    (λ ys c3.
    bind-bind (go after c3) (λ zs c4. done (ys ++ zs) c4) last
    ∙ bind-same (go after c3) (λ zs c4. t.behind (out ++ (ys ++ zs)) c4) (λ zs c4. t.behind ((out ++ ys) ++ zs) c4) (λ zs c4. ap (λ l. t.behind l c4) (sym (append_assoc out ys zs)))
    ∙ sym (t.leaves (out ++ ys) c3))))
