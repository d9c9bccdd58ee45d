-- Each turn of the machine keeps what the definition still has to give.
use Rattle.std.proofs.Common.{◌≡◌, ℕ, zero, suc, ◌+◌, nat_le, Bool, true, false, cond, List, [], ◌∷◌, ◌++◌, length, Option, Some, None, refl, sym, ◌∙◌, ap, subst}
use Rattle.std.proofs.lemmas.List.{append_assoc, append-nil}
use Rattle.cc_base.specs.declared.diagnostics.Place.{Place}
use Rattle.c_preproc_macros.specs.declared.lexeme.Mark.{Mark}
use Rattle.c_preproc_macros.specs.declared.lexeme.Lexeme.{Lexeme}
use Rattle.c_preproc_macros.specs.declared.lexeme.Lexeme.TheVariants.{Open, Close, Comma}
use Rattle.c_preproc_macros.specs.declared.pending_list.Item.{Item}
use Rattle.c_preproc_macros.specs.declared.pending_list.Item.TheVariants.{Leave}
use Rattle.c_preproc_macros.specs.declared.trouble.Trouble.TheVariants.{TooMany}
use Rattle.c_preproc_macros.specs.Lexemes.{moved}
use Rattle.c_preproc_macros.specs.Expanding.{Rule, Setting, Outcome, bind, Split, with_first, next_argument, arguments, look, put, unclosed, act, next_in, each, repl}
use Rattle.c_preproc_macros.specs.Expanding.Outcome.{done, refused}
use Rattle.c_preproc_macros.specs.Expanding.Action.{keep}
use Rattle.c_preproc_macros.specs.Pending.{current, beyond, next_open, pushed}
use Rattle.c_preproc_macros.specs.Machine.{Frame, State, Next, at_of, kept, deepened, comma_in, call_ended, close_in}
use Rattle.c_preproc_macros.specs.Machine.Frame.{inside, calling}
use Rattle.c_preproc_macros.specs.Machine.Next.{more, ended}
use Rattle.c_preproc_macros.proofs.Laws.{bind-same, bind-both, bind-bind, repl-nil}
use Rattle.c_preproc_macros.proofs.Items.{current-pushed, beyond-pushed, next_open-next_in, Noted, noted-pushed}
use Rattle.c_preproc_macros.proofs.Final.{hidden, left_behind, IsLeave, HoldsOf, Closed, finish_if, on_split, final, Step, text_step, inside_step, calling_step, plain_step, keeps}

-- what is still to come gives this outcome
pub record Stands (s : Setting) (st : State) (o : Outcome (List Lexeme)) : Type 0 where
  pub closed : Closed st.frames (current st.pending) (beyond st.pending)
  pub noted : Noted st.pending
  pub names : st.names ≡ hidden st.frames
  pub gives : final s st.place st.frames (current st.pending) (beyond st.pending) st.out st.used ≡ o

abbrev pub Keeps : Setting → Next → Outcome (List Lexeme) → Type 0
Keeps s (more st) o = Stands s st o
Keeps s (ended p) o = p ≡ o

-- the same, where a token was taken
pub record Reads (s : Setting) (x : Lexeme) (st : State) (o : Outcome (List Lexeme)) : Type 0 where
  pub closed : Closed st.frames (x ∷ current st.pending) (beyond st.pending)
  pub noted : Noted st.pending
  pub names : st.names ≡ hidden st.frames
  pub gives : final s st.place st.frames (x ∷ current st.pending) (beyond st.pending) st.out st.used ≡ o

-- a token that stays
pub kept-keeps : (s : Setting) (st : State) (frames1 : List Frame) (x y : Lexeme) (o : Outcome (List Lexeme)) → Reads s x st o → (p : Step s st.frames frames1 st.place x (current st.pending) (beyond st.pending))
    → act s.table p.turn.spills (hidden st.frames) (unclosed (at_of st.frames st.place)) x p.after ≡ keep y
    → hidden frames1 ≡ hidden st.frames → at_of frames1 st.place ≡ at_of st.frames st.place → Keeps s (kept y (record st { frames = frames1 })) o
kept-keeps s st frames1 x y o r p e same_names same_at = record {
  closed = p.turn.closed;
  noted = r.noted;
  names = r.names ∙ sym same_names;
  gives =
      ap (λ a. final s st.place frames1 (current st.pending) (beyond st.pending) (st.out ++ moved a y ∷ []) st.used) same_at
      ∙ sym (keeps s st.frames frames1 st.place x y (x ∷ current st.pending) (current st.pending) (beyond st.pending) p.after p.turn st.out st.used e)
      ∙ r.gives;
}

-- a token that is no parenthesis and no comma, and stays
pub plain-keeps : (s : Setting) (st : State) (x y : Lexeme) (o : Outcome (List Lexeme)) → Reads s x st o → ((d : ℕ) (l : List Lexeme) → arguments d (x ∷ l) ≡ with_first x (arguments d l))
    → ((spills : Bool) (after : List Lexeme) → next_in (next_open (beyond st.pending)) (current st.pending) ≡ next_in spills after → act s.table spills (hidden st.frames) (unclosed (at_of st.frames st.place)) x after ≡ keep y)
    → Keeps s (kept y st) o
plain-keeps s st x y o r step e =
    let p : Step s st.frames st.frames st.place x (current st.pending) (beyond st.pending) = plain_step s st.frames st.place x (current st.pending) (beyond st.pending) step r.closed in
    kept-keeps s st st.frames x y o r p (e p.turn.spills p.after p.turn.nexts) refl refl

pub open_step : (s : Setting) (frames : List Frame) (p : Place) (m : Mark) (now1 : List Lexeme) (tail : List Item) → Closed frames (Open m ∷ now1) tail → Step s frames (deepened frames) p (Open m) now1 tail
open_step s [] p m now1 tail h = text_step s p (Open m) now1 tail h
open_step s (inside n ∷ frames) p m now1 tail h = inside_step s n frames p (Open m) now1 tail h
open_step s (calling n d outer finished ∷ frames) p m now1 tail h = calling_step s n d (suc d) outer finished frames p (Open m) now1 tail refl h

pub hidden-deepened : (frames : List Frame) → hidden (deepened frames) ≡ hidden frames
hidden-deepened [] = refl
hidden-deepened (inside n ∷ frames) = refl
hidden-deepened (calling n d outer finished ∷ frames) = refl

pub at_of-deepened : (frames : List Frame) (p : Place) → at_of (deepened frames) p ≡ at_of frames p
at_of-deepened [] p = refl
at_of-deepened (inside n ∷ frames) p = refl
at_of-deepened (calling n d outer finished ∷ frames) p = refl

-- the list of a macro in front of the rest
pub made-keeps : (s : Setting) (n : ℕ) (made : List Lexeme) (frames : List Frame) (names : List ℕ) (items : List Item) (p q : Place) (out : List Lexeme) (c : ℕ) (o : Outcome (List Lexeme))
    → Closed frames (current items) (beyond items) → Noted items → names ≡ hidden frames
    → ((ys : List Lexeme) (c1 : ℕ) → final s q frames (current items) (beyond items) ys c1 ≡ final s p frames (current items) (beyond items) ys c1)
    → (b : Bool)
    → bind (cond b (done made (c + length made)) (refused (TooMany (c + length made)) q))
    (λ made c1. bind (repl s (n ∷ hidden frames) (Some q) (next_in (next_open (beyond items)) (current items)) made c1) (λ ys c2. final s p frames (current items) (beyond items) (out ++ ys) c2)) ≡ o
    → Keeps s (cond b (more (record { frames = inside n ∷ frames; names = n ∷ names; pending = pushed made (Leave ∷ items); place = q; out = out; used = c + length made })) (ended (refused (TooMany (c + length made)) q))) o
unfolding final
made-keeps s n made frames names items p q out c o closed noted same place true e = record {
  closed = subst (λ t. IsLeave t × Closed frames (current (left_behind t)) (beyond (left_behind t))) (sym (beyond-pushed made (Leave ∷ items))) (tt, closed);
  noted = noted-pushed made (Leave ∷ items) refl noted;
  names = ap (λ l. n ∷ l) same;
  gives =
      ap (λ l. final s q (inside n ∷ frames) l (beyond (pushed made (Leave ∷ items))) out (c + length made)) (current-pushed made (Leave ∷ items) refl)
      ∙ ap (λ t. final s q (inside n ∷ frames) made t out (c + length made)) (beyond-pushed made (Leave ∷ items))
      ∙ bind-both (repl s (n ∷ hidden frames) (Some q) (next_open items) made (c + length made))
      (repl s (n ∷ hidden frames) (Some q) (next_in (next_open (beyond items)) (current items)) made (c + length made))
      (λ ys c1. final s q frames (current items) (beyond items) (out ++ ys) c1) (λ ys c1. final s p frames (current items) (beyond items) (out ++ ys) c1)
      (ap (λ b. repl s (n ∷ hidden frames) (Some q) b made (c + length made)) (next_open-next_in items))
      (λ ys c1. place (out ++ ys) c1)
      ∙ e;
}
made-keeps s n made frames names items p q out c o closed noted same place false e = e

-- a call that is read to its end
ended-keeps : (s : Setting) (n : ℕ) (lists : List (List Lexeme)) (frames : List Frame) (names : List ℕ) (items : List Item) (p : Place) (out : List Lexeme) (c : ℕ) (o : Outcome (List Lexeme))
    → Closed frames (current items) (beyond items) → Noted items → names ≡ hidden frames → (rule : Option Rule)
    → finish_if rule s p (hidden frames) n (next_in (next_open (beyond items)) (current items)) (λ zs c1. final s p frames (current items) (beyond items) (out ++ zs) c1) lists c ≡ o
    → Keeps s (call_ended s rule n lists (record { frames = frames; names = names; pending = items; place = p; out = out; used = c })) o
ended-keeps s n lists frames names items p out c o closed noted same None e = record {
  closed = closed;
  noted = noted;
  names = same;
  gives = ap (λ l. final s p frames (current items) (beyond items) l c) (sym (append-nil out)) ∙ e;
}
ended-keeps s n lists frames names items p out c o closed noted same (Some r) e =
    made-keeps s n (put lists r.body) frames names items p p out c o closed noted same (λ ys c1. refl) (nat_le (c + length (put lists r.body)) s.limit) e

pub close-keeps : (s : Setting) (m : Mark) (frames : List Frame) (names : List ℕ) (items : List Item) (p : Place) (out : List Lexeme) (c : ℕ) (o : Outcome (List Lexeme))
    → Reads s (Close m) (record { frames = frames; names = names; pending = items; place = p; out = out; used = c }) o
    → Keeps s (close_in s frames (Close m) (record { frames = frames; names = names; pending = items; place = p; out = out; used = c })) o
unfolding final
close-keeps s m [] names items p out c o r =
    kept-keeps s (record { frames = []; names = names; pending = items; place = p; out = out; used = c }) [] (Close m) (Close m) o r (text_step s p (Close m) (current items) (beyond items) r.closed) refl refl refl
close-keeps s m (inside n ∷ frames) names items p out c o r =
    kept-keeps s (record { frames = inside n ∷ frames; names = names; pending = items; place = p; out = out; used = c }) (inside n ∷ frames) (Close m) (Close m) o r
    (inside_step s n frames p (Close m) (current items) (beyond items) r.closed) refl refl refl
close-keeps s m (calling n zero outer finished ∷ frames) names items p out c o r =
    ended-keeps s n (finished ++ out ∷ []) frames names items p outer c o r.closed r.noted r.names (look s.table n)
    (ap (λ l. finish_if (look s.table n) s p (hidden frames) n (next_in (next_open (beyond items)) (current items)) (λ zs c1. final s p frames (current items) (beyond items) (outer ++ zs) c1) (finished ++ l ∷ []) c) (sym (append-nil out))
    ∙ ap (λ v. bind v (λ ys c1. finish_if (look s.table n) s p (hidden frames) n (next_in (next_open (beyond items)) (current items)) (λ zs c3. final s p frames (current items) (beyond items) (outer ++ zs) c3) (finished ++ (out ++ ys) ∷ []) c1))
    (sym (repl-nil s (hidden frames) (Some p) false c))
    ∙ r.gives)
close-keeps s m (calling n (suc d) outer finished ∷ frames) names items p out c o r =
    kept-keeps s (record { frames = calling n (suc d) outer finished ∷ frames; names = names; pending = items; place = p; out = out; used = c }) (calling n d outer finished ∷ frames) (Close m) (Close m) o r
    (calling_step s n (suc d) d outer finished frames p (Close m) (current items) (beyond items) refl r.closed) refl refl refl

-- the comma that ends an argument
argument-keeps : (s : Setting) (n : ℕ) (outer : List Lexeme) (finished : List (List Lexeme)) (frames : List Frame) (names : List ℕ) (items : List Item) (p : Place) (out : List Lexeme) (c : ℕ) (o : Outcome (List Lexeme))
    → Noted items → names ≡ hidden frames → (split : Option Split) → arguments zero (current items) ≡ split → HoldsOf (next_argument split) (λ q. Closed frames q.rest (beyond items))
    → on_split (next_argument split) (λ q.
    bind (repl s (hidden frames) (Some p) false q.first c) (λ ys c1. bind (each (repl s (hidden frames) (Some p) false) q.others c1) (λ lists c2.
    finish_if (look s.table n) s p (hidden frames) n (next_in (next_open (beyond items)) q.rest) (λ zs c3. final s p frames q.rest (beyond items) (outer ++ zs) c3) (finished ++ (out ++ ys) ∷ lists) c2))) ≡ o
    → Stands s (record { frames = calling n zero outer (finished ++ out ∷ []) ∷ frames; names = names; pending = items; place = p; out = []; used = c }) o
unfolding final
argument-keeps s n outer finished frames names items p out c o noted same None e closed gives = absurd closed
argument-keeps s n outer finished frames names items p out c o noted same (Some q) e closed gives =
    let f : List Lexeme → ℕ → Outcome (List Lexeme) = repl s (hidden frames) (Some p) false in
    let done_with : List (List Lexeme) → ℕ → Outcome (List Lexeme) = λ lists c2. finish_if (look s.table n) s p (hidden frames) n (next_in (next_open (beyond items)) q.rest) (λ zs c3. final s p frames q.rest (beyond items) (outer ++ zs) c3) lists c2 in
    record {
      closed = subst (λ v. HoldsOf v (λ q. Closed frames q.rest (beyond items))) (sym e) closed;
      noted = noted;
      names = same;
      gives =
          ap (λ v. on_split v (λ q. bind (f q.first c) (λ ys c1. bind (each f q.others c1) (λ lists c2.
          finish_if (look s.table n) s p (hidden frames) n (next_in (next_open (beyond items)) q.rest) (λ zs c3. final s p frames q.rest (beyond items) (outer ++ zs) c3) ((finished ++ out ∷ []) ++ ys ∷ lists) c2)))) e
          ∙ bind-same (f q.first c) (λ ys c1. bind (each f q.others c1) (λ lists c2. done_with ((finished ++ out ∷ []) ++ ys ∷ lists) c2)) (λ ys c1. bind (each f q.others c1) (λ lists c2. done_with (finished ++ out ∷ ys ∷ lists) c2))
          (λ ys c1. bind-same (each f q.others c1) (λ lists c2. done_with ((finished ++ out ∷ []) ++ ys ∷ lists) c2) (λ lists c2. done_with (finished ++ out ∷ ys ∷ lists) c2)
          (λ lists c2. ap (λ l. done_with l c2) (append_assoc finished (out ∷ []) (ys ∷ lists))))
          ∙ sym (bind-bind (f q.first c) (λ ys c1. bind (each f q.others c1) (λ yss c2. done (ys ∷ yss) c2)) (λ lists c2. done_with (finished ++ out ∷ lists) c2)
          ∙ bind-same (f q.first c) (λ ys c1. bind (bind (each f q.others c1) (λ yss c2. done (ys ∷ yss) c2)) (λ lists c2. done_with (finished ++ out ∷ lists) c2)) (λ ys c1. bind (each f q.others c1) (λ lists c2. done_with (finished ++ out ∷ ys ∷ lists) c2))
          (λ ys c1. bind-bind (each f q.others c1) (λ yss c2. done (ys ∷ yss) c2) (λ lists c2. done_with (finished ++ out ∷ lists) c2)))
          ∙ ap (λ l. bind (each f (q.first ∷ q.others) c) (λ lists c2. done_with (finished ++ l ∷ lists) c2)) (sym (append-nil out))
          ∙ ap (λ v. bind v (λ ys c1. bind (each f (q.first ∷ q.others) c1) (λ lists c2. done_with (finished ++ (out ++ ys) ∷ lists) c2))) (sym (repl-nil s (hidden frames) (Some p) false c))
          ∙ gives;
    }

pub comma-keeps : (s : Setting) (m : Mark) (frames : List Frame) (names : List ℕ) (items : List Item) (p : Place) (out : List Lexeme) (c : ℕ) (o : Outcome (List Lexeme))
    → Reads s (Comma m) (record { frames = frames; names = names; pending = items; place = p; out = out; used = c }) o
    → Keeps s (comma_in frames (Comma m) (record { frames = frames; names = names; pending = items; place = p; out = out; used = c })) o
unfolding final
comma-keeps s m [] names items p out c o r =
    kept-keeps s (record { frames = []; names = names; pending = items; place = p; out = out; used = c }) [] (Comma m) (Comma m) o r (text_step s p (Comma m) (current items) (beyond items) r.closed) refl refl refl
comma-keeps s m (inside n ∷ frames) names items p out c o r =
    kept-keeps s (record { frames = inside n ∷ frames; names = names; pending = items; place = p; out = out; used = c }) (inside n ∷ frames) (Comma m) (Comma m) o r
    (inside_step s n frames p (Comma m) (current items) (beyond items) r.closed) refl refl refl
comma-keeps s m (calling n zero outer finished ∷ frames) names items p out c o r =
    argument-keeps s n outer finished frames names items p out c o r.noted r.names (arguments zero (current items)) refl r.closed r.gives
comma-keeps s m (calling n (suc d) outer finished ∷ frames) names items p out c o r =
    kept-keeps s (record { frames = calling n (suc d) outer finished ∷ frames; names = names; pending = items; place = p; out = out; used = c }) (calling n (suc d) outer finished ∷ frames) (Comma m) (Comma m) o r
    (calling_step s n (suc d) (suc d) outer finished frames p (Comma m) (current items) (beyond items) refl r.closed) refl refl refl
