-- The name of a macro keeps what the definition still has to give.
use Rattle.std.proofs.Common.{◌≡◌, ℕ, zero, suc, ◌+◌, nat_le, Bool, true, false, cond, List, [], ◌∷◌, ◌++◌, length, Option, Some, None, refl, sym, ◌∙◌, ap, subst}
use Rattle.cc_base.specs.declared.diagnostics.Place.{Place}
use Rattle.c_preproc_macros.specs.declared.lexeme.Mark.{Mark}
use Rattle.c_preproc_macros.specs.declared.lexeme.Lexeme.{Lexeme}
use Rattle.c_preproc_macros.specs.declared.lexeme.Lexeme.TheVariants.{Name, Painted, Open}
use Rattle.c_preproc_macros.specs.declared.pending_list.Item.{Item}
use Rattle.c_preproc_macros.specs.declared.pending_list.Item.TheVariants.{Unread, Leave}
use Rattle.c_preproc_macros.specs.declared.trouble.Trouble.{Trouble}
use Rattle.c_preproc_macros.specs.declared.trouble.Trouble.TheVariants.{Spill, Arguments}
use Rattle.c_preproc_macros.specs.Lexemes.{place_by}
use Rattle.c_preproc_macros.specs.Expanding.{Rule, Setting, Outcome, bind, Split, with_first, arguments, look, member, fits, put, unclosed, called, at_function, at_macro, at_name, act, next_in, each, counted, repl}
use Rattle.c_preproc_macros.specs.Expanding.Outcome.{done, refused}
use Rattle.c_preproc_macros.specs.Expanding.Action.{keep, replace, stop}
use Rattle.c_preproc_macros.specs.Pending.{current, beyond, next_open}
use Rattle.c_preproc_macros.specs.Machine.{Frame, at_of, kept, started, call_at, function_at, macro_at, name_at}
use Rattle.c_preproc_macros.specs.Machine.Frame.{inside, calling}
use Rattle.c_preproc_macros.specs.Machine.Next.{ended}
use Rattle.c_preproc_macros.proofs.Laws.{bind-same, bind-bind}
use Rattle.c_preproc_macros.proofs.Calls.{Local, call_within}
use Rattle.c_preproc_macros.proofs.Items.{commas_of, Noted, suits-fits}
use Rattle.c_preproc_macros.proofs.Final.{hidden, HoldsOf, Closed, finish, finish_if, on_split, final, final-place, Turn, text_turn, inside_turn, calling_turn, Step, plain_step, stops, replaces}
use Rattle.c_preproc_macros.proofs.Moves.{Keeps, Reads, plain-keeps, made-keeps}

-- a call, from the name on to what follows its closing parenthesis
record CallTurn (s : Setting) (frames : List Frame) (p : Place) (x y : Lexeme) (ts : List Lexeme) (a : Split) (tail : List Item) : Type 0 where
  inner : List Lexeme
  after : List Lexeme
  turn : Turn s frames frames p (x ∷ y ∷ ts) a.rest tail (x ∷ y ∷ inner) after
  split : arguments zero inner ≡ Some (record { first = a.first; others = a.others; rest = after })

call_in : (s : Setting) (n d : ℕ) (outer : List Lexeme) (finished : List (List Lexeme)) (frames : List Frame) (p : Place) (x y : Lexeme) (ts : List Lexeme) (a : Split) (tail : List Item)
    → arguments d (x ∷ y ∷ ts) ≡ with_first x (with_first y (arguments (suc d) ts)) → arguments zero ts ≡ Some a → (o : Option Split) → arguments (suc d) ts ≡ o → HoldsOf (with_first x (with_first y o)) (λ q. Closed frames q.rest tail)
    → CallTurn s (calling n d outer finished ∷ frames) p x y ts a tail
call_in s n d outer finished frames p x y ts a tail step e None h closed = absurd closed
call_in s n d outer finished frames p x y ts a tail step e (Some q) h closed =
    let l : Local d zero ts q = call_within d ts q h in
    let same : l.call ≡ a = let both : Some l.call ≡ Some a = sym l.inner ∙ e in cc in
    record {
      inner = q.first;
      after = l.behind.first;
      turn = calling_turn s n d d outer finished frames p (x ∷ y ∷ ts) a.rest tail (x ∷ y ∷ q.first) l.behind
          (step ∙ ap (λ o. with_first x (with_first y o)) h ∙ ap (λ o. Some (record { first = x ∷ y ∷ q.first; others = o; rest = q.rest })) l.others ∙ ap (λ r. Some (record { first = x ∷ y ∷ q.first; others = l.behind.others; rest = r })) l.rest)
          (ap (λ b. arguments d b.rest) (sym same) ∙ l.after)
          (subst (λ r. Closed frames r tail) l.rest closed);
      split = l.inside ∙ ap (λ b. Some (record { first = b.first; others = b.others; rest = l.behind.first })) same;
    }

call_turn : (s : Setting) (frames : List Frame) (p : Place) (n : ℕ) (m m1 : Mark) (ts : List Lexeme) (a : Split) (tail : List Item) → arguments zero ts ≡ Some a → Closed frames (Name n m ∷ Open m1 ∷ ts) tail → CallTurn s frames p (Name n m) (Open m1) ts a tail
call_turn s [] p n m m1 ts a tail e closed = record { inner = ts; after = a.rest; turn = text_turn s p (Name n m ∷ Open m1 ∷ ts) a.rest tail closed; split = e }
call_turn s (inside k ∷ frames) p n m m1 ts a tail e closed = record { inner = ts; after = a.rest; turn = inside_turn s k frames p (Name n m ∷ Open m1 ∷ ts) a.rest tail closed; split = e }
call_turn s (calling k d outer finished ∷ frames) p n m m1 ts a tail e closed =
    call_in s k d outer finished frames p (Name n m) (Open m1) ts a tail refl e (arguments (suc d) ts) refl closed

-- a call that is not closed
not_closed : (s : Setting) (frames : List Frame) (p : Place) (n : ℕ) (m m1 : Mark) (ts : List Lexeme) (tail : List Item) (why : Trouble) (out : List Lexeme) (c : ℕ) → arguments zero ts ≡ None → Closed frames (Name n m ∷ Open m1 ∷ ts) tail
    → ((spills : Bool) → act s.table spills (hidden frames) (unclosed (at_of frames p)) (Name n m) (Open m1 ∷ ts) ≡ stop why)
    → final s p frames (Name n m ∷ Open m1 ∷ ts) tail out c ≡ refused why (place_by (at_of frames p) m.place)
not_closed s [] p n m m1 ts tail why out c e closed acts =
    let t : Turn s [] [] p (Name n m ∷ Open m1 ∷ ts) [] tail (Name n m ∷ Open m1 ∷ ts) [] = text_turn s p (Name n m ∷ Open m1 ∷ ts) [] tail closed in
    stops s [] [] p (Name n m) why (Name n m ∷ Open m1 ∷ ts) [] tail (Open m1 ∷ ts) [] t out c (acts t.spills)
not_closed s (inside k ∷ frames) p n m m1 ts tail why out c e closed acts =
    let t : Turn s (inside k ∷ frames) (inside k ∷ frames) p (Name n m ∷ Open m1 ∷ ts) [] tail (Name n m ∷ Open m1 ∷ ts) [] = inside_turn s k frames p (Name n m ∷ Open m1 ∷ ts) [] tail closed in
    stops s (inside k ∷ frames) (inside k ∷ frames) p (Name n m) why (Name n m ∷ Open m1 ∷ ts) [] tail (Open m1 ∷ ts) [] t out c (acts t.spills)
not_closed s (calling k d outer finished ∷ frames) p n m m1 ts tail why out c e closed acts = never (arguments (suc d) ts) refl closed
  where
    never : (o : Option Split) → arguments (suc d) ts ≡ o → HoldsOf (with_first (Name n m) (with_first (Open m1) o)) (λ q. Closed frames q.rest tail)
        → final s p (calling k d outer finished ∷ frames) (Name n m ∷ Open m1 ∷ ts) tail out c ≡ refused why (place_by (at_of (calling k d outer finished ∷ frames) p) m.place)
    never None h closed = absurd closed
    never (Some q) h closed = let l : Local d zero ts q = call_within d ts q h in let both : Some l.call ≡ None = sym l.inner ∙ e in cc

finish-same : (s : Setting) (q : Place) (names : List ℕ) (n : ℕ) (r : Rule) (b : Bool) (f g : List Lexeme → ℕ → Outcome (List Lexeme)) → ((ys : List Lexeme) (c : ℕ) → f ys c ≡ g ys c) → (lists : List (List Lexeme)) (c : ℕ) → finish s q names n r b f lists c ≡ finish s q names n r b g lists c
finish-same s q names n r b f g h lists c =
    bind-same (counted s.limit q c (put lists r.body)) (λ made c1. bind (repl s (n ∷ names) (Some q) b made c1) f) (λ made c1. bind (repl s (n ∷ names) (Some q) b made c1) g)
    (λ made c1. bind-same (repl s (n ∷ names) (Some q) b made c1) f g h)

-- the first token of the arguments of a call
starts : (s : Setting) (p q : Place) (frames : List Frame) (n : ℕ) (r : Rule) (ts : List Lexeme) (a : Split) (tail : List Item) (out : List Lexeme) (c : ℕ) → arguments zero ts ≡ Some a → look s.table n ≡ Some r
    → ((ys : List Lexeme) (c1 : ℕ) → final s q frames a.rest tail ys c1 ≡ final s p frames a.rest tail ys c1)
    → final s q (calling n zero out [] ∷ frames) ts tail [] c
    ≡ bind (each (repl s (hidden frames) (Some q) false) (a.first ∷ a.others) c) (finish s q (hidden frames) n r (next_in (next_open tail) a.rest) (λ ys c1. final s p frames a.rest tail (out ++ ys) c1))
unfolding final
starts s p q frames n r ts a tail out c e found place =
    let f : List Lexeme → ℕ → Outcome (List Lexeme) = repl s (hidden frames) (Some q) false in
    let b : Bool = next_in (next_open tail) a.rest in
    let here : List Lexeme → ℕ → Outcome (List Lexeme) = λ zs c3. final s q frames a.rest tail (out ++ zs) c3 in
    let there : List Lexeme → ℕ → Outcome (List Lexeme) = λ zs c3. final s p frames a.rest tail (out ++ zs) c3 in
    let ends : List (List Lexeme) → ℕ → Outcome (List Lexeme) = finish s q (hidden frames) n r b there in
    ap (λ o. on_split o (λ v. bind (f v.first c) (λ ys c1. bind (each f v.others c1) (λ lists c2. finish_if (look s.table n) s q (hidden frames) n (next_in (next_open tail) v.rest) (λ zs c3. final s q frames v.rest tail (out ++ zs) c3) (ys ∷ lists) c2)))) e
    ∙ ap (λ o. bind (f a.first c) (λ ys c1. bind (each f a.others c1) (λ lists c2. finish_if o s q (hidden frames) n b here (ys ∷ lists) c2))) found
    ∙ bind-same (f a.first c) (λ ys c1. bind (each f a.others c1) (λ lists c2. finish s q (hidden frames) n r b here (ys ∷ lists) c2)) (λ ys c1. bind (each f a.others c1) (λ lists c2. ends (ys ∷ lists) c2))
    (λ ys c1. bind-same (each f a.others c1) (λ lists c2. finish s q (hidden frames) n r b here (ys ∷ lists) c2) (λ lists c2. ends (ys ∷ lists) c2)
    (λ lists c2. finish-same s q (hidden frames) n r b here there (λ zs c3. place (out ++ zs) c3) (ys ∷ lists) c2))
    ∙ sym (bind-bind (f a.first c) (λ ys c1. bind (each f a.others c1) (λ yss c2. done (ys ∷ yss) c2)) ends
    ∙ bind-same (f a.first c) (λ ys c1. bind (bind (each f a.others c1) (λ yss c2. done (ys ∷ yss) c2)) ends) (λ ys c1. bind (each f a.others c1) (λ lists c2. ends (ys ∷ lists) c2))
    (λ ys c1. bind-bind (each f a.others c1) (λ yss c2. done (ys ∷ yss) c2) ends))

-- a call that begins
began-keeps : (s : Setting) (n : ℕ) (m m1 : Mark) (r : Rule) (k : ℕ) (commas : ℕ) (frames : List Frame) (names : List ℕ) (items : List Item) (p : Place) (out : List Lexeme) (c : ℕ) (o : Outcome (List Lexeme)) (a : Split)
    → Noted items → names ≡ hidden frames → look s.table n ≡ Some r → arguments zero (current items) ≡ Some a
    → (t : CallTurn s frames p (Name n m) (Open m1) (current items) a (beyond items))
    → final s p frames (Name n m ∷ Open m1 ∷ current items) (beyond items) out c ≡ o
    → (b : Bool)
    → act s.table t.turn.spills (hidden frames) (unclosed (at_of frames p)) (Name n m) (Open m1 ∷ t.inner) ≡ cond b (replace n r (a.first ∷ a.others) t.after) (stop Arguments)
    → Keeps s (cond b (started n (place_by (at_of frames p) m.place) items (record { frames = frames; names = names; pending = Unread (Open m1) (Some commas) ∷ items; place = p; out = out; used = c })) (ended (refused Arguments (place_by (at_of frames p) m.place)))) o
began-keeps s n m m1 r k commas frames names items p out c o a noted same found e t gives true acts =
    let q : Place = place_by (at_of frames p) m.place in
    record {
      closed = subst (λ v. HoldsOf v (λ q. Closed frames q.rest (beyond items))) (sym e) t.turn.closed;
      noted = noted;
      names = same;
      gives =
          starts s p q frames n r (current items) a (beyond items) out c e found (λ ys c1. final-place s p m.place frames a.rest (beyond items) ys c1)
          ∙ sym (replaces s frames frames p (Name n m) n r (a.first ∷ a.others) (Name n m ∷ Open m1 ∷ current items) a.rest (beyond items) (Open m1 ∷ t.inner) t.after t.turn out c acts)
          ∙ gives;
    }
began-keeps s n m m1 r k commas frames names items p out c o a noted same found e t gives false acts =
    sym (stops s frames frames p (Name n m) Arguments (Name n m ∷ Open m1 ∷ current items) a.rest (beyond items) (Open m1 ∷ t.inner) t.after t.turn out c acts) ∙ gives

call-keeps : (s : Setting) (n : ℕ) (m m1 : Mark) (r : Rule) (k : ℕ) (frames : List Frame) (names : List ℕ) (items : List Item) (p : Place) (out : List Lexeme) (c : ℕ) (o : Outcome (List Lexeme))
    → Closed frames (Name n m ∷ Open m1 ∷ current items) (beyond items) → Noted items → names ≡ hidden frames → look s.table n ≡ Some r
    → ((spills : Bool) (after : List Lexeme) → act s.table spills (hidden frames) (unclosed (at_of frames p)) (Name n m) after ≡ at_function spills n m r k (unclosed (at_of frames p)) after)
    → final s p frames (Name n m ∷ Open m1 ∷ current items) (beyond items) out c ≡ o
    → (split : Option Split) → arguments zero (current items) ≡ split
    → Keeps s (call_at n m k (commas_of split) items (record { frames = frames; names = names; pending = Unread (Open m1) (commas_of split) ∷ items; place = p; out = out; used = c })) o
call-keeps s n m m1 r k frames names items p out c o closed noted same found acts gives None e =
    sym (not_closed s frames p n m m1 (current items) (beyond items) (unclosed (at_of frames p)) out c e closed
    (λ spills. acts spills (Open m1 ∷ current items) ∙ ap (λ v. called n r k (unclosed (at_of frames p)) v) e)) ∙ gives
call-keeps s n m m1 r k frames names items p out c o closed noted same found acts gives (Some a) e =
    let t : CallTurn s frames p (Name n m) (Open m1) (current items) a (beyond items) = call_turn s frames p n m m1 (current items) a (beyond items) e closed in
    subst (λ b. Keeps s (cond b (started n (place_by (at_of frames p) m.place) items (record { frames = frames; names = names; pending = Unread (Open m1) (Some (length a.others)) ∷ items; place = p; out = out; used = c })) (ended (refused Arguments (place_by (at_of frames p) m.place)))) o)
    (sym (suits-fits k items a e))
    (began-keeps s n m m1 r k (length a.others) frames names items p out c o a noted same found e t gives (fits k a.first a.others)
    (acts t.turn.spills (Open m1 ∷ t.inner) ∙ ap (λ v. called n r k (unclosed (at_of frames p)) v) t.split))

-- a function-like name without `(`
not_called : (spills : Bool) (n : ℕ) (m : Mark) (r : Rule) (k : ℕ) (lack : Trouble) (after : List Lexeme) → false ≡ next_in spills after → at_function spills n m r k lack after ≡ keep (Name n m)
not_called spills n m r k lack [] e = ap (λ b. cond b (stop Spill) (keep (Name n m))) (sym e)
not_called spills n m r k lack (Open o ∷ ts) e = cc
not_called spills n m r k lack (x ∷ ts) e = refl

-- a function-like name at the end of a replaced list, before `(`
spill_gives : (s : Setting) (n : ℕ) (m : Mark) (r : Rule) (k : ℕ) (frames : List Frame) (items : List Item) (p : Place) (out : List Lexeme) (c : ℕ)
    → Closed frames (Name n m ∷ []) (Leave ∷ items) → next_open items ≡ true
    → ((spills : Bool) (after : List Lexeme) → act s.table spills (hidden frames) (unclosed (at_of frames p)) (Name n m) after ≡ at_function spills n m r k (unclosed (at_of frames p)) after)
    → final s p frames (Name n m ∷ []) (Leave ∷ items) out c ≡ refused Spill (place_by (at_of frames p) m.place)
spill_gives s n m r k [] items p out c closed e acts = cc
spill_gives s n m r k (inside j ∷ frames) items p out c closed e acts =
    let t : Turn s (inside j ∷ frames) (inside j ∷ frames) p (Name n m ∷ []) [] (Leave ∷ items) (Name n m ∷ []) [] = inside_turn s j frames p (Name n m ∷ []) [] (Leave ∷ items) closed in
    stops s (inside j ∷ frames) (inside j ∷ frames) p (Name n m) Spill (Name n m ∷ []) [] (Leave ∷ items) [] [] t out c
    (acts t.spills [] ∙ ap (λ b. cond b (stop Spill) (keep (Name n m))) (sym t.nexts ∙ e))
spill_gives s n m r k (calling j d outer finished ∷ frames) items p out c closed e acts = absurd closed

function-keeps : (s : Setting) (n : ℕ) (m : Mark) (r : Rule) (k : ℕ) (frames : List Frame) (names : List ℕ) (items : List Item) (p : Place) (out : List Lexeme) (c : ℕ) (o : Outcome (List Lexeme))
    → Reads s (Name n m) (record { frames = frames; names = names; pending = items; place = p; out = out; used = c }) o → look s.table n ≡ Some r
    → ((spills : Bool) (after : List Lexeme) → act s.table spills (hidden frames) (unclosed (at_of frames p)) (Name n m) after ≡ at_function spills n m r k (unclosed (at_of frames p)) after)
    → Keeps s (function_at n m k items (record { frames = frames; names = names; pending = items; place = p; out = out; used = c })) o
function-keeps s n m r k frames names [] p out c o reads found acts =
    plain-keeps s (record { frames = frames; names = names; pending = []; place = p; out = out; used = c }) (Name n m) (Name n m) o reads (λ d l. refl)
    (λ spills after e. acts spills after ∙ not_called spills n m r k (unclosed (at_of frames p)) after e)
function-keeps s n m r k frames names (Leave ∷ items) p out c o reads found acts = by_next (next_open items) refl
  where
    by_next : (b : Bool) → next_open items ≡ b → Keeps s (cond b (ended (refused Spill (place_by (at_of frames p) m.place))) (kept (Name n m) (record { frames = frames; names = names; pending = Leave ∷ items; place = p; out = out; used = c }))) o
    by_next true e = sym (spill_gives s n m r k frames items p out c reads.closed e acts) ∙ reads.gives
    by_next false e =
        plain-keeps s (record { frames = frames; names = names; pending = Leave ∷ items; place = p; out = out; used = c }) (Name n m) (Name n m) o reads (λ d l. refl)
        (λ spills after h. acts spills after ∙ not_called spills n m r k (unclosed (at_of frames p)) after (sym e ∙ h))
function-keeps s n m r k frames names (Unread (Open m1) commas ∷ items) p out c o reads found acts =
    subst (λ v. Keeps s (call_at n m k v items (record { frames = frames; names = names; pending = Unread (Open m1) v ∷ items; place = p; out = out; used = c })) o) (sym reads.noted.0)
    (call-keeps s n m m1 r k frames names items p out c o reads.closed reads.noted.1 reads.names found acts reads.gives (arguments zero (current items)) refl)
function-keeps s n m r k frames names (Unread x commas ∷ items) p out c o reads found acts =
    plain-keeps s (record { frames = frames; names = names; pending = Unread x commas ∷ items; place = p; out = out; used = c }) (Name n m) (Name n m) o reads (λ d l. refl)
    (λ spills after e. acts spills after ∙ not_called spills n m r k (unclosed (at_of frames p)) after e)

macro-keeps : (s : Setting) (n : ℕ) (m : Mark) (r : Rule) (frames : List Frame) (names : List ℕ) (items : List Item) (p : Place) (out : List Lexeme) (c : ℕ) (o : Outcome (List Lexeme))
    → Reads s (Name n m) (record { frames = frames; names = names; pending = items; place = p; out = out; used = c }) o → look s.table n ≡ Some r → (parameters : Option ℕ)
    → ((spills : Bool) (after : List Lexeme) → act s.table spills (hidden frames) (unclosed (at_of frames p)) (Name n m) after ≡ at_macro spills n m r parameters (unclosed (at_of frames p)) after)
    → Keeps s (macro_at s n m r parameters (record { frames = frames; names = names; pending = items; place = p; out = out; used = c })) o
macro-keeps s n m r frames names items p out c o reads found None acts =
    let q : Place = place_by (at_of frames p) m.place in
    let t : Step s frames frames p (Name n m) (current items) (beyond items) = plain_step s frames p (Name n m) (current items) (beyond items) (λ d l. refl) reads.closed in
    made-keeps s n (put [] r.body) frames names items p q out c o t.turn.closed reads.noted reads.names (λ ys c1. final-place s p m.place frames (current items) (beyond items) ys c1) (nat_le (c + length (put [] r.body)) s.limit)
    (sym (replaces s frames frames p (Name n m) n r [] (Name n m ∷ current items) (current items) (beyond items) t.after t.after t.turn out c (acts t.turn.spills t.after)) ∙ reads.gives)
macro-keeps s n m r frames names items p out c o reads found (Some k) acts = function-keeps s n m r k frames names items p out c o reads found acts

pub name-keeps : (s : Setting) (n : ℕ) (m : Mark) (frames : List Frame) (names : List ℕ) (items : List Item) (p : Place) (out : List Lexeme) (c : ℕ) (o : Outcome (List Lexeme))
    → Reads s (Name n m) (record { frames = frames; names = names; pending = items; place = p; out = out; used = c }) o
    → (rule : Option Rule) → look s.table n ≡ rule → (b : Bool) → member n (hidden frames) ≡ b
    → Keeps s (name_at s n m rule b (record { frames = frames; names = names; pending = items; place = p; out = out; used = c })) o
name-keeps s n m frames names items p out c o reads None e b h =
    plain-keeps s (record { frames = frames; names = names; pending = items; place = p; out = out; used = c }) (Name n m) (Name n m) o reads (λ d l. refl)
    (λ spills after _. ap (λ v. at_name spills n m v (member n (hidden frames)) (unclosed (at_of frames p)) after) e)
name-keeps s n m frames names items p out c o reads (Some r) e true h =
    plain-keeps s (record { frames = frames; names = names; pending = items; place = p; out = out; used = c }) (Name n m) (Painted n m) o reads (λ d l. refl)
    (λ spills after _. ap (λ v. at_name spills n m v (member n (hidden frames)) (unclosed (at_of frames p)) after) e ∙ ap (λ v. at_name spills n m (Some r) v (unclosed (at_of frames p)) after) h)
name-keeps s n m frames names items p out c o reads (Some r) e false h =
    macro-keeps s n m r frames names items p out c o reads e r.parameters
    (λ spills after. ap (λ v. at_name spills n m v (member n (hidden frames)) (unclosed (at_of frames p)) after) e ∙ ap (λ v. at_name spills n m (Some r) v (unclosed (at_of frames p)) after) h)
