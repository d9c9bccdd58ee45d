-- The turns of the machine: what they keep, and that they end.
use Rattle.std.proofs.Common.{◌≡◌, ℕ, false, List, [], ◌∷◌, ◌++◌, Some, None, refl, sym, ◌∙◌, ap}
use Rattle.std.proofs.lemmas.List.{append-nil}
use Rattle.cc_base.specs.declared.diagnostics.Place.{Place}
use Rattle.c_preproc_macros.specs.declared.lexeme.Lexeme.{Lexeme}
use Rattle.c_preproc_macros.specs.declared.lexeme.Lexeme.TheVariants.{Name, Painted, Open, Close, Comma, Other}
use Rattle.c_preproc_macros.specs.declared.pending_list.Item.{Item}
use Rattle.c_preproc_macros.specs.declared.pending_list.Item.TheVariants.{Unread, Leave}
use Rattle.c_preproc_macros.specs.Expanding.{Setting, Outcome, bind, look, member, expansion, repl}
use Rattle.c_preproc_macros.specs.Expanding.Outcome.{done, refused}
use Rattle.c_preproc_macros.specs.Pending.{current, beyond, next_open, pushed}
use Rattle.c_preproc_macros.specs.Machine.{Frame, State, deepened, left_names, token_at, item_at, turned}
use Rattle.c_preproc_macros.specs.Machine.Frame.{inside, calling}
use Rattle.c_preproc_macros.proofs.Laws.{repl-nil}
use Rattle.c_preproc_macros.proofs.Items.{current-pushed, beyond-pushed, Noted, noted-pushed}
use Rattle.c_preproc_macros.proofs.Final.{hidden, Closed, final}
use Rattle.c_preproc_macros.proofs.Moves.{Stands, Keeps, Reads, kept-keeps, plain-keeps, open_step, hidden-deepened, at_of-deepened, close-keeps, comma-keeps}
use Rattle.c_preproc_macros.proofs.Names.{name-keeps}

token-keeps : (s : Setting) (x : Lexeme) (frames : List Frame) (names : List ℕ) (items : List Item) (p : Place) (out : List Lexeme) (c : ℕ) (o : Outcome (List Lexeme))
    → Reads s x (record { frames = frames; names = names; pending = items; place = p; out = out; used = c }) o
    → Keeps s (token_at s x (record { frames = frames; names = names; pending = items; place = p; out = out; used = c })) o
token-keeps s (Name n m) frames names items p out c o r = name-keeps s n m frames names items p out c o r (look s.table n) refl (member n names) (ap (member n) (sym r.names))
token-keeps s (Open m) frames names items p out c o r =
    kept-keeps s (record { frames = frames; names = names; pending = items; place = p; out = out; used = c }) (deepened frames) (Open m) (Open m) o r
    (open_step s frames p m (current items) (beyond items) r.closed) refl (hidden-deepened frames) (at_of-deepened frames p)
token-keeps s (Close m) frames names items p out c o r = close-keeps s m frames names items p out c o r
token-keeps s (Comma m) frames names items p out c o r = comma-keeps s m frames names items p out c o r
token-keeps s (Painted n m) frames names items p out c o r =
    plain-keeps s (record { frames = frames; names = names; pending = items; place = p; out = out; used = c }) (Painted n m) (Painted n m) o r (λ d l. refl) (λ spills after e. refl)
token-keeps s (Other k n m) frames names items p out c o r =
    plain-keeps s (record { frames = frames; names = names; pending = items; place = p; out = out; used = c }) (Other k n m) (Other k n m) o r (λ d l. refl) (λ spills after e. refl)

end-keeps : (s : Setting) (frames : List Frame) (p : Place) (out : List Lexeme) (c : ℕ) (o : Outcome (List Lexeme)) → Closed frames [] [] → final s p frames [] [] out c ≡ o → done out c ≡ o
unfolding final
end-keeps s [] p out c o closed gives =
    ap (λ l. done l c) (sym (append-nil out)) ∙ ap (λ v. bind v (λ ys c1. done (out ++ ys) c1)) (sym (repl-nil s [] None false c)) ∙ gives
end-keeps s (inside n ∷ frames) p out c o closed gives = absurd closed.0
end-keeps s (calling n d outer finished ∷ frames) p out c o closed gives = absurd closed

leave-keeps : (s : Setting) (frames : List Frame) (names : List ℕ) (items : List Item) (p : Place) (out : List Lexeme) (c : ℕ) (o : Outcome (List Lexeme))
    → Closed frames [] (Leave ∷ items) → Noted items → names ≡ hidden frames → final s p frames [] (Leave ∷ items) out c ≡ o
    → Keeps s (item_at s (Leave ∷ items) (record { frames = frames; names = names; pending = Leave ∷ items; place = p; out = out; used = c })) o
unfolding final
leave-keeps s [] names items p out c o closed noted same gives = cc
leave-keeps s (inside n ∷ frames) names items p out c o closed noted same gives = record {
  closed = closed.1;
  noted = noted;
  names = ap left_names same;
  gives =
      ap (λ l. final s p frames (current items) (beyond items) l c) (sym (append-nil out))
      ∙ ap (λ v. bind v (λ ys c1. final s p frames (current items) (beyond items) (out ++ ys) c1)) (sym (repl-nil s (n ∷ hidden frames) (Some p) (next_open items) c))
      ∙ gives;
}
leave-keeps s (calling n d outer finished ∷ frames) names items p out c o closed noted same gives = absurd closed

item-keeps : (s : Setting) (frames : List Frame) (names : List ℕ) (items : List Item) (p : Place) (out : List Lexeme) (c : ℕ) (o : Outcome (List Lexeme))
    → Stands s (record { frames = frames; names = names; pending = items; place = p; out = out; used = c }) o
    → Keeps s (item_at s items (record { frames = frames; names = names; pending = items; place = p; out = out; used = c })) o
item-keeps s frames names [] p out c o h = end-keeps s frames p out c o h.closed h.gives
item-keeps s frames names (Leave ∷ items) p out c o h = leave-keeps s frames names items p out c o h.closed h.noted h.names h.gives
item-keeps s frames names (Unread x commas ∷ items) p out c o h =
    token-keeps s x frames names items p out c o (record { closed = h.closed; noted = h.noted.1; names = h.names; gives = h.gives })

-- a turn keeps what the definition still has to give
pub turned-keeps : (s : Setting) (st : State) (o : Outcome (List Lexeme)) → Stands s st o → Keeps s (turned s st) o
turned-keeps s st o h = item-keeps s st.frames st.names st.pending st.place st.out st.used o h

bind-done : (o : Outcome (List Lexeme)) → bind o (λ ys c. done ys c) ≡ o
bind-done (done x c) = refl
bind-done (refused why place) = refl

-- at the beginning it has to give the whole
pub begins : (s : Setting) (text : List Lexeme) (p : Place) (c : ℕ) → Stands s (record { frames = []; names = []; pending = pushed text []; place = p; out = []; used = c }) (expansion s text c)
unfolding final
begins s text p c = record {
  closed = beyond-pushed text [];
  noted = noted-pushed text [] refl tt;
  names = refl;
  gives = ap (λ l. bind (repl s [] None false l c) (λ ys c1. done ys c1)) (current-pushed text [] refl) ∙ bind-done (repl s [] None false text c);
}
