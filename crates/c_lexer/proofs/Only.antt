-- A file has one answer.
use Rattle.std.proofs.Common.{◌≡◌, ◌≤◌, ◌<◌, ◌+◌, ℕ, suc, true, List, [], ◌∷◌, ◌++◌, length, drop, Some, refl, sym, ◌∙◌, ap, ap₂, subst, arith, length-append}
use Rattle.std.proofs.lemmas.Bool.Decides.{nat_tests}
use Rattle.cc_base.specs.declared.lexemes.Token.{Token}
use Rattle.cc_base.specs.declared.refusals.Fault.{Fault}
use Rattle.cc_base.specs.declared.refusals.Refusal.TheVariants.{BadByte}
use Rattle.c_lexer.specs.declared.pieces.Shape.{Shape}
use Rattle.c_lexer.specs.declared.pieces.Shape.TheVariants as shape
use Rattle.c_lexer.specs.declared.pieces.Context.{Context}
use Rattle.c_lexer.specs.declared.pieces.Piece.{Piece}
use Rattle.c_lexer.specs.declared.pieces.State.{State}
use Rattle.c_lexer.specs.Pieces.{may_stand}
use Rattle.c_lexer.specs.Reading.{prefix_length, piece_of}
use Rattle.c_lexer.specs.Splicing.{Cell, bytes_of, place_of, spliced}
use Rattle.c_lexer.specs.Cutting.{token_limit, Front, CanBegin, Begins, after, start, token_list, Bit, IsCut, Cuts, state_after, tokens_of, Lexes, is_past, fault_of, Stuck, Refuses}
use Rattle.c_lexer.specs.Cutting.Stuck.{nothing, many, bad}
use Rattle.c_lexer.proofs.Begin.{only_piece}

-- the cutting goes on at `r` after `ps` where another one, `qs`, went on
record Further (file : ℕ) (st : State) (ps qs : List Bit) (r : List Cell) : Type 0 where
  bit : Bit
  more : List Cell
  cut : IsCut (state_after st ps).context bit r more
  count : length (tokens_of file st ps) + length (token_list (state_after st ps) bit.shape (bytes_of bit.cells) (place_of file bit.cells)) ≤ length (tokens_of file st qs)

record Same (ps qs : List Bit) (r s : List Cell) : Type 0 where
  bits : ps ≡ qs
  place : r ≡ s

data Compared (file : ℕ) (st : State) (ps qs : List Bit) (r s : List Cell) : Type 0 where
  same : Same ps qs r s → Compared file st ps qs r s
  left : Further file st ps qs r → Compared file st ps qs r s
  right : Further file st qs ps s → Compared file st ps qs r s

length-bytes_of : (s : List Cell) → length (bytes_of s) ≡ length s
length-bytes_of [] = refl
length-bytes_of (x ∷ s) = ap suc (length-bytes_of s)

same_front : (a b c d : List Cell) → length a ≡ length b → a ++ c ≡ b ++ d → (a ≡ b) × (c ≡ d)
same_front [] [] c d e h = (refl, h)
same_front [] (y ∷ b) c d e h = absurd (omega arith)
same_front (x ∷ a) [] c d e h = absurd (omega arith)
same_front (x ∷ a) (y ∷ b) c d e h =
    let e2 : length a ≡ length b = omega arith in
    let h2 : a ++ c ≡ b ++ d = cc in
    let h1 : x ≡ y = cc in
    let w = same_front a b c d e2 h2 in (ap₂ (λ u v. u ∷ v) h1 w.0, w.1)

some_injective : (p q : Piece) → Some p ≡ Some q → p ≡ q
some_injective p q e = cc

-- two longest pieces at one place have one shape and one length
one_piece : (c : Context) (s : List ℕ) (p q : Shape) (t u : List ℕ) → Begins c s p t → Begins c s q u → (p ≡ q) × (length t ≡ length u)
one_piece c s p q t u g h =
    let e = some_injective (piece_of p (length t)) (piece_of q (length u)) (sym (only_piece c s p t g) ∙ only_piece c s q u h) in
    (ap (λ v. v.shape) e, ap (λ v. v.size) e)

-- two cuts at one place are one
record OneCut (p q : Bit) (more rest : List Cell) : Type 0 where
  bit : p ≡ q
  left : more ≡ rest

one_cut : (c : Context) (p q : Bit) (s more rest : List Cell) → IsCut c p s more → IsCut c q s rest → OneCut p q more rest
one_cut c p q s more rest g h =
    let w = one_piece c (bytes_of s) p.shape q.shape (bytes_of p.cells) (bytes_of q.cells) g.begins h.begins in
    let long : length p.cells ≡ length q.cells = sym (length-bytes_of p.cells) ∙ (w.1 ∙ length-bytes_of q.cells) in
    let v = same_front p.cells q.cells more rest long (sym g.whole ∙ h.whole) in
    record { bit = λ i. record { shape = w.0 i; cells = v.0 i }; left = v.1 }

further_first : (file : ℕ) (st : State) (q : Bit) (qs : List Bit) (t r s : List Cell) → t ≡ r → Cuts st (q ∷ qs) t s → Further file st [] (q ∷ qs) r
further_first file st q qs t r s e c = record {
  bit = q;
  more = c.0;
  cut = subst (λ v. IsCut st.context q v c.0) e c.1;
  count = rw (length-append (token_list st q.shape (bytes_of q.cells) (place_of file q.cells)) (tokens_of file (after st q.shape (bytes_of q.cells)) qs)) (omega arith);
}

further_more : (file : ℕ) (st : State) (p : Bit) (ps qs : List Bit) (r : List Cell) → Further file (after st p.shape (bytes_of p.cells)) ps qs r → Further file st (p ∷ ps) (p ∷ qs) r
further_more file st p ps qs r f = record {
  bit = f.bit;
  more = f.more;
  cut = f.cut;
  count = rw (length-append (token_list st p.shape (bytes_of p.cells) (place_of file p.cells)) (tokens_of file (after st p.shape (bytes_of p.cells)) ps))
      (rw (length-append (token_list st p.shape (bytes_of p.cells) (place_of file p.cells)) (tokens_of file (after st p.shape (bytes_of p.cells)) qs)) (let h = f.count in omega arith));
}

compared_more : (file : ℕ) (st : State) (p : Bit) (ps qs : List Bit) (r s : List Cell) → Compared file (after st p.shape (bytes_of p.cells)) ps qs r s → Compared file st (p ∷ ps) (p ∷ qs) r s
compared_more file st p ps qs r s (same e) = same (record { bits = ap (λ v. p ∷ v) e.bits; place = e.place })
compared_more file st p ps qs r s (left f) = left (further_more file st p ps qs r f)
compared_more file st p ps qs r s (right f) = right (further_more file st p qs ps s f)

compare : (file : ℕ) (st : State) (ps qs : List Bit) (t r s : List Cell) → Cuts st ps t r → Cuts st qs t s → Compared file st ps qs r s
compare file st [] [] t r s a b = same (record { bits = refl; place = sym a ∙ b })
compare file st [] (q ∷ qs) t r s a b = left (further_first file st q qs t r s a b)
compare file st (p ∷ ps) [] t r s a b = right (further_first file st p ps t s r b a)
compare file st (p ∷ ps) (q ∷ qs) t r s a b =
    let one = one_cut st.context p q t a.0 b.0 a.1 b.1 in
    let moved : Cuts (after st p.shape (bytes_of p.cells)) qs b.0 s = subst (λ v. Cuts (after st v.shape (bytes_of v.cells)) qs b.0 s) (sym one.bit) b.2 in
    let placed : Cuts (after st p.shape (bytes_of p.cells)) qs a.0 s = subst (λ v. Cuts (after st p.shape (bytes_of p.cells)) qs v s) (sym one.left) moved in
    subst (λ v. Compared file st (p ∷ ps) (v ∷ qs) r s) one.bit (compared_more file st p ps qs r s (compare file (after st p.shape (bytes_of p.cells)) ps qs a.0 r s a.2 placed))

-- a cutting that goes on is not stuck
no_piece : (c : Context) (p : Shape) (t : List ℕ) → CanBegin c [] p t → ⊥
no_piece c p [] h = let i = h.is in cc
no_piece c p (x ∷ t) h = h.front

some_there : (c : Context) (s : List Cell) (p : Shape) (t : List ℕ) → CanBegin c (bytes_of s) p t → 0 < length s
some_there c [] p t h = absurd (no_piece c p t h)
some_there c (x ∷ s) p t h = omega arith

stuck_some : (file : ℕ) (c : Context) (n : ℕ) (s : List Cell) (f : Fault) → Stuck file c n s f → 0 < length s
stuck_some file c n s f (nothing h g e) = h
stuck_some file c n s f (many p t g past e) = some_there c s p t g.can
stuck_some file c n s f (bad p t g past less e) = some_there c s p t g.can

front_equal : (t u s : List ℕ) → Front t s → Front u s → length t ≡ length u → t ≡ u
front_equal [] [] s f g e = refl
front_equal [] (y ∷ u) s f g e = absurd (omega arith)
front_equal (x ∷ t) [] s f g e = absurd (omega arith)
front_equal (x ∷ t) (y ∷ u) [] f g e = absurd f
front_equal (x ∷ t) (y ∷ u) (z ∷ s) f g e =
    let less : length t ≡ length u = omega arith in ap₂ (λ v w. v ∷ w) (f.0 ∙ sym g.0) (front_equal t u s f.1 g.1 less)

past_counts : (st : State) (p : Shape) (t : List ℕ) (n : ℕ) (file : ℕ) (cells : List Cell) → is_past p n ≡ true → n + length (token_list st p t (place_of file cells)) ≤ token_limit → ⊥
past_counts st (shape.Token k) t n file cells h e = grind (arith, nat_tests)
past_counts st shape.Blank t n file cells h e = cc
past_counts st shape.LineEnd t n file cells h e = cc
past_counts st shape.Comment t n file cells h e = cc

stuck_goes : (file : ℕ) (st : State) (n : ℕ) (s more : List Cell) (f : Fault) (b : Bit) → Stuck file st.context n s f → IsCut st.context b s more
    → n + length (token_list st b.shape (bytes_of b.cells) (place_of file b.cells)) ≤ token_limit → ⊥
stuck_goes file st n s more f b (nothing h g e) c k = g b.shape (bytes_of b.cells) c.begins.can
stuck_goes file st n s more f b (many p t g past e) c k =
    let w = one_piece st.context (bytes_of s) p b.shape t (bytes_of b.cells) g c.begins in
    past_counts st b.shape (bytes_of b.cells) n file b.cells (subst (λ v. is_past v n ≡ true) w.0 past) k
stuck_goes file st n s more f b (bad p t g past less e) c k =
    let w = one_piece st.context (bytes_of s) p b.shape t (bytes_of b.cells) g c.begins in
    let text = front_equal t (bytes_of b.cells) (bytes_of s) g.can.front c.begins.can.front w.1 in
    let moved : prefix_length (may_stand b.shape) (bytes_of b.cells) < length (bytes_of b.cells) =
    subst (λ v. prefix_length (may_stand v) (bytes_of b.cells) < length (bytes_of b.cells)) w.0 (subst (λ v. prefix_length (may_stand p) v < length v) text less) in
    let legal = c.legal in omega arith

one_stuck : (file : ℕ) (c : Context) (n : ℕ) (s : List Cell) (f g : Fault) → Stuck file c n s f → Stuck file c n s g → f ≡ g
one_stuck file c n s f g (nothing h i e) (nothing k l j) = e ∙ sym j
one_stuck file c n s f g (nothing h i e) (many p t b past j) = absurd (i p t b.can)
one_stuck file c n s f g (nothing h i e) (bad p t b past less j) = absurd (i p t b.can)
one_stuck file c n s f g (many p t b past e) (nothing k l j) = absurd (l p t b.can)
one_stuck file c n s f g (many p t b past e) (many q u d more j) = e ∙ sym j
one_stuck file c n s f g (many p t b past e) (bad q u d more less j) = absurd (let w = one_piece c (bytes_of s) p q t u b d in let x = ap (λ v. is_past v n) w.0 in cc)
one_stuck file c n s f g (bad p t b past less e) (nothing k l j) = absurd (l p t b.can)
one_stuck file c n s f g (bad p t b past less e) (many q u d more j) = absurd (let w = one_piece c (bytes_of s) p q t u b d in let x = ap (λ v. is_past v n) w.0 in cc)
one_stuck file c n s f g (bad p t b past less e) (bad q u d more fewer j) =
    let w = one_piece c (bytes_of s) p q t u b d in
    let text = front_equal t u (bytes_of s) b.can.front d.can.front w.1 in
    e ∙ (ap₂ (λ v x. fault_of (place_of file (drop (prefix_length (may_stand v) x) s)) BadByte) w.0 text ∙ sym j)

further_none : (file : ℕ) (st : State) (ps qs : List Bit) → Further file st ps qs [] → ⊥
further_none file st ps qs f = no_piece _ f.bit.shape (bytes_of f.bit.cells) f.cut.begins.can

-- the tokens at the end of a cutting that is compared with one that is stuck
stuck_further : (file : ℕ) (bytes : List ℕ) (f : Fault) (st : State) (ts : List Token) (s : List Cell) (ps qs : List Bit) → st ≡ state_after start ps → ts ≡ tokens_of file start ps
    → Stuck file st.context (length ts) s f → length (tokens_of file start qs) ≤ token_limit → Further file start ps qs s → ⊥
stuck_further file bytes f st ts s ps qs e h k few g =
    let stuck : Stuck file (state_after start ps).context (length (tokens_of file start ps)) s f =
    subst (λ v. Stuck file v.context (length (tokens_of file start ps)) s f) e (subst (λ v. Stuck file st.context (length v) s f) h k) in
    let count = g.count in
    stuck_goes file (state_after start ps) (length (tokens_of file start ps)) s g.more f g.bit stuck g.cut (omega arith)

tokens_by : (file : ℕ) (ts us : List Token) (ps qs : List Bit) → ts ≡ tokens_of file start ps → us ≡ tokens_of file start qs → Compared file start ps qs [] [] → ts ≡ us
tokens_by file ts us ps qs e h (same w) = e ∙ (ap (tokens_of file start) w.bits ∙ sym h)
tokens_by file ts us ps qs e h (left f) = absurd (further_none file start ps qs f)
tokens_by file ts us ps qs e h (right f) = absurd (further_none file start qs ps f)

pub one_list : (file : ℕ) (bytes : List ℕ) (ts us : List Token) → Lexes file bytes ts → Lexes file bytes us → ts ≡ us
one_list file bytes ts us g h = tokens_by file ts us g.reaches.pieces h.reaches.pieces g.reaches.tokens h.reaches.tokens
    (compare file start g.reaches.pieces h.reaches.pieces (spliced bytes) [] [] g.reaches.cuts h.reaches.cuts)

fault_by : (file : ℕ) (bytes : List ℕ) (f g : Fault) (a : Refuses file bytes f) (b : Refuses file bytes g) → Compared file start a.reaches.pieces b.reaches.pieces a.rest b.rest → f ≡ g
fault_by file bytes f g a b (same w) =
    let states : b.state ≡ a.state = b.reaches.state ∙ (ap (state_after start) (sym w.bits) ∙ sym a.reaches.state) in
    let lists : b.tokens ≡ a.tokens = b.reaches.tokens ∙ (ap (tokens_of file start) (sym w.bits) ∙ sym a.reaches.tokens) in
    one_stuck file a.state.context (length a.tokens) a.rest f g a.stuck
    (subst (λ v. Stuck file v.context (length a.tokens) a.rest g) states (subst (λ v. Stuck file b.state.context (length v) a.rest g) lists (subst (λ v. Stuck file b.state.context (length b.tokens) v g) (sym w.place) b.stuck)))
fault_by file bytes f g a b (left w) = absurd (stuck_further file bytes f a.state a.tokens a.rest a.reaches.pieces b.reaches.pieces a.reaches.state a.reaches.tokens a.stuck
    (subst (λ v. length v ≤ token_limit) b.reaches.tokens b.few) w)
fault_by file bytes f g a b (right w) = absurd (stuck_further file bytes g b.state b.tokens b.rest b.reaches.pieces a.reaches.pieces b.reaches.state b.reaches.tokens b.stuck
    (subst (λ v. length v ≤ token_limit) a.reaches.tokens a.few) w)

pub one_fault : (file : ℕ) (bytes : List ℕ) (f g : Fault) → Refuses file bytes f → Refuses file bytes g → f ≡ g
one_fault file bytes f g a b = fault_by file bytes f g a b (compare file start a.reaches.pieces b.reaches.pieces (spliced bytes) a.rest b.rest a.reaches.cuts b.reaches.cuts)

apart_by : (file : ℕ) (bytes : List ℕ) (ts : List Token) (f : Fault) (a : Lexes file bytes ts) (b : Refuses file bytes f) → Compared file start a.reaches.pieces b.reaches.pieces [] b.rest → ⊥
apart_by file bytes ts f a b (same w) = let some = stuck_some file b.state.context (length b.tokens) b.rest f b.stuck in let none = ap length w.place in omega arith
apart_by file bytes ts f a b (left w) = further_none file start a.reaches.pieces b.reaches.pieces w
apart_by file bytes ts f a b (right w) = stuck_further file bytes f b.state b.tokens b.rest b.reaches.pieces a.reaches.pieces b.reaches.state b.reaches.tokens b.stuck
    (subst (λ v. length v ≤ token_limit) a.reaches.tokens a.few) w

pub no_both : (file : ℕ) (bytes : List ℕ) (ts : List Token) (f : Fault) → Lexes file bytes ts → Refuses file bytes f → ⊥
no_both file bytes ts f a b = apart_by file bytes ts f a b (compare file start a.reaches.pieces b.reaches.pieces (spliced bytes) [] b.rest a.reaches.cuts b.reaches.cuts)
