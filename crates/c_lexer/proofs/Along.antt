-- The loop that cuts a file goes along a cutting.
use Rattle.std.proofs.Common.{◌≡◌, ◌≤◌, ◌<◌, ◌+◌, ℕ, zero, suc, Bool, true, false, List, [], ◌∷◌, ◌++◌, length, take, drop, Some, None, refl, sym, ◌∙◌, ap, ap₂, subst, arith, append_assoc, length-append}
use Rattle.std.proofs.lemmas.Bool.Decides.{nat_tests}
use Rattle.cc_base.specs.declared.diagnostics.Place.{Place}
use Rattle.cc_base.specs.declared.lexemes.Token.{Token}
use Rattle.cc_base.specs.declared.refusals.Refusal.{Refusal}
use Rattle.cc_base.specs.declared.refusals.Refusal.TheVariants.{BadByte}
use Rattle.c_lexer.specs.declared.pieces.Shape.{Shape}
use Rattle.c_lexer.specs.declared.pieces.Shape.TheVariants as shape
use Rattle.c_lexer.specs.declared.pieces.Piece.{Piece}
use Rattle.c_lexer.specs.declared.pieces.State.{State}
use Rattle.c_lexer.specs.Pieces.{may_stand}
use Rattle.c_lexer.specs.Reading.{prefix_length, piece_at}
use Rattle.c_lexer.specs.Splicing.{Cell, bytes_of, place_of, spliced}
use Rattle.c_lexer.specs.Cutting.{token_limit, after, start, token_list, Bit, IsCut, Cuts, state_after, tokens_of, Reaches, Lexes, cause, is_past, too_many, fault_of, Refuses}
use Rattle.c_lexer.specs.Cutting.Stuck.{nothing, many, bad}
use Rattle.c_lexer.proofs.Sizes.{size_fits, prefix_fits}
use Rattle.c_lexer.proofs.Splices.{bytes_of-drop}
use Rattle.c_lexer.proofs.Begin.{begins_is, none_begins}

-- what is known between two pieces
pub record Goes (file : ℕ) (bytes z : List ℕ) (st : State) (ts : List Token) (cells : List Cell) : Type 0 where
  pub same : bytes_of cells ≡ z
  pub reaches : Reaches file bytes st ts cells
  pub few : length ts ≤ token_limit

pub starts_at : (file : ℕ) (bytes z : List ℕ) (st : State) (ts : List Token) (s : List Cell) → z ≡ bytes_of (spliced bytes) → st ≡ start → ts ≡ [] → s ≡ spliced bytes → Goes file bytes z st ts s
starts_at file bytes z st ts s e f g h = record {
  same = ap bytes_of h ∙ sym e;
  reaches = record { pieces = []; cuts = sym h; state = f; tokens = g };
  few = rw g (omega arith);
}

cuts-snoc : (st : State) (ps : List Bit) (p : Bit) (s rest more : List Cell) → Cuts st ps s rest → IsCut (state_after st ps).context p rest more → Cuts st (ps ++ p ∷ []) s more
cuts-snoc st [] p s rest more e c = (more, subst (λ v. IsCut st.context p v more) (sym e) c, refl)
cuts-snoc st (q ∷ ps) p s rest more e c = (e.0, e.1, cuts-snoc (after st q.shape (bytes_of q.cells)) ps p e.0 rest more e.2 c)

state-snoc : (st : State) (ps : List Bit) (p : Bit) → state_after st (ps ++ p ∷ []) ≡ after (state_after st ps) p.shape (bytes_of p.cells)
state-snoc st [] p = refl
state-snoc st (q ∷ ps) p = state-snoc (after st q.shape (bytes_of q.cells)) ps p

append-nil : (xs : List Token) → xs ++ [] ≡ xs
append-nil [] = refl
append-nil (x ∷ xs) = ap (λ v. x ∷ v) (append-nil xs)

tokens-snoc : (file : ℕ) (st : State) (ps : List Bit) (p : Bit) → tokens_of file st (ps ++ p ∷ []) ≡ tokens_of file st ps ++ token_list (state_after st ps) p.shape (bytes_of p.cells) (place_of file p.cells)
tokens-snoc file st [] p = append-nil _
tokens-snoc file st (q ∷ ps) p =
    let here : List Token = token_list st q.shape (bytes_of q.cells) (place_of file q.cells) in
    ap (λ v. here ++ v) (tokens-snoc file (after st q.shape (bytes_of q.cells)) ps p) ∙ sym (append_assoc here _ _)

pub bytes_of-take : (n : ℕ) (s : List Cell) → bytes_of (take n s) ≡ take n (bytes_of s)
bytes_of-take zero s = refl
bytes_of-take (suc n) [] = refl
bytes_of-take (suc n) (x ∷ s) = ap (λ v. x.byte ∷ v) (bytes_of-take n s)

take_drop : (n : ℕ) (s : List Cell) → s ≡ take n s ++ drop n s
take_drop zero s = refl
take_drop (suc n) [] = refl
take_drop (suc n) (x ∷ s) = ap (λ v. x ∷ v) (take_drop n s)

place_taken : (file n : ℕ) (s : List Cell) → 1 ≤ n → place_of file (take n s) ≡ place_of file s
place_taken file zero s h = absurd (omega arith)
place_taken file (suc n) [] h = refl
place_taken file (suc n) (x ∷ s) h = refl

few_more : (st : State) (p : Shape) (t : List ℕ) (at : Place) (n : ℕ) → n ≤ token_limit → is_past p n ≡ false → n + length (token_list st p t at) ≤ token_limit
few_more st (shape.Token k) t at n h e = grind (arith, nat_tests)
few_more st shape.Blank t at n h e = omega arith
few_more st shape.LineEnd t at n h e = omega arith
few_more st shape.Comment t at n h e = omega arith

all_legal : (p : ℕ → Bool) (t : List ℕ) (good : ℕ) → good ≡ prefix_length p t → length t ≤ good → prefix_length p t ≡ length t
all_legal p t good e h = let k = prefix_fits p t in omega (arith, e)

cut_here : (st : State) (p : Piece) (s : List Cell) (t : List ℕ) (good : ℕ) → piece_at st.context (bytes_of s) ≡ Some p → t ≡ take p.size (bytes_of s) → good ≡ prefix_length (may_stand p.shape) t → length t ≤ good
    → IsCut st.context (record { shape = p.shape; cells = take p.size s }) s (drop p.size s)
cut_here st p s t good e f g h = record {
  whole = take_drop p.size s;
  begins = rw (bytes_of-take p.size s) (begins_is st.context (bytes_of s) p e);
  legal = rw (bytes_of-take p.size s) (subst (λ v. prefix_length (may_stand p.shape) v ≡ length v) f (all_legal (may_stand p.shape) t good g h));
}

pub goes_by : (file : ℕ) (bytes z : List ℕ) (st : State) (ts : List Token) (s : List Cell) (p : Piece) (at : Place) (t : List ℕ) (good : ℕ) (z2 : List ℕ) (st2 : State) (ts2 : List Token) (s2 : List Cell)
    → Goes file bytes z st ts s → piece_at st.context z ≡ Some p → is_past p.shape (length ts) ≡ false → at ≡ place_of file s → t ≡ take p.size z
    → good ≡ prefix_length (may_stand p.shape) t → length t ≤ good
    → z2 ≡ drop p.size z → st2 ≡ after st p.shape t → ts2 ≡ ts ++ token_list st p.shape t at → s2 ≡ drop p.size s → Goes file bytes z2 st2 ts2 s2
goes_by file bytes z st ts s p at t good z2 st2 ts2 s2 g e past place text legal long ez est ets es =
    let bit : Bit = record { shape = p.shape; cells = take p.size s } in
    let text_is : bytes_of (take p.size s) ≡ t = bytes_of-take p.size s ∙ (ap (take p.size) g.same ∙ sym text) in
    let place_is : place_of file (take p.size s) ≡ at = place_taken file p.size s (size_fits st.context z p e).0 ∙ sym place in
    let r : Reaches file bytes st ts s = g.reaches in
    record {
      same = ap bytes_of es ∙ (bytes_of-drop p.size s ∙ (ap (drop p.size) g.same ∙ sym ez));
      reaches = record {
        pieces = r.pieces ++ bit ∷ [];
        cuts = rw es (cuts-snoc start r.pieces bit (spliced bytes) s (drop p.size s) r.cuts
            (subst (λ v. IsCut v.context bit s (drop p.size s)) r.state
            (cut_here st p s t good (subst (λ v. piece_at st.context v ≡ Some p) (sym g.same) e) (text ∙ ap (take p.size) (sym g.same)) legal long)));
        state = est ∙ (ap₂ (λ v w. after v p.shape w) r.state (sym text_is) ∙ sym (state-snoc start r.pieces bit));
        tokens = ets ∙ (ap₂ (λ v w. v ++ w) r.tokens (ap₂ (λ v w. token_list v p.shape t w) r.state (sym place_is) ∙ ap (λ v. token_list (state_after start r.pieces) p.shape v (place_of file (take p.size s))) (sym text_is)) ∙ sym (tokens-snoc file start r.pieces bit));
      };
      few = rw ets (rw (length-append ts (token_list st p.shape t at)) (few_more st p.shape t at (length ts) g.few past));
    }

none_left : (s : List Cell) (z : List ℕ) → bytes_of s ≡ z → length z ≤ 0 → s ≡ []
none_left [] z e h = refl
none_left (x ∷ s) z e h = absurd (let k = ap length e in omega arith)

pub lexes_by : (file : ℕ) (bytes z : List ℕ) (st : State) (ts : List Token) (s : List Cell) → Goes file bytes z st ts s → length z ≤ 0 → Lexes file bytes ts
lexes_by file bytes z st ts s g h = record {
  state = st;
  reaches = subst (λ v. Reaches file bytes st ts v) (none_left s z g.same h) g.reaches;
  few = g.few;
}

some_left : (s : List Cell) (z : List ℕ) → bytes_of s ≡ z → 0 < length z → 0 < length s
some_left [] z e h = absurd (let k = ap length e in omega arith)
some_left (x ∷ s) z e h = omega arith

pub refuses_nothing : (file : ℕ) (bytes z : List ℕ) (st : State) (ts : List Token) (s : List Cell) (at : Place) (why : Refusal)
    → Goes file bytes z st ts s → 0 < length z → piece_at st.context z ≡ None → at ≡ place_of file s → why ≡ cause z → Refuses file bytes (fault_of at why)
refuses_nothing file bytes z st ts s at why g h e place w = record {
  state = st;
  tokens = ts;
  rest = s;
  reaches = g.reaches;
  few = g.few;
  stuck = nothing (some_left s z g.same h) (λ q u c. none_begins st.context (bytes_of s) q u (subst (λ v. piece_at st.context v ≡ None) (sym g.same) e) c)
      (ap₂ fault_of place (w ∙ ap cause (sym g.same)));
}

pub refuses_many : (file : ℕ) (bytes z : List ℕ) (st : State) (ts : List Token) (s : List Cell) (p : Piece) (at : Place) (why : Refusal)
    → Goes file bytes z st ts s → piece_at st.context z ≡ Some p → is_past p.shape (length ts) ≡ true → at ≡ place_of file s → why ≡ too_many → Refuses file bytes (fault_of at why)
refuses_many file bytes z st ts s p at why g e past place w = record {
  state = st;
  tokens = ts;
  rest = s;
  reaches = g.reaches;
  few = g.few;
  stuck = many p.shape (take p.size (bytes_of s)) (begins_is st.context (bytes_of s) p (subst (λ v. piece_at st.context v ≡ Some p) (sym g.same) e)) past (ap₂ fault_of place w);
}

pub refuses_bad : (file : ℕ) (bytes z : List ℕ) (st : State) (ts : List Token) (s s2 : List Cell) (p : Piece) (at : Place) (t : List ℕ) (good : ℕ)
    → Goes file bytes z st ts s → piece_at st.context z ≡ Some p → is_past p.shape (length ts) ≡ false → t ≡ take p.size z → good ≡ prefix_length (may_stand p.shape) t → good < length t
    → s2 ≡ drop good s → at ≡ place_of file s2 → Refuses file bytes (fault_of at BadByte)
refuses_bad file bytes z st ts s s2 p at t good g e past text legal less es place =
    let text_is : t ≡ take p.size (bytes_of s) = text ∙ ap (take p.size) (sym g.same) in
    let short : prefix_length (may_stand p.shape) t < length t = omega (arith, legal) in
    record {
      state = st;
      tokens = ts;
      rest = s;
      reaches = g.reaches;
      few = g.few;
      stuck = bad p.shape (take p.size (bytes_of s)) (begins_is st.context (bytes_of s) p (subst (λ v. piece_at st.context v ≡ Some p) (sym g.same) e)) past
          (subst (λ v. prefix_length (may_stand p.shape) v < length v) text_is short)
          (ap (λ v. fault_of v BadByte) (place ∙ (ap (place_of file) es ∙ ap (λ v. place_of file (drop v s)) (legal ∙ ap (prefix_length (may_stand p.shape)) text_is))));
    }
