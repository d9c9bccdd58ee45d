-- Steps over the characters of a file as it is written.
use Rattle.std.proofs.Common.{◌≡◌, ◌≤◌, ◌<◌, ◌+◌, ◌-◌, ◌^◌, ℕ, zero, suc, get_or, Bool, true, false, not, ◌&&◌, ◌||◌, ◌==◌, List, [], ◌∷◌, drop, length, refl, sym, ◌∙◌, ap, subst, arith, length-drop, inl, inr, ◌⊎◌}
use Rattle.std.proofs.lemmas.Bool.{eqb-true, ne_eqb}
use Rattle.std.proofs.lemmas.Bool.Decides.{nat_tests}
use Rattle.cc_base.specs.declared.diagnostics.Place.{Place}
use Rattle.c_lexer.specs.ByteClasses.{begins}
use Rattle.c_lexer.specs.Splicing.{Cell, cell_of, placed, joined, spliced_from, bytes_of, begins_return, skipped, skipped_by, first_byte, is_plain, line_after, column_after, is_no_cell, ends_line, step_size, left_after, place_of}

-- a way of so many characters is what is left of a longer one
pub record Moves (line column count : ℕ) (from : List ℕ) (l c left : ℕ) (s : List ℕ) : Type 0 where
  pub same : drop left (spliced_from l c s) ≡ drop count (spliced_from line column from)
  pub start : 1 ≤ c
  pub small : l + c + length s ≤ 2 ^ 31

-- a splice is no backslash alone
joined_apart : (x : Cell) (p : List Cell) → (x.byte == 92 && begins 10 (bytes_of p)) ≡ false → joined (x ∷ p) ≡ x ∷ joined p
joined_apart x [] h = refl
joined_apart x (y ∷ p) h = rw h refl

first_placed : (l c : ℕ) (s : List ℕ) → begins 10 s ≡ false → begins_return s ≡ false → begins 10 (bytes_of (placed l c s)) ≡ false
first_placed l c [] h k = refl
first_placed l c (b ∷ s) h k = rw k h

none_is : (p q r t : Bool) → skipped_by p q r t ≡ 0 → (p && (q || r)) ≡ false
none_is true true r t h = absurd (omega arith)
none_is true false true t h = absurd (omega arith)
none_is true false false t h = refl
none_is false q r t h = refl

plain_by : (p q r t : Bool) → (p && t) ≡ false → skipped_by p q r t ≡ 0 → (t && q) ≡ false
plain_by true q r true h k = absurd (cc)
plain_by true q r false h k = refl
plain_by false true r true h k = absurd (omega arith)
plain_by false false r true h k = refl
plain_by false q r false h k = refl

apart : (b : ℕ) → (b == 92 && b == 13) ≡ false
apart b = grind (arith, nat_tests)

and_first : (p q r x : Bool) → (p && (q || r)) ≡ false → (q ≡ false → r ≡ false → x ≡ false) → (p && x) ≡ false
and_first true true r x h k = absurd (cc)
and_first true false true x h k = absurd (cc)
and_first true false false x h k = k refl refl
and_first false q r x h k = refl

-- where no splice stands, the first byte is a character
pub step : (l c b : ℕ) (s : List ℕ) → skipped (b ∷ s) ≡ 0 → spliced_from l c (b ∷ s) ≡ cell_of b l c ∷ spliced_from (line_after (b == 10) l) (column_after (b == 10) c) s
unfolding spliced_from
step l c b s h = rw (plain_by (b == 92) (begins 10 s) (begins_return s) (b == 13) (apart b) h)
    (joined_apart (cell_of b l c) (placed (line_after (b == 10) l) (column_after (b == 10) c) s)
    (and_first (b == 92) (begins 10 s) (begins_return s) _ (none_is (b == 92) (begins 10 s) (begins_return s) (b == 13) h)
    (first_placed (line_after (b == 10) l) (column_after (b == 10) c) s)))

over_line : (l c b y : ℕ) (s : List ℕ) → b ≡ 92 → y ≡ 10 → spliced_from l c (b ∷ (y ∷ s)) ≡ spliced_from (l + 1) 1 s
unfolding spliced_from
over_line l c b y s e f = rw e (rw f refl)

over_return_line : (l c b y z : ℕ) (s : List ℕ) → b ≡ 92 → y ≡ 13 → z ≡ 10 → spliced_from l c (b ∷ (y ∷ (z ∷ s))) ≡ spliced_from (l + 1) 1 s
unfolding spliced_from
over_return_line l c b y z s e f g = rw e (rw f (rw g refl))

over_return : (l c b y : ℕ) (s : List ℕ) → b ≡ 13 → y ≡ 10 → spliced_from l c (b ∷ (y ∷ s)) ≡ spliced_from l (c + 1) (y ∷ s)
unfolding spliced_from
over_return l c b y s e f = rw e (rw f refl)

both : (p q : Bool) → (p && q) ≡ true → (p ≡ true) × (q ≡ true)
both true true h = (refl, refl)
both true false h = absurd (cc)
both false q h = absurd (cc)

-- so many bytes at the front are no character, and the place goes on behind them
abbrev Over : ℕ → ℕ → ℕ → List ℕ → Type 0
Over n l c s = spliced_from l c s ≡ spliced_from (line_after (not (n == 1)) l) (column_after (not (n == 1)) c) (drop n s)

over_by : (l c b : ℕ) (s : List ℕ) (p q r t : Bool) → b == 92 ≡ p → begins 10 s ≡ q → begins_return s ≡ r → b == 13 ≡ t → 0 < skipped_by p q r t → Over (skipped_by p q r t) l c (b ∷ s)
over_by l c b s false q r false e f g h k = absurd (omega arith)
over_by l c b s false false r true e f g h k = absurd (omega arith)
over_by l c b s true false false t e f g h k = absurd (omega arith)
over_by l c b [] p true r t e f g h k = absurd (cc)
over_by l c b [] p q true t e f g h k = absurd (cc)
over_by l c b (y ∷ s) false true r true e f g h k = over_return l c b y s (eqb-true b 13 h) (eqb-true y 10 f)
over_by l c b (y ∷ s) true true r t e f g h k = over_line l c b y s (eqb-true b 92 e) (eqb-true y 10 f)
over_by l c b (y ∷ []) true false true t e f g h k = absurd (grind arith)
over_by l c b (y ∷ (z ∷ s)) true false true t e f g h k =
    let two = both (y == 13) (z == 10) g in over_return_line l c b y z s (eqb-true b 92 e) (eqb-true y 13 two.0) (eqb-true z 10 two.1)

over_is : (l c b : ℕ) (s : List ℕ) → 0 < skipped (b ∷ s) → Over (skipped (b ∷ s)) l c (b ∷ s)
over_is l c b s k = over_by l c b s (b == 92) (begins 10 s) (begins_return s) (b == 13) refl refl refl refl k

over_at : (n l c b : ℕ) (s : List ℕ) → n ≡ skipped (b ∷ s) → 0 < n → Over n l c (b ∷ s)
over_at n l c b s e k = subst (λ v. Over v l c (b ∷ s)) (sym e) (over_is l c b s (omega (arith, e)))

starts : (ends : Bool) (c : ℕ) → 1 ≤ column_after ends c
starts true c = omega arith
starts false c = omega arith

shorter : (ends : Bool) (l c n : ℕ) → 1 ≤ c → l + c + suc n ≤ 2 ^ 31 → line_after ends l + column_after ends c + n ≤ 2 ^ 31
shorter true l c n h k = omega arith
shorter false l c n h k = omega arith

unskipped : (p q r t : Bool) → (not p && not t) ≡ true → skipped_by p q r t ≡ 0
unskipped true q r t h = absurd (cc)
unskipped false q r true h = absurd (cc)
unskipped false q r false h = refl

abbrev pub place_at : ℕ → ℕ → ℕ → Place
place_at file l c = record { file = file; line = l; col = c }

more : (n : ℕ) → (suc n == 0) ≡ false
more n = ne_eqb (suc n) 0 (λ j. omega arith)

ends_over : (n b : ℕ) → ends_line (suc n) b ≡ not (suc n == 1)
ends_over n b = rw (more n) refl

size_over : (n : ℕ) → step_size (suc n) ≡ suc n
size_over n = rw (more n) refl

left_over : (n left : ℕ) → left_after (suc n) left ≡ left
left_over n left = rw (more n) refl

one_or_more : (n : ℕ) → ((not (suc n == 1) ≡ false) × (n ≡ 0)) ⊎ ((not (suc n == 1) ≡ true) × (1 ≤ n))
one_or_more n = grind (arith, nat_tests)

fewer : (ends : Bool) (n l c m : ℕ) → not (suc n == 1) ≡ ends → 1 ≤ c → suc n ≤ m → l + c + m ≤ 2 ^ 31 → line_after ends l + column_after ends c + (m - suc n) ≤ 2 ^ 31
fewer true n l c m e h k f = let two : 1 ≤ n = elim (one_or_more n) [ inl w ↦ absurd (cc) | inr w ↦ w.1 ] in omega arith
fewer false n l c m e h k f = omega arith

move_by : (line column count : ℕ) (from : List ℕ) (l c left over b : ℕ) (s : List ℕ) → over ≡ skipped (b ∷ s) → over ≤ length (b ∷ s)
    → Moves line column count from l c left (b ∷ s) → 0 < over + left
    → Moves line column count from (line_after (ends_line over b) l) (column_after (ends_line over b) c) (left_after over left) (drop (step_size over) (b ∷ s))
move_by line column count from l c zero zero b s e f m k = absurd (omega arith)
move_by line column count from l c (suc left) zero b s e f m k = record {
  same = let less : suc left - 1 ≡ left = omega arith in rw less (ap (λ v. drop (suc left) v) (sym (step l c b s (sym e))) ∙ m.same);
  start = starts (b == 10) c;
  small = shorter (b == 10) l c (length s) m.start m.small;
}
move_by line column count from l c left (suc over) b s e f m k = record {
  same = rw (ends_over over b) (rw (size_over over) (rw (left_over over left) (ap (λ v. drop left v) (sym (over_at (suc over) l c b s e (omega arith))) ∙ m.same)));
  start = starts (ends_line (suc over) b) c;
  small = rw (ends_over over b) (rw (size_over over) (rw (length-drop (suc over) (b ∷ s)) (fewer (not (suc over == 1)) over l c (length (b ∷ s)) refl m.start f m.small)));
}

pub moves_on : (line column count : ℕ) (from : List ℕ) (l c left : ℕ) (s : List ℕ) (over b : ℕ) → Moves line column count from l c left s → 0 < length s
    → over ≡ skipped s → over ≤ length s → b ≡ get_or s 0 0 → 0 < over + left
    → Moves line column count from (line_after (ends_line over b) l) (column_after (ends_line over b) c) (left_after over left) (drop (step_size over) s)
moves_on line column count from l c left [] over b m h e f g k = absurd (omega arith)
moves_on line column count from l c left (x ∷ s) over b m h e f g k = rw g (move_by line column count from l c left over x s e f m k)

-- bytes that are plain are their own characters
pub plain_bytes : (l c : ℕ) (s : List ℕ) → is_plain s ≡ true → bytes_of (spliced_from l c s) ≡ s
unfolding spliced_from
plain_bytes l c [] h = refl
plain_bytes l c (b ∷ s) h = let two = both _ _ h in let none : skipped (b ∷ s) ≡ 0 = unskipped (b == 92) (begins 10 s) (begins_return s) (b == 13) two.0 in
    ap bytes_of (step l c b s none) ∙ ap (λ v. b ∷ v) (plain_bytes (line_after (b == 10) l) (column_after (b == 10) c) s two.1)

nil_is : (l c : ℕ) → spliced_from l c [] ≡ []
unfolding spliced_from
nil_is l c = refl

pub some_left : (l c : ℕ) (s : List ℕ) → 0 < length (spliced_from l c s) → 0 < length s
some_left l c [] h = absurd (let e = ap length (nil_is l c) in omega arith)
some_left l c (b ∷ s) h = omega arith

pub place_is : (file l c : ℕ) (s : List ℕ) → skipped s ≡ 0 → 0 < length s → place_at file l c ≡ place_of file (spliced_from l c s)
place_is file l c [] h k = absurd (omega arith)
place_is file l c (b ∷ s) h k = sym (ap (place_of file) (step l c b s h))

pub byte_is : (l c : ℕ) (s : List ℕ) → skipped s ≡ 0 → 0 < length s → get_or s 0 0 ≡ first_byte (spliced_from l c s)
byte_is l c [] h k = absurd (omega arith)
byte_is l c (b ∷ s) h k = sym (ap first_byte (step l c b s h))

pub empty_is : (l c : ℕ) (s : List ℕ) → s ≡ [] → spliced_from l c s ≡ []
empty_is l c s h = rw h (nil_is l c)

pub moves_to : (line column count : ℕ) (from : List ℕ) (l c left : ℕ) (s : List ℕ) (over b : ℕ) (ends : Bool) (l2 c2 left2 n : ℕ) (s2 : List ℕ)
    → Moves line column count from l c left s → 0 < length s → over ≡ skipped s → over ≤ length s → b ≡ get_or s 0 0 → 0 < over + left
    → ends ≡ ends_line over b → l2 ≡ line_after ends l → c2 ≡ column_after ends c → left2 ≡ left_after over left → n ≡ step_size over → s2 ≡ drop n s
    → Moves line column count from l2 c2 left2 s2
moves_to line column count from l c left s over b ends l2 c2 left2 n s2 m h e f g k p q r t u v =
    rw v (rw u (rw t (rw r (rw q (rw p (moves_on line column count from l c left s over b m h e f g k))))))

-- where nothing is left, the way ends
pub ends_here : (line column count : ℕ) (from : List ℕ) (l c left : ℕ) (s : List ℕ) → Moves line column count from l c left s → s ≡ [] → spliced_from l c s ≡ drop count (spliced_from line column from)
ends_here line column count from l c left s m e =
    let none : spliced_from l c s ≡ [] = empty_is l c s e in
    none ∙ (sym (drop_none left) ∙ (ap (drop left) (sym none) ∙ m.same))
  where
    drop_none : (n : ℕ) → drop {A = Cell} n [] ≡ []
    drop_none zero = refl
    drop_none (suc n) = refl

pub empty_tells : (l c : ℕ) (s : List ℕ) → skipped s ≡ 0 → (length s == 0) ≡ is_no_cell (spliced_from l c s)
empty_tells l c [] h = sym (ap is_no_cell (nil_is l c))
empty_tells l c (b ∷ s) h = more (length s) ∙ sym (ap is_no_cell (step l c b s h))

pub bytes_of-drop : (n : ℕ) (s : List Cell) → bytes_of (drop n s) ≡ drop n (bytes_of s)
bytes_of-drop zero s = refl
bytes_of-drop (suc n) [] = refl
bytes_of-drop (suc n) (x ∷ s) = bytes_of-drop n s
