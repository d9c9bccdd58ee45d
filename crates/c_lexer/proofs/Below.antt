-- No piece that can begin is longer than what is read.
use Rattle.std.proofs.Common.{◌≡◌, ◌≤◌, ◌+◌, ℕ, zero, suc, Bool, true, false, not, ◌&&◌, ◌||◌, ◌==◌, List, [], ◌∷◌, length, Option, Some, None, refl, sym, ◌∙◌, ap, subst, arith, if◌then◌else◌}
use Rattle.std.specs.List.{list_all}
use Rattle.std.proofs.lemmas.Bool.{ne_eqb}
use Rattle.cc_base.specs.declared.lexemes.Kind.TheVariants.{Name, Number, Char, Str, Punct, HeaderName}
use Rattle.c_lexer.specs.declared.byte_class.Class.{Class}
use Rattle.c_lexer.specs.declared.byte_class.Class.TheVariants.{Letter, Digit, Dot, Quote, Apostrophe, Slash, Less, LineEnd, Blank, Other}
use Rattle.c_lexer.specs.declared.pieces.Shape.{Shape}
use Rattle.c_lexer.specs.declared.pieces.Shape.TheVariants as shape
use Rattle.c_lexer.specs.declared.pieces.Piece.{Piece}
use Rattle.c_lexer.specs.ByteClasses.{is_word, is_letter, is_digit, is_blank, goes_on, begins, begins_digit, is_no_line_end, class_of}
use Rattle.c_lexer.specs.Punctuators.{punctuator_length, is_punctuator}
use Rattle.c_lexer.specs.Pieces.{is_empty, runs_on, closes, closes_header, ends_comment, is_comment, is_piece_by}
use Rattle.c_lexer.specs.Reading.{prefix_length, number_length, close_at, header_end, comment_end, piece_of, rest_of, head_of, punctuator_piece, punctuator_at, longer_piece, slash_at, plain_at, header_at}
use Rattle.c_lexer.specs.Cutting.{Front, begins_comment, is_header}
use Rattle.c_lexer.proofs.Sizes.{cond_both, both_true}
use Rattle.c_lexer.proofs.Sound.{if_true, if_false, number_some}
use Rattle.c_lexer.proofs.Puncts.{is_mark, punct_class, punct_no_digit, punct_below}

runs_below : (p : ℕ → Bool) (t s : List ℕ) → Front t s → list_all p t ≡ true → length t ≤ prefix_length p s
runs_below p [] s f h = omega arith
runs_below p (x ∷ t) [] f h = absurd f
runs_below p (x ∷ t) (y ∷ s) f h =
    let w = both_true _ _ h in let v = runs_below p t s f.1 w.1 in
    rw (ap p (sym f.0) ∙ w.0) (omega arith)

number_below : (last : ℕ) (t s : List ℕ) → Front t s → runs_on last t ≡ true → length t ≤ number_length last s
number_below last [] s f h = omega arith
number_below last (x ∷ t) [] f h = absurd f
number_below last (x ∷ t) (y ∷ s) f h =
    let w = both_true _ _ h in let v = number_below y t s f.1 (subst (λ u. runs_on u t ≡ true) f.0 w.1) in
    rw (ap (goes_on last) (sym f.0) ∙ w.0) (omega arith)

if_empty : (t s : List ℕ) → is_empty t ≡ true → length t ≡ 0
if_empty [] s h = refl
if_empty (x ∷ t) s h = absurd (cc)

one_more : (at n : ℕ) → suc at + n ≡ at + suc n
one_more at n = omega arith

close_here : (q : ℕ) (e : Bool) (at : ℕ) (t s : List ℕ) (y : Bool) → ((z : Bool) → closes q e z t ≡ true → close_at q e z (suc at) s ≡ Some (suc at + length t))
    → (i j k : Bool) → (if i then false else if j then closes q e false t else if k then is_empty t else closes q e y t) ≡ true
    → (if i then None else if j then close_at q e false (suc at) s else if k then Some (suc at) else close_at q e y (suc at) s) ≡ Some (at + suc (length t))
close_here q e at t s y r true j k g = absurd (cc)
close_here q e at t s y r false true k g = r false g ∙ ap Some (one_more at (length t))
close_here q e at t s y r false false true g = let z = if_empty t s g in ap Some (omega arith)
close_here q e at t s y r false false false g = r y g ∙ ap Some (one_more at (length t))

-- a literal has one end
close_below : (q : ℕ) (e x : Bool) (at : ℕ) (t s : List ℕ) → Front t s → closes q e x t ≡ true → close_at q e x at s ≡ Some (at + length t)
close_below q e x at [] s f h = absurd (cc)
close_below q e x at (b ∷ t) [] f h = absurd f
close_below q e x at (b ∷ t) (c ∷ s) f h = subst (λ v. close_at q e x at (v ∷ s) ≡ Some (at + suc (length t))) f.0
    (close_here q e at t s (e && b == 92) (λ z g. close_below q e z (suc at) t s f.1 g) (b == 10) x (b == q) h)

comment_here : (at : ℕ) (t s : List ℕ) (y : Bool) → (ends_comment y t ≡ true → comment_end y (suc at) s ≡ Some (suc at + length t))
    → (i : Bool) → (if i then is_empty t else ends_comment y t) ≡ true → (if i then Some (suc at) else comment_end y (suc at) s) ≡ Some (at + suc (length t))
comment_here at t s y r true g = let z = if_empty t s g in ap Some (omega arith)
comment_here at t s y r false g = r g ∙ ap Some (one_more at (length t))

comment_below : (x : Bool) (at : ℕ) (t s : List ℕ) → Front t s → ends_comment x t ≡ true → comment_end x at s ≡ Some (at + length t)
comment_below x at [] s f h = absurd (cc)
comment_below x at (b ∷ t) [] f h = absurd f
comment_below x at (b ∷ t) (c ∷ s) f h = subst (λ v. comment_end x at (v ∷ s) ≡ Some (at + suc (length t))) f.0
    (comment_here at t s (b == 42) (λ g. comment_below (b == 42) (suc at) t s f.1 g) (x && b == 47) h)

-- a piece of this shape and so many bytes is no longer than what is read, and of the same shape where it is as long
abbrev pub Reached : ℕ → Shape → Option Piece → Type 0
Reached n q None = ⊥
Reached n q (Some p) = (n ≤ p.size) × (n ≡ p.size → q ≡ p.shape)

punct_reached : (b : ℕ) (t z : List ℕ) → is_punctuator (b ∷ t) ≡ true → Front t z → Reached (suc (length t)) (shape.Token Punct) (punctuator_at b z)
unfolding punctuator_at
punct_reached b t z h f = let v = punct_below b t z h f in some (punctuator_length b (head_of z) (head_of (rest_of z))) v
  where
    some : (v : ℕ) → suc (length t) ≤ v → Reached (suc (length t)) (shape.Token Punct) (punctuator_piece v)
    some zero g = absurd (omega arith)
    some (suc v) g = rw (ne_eqb (suc v) 0 (λ j. omega arith)) (g, λ e. refl)

digit_front : (t z : List ℕ) → Front t z → begins_digit t ≡ true → begins_digit z ≡ true
digit_front [] z f h = absurd (cc)
digit_front (x ∷ t) [] f h = absurd f
digit_front (x ∷ t) (y ∷ z) f h = ap is_digit (sym f.0) ∙ h

-- a punctuator before a digit is a dot alone
dot_punct : (b : ℕ) (t z : List ℕ) → is_punctuator (b ∷ t) ≡ true → Front t z → begins_digit z ≡ true → length t ≡ 0
dot_punct b [] z h f d = refl
dot_punct b (x ∷ t) [] h f d = absurd f
dot_punct b (x ∷ t) (y ∷ z) h f d = absurd (let e = punct_no_digit b (x ∷ t) h in let g = ap is_digit f.0 in cc)

mark_not : (k : Class) (b : ℕ) (t : List ℕ) → class_of b ≡ k → is_mark k ≡ false → is_punctuator (b ∷ t) ≡ true → ⊥
mark_not k b t e m h = let p = punct_class b t h in let q = ap is_mark e in cc

dot_reached : (q : Shape) (b : ℕ) (t z : List ℕ) → is_header q ≡ false → is_piece_by q Dot b t ≡ true → Front t z → Reached (suc (length t)) q (plain_at Dot b z)
dot_reached (shape.Token Number) b t z g h f =
    let w = both_true (begins_digit t) (runs_on b t) h in
    rw (digit_front t z f w.0) (let v = number_below b t z f w.1 in (omega arith, λ e. refl))
dot_reached (shape.Token Punct) b t z g h f = cond_both (begins_digit z) (Some (piece_of (shape.Token Number) (number_length b z + 1))) (punctuator_at b z) (Reached (suc (length t)) (shape.Token Punct))
    (λ i. let none = dot_punct b t z h f i in let some = number_some b z i in (omega arith, λ e. absurd (omega arith)))
    (λ i. punct_reached b t z h f)
dot_reached (shape.Token Name) b t z g h f = absurd (cc)
dot_reached (shape.Token Char) b t z g h f = absurd (cc)
dot_reached (shape.Token Str) b t z g h f = absurd (cc)
dot_reached (shape.Token HeaderName) b t z g h f = absurd (cc)
dot_reached shape.Blank b t z g h f = absurd (cc)
dot_reached shape.LineEnd b t z g h f = absurd (cc)
dot_reached shape.Comment b t z g h f = absurd (cc)

slash_comment : (b : ℕ) (t z : List ℕ) → is_comment t ≡ true → Front t z → Reached (suc (length t)) shape.Comment (slash_at b z)
slash_comment b [] z h f = absurd (cc)
slash_comment b (x ∷ t) [] h f = absurd f
slash_comment b (x ∷ t) (y ∷ z) h f = subst (λ v. Reached (suc (suc (length t))) shape.Comment (slash_at b (v ∷ z))) f.0
    (cond_both (x == 42) (longer_piece shape.Comment 2 (comment_end false 0 z)) _ (Reached (suc (suc (length t))) shape.Comment)
    (λ i. let u : ends_comment false t ≡ true = sym (if_true (x == 42) (ends_comment false t) (x == 47 && list_all is_no_line_end t) i) ∙ h in
    rw (comment_below false 0 t z f.1 u) (omega arith, λ e. refl))
    (λ i. let w = both_true (x == 47) (list_all is_no_line_end t) (sym (if_false (x == 42) (ends_comment false t) (x == 47 && list_all is_no_line_end t) i) ∙ h) in
    rw w.0 (let v = runs_below is_no_line_end t z f.1 w.1 in (omega arith, λ e. refl))))

abbrev pub is_token_shape : Shape → Bool
is_token_shape (shape.Token k) = true
is_token_shape p = false

slash_by : (p q r s t u v w x : Bool) → (if p then Letter else if q then Digit else if r then Dot else if s then Quote else if t then Apostrophe else if u then Slash else if v then Less else if w then LineEnd else if x then Blank else Other) ≡ Slash → u ≡ true
slash_by true q r s t u v w x e = absurd (cc)
slash_by false true r s t u v w x e = absurd (cc)
slash_by false false true s t u v w x e = absurd (cc)
slash_by false false false true t u v w x e = absurd (cc)
slash_by false false false false true u v w x e = absurd (cc)
slash_by false false false false false true v w x e = refl
slash_by false false false false false false true w x e = absurd (cc)
slash_by false false false false false false false true x e = absurd (cc)
slash_by false false false false false false false false true e = absurd (cc)
slash_by false false false false false false false false false e = absurd (cc)

is_slash : (b : ℕ) → class_of b ≡ Slash → (b == 47) ≡ true
unfolding class_of
is_slash b e = slash_by (is_letter b) (is_digit b) (b == 46) (b == 34) (b == 39) (b == 47) (b == 60) (b == 10) (is_blank b) e

-- where no comment begins, a slash begins a punctuator alone
slash_apart : (b : ℕ) (z : List ℕ) → class_of b ≡ Slash → begins_comment (b ∷ z) ≡ false → (begins 42 z ≡ false) × (begins 47 z ≡ false)
slash_apart b [] e h = (refl, refl)
slash_apart b (y ∷ z) e h = apart (b == 47) (y == 42) (y == 47) (is_slash b e) h
  where
    apart : (p q r : Bool) → p ≡ true → (p && (q || r)) ≡ false → (q ≡ false) × (r ≡ false)
    apart true true r i j = absurd (cc)
    apart true false true i j = absurd (cc)
    apart true false false i j = (refl, refl)
    apart false q r i j = absurd (cc)

slash_reached : (q : Shape) (b : ℕ) (t z : List ℕ) → class_of b ≡ Slash → (is_token_shape q ≡ true → begins_comment (b ∷ z) ≡ false) → is_piece_by q Slash b t ≡ true → Front t z → Reached (suc (length t)) q (slash_at b z)
slash_reached shape.Comment b t z e a h f = slash_comment b t z h f
slash_reached (shape.Token Punct) b t z e a h f = let w = slash_apart b z e (a refl) in rw w.0 (rw w.1 (punct_reached b t z h f))
slash_reached (shape.Token Number) b t z e a h f = absurd (cc)
slash_reached (shape.Token Name) b t z e a h f = absurd (cc)
slash_reached (shape.Token Char) b t z e a h f = absurd (cc)
slash_reached (shape.Token Str) b t z e a h f = absurd (cc)
slash_reached (shape.Token HeaderName) b t z e a h f = absurd (cc)
slash_reached shape.Blank b t z e a h f = absurd (cc)
slash_reached shape.LineEnd b t z e a h f = absurd (cc)

letter_reached : (q : Shape) (b : ℕ) (t z : List ℕ) → class_of b ≡ Letter → is_header q ≡ false → is_piece_by q Letter b t ≡ true → Front t z → Reached (suc (length t)) q (plain_at Letter b z)
letter_reached (shape.Token Name) b t z e g h f = let v = runs_below is_word t z f h in (omega arith, λ i. refl)
letter_reached (shape.Token Number) b t z e g h f = absurd (cc)
letter_reached (shape.Token Char) b t z e g h f = absurd (cc)
letter_reached (shape.Token Str) b t z e g h f = absurd (cc)
letter_reached (shape.Token Punct) b t z e g h f = absurd (mark_not Letter b t e refl h)
letter_reached (shape.Token HeaderName) b t z e g h f = absurd (cc)
letter_reached shape.Blank b t z e g h f = absurd (cc)
letter_reached shape.LineEnd b t z e g h f = absurd (cc)
letter_reached shape.Comment b t z e g h f = absurd (cc)

digit_reached : (q : Shape) (b : ℕ) (t z : List ℕ) → class_of b ≡ Digit → is_header q ≡ false → is_piece_by q Digit b t ≡ true → Front t z → Reached (suc (length t)) q (plain_at Digit b z)
digit_reached (shape.Token Name) b t z e g h f = absurd (cc)
digit_reached (shape.Token Number) b t z e g h f = let v = number_below b t z f h in (omega arith, λ i. refl)
digit_reached (shape.Token Char) b t z e g h f = absurd (cc)
digit_reached (shape.Token Str) b t z e g h f = absurd (cc)
digit_reached (shape.Token Punct) b t z e g h f = absurd (mark_not Digit b t e refl h)
digit_reached (shape.Token HeaderName) b t z e g h f = absurd (cc)
digit_reached shape.Blank b t z e g h f = absurd (cc)
digit_reached shape.LineEnd b t z e g h f = absurd (cc)
digit_reached shape.Comment b t z e g h f = absurd (cc)

quote_reached : (q : Shape) (b : ℕ) (t z : List ℕ) → class_of b ≡ Quote → is_header q ≡ false → is_piece_by q Quote b t ≡ true → Front t z → Reached (suc (length t)) q (plain_at Quote b z)
quote_reached (shape.Token Name) b t z e g h f = absurd (cc)
quote_reached (shape.Token Number) b t z e g h f = absurd (cc)
quote_reached (shape.Token Char) b t z e g h f = absurd (cc)
quote_reached (shape.Token Str) b t z e g h f = rw (close_below b true false 0 t z f h) (omega arith, λ i. refl)
quote_reached (shape.Token Punct) b t z e g h f = absurd (mark_not Quote b t e refl h)
quote_reached (shape.Token HeaderName) b t z e g h f = absurd (cc)
quote_reached shape.Blank b t z e g h f = absurd (cc)
quote_reached shape.LineEnd b t z e g h f = absurd (cc)
quote_reached shape.Comment b t z e g h f = absurd (cc)

apostrophe_reached : (q : Shape) (b : ℕ) (t z : List ℕ) → class_of b ≡ Apostrophe → is_header q ≡ false → is_piece_by q Apostrophe b t ≡ true → Front t z → Reached (suc (length t)) q (plain_at Apostrophe b z)
apostrophe_reached (shape.Token Name) b t z e g h f = absurd (cc)
apostrophe_reached (shape.Token Number) b t z e g h f = absurd (cc)
apostrophe_reached (shape.Token Char) b t z e g h f = rw (close_below b true false 0 t z f h) (omega arith, λ i. refl)
apostrophe_reached (shape.Token Str) b t z e g h f = absurd (cc)
apostrophe_reached (shape.Token Punct) b t z e g h f = absurd (mark_not Apostrophe b t e refl h)
apostrophe_reached (shape.Token HeaderName) b t z e g h f = absurd (cc)
apostrophe_reached shape.Blank b t z e g h f = absurd (cc)
apostrophe_reached shape.LineEnd b t z e g h f = absurd (cc)
apostrophe_reached shape.Comment b t z e g h f = absurd (cc)

line_reached : (q : Shape) (b : ℕ) (t z : List ℕ) → class_of b ≡ LineEnd → is_header q ≡ false → is_piece_by q LineEnd b t ≡ true → Front t z → Reached (suc (length t)) q (plain_at LineEnd b z)
line_reached (shape.Token Name) b t z e g h f = absurd (cc)
line_reached (shape.Token Number) b t z e g h f = absurd (cc)
line_reached (shape.Token Char) b t z e g h f = absurd (cc)
line_reached (shape.Token Str) b t z e g h f = absurd (cc)
line_reached (shape.Token Punct) b t z e g h f = absurd (mark_not LineEnd b t e refl h)
line_reached (shape.Token HeaderName) b t z e g h f = absurd (cc)
line_reached shape.Blank b t z e g h f = absurd (cc)
line_reached shape.LineEnd b t z e g h f = let v = if_empty t z h in (omega arith, λ i. refl)
line_reached shape.Comment b t z e g h f = absurd (cc)

blank_reached : (q : Shape) (b : ℕ) (t z : List ℕ) → class_of b ≡ Blank → is_header q ≡ false → is_piece_by q Blank b t ≡ true → Front t z → Reached (suc (length t)) q (plain_at Blank b z)
blank_reached (shape.Token Name) b t z e g h f = absurd (cc)
blank_reached (shape.Token Number) b t z e g h f = absurd (cc)
blank_reached (shape.Token Char) b t z e g h f = absurd (cc)
blank_reached (shape.Token Str) b t z e g h f = absurd (cc)
blank_reached (shape.Token Punct) b t z e g h f = absurd (mark_not Blank b t e refl h)
blank_reached (shape.Token HeaderName) b t z e g h f = absurd (cc)
blank_reached shape.Blank b t z e g h f = let v = if_empty t z h in (omega arith, λ i. refl)
blank_reached shape.LineEnd b t z e g h f = absurd (cc)
blank_reached shape.Comment b t z e g h f = absurd (cc)

less_reached : (q : Shape) (b : ℕ) (t z : List ℕ) → class_of b ≡ Less → is_header q ≡ false → is_piece_by q Less b t ≡ true → Front t z → Reached (suc (length t)) q (plain_at Less b z)
less_reached (shape.Token Name) b t z e g h f = absurd (cc)
less_reached (shape.Token Number) b t z e g h f = absurd (cc)
less_reached (shape.Token Char) b t z e g h f = absurd (cc)
less_reached (shape.Token Str) b t z e g h f = absurd (cc)
less_reached (shape.Token Punct) b t z e g h f = punct_reached b t z h f
less_reached (shape.Token HeaderName) b t z e g h f = absurd (cc)
less_reached shape.Blank b t z e g h f = absurd (cc)
less_reached shape.LineEnd b t z e g h f = absurd (cc)
less_reached shape.Comment b t z e g h f = absurd (cc)

other_reached : (q : Shape) (b : ℕ) (t z : List ℕ) → class_of b ≡ Other → is_header q ≡ false → is_piece_by q Other b t ≡ true → Front t z → Reached (suc (length t)) q (plain_at Other b z)
other_reached (shape.Token Name) b t z e g h f = absurd (cc)
other_reached (shape.Token Number) b t z e g h f = absurd (cc)
other_reached (shape.Token Char) b t z e g h f = absurd (cc)
other_reached (shape.Token Str) b t z e g h f = absurd (cc)
other_reached (shape.Token Punct) b t z e g h f = punct_reached b t z h f
other_reached (shape.Token HeaderName) b t z e g h f = absurd (cc)
other_reached shape.Blank b t z e g h f = absurd (cc)
other_reached shape.LineEnd b t z e g h f = absurd (cc)
other_reached shape.Comment b t z e g h f = absurd (cc)

pub plain_reached : (k : Class) (q : Shape) (b : ℕ) (t z : List ℕ) → class_of b ≡ k → is_header q ≡ false → (is_token_shape q ≡ true → begins_comment (b ∷ z) ≡ false) → is_piece_by q k b t ≡ true → Front t z → Reached (suc (length t)) q (plain_at k b z)
plain_reached Letter q b t z e g a h f = letter_reached q b t z e g h f
plain_reached Digit q b t z e g a h f = digit_reached q b t z e g h f
plain_reached Dot q b t z e g a h f = dot_reached q b t z g h f
plain_reached Quote q b t z e g a h f = quote_reached q b t z e g h f
plain_reached Apostrophe q b t z e g a h f = apostrophe_reached q b t z e g h f
plain_reached Slash q b t z e g a h f = slash_reached q b t z e a h f
plain_reached Less q b t z e g a h f = less_reached q b t z e g h f
plain_reached LineEnd q b t z e g a h f = line_reached q b t z e g h f
plain_reached Blank q b t z e g a h f = blank_reached q b t z e g h f
plain_reached Other q b t z e g a h f = other_reached q b t z e g h f

header_front : (c : ℕ) (t z : List ℕ) → Front t z → 1 ≤ length t → begins c t ≡ begins c z
header_front c [] z f h = absurd (omega arith)
header_front c (x ∷ t) [] f h = absurd f
header_front c (x ∷ t) (y ∷ z) f h = ap (λ v. v == c) f.0

closed_some : (q : ℕ) (e x : Bool) (t : List ℕ) → closes q e x t ≡ true → 1 ≤ length t
closed_some q e x [] h = absurd (cc)
closed_some q e x (b ∷ t) h = omega arith

header_end_below : (c : ℕ) (t z : List ℕ) → closes_header c t ≡ true → Front t z → header_end c z ≡ Some (length t)
header_end_below c t z h f =
    let w = both_true (not (begins c t)) (closes c false false t) h in
    let other : begins c z ≡ false = sym (header_front c t z f (closed_some c false false t w.1)) ∙ was (begins c t) w.0 in
    rw other (close_below c false false 0 t z f w.1 ∙ ap Some (omega arith))
  where
    was : (p : Bool) → not p ≡ true → p ≡ false
    was true i = absurd (cc)
    was false i = refl

-- a header name that can begin is the one that is read
pub header_reached : (k : Class) (b : ℕ) (t z : List ℕ) → is_piece_by (shape.Token HeaderName) k b t ≡ true → Front t z → Reached (suc (length t)) (shape.Token HeaderName) (header_at k z)
header_reached Quote b t z h f = rw (header_end_below 34 t z h f) (omega arith, λ i. refl)
header_reached Less b t z h f = rw (header_end_below 62 t z h f) (omega arith, λ i. refl)
header_reached Letter b t z h f = absurd (cc)
header_reached Digit b t z h f = absurd (cc)
header_reached Dot b t z h f = absurd (cc)
header_reached Apostrophe b t z h f = absurd (cc)
header_reached Slash b t z h f = absurd (cc)
header_reached LineEnd b t z h f = absurd (cc)
header_reached Blank b t z h f = absurd (cc)
header_reached Other b t z h f = absurd (cc)
