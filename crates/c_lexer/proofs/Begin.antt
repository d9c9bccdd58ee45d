-- What is read is the longest piece, and the only one.
use Rattle.std.proofs.Common.{◌≡◌, ◌≤◌, ◌+◌, ℕ, zero, suc, Bool, true, false, ◌&&◌, ◌||◌, ◌==◌, List, [], ◌∷◌, length, take, Option, Some, None, refl, sym, ◌∙◌, ap, ap₂, subst, arith, length-take}
use Rattle.std.proofs.lemmas.Bool.{eqb-true}
use Rattle.cc_base.specs.declared.lexemes.Kind.TheVariants.{Name, Number, Char, Str, Punct, HeaderName}
use Rattle.c_lexer.specs.declared.byte_class.Class.{Class}
use Rattle.c_lexer.specs.declared.byte_class.Class.TheVariants.{Letter, Digit, Dot, Quote, Apostrophe, Slash, Less, LineEnd, Blank, Other}
use Rattle.c_lexer.specs.declared.pieces.Shape.{Shape}
use Rattle.c_lexer.specs.declared.pieces.Shape.TheVariants as shape
use Rattle.c_lexer.specs.declared.pieces.Piece.{Piece}
use Rattle.c_lexer.specs.declared.pieces.Context.{Context}
use Rattle.c_lexer.specs.declared.pieces.Context.TheVariants as context
use Rattle.c_lexer.specs.ByteClasses.{begins, begins_digit, is_no_line_end, class_of}
use Rattle.c_lexer.specs.Punctuators.{punctuator_length}
use Rattle.c_lexer.specs.Pieces.{is_piece_by}
use Rattle.c_lexer.specs.Reading.{prefix_length, number_length, close_at, header_end, comment_end, piece_of, rest_of, head_of, punctuator_at, longer_piece, plain_at, or_else, header_at, piece_by, piece_at}
use Rattle.c_lexer.specs.Cutting.{Front, begins_comment, is_header, IsAllowed, IsBeaten, CanBegin, Begins}
use Rattle.c_lexer.proofs.Sizes.{cond_both, size_fits}
use Rattle.c_lexer.proofs.Sound.{IsSound, plain_sound, header_sound}
use Rattle.c_lexer.proofs.Below.{Reached, is_token_shape, plain_reached, header_reached}

abbrev HeaderIf : Option Piece → Type 0
HeaderIf None = Unit {0}
HeaderIf (Some p) = is_header p.shape ≡ true

abbrev PlainIf : Option Piece → Type 0
PlainIf None = Unit {0}
PlainIf (Some p) = is_header p.shape ≡ false

longer_header : (o : Option ℕ) → HeaderIf (longer_piece (shape.Token HeaderName) 1 o)
longer_header None = tt
longer_header (Some n) = refl

longer_plain : (q : Shape) (more : ℕ) (o : Option ℕ) → is_header q ≡ false → PlainIf (longer_piece q more o)
longer_plain q more None h = tt
longer_plain q more (Some n) h = h

punct_plain : (b : ℕ) (z : List ℕ) → PlainIf (punctuator_at b z)
unfolding punctuator_at
punct_plain b z = cond_both (punctuator_length b (head_of z) (head_of (rest_of z)) == 0) None (Some (piece_of (shape.Token Punct) (punctuator_length b (head_of z) (head_of (rest_of z))))) PlainIf (λ i. tt) (λ i. refl)

header_shape : (k : Class) (z : List ℕ) → HeaderIf (header_at k z)
header_shape Quote z = longer_header (header_end 34 z)
header_shape Less z = longer_header (header_end 62 z)
header_shape Letter z = tt
header_shape Digit z = tt
header_shape Dot z = tt
header_shape Apostrophe z = tt
header_shape Slash z = tt
header_shape LineEnd z = tt
header_shape Blank z = tt
header_shape Other z = tt

plain_shape : (k : Class) (b : ℕ) (z : List ℕ) → PlainIf (plain_at k b z)
plain_shape Letter b z = refl
plain_shape Digit b z = refl
plain_shape Dot b z = cond_both (begins_digit z) (Some (piece_of (shape.Token Number) (number_length b z + 1))) (punctuator_at b z) PlainIf (λ i. refl) (λ i. punct_plain b z)
plain_shape Quote b z = longer_plain (shape.Token Str) 1 (close_at b true false 0 z) refl
plain_shape Apostrophe b z = longer_plain (shape.Token Char) 1 (close_at b true false 0 z) refl
plain_shape Slash b z = cond_both (begins 42 z) (longer_piece shape.Comment 2 (comment_end false 0 (rest_of z))) _ PlainIf
    (λ i. longer_plain shape.Comment 2 (comment_end false 0 (rest_of z)) refl)
    (λ i. cond_both (begins 47 z) (Some (piece_of shape.Comment (prefix_length is_no_line_end (rest_of z) + 2))) (punctuator_at b z) PlainIf (λ j. refl) (λ j. punct_plain b z))
plain_shape LineEnd b z = refl
plain_shape Blank b z = refl
plain_shape Less b z = punct_plain b z
plain_shape Other b z = punct_plain b z

-- the context and the place allow a piece
pub allowed_from : (c : Context) (q : Shape) (s : List ℕ) → (is_header q ≡ true → c ≡ context.AfterInclude) → (is_token_shape q ≡ true → begins_comment s ≡ false) → IsAllowed c q s
allowed_from context.AfterInclude (shape.Token k) s h a = a refl
allowed_from context.AfterInclude shape.Blank s h a = tt
allowed_from context.AfterInclude shape.LineEnd s h a = tt
allowed_from context.AfterInclude shape.Comment s h a = tt
allowed_from context.LineStart (shape.Token Name) s h a = a refl
allowed_from context.LineStart (shape.Token Number) s h a = a refl
allowed_from context.LineStart (shape.Token Char) s h a = a refl
allowed_from context.LineStart (shape.Token Str) s h a = a refl
allowed_from context.LineStart (shape.Token Punct) s h a = a refl
allowed_from context.LineStart (shape.Token HeaderName) s h a = absurd (let e = h refl in cc)
allowed_from context.LineStart shape.Blank s h a = tt
allowed_from context.LineStart shape.LineEnd s h a = tt
allowed_from context.LineStart shape.Comment s h a = tt
allowed_from context.AfterHash (shape.Token Name) s h a = a refl
allowed_from context.AfterHash (shape.Token Number) s h a = a refl
allowed_from context.AfterHash (shape.Token Char) s h a = a refl
allowed_from context.AfterHash (shape.Token Str) s h a = a refl
allowed_from context.AfterHash (shape.Token Punct) s h a = a refl
allowed_from context.AfterHash (shape.Token HeaderName) s h a = absurd (let e = h refl in cc)
allowed_from context.AfterHash shape.Blank s h a = tt
allowed_from context.AfterHash shape.LineEnd s h a = tt
allowed_from context.AfterHash shape.Comment s h a = tt
allowed_from context.Plain (shape.Token Name) s h a = a refl
allowed_from context.Plain (shape.Token Number) s h a = a refl
allowed_from context.Plain (shape.Token Char) s h a = a refl
allowed_from context.Plain (shape.Token Str) s h a = a refl
allowed_from context.Plain (shape.Token Punct) s h a = a refl
allowed_from context.Plain (shape.Token HeaderName) s h a = absurd (let e = h refl in cc)
allowed_from context.Plain shape.Blank s h a = tt
allowed_from context.Plain shape.LineEnd s h a = tt
allowed_from context.Plain shape.Comment s h a = tt

pub allowed_token : (c : Context) (q : Shape) (s : List ℕ) → IsAllowed c q s → is_token_shape q ≡ true → begins_comment s ≡ false
allowed_token context.AfterInclude (shape.Token k) s a h = a
allowed_token context.AfterInclude shape.Blank s a h = absurd (cc)
allowed_token context.AfterInclude shape.LineEnd s a h = absurd (cc)
allowed_token context.AfterInclude shape.Comment s a h = absurd (cc)
allowed_token context.LineStart (shape.Token Name) s a h = a
allowed_token context.LineStart (shape.Token Number) s a h = a
allowed_token context.LineStart (shape.Token Char) s a h = a
allowed_token context.LineStart (shape.Token Str) s a h = a
allowed_token context.LineStart (shape.Token Punct) s a h = a
allowed_token context.LineStart (shape.Token HeaderName) s a h = absurd a
allowed_token context.LineStart shape.Blank s a h = absurd (cc)
allowed_token context.LineStart shape.LineEnd s a h = absurd (cc)
allowed_token context.LineStart shape.Comment s a h = absurd (cc)
allowed_token context.AfterHash (shape.Token Name) s a h = a
allowed_token context.AfterHash (shape.Token Number) s a h = a
allowed_token context.AfterHash (shape.Token Char) s a h = a
allowed_token context.AfterHash (shape.Token Str) s a h = a
allowed_token context.AfterHash (shape.Token Punct) s a h = a
allowed_token context.AfterHash (shape.Token HeaderName) s a h = absurd a
allowed_token context.AfterHash shape.Blank s a h = absurd (cc)
allowed_token context.AfterHash shape.LineEnd s a h = absurd (cc)
allowed_token context.AfterHash shape.Comment s a h = absurd (cc)
allowed_token context.Plain (shape.Token Name) s a h = a
allowed_token context.Plain (shape.Token Number) s a h = a
allowed_token context.Plain (shape.Token Char) s a h = a
allowed_token context.Plain (shape.Token Str) s a h = a
allowed_token context.Plain (shape.Token Punct) s a h = a
allowed_token context.Plain (shape.Token HeaderName) s a h = absurd a
allowed_token context.Plain shape.Blank s a h = absurd (cc)
allowed_token context.Plain shape.LineEnd s a h = absurd (cc)
allowed_token context.Plain shape.Comment s a h = absurd (cc)

allowed_header : (c : Context) (q : Shape) (s : List ℕ) → IsAllowed c q s → is_header q ≡ true → c ≡ context.AfterInclude
allowed_header context.AfterInclude q s a h = refl
allowed_header context.LineStart (shape.Token Name) s a h = absurd (cc)
allowed_header context.LineStart (shape.Token Number) s a h = absurd (cc)
allowed_header context.LineStart (shape.Token Char) s a h = absurd (cc)
allowed_header context.LineStart (shape.Token Str) s a h = absurd (cc)
allowed_header context.LineStart (shape.Token Punct) s a h = absurd (cc)
allowed_header context.LineStart (shape.Token HeaderName) s a h = absurd a
allowed_header context.LineStart shape.Blank s a h = absurd (cc)
allowed_header context.LineStart shape.LineEnd s a h = absurd (cc)
allowed_header context.LineStart shape.Comment s a h = absurd (cc)
allowed_header context.AfterHash (shape.Token Name) s a h = absurd (cc)
allowed_header context.AfterHash (shape.Token Number) s a h = absurd (cc)
allowed_header context.AfterHash (shape.Token Char) s a h = absurd (cc)
allowed_header context.AfterHash (shape.Token Str) s a h = absurd (cc)
allowed_header context.AfterHash (shape.Token Punct) s a h = absurd (cc)
allowed_header context.AfterHash (shape.Token HeaderName) s a h = absurd a
allowed_header context.AfterHash shape.Blank s a h = absurd (cc)
allowed_header context.AfterHash shape.LineEnd s a h = absurd (cc)
allowed_header context.AfterHash shape.Comment s a h = absurd (cc)
allowed_header context.Plain (shape.Token Name) s a h = absurd (cc)
allowed_header context.Plain (shape.Token Number) s a h = absurd (cc)
allowed_header context.Plain (shape.Token Char) s a h = absurd (cc)
allowed_header context.Plain (shape.Token Str) s a h = absurd (cc)
allowed_header context.Plain (shape.Token Punct) s a h = absurd (cc)
allowed_header context.Plain (shape.Token HeaderName) s a h = absurd a
allowed_header context.Plain shape.Blank s a h = absurd (cc)
allowed_header context.Plain shape.LineEnd s a h = absurd (cc)
allowed_header context.Plain shape.Comment s a h = absurd (cc)

-- where no slash stands, no comment begins
no_comment : (k : Class) (b : ℕ) (z : List ℕ) → class_of b ≡ k → (k ≡ Slash → ⊥) → begins_comment (b ∷ z) ≡ false
unfolding class_of
no_comment k b [] e h = refl
no_comment k b (y ∷ z) e h = none (b == 47) (y == 42 || y == 47) (λ i. h (sym e ∙ ap class_of (eqb-true b 47 i)))
  where
    none : (p q : Bool) → (p ≡ true → ⊥) → (p && q) ≡ false
    none true q f = absurd (f refl)
    none false q f = refl

slash_no_comment : (b : ℕ) (z : List ℕ) → begins 42 z ≡ false → begins 47 z ≡ false → begins_comment (b ∷ z) ≡ false
slash_no_comment b [] h k = refl
slash_no_comment b (y ∷ z) h k = none (b == 47) (y == 42) (y == 47) h k
  where
    none : (p q r : Bool) → q ≡ false → r ≡ false → (p && (q || r)) ≡ false
    none p true r i j = absurd (cc)
    none p false true i j = absurd (cc)
    none true false false i j = refl
    none false false false i j = refl

abbrev AllowIf : ℕ → List ℕ → Option Piece → Type 0
AllowIf b z None = Unit {0}
AllowIf b z (Some p) = is_token_shape p.shape ≡ true → begins_comment (b ∷ z) ≡ false

allow_any : (b : ℕ) (z : List ℕ) (o : Option Piece) → begins_comment (b ∷ z) ≡ false → AllowIf b z o
allow_any b z None h = tt
allow_any b z (Some p) h = λ i. h

comment_allow : (b : ℕ) (z : List ℕ) (o : Option ℕ) → AllowIf b z (longer_piece shape.Comment 2 o)
comment_allow b z None = tt
comment_allow b z (Some n) = λ i. absurd (cc)

plain_allow : (k : Class) (b : ℕ) (z : List ℕ) → class_of b ≡ k → AllowIf b z (plain_at k b z)
plain_allow Slash b z e = cond_both (begins 42 z) (longer_piece shape.Comment 2 (comment_end false 0 (rest_of z))) _ (AllowIf b z)
    (λ i. comment_allow b z (comment_end false 0 (rest_of z)))
    (λ i. cond_both (begins 47 z) (Some (piece_of shape.Comment (prefix_length is_no_line_end (rest_of z) + 2))) (punctuator_at b z) (AllowIf b z)
    (λ j. λ v. absurd (cc)) (λ j. allow_any b z (punctuator_at b z) (slash_no_comment b z i j)))
plain_allow Letter b z e = allow_any b z (plain_at Letter b z) (no_comment Letter b z e (λ i. cc))
plain_allow Digit b z e = allow_any b z (plain_at Digit b z) (no_comment Digit b z e (λ i. cc))
plain_allow Dot b z e = allow_any b z (plain_at Dot b z) (no_comment Dot b z e (λ i. cc))
plain_allow Quote b z e = allow_any b z (plain_at Quote b z) (no_comment Quote b z e (λ i. cc))
plain_allow Apostrophe b z e = allow_any b z (plain_at Apostrophe b z) (no_comment Apostrophe b z e (λ i. cc))
plain_allow Less b z e = allow_any b z (plain_at Less b z) (no_comment Less b z e (λ i. cc))
plain_allow LineEnd b z e = allow_any b z (plain_at LineEnd b z) (no_comment LineEnd b z e (λ i. cc))
plain_allow Blank b z e = allow_any b z (plain_at Blank b z) (no_comment Blank b z e (λ i. cc))
plain_allow Other b z e = allow_any b z (plain_at Other b z) (no_comment Other b z e (λ i. cc))

header_allow : (k : Class) (b : ℕ) (z : List ℕ) → class_of b ≡ k → AllowIf b z (header_at k z)
header_allow Letter b z e = allow_any b z (header_at Letter z) (no_comment Letter b z e (λ i. cc))
header_allow Digit b z e = allow_any b z (header_at Digit z) (no_comment Digit b z e (λ i. cc))
header_allow Dot b z e = allow_any b z (header_at Dot z) (no_comment Dot b z e (λ i. cc))
header_allow Quote b z e = allow_any b z (header_at Quote z) (no_comment Quote b z e (λ i. cc))
header_allow Apostrophe b z e = allow_any b z (header_at Apostrophe z) (no_comment Apostrophe b z e (λ i. cc))
header_allow Slash b z e = tt
header_allow Less b z e = allow_any b z (header_at Less z) (no_comment Less b z e (λ i. cc))
header_allow LineEnd b z e = allow_any b z (header_at LineEnd z) (no_comment LineEnd b z e (λ i. cc))
header_allow Blank b z e = allow_any b z (header_at Blank z) (no_comment Blank b z e (λ i. cc))
header_allow Other b z e = allow_any b z (header_at Other z) (no_comment Other b z e (λ i. cc))

front_take : (n : ℕ) (s : List ℕ) → Front (take n s) s
front_take zero s = tt
front_take (suc n) [] = tt
front_take (suc n) (x ∷ s) = (refl, front_take n s)

-- what is read can begin
abbrev CanIf : Context → ℕ → List ℕ → Option Piece → Type 0
CanIf c b z None = Unit {0}
CanIf c b z (Some p) = CanBegin c (b ∷ z) p.shape (take p.size (b ∷ z))

can_if : (c : Context) (k : Class) (b : ℕ) (z : List ℕ) (o : Option Piece) → class_of b ≡ k → IsSound k b z o → AllowIf b z o → ((p : Piece) → o ≡ Some p → is_header p.shape ≡ true → c ≡ context.AfterInclude) → CanIf c b z o
can_if c k b z None e s a h = tt
can_if c k b z (Some p) e s a h = record {
  is = rw s.1 (rw e s.2);
  front = front_take p.size (b ∷ z);
  allowed = allowed_from c p.shape (b ∷ z) (h p refl) a;
}

not_plain : (o : Option Piece) (p : Piece) → PlainIf o → o ≡ Some p → is_header p.shape ≡ true → ⊥
not_plain None p h e g = cc
not_plain (Some q) p h e g = let same : q ≡ p = cc in let i = ap (λ v. is_header v.shape) same in cc

plain_can : (c : Context) (k : Class) (b : ℕ) (z : List ℕ) → class_of b ≡ k → CanIf c b z (plain_at k b z)
plain_can c k b z e = can_if c k b z (plain_at k b z) e (plain_sound k b z) (plain_allow k b z e) (λ p i g. absurd (not_plain (plain_at k b z) p (plain_shape k b z) i g))

either_can : (c : Context) (b : ℕ) (z : List ℕ) (o u : Option Piece) → CanIf c b z o → CanIf c b z u → CanIf c b z (or_else o u)
either_can c b z None u h g = g
either_can c b z (Some p) u h g = h

piece_can : (c : Context) (k : Class) (b : ℕ) (z : List ℕ) → class_of b ≡ k → CanIf c b z (piece_by c k b z)
piece_can context.AfterInclude k b z e = either_can context.AfterInclude b z (header_at k z) (plain_at k b z)
    (can_if context.AfterInclude k b z (header_at k z) e (header_sound k b z) (header_allow k b z e) (λ p i g. refl)) (plain_can context.AfterInclude k b z e)
piece_can context.LineStart k b z e = plain_can context.LineStart k b z e
piece_can context.AfterHash k b z e = plain_can context.AfterHash k b z e
piece_can context.Plain k b z e = plain_can context.Plain k b z e

-- what is read is better than a piece of this shape and so many bytes, or the same
abbrev BestIf : Shape → ℕ → Option Piece → Type 0
BestIf q n None = ⊥
BestIf q n (Some p) = IsBeaten (is_header q) n (is_header p.shape) p.size × (is_header q ≡ is_header p.shape → n ≡ p.size → q ≡ p.shape)

beaten_plain : (x y : Bool) (m n : ℕ) → x ≡ false → y ≡ false → m ≤ n → IsBeaten x m y n
beaten_plain true y m n i j h = absurd (cc)
beaten_plain false true m n i j h = absurd (cc)
beaten_plain false false m n i j h = h

beaten_header : (x y : Bool) (m n : ℕ) → x ≡ true → y ≡ true → m ≤ n → IsBeaten x m y n
beaten_header false y m n i j h = absurd (cc)
beaten_header true false m n i j h = absurd (cc)
beaten_header true true m n i j h = h

beaten_by_header : (x y : Bool) (m n : ℕ) → x ≡ false → y ≡ true → IsBeaten x m y n
beaten_by_header true y m n i j = absurd (cc)
beaten_by_header false false m n i j = absurd (cc)
beaten_by_header false true m n i j = tt

best_plain : (q : Shape) (n : ℕ) (o : Option Piece) → is_header q ≡ false → PlainIf o → Reached n q o → BestIf q n o
best_plain q n None h p r = absurd r
best_plain q n (Some p) h g r = (beaten_plain (is_header q) (is_header p.shape) n p.size h g r.0, λ i e. r.1 e)

best_either : (x : Bool) (q : Shape) (n : ℕ) (o u : Option Piece) → is_header q ≡ x → HeaderIf o → PlainIf u → (x ≡ true → Reached n q o) → (x ≡ false → Reached n q u) → BestIf q n (or_else o u)
best_either true q n None u h a b f g = absurd (f refl)
best_either false q n None u h a b f g = best_plain q n u h b (g refl)
best_either true q n (Some p) u h a b f g = let r = f refl in (beaten_header (is_header q) (is_header p.shape) n p.size h a r.0, λ i e. r.1 e)
best_either false q n (Some p) u h a b f g = (beaten_by_header (is_header q) (is_header p.shape) n p.size h a, λ i e. absurd (cc))

plain_best : (c : Context) (k : Class) (q : Shape) (b : ℕ) (t z : List ℕ) → class_of b ≡ k → is_header q ≡ false → IsAllowed c q (b ∷ z) → is_piece_by q k b t ≡ true → Front t z → BestIf q (suc (length t)) (plain_at k b z)
plain_best c k q b t z e h a i f = best_plain q (suc (length t)) (plain_at k b z) h (plain_shape k b z) (plain_reached k q b t z e h (allowed_token c q (b ∷ z) a) i f)

no_header : (c : Context) (q : Shape) (s : List ℕ) → (c ≡ context.AfterInclude → ⊥) → IsAllowed c q s → is_header q ≡ false
no_header c q s h a = other (is_header q) (λ i. h (allowed_header c q s a i))
  where
    other : (x : Bool) → (x ≡ true → ⊥) → x ≡ false
    other true f = absurd (f refl)
    other false f = refl

only_header : (q : Shape) → is_header q ≡ true → q ≡ shape.Token HeaderName
only_header (shape.Token HeaderName) h = refl
only_header (shape.Token Name) h = absurd (cc)
only_header (shape.Token Number) h = absurd (cc)
only_header (shape.Token Char) h = absurd (cc)
only_header (shape.Token Str) h = absurd (cc)
only_header (shape.Token Punct) h = absurd (cc)
only_header shape.Blank h = absurd (cc)
only_header shape.LineEnd h = absurd (cc)
only_header shape.Comment h = absurd (cc)

header_best : (k : Class) (q : Shape) (b : ℕ) (t z : List ℕ) → is_header q ≡ true → is_piece_by q k b t ≡ true → Front t z → Reached (suc (length t)) q (header_at k z)
header_best k q b t z h i f = let e = only_header q h in
    subst (λ v. Reached (suc (length t)) v (header_at k z)) (sym e) (header_reached k b t z (subst (λ v. is_piece_by v k b t ≡ true) e i) f)

best : (c : Context) (k : Class) (q : Shape) (b : ℕ) (t z : List ℕ) → class_of b ≡ k → IsAllowed c q (b ∷ z) → is_piece_by q k b t ≡ true → Front t z → BestIf q (suc (length t)) (piece_by c k b z)
best context.AfterInclude k q b t z e a i f = best_either (is_header q) q (suc (length t)) (header_at k z) (plain_at k b z) refl (header_shape k z) (plain_shape k b z)
    (λ h. header_best k q b t z h i f) (λ h. plain_reached k q b t z e h (allowed_token context.AfterInclude q (b ∷ z) a) i f)
best context.LineStart k q b t z e a i f = plain_best context.LineStart k q b t z e (no_header context.LineStart q (b ∷ z) (λ v. cc) a) a i f
best context.AfterHash k q b t z e a i f = plain_best context.AfterHash k q b t z e (no_header context.AfterHash q (b ∷ z) (λ v. cc) a) a i f
best context.Plain k q b t z e a i f = plain_best context.Plain k q b t z e (no_header context.Plain q (b ∷ z) (λ v. cc) a) a i f

can_best : (c : Context) (s : List ℕ) (q : Shape) (u : List ℕ) → CanBegin c s q u → BestIf q (length u) (piece_at c s)
unfolding piece_at
can_best c s q [] h = absurd (let i = h.is in cc)
can_best c [] q (x ∷ t) h = absurd h.front
can_best c (b ∷ z) q (x ∷ t) h = best c (class_of b) q b t z refl h.allowed (subst (λ v. is_piece_by q (class_of v) v t ≡ true) h.front.0 h.is) h.front.1

pub none_begins : (c : Context) (s : List ℕ) (q : Shape) (u : List ℕ) → piece_at c s ≡ None → CanBegin c s q u → ⊥
none_begins c s q u e h = subst (BestIf q (length u)) e (can_best c s q u h)

at_can : (c : Context) (s : List ℕ) (p : Piece) → piece_at c s ≡ Some p → CanBegin c s p.shape (take p.size s)
unfolding piece_at
at_can c [] p e = absurd (cc)
at_can c (b ∷ z) p e = subst (CanIf c b z) e (piece_can c (class_of b) b z refl)

taken : (n : ℕ) (s : List ℕ) → n ≤ length s → length (take n s) ≡ n
taken n s h = omega (arith, length-take n s)

pub begins_is : (c : Context) (s : List ℕ) (p : Piece) → piece_at c s ≡ Some p → Begins c s p.shape (take p.size s)
begins_is c s p e = record {
  can = at_can c s p e;
  longest = λ q u h. let long = taken p.size s (size_fits c s p e).1 in let w = subst (BestIf q (length u)) e (can_best c s q u h) in
      subst (λ v. IsBeaten (is_header q) (length u) (is_header p.shape) v) (sym long) w.0;
}

beaten_both : (x y : Bool) (m n : ℕ) → IsBeaten x m y n → IsBeaten y n x m → (x ≡ y) × (m ≡ n)
beaten_both true true m n h k = (refl, omega arith)
beaten_both true false m n h k = absurd h
beaten_both false true m n h k = absurd k
beaten_both false false m n h k = (refl, omega arith)

only_if : (c : Context) (s : List ℕ) (q : Shape) (u : List ℕ) (o : Option Piece) → piece_at c s ≡ o → Begins c s q u → BestIf q (length u) o → o ≡ Some (piece_of q (length u))
only_if c s q u None e g w = absurd w
only_if c s q u (Some p) e g w =
    let long = taken p.size s (size_fits c s p e).1 in
    let back = subst (λ v. IsBeaten (is_header p.shape) v (is_header q) (length u)) long (g.longest p.shape (take p.size s) (at_can c s p e)) in
    let two = beaten_both (is_header q) (is_header p.shape) (length u) p.size w.0 back in
    ap Some (ap₂ piece_of (sym (w.1 two.0 two.1)) (sym two.1))

-- a piece that is longest is what is read
pub only_piece : (c : Context) (s : List ℕ) (q : Shape) (u : List ℕ) → Begins c s q u → piece_at c s ≡ Some (piece_of q (length u))
only_piece c s q u g = only_if c s q u (piece_at c s) refl g (can_best c s q u g.can)
