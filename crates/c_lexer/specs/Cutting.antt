-- A file as a list of pieces, each the longest that can begin where it begins (6.4), and where that ends.
use Rattle.std.specs.Prelude.{◌≡◌, ◌≤◌, ◌<◌, ℕ, Bool, true, false, nat_le, ◌&&◌, ◌||◌, ◌==◌, if◌then◌else◌, List, [], ◌∷◌, ◌++◌, length, drop, codes}
use Rattle.cc_base.specs.declared.diagnostics.Place.{Place}
use Rattle.cc_base.specs.declared.lexemes.Kind.{Kind}
use Rattle.cc_base.specs.declared.lexemes.Kind.TheVariants as kind
use Rattle.cc_base.specs.declared.lexemes.Token.{Token}
use Rattle.cc_base.specs.declared.refusals.Fault.{Fault}
use Rattle.cc_base.specs.declared.refusals.Refusal.{Refusal}
use Rattle.cc_base.specs.declared.refusals.Refusal.TheVariants.{BadByte, OpenComment, OpenLiteral, TooManyTokens}
use Rattle.c_lexer.specs.declared.pieces.Shape.{Shape}
use Rattle.c_lexer.specs.declared.pieces.Shape.TheVariants as shape
use Rattle.c_lexer.specs.declared.pieces.Context.{Context}
use Rattle.c_lexer.specs.declared.pieces.Context.TheVariants as context
use Rattle.c_lexer.specs.declared.pieces.State.{State}
use Rattle.c_lexer.specs.ByteClasses.{begins}
use Rattle.c_lexer.specs.Punctuators.{same_bytes}
use Rattle.c_lexer.specs.Pieces.{is_piece, may_stand}
use Rattle.c_lexer.specs.Reading.{prefix_length}
use Rattle.c_lexer.specs.Splicing.{Cell, bytes_of, place_of, spliced}

-- the most tokens of one file
abbrev pub token_limit : ℕ
token_limit = 131072

-- `t` stands at the front of `s`
abbrev pub Front : List ℕ → List ℕ → Type 0
Front [] s = Unit {0}
Front (x ∷ t) [] = ⊥
Front (x ∷ t) (y ∷ s) = (x ≡ y) × Front t s

abbrev pub begins_comment : List ℕ → Bool
begins_comment [] = false
begins_comment (x ∷ []) = false
begins_comment (x ∷ (y ∷ s)) = x == 47 && (y == 42 || y == 47)

-- a header name stands after `#include` alone, and no token where a comment begins
abbrev pub IsAllowed : Context → Shape → List ℕ → Type 0
IsAllowed context.AfterInclude (shape.Token k) s = begins_comment s ≡ false
IsAllowed c (shape.Token kind.HeaderName) s = ⊥
IsAllowed c (shape.Token k) s = begins_comment s ≡ false
IsAllowed c p s = Unit {0}

-- the piece `t` of this shape can begin at the front of `s`
pub record CanBegin (c : Context) (s : List ℕ) (p : Shape) (t : List ℕ) : Type 0 where
  pub is : is_piece p t ≡ true
  pub front : Front t s
  pub allowed : IsAllowed c p s

abbrev pub is_header : Shape → Bool
is_header (shape.Token kind.HeaderName) = true
is_header p = false

-- a header name goes before every other piece, and else the longer one goes first
abbrev pub IsBeaten : Bool → ℕ → Bool → ℕ → Type 0
IsBeaten true m false n = ⊥
IsBeaten false m true n = Unit {0}
IsBeaten true m true n = m ≤ n
IsBeaten false m false n = m ≤ n

-- the longest piece at the front of `s` is `t`
pub record Begins (c : Context) (s : List ℕ) (p : Shape) (t : List ℕ) : Type 0 where
  pub can : CanBegin c s p t
  pub longest : (q : Shape) (u : List ℕ) → CanBegin c s q u → IsBeaten (is_header q) (length u) (is_header p) (length t)

abbrev pub after_start : Kind → List ℕ → Context
after_start kind.Punct t = if same_bytes t (codes "#") then context.AfterHash else context.Plain
after_start k t = context.Plain

abbrev pub after_hash : Kind → List ℕ → Context
after_hash kind.Name t = if same_bytes t (codes "include") then context.AfterInclude else context.Plain
after_hash k t = context.Plain

-- where a line stands after a token
abbrev pub context_after : Context → Kind → List ℕ → Context
context_after context.LineStart k t = after_start k t
context_after context.AfterHash k t = after_hash k t
context_after c k t = context.Plain

-- what is known after a piece: where the line stands, and whether white space came last
abbrev pub after : State → Shape → List ℕ → State
after st (shape.Token k) t = record { context = context_after st.context k t; space = false }
after st shape.LineEnd t = record { context = context.LineStart; space = true }
after st p t = record { context = st.context; space = true }

abbrev pub start : State
start = record { context = context.LineStart; space = false }

abbrev pub is_line_start : Context → Bool
is_line_start context.LineStart = true
is_line_start c = false

abbrev pub token_list : State → Shape → List ℕ → Place → List Token
token_list st (shape.Token k) t at = record { kind = k; text = t; place = at; first = is_line_start st.context; space = st.space } ∷ []
token_list st p t at = []

pub record Bit : Type 0 where
  pub shape : Shape
  pub cells : List Cell

-- one piece, whole and legal, and what follows it
pub record IsCut (c : Context) (p : Bit) (s more : List Cell) : Type 0 where
  pub whole : s ≡ p.cells ++ more
  pub begins : Begins c (bytes_of s) p.shape (bytes_of p.cells)
  pub legal : prefix_length (may_stand p.shape) (bytes_of p.cells) ≡ length (bytes_of p.cells)

-- the pieces are cut from `s` one after the other, and `rest` is left
abbrev pub Cuts : State → List Bit → List Cell → List Cell → Type 0
Cuts st [] s rest = s ≡ rest
Cuts st (p ∷ ps) s rest = (more : List Cell) × IsCut st.context p s more × Cuts (after st p.shape (bytes_of p.cells)) ps more rest

abbrev pub state_after : State → List Bit → State
state_after st [] = st
state_after st (p ∷ ps) = state_after (after st p.shape (bytes_of p.cells)) ps

abbrev pub tokens_of : ℕ → State → List Bit → List Token
tokens_of file st [] = []
tokens_of file st (p ∷ ps) = token_list st p.shape (bytes_of p.cells) (place_of file p.cells) ++ tokens_of file (after st p.shape (bytes_of p.cells)) ps

-- the file is cut into legal pieces up to `rest`
pub record Reaches (file : ℕ) (bytes : List ℕ) (st : State) (ts : List Token) (rest : List Cell) : Type 0 where
  pub pieces : List Bit
  pub cuts : Cuts start pieces (spliced bytes) rest
  pub state : st ≡ state_after start pieces
  pub tokens : ts ≡ tokens_of file start pieces

-- the tokens of a file
pub record Lexes (file : ℕ) (bytes : List ℕ) (ts : List Token) : Type 0 where
  pub state : State
  pub reaches : Reaches file bytes state ts []
  pub few : length ts ≤ token_limit

-- why no piece begins there
abbrev pub cause : List ℕ → Refusal
cause [] = BadByte
cause (b ∷ s) = if b == 34 || b == 39 then OpenLiteral else if b == 47 && begins 42 s then OpenComment else BadByte

abbrev pub is_token : Shape → Bool
is_token (shape.Token k) = true
is_token p = false

-- a piece is one token too many after `n` tokens
abbrev pub is_past : Shape → ℕ → Bool
is_past p n = is_token p && nat_le token_limit n

abbrev pub too_many : Refusal
too_many = TooManyTokens 131073 131072

abbrev pub fault_of : Place → Refusal → Fault
fault_of at why = record { place = at; refusal = why }

-- the cutting cannot go on at `rest`: no piece begins there, the token there is one too many, or a byte of the
-- piece may not stand in it
pub data Stuck (file : ℕ) (c : Context) (n : ℕ) (rest : List Cell) (f : Fault) : Type 0 where
  nothing : 0 < length rest → ((q : Shape) (u : List ℕ) → CanBegin c (bytes_of rest) q u → ⊥) → f ≡ fault_of (place_of file rest) (cause (bytes_of rest)) → Stuck file c n rest f
  many : (p : Shape) (t : List ℕ) → Begins c (bytes_of rest) p t → is_past p n ≡ true → f ≡ fault_of (place_of file rest) too_many → Stuck file c n rest f
  bad : (p : Shape) (t : List ℕ) → Begins c (bytes_of rest) p t → is_past p n ≡ false → prefix_length (may_stand p) t < length t → f ≡ fault_of (place_of file (drop (prefix_length (may_stand p) t) rest)) BadByte → Stuck file c n rest f

-- the first place at which the cutting ends before the file does
pub record Refuses (file : ℕ) (bytes : List ℕ) (f : Fault) : Type 0 where
  pub state : State
  pub tokens : List Token
  pub rest : List Cell
  pub reaches : Reaches file bytes state tokens rest
  pub few : length tokens ≤ token_limit
  pub stuck : Stuck file state.context (length tokens) rest f
