-- What a statement begins with.
use Rattle.std.proofs.Common.{◌≡◌, ℕ, zero, suc, Bool, true, false, cond, List, Option, Some, None, refl, sym, ap, ◌∙◌, arith}
use Rattle.c_layout.specs.SyntaxTrees.{Tree, Name}
use Rattle.c_layout.specs.DeclarationTrees.{StatementTree, Declaration, Label, Case, Default, Block, Expression, If, IfElse, Switch, While, Do, For, Goto, Continue, Break, Return}
use Rattle.c_parser_tokens.specs.declared.terminals.Terminal.{Terminal}
use Rattle.c_parser_tokens.specs.declared.terminals.Keyword.{Keyword}
use Rattle.c_parser_tokens.specs.declared.terminals.Keyword.TheVariants as k
use Rattle.c_parser_tokens.specs.declared.terminals.Symbol.{Symbol}
use Rattle.c_parser_tokens.specs.declared.terminals.Symbol.TheVariants as symbol
use Rattle.c_parser_tokens.specs.declared.terminals.Punctuator.TheVariants as p
use Rattle.c_parser_expression_grammar.specs.Expressions.{Derives}
use Rattle.c_parser_expression_grammar.specs.Fronts.{first_symbol, first_place, first_text, behind_first, is_typedef, IsSign, IsWord}
use Rattle.c_parser.specs.Statements.{Maybe, DeriveStatement}
use Rattle.c_parser_theorems.proofs.unique_expressions.Levels.{ends_at}
use Rattle.c_parser_theorems.proofs.unique_expressions.Reading.{Reads, climb, read}
use Rattle.c_parser_theorems.proofs.unique_expressions.Operands.{operand, size}
use Rattle.c_parser_theorems.proofs.unique_expressions.WordReading.{word_kind}
use Rattle.c_parser_theorems.proofs.unique_expressions.Unique.{spined, same_found}
use Rattle.c_parser_theorems.proofs.unique_units.Fronts.{no_expression}
use Rattle.c_parser_theorems.proofs.unique_units.Specifying.{OfNone, kind_at, kind_by, kind_of_keyword}
use Rattle.c_parser_theorems.proofs.unique_units.Initializing.{local_word}

pub data Start : Type 0 where
  ByWord : (word : Keyword) → Start
  ByBrace : Start
  ByLabel : Start
  Declares : Start
  Evaluates : Start
  Never : Start

abbrev start_of_keyword : Keyword → Start
start_of_keyword k.Case = ByWord k.Case
start_of_keyword k.Default = ByWord k.Default
start_of_keyword k.If = ByWord k.If
start_of_keyword k.Switch = ByWord k.Switch
start_of_keyword k.While = ByWord k.While
start_of_keyword k.Do = ByWord k.Do
start_of_keyword k.For = ByWord k.For
start_of_keyword k.Goto = ByWord k.Goto
start_of_keyword k.Continue = ByWord k.Continue
start_of_keyword k.Break = ByWord k.Break
start_of_keyword k.Return = ByWord k.Return
start_of_keyword k.Sizeof = Evaluates
start_of_keyword k.Else = Never
start_of_keyword _ = Declares

abbrev is_colon : Symbol → Bool
is_colon (symbol.Punctuator p.Colon) = true
is_colon _ = false

abbrev start_by : Symbol → Bool → Bool → Start
start_by (symbol.Keyword w) named colon = start_of_keyword w
start_by (symbol.Punctuator p.LeftBrace) named colon = ByBrace
start_by (symbol.Punctuator p.RightBrace) named colon = Never
start_by symbol.Identifier named colon = cond named Declares (cond colon ByLabel Evaluates)
start_by _ named colon = Evaluates

-- how a statement that stands there begins
abbrev pub start_at : List (List ℕ) → List Terminal → Start
start_at known ts = start_by (first_symbol ts) (is_typedef known (first_text ts)) (is_colon (first_symbol (behind_first ts)))

abbrev pub start_of : StatementTree → Start
start_of (Declaration l) = Declares
start_of (Label name s) = ByLabel
start_of (Case at e s) = ByWord k.Case
start_of (Default at s) = ByWord k.Default
start_of (Block at items) = ByBrace
start_of (Expression at e) = Evaluates
start_of (If at e s) = ByWord k.If
start_of (IfElse at e s t) = ByWord k.If
start_of (Switch at e s) = ByWord k.Switch
start_of (While at e s) = ByWord k.While
start_of (Do at s e) = ByWord k.Do
start_of (For at first condition step s) = ByWord k.For
start_of (Goto at name) = ByWord k.Goto
start_of (Continue at) = ByWord k.Continue
start_of (Break at) = ByWord k.Break
start_of (Return at e) = ByWord k.Return

-- ---- declarations

keyword_declares : (w : Keyword) → (kind_of_keyword (word_kind w) ≡ OfNone → ⊥) → start_of_keyword w ≡ Declares
keyword_declares k.Case some = absurd (some refl)
keyword_declares k.Default some = absurd (some refl)
keyword_declares k.If some = absurd (some refl)
keyword_declares k.Switch some = absurd (some refl)
keyword_declares k.While some = absurd (some refl)
keyword_declares k.Do some = absurd (some refl)
keyword_declares k.For some = absurd (some refl)
keyword_declares k.Goto some = absurd (some refl)
keyword_declares k.Continue some = absurd (some refl)
keyword_declares k.Break some = absurd (some refl)
keyword_declares k.Return some = absurd (some refl)
keyword_declares k.Sizeof some = absurd (some refl)
keyword_declares k.Else some = absurd (some refl)
keyword_declares _ some = refl

declares : (x : Symbol) (named colon : Bool) → (kind_by x named ≡ OfNone → ⊥) → start_by x named colon ≡ Declares
declares (symbol.Keyword w) named colon some = keyword_declares w some
declares symbol.Identifier true colon some = refl
declares symbol.Identifier false colon some = absurd (some refl)
declares _ named colon some = absurd (some refl)

pub declares_at : (known : List (List ℕ)) (ts : List Terminal) → (kind_at known ts ≡ OfNone → ⊥) → start_at known ts ≡ Declares
declares_at known ts some = declares (first_symbol ts) (is_typedef known (first_text ts)) (is_colon (first_symbol (behind_first ts))) some

-- ---- expressions

colon_symbol : (x : Symbol) → is_colon x ≡ true → x ≡ symbol.Punctuator p.Colon
colon_symbol (symbol.Punctuator p.Colon) is = refl
colon_symbol _ is = cc

label_climbs : (self : Reads) (m : ℕ) (e : Tree) (ts : List Terminal) → first_symbol ts ≡ symbol.Punctuator p.Colon → climb self m 0 e ts ≡ Some (e, ts)
label_climbs self zero e ts at = refl
label_climbs self (suc m) e ts at = rw at

-- a name in front of a `:` is read alone
label_read : (known : List (List ℕ)) (m : ℕ) (ts : List Terminal) → first_symbol ts ≡ symbol.Identifier → is_typedef known (first_text ts) ≡ false → first_symbol (behind_first ts) ≡ symbol.Punctuator p.Colon → read known (suc m) 0 ts ≡ Some (Name (first_place ts) (first_text ts), behind_first ts)
label_read known m ts at other colon =
    let stops = label_climbs (read known m) m (Name (first_place ts) (first_text ts)) (behind_first ts) colon in rw (at, other, colon) stops

evaluates : (known : List (List ℕ)) (e : Tree) (ts r a : List Terminal) (x : Symbol) (named colon : Bool) → first_symbol ts ≡ x → is_typedef known (first_text ts) ≡ named → is_colon (first_symbol (behind_first ts)) ≡ colon → Derives e known 0 ts r → IsSign p.Semicolon r a → start_by x named colon ≡ Evaluates
evaluates known e ts r a (symbol.Keyword k.Sizeof) named colon at is next d semi = refl
evaluates known e ts r a (symbol.Keyword w) named colon at is next d semi = absurd (no_expression known 0 e ts r (symbol.Keyword w) at (λ self m low. refl) d (ends_at 0 semi (omega arith)))
evaluates known e ts r a (symbol.Punctuator p.LeftBrace) named colon at is next d semi = absurd (no_expression known 0 e ts r (symbol.Punctuator p.LeftBrace) at (λ self m low. refl) d (ends_at 0 semi (omega arith)))
evaluates known e ts r a (symbol.Punctuator p.RightBrace) named colon at is next d semi = absurd (no_expression known 0 e ts r (symbol.Punctuator p.RightBrace) at (λ self m low. refl) d (ends_at 0 semi (omega arith)))
evaluates known e ts r a symbol.Identifier true colon at is next d semi = absurd (no_expression known 0 e ts r symbol.Identifier at (λ self m low. rw is) d (ends_at 0 semi (omega arith)))
evaluates known e ts r a symbol.Identifier false false at is next d semi = refl
evaluates known e ts r a symbol.Identifier false true at is next d semi =
    let colon : first_symbol (behind_first ts) ≡ symbol.Punctuator p.Colon = colon_symbol (first_symbol (behind_first ts)) next in
    let one = label_read known (size e) ts at is colon in
    let two = operand e (spined e) known 0 ts r d (ends_at 0 semi (omega arith)) (suc (size e)) (omega arith) in
    let same = same_found (Name (first_place ts) (first_text ts), behind_first ts) (e, r) (sym one ∙ two) in
    let clash : symbol.Punctuator p.Colon ≡ symbol.Punctuator p.Semicolon = sym colon ∙ ap first_symbol same.1 ∙ semi.symbol in
    absurd (cc clash)
evaluates known e ts r a _ named colon at is next d semi = refl

pub evaluates_at : (known : List (List ℕ)) (e : Tree) (ts r a : List Terminal) → Derives e known 0 ts r → IsSign p.Semicolon r a → start_at known ts ≡ Evaluates
evaluates_at known e ts r a d semi = evaluates known e ts r a (first_symbol ts) (is_typedef known (first_text ts)) (is_colon (first_symbol (behind_first ts))) refl refl refl d semi

-- ---- statements

expression_start : (known : List (List ℕ)) (e : Option Tree) (ts r a : List Terminal) → Maybe known e ts r → IsSign p.Semicolon r a → start_at known ts ≡ Evaluates
expression_start known None ts r a same semi = let at : first_symbol ts ≡ symbol.Punctuator p.Semicolon = rw same at semi.symbol in rw at
expression_start known (Some e) ts r a d semi = evaluates_at known e ts r a d semi

word_start : {w : Keyword} {ts r : List Terminal} (known : List (List ℕ)) → IsWord w ts r → start_at known ts ≡ start_of_keyword w
word_start {w} {ts} {r} known is = rw is.symbol

pub start_is : (s : StatementTree) (known : List (List ℕ)) (ts r : List Terminal) → DeriveStatement s known ts r → start_at known ts ≡ start_of s
start_is (Declaration l) known ts r d = declares_at known ts (local_word known l ts r d)
start_is (Label name s) known ts r (a, b, is, colon, some, d) =
    let at : first_symbol (behind_first ts) ≡ symbol.Punctuator p.Colon = rw is.behind at colon.symbol in rw (is.symbol, is.other, at)
start_is (Case at e s) known ts r d = word_start known d.4
start_is (Default at s) known ts r d = word_start known d.3
start_is (Block at items) known ts r d = rw d.3.symbol
start_is (Expression at e) known ts r d = expression_start known e ts d.1 r d.2 d.3
start_is (If at e s) known ts r d = word_start known d.3
start_is (IfElse at e s t) known ts r d = word_start known d.5
start_is (Switch at e s) known ts r d = word_start known d.3
start_is (While at e s) known ts r d = word_start known d.3
start_is (Do at s e) known ts r d = word_start known d.5
start_is (For at first condition step s) known ts r d = word_start known d.8
start_is (Goto at name) known ts r d = word_start known d.3
start_is (Continue at) known ts r d = word_start known d.2
start_is (Break at) known ts r d = word_start known d.2
start_is (Return at e) known ts r d = word_start known d.3

never : (s : StatementTree) → start_of s ≡ Never → ⊥
never (Declaration l) h = cc
never (Label name s) h = cc
never (Case at e s) h = cc
never (Default at s) h = cc
never (Block at items) h = cc
never (Expression at e) h = cc
never (If at e s) h = cc
never (IfElse at e s t) h = cc
never (Switch at e s) h = cc
never (While at e s) h = cc
never (Do at s e) h = cc
never (For at first condition step s) h = cc
never (Goto at name) h = cc
never (Continue at) h = cc
never (Break at) h = cc
never (Return at e) h = cc

-- no statement begins with `else` or `}`
pub no_statement : (s : StatementTree) (known : List (List ℕ)) (ts r : List Terminal) → DeriveStatement s known ts r → start_at known ts ≡ Never → ⊥
no_statement s known ts r d none = never s (sym (start_is s known ts r d) ∙ none)
