-- The readers as definitions, where their parts were read.
use Rattle.std.proofs.Common.{◌≡◌, ℕ, suc, ◌+◌, Bool, true, false, List, cond, max, Option, Some, None, refl, sym, ap, ◌∙◌, arith}
use Rattle.cc_base.specs.declared.diagnostics.Place.{Place}
use Rattle.c_layout.specs.SyntaxTrees.{Tree, Name, Paren, Call, SizeofExpr, SizeofType, Cast, Prefix, Unary, Conditional, Assign, Subscript}
use Rattle.c_layout.specs.declared.syntax_tree.expressions.AssignOp.{AssignOp}
use Rattle.c_layout.specs.declared.syntax_tree.expressions.StepOp.{StepOp}
use Rattle.c_layout.specs.declared.syntax_tree.expressions.UnaryOp.{UnaryOp}
use Rattle.c_parser_tokens.specs.declared.terminals.Keyword.{Keyword}
use Rattle.c_parser_tokens.specs.declared.terminals.Punctuator.{Punctuator}
use Rattle.c_parser_tokens.specs.declared.terminals.Punctuator.TheVariants as p
use Rattle.c_parser_tokens.specs.declared.terminals.Symbol.{Symbol}
use Rattle.c_parser_tokens.specs.declared.terminals.Symbol.TheVariants as symbol
use Rattle.c_parser_tokens.specs.declared.terminals.Terminal.{Terminal}
use Rattle.c_parser_expression_grammar.specs.Findings.{is_unary}
use Rattle.c_parser_expression_grammar.specs.Fronts.{first_symbol, first_place, first_text, behind_first, IsSign, IsWord, IsName, is_identifier}
use Rattle.c_parser_expression_grammar.specs.Levels.{assign_of}
use Rattle.c_parser_expression_grammar.specs.Readings.{Got, GotSome, GotName, Reading, got, after, after_some, after_name, is_left_parenthesis, is_right_parenthesis, is_left_bracket, is_right_bracket, is_question, is_colon, expect, made}
use Rattle.c_parser_expression_grammar.specs.ExpressionReaders.{Readers, no_readers, parenthesized, call, name_or_call, arguments, subscript, unary_by, size_of_type, size_of_expression, cast_to, chosen, conditional, binary, assignment, assigned}
use Rattle.c_parser_expression_grammar.specs.TypeNameReaders.{all_readers, readers_inside}

-- ---- budgets

inside_is : (known : List (List ℕ)) (c b : ℕ) → b ≡ suc c → readers_inside known b ≡ all_readers known c
inside_is known c b is = ap (readers_inside known) is

pub inner_is : (known : List (List ℕ)) (c b : ℕ) → c + 1 ≡ b → readers_inside known b ≡ all_readers known c
inner_is known c b is = inside_is known c b (omega arith)

-- a reader of what stands inside, by its budget
pub inner_reads : {X : Type 0} {r : X} (read : Readers → X) (known : List (List ℕ)) (c b : ℕ) → c + 1 ≡ b → read (all_readers known c) ≡ r → read (readers_inside known b) ≡ r
inner_reads read known c b is reads =
    let one : b ≡ suc c = omega arith in
    ap read (inside_is known c b one) ∙ reads

-- where no height is left
pub no_inner : {X : Type 0} (read : Readers → X) (known : List (List ℕ)) (b : ℕ) → b ≡ 0 → read (readers_inside known b) ≡ read no_readers
no_inner read known b is = ap (λ (n : ℕ). read (readers_inside known n)) is

-- ---- signs

pub sign_here : (is : Symbol → Bool) {sign : Punctuator} {ts a : List Terminal} (more : List Terminal → Reading) → is (symbol.Punctuator sign) ≡ true → IsSign sign ts a → expect is ts more ≡ more a
sign_here is {sign} {ts} {a} more says here =
    ap (λ s. cond (is s) (more (behind_first ts)) None) here.symbol ∙ ap (λ x. cond x (more (behind_first ts)) None) says ∙ ap more (sym here.behind)

pub no_sign : (is : Symbol → Bool) (ts : List Terminal) (more : List Terminal → Reading) → is (first_symbol ts) ≡ false → expect is ts more ≡ None
no_sign is ts more off = ap (λ x. cond x (more (behind_first ts)) None) off

pub onward : {r s : Reading} (more : Got → Reading) → r ≡ s → after r more ≡ after s more
onward more is = ap (λ x. after x more) is

pub then_name : {r s : Option GotName} (more : GotName → Reading) → r ≡ s → after_name r more ≡ after_name s more
then_name more is = ap (λ x. after_name x more) is

pub then_some : {r s : Option GotSome} (more : GotSome → Reading) → r ≡ s → after_some r more ≡ after_some s more
then_some more is = ap (λ x. after_some x more) is

-- ---- parentheses

pub parenthesized_inner : (b : ℕ) (i : Readers) (ts a : List Terminal) (r : Reading) → IsSign p.LeftParenthesis ts a → i.expression a ≡ r →
    parenthesized b i ts ≡ after r (λ g. expect is_right_parenthesis g.rest (λ rest. made b (Paren (first_place ts) g.tree) g.height rest))
parenthesized_inner b i ts a r opens inner =
    sign_here is_left_parenthesis (λ x. after (i.expression x) (λ g. expect is_right_parenthesis g.rest (λ rest. made b (Paren (first_place ts) g.tree) g.height rest))) refl opens
    ∙ onward (λ g. expect is_right_parenthesis g.rest (λ rest. made b (Paren (first_place ts) g.tree) g.height rest)) inner

pub parenthesized_whole : (b : ℕ) (i : Readers) (ts a m rest : List Terminal) (e : Tree) (h : ℕ) (r : Reading) → IsSign p.LeftParenthesis ts a → i.expression a ≡ Some (got e h m) → IsSign p.RightParenthesis m rest →
    made b (Paren (first_place ts) e) h rest ≡ r → parenthesized b i ts ≡ r
parenthesized_whole b i ts a m rest e h r opens inner shut whole =
    parenthesized_inner b i ts a (Some (got e h m)) opens inner ∙ sign_here is_right_parenthesis (λ x. made b (Paren (first_place ts) e) h x) refl shut ∙ whole

pub parenthesized_open : (b : ℕ) (i : Readers) (ts a m : List Terminal) (e : Tree) (h : ℕ) → IsSign p.LeftParenthesis ts a → i.expression a ≡ Some (got e h m) → is_right_parenthesis (first_symbol m) ≡ false → parenthesized b i ts ≡ None
parenthesized_open b i ts a m e h opens inner shut = parenthesized_inner b i ts a (Some (got e h m)) opens inner ∙ no_sign is_right_parenthesis m (λ x. made b (Paren (first_place ts) e) h x) shut

-- ---- sizeof

pub size_named : (b : ℕ) (i : Readers) (ts a c : List Terminal) (r : Option GotName) → a ≡ behind_first ts → c ≡ behind_first a → i.type_name c ≡ r →
    size_of_type b i ts ≡ after_name r (λ n. expect is_right_parenthesis n.rest (λ rest. made b (SizeofType (first_place ts) n.name n.lengths) n.height rest))
size_named b i ts a c r a-is c-is named =
    ap (λ x. after_name (i.type_name x) (λ n. expect is_right_parenthesis n.rest (λ rest. made b (SizeofType (first_place ts) n.name n.lengths) n.height rest))) (sym (c-is ∙ ap behind_first a-is))
    ∙ then_name (λ n. expect is_right_parenthesis n.rest (λ rest. made b (SizeofType (first_place ts) n.name n.lengths) n.height rest)) named

pub size_closed : (b : ℕ) (i : Readers) (ts a c rest : List Terminal) (n : GotName) (r : Reading) → a ≡ behind_first ts → c ≡ behind_first a → i.type_name c ≡ Some n → IsSign p.RightParenthesis n.rest rest →
    made b (SizeofType (first_place ts) n.name n.lengths) n.height rest ≡ r → size_of_type b i ts ≡ r
size_closed b i ts a c rest n r a-is c-is named shut whole =
    size_named b i ts a c (Some n) a-is c-is named ∙ sign_here is_right_parenthesis (λ x. made b (SizeofType (first_place ts) n.name n.lengths) n.height x) refl shut ∙ whole

pub size_open : (b : ℕ) (i : Readers) (ts a c : List Terminal) (n : GotName) → a ≡ behind_first ts → c ≡ behind_first a → i.type_name c ≡ Some n → is_right_parenthesis (first_symbol n.rest) ≡ false → size_of_type b i ts ≡ None
size_open b i ts a c n a-is c-is named shut =
    size_named b i ts a c (Some n) a-is c-is named ∙ no_sign is_right_parenthesis n.rest (λ x. made b (SizeofType (first_place ts) n.name n.lengths) n.height x) shut

-- ---- casts

pub cast_named : (b : ℕ) (i : Readers) (ts a : List Terminal) (r : Option GotName) → a ≡ behind_first ts → i.type_name a ≡ r →
    cast_to b i ts ≡ after_name r (λ n. expect is_right_parenthesis n.rest (λ x. after (i.cast x) (λ g. made b (Cast (first_place ts) n.name n.lengths g.tree) (max n.height g.height) g.rest)))
cast_named b i ts a r a-is named =
    ap (λ x. after_name (i.type_name x) (λ n. expect is_right_parenthesis n.rest (λ y. after (i.cast y) (λ g. made b (Cast (first_place ts) n.name n.lengths g.tree) (max n.height g.height) g.rest)))) (sym a-is)
    ∙ then_name (λ n. expect is_right_parenthesis n.rest (λ x. after (i.cast x) (λ g. made b (Cast (first_place ts) n.name n.lengths g.tree) (max n.height g.height) g.rest))) named

pub cast_open : (b : ℕ) (i : Readers) (ts a : List Terminal) (n : GotName) → a ≡ behind_first ts → i.type_name a ≡ Some n → is_right_parenthesis (first_symbol n.rest) ≡ false → cast_to b i ts ≡ None
cast_open b i ts a n a-is named shut =
    cast_named b i ts a (Some n) a-is named ∙ no_sign is_right_parenthesis n.rest (λ x. after (i.cast x) (λ g. made b (Cast (first_place ts) n.name n.lengths g.tree) (max n.height g.height) g.rest)) shut

pub cast_operand : (b : ℕ) (i : Readers) (ts a c : List Terminal) (n : GotName) (r : Reading) → a ≡ behind_first ts → i.type_name a ≡ Some n → IsSign p.RightParenthesis n.rest c → i.cast c ≡ r →
    cast_to b i ts ≡ after r (λ g. made b (Cast (first_place ts) n.name n.lengths g.tree) (max n.height g.height) g.rest)
cast_operand b i ts a c n r a-is named shut operand =
    cast_named b i ts a (Some n) a-is named
    ∙ sign_here is_right_parenthesis (λ x. after (i.cast x) (λ g. made b (Cast (first_place ts) n.name n.lengths g.tree) (max n.height g.height) g.rest)) refl shut
    ∙ onward (λ g. made b (Cast (first_place ts) n.name n.lengths g.tree) (max n.height g.height) g.rest) operand

-- ---- conditional expressions

pub chosen_first : (b : ℕ) (i : Readers) (known : List (List ℕ)) (ts a : List Terminal) (g : Got) (r : Reading) → binary b i known 3 ts ≡ Some g → IsSign p.Question g.rest a → i.expression a ≡ r →
    conditional b i known ts ≡ after r (λ y. expect is_colon y.rest (λ x. after (i.conditional x) (λ z. made b (Conditional (first_place g.rest) g.tree y.tree z.tree) (max (max g.height y.height) z.height) z.rest)))
chosen_first b i known ts a g r condition question first =
    onward (λ x. cond (is_question (first_symbol x.rest)) (chosen b i x) (Some x)) condition
    ∙ ap (λ s. cond (is_question s) (chosen b i g) (Some g)) question.symbol
    ∙ ap (λ x. after (i.expression x) (λ y. expect is_colon y.rest (λ v. after (i.conditional v) (λ z. made b (Conditional (first_place g.rest) g.tree y.tree z.tree) (max (max g.height y.height) z.height) z.rest)))) (sym question.behind)
    ∙ onward (λ y. expect is_colon y.rest (λ x. after (i.conditional x) (λ z. made b (Conditional (first_place g.rest) g.tree y.tree z.tree) (max (max g.height y.height) z.height) z.rest))) first

pub chosen_open : (b : ℕ) (i : Readers) (known : List (List ℕ)) (ts a : List Terminal) (g y : Got) → binary b i known 3 ts ≡ Some g → IsSign p.Question g.rest a → i.expression a ≡ Some y → is_colon (first_symbol y.rest) ≡ false → conditional b i known ts ≡ None
chosen_open b i known ts a g y condition question first colon =
    chosen_first b i known ts a g (Some y) condition question first
    ∙ no_sign is_colon y.rest (λ x. after (i.conditional x) (λ z. made b (Conditional (first_place g.rest) g.tree y.tree z.tree) (max (max g.height y.height) z.height) z.rest)) colon

pub chosen_second : (b : ℕ) (i : Readers) (known : List (List ℕ)) (ts a c : List Terminal) (g y : Got) (r : Reading) → binary b i known 3 ts ≡ Some g → IsSign p.Question g.rest a → i.expression a ≡ Some y → IsSign p.Colon y.rest c → i.conditional c ≡ r →
    conditional b i known ts ≡ after r (λ z. made b (Conditional (first_place g.rest) g.tree y.tree z.tree) (max (max g.height y.height) z.height) z.rest)
chosen_second b i known ts a c g y r condition question first colon second =
    chosen_first b i known ts a g (Some y) condition question first
    ∙ sign_here is_colon (λ x. after (i.conditional x) (λ z. made b (Conditional (first_place g.rest) g.tree y.tree z.tree) (max (max g.height y.height) z.height) z.rest)) refl colon
    ∙ onward (λ z. made b (Conditional (first_place g.rest) g.tree y.tree z.tree) (max (max g.height y.height) z.height) z.rest) second

-- ---- assignments

pub assigned_right : (b : ℕ) (i : Readers) (known : List (List ℕ)) (ts a : List Terminal) (g : Got) (op : AssignOp) (r : Reading) → conditional b i known ts ≡ Some g → assign_of (first_symbol g.rest) ≡ Some op → is_unary g.tree ≡ true →
    a ≡ behind_first g.rest → i.assignment a ≡ r → assignment b i known ts ≡ after r (λ y. made b (Assign (first_place g.rest) op g.tree y.tree) (max g.height y.height) y.rest)
assigned_right b i known ts a g op r left here one a-is right =
    onward (λ x. assigned b i x (assign_of (first_symbol x.rest))) left
    ∙ ap (assigned b i g) here
    ∙ ap (λ x. cond x (after (i.assignment (behind_first g.rest)) (λ y. made b (Assign (first_place g.rest) op g.tree y.tree) (max g.height y.height) y.rest)) None) one
    ∙ ap (λ x. after (i.assignment x) (λ y. made b (Assign (first_place g.rest) op g.tree y.tree) (max g.height y.height) y.rest)) (sym a-is)
    ∙ onward (λ y. made b (Assign (first_place g.rest) op g.tree y.tree) (max g.height y.height) y.rest) right

-- ---- subscripts

pub index_read : (b : ℕ) (i : Readers) (ts a : List Terminal) (e : Tree) (h : ℕ) (r : Reading) → IsSign p.LeftBracket ts a → i.expression a ≡ r →
    subscript b i (got e h ts) ≡ after r (λ x. expect is_right_bracket x.rest (λ rest. made b (Subscript (first_place ts) e x.tree) (max h x.height) rest))
index_read b i ts a e h r opens inner =
    sign_here is_left_bracket (λ y. after (i.expression y) (λ x. expect is_right_bracket x.rest (λ rest. made b (Subscript (first_place ts) e x.tree) (max h x.height) rest))) refl opens
    ∙ onward (λ x. expect is_right_bracket x.rest (λ rest. made b (Subscript (first_place ts) e x.tree) (max h x.height) rest)) inner

pub index_closed : (b : ℕ) (i : Readers) (ts a rest : List Terminal) (e : Tree) (h : ℕ) (x : Got) → IsSign p.LeftBracket ts a → i.expression a ≡ Some x → IsSign p.RightBracket x.rest rest →
    subscript b i (got e h ts) ≡ made b (Subscript (first_place ts) e x.tree) (max h x.height) rest
index_closed b i ts a rest e h x opens inner shut =
    index_read b i ts a e h (Some x) opens inner ∙ sign_here is_right_bracket (λ y. made b (Subscript (first_place ts) e x.tree) (max h x.height) y) refl shut

pub index_open : (b : ℕ) (i : Readers) (ts a : List Terminal) (e : Tree) (h : ℕ) (x : Got) → IsSign p.LeftBracket ts a → i.expression a ≡ Some x → is_right_bracket (first_symbol x.rest) ≡ false → subscript b i (got e h ts) ≡ None
index_open b i ts a e h x opens inner shut =
    index_read b i ts a e h (Some x) opens inner ∙ no_sign is_right_bracket x.rest (λ y. made b (Subscript (first_place ts) e x.tree) (max h x.height) y) shut

-- ---- unary expressions

pub step_read : (b : ℕ) (i : Readers) (known : List (List ℕ)) (ts a : List Terminal) (op : StepOp) (r : Reading) → a ≡ behind_first ts → i.unary a ≡ r →
    unary_by b i known ts (Some op) None ≡ after r (λ g. made b (Prefix (first_place ts) op g.tree) g.height g.rest)
step_read b i known ts a op r a-is inner =
    ap (λ x. after (i.unary x) (λ g. made b (Prefix (first_place ts) op g.tree) g.height g.rest)) (sym a-is) ∙ onward (λ g. made b (Prefix (first_place ts) op g.tree) g.height g.rest) inner

pub operator_read : (b : ℕ) (i : Readers) (known : List (List ℕ)) (ts a : List Terminal) (op : UnaryOp) (r : Reading) → a ≡ behind_first ts → i.cast a ≡ r →
    unary_by b i known ts None (Some op) ≡ after r (λ g. made b (Unary (first_place ts) op g.tree) g.height g.rest)
operator_read b i known ts a op r a-is inner =
    ap (λ x. after (i.cast x) (λ g. made b (Unary (first_place ts) op g.tree) g.height g.rest)) (sym a-is) ∙ onward (λ g. made b (Unary (first_place ts) op g.tree) g.height g.rest) inner

pub size_read : (b : ℕ) (i : Readers) (ts a : List Terminal) (r : Reading) → a ≡ behind_first ts → i.unary a ≡ r → size_of_expression b i ts ≡ after r (λ g. made b (SizeofExpr (first_place ts) g.tree) g.height g.rest)
size_read b i ts a r a-is inner =
    ap (λ x. after (i.unary x) (λ g. made b (SizeofExpr (first_place ts) g.tree) g.height g.rest)) (sym a-is) ∙ onward (λ g. made b (SizeofExpr (first_place ts) g.tree) g.height g.rest) inner

-- ---- names and calls

-- what stands behind a name
behind_name : (b : ℕ) (i : Readers) (known : List (List ℕ)) (ts a : List Terminal) (at : Place) (text : List ℕ) (x : Bool) → IsName known at text ts a → is_left_parenthesis (first_symbol a) ≡ x →
    cond (is_identifier (first_symbol ts)) (name_or_call b i known ts) None ≡ cond x (call b i ts) (Some (got (Name (first_place ts) (first_text ts)) 0 (behind_first ts)))
behind_name b i known ts a at text x name sign =
    ap (λ s. cond (is_identifier s) (name_or_call b i known ts) None) name.symbol
    ∙ ap (λ y. cond y None (cond (is_left_parenthesis (first_symbol (behind_first ts))) (call b i ts) (Some (got (Name (first_place ts) (first_text ts)) 0 (behind_first ts))))) name.other
    ∙ ap (λ y. cond (is_left_parenthesis (first_symbol y)) (call b i ts) (Some (got (Name (first_place ts) (first_text ts)) 0 (behind_first ts)))) (sym name.behind)
    ∙ ap (λ y. cond y (call b i ts) (Some (got (Name (first_place ts) (first_text ts)) 0 (behind_first ts)))) sign

pub call_read : (b : ℕ) (i : Readers) (known : List (List ℕ)) (ts a c : List Terminal) (at : Place) (text : List ℕ) (r : Option GotSome) → IsName known at text ts a → IsSign p.LeftParenthesis a c → arguments i c ≡ r →
    cond (is_identifier (first_symbol ts)) (name_or_call b i known ts) None ≡ after_some r (λ g. made b (Call at text g.trees) g.height g.rest)
call_read b i known ts a c at text r name sign inner =
    behind_name b i known ts a at text true name (ap is_left_parenthesis sign.symbol)
    ∙ ap (λ x. after_some (arguments i (behind_first x)) (λ g. made b (Call (first_place ts) (first_text ts) g.trees) g.height g.rest)) (sym name.behind)
    ∙ ap (λ x. after_some (arguments i x) (λ g. made b (Call (first_place ts) (first_text ts) g.trees) g.height g.rest)) (sym sign.behind)
    ∙ then_some (λ g. made b (Call (first_place ts) (first_text ts) g.trees) g.height g.rest) inner
    ∙ ap (λ (place : Place). after_some r (λ g. made b (Call place (first_text ts) g.trees) g.height g.rest)) (sym name.place)
    ∙ ap (λ (bytes : List ℕ). after_some r (λ g. made b (Call at bytes g.trees) g.height g.rest)) (sym name.spelled)

-- ---- readings behind a first sign

pub sign_before : (is : Symbol → Bool) {sign : Punctuator} {ts a : List Terminal} {r s : Reading} → is (symbol.Punctuator sign) ≡ true → IsSign sign ts a → r ≡ s → expect is ts (λ _. r) ≡ s
sign_before is {sign} {ts} {a} {r} {s} says here reads = sign_here is (λ _. r) says here ∙ reads

word_here : (is : Symbol → Bool) {word : Keyword} {ts a : List Terminal} (more : List Terminal → Reading) → is (symbol.Keyword word) ≡ true → IsWord word ts a → expect is ts more ≡ more a
word_here is {word} {ts} {a} more says here =
    ap (λ s. cond (is s) (more (behind_first ts)) None) here.symbol ∙ ap (λ x. cond x (more (behind_first ts)) None) says ∙ ap more (sym here.behind)

pub word_before : (is : Symbol → Bool) {word : Keyword} {ts a : List Terminal} {r s : Reading} → is (symbol.Keyword word) ≡ true → IsWord word ts a → r ≡ s → expect is ts (λ _. r) ≡ s
word_before is {word} {ts} {a} {r} {s} says here reads = word_here is (λ _. r) says here ∙ reads

pub word_then : (is : Symbol → Bool) (r : Reading) {word : Keyword} {ts a : List Terminal} {s : Reading} → is (symbol.Keyword word) ≡ true → IsWord word ts a → expect is_left_parenthesis a (λ _. r) ≡ s →
    expect is ts (λ x. expect is_left_parenthesis x (λ _. r)) ≡ s
word_then is r {word} {ts} {a} {s} says here reads = word_here is (λ x. expect is_left_parenthesis x (λ _. r)) says here ∙ reads
