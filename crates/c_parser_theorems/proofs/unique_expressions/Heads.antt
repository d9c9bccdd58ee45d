-- Expressions that begin with a terminal of their own.
use Rattle.std.proofs.Common.{◌≡◌, ℕ, ◌+◌, ◌≤◌, true, List, Some, None, nat_lt, refl, arith, sym, subst}
use Rattle.cc_base.specs.declared.diagnostics.Place.{Place}
use Rattle.c_layout.specs.SyntaxTrees.{Tree, Trees, TypeNameView, Name, Number, Literal, Paren, Call, Prefix, Unary, SizeofExpr, SizeofType, Cast}
use Rattle.c_layout.specs.declared.syntax_tree.expressions.Constant.{Constant}
use Rattle.c_layout.specs.declared.syntax_tree.expressions.StepOp.{StepOp}
use Rattle.c_layout.specs.declared.syntax_tree.expressions.StepOp.TheVariants as step
use Rattle.c_layout.specs.declared.syntax_tree.expressions.UnaryOp.{UnaryOp}
use Rattle.c_layout.specs.declared.syntax_tree.expressions.UnaryOp.TheVariants as unary
use Rattle.c_parser_tokens.specs.declared.terminals.Terminal.{Terminal}
use Rattle.c_parser_tokens.specs.declared.terminals.Punctuator.TheVariants as p
use Rattle.c_parser_tokens.specs.declared.terminals.Symbol.TheVariants as symbol
use Rattle.c_parser_expression_grammar.specs.Expressions.{Derives, DeriveEach}
use Rattle.c_parser_expression_grammar.specs.Fronts.{first_symbol, first_place, first_text, behind_first, IsSign}
use Rattle.c_parser_expression_grammar.specs.Levels.{step_sign, unary_sign}
use Rattle.c_parser_expression_grammar.specs.Spans.{Span}
use Rattle.c_parser_expression_grammar.specs.TypeNames.{IsTypeName}
use Rattle.c_parser_expression_grammar.specs.Continuations.{Continuation, Arguments, continuation_of}
use Rattle.c_parser_theorems.specs.UniqueExpressions.Endings.{power}
use Rattle.c_parser_theorems.proofs.unique_expressions.WordReading.{begins_word, type_name_is, name_weight, Named}
use Rattle.c_parser_theorems.proofs.unique_expressions.Reading.{Reads, on, several, skip_by, trees_at, called, type_behind, size_of, cast_to, begin, climb, read}
use Rattle.c_parser_theorems.proofs.unique_expressions.Levels.{ends_at, below}
use Rattle.c_parser_theorems.proofs.unique_expressions.Operands.{Spined, operand, sizes, Each, each_skipped, each_trees, several_are}
use Rattle.c_parser_theorems.proofs.unique_expressions.Spans.{AllSpined, each_read, count_small, separated_end, type_name_end, no_bracket, no_parenthesis, no_type, no_cast}

called_name : (self : Reads) (m : ℕ) (ts : List Terminal) (c : Continuation) → power c ≤ 16 → called self m ts c ≡ Some (Name (first_place ts) (first_text ts), behind_first ts)
called_name self m ts Arguments low = absurd (omega arith)
called_name self m ts _ low = refl

pub name_spined : (at : Place) (text : List ℕ) → Spined (Name at text)
name_spined at text known l ts rest is ends low m j k under small same =
    let here : power (continuation_of (first_symbol (behind_first ts))) ≤ 16 = rw is.behind at ends in
    let named = called_name (read known m) m ts (continuation_of (first_symbol (behind_first ts))) here in
    let turns : j ≡ k = omega arith in
    rw (is.symbol, is.other, named, is.place, is.spelled, is.behind, turns)

pub number_spined : (at : Place) (value : Constant) → Spined (Number at value)
number_spined at value known l ts rest is ends low m j k under small same = let turns : j ≡ k = omega arith in rw (is.symbol, is.place, is.behind, turns)

pub literal_spined : (at : Place) (bytes : List ℕ) → Spined (Literal at bytes)
literal_spined at bytes known l ts rest is ends low m j k under small same = let turns : j ≡ k = omega arith in rw (is.symbol, is.place, is.spelled, is.behind, turns)

pub paren_spined : (at : Place) (e : Tree) → Spined e → Spined (Paren at e)
paren_spined at e of-e known l ts rest (place, a, b, opens, inner, shut) ends low m j k under small same =
    let from : Derives e known 0 (behind_first ts) b = rw opens.behind at inner in
    let one : read known m 0 (behind_first ts) ≡ Some (e, b) = operand e of-e known 0 (behind_first ts) b from (ends_at 0 shut (omega arith)) m (omega arith) in
    let turns : j ≡ k = omega arith in
    rw (opens.symbol, one, place, shut.behind, turns)

pub call_spined : (at : Place) (name : List ℕ) (es : Trees) → AllSpined es → Spined (Call at name es)
call_spined at name es of-es known l ts rest (level, spans, a, b, c, is, opens, each, sep, shut) ends low m j k under small same =
    let opens-at : IsSign p.LeftParenthesis (behind_first ts) b = rw is.behind at opens in
    let begins : b ≡ behind_first (behind_first ts) = opens-at.behind in
    let reads : Each (read known m 1) es spans = each_read es of-es known 1 spans each (separated_end spans b c sep (ends_at 1 shut (omega arith))) m (omega arith) in
    let few = count_small es in
    let none : read known m 1 c ≡ None = no_parenthesis known m 1 c shut.symbol in
    let all : several (read known m 1) m b ≡ (es, c) = several_are (read known m 1) es spans m b c reads sep none (rw shut.symbol refl) (omega arith) in
    let all-at : several (read known m 1) m (behind_first (behind_first ts)) ≡ (es, c) = rw begins at all in
    let turns : j ≡ k = omega arith in
    rw (is.symbol, is.other, opens-at.symbol, all-at, is.place, is.spelled, shut.behind, turns)

step_begin : (op : StepOp) (self : Reads) (m : ℕ) (known : List (List ℕ)) (low : ℕ) (ts : List Terminal) → begin self m known low ts (symbol.Punctuator (step_sign op)) ≡ on (self 14 (behind_first ts)) (λ e rest. Some (Prefix (first_place ts) op e, rest))
step_begin op self m known low ts = elim op as (λ o. begin self m known low ts (symbol.Punctuator (step_sign o)) ≡ on (self 14 (behind_first ts)) (λ e rest. Some (Prefix (first_place ts) o e, rest))) [ step.Increment ↦ refl | step.Decrement ↦ refl ]

unary_begin : (op : UnaryOp) (self : Reads) (m : ℕ) (known : List (List ℕ)) (low : ℕ) (ts : List Terminal) → begin self m known low ts (symbol.Punctuator (unary_sign op)) ≡ on (self 13 (behind_first ts)) (λ e rest. Some (Unary (first_place ts) op e, rest))
unary_begin op self m known low ts = elim op as (λ o. begin self m known low ts (symbol.Punctuator (unary_sign o)) ≡ on (self 13 (behind_first ts)) (λ e rest. Some (Unary (first_place ts) o e, rest))) [
  | unary.Address ↦ refl
  | unary.Indirection ↦ refl
  | unary.Plus ↦ refl
  | unary.Minus ↦ refl
  | unary.Complement ↦ refl
  | unary.Not ↦ refl
]

pub prefix_spined : (at : Place) (op : StepOp) (e : Tree) → Spined e → Spined (Prefix at op e)
prefix_spined at op e of-e known l ts rest (level, a, place, sign, inner) ends low m j k under small same =
    let from : Derives e known 14 (behind_first ts) rest = rw sign.behind at inner in
    let one : read known m 14 (behind_first ts) ≡ Some (e, rest) = operand e of-e known 14 (behind_first ts) rest from ends m (omega arith) in
    let turns : j ≡ k = omega arith in
    let begins = step_begin op (read known m) m known low ts in
    rw (sign.symbol, begins, one, place, turns)

pub unary_spined : (at : Place) (op : UnaryOp) (e : Tree) → Spined e → Spined (Unary at op e)
unary_spined at op e of-e known l ts rest (level, a, place, sign, inner) ends low m j k under small same =
    let from : Derives e known 13 (behind_first ts) rest = rw sign.behind at inner in
    let one : read known m 13 (behind_first ts) ≡ Some (e, rest) = operand e of-e known 13 (behind_first ts) rest from ends m (omega arith) in
    let turns : j ≡ k = omega arith in
    let begins = unary_begin op (read known m) m known low ts in
    rw (sign.symbol, begins, one, place, turns)

pub sizeof_expression_spined : (at : Place) (e : Tree) → Spined e → Spined (SizeofExpr at e)
sizeof_expression_spined at e of-e known l ts rest (level, a, place, front, inner) ends low m j k under small same =
    let from : Derives e known 14 (behind_first ts) rest = rw front.behind at inner in
    let one : read known m 14 (behind_first ts) ≡ Some (e, rest) = operand e of-e known 14 (behind_first ts) rest from ends m (omega arith) in
    let turns : j ≡ k = omega arith in
    rw (front.symbol, one, place, turns)

-- a type name with its lengths is read
type_read : (known : List (List ℕ)) (name : TypeNameView) (es : Trees) (spans : List Span) (m : ℕ) (ts rest last : List Terminal) → AllSpined es → DeriveEach es known 2 spans → IsTypeName known name spans ts rest → IsSign p.RightParenthesis rest last → name_weight name + sizes es ≤ m →
    (type_behind (read known m) m known ts ≡ record { name = name; spans = spans; left = rest }) × (trees_at (read known m 2) spans ≡ es)
type_read known name es spans m ts rest last of-es each is shut small =
    let reads : Each (read known m 2) es spans = each_read es of-es known 2 spans each (type_name_end is) m (omega arith) in
    (type_name_is known (skip_by (read known m 2)) name spans m ts rest last (no_bracket known m 2) is (each_skipped (read known m 2) es spans reads) shut (omega arith), each_trees (read known m 2) es spans reads)

pub sizeof_type_spined : (at : Place) (name : TypeNameView) (es : Trees) → AllSpined es → Spined (SizeofType at name es)
sizeof_type_spined at name es of-es known l ts rest (level, spans, a, b, c, place, front, opens, each, is, shut) ends low m j k under small same =
    let opens-at : IsSign p.LeftParenthesis (behind_first ts) b = rw front.behind at opens in
    let is-at : IsTypeName known name spans (behind_first (behind_first ts)) c = rw opens-at.behind at is in
    let none : read known m 14 (behind_first ts) ≡ None = no_cast known m (behind_first ts) opens-at.symbol (begins_word is-at) in
    let reads = type_read known name es spans m (behind_first (behind_first ts)) c rest of-es each is-at shut (omega arith) in
    let turns : j ≡ k = omega arith in
    let so : Named → Type 0 = λ r. on (size_of (read known m) ts r) (climb (read known m) j low) ≡ climb (read known m) k low (SizeofType at name es) rest in
    rw (front.symbol, none) (subst so (sym reads.0) (rw (reads.1, place, shut.behind, turns)))

pub cast_spined : (at : Place) (name : TypeNameView) (es : Trees) (e : Tree) → AllSpined es → Spined e → Spined (Cast at name es e)
cast_spined at name es e of-es of-e known l ts rest (level, spans, a, b, c, place, opens, each, is, shut, inner) ends low m j k under small same =
    let is-at : IsTypeName known name spans (behind_first ts) b = rw opens.behind at is in
    let none : read known m 0 (behind_first ts) ≡ None = no_type known m 0 (behind_first ts) (begins_word is-at) in
    let reads = type_read known name es spans m (behind_first ts) b c of-es each is-at shut (omega arith) in
    let from : Derives e known 13 (behind_first b) rest = rw shut.behind at inner in
    let one : read known m 13 (behind_first b) ≡ Some (e, rest) = operand e of-e known 13 (behind_first b) rest from ends m (omega arith) in
    let casts : nat_lt low 14 ≡ true = below low 14 (omega arith) in
    let turns : j ≡ k = omega arith in
    let so : Named → Type 0 = λ r. on (cast_to (read known m) ts r) (climb (read known m) j low) ≡ climb (read known m) k low (Cast at name es e) rest in
    rw (opens.symbol, none, casts) (subst so (sym reads.0) (rw (one, reads.1, place, turns)))
