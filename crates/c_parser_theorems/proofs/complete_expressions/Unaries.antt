-- Unary expressions and casts are found.
use Rattle.std.proofs.Common.{◌≡◌, ℕ, zero, suc, ◌<◌, true, false, max, List, Some, None, refl, arith}
use Rattle.cc_base.specs.declared.diagnostics.Place.{Place}
use Rattle.c_layout.specs.SyntaxTrees.{Tree, Trees, TypeNameView, Name, Number, Literal, Paren, Subscript, Call, Member, Arrow, Postfix, Prefix, Unary, SizeofExpr, SizeofType, Cast, Binary, Logical, Conditional, Assign, Comma}
use Rattle.c_layout.specs.declared.syntax_tree.declarations.Storage.{Storage}
use Rattle.c_layout.specs.declared.syntax_tree.declarations.TypeWord.{TypeWord}
use Rattle.c_layout.specs.declared.syntax_tree.expressions.StepOp.{StepOp}
use Rattle.c_layout.specs.declared.syntax_tree.expressions.StepOp.TheVariants as step
use Rattle.c_layout.specs.declared.syntax_tree.expressions.UnaryOp.{UnaryOp}
use Rattle.c_layout.specs.declared.syntax_tree.expressions.UnaryOp.TheVariants as unary_op
use Rattle.c_layout.specs.declared.syntax_tree.expressions.TypeNameWord.{TypeNameWord}
use Rattle.c_layout.specs.declared.syntax_tree.expressions.TypeNameWord.TheVariants as word
use Rattle.c_parser_tokens.specs.declared.terminals.Keyword.{Keyword}
use Rattle.c_parser_tokens.specs.declared.terminals.Keyword.TheVariants as k
use Rattle.c_parser_tokens.specs.declared.terminals.Terminal.{Terminal}
use Rattle.c_parser_tokens.specs.declared.terminals.Punctuator.TheVariants as p
use Rattle.c_parser_tokens.specs.declared.terminals.Symbol.TheVariants as symbol
use Rattle.c_parser_expression_grammar.specs.Expressions.{Derives, DeriveEach, height_of, heights_of}
use Rattle.c_parser_expression_grammar.specs.Fronts.{behind_first, begins_specifiers, is_specifier, IsSign}
use Rattle.c_parser_expression_grammar.specs.Levels.{step_sign, step_of, unary_sign, unary_of}
use Rattle.c_parser_expression_grammar.specs.Spans.{Span}
use Rattle.c_parser_expression_grammar.specs.TypeNames.{type_word_of, storage_class, is_qualifier, IsTypeName, IsTypeNameWord, type_name_height}
use Rattle.c_parser_theorems.proofs.unique_expressions.Levels.{below, level_low, logical_low}
use Rattle.c_parser_theorems.proofs.unique_expressions.WordReading.{begins_word}
use Rattle.c_parser_expression_grammar.specs.Readings.{is_left_parenthesis}
use Rattle.c_parser_expression_grammar.specs.ExpressionReaders.{NameReaders, unary, cast, opens_type_name, inside}
use Rattle.c_parser_theorems.specs.CompleteExpressions.Found.{Reads, IsFound, AllFound, FindsNames}
use Rattle.c_parser_theorems.proofs.complete_expressions.Lifts.{raise, nothing, from_unary, from_cast, found_by, found_inside}
use Rattle.c_parser_theorems.proofs.complete_expressions.Begins.{begins_postfix}
use Rattle.c_parser_theorems.proofs.complete_expressions.Postfixes.{step_is}

no_step : (op : UnaryOp) → step_of (symbol.Punctuator (unary_sign op)) ≡ None
no_step op = elim op as (λ o. step_of (symbol.Punctuator (unary_sign o)) ≡ None) [
  | unary_op.Address ↦ refl
  | unary_op.Indirection ↦ refl
  | unary_op.Plus ↦ refl
  | unary_op.Minus ↦ refl
  | unary_op.Complement ↦ refl
  | unary_op.Not ↦ refl
]

unary_is : (op : UnaryOp) → unary_of (symbol.Punctuator (unary_sign op)) ≡ Some op
unary_is op = elim op as (λ o. unary_of (symbol.Punctuator (unary_sign o)) ≡ Some o) [
  | unary_op.Address ↦ refl
  | unary_op.Indirection ↦ refl
  | unary_op.Plus ↦ refl
  | unary_op.Minus ↦ refl
  | unary_op.Complement ↦ refl
  | unary_op.Not ↦ refl
]

unary_opens : (op : UnaryOp) → is_left_parenthesis (symbol.Punctuator (unary_sign op)) ≡ false
unary_opens op = elim op as (λ o. is_left_parenthesis (symbol.Punctuator (unary_sign o)) ≡ false) [
  | unary_op.Address ↦ refl
  | unary_op.Indirection ↦ refl
  | unary_op.Plus ↦ refl
  | unary_op.Minus ↦ refl
  | unary_op.Complement ↦ refl
  | unary_op.Not ↦ refl
]

step_opens : (op : StepOp) → is_left_parenthesis (symbol.Punctuator (step_sign op)) ≡ false
step_opens op = elim op as (λ o. is_left_parenthesis (symbol.Punctuator (step_sign o)) ≡ false) [ step.Increment ↦ refl | step.Decrement ↦ refl ]

postfix_opens : (e : Tree) (known : List (List ℕ)) (ts rest : List Terminal) → Derives e known 15 ts rest → opens_type_name known ts ≡ false
postfix_opens e known ts rest d = (begins_postfix e known ts rest d).no_type

-- no unary expression begins as a type name in parentheses does
pub no_type_name : (e : Tree) (known : List (List ℕ)) (ts rest : List Terminal) → Derives e known 14 ts rest → opens_type_name known ts ≡ false
no_type_name (Name at text) known ts rest d = postfix_opens (Name at text) known ts rest d
no_type_name (Number at value) known ts rest d = postfix_opens (Number at value) known ts rest d
no_type_name (Literal at bytes) known ts rest d = postfix_opens (Literal at bytes) known ts rest d
no_type_name (Paren at e) known ts rest d = postfix_opens (Paren at e) known ts rest d
no_type_name (Subscript at e i) known ts rest d = postfix_opens (Subscript at e i) known ts rest (raise (Subscript at e i) known 14 15 ts rest (omega arith) d)
no_type_name (Call at name es) known ts rest d = postfix_opens (Call at name es) known ts rest (raise (Call at name es) known 14 15 ts rest (omega arith) d)
no_type_name (Member at e name) known ts rest d = postfix_opens (Member at e name) known ts rest (raise (Member at e name) known 14 15 ts rest (omega arith) d)
no_type_name (Arrow at e name) known ts rest d = postfix_opens (Arrow at e name) known ts rest (raise (Arrow at e name) known 14 15 ts rest (omega arith) d)
no_type_name (Postfix at op e) known ts rest d = postfix_opens (Postfix at op e) known ts rest (raise (Postfix at op e) known 14 15 ts rest (omega arith) d)
no_type_name (Prefix at op e) known ts rest (level, a, place, sign, inner) = let off = step_opens op in rw (sign.symbol, off) refl
no_type_name (Unary at op e) known ts rest (level, a, place, sign, inner) = let off = unary_opens op in rw (sign.symbol, off) refl
no_type_name (SizeofExpr at e) known ts rest (level, a, place, front, inner) = rw front.symbol refl
no_type_name (SizeofType at name es) known ts rest (level, spans, a, b, c, place, front, opens, each, is, shut) = rw front.symbol refl
no_type_name (Cast at name es e) known ts rest d = let h = d.0 in absurd (omega arith)
no_type_name (Binary at op x y) known ts rest d = let h = d.0 in let low = level_low op in absurd (omega arith)
no_type_name (Logical at op x y) known ts rest d = let h = d.0 in let low = logical_low op in absurd (omega arith)
no_type_name (Conditional at x y z) known ts rest d = let h = d.0 in absurd (omega arith)
no_type_name (Assign at op x y) known ts rest d = let h = d.0 in absurd (omega arith)
no_type_name (Comma at x y) known ts rest d = let h = d.0 in absurd (omega arith)

-- ---- type names begin as specifiers do

storage_specifies : (w : Keyword) (class : Storage) → storage_class w ≡ Some class → is_specifier w ≡ true
storage_specifies k.Typedef class is = refl
storage_specifies k.Extern class is = refl
storage_specifies k.Static class is = refl
storage_specifies k.Auto class is = refl
storage_specifies k.Register class is = refl
storage_specifies _ class is = absurd (cc is)

qualifier_specifies : (w : Keyword) → is_qualifier w ≡ true → is_specifier w ≡ true
qualifier_specifies k.Const is = refl
qualifier_specifies k.Restrict is = refl
qualifier_specifies k.Inline is = refl
qualifier_specifies _ is = absurd (cc is)

type_specifies : (w : Keyword) (named : TypeWord) → type_word_of w ≡ Some named → is_specifier w ≡ true
type_specifies k.Void named is = refl
type_specifies k.Char named is = refl
type_specifies k.Short named is = refl
type_specifies k.Int named is = refl
type_specifies k.Long named is = refl
type_specifies k.Signed named is = refl
type_specifies k.Unsigned named is = refl
type_specifies _ named is = absurd (cc is)

pub word_specifies : (known : List (List ℕ)) (w : TypeNameWord) (ts rest : List Terminal) → IsTypeNameWord known w ts rest → begins_specifiers known ts ≡ true
word_specifies known (word.Storage at class) ts rest (place, w, is, front) = let yes = storage_specifies w class is in rw front.symbol yes
word_specifies known (word.Qualifier at) ts rest (place, w, is, front) = let yes = qualifier_specifies w is in rw front.symbol yes
word_specifies known (word.Type at named) ts rest (place, w, is, front) = let yes = type_specifies w named is in rw front.symbol yes
word_specifies known (word.Struct at tag) ts rest (place, a, front, name) = rw front.symbol refl
word_specifies known (word.Enum at tag) ts rest (place, a, front, name) = rw front.symbol refl
word_specifies known (word.Typedef name) ts rest is = rw (is.symbol, is.among) refl

opens_type : (known : List (List ℕ)) (name : TypeNameView) (spans : List Span) (ts a rest : List Terminal) → IsSign p.LeftParenthesis ts a → IsTypeName known name spans a rest → opens_type_name known ts ≡ true
opens_type known name spans ts a rest opens is =
    let is-at : IsTypeName known name spans (behind_first ts) rest = rw opens.behind at is in
    let begins = begins_word is-at in
    let yes = word_specifies known begins.word (behind_first ts) begins.behind begins.is in
    rw (opens.symbol, yes) refl

-- ---- what is found

prefix_reads : (name : NameReaders) (known : List (List ℕ)) (at : Place) (op : StepOp) (e : Tree) → IsFound name known e → (b : ℕ) → Reads known (unary b (inside name known b) known) 14 (suc b) (Prefix at op e)
prefix_reads name known at op e of-e b ts rest (level, a, place, sign, inner) ends small =
    let from : Derives e known 14 (behind_first ts) rest = rw sign.behind at inner in
    let one = (found_inside name known e of-e b).unary (behind_first ts) rest from ends (omega arith) in
    let is = step_is op in
    let fits = below (height_of e) b (omega arith) in
    rw (sign.symbol, is, one, fits, place) refl

unary_reads : (name : NameReaders) (known : List (List ℕ)) (at : Place) (op : UnaryOp) (e : Tree) → IsFound name known e → (b : ℕ) → Reads known (unary b (inside name known b) known) 14 (suc b) (Unary at op e)
unary_reads name known at op e of-e b ts rest (level, a, place, sign, inner) ends small =
    let from : Derives e known 13 (behind_first ts) rest = rw sign.behind at inner in
    let one = (found_inside name known e of-e b).cast (behind_first ts) rest from (omega arith) (omega arith) in
    let none = no_step op in
    let is = unary_is op in
    let fits = below (height_of e) b (omega arith) in
    rw (sign.symbol, none, is, one, fits, place) refl

sizeof_reads : (name : NameReaders) (known : List (List ℕ)) (at : Place) (e : Tree) → IsFound name known e → (b : ℕ) → Reads known (unary b (inside name known b) known) 14 (suc b) (SizeofExpr at e)
sizeof_reads name known at e of-e b ts rest (level, a, place, front, inner) ends small =
    let from : Derives e known 14 (behind_first ts) rest = rw front.behind at inner in
    let one = (found_inside name known e of-e b).unary (behind_first ts) rest from ends (omega arith) in
    let off = no_type_name e known (behind_first ts) rest from in
    let fits = below (height_of e) b (omega arith) in
    rw (front.symbol, front.symbol, off, one, fits, place) refl

-- a type name within a budget
name_inside : (name : NameReaders) (known : List (List ℕ)) → FindsNames name known → (b : ℕ) (n : TypeNameView) (es : Trees) (spans : List Span) (ts rest last : List Terminal) → AllFound name known es → DeriveEach es known 2 spans → IsTypeName known n spans ts rest → IsSign p.RightParenthesis rest last →
    type_name_height n (heights_of es) < b → (inside name known b).type_name ts ≡ Some (record { name = n; lengths = es; height = type_name_height n (heights_of es); rest = rest })
name_inside name known finds zero n es spans ts rest last of-es each is shut small = absurd (omega arith)
name_inside name known finds (suc zero) n es spans ts rest last of-es each is shut small = finds zero n es spans ts rest last of-es each is shut (omega arith)
name_inside name known finds (suc (suc b)) n es spans ts rest last of-es each is shut small = finds (suc b) n es spans ts rest last of-es each is shut (omega arith)

size_of_type_reads : (name : NameReaders) (known : List (List ℕ)) → FindsNames name known → (at : Place) (n : TypeNameView) (es : Trees) → AllFound name known es → (b : ℕ) → Reads known (unary b (inside name known b) known) 14 (suc b) (SizeofType at n es)
size_of_type_reads name known finds at n es of-es b ts rest (level, spans, a, c, d, place, front, opens, each, is, shut) ends small =
    let opens-at : IsSign p.LeftParenthesis (behind_first ts) c = rw front.behind at opens in
    let is-at : IsTypeName known n spans (behind_first (behind_first ts)) d = rw opens-at.behind at is in
    let yes = opens_type known n spans (behind_first ts) c d opens-at is in
    let one = name_inside name known finds b n es spans (behind_first (behind_first ts)) d rest of-es each is-at shut (omega arith) in
    let fits = below (type_name_height n (heights_of es)) b (omega arith) in
    rw (front.symbol, front.symbol, yes, one, shut.symbol, fits, place, shut.behind) refl

cast_reads : (name : NameReaders) (known : List (List ℕ)) → FindsNames name known → (at : Place) (n : TypeNameView) (es : Trees) (e : Tree) → AllFound name known es → IsFound name known e → (b : ℕ) → Reads known (cast b (inside name known b) known) 13 (suc b) (Cast at n es e)
cast_reads name known finds at n es e of-es of-e b ts rest (level, spans, a, c, d, place, opens, each, is, shut, inner) ends small =
    let is-at : IsTypeName known n spans (behind_first ts) c = rw opens.behind at is in
    let yes = opens_type known n spans ts a c opens is in
    let one = name_inside name known finds b n es spans (behind_first ts) c d of-es each is-at shut (omega arith) in
    let from : Derives e known 13 (behind_first c) rest = rw shut.behind at inner in
    let two = (found_inside name known e of-e b).cast (behind_first c) rest from ends (omega arith) in
    let fits = below (max (type_name_height n (heights_of es)) (height_of e)) b (omega arith) in
    rw (yes, one, shut.symbol, two, fits, place) refl

pub prefix_found : (name : NameReaders) (known : List (List ℕ)) (at : Place) (op : StepOp) (e : Tree) → IsFound name known e → IsFound name known (Prefix at op e)
prefix_found name known at op e of-e =
    found_by name known (Prefix at op e) (λ b. from_unary name known b (inside name known b) (Prefix at op e) (omega arith) (no_type_name (Prefix at op e) known) (prefix_reads name known at op e of-e b) (nothing known _ 15 (suc b) (Prefix at op e) (omega arith) (omega arith)))

pub unary_found : (name : NameReaders) (known : List (List ℕ)) (at : Place) (op : UnaryOp) (e : Tree) → IsFound name known e → IsFound name known (Unary at op e)
unary_found name known at op e of-e =
    found_by name known (Unary at op e) (λ b. from_unary name known b (inside name known b) (Unary at op e) (omega arith) (no_type_name (Unary at op e) known) (unary_reads name known at op e of-e b) (nothing known _ 15 (suc b) (Unary at op e) (omega arith) (omega arith)))

pub sizeof_found : (name : NameReaders) (known : List (List ℕ)) (at : Place) (e : Tree) → IsFound name known e → IsFound name known (SizeofExpr at e)
sizeof_found name known at e of-e =
    found_by name known (SizeofExpr at e) (λ b. from_unary name known b (inside name known b) (SizeofExpr at e) (omega arith) (no_type_name (SizeofExpr at e) known) (sizeof_reads name known at e of-e b) (nothing known _ 15 (suc b) (SizeofExpr at e) (omega arith) (omega arith)))

pub size_of_type_found : (name : NameReaders) (known : List (List ℕ)) → FindsNames name known → (at : Place) (n : TypeNameView) (es : Trees) → AllFound name known es → IsFound name known (SizeofType at n es)
size_of_type_found name known finds at n es of-es =
    found_by name known (SizeofType at n es) (λ b. from_unary name known b (inside name known b) (SizeofType at n es) (omega arith) (no_type_name (SizeofType at n es) known) (size_of_type_reads name known finds at n es of-es b) (nothing known _ 15 (suc b) (SizeofType at n es) (omega arith) (omega arith)))

pub cast_found : (name : NameReaders) (known : List (List ℕ)) → FindsNames name known → (at : Place) (n : TypeNameView) (es : Trees) (e : Tree) → AllFound name known es → IsFound name known e → IsFound name known (Cast at n es e)
cast_found name known finds at n es e of-es of-e =
    found_by name known (Cast at n es e) (λ b. from_cast name known b (inside name known b) (Cast at n es e) (omega arith) (cast_reads name known finds at n es e of-es of-e b) (nothing known _ 14 (suc b) (Cast at n es e) (omega arith) (omega arith)) (nothing known _ 15 (suc b) (Cast at n es e) (omega arith) (omega arith)))
