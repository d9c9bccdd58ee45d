-- Statements with statements in them, and blocks, are found.
use Rattle.std.proofs.Common.{◌≡◌, ℕ, zero, suc, ◌+◌, ◌≤◌, ◌<◌, Bool, true, false, not, List, [], ◌∷◌, length, Some, refl, arith, sym, ap, ◌∙◌}
use Rattle.cc_base.specs.declared.diagnostics.Place.{Place}
use Rattle.c_layout.specs.DeclarationTrees.{StatementTree, StatementTrees, Declaration, Label, Case, Default, Block, Expression, If, IfElse, Switch, While, Do, For, Goto, Continue, Break, Return, NoStatement, MoreStatements, statement_trees}
use Rattle.c_parser_expression_grammar.specs.TypeNameReaders.{readers_inside}
use Rattle.c_parser_tokens.specs.declared.terminals.Punctuator.TheVariants as p
use Rattle.c_parser_tokens.specs.declared.terminals.Symbol.TheVariants as symbol
use Rattle.c_parser_tokens.specs.declared.terminals.Terminal.{Terminal}
use Rattle.c_parser_expression_grammar.specs.Fronts.{first_symbol, first_place, behind_first, begins_specifiers, IsSign}
use Rattle.c_parser.specs.Findings.{is_else}
use Rattle.c_parser.specs.Statements.{is_statement, DeriveStatement, DeriveStatements, statement_height, statements_height, IsBlock, block_height}
use Rattle.c_parser_theorems.proofs.unique_expressions.Levels.{below}
use Rattle.c_parser_expression_grammar.specs.Readings.{is_left_brace}
use Rattle.c_parser_theorems.proofs.complete_expressions.Shrinking.{length_behind}
use Rattle.c_parser_theorems.proofs.complete_expressions.Takes.{takes}
use Rattle.c_parser_declarations.specs.Grammar.Items.{item_of}
use Rattle.c_parser_theorems.proofs.complete_declarations.Beginnings.{word_takes}
use Rattle.c_parser_theorems.proofs.complete_declarations.Named.{name_takes}
use Rattle.c_parser_theorems.specs.CompleteUnits.Found.{StatementEnds}
use Rattle.c_parser.specs.StatementReaders.{block_item, block_items, block, block_statement, other_statement, statement, statement_inside}
use Rattle.c_parser_theorems.proofs.complete_units.Fronts.{item_front, local_front, condition_shrinks, clauses_shrink, statement_count, statement_takes, statements_few}
use Rattle.c_parser_theorems.proofs.complete_units.Statements.{Body, Answer, local_read, by_symbol, label_read, case_read, default_read, if_read, if_else_read, switch_read, while_read, do_read, for_read, goto_read, continue_read, break_read, return_read, value_read}

abbrev pub IsStatementFound : List (List ℕ) → StatementTree → Type 0
IsStatementFound known s =
    (b : ℕ) (ts rest : List Terminal) → DeriveStatement s known ts rest → is_statement s ≡ true → StatementEnds s rest → statement_height s ≤ b → b + length ts < 4294967295 → statement known b ts ≡ Some (item_of s (statement_height s) rest)

body_read : (known : List (List ℕ)) (s : StatementTree) → IsStatementFound known s → (b : ℕ) (ts rest : List Terminal) → DeriveStatement s known ts rest → is_statement s ≡ true → StatementEnds s rest → statement_height s < b → b + length ts < 4294967295 → Body known b s ts rest
body_read known s found zero ts rest d some ends small room = absurd (omega arith)
body_read known s found (suc b) ts rest d some ends small room = found b ts rest d some ends (omega arith) (omega arith)

-- ---- items of blocks

statement_item : (known : List (List ℕ)) (s : StatementTree) → IsStatementFound known s → is_statement s ≡ true → (b : ℕ) (ts rest : List Terminal) → DeriveStatement s known ts rest → StatementEnds s rest → statement_height s < b → b + length ts < 4294967295 →
    block_item known b (statement_inside known b) ts ≡ Some (item_of s (statement_height s) rest)
statement_item known s found some b ts rest d ends small room =
    let front = item_front known s ts rest d in
    let off : begins_specifiers known ts ≡ false = front.word ∙ ap not some in
    let one = body_read known s found b ts rest d some ends small room in
    rw (off, one) refl

item_read : (known : List (List ℕ)) (s : StatementTree) → IsStatementFound known s → (b : ℕ) (ts rest : List Terminal) → DeriveStatement s known ts rest → StatementEnds s rest → statement_height s < b → b + length ts < 4294967295 →
    block_item known b (statement_inside known b) ts ≡ Some (item_of s (statement_height s) rest)
item_read known (Declaration l) found b ts rest is ends small room =
    let front = local_front known l ts rest is in
    let one = local_read known b l ts rest is small room in
    rw (front.word, one) refl
item_read known s found b ts rest d ends small room = statement_item known s found refl b ts rest d ends small room

-- no item of a block and no `}` is an `else`
next_else : (known : List (List ℕ)) (more : StatementTrees) (ts last rest : List Terminal) → DeriveStatements more known ts last → IsSign p.RightBrace last rest → is_else (first_symbol ts) ≡ false
next_else known NoStatement ts last rest same shut = let here : last ≡ ts = same in let shut-at : IsSign p.RightBrace ts rest = rw here at shut in rw shut-at.symbol refl
next_else known (MoreStatements s more) ts last rest (a, one, all) shut = (item_front known s ts a one).other

abbrev pub statement_list : StatementTrees → List StatementTree
statement_list NoStatement = []
statement_list (MoreStatements s more) = s ∷ statement_list more

statements_back : (ss : StatementTrees) → statement_trees (statement_list ss) ≡ ss
statements_back NoStatement = refl
statements_back (MoreStatements s more) = ap (MoreStatements s) (statements_back more)

pub list_back : (ss : List StatementTree) → statement_list (statement_trees ss) ≡ ss
list_back [] = refl
list_back (s ∷ ss) = ap (λ (v : List StatementTree). s ∷ v) (list_back ss)

-- ---- blocks

block_by : (known : List (List ℕ)) (b : ℕ) (items : StatementTrees) (ts a rest : List Terminal) → IsSign p.LeftBrace ts a → block_items (block_item known b (statement_inside known b)) (length a) a ≡ Some (item_of (statement_list items) (statements_height items) rest) → statements_height items < b →
    block known b (statement_inside known b) ts ≡ Some (item_of (statement_list items) (statements_height items + 1) rest)
block_by known b items ts a rest opens all small =
    let one : block_items (block_item known b (statement_inside known b)) (length (behind_first ts)) (behind_first ts) ≡ Some (item_of (statement_list items) (statements_height items) rest) = rw opens.behind at all in
    let fits = below (statements_height items) b small in
    rw (opens.symbol, one, fits) refl

block_read : (known : List (List ℕ)) (b : ℕ) (at : Place) (items : StatementTrees) (ts a rest : List Terminal) → at ≡ first_place ts → IsSign p.LeftBrace ts a → block known b (statement_inside known b) ts ≡ Some (item_of (statement_list items) (statements_height items + 1) rest) → Answer known b (Block at items) ts rest
block_read known b at items ts a rest place opens all =
    let brace : is_left_brace (first_symbol ts) ≡ true = rw opens.symbol refl in
    let back = statements_back items in
    let first : other_statement known b (readers_inside known b) (statement_inside known b) ts ≡ block_statement known b (statement_inside known b) ts = rw brace refl in
    let second : block_statement known b (statement_inside known b) ts ≡ Some (item_of (Block at items) (statement_height (Block at items)) rest) = rw (all, back, place) refl in
    by_symbol known b ts (symbol.Punctuator p.LeftBrace) opens.symbol ∙ first ∙ second

no_both : {x : Bool} → x ≡ true → x ≡ false → ⊥
no_both {x} one other = let h : true ≡ false = sym one ∙ other in absurd (cc h)

abbrev AreItemsFound : List (List ℕ) → StatementTrees → Type 0
AreItemsFound known ss =
    (b turns : ℕ) (ts last rest : List Terminal) → DeriveStatements ss known ts last → IsSign p.RightBrace last rest → statements_height ss < b → b + length ts < 4294967295 → statement_count ss ≤ turns →
    block_items (block_item known b (statement_inside known b)) turns ts ≡ Some (item_of (statement_list ss) (statements_height ss) rest)

no_items : (known : List (List ℕ)) (b turns : ℕ) (ts rest : List Terminal) → IsSign p.RightBrace ts rest → block_items (block_item known b (statement_inside known b)) turns ts ≡ Some (item_of [] 0 rest)
no_items known b zero ts rest shut = rw (shut.symbol, shut.behind) refl
no_items known b (suc turns) ts rest shut = rw (shut.symbol, shut.behind) refl

mutual
  pub statement_found : (known : List (List ℕ)) (s : StatementTree) → IsStatementFound known s
  statement_found known (Declaration l) b ts rest d some ends small room = absurd (cc some)
  statement_found known (Label name s) b ts rest (a, c, is, colon, some-in, d) some ends small room =
      let one = name_takes name ts a is in
      let two = length_behind a c colon in
      let body = body_read known s (statement_found known s) b c rest d some-in ends (omega arith) (omega arith) in
      label_read known b name s ts a c rest is colon body (omega arith)
  statement_found known (Case at e s) b ts rest (place, a, c, f, front, value, colon, some-in, d) some ends small room =
      let one = word_takes ts a front in
      let two = takes e known 2 a c value in
      let three = length_behind c f colon in
      let body = body_read known s (statement_found known s) b f rest d some-in ends (omega arith) (omega arith) in
      case_read known b at e s ts a c f rest place front value colon body (omega arith)
  statement_found known (Default at s) b ts rest (place, a, c, front, colon, some-in, d) some ends small room =
      let one = word_takes ts a front in
      let two = length_behind a c colon in
      let body = body_read known s (statement_found known s) b c rest d some-in ends (omega arith) (omega arith) in
      default_read known b at s ts a c rest place front colon body (omega arith)
  statement_found known (Block at items) b ts rest (place, a, c, opens, all, shut) some ends small room =
      let one = length_behind ts a opens in
      let few = statements_few known items a c all in
      let two = items_found known items b (length a) a c rest all shut (omega arith) (omega arith) (omega arith) in
      block_read known b at items ts a rest place opens (block_by known b items ts a rest opens two (omega arith))
  statement_found known (Expression at e) b ts rest (place, a, value, semi) some ends small room = value_read known b at e ts a rest place value semi small
  statement_found known (If at e s) b ts rest (place, a, c, front, test, some-in, d) some ends small room =
      let one = word_takes ts a front in
      let two = condition_shrinks known e a c test in
      let none : is_else (first_symbol rest) ≡ false = ends refl in
      let body = body_read known s (statement_found known s) b c rest d some-in (λ is-open. none) (omega arith) (omega arith) in
      if_read known b at e s ts a c rest place front test body none (omega arith)
  statement_found known (IfElse at e s t) b ts rest (place, a, c, f, g, front, test, some-in, closed, first, other, some-too, second) some ends small room =
      let one = word_takes ts a front in
      let two = condition_shrinks known e a c test in
      let three = statement_takes known s c f first in
      let four = word_takes f g other in
      let body = body_read known s (statement_found known s) b c f first some-in (λ is-open. absurd (no_both is-open closed)) (omega arith) (omega arith) in
      let tail = body_read known t (statement_found known t) b g rest second some-too ends (omega arith) (omega arith) in
      if_else_read known b at e s t ts a c f g rest place front test body other tail (omega arith)
  statement_found known (Switch at e s) b ts rest (place, a, c, front, test, some-in, d) some ends small room =
      let one = word_takes ts a front in
      let two = condition_shrinks known e a c test in
      let body = body_read known s (statement_found known s) b c rest d some-in ends (omega arith) (omega arith) in
      switch_read known b at e s ts a c rest place front test body (omega arith)
  statement_found known (While at e s) b ts rest (place, a, c, front, test, some-in, d) some ends small room =
      let one = word_takes ts a front in
      let two = condition_shrinks known e a c test in
      let body = body_read known s (statement_found known s) b c rest d some-in ends (omega arith) (omega arith) in
      while_read known b at e s ts a c rest place front test body (omega arith)
  statement_found known (Do at s e) b ts rest (place, a, c, f, g, front, some-in, d, again, test, semi) some ends small room =
      let one = word_takes ts a front in
      let none : is_else (first_symbol c) ≡ false = rw again.symbol refl in
      let body = body_read known s (statement_found known s) b a c d some-in (λ is-open. none) (omega arith) (omega arith) in
      do_read known b at e s ts a c f g rest place front body again test semi (omega arith)
  statement_found known (For at first condition step s) b ts rest (place, a, c, d, e, f, g, h, front, opens, first-is, test, semi, step-is, shut, some-in, body-is) some ends small room =
      let one = word_takes ts a front in
      let two = length_behind a c opens in
      let three = clauses_shrink known first condition step a c d e f g h opens first-is test semi step-is shut in
      let body = body_read known s (statement_found known s) b h rest body-is some-in ends (omega arith) (omega arith) in
      for_read known b at first condition step s ts a c d e f g h rest place front opens first-is test semi step-is shut body (omega arith) (omega arith)
  statement_found known (Goto at name) b ts rest (place, a, c, front, is, semi) some ends small room = goto_read known b at name ts a c rest place front is semi small
  statement_found known (Continue at) b ts rest (place, a, front, semi) some ends small room = continue_read known b at ts a rest place front semi small
  statement_found known (Break at) b ts rest (place, a, front, semi) some ends small room = break_read known b at ts a rest place front semi small
  statement_found known (Return at e) b ts rest (place, a, c, front, value, semi) some ends small room = return_read known b at e ts a c rest place front value semi (omega arith)

  items_found : (known : List (List ℕ)) (ss : StatementTrees) → AreItemsFound known ss
  items_found known NoStatement b turns ts last rest same shut small room enough =
      let here : last ≡ ts = same in
      no_items known b turns ts rest (rw here at shut)
  items_found known (MoreStatements s more) b zero ts last rest all shut small room enough = absurd (omega arith)
  items_found known (MoreStatements s more) b (suc turns) ts last rest (a, one, all) shut small room enough =
      let front = item_front known s ts a one in
      let take = statement_takes known s ts a one in
      let none = next_else known more a last rest all shut in
      let first = item_read known s (statement_found known s) b ts a one (λ is-open. none) (omega arith) room in
      let tail = items_found known more b turns a last rest all shut (omega arith) (omega arith) (omega arith) in
      rw (front.brace, first, tail) refl

pub block_found : (known : List (List ℕ)) (b : ℕ) (items : List StatementTree) (ts rest : List Terminal) → IsBlock known (statement_trees items) ts rest → block_height (statement_trees items) ≤ b → b + length ts < 4294967295 →
    block known b (statement_inside known b) ts ≡ Some (item_of items (block_height (statement_trees items)) rest)
block_found known b items ts rest is small room =
    let one = length_behind ts is.inside is.opens in
    let few = statements_few known (statement_trees items) is.inside is.last is.derive in
    let two = items_found known (statement_trees items) b (length is.inside) is.inside is.last rest is.derive is.closes (omega arith) (omega arith) (omega arith) in
    let whole = block_by known b (statement_trees items) ts is.inside rest is.opens two (omega arith) in
    whole ∙ ap (λ (v : List StatementTree). Some (item_of v (block_height (statement_trees items)) rest)) (list_back items)
