-- An expression has one tree.
use Rattle.std.proofs.Common.{◌≡◌, ℕ, suc, ◌+◌, List, Some, arith, sym, ap, ◌∙◌}
use Rattle.c_layout.specs.SyntaxTrees.{Tree, Trees, Name, Number, Literal, Paren, Subscript, Call, Member, Arrow, Postfix, Prefix, Unary, SizeofExpr, SizeofType, Cast, Binary, Logical, Conditional, Assign, Comma, End, More}
use Rattle.c_parser_tokens.specs.declared.terminals.Terminal.{Terminal}
use Rattle.c_parser_expression_grammar.specs.Expressions.{Derives}
use Rattle.c_parser_theorems.specs.UniqueExpressions.Endings.{EndsBefore}
use Rattle.c_parser_theorems.proofs.unique_expressions.Reading.{read}
use Rattle.c_parser_theorems.proofs.unique_expressions.Operands.{Spined, operand, size}
use Rattle.c_parser_theorems.proofs.unique_expressions.Spans.{AllSpined}
use Rattle.c_parser_theorems.proofs.unique_expressions.Heads.{name_spined, number_spined, literal_spined, paren_spined, call_spined, prefix_spined, unary_spined, sizeof_expression_spined, sizeof_type_spined, cast_spined}
use Rattle.c_parser_theorems.proofs.unique_expressions.Tails.{subscript_spined, member_spined, arrow_spined, postfix_spined, binary_spined, logical_spined, conditional_spined, assign_spined, comma_spined}

mutual
  pub spined : (e : Tree) → Spined e
  spined (Name at text) = name_spined at text
  spined (Number at value) = number_spined at value
  spined (Literal at bytes) = literal_spined at bytes
  spined (Paren at e) = paren_spined at e (spined e)
  spined (Subscript at e i) = subscript_spined at e i (spined e) (spined i)
  spined (Call at name arguments) = call_spined at name arguments (all_spined arguments)
  spined (Member at e name) = member_spined at e name (spined e)
  spined (Arrow at e name) = arrow_spined at e name (spined e)
  spined (Postfix at op e) = postfix_spined at op e (spined e)
  spined (Prefix at op e) = prefix_spined at op e (spined e)
  spined (Unary at op e) = unary_spined at op e (spined e)
  spined (SizeofExpr at e) = sizeof_expression_spined at e (spined e)
  spined (SizeofType at name lengths) = sizeof_type_spined at name lengths (all_spined lengths)
  spined (Cast at name lengths e) = cast_spined at name lengths e (all_spined lengths) (spined e)
  spined (Binary at op x y) = binary_spined at op x y (spined x) (spined y)
  spined (Logical at op x y) = logical_spined at op x y (spined x) (spined y)
  spined (Conditional at x y z) = conditional_spined at x y z (spined x) (spined y) (spined z)
  spined (Assign at op x y) = assign_spined at op x y (spined x) (spined y)
  spined (Comma at x y) = comma_spined at x y (spined x) (spined y)

  pub all_spined : (es : Trees) → AllSpined es
  all_spined End = tt
  all_spined (More e more) = (spined e, all_spined more)

pub same_found : (r s : Tree × List Terminal) → Some r ≡ Some s → (r.0 ≡ s.0) × (r.1 ≡ s.1)
same_found r s same = let h : r ≡ s = cc in (ap (λ (x : Tree × List Terminal). x.0) h, ap (λ (x : Tree × List Terminal). x.1) h)

pub one_expression : (e d : Tree) (known : List (List ℕ)) (l : ℕ) (ts rest left : List Terminal) → Derives e known l ts rest → EndsBefore l rest → Derives d known l ts left → EndsBefore l left → (e ≡ d) × (rest ≡ left)
one_expression e d known l ts rest left of-e ends of-d ends-too =
    let one : read known (suc (size e + size d)) l ts ≡ Some (e, rest) = operand e (spined e) known l ts rest of-e ends (suc (size e + size d)) (omega arith) in
    let two : read known (suc (size e + size d)) l ts ≡ Some (d, left) = operand d (spined d) known l ts left of-d ends-too (suc (size e + size d)) (omega arith) in
    same_found (e, rest) (d, left) (sym one ∙ two)
