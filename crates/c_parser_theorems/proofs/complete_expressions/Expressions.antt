-- Every expression is found, where type names are.
use Rattle.std.proofs.Common.{◌≡◌, ℕ, ◌≤◌, List, refl, arith}
use Rattle.c_layout.specs.SyntaxTrees.{Tree, Trees, Name, Number, Literal, Paren, Subscript, Call, Member, Arrow, Postfix, Prefix, Unary, SizeofExpr, SizeofType, Cast, Binary, Logical, Conditional, Assign, Comma, End, More}
use Rattle.c_parser_theorems.proofs.unique_expressions.Levels.{level_high, level_low, logical_high, logical_low}
use Rattle.c_parser_expression_grammar.specs.ExpressionReaders.{NameReaders}
use Rattle.c_parser_theorems.specs.CompleteExpressions.Found.{IsFound, AllFound, FindsNames}
use Rattle.c_parser_theorems.proofs.complete_expressions.Lifts.{own_level, no_higher}
use Rattle.c_parser_theorems.proofs.complete_expressions.Postfixes.{IsPostfixRead, name_read, number_read, literal_read, paren_read, subscript_read, member_read, arrow_read, postfix_read, postfix_found}
use Rattle.c_parser_theorems.proofs.complete_expressions.Unaries.{prefix_found, unary_found, sizeof_found, size_of_type_found, cast_found}
use Rattle.c_parser_theorems.proofs.complete_expressions.Operators.{IsBinaryRead, IsCommaRead, operators, comma_count, first_read, binary_read, logical_read, binary_found, conditional_found, assign_found, item_read, comma_read, comma_found}
use Rattle.c_parser_theorems.proofs.complete_expressions.Calls.{call_read}

-- what is shown of an expression: it is found, and as an operand it is read as far as it goes
record IsRead (name : NameReaders) (known : List (List ℕ)) (e : Tree) : Type 0 where
  found : IsFound name known e
  postfix : IsPostfixRead name known e
  binary : IsBinaryRead name known e
  comma : IsCommaRead name known e

no_postfix : (name : NameReaders) (known : List (List ℕ)) (e : Tree) → own_level e ≤ 14 → IsPostfixRead name known e
no_postfix name known e low b j ts rest d ends high turns = let h = no_higher e known 15 ts rest d (omega arith) in absurd (omega arith)

no_binary : (name : NameReaders) (known : List (List ℕ)) (e : Tree) → own_level e ≤ 2 → IsBinaryRead name known e
no_binary name known e low b j l ts rest from top d ends ends-too high turns = let h = no_higher e known l ts rest d (omega arith) in absurd (omega arith)

by_postfix : (name : NameReaders) (known : List (List ℕ)) (e : Tree) → 15 ≤ own_level e → operators e ≡ 0 → comma_count e ≡ 0 → IsPostfixRead name known e → IsRead name known e
by_postfix name known e high none no-comma read =
    let all = postfix_found name known e high read in
    record { found = all; postfix = read; binary = first_read name known e (omega arith) none all; comma = item_read name known e (omega arith) no-comma all }

by_cast : (name : NameReaders) (known : List (List ℕ)) (e : Tree) → 13 ≤ own_level e → own_level e ≤ 14 → operators e ≡ 0 → comma_count e ≡ 0 → IsFound name known e → IsRead name known e
by_cast name known e high low none no-comma all =
    record { found = all; postfix = no_postfix name known e low; binary = first_read name known e high none all; comma = item_read name known e (omega arith) no-comma all }

by_binary : (name : NameReaders) (known : List (List ℕ)) (e : Tree) → 3 ≤ own_level e → own_level e ≤ 12 → comma_count e ≡ 0 → IsBinaryRead name known e → IsRead name known e
by_binary name known e high low no-comma read =
    let all = binary_found name known e high low read in
    record { found = all; postfix = no_postfix name known e (omega arith); binary = read; comma = item_read name known e (omega arith) no-comma all }

by_low : (name : NameReaders) (known : List (List ℕ)) (e : Tree) → 1 ≤ own_level e → own_level e ≤ 2 → comma_count e ≡ 0 → IsFound name known e → IsRead name known e
by_low name known e high low no-comma all =
    record { found = all; postfix = no_postfix name known e (omega arith); binary = no_binary name known e low; comma = item_read name known e high no-comma all }

mutual
  expression_read : (name : NameReaders) (known : List (List ℕ)) → FindsNames name known → (e : Tree) → IsRead name known e
  expression_read n k f (Name at text) = by_postfix n k (Name at text) (omega arith) refl refl (name_read n k at text)
  expression_read n k f (Number at value) = by_postfix n k (Number at value) (omega arith) refl refl (number_read n k at value)
  expression_read n k f (Literal at bytes) = by_postfix n k (Literal at bytes) (omega arith) refl refl (literal_read n k at bytes)
  expression_read n k f (Paren at e) = by_postfix n k (Paren at e) (omega arith) refl refl (paren_read n k at e (expression_read n k f e).found)
  expression_read n k f (Subscript at e i) = by_postfix n k (Subscript at e i) (omega arith) refl refl (subscript_read n k at e i (expression_read n k f e).postfix (expression_read n k f i).found)
  expression_read n k f (Call at text es) = by_postfix n k (Call at text es) (omega arith) refl refl (call_read n k at text es (all_read n k f es))
  expression_read n k f (Member at e text) = by_postfix n k (Member at e text) (omega arith) refl refl (member_read n k at e text (expression_read n k f e).postfix)
  expression_read n k f (Arrow at e text) = by_postfix n k (Arrow at e text) (omega arith) refl refl (arrow_read n k at e text (expression_read n k f e).postfix)
  expression_read n k f (Postfix at op e) = by_postfix n k (Postfix at op e) (omega arith) refl refl (postfix_read n k at op e (expression_read n k f e).postfix)
  expression_read n k f (Prefix at op e) = by_cast n k (Prefix at op e) (omega arith) (omega arith) refl refl (prefix_found n k at op e (expression_read n k f e).found)
  expression_read n k f (Unary at op e) = by_cast n k (Unary at op e) (omega arith) (omega arith) refl refl (unary_found n k at op e (expression_read n k f e).found)
  expression_read n k f (SizeofExpr at e) = by_cast n k (SizeofExpr at e) (omega arith) (omega arith) refl refl (sizeof_found n k at e (expression_read n k f e).found)
  expression_read n k f (SizeofType at t es) = by_cast n k (SizeofType at t es) (omega arith) (omega arith) refl refl (size_of_type_found n k f at t es (all_read n k f es))
  expression_read n k f (Cast at t es e) = by_cast n k (Cast at t es e) (omega arith) (omega arith) refl refl (cast_found n k f at t es e (all_read n k f es) (expression_read n k f e).found)
  expression_read n k f (Binary at op x y) =
      let high = level_high op in
      by_binary n k (Binary at op x y) (omega arith) (level_low op) refl (binary_read n k at op x y (expression_read n k f x).binary (expression_read n k f y).found)
  expression_read n k f (Logical at op x y) =
      let low = logical_low op in
      by_binary n k (Logical at op x y) (logical_high op) (omega arith) refl (logical_read n k at op x y (expression_read n k f x).binary (expression_read n k f y).found)
  expression_read n k f (Conditional at x y z) =
      by_low n k (Conditional at x y z) (omega arith) (omega arith) refl (conditional_found n k at x y z (expression_read n k f x).found (expression_read n k f y).found (expression_read n k f z).found)
  expression_read n k f (Assign at op x y) =
      by_low n k (Assign at op x y) (omega arith) (omega arith) refl (assign_found n k at op x y (expression_read n k f x).found (expression_read n k f y).found)
  expression_read n k f (Comma at x y) =
      let read = comma_read n k at x y (expression_read n k f x).comma (expression_read n k f y).found in
      record { found = comma_found n k at x y read; postfix = no_postfix n k (Comma at x y) (omega arith); binary = no_binary n k (Comma at x y) (omega arith); comma = read }

  all_read : (name : NameReaders) (known : List (List ℕ)) → FindsNames name known → (es : Trees) → AllFound name known es
  all_read n k f End = tt
  all_read n k f (More e more) = ((expression_read n k f e).found, all_read n k f more)

pub expressions_found : (name : NameReaders) (known : List (List ℕ)) → FindsNames name known → (e : Tree) → IsFound name known e
expressions_found name known finds e = (expression_read name known finds e).found
