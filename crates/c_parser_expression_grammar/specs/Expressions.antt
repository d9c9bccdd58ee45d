-- The grammar of expressions (6.5) as a relation: a tree at a level derives from the terminals `ts` to
-- those that it leaves, `rest`, with the typedef names in force. Levels are those of Levels.
use Rattle.std.specs.Prelude.{◌≡◌, ◌+◌, ◌≤◌, ℕ, List, [], ◌∷◌, max, Some}
use Rattle.c_layout.specs.SyntaxTrees.{Tree, Trees, Name, Number, Literal, Paren, Subscript, Call, Member, Arrow, Postfix, Prefix, Unary, SizeofExpr, SizeofType, Cast, Binary, Logical, Conditional, Assign, Comma, End, More}
use Rattle.c_parser_tokens.specs.declared.terminals.Terminal.{Terminal}
use Rattle.c_parser_tokens.specs.declared.terminals.Keyword.TheVariants as k
use Rattle.c_parser_tokens.specs.declared.terminals.Punctuator.{Punctuator}
use Rattle.c_parser_tokens.specs.declared.terminals.Punctuator.TheVariants as p
use Rattle.c_parser_expression_grammar.specs.Fronts.{first_place, IsSign, IsWord, IsName, IsConstant, IsLiteral}
use Rattle.c_parser_expression_grammar.specs.Levels.{binary_sign, binary_level, logical_sign, logical_level, unary_sign, step_sign, assign_sign}
use Rattle.c_parser_expression_grammar.specs.Spans.{Span, Separated}
use Rattle.c_parser_expression_grammar.specs.TypeNames.{IsTypeName, greatest, type_name_height}

abbrev mutual
  pub Derives : Tree → List (List ℕ) → ℕ → List Terminal → List Terminal → Type 0
  Derives (Name at text) known l ts rest = IsName known at text ts rest
  Derives (Number at value) known l ts rest = IsConstant at value ts rest
  Derives (Literal at bytes) known l ts rest = IsLiteral at bytes ts rest
  Derives (Paren at e) known l ts rest =
      (at ≡ first_place ts) × (a b : List Terminal)
      × IsSign p.LeftParenthesis ts a × Derives e known 0 a b × IsSign p.RightParenthesis b rest
  Derives (Subscript at e index) known l ts rest =
      (l ≤ 15) × (a b c : List Terminal) × (at ≡ first_place a)
      × Derives e known 15 ts a × IsSign p.LeftBracket a b × Derives index known 0 b c × IsSign p.RightBracket c rest
  Derives (Call at name arguments) known l ts rest =
      (l ≤ 15) × (spans : List Span) × (a b c : List Terminal)
      × IsName known at name ts a × IsSign p.LeftParenthesis a b × DeriveEach arguments known 1 spans × Separated spans b c × IsSign p.RightParenthesis c rest
  Derives (Member at e name) known l ts rest =
      (l ≤ 15) × (a b : List Terminal) × (at ≡ first_place a)
      × Derives e known 15 ts a × IsSign p.Dot a b × IsName known (first_place b) name b rest
  Derives (Arrow at e name) known l ts rest =
      (l ≤ 15) × (a b : List Terminal) × (at ≡ first_place a)
      × Derives e known 15 ts a × IsSign p.Arrow a b × IsName known (first_place b) name b rest
  Derives (Postfix at op e) known l ts rest =
      (l ≤ 15) × (a : List Terminal) × (at ≡ first_place a)
      × Derives e known 15 ts a × IsSign (step_sign op) a rest
  Derives (Prefix at op e) known l ts rest =
      (l ≤ 14) × (a : List Terminal) × (at ≡ first_place ts)
      × IsSign (step_sign op) ts a × Derives e known 14 a rest
  Derives (Unary at op e) known l ts rest =
      (l ≤ 14) × (a : List Terminal) × (at ≡ first_place ts)
      × IsSign (unary_sign op) ts a × Derives e known 13 a rest
  Derives (SizeofExpr at e) known l ts rest =
      (l ≤ 14) × (a : List Terminal) × (at ≡ first_place ts)
      × IsWord k.Sizeof ts a × Derives e known 14 a rest
  Derives (SizeofType at name lengths) known l ts rest =
      (l ≤ 14) × (spans : List Span) × (a b c : List Terminal) × (at ≡ first_place ts)
      × IsWord k.Sizeof ts a × IsSign p.LeftParenthesis a b × DeriveEach lengths known 2 spans × IsTypeName known name spans b c × IsSign p.RightParenthesis c rest
  Derives (Cast at name lengths e) known l ts rest =
      (l ≤ 13) × (spans : List Span) × (a b c : List Terminal) × (at ≡ first_place ts)
      × IsSign p.LeftParenthesis ts a × DeriveEach lengths known 2 spans × IsTypeName known name spans a b × IsSign p.RightParenthesis b c × Derives e known 13 c rest
  Derives (Binary at op x y) known l ts rest =
      (l ≤ binary_level op) × (a b : List Terminal) × (at ≡ first_place a)
      × Derives x known (binary_level op) ts a × IsSign (binary_sign op) a b × Derives y known (binary_level op + 1) b rest
  Derives (Logical at op x y) known l ts rest =
      (l ≤ logical_level op) × (a b : List Terminal) × (at ≡ first_place a)
      × Derives x known (logical_level op) ts a × IsSign (logical_sign op) a b × Derives y known (logical_level op + 1) b rest
  Derives (Conditional at x y z) known l ts rest =
      (l ≤ 2) × (a b c d : List Terminal) × (at ≡ first_place a)
      × Derives x known 3 ts a × IsSign p.Question a b × Derives y known 0 b c × IsSign p.Colon c d × Derives z known 2 d rest
  Derives (Assign at op x y) known l ts rest =
      (l ≤ 1) × (sign : Punctuator) × (assign_sign op ≡ Some sign) × (a b : List Terminal) × (at ≡ first_place a)
      × Derives x known 14 ts a × IsSign sign a b × Derives y known 1 b rest
  Derives (Comma at x y) known l ts rest =
      (l ≤ 0) × (a b : List Terminal) × (at ≡ first_place a)
      × Derives x known 0 ts a × IsSign p.Comma a b × Derives y known 1 b rest

  -- each of the trees derives at a level, from the beginning of its span to the end
  pub DeriveEach : Trees → List (List ℕ) → ℕ → List Span → Type 0
  DeriveEach End known l spans = spans ≡ []
  DeriveEach (More e more) known l spans =
      (s : Span) × (others : List Span) × (spans ≡ s ∷ others) × Derives e known l s.from s.to × DeriveEach more known l others

-- the height of the derivation of a tree: a terminal has 0, and a production of more than one part is
-- by 1 higher than the highest of them
abbrev mutual
  pub height_of : Tree → ℕ
  height_of (Name at text) = 0
  height_of (Number at value) = 0
  height_of (Literal at bytes) = 0
  height_of (Paren at e) = height_of e + 1
  height_of (Subscript at e index) = max (height_of e) (height_of index) + 1
  height_of (Call at name arguments) = greatest (heights_of arguments) + 1
  height_of (Member at e name) = height_of e + 1
  height_of (Arrow at e name) = height_of e + 1
  height_of (Postfix at op e) = height_of e + 1
  height_of (Prefix at op e) = height_of e + 1
  height_of (Unary at op e) = height_of e + 1
  height_of (SizeofExpr at e) = height_of e + 1
  height_of (SizeofType at name lengths) = type_name_height name (heights_of lengths) + 1
  height_of (Cast at name lengths e) = max (type_name_height name (heights_of lengths)) (height_of e) + 1
  height_of (Binary at op x y) = max (height_of x) (height_of y) + 1
  height_of (Logical at op x y) = max (height_of x) (height_of y) + 1
  height_of (Conditional at x y z) = max (max (height_of x) (height_of y)) (height_of z) + 1
  height_of (Assign at op x y) = max (height_of x) (height_of y) + 1
  height_of (Comma at x y) = max (height_of x) (height_of y) + 1

  pub heights_of : Trees → List ℕ
  heights_of End = []
  heights_of (More e more) = height_of e ∷ heights_of more
