-- What readers of expressions answer, as far as it is the same for all.
use Rattle.std.specs.Prelude.{◌+◌, ℕ, Bool, true, false, cond, nat_lt, List, Option, Some, None}
use Rattle.c_layout.specs.SyntaxTrees.{Tree, Trees, LayerView, TypeNameView}
use Rattle.c_parser_tokens.specs.declared.terminals.Terminal.{Terminal}
use Rattle.c_parser_tokens.specs.declared.terminals.Keyword.TheVariants as k
use Rattle.c_parser_tokens.specs.declared.terminals.Punctuator.TheVariants as p
use Rattle.c_parser_tokens.specs.declared.terminals.Symbol.{Symbol}
use Rattle.c_parser_tokens.specs.declared.terminals.Symbol.TheVariants as symbol
use Rattle.c_parser_expression_grammar.specs.Fronts.{first_symbol, behind_first}

-- a tree, the height of its derivation, and the terminals behind it
pub record Got : Type 0 where
  pub tree : Tree
  pub height : ℕ
  pub rest : List Terminal

-- what a reader answers; nothing where it refuses
abbrev pub Reading : Type 0
Reading = Option Got

abbrev pub got : Tree → ℕ → List Terminal → Got
got e h rest = record { tree = e; height = h; rest = rest }

abbrev pub after : Reading → (Got → Reading) → Reading
after None more = None
after (Some g) more = more g

-- several trees, with the greatest height
pub record GotSome : Type 0 where
  pub trees : Trees
  pub height : ℕ
  pub rest : List Terminal

abbrev pub after_some : Option GotSome → (GotSome → Reading) → Reading
after_some None more = None
after_some (Some g) more = more g

-- a type name, with the trees of its lengths
pub record GotName : Type 0 where
  pub name : TypeNameView
  pub lengths : Trees
  pub height : ℕ
  pub rest : List Terminal

abbrev pub after_name : Option GotName → (GotName → Reading) → Reading
after_name None more = None
after_name (Some g) more = more g

-- an abstract declarator, its outermost layer first, with the trees of its lengths in the order of the text
pub record GotLayers : Type 0 where
  pub layers : List LayerView
  pub lengths : Trees
  pub height : ℕ
  pub rest : List Terminal

abbrev pub after_layers : {X : Type 0} → Option GotLayers → (GotLayers → Option X) → Option X
after_layers None more = None
after_layers (Some g) more = more g

-- ---- signs

abbrev pub is_left_parenthesis : Symbol → Bool
is_left_parenthesis (symbol.Punctuator p.LeftParenthesis) = true
is_left_parenthesis _ = false

abbrev pub is_right_parenthesis : Symbol → Bool
is_right_parenthesis (symbol.Punctuator p.RightParenthesis) = true
is_right_parenthesis _ = false

abbrev pub is_left_bracket : Symbol → Bool
is_left_bracket (symbol.Punctuator p.LeftBracket) = true
is_left_bracket _ = false

abbrev pub is_right_bracket : Symbol → Bool
is_right_bracket (symbol.Punctuator p.RightBracket) = true
is_right_bracket _ = false

abbrev pub is_left_brace : Symbol → Bool
is_left_brace (symbol.Punctuator p.LeftBrace) = true
is_left_brace _ = false

abbrev pub is_right_brace : Symbol → Bool
is_right_brace (symbol.Punctuator p.RightBrace) = true
is_right_brace _ = false

abbrev pub is_question : Symbol → Bool
is_question (symbol.Punctuator p.Question) = true
is_question _ = false

abbrev pub is_colon : Symbol → Bool
is_colon (symbol.Punctuator p.Colon) = true
is_colon _ = false

abbrev pub is_comma : Symbol → Bool
is_comma (symbol.Punctuator p.Comma) = true
is_comma _ = false

abbrev pub is_sizeof : Symbol → Bool
is_sizeof (symbol.Keyword k.Sizeof) = true
is_sizeof _ = false

-- a sign that has to stand next
abbrev pub expect : (Symbol → Bool) → List Terminal → (List Terminal → Reading) → Reading
expect is ts more = cond (is (first_symbol ts)) (more (behind_first ts)) None

-- ---- heights

-- a tree above parts of a height, within the budget
abbrev pub made : ℕ → Tree → ℕ → List Terminal → Reading
made budget e parts rest = cond (nat_lt parts budget) (Some (got e (parts + 1) rest)) None
