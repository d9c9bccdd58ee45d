-- What the readers answer: trees that derive from the terminals read, with the heights of their
-- derivations.
use Rattle.std.specs.Prelude.{◌≡◌, ◌+◌, ◌≤◌, ◌<◌, ℕ, Bool, true, false, ◌&&◌, cond, is_some, List, [], ◌∷◌, reverse, Option, Some, None, Box}
use Rattle.std.specs.Global.{Global}
use Rattle.cc_base.specs.declared.diagnostics.Place.{Place}
use Rattle.c_layout.specs.SyntaxTrees.{Tree, trees, tree_of, LayerView, TypeNameView, Subscript, Member, Arrow, Postfix, Cast, Binary, Logical, Conditional, Assign, Comma}
use Rattle.c_layout.specs.declared.syntax_tree.expressions.Brackets.{Brackets}
use Rattle.c_parser_tokens.specs.declared.terminals.Terminal.{Terminal}
use Rattle.c_parser_tokens.specs.declared.terminals.Punctuator.TheVariants as p
use Rattle.c_layout.specs.declared.syntax_tree.expressions.Expr.{Expr}
use Rattle.c_parser_expression_grammar.specs.declared.type_name_parts.ArrayLength.{ArrayLength}
use Rattle.c_parser_expression_grammar.specs.declared.operators.Infix.{Infix}
use Rattle.c_parser_expression_grammar.specs.declared.operators.Infix.TheVariants as between
use Rattle.c_parser_expression_grammar.specs.declared.postfix_operators.Suffix.{Suffix}
use Rattle.c_parser_expression_grammar.specs.declared.postfix_operators.Suffix.TheVariants as suffix
use Rattle.c_parser_expression_grammar.specs.Expressions.{Derives, DeriveEach, height_of, heights_of}
use Rattle.c_parser_expression_grammar.specs.Fronts.{first_symbol, first_place, IsSign, IsName}
use Rattle.c_parser_expression_grammar.specs.Levels.{step_sign, symbol_level}
use Rattle.c_parser_expression_grammar.specs.Spans.{Span, Trailed, Separated}
use Rattle.c_parser_expression_grammar.specs.TypeNames.{IsTypeName, IsBrackets, Arrays, is_something, Nested, Declarator, greatest, nested_height, is_lone_star, type_name_height}

-- a tree that derives at the level, of a height within the budget
pub record Found (known : List (List ℕ)) (l budget : ℕ) (e : Tree) (high : ℕ) (ts rest : List Terminal) : Type 0 where
  pub derives : Derives e known l ts rest
  pub height : high ≡ height_of e
  pub within : high ≤ budget

-- and no operator of the level or above stands behind it
pub record FoundLevel (known : List (List ℕ)) (l budget : ℕ) (e : Tree) (high : ℕ) (ts rest : List Terminal) : Type 0 where
  pub found : Found known l budget e high ts rest
  pub stops : symbol_level (first_symbol rest) < l

-- what has been read before the next operator: a tree of some level from the least on, and no operator
-- that binds tighter stands behind it
pub record Climbs (known : List (List ℕ)) (least budget : ℕ) (e : Tree) (high : ℕ) (ts rest : List Terminal) : Type 0 where
  pub at : ℕ
  pub above : least ≤ at
  pub found : Found known at budget e high ts rest
  pub stops : symbol_level (first_symbol rest) ≤ at

-- the tree of two operands and the operator between them
abbrev pub infix_tree : Infix → Place → Tree → Tree → Tree
infix_tree (between.Binary op) at x y = Binary at op x y
infix_tree (between.Logical op) at x y = Logical at op x y

-- whether a tree is a unary expression
abbrev pub is_unary : Tree → Bool
is_unary (Cast at name lengths e) = false
is_unary (Binary at op x y) = false
is_unary (Logical at op x y) = false
is_unary (Conditional at x y z) = false
is_unary (Assign at op x y) = false
is_unary (Comma at x y) = false
is_unary _ = true

-- ---- arguments

-- arguments with a comma behind each
pub record FoundSome (known : List (List ℕ)) (budget : ℕ) (arguments : List Tree) (high : ℕ) (ts rest : List Terminal) : Type 0 where
  pub spans : List Span
  pub each : DeriveEach (trees arguments) known 1 spans
  pub trailed : Trailed spans ts rest
  pub height : high ≡ greatest (heights_of (trees arguments))
  pub within : high ≤ budget

-- arguments behind a `(`, with the `)`
pub record FoundArguments (known : List (List ℕ)) (budget : ℕ) (arguments : List Tree) (high : ℕ) (ts rest : List Terminal) : Type 0 where
  pub spans : List Span
  pub last : List Terminal
  pub each : DeriveEach (trees arguments) known 1 spans
  pub separated : Separated spans ts last
  pub closes : IsSign p.RightParenthesis last rest
  pub height : high ≡ greatest (heights_of (trees arguments))
  pub within : high ≤ budget

-- ---- what stands behind the operand of a postfix expression

-- the tree of an operand with an operator behind it
abbrev pub suffixed : Suffix → Tree → Tree
suffixed (suffix.Subscript at index) e = Subscript at e (tree_of index.value)
suffixed (suffix.Member at name) e = Member at e name.text
suffixed (suffix.Arrow at name) e = Arrow at e name.text
suffixed (suffix.Step at op) e = Postfix at op e

abbrev pub IsSuffix : List (List ℕ) → Suffix → List Terminal → List Terminal → Type 0
IsSuffix known (suffix.Subscript at index) ts rest =
    (at ≡ first_place ts) × (b c : List Terminal) × IsSign p.LeftBracket ts b × Derives (tree_of index.value) known 0 b c × IsSign p.RightBracket c rest
IsSuffix known (suffix.Member at name) ts rest = (at ≡ first_place ts) × (b : List Terminal) × IsSign p.Dot ts b × IsName known (first_place b) name.text b rest
IsSuffix known (suffix.Arrow at name) ts rest = (at ≡ first_place ts) × (b : List Terminal) × IsSign p.Arrow ts b × IsName known (first_place b) name.text b rest
IsSuffix known (suffix.Step at op) ts rest = (at ≡ first_place ts) × IsSign (step_sign op) ts rest

abbrev pub suffix_height : Suffix → ℕ
suffix_height (suffix.Subscript at index) = height_of (tree_of index.value)
suffix_height _ = 0

pub record FoundSuffix (known : List (List ℕ)) (behind : Suffix) (high : ℕ) (ts rest : List Terminal) : Type 0 where
  pub derives : IsSuffix known behind ts rest
  pub height : high ≡ suffix_height behind

-- ---- type names

-- the length that is given, if one is
abbrev pub lengths_of : Option (Box Expr Global) → List Tree
lengths_of None = []
lengths_of (Some e) = tree_of e.value ∷ []

abbrev pub brackets_of : ArrayLength → Brackets
brackets_of pair = record { place = pair.place; has_length = is_some pair.length }

-- one pair of brackets with its length
pub record FoundPair (known : List (List ℕ)) (pair : ArrayLength) (high : ℕ) (ts rest : List Terminal) : Type 0 where
  pub spans : List Span
  pub each : DeriveEach (trees (lengths_of pair.length)) known 2 spans
  pub brackets : IsBrackets (brackets_of pair) spans ts rest
  pub height : high ≡ greatest (heights_of (trees (lengths_of pair.length)))

abbrev pub layer_of : List ℕ → List Brackets → LayerView
layer_of stars arrays = record { stars = stars; arrays = arrays }

abbrev pub is_empty : List LayerView → Bool
is_empty [] = true
is_empty (layer ∷ more) = false

-- a layer around nothing has stars or brackets
abbrev pub IsSomething : List LayerView → LayerView → Type 0
IsSomething [] layer = is_something layer ≡ true
IsSomething (inner ∷ more) layer = Unit {0}

-- the height of a layer around parts of a height
abbrev pub layer_height : Bool → LayerView → ℕ → ℕ
layer_height innermost layer parts = cond (innermost && is_lone_star layer) 0 (parts + 1)

-- pairs of brackets with their lengths
pub record FoundArrays (known : List (List ℕ)) (pairs : List Brackets) (lengths : List Tree) (high : ℕ) (ts rest : List Terminal) : Type 0 where
  pub spans : List Span
  pub each : DeriveEach (trees lengths) known 2 spans
  pub arrays : Arrays pairs spans ts rest
  pub height : high ≡ greatest (heights_of (trees lengths))

abbrev pub IsSomeLayer : List LayerView → Type 0
IsSomeLayer [] = ⊥
IsSomeLayer (layer ∷ more) = Unit {0}

-- an abstract declarator, its layers from the innermost to the outermost
pub record FoundLayers (known : List (List ℕ)) (inside_out : List LayerView) (lengths : List Tree) (high : ℕ) (ts rest : List Terminal) : Type 0 where
  pub spans : List Span
  pub each : DeriveEach (trees lengths) known 2 spans
  pub layers : Declarator (reverse inside_out) spans ts rest
  pub some : IsSomeLayer (reverse inside_out)
  pub height : high ≡ nested_height (reverse inside_out) (heights_of (trees lengths))

-- one in parentheses, or nothing
pub record FoundNested (known : List (List ℕ)) (inside_out : List LayerView) (lengths : List Tree) (high : ℕ) (ts rest : List Terminal) : Type 0 where
  pub spans : List Span
  pub each : DeriveEach (trees lengths) known 2 spans
  pub layers : Nested (reverse inside_out) spans ts rest
  pub height : high ≡ nested_height (reverse inside_out) (heights_of (trees lengths))

pub record FoundTypeName (known : List (List ℕ)) (name : TypeNameView) (lengths : List Tree) (high : ℕ) (ts rest : List Terminal) : Type 0 where
  pub spans : List Span
  pub each : DeriveEach (trees lengths) known 2 spans
  pub named : IsTypeName known name spans ts rest
  pub height : high ≡ type_name_height name (heights_of (trees lengths))
