-- Declarators (6.7.6) and abstract declarators (6.7.7).
use Rattle.std.specs.Prelude.{◌≡◌, ◌+◌, ◌==◌, ℕ, Bool, true, false, ◌&&◌, not, cond, max, List, [], ◌∷◌, length, Option, Some, None, is_some}
use Rattle.c_layout.specs.SyntaxTrees.{Tree}
use Rattle.c_layout.specs.DeclarationTrees.{NameView, SuffixView, DeclaratorLayerView, DeclaratorView}
use Rattle.c_parser_tokens.specs.declared.terminals.Terminal.{Terminal}
use Rattle.c_parser_tokens.specs.declared.terminals.Punctuator.TheVariants as p
use Rattle.c_parser_expression_grammar.specs.Expressions.{Derives, height_of}
use Rattle.c_parser_expression_grammar.specs.Fronts.{first_place, IsSign, IsName}
use Rattle.c_parser_expression_grammar.specs.Spans.{Chain}
use Rattle.c_parser_expression_grammar.specs.TypeNames.{Stars, is_one_star}

-- the length of an array, a constant expression, or nothing
abbrev pub Length : List (List ℕ) → Option Tree → List Terminal → List Terminal → Type 0
Length known None ts rest = rest ≡ ts
Length known (Some e) ts rest = Derives e known 2 ts rest

-- one pair of brackets with its length
pub record IsSuffix (known : List (List ℕ)) (suffix : SuffixView) (ts rest : List Terminal) : Type 0 where
  pub inside : List Terminal
  pub last : List Terminal
  pub place : suffix.at ≡ first_place ts
  pub opens : IsSign p.LeftBracket ts inside
  pub length : Length known suffix.length inside last
  pub closes : IsSign p.RightBracket last rest

-- the name of a declarator, or nothing
abbrev pub Core : List (List ℕ) → Option NameView → List Terminal → List Terminal → Type 0
Core known None ts rest = rest ≡ ts
Core known (Some name) ts rest = IsName known name.at name.text ts rest

-- an abstract declarator is not empty
abbrev pub is_something : Bool → DeclaratorLayerView → Bool
is_something true layer = true
is_something false layer = not (length layer.stars == 0 && length layer.arrays == 0)

-- a declarator, by its name, its outermost layer and the others, which stand in parentheses
abbrev pub Layers : List DeclaratorLayerView → DeclaratorLayerView → List (List ℕ) → Option NameView → List Terminal → List Terminal → Type 0
Layers [] layer known name ts rest =
    (is_something (is_some name) layer ≡ true) × (a b : List Terminal) × Stars layer.stars ts a × Core known name a b × Chain (IsSuffix known) layer.arrays b rest
Layers (next ∷ inner) layer known name ts rest =
    (a b c d : List Terminal) × Stars layer.stars ts a × IsSign p.LeftParenthesis a b × Layers inner next known name b c × IsSign p.RightParenthesis c d × Chain (IsSuffix known) layer.arrays d rest

abbrev pub Shape : List DeclaratorLayerView → List (List ℕ) → Option NameView → List Terminal → List Terminal → Type 0
Shape [] known name ts rest = ⊥
Shape (layer ∷ inner) known name ts rest = Layers inner layer known name ts rest

-- a declarator, or an abstract one where it has no name
abbrev pub IsDeclarator : List (List ℕ) → DeclaratorView → List Terminal → List Terminal → Type 0
IsDeclarator known d ts rest = Shape d.layers known d.name ts rest

-- what stands between the stars and the brackets: a name, nothing, or a declarator in parentheses
abbrev pub Inside : List DeclaratorLayerView → List (List ℕ) → Option NameView → List Terminal → List Terminal → Type 0
Inside [] known name ts rest = Core known name ts rest
Inside (layer ∷ inner) known name ts rest = (b c : List Terminal) × IsSign p.LeftParenthesis ts b × Layers inner layer known name b c × IsSign p.RightParenthesis c rest

-- ---- heights

abbrev pub length_height : Option Tree → ℕ
length_height None = 0
length_height (Some e) = height_of e

-- the greatest height of what stands before brackets and of their lengths
abbrev pub flat : ℕ → List SuffixView → ℕ
flat before [] = before
flat before (s ∷ more) = flat (max before (length_height s.length)) more

-- the height where each pair of brackets is a production
abbrev pub climbed : ℕ → List SuffixView → ℕ
climbed before [] = before
climbed before (s ∷ more) = climbed (max before (length_height s.length) + 1) more

-- the height of one layer. Around a name each pair of brackets is a production and the stars are one;
-- an abstract declarator is one production, and one star alone is none
abbrev pub named_height : List ℕ → ℕ → ℕ
named_height stars steps = cond (length stars == 0) steps (steps + 1)

abbrev pub stars_height : List ℕ → ℕ
stars_height stars = cond (is_one_star stars) 0 1

-- around nothing, with so many pairs of brackets
abbrev pub innermost_height : List ℕ → ℕ → ℕ → ℕ
innermost_height stars pairs level = cond (pairs == 0) (stars_height stars) (level + 1)

abbrev pub abstract_height : Bool → List ℕ → ℕ → ℕ → ℕ
abstract_height innermost stars pairs level = cond innermost (innermost_height stars pairs level) (level + 1)

abbrev pub height_by : Bool → Bool → List ℕ → ℕ → ℕ → ℕ → ℕ
height_by named innermost stars pairs level steps = cond named (named_height stars steps) (abstract_height innermost stars pairs level)

abbrev pub layer_height : Option NameView → Bool → DeclaratorLayerView → ℕ → ℕ
layer_height name innermost layer inside = height_by (is_some name) innermost layer.stars (length layer.arrays) (flat inside layer.arrays) (climbed inside layer.arrays)

-- parentheses around a name are a production
abbrev pub enclosed_by : Bool → ℕ → ℕ
enclosed_by true inside = inside + 1
enclosed_by false inside = inside

abbrev pub enclosed_height : Option NameView → ℕ → ℕ
enclosed_height name inside = enclosed_by (is_some name) inside

abbrev pub layers_height : List DeclaratorLayerView → DeclaratorLayerView → Option NameView → ℕ
layers_height [] layer name = layer_height name true layer 0
layers_height (next ∷ inner) layer name = layer_height name false layer (enclosed_height name (layers_height inner next name))

abbrev pub shape_height : List DeclaratorLayerView → Option NameView → ℕ
shape_height [] name = 0
shape_height (layer ∷ inner) name = layers_height inner layer name

abbrev pub inside_height : List DeclaratorLayerView → Option NameView → ℕ
inside_height [] name = 0
inside_height (layer ∷ inner) name = enclosed_height name (layers_height inner layer name)

abbrev pub declarator_height : DeclaratorView → ℕ
declarator_height d = shape_height d.layers d.name
