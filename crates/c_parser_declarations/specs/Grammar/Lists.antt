-- Lists of items with commas, over what an item is.
use Rattle.std.specs.Prelude.{◌≡◌, ℕ, max, List, [], ◌∷◌}
use Rattle.c_parser_tokens.specs.declared.terminals.Terminal.{Terminal}
use Rattle.c_parser_tokens.specs.declared.terminals.Punctuator.TheVariants as p
use Rattle.c_parser_expression_grammar.specs.Fronts.{IsSign}

-- items with a comma behind each
abbrev pub Trailed : {X : Type 0} → (X → List Terminal → List Terminal → Type 0) → List X → List Terminal → List Terminal → Type 0
Trailed Item [] ts rest = rest ≡ ts
Trailed Item (x ∷ xs) ts rest = (a b : List Terminal) × Item x ts a × IsSign p.Comma a b × Trailed Item xs b rest

-- one item or more, with a comma between any two
abbrev pub Listed : {X : Type 0} → (X → List Terminal → List Terminal → Type 0) → List X → List Terminal → List Terminal → Type 0
Listed Item [] ts rest = ⊥
Listed Item (x ∷ []) ts rest = Item x ts rest
Listed Item (x ∷ (y ∷ more)) ts rest = (a b : List Terminal) × Item x ts a × IsSign p.Comma a b × Listed Item (y ∷ more) b rest

-- the greatest height of items
abbrev pub highest : {X : Type 0} → (X → ℕ) → List X → ℕ
highest height [] = 0
highest height (x ∷ xs) = max (height x) (highest height xs)
