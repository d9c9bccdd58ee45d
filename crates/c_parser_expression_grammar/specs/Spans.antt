-- Lists in the grammar: items one after another, with commas between them or behind each.
use Rattle.std.specs.Prelude.{◌≡◌, List, [], ◌∷◌}
use Rattle.c_parser_tokens.specs.declared.terminals.Terminal.{Terminal}
use Rattle.c_parser_tokens.specs.declared.terminals.Punctuator.TheVariants as p
use Rattle.c_parser_expression_grammar.specs.Fronts.{IsSign}

-- the terminals from the first of an item on, and those behind its last
pub record Span : Type 0 where
  pub from : List Terminal
  pub to : List Terminal

-- items with a comma behind each
abbrev pub Trailed : List Span → List Terminal → List Terminal → Type 0
Trailed [] ts rest = rest ≡ ts
Trailed (s ∷ more) ts rest = (a : List Terminal) × (ts ≡ s.from) × IsSign p.Comma s.to a × Trailed more a rest

-- items with a comma between any two, or nothing
abbrev pub Separated : List Span → List Terminal → List Terminal → Type 0
Separated [] ts rest = rest ≡ ts
Separated (s ∷ []) ts rest = (ts ≡ s.from) × (rest ≡ s.to)
Separated (s ∷ (next ∷ more)) ts rest = (a : List Terminal) × (ts ≡ s.from) × IsSign p.Comma s.to a × Separated (next ∷ more) a rest

-- items of a kind, one after another
abbrev pub Chain : {X : Type 0} → (X → List Terminal → List Terminal → Type 0) → List X → List Terminal → List Terminal → Type 0
Chain Item [] ts rest = rest ≡ ts
Chain Item (x ∷ xs) ts rest = (a : List Terminal) × Item x ts a × Chain Item xs a rest
