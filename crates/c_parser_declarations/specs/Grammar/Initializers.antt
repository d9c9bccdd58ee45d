-- Initializers (6.7.9).
use Rattle.std.specs.Prelude.{◌≡◌, ◌+◌, ℕ, Bool, true, false, max, List, [], ◌∷◌, ◌⊎◌}
use Rattle.c_layout.specs.DeclarationTrees.{InitializerTree, InitializerTrees, Single, Braces, NoInitializer, MoreInitializers}
use Rattle.c_parser_tokens.specs.declared.terminals.Terminal.{Terminal}
use Rattle.c_parser_tokens.specs.declared.terminals.Punctuator.TheVariants as p
use Rattle.c_parser_expression_grammar.specs.Expressions.{Derives, height_of}
use Rattle.c_parser_expression_grammar.specs.Fronts.{first_place, IsSign}
use Rattle.c_parser_expression_grammar.specs.Spans.{Span, Trailed, Separated}

abbrev pub has_item : InitializerTrees → Bool
has_item NoInitializer = false
has_item (MoreInitializers i more) = true

abbrev mutual
  -- an assignment expression, or a list in braces with a comma between any two and maybe one behind the
  -- last
  pub DeriveInitializer : InitializerTree → List (List ℕ) → List Terminal → List Terminal → Type 0
  DeriveInitializer (Single e) known ts rest = Derives e known 1 ts rest
  DeriveInitializer (Braces at items) known ts rest =
      (at ≡ first_place ts) × (has_item items ≡ true) × (spans : List Span) × (a b : List Terminal)
      × IsSign p.LeftBrace ts a × DeriveItems items known spans × (Separated spans a b ⊎ Trailed spans a b) × IsSign p.RightBrace b rest

  pub DeriveItems : InitializerTrees → List (List ℕ) → List Span → Type 0
  DeriveItems NoInitializer known spans = spans ≡ []
  DeriveItems (MoreInitializers i more) known spans =
      (s : Span) × (others : List Span) × (spans ≡ s ∷ others) × DeriveInitializer i known s.from s.to × DeriveItems more known others

abbrev mutual
  pub initializer_height : InitializerTree → ℕ
  initializer_height (Single e) = height_of e
  initializer_height (Braces at items) = items_height items + 1

  pub items_height : InitializerTrees → ℕ
  items_height NoInitializer = 0
  items_height (MoreInitializers i more) = max (initializer_height i) (items_height more)
