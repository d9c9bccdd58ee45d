-- How the answers of the code's readers go with those of the readers as definitions: what the code read is exactly what
-- the definition reads, and where it finds nothing by the grammar, the definition has nothing. Want of memory says nothing.
use Rattle.std.specs.Prelude.{◌≡◌, ℕ, cond, max, map, reverse, List, ◌∷◌, Option, Some, None, Result, MatchResult}
use Rattle.c_layout.specs.SyntaxTrees.{Tree, trees, tree_of, layer_view}
use Rattle.c_parser_tokens.specs.declared.terminals.Terminal.{Terminal}
use Rattle.c_parser_expression_grammar.specs.declared.heights.Parsed.{Parsed}
use Rattle.c_parser_expression_grammar.specs.declared.heights.Trouble.{Trouble}
use Rattle.c_parser_expression_grammar.specs.declared.heights.Trouble.TheVariants as trouble
use Rattle.c_parser_expression_grammar.specs.declared.postfix_operators.Suffix.{Suffix}
use Rattle.c_parser_expression_grammar.specs.declared.type_name_parts.AbstractParts.{AbstractParts}
use Rattle.c_parser_expression_grammar.specs.declared.type_name_parts.ArrayLength.{ArrayLength}
use Rattle.c_parser_expression_grammar.specs.declared.type_name_parts.ArrayParts.{ArrayParts}
use Rattle.c_parser_expression_grammar.specs.Findings.{suffixed, lengths_of, brackets_of}
use Rattle.c_parser_expression_grammar.specs.Fronts.{first_symbol}
use Rattle.c_parser_expression_grammar.specs.Readings.{Reading, GotLayers, is_left_bracket, made}
use Rattle.c_parser_expression_grammar.specs.TypeNameReaders.{GotArrays, both}

-- what is so unless memory ran out
abbrev pub OnSyntax : Type 0 → Trouble → Type 0
OnSyntax P e = e ≡ trouble.Syntax → P

-- there is nothing, unless memory ran out
abbrev pub Refuses : {X : Type 0} → Option X → Trouble → Type 0
Refuses reading = OnSyntax (reading ≡ None)

-- a reader's result is what the definition answers
abbrev pub Reads : {A X : Type 0} → Result A Trouble → (A → X) → Option X → Type 0
Reads result view reading = MatchResult result (λ a. reading ≡ Some (view a)) (Refuses reading)

-- an operator behind an operand, whatever tree of whatever height that is
abbrev pub ReadsSuffix : Result (Parsed Suffix) Trouble → ℕ → (Tree → ℕ → Reading) → List Terminal → Type 0
ReadsSuffix result budget reading rest =
    MatchResult result (λ n. (e : Tree) (h : ℕ) → reading e h ≡ made budget (suffixed n.tree e) (max h n.height) rest) (OnSyntax ((e : Tree) (h : ℕ) → reading e h ≡ None))

-- ---- type names

-- what is read where `[` stands next
abbrev pub bracketed : List Terminal → Option GotArrays → Option GotArrays
bracketed ts reading = cond (is_left_bracket (first_symbol ts)) reading None

-- a pair of brackets of a height before others
abbrev pub with_pair : ArrayLength → ℕ → GotArrays → Option GotArrays
with_pair pair h g = Some (record { arrays = brackets_of pair ∷ g.arrays; lengths = both (trees (lengths_of pair.length)) g.lengths; height = max h g.height; rest = g.rest })

abbrev pub arrays_got : ArrayParts → ℕ → List Terminal → GotArrays
arrays_got parts h rest = record { arrays = parts.arrays.items; lengths = trees (map tree_of parts.lengths.items); height = h; rest = rest }

abbrev pub layers_got : AbstractParts → ℕ → List Terminal → GotLayers
layers_got parts h rest = record { layers = reverse (map layer_view parts.layers.items); lengths = trees (map tree_of parts.lengths.items); height = h; rest = rest }
