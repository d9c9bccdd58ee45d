-- The reader of initializers as a definition.
use Rattle.std.specs.Prelude.{◌+◌, ℕ, zero, suc, cond, length, nat_lt, List, Option, Some, None}
use Rattle.c_layout.specs.DeclarationTrees.{InitializerTree, Single, Braces, initializer_trees}
use Rattle.c_parser_tokens.specs.declared.terminals.Terminal.{Terminal}
use Rattle.c_parser_expression_grammar.specs.Fronts.{first_symbol, first_place, behind_first}
use Rattle.c_parser_expression_grammar.specs.Readings.{Reading, is_left_brace}
use Rattle.c_parser_expression_grammar.specs.TypeNameReaders.{all_readers}
use Rattle.c_parser_declarations.specs.Grammar.Items.{Item, GotItem, item_of, after_item, braced}

abbrev pub value_of : Reading → Option (GotItem InitializerTree)
value_of None = None
value_of (Some g) = Some (item_of (Single g.tree) g.height g.rest)

abbrev pub in_braces : ℕ → List Terminal → GotItem (List InitializerTree) → Option (GotItem InitializerTree)
in_braces b ts g = cond (nat_lt g.height b) (Some (item_of (Braces (first_place ts) (initializer_trees g.item)) (g.height + 1) g.rest)) None

-- by the reader of what stands in the braces
abbrev pub initializer_by : List (List ℕ) → ℕ → Item InitializerTree → Item InitializerTree
initializer_by known b inside ts =
    cond (is_left_brace (first_symbol ts)) (after_item (braced inside (length (behind_first ts)) (behind_first ts)) (in_braces b ts)) (value_of ((all_readers known b).assignment ts))

-- the reader of what stands in braces
abbrev pub initializer_inside : List (List ℕ) → ℕ → Item InitializerTree
initializer_inside known zero = λ ts. None
initializer_inside known (suc b) = initializer_by known b (initializer_inside known b)

abbrev pub initializer : List (List ℕ) → ℕ → Item InitializerTree
initializer known b = initializer_by known b (initializer_inside known b)
