-- What was read, as the definitions of the readers answer it; `rest` are the terminals behind it.
use Rattle.std.specs.Prelude.{List, map, reverse}
use Rattle.std.specs.Option.{option_map}
use Rattle.c_layout.specs.DeclarationTrees.{name_view, suffix_view, declarator_layer_view}
use Rattle.c_parser_tokens.specs.declared.terminals.Terminal.{Terminal}
use Rattle.c_parser_expression_grammar.specs.declared.heights.Parsed.{Parsed}
use Rattle.c_parser_declarations.specs.declared.grammar.declarator_layers.DeclaratorParts.{DeclaratorParts}
use Rattle.c_parser_declarations.specs.declared.grammar.declarator_layers.Suffixes.{Suffixes}
use Rattle.c_parser_declarations.specs.Grammar.DeclaratorReaders.{GotParts, GotSuffixes, parts_of}
use Rattle.c_parser_declarations.specs.Grammar.Items.{GotItem, item_of}

abbrev pub as_item : {X Y : Type 0} → (X → Y) → List Terminal → Parsed X → GotItem Y
as_item view rest n = item_of (view n.tree) n.height rest

-- the layers from the outermost to the innermost
abbrev pub as_parts : List Terminal → Parsed DeclaratorParts → GotParts
as_parts rest n = parts_of (reverse (map declarator_layer_view n.tree.layers.items)) (option_map name_view n.tree.name) n.height rest

abbrev pub as_suffixes : List Terminal → Suffixes → GotSuffixes
as_suffixes rest s = record { arrays = map suffix_view s.arrays.items; flat = s.flat; climbed = s.climbed; rest = rest }
