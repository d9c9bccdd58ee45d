-- Where a statement ends.
use Rattle.std.specs.Prelude.{◌≡◌, Bool, true, false, List}
use Rattle.c_layout.specs.DeclarationTrees.{StatementTree}
use Rattle.c_parser_tokens.specs.declared.terminals.Keyword.TheVariants as k
use Rattle.c_parser_tokens.specs.declared.terminals.Symbol.{Symbol}
use Rattle.c_parser_tokens.specs.declared.terminals.Symbol.TheVariants as symbol
use Rattle.c_parser_tokens.specs.declared.terminals.Terminal.{Terminal}
use Rattle.c_parser_expression_grammar.specs.Fronts.{first_symbol}
use Rattle.c_parser.specs.Statements.{is_open}

abbrev pub is_else : Symbol → Bool
is_else (symbol.Keyword k.Else) = true
is_else _ = false

-- no `else` stands behind a statement that would take it
abbrev pub TakesNoElse : StatementTree → List Terminal → Type 0
TakesNoElse s rest = is_open s ≡ true → is_else (first_symbol rest) ≡ false
