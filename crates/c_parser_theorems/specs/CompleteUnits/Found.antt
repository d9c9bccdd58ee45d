-- Which statements, external declarations and units the readers find: those that derive, within the budget, before what
-- may stand behind them.
use Rattle.std.specs.Prelude.{◌≡◌, ◌≤◌, ℕ, true, false, List, [], take, Some, None, Ok}
use Rattle.cc_base.specs.declared.lexemes.Token.{Token}
use Rattle.cc_base.specs.declared.refusals.Stop.{Stop}
use Rattle.cc_base.specs.declared.refusals.Stop.TheVariants as stop
use Rattle.c_layout.specs.declared.data_model.Model.{Model}
use Rattle.c_layout.specs.DeclarationTrees.{StatementTree, ExternalTree, statement_trees}
use Rattle.c_parser_tokens.specs.Classes.{classified}
use Rattle.c_parser_tokens.specs.declared.terminals.Terminal.{Terminal}
use Rattle.c_parser_expression_grammar.specs.Fronts.{first_symbol}
use Rattle.c_parser.specs.Externals.{in_force_behind, IsExternal, external_height, ArePieces, IsUnit}
use Rattle.c_parser.specs.Findings.{is_else}
use Rattle.c_parser.specs.Pieces.{piece_length}
use Rattle.c_parser.specs.Statements.{is_statement, is_open, DeriveStatement, statement_height, IsBlock, block_height}
use Rattle.c_parser.specs.FirstRefusals.{IsRefusedAt, StopsFirst}
use Rattle.c_parser.specs.UnitResults.{StopsUnread}
use Rattle.c_parser_theorems.specs.CompleteDeclarations.Found.{HasRoom}
use Rattle.c_parser_declarations.specs.Grammar.Items.{item_of}
use Rattle.c_parser.specs.StatementReaders.{statement, statement_inside, block}
use Rattle.c_parser.specs.UnitReaders.{external, piece, unit, unread}

-- no `else` stands behind a statement that would take it
abbrev pub StatementEnds : StatementTree → List Terminal → Type 0
StatementEnds s rest = is_open s ≡ true → is_else (first_symbol rest) ≡ false

abbrev pub FindsStatements : List (List ℕ) → ℕ → Type 0
FindsStatements known b =
    (s : StatementTree) (ts rest : List Terminal) → DeriveStatement s known ts rest → is_statement s ≡ true → StatementEnds s rest → statement_height s ≤ b → HasRoom b ts → statement known b ts ≡ Some (item_of s (statement_height s) rest)

abbrev pub FindsBlocks : List (List ℕ) → ℕ → Type 0
FindsBlocks known b =
    (items : List StatementTree) (ts rest : List Terminal) → IsBlock known (statement_trees items) ts rest → block_height (statement_trees items) ≤ b → HasRoom b ts →
    block known b (statement_inside known b) ts ≡ Some (item_of items (block_height (statement_trees items)) rest)

abbrev pub FindsExternals : List (List ℕ) → ℕ → Type 0
FindsExternals known b =
    (e : ExternalTree) (ts rest : List Terminal) → IsExternal known e ts rest → external_height e ≤ b → HasRoom b ts → external known b ts ≡ Some (item_of e (external_height e) rest)

-- a unit with a tree is read
abbrev pub FindsUnits : Type 0
FindsUnits = (model : Model) (tokens : List Token) (ts : List Terminal) (es : List ExternalTree) → classified model tokens ≡ Ok ts → IsUnit model tokens es → HasRoom 256 ts → unit ts ≡ Some es

-- behind pieces that derive, a piece that is not read is the first without a derivation, and the readers stop there
abbrev pub RefusesRightly : Type 0
RefusesRightly =
    (before : List ExternalTree) (ts rest : List Terminal) → ArePieces before [] ts rest → (rest ≡ [] → ⊥) → HasRoom 256 ts → piece (in_force_behind [] before) (take (piece_length rest) rest) ≡ None → IsRefusedAt ts rest × (unread ts ≡ rest)

-- where the readers stop, the grammar stops: at the first piece that has no derivation
abbrev pub StopsRightly : Type 0
StopsRightly = (ts : List Terminal) (e : Stop) → HasRoom 256 ts → StopsUnread ts e → StopsFirst ts e

-- where there is a tree, they stop for want of memory alone
abbrev pub FindsTheTree : Type 0
FindsTheTree = (model : Model) (tokens : List Token) (ts : List Terminal) (es : List ExternalTree) (e : Stop) → classified model tokens ≡ Ok ts → IsUnit model tokens es → HasRoom 256 ts → StopsUnread ts e → e ≡ stop.Memory
