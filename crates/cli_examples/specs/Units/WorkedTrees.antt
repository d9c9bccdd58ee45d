-- The terminals and the tree of the unit, and what it is checked to.
use Rattle.std.specs.Prelude.{ℕ, pos, true, false, List, [], ◌∷◌, Some, None, codes}
use Rattle.cc_base.specs.declared.int_types.IntType.{IntType}
use Rattle.c_layout.specs.Models.{lp64}
use Rattle.c_layout.specs.Types.{Int}
use Rattle.c_layout.specs.StructViews.{StructView, no_struct}
use Rattle.c_layout.specs.SyntaxTrees as syntax
use Rattle.c_layout.specs.SyntaxTrees.{Tree}
use Rattle.c_layout.specs.DeclarationTrees.{ExternalTree, Defined, TypeOf, OnlyVoid, Return}
use Rattle.c_layout.specs.CheckedTrees as checked
use Rattle.c_layout.specs.CheckedTrees.{TermTree, Typed}
use Rattle.c_layout.specs.CheckedUnits.{FunctionView, UnitView}
use Rattle.c_layout.specs.declared.syntax_tree.declarations.TypeWord.TheVariants as type_word
use Rattle.c_layout.specs.declared.syntax_tree.expressions.Constant.{Constant}
use Rattle.c_layout.specs.declared.syntax_tree.expressions.BinaryOp.TheVariants as binary
use Rattle.c_parser_tokens.specs.declared.terminals.Keyword.{Keyword}
use Rattle.c_parser_tokens.specs.declared.terminals.Keyword.TheVariants as k
use Rattle.c_parser_tokens.specs.declared.terminals.Punctuator.{Punctuator}
use Rattle.c_parser_tokens.specs.declared.terminals.Punctuator.TheVariants as p
use Rattle.c_parser_tokens.specs.declared.terminals.Symbol.TheVariants as symbol
use Rattle.c_parser_tokens.specs.declared.terminals.Terminal.{Terminal}
use Rattle.cli_examples.specs.Units.WorkedPlaces.{at}

abbrev pub int : IntType
int = record { bytes = 4; signed = true; rank = 3 }

-- ---- terminals

abbrev pub sign : Punctuator → ℕ → Terminal
sign s column = record { place = at column; symbol = symbol.Punctuator s; text = [] }

abbrev pub word : Keyword → ℕ → Terminal
word w column = record { place = at column; symbol = symbol.Keyword w; text = [] }

abbrev pub constant : ℕ → Constant
constant value = record { value = value; negative = false; kind = int }

abbrev pub number : ℕ → ℕ → Terminal
number column value = record { place = at column; symbol = symbol.Constant (constant value); text = [] }

abbrev pub main_name : Terminal
main_name = record { place = at 5; symbol = symbol.Identifier; text = codes "main" }

-- `return 1/0;}` with this number in place of 0
abbrev pub behind_brace : ℕ → List Terminal
behind_brace value = word k.Return 16 ∷ (number 23 1 ∷ (sign p.Slash 24 ∷ (number 25 value ∷ (sign p.Semicolon 26 ∷ (sign p.RightBrace 27 ∷ [])))))

abbrev pub terminals_with : ℕ → List Terminal
terminals_with value = word k.Int 1 ∷ (main_name ∷ (sign p.LeftParenthesis 9 ∷ (word k.Void 10 ∷ (sign p.RightParenthesis 14 ∷ (sign p.LeftBrace 15 ∷ behind_brace value)))))

-- ---- the tree

abbrev pub quotient : ℕ → Tree
quotient value = syntax.Binary (at 24) binary.Divide (syntax.Number (at 23) (constant 1)) (syntax.Number (at 25) (constant value))

abbrev pub tree_with : ℕ → List ExternalTree
tree_with value =
    Defined (at 1) (TypeOf (at 1) type_word.Int ∷ []) (record { stars = []; name = record { at = at 5; text = codes "main" }; parameters = OnlyVoid })
    (Return (at 16) (Some (quotient value)) ∷ [])
    ∷ []

-- ---- the checked unit

abbrev pub number_term : ℕ → ℕ → TermTree
number_term column value = Typed (at column) (Int int) 0 (Some (pos value)) (checked.Number (pos value))

abbrev pub quotient_term : TermTree
quotient_term = Typed (at 24) (Int int) 0 None (checked.Integer binary.Divide (number_term 23 1) (number_term 25 0))

abbrev pub main_function : FunctionView
main_function = record {
  name = codes "main";
  at = at 5;
  returns = Int int;
  parameters = 0;
  locals = [];
  scope = [];
  body = checked.Return (at 16) (Some quotient_term) ∷ [];
  labels = 0;
}

-- the struct of a stream, which no header completes here
abbrev pub stream_struct : StructView
stream_struct = no_struct

abbrev pub checked_unit : UnitView
checked_unit = record { functions = main_function ∷ []; constants = []; objects = []; structs = stream_struct ∷ []; literals = []; entry = 0; model = lp64 }
