-- What trees of tokens hold whose texts are of bytes.
use Rattle.std.specs.Prelude.{◌≡◌, true, List, [], ◌∷◌}
use Rattle.c_layout.specs.Models.{is_model}
use Rattle.c_layout.specs.DeclarationTrees.{ExternalTree}
use Rattle.c_layout.specs.declared.data_model.Model.{Model}
use Rattle.c_layout.specs.declared.syntax_tree.expressions.Constant.{Constant}
use Rattle.cc_base.specs.declared.lexemes.Token.{Token}
use Rattle.c_parser_tokens.specs.declared.terminals.Symbol.TheVariants as symbol
use Rattle.c_parser_tokens.specs.declared.terminals.Terminal.{Terminal}
use Rattle.c_parser.specs.Externals.{IsUnit}
use Rattle.c_layout.specs.ByteTexts.{are_bytes, have_byte_texts}
use Rattle.c_types_well_formed.specs.WellFormed.ProperTrees.{IsProperConstant}
use Rattle.c_types_well_formed.specs.WellFormed.ProperStatements.{AreProperExternals}
use Rattle.c_types_well_formed_units.specs.Scoped.BlockDeclarations.{UnitInBlocks}

-- a terminal that is proper where it is a constant or a literal
pub record IsProperTerminal (m : Model) (t : Terminal) : Type 0 where
  pub constant : (c : Constant) → t.symbol ≡ symbol.Constant c → IsProperConstant m c
  pub literal : t.symbol ≡ symbol.Literal → are_bytes t.text ≡ true

abbrev pub AreProperTerminals : Model → List Terminal → Type 0
AreProperTerminals m [] = Unit {0}
AreProperTerminals m (t ∷ ts) = IsProperTerminal m t × AreProperTerminals m ts

abbrev pub TreesAreProper : Type 0
TreesAreProper = (m : Model) (tokens : List Token) (es : List ExternalTree) → is_model m ≡ true → have_byte_texts tokens ≡ true → IsUnit m tokens es → AreProperExternals m es

-- declarations in functions are items of blocks
abbrev pub TreesDeclareInBlocks : Type 0
TreesDeclareInBlocks = (m : Model) (tokens : List Token) (es : List ExternalTree) → IsUnit m tokens es → UnitInBlocks es
