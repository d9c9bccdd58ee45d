-- What stands at the front of a list of terminals.
use Rattle.std.specs.Prelude.{◌≡◌, ℕ, Bool, true, false, ◌&&◌, not, List, [], ◌∷◌, nat_eq}
use Rattle.std.specs.List.{list_any}
use Rattle.std.specs.Cmp.Lexicographic.{pointwise}
use Rattle.indexmap.specs.IndexSet.{insert_key}
use Rattle.cc_base.specs.declared.diagnostics.Place.{Place}
use Rattle.c_layout.specs.declared.syntax_tree.expressions.Constant.{Constant}
use Rattle.c_parser_tokens.specs.declared.terminals.Terminal.{Terminal}
use Rattle.c_parser_tokens.specs.declared.terminals.Keyword.{Keyword}
use Rattle.c_parser_tokens.specs.declared.terminals.Keyword.TheVariants as k
use Rattle.c_parser_tokens.specs.declared.terminals.Punctuator.{Punctuator}
use Rattle.c_parser_tokens.specs.declared.terminals.Symbol.{Symbol}
use Rattle.c_parser_tokens.specs.declared.terminals.Symbol.TheVariants as symbol

-- the symbol at the front, or the end
abbrev pub first_symbol : List Terminal → Symbol
first_symbol [] = symbol.End
first_symbol (t ∷ ts) = t.symbol

-- the place at the front; at the end 1:1 of the first file
abbrev pub first_place : List Terminal → Place
first_place [] = record { file = 0; line = 1; col = 1 }
first_place (t ∷ ts) = t.place

-- the text at the front; none at the end
abbrev pub first_text : List Terminal → List ℕ
first_text [] = []
first_text (t ∷ ts) = t.text

-- what stands behind the front
abbrev pub behind_first : List Terminal → List Terminal
behind_first [] = []
behind_first (t ∷ ts) = ts

-- a punctuator at the front of `ts`, and `rest` behind it
pub record IsSign (sign : Punctuator) (ts rest : List Terminal) : Type 0 where
  pub symbol : first_symbol ts ≡ symbol.Punctuator sign
  pub behind : rest ≡ behind_first ts

-- a keyword at the front
pub record IsWord (word : Keyword) (ts rest : List Terminal) : Type 0 where
  pub symbol : first_symbol ts ≡ symbol.Keyword word
  pub behind : rest ≡ behind_first ts

-- whether a name is among the typedef names in force
abbrev pub is_typedef : List (List ℕ) → List ℕ → Bool
is_typedef known name = list_any (pointwise nat_eq name) known

-- the typedef names with one more, behind the others if it is new
abbrev pub with_text : List (List ℕ) → List ℕ → List (List ℕ)
with_text known name = insert_key (pointwise nat_eq) known name

abbrev pub is_identifier : Symbol → Bool
is_identifier symbol.Identifier = true
is_identifier _ = false

-- whether a typedef name stands at the front
abbrev pub is_typedef_first : List (List ℕ) → List Terminal → Bool
is_typedef_first known ts = is_identifier (first_symbol ts) && is_typedef known (first_text ts)

-- whether another identifier stands at the front
abbrev pub is_identifier_first : List (List ℕ) → List Terminal → Bool
is_identifier_first known ts = is_identifier (first_symbol ts) && not (is_typedef known (first_text ts))

-- the keywords of declaration specifiers
abbrev pub is_specifier : Keyword → Bool
is_specifier k.Auto = true
is_specifier k.Char = true
is_specifier k.Const = true
is_specifier k.Enum = true
is_specifier k.Extern = true
is_specifier k.Inline = true
is_specifier k.Int = true
is_specifier k.Long = true
is_specifier k.Register = true
is_specifier k.Restrict = true
is_specifier k.Short = true
is_specifier k.Signed = true
is_specifier k.Static = true
is_specifier k.Struct = true
is_specifier k.Typedef = true
is_specifier k.Unsigned = true
is_specifier k.Void = true
is_specifier _ = false

-- whether declaration specifiers begin with this symbol, where `named` says that it is a typedef name
abbrev pub begins_with : Symbol → Bool → Bool
begins_with (symbol.Keyword word) named = is_specifier word
begins_with _ named = named

abbrev pub begins_specifiers : List (List ℕ) → List Terminal → Bool
begins_specifiers known ts = begins_with (first_symbol ts) (is_typedef_first known ts)

-- an identifier that is no typedef name, with its place and its text
pub record IsName (known : List (List ℕ)) (at : Place) (text : List ℕ) (ts rest : List Terminal) : Type 0 where
  pub symbol : first_symbol ts ≡ symbol.Identifier
  pub other : is_typedef known (first_text ts) ≡ false
  pub place : at ≡ first_place ts
  pub spelled : text ≡ first_text ts
  pub behind : rest ≡ behind_first ts

-- a typedef name in force
pub record IsTypedefName (known : List (List ℕ)) (at : Place) (text : List ℕ) (ts rest : List Terminal) : Type 0 where
  pub symbol : first_symbol ts ≡ symbol.Identifier
  pub among : is_typedef known (first_text ts) ≡ true
  pub place : at ≡ first_place ts
  pub spelled : text ≡ first_text ts
  pub behind : rest ≡ behind_first ts

-- an integer or a character constant
pub record IsConstant (at : Place) (value : Constant) (ts rest : List Terminal) : Type 0 where
  pub symbol : first_symbol ts ≡ symbol.Constant value
  pub place : at ≡ first_place ts
  pub behind : rest ≡ behind_first ts

-- a string literal
pub record IsLiteral (at : Place) (bytes : List ℕ) (ts rest : List Terminal) : Type 0 where
  pub symbol : first_symbol ts ≡ symbol.Literal
  pub place : at ≡ first_place ts
  pub spelled : bytes ≡ first_text ts
  pub behind : rest ≡ behind_first ts
