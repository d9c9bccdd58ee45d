-- Which initializers, declarators, specifiers and declarations the readers find: those that derive, within the budget,
-- before what may stand behind them.
use Rattle.std.specs.Prelude.{◌≡◌, ◌+◌, ◌≤◌, ◌<◌, ℕ, Bool, true, false, length, List, Some}
use Rattle.c_layout.specs.DeclarationTrees.{DeclaratorView, SpecTrees, InitializerTree, InitDeclaratorView, Object, Initialized, Prototype, LocalView}
use Rattle.c_parser_tokens.specs.declared.terminals.Punctuator.TheVariants as p
use Rattle.c_parser_tokens.specs.declared.terminals.Symbol.{Symbol}
use Rattle.c_parser_tokens.specs.declared.terminals.Symbol.TheVariants as symbol
use Rattle.c_parser_tokens.specs.declared.terminals.Terminal.{Terminal}
use Rattle.c_parser_expression_grammar.specs.Fronts.{first_symbol, begins_specifiers}
use Rattle.c_parser_declarations.specs.Grammar.Declarations.{IsDeclared, IsInitialized, bare, init_height, IsLocal, local_height}
use Rattle.c_parser_declarations.specs.Grammar.Declarators.{IsDeclarator, declarator_height}
use Rattle.c_parser_declarations.specs.Grammar.Initializers.{DeriveInitializer, initializer_height}
use Rattle.c_parser_declarations.specs.Grammar.Specifiers.{IsNamed, IsSpec, spec_height}
use Rattle.c_parser_theorems.specs.UniqueExpressions.Endings.{EndsBefore}
use Rattle.c_parser_expression_grammar.specs.Readings.{is_left_brace}
use Rattle.c_parser_declarations.specs.Grammar.Items.{item_of}
use Rattle.c_parser_declarations.specs.Grammar.DeclarationReaders.{file_declarator, initialized, local_declaration}
use Rattle.c_parser_declarations.specs.Grammar.DeclaratorReaders.{declarator, parameter_declarator}
use Rattle.c_parser_declarations.specs.Grammar.InitializerReaders.{initializer}
use Rattle.c_parser_declarations.specs.Grammar.SpecifierReaders.{specifiers}

-- ---- what stands behind

-- an initializer ends before a comma, a `}` and a `;`
abbrev pub InitializerEnds : List Terminal → Type 0
InitializerEnds rest = EndsBefore 1 rest

abbrev pub is_end : Symbol → Bool
is_end (symbol.Punctuator p.Comma) = true
is_end (symbol.Punctuator p.Semicolon) = true
is_end (symbol.Punctuator p.Assign) = true
is_end (symbol.Punctuator p.RightParenthesis) = true
is_end _ = false

-- behind a declarator stands one of `,` `;` `=` and `)`
abbrev pub DeclaratorEnds : List Terminal → Type 0
DeclaratorEnds rest = is_end (first_symbol rest) ≡ true

-- behind that of a function anything may stand, such as its body
abbrev pub BareEnds : InitDeclaratorView → List Terminal → Type 0
BareEnds (Object d) rest = DeclaratorEnds rest
BareEnds (Initialized d equals i) rest = DeclaratorEnds rest
BareEnds (Prototype f) rest = Unit {0}

-- behind specifiers stand no word and no `{`
pub record SpecEnds (known : List (List ℕ)) (ts : List Terminal) : Type 0 where
  pub word : begins_specifiers known ts ≡ false
  pub brace : is_left_brace (first_symbol ts) ≡ false

abbrev pub is_comma_or_semicolon : Symbol → Bool
is_comma_or_semicolon (symbol.Punctuator p.Comma) = true
is_comma_or_semicolon (symbol.Punctuator p.Semicolon) = true
is_comma_or_semicolon _ = false

-- behind a declarator with its initializer stands a comma or a `;`
abbrev pub DeclaredEnds : List Terminal → Type 0
DeclaredEnds rest = is_comma_or_semicolon (first_symbol rest) ≡ true

-- ---- what is found

-- the readers count heights in 32 bits: none that they count is above the budget and the terminals together
abbrev pub HasRoom : ℕ → List Terminal → Type 0
HasRoom b ts = b + length ts < 4294967295

abbrev pub FindsInitializers : List (List ℕ) → ℕ → Type 0
FindsInitializers known b =
    (i : InitializerTree) (ts rest : List Terminal) → DeriveInitializer i known ts rest → InitializerEnds rest → initializer_height i ≤ b → initializer known b ts ≡ Some (item_of i (initializer_height i) rest)

-- declarators with a name
abbrev pub FindsDeclarators : List (List ℕ) → ℕ → Type 0
FindsDeclarators known b =
    (d : DeclaratorView) (ts rest : List Terminal) → IsNamed known d ts rest → DeclaratorEnds rest → declarator_height d ≤ b → HasRoom b ts → declarator known b ts ≡ Some (item_of d (declarator_height d) rest)

-- those with a name and abstract ones
abbrev pub FindsAnyDeclarators : List (List ℕ) → ℕ → Type 0
FindsAnyDeclarators known b =
    (d : DeclaratorView) (ts rest : List Terminal) → IsDeclarator known d ts rest → DeclaratorEnds rest → declarator_height d ≤ b → HasRoom b ts → parameter_declarator known b ts ≡ Some (item_of d (declarator_height d) rest)

abbrev pub FindsSpecifiers : List (List ℕ) → ℕ → Type 0
FindsSpecifiers known b =
    (ws : SpecTrees) (ts rest : List Terminal) → IsSpec known ws ts rest → SpecEnds known rest → spec_height ws ≤ b → HasRoom b ts → specifiers known b ts ≡ Some (item_of ws (spec_height ws) rest)

-- declarators at file scope, without the initializer behind them
abbrev pub FindsFileDeclarators : List (List ℕ) → ℕ → Type 0
FindsFileDeclarators known b =
    (d : InitDeclaratorView) (ts rest : List Terminal) → IsDeclared known d ts rest → BareEnds d rest → init_height (bare d) ≤ b → HasRoom b ts → file_declarator known b ts ≡ Some (item_of (bare d) (init_height (bare d)) rest)

-- and with it
abbrev pub FindsInitialized : List (List ℕ) → ℕ → Type 0
FindsInitialized known b =
    (d : InitDeclaratorView) (ts rest : List Terminal) → IsInitialized known d ts rest → DeclaredEnds rest → init_height d ≤ b → initialized known b (item_of (bare d) (init_height (bare d)) ts) ≡ Some (item_of d (init_height d) rest)

-- declarations in blocks
abbrev pub FindsLocals : List (List ℕ) → ℕ → Type 0
FindsLocals known b =
    (l : LocalView) (ts rest : List Terminal) → IsLocal known l ts rest → local_height l ≤ b → HasRoom b ts → local_declaration known b ts ≡ Some (item_of l (local_height l) rest)
