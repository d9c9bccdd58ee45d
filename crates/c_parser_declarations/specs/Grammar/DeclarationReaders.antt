-- The readers of declarators with their initializers at file scope and in blocks, and of declarations in blocks, as
-- definitions.
use Rattle.std.specs.Prelude.{ℕ, zero, suc, cond, max, length, ◌&&◌, List, [], Option, Some, None}
use Rattle.std.specs.List.{list_all}
use Rattle.cc_base.specs.declared.diagnostics.Place.{Place}
use Rattle.c_layout.specs.DeclarationTrees.{DeclaratorView, InitializerTree, FunctionDeclaratorView, InitDeclaratorView, Object, Initialized, Prototype, LocalView, SpecTrees}
use Rattle.c_parser_expression_grammar.specs.Fronts.{first_symbol, first_place, behind_first, is_identifier_first}
use Rattle.c_parser_declarations.specs.Grammar.Declarations.{is_local_word}
use Rattle.c_parser_expression_grammar.specs.Readings.{is_left_parenthesis}
use Rattle.c_parser_expression_grammar.specs.TypeNameReaders.{stars}
use Rattle.c_parser_declarations.specs.Grammar.Items.{Item, GotItem, item_of, after_item, listed}
use Rattle.c_parser_declarations.specs.Grammar.DeclaratorReaders.{named_declarator, declarator}
use Rattle.c_parser_declarations.specs.Grammar.InitializerReaders.{initializer}
use Rattle.c_parser_declarations.specs.Grammar.ParameterReaders.{function_declarator, words_list}
use Rattle.c_parser_declarations.specs.Grammar.SpecifierReaders.{raised, is_assign, is_semicolon, specifiers}

-- ---- declarators at file scope

abbrev pub as_prototype : GotItem FunctionDeclaratorView → Option (GotItem InitDeclaratorView)
as_prototype f = Some (item_of (Prototype f.item) f.height f.rest)

abbrev pub as_object : GotItem DeclaratorView → Option (GotItem InitDeclaratorView)
as_object d = Some (item_of (Object d.item) d.height d.rest)

-- a declarator without initializer behind its stars: that of a function exactly where `(` follows the name
abbrev pub bare_behind : List (List ℕ) → ℕ → List ℕ → Item InitDeclaratorView
bare_behind known b qs ts =
    cond (is_identifier_first known ts && is_left_parenthesis (first_symbol (behind_first ts))) (after_item (function_declarator known b qs ts) as_prototype) (after_item (named_declarator known b qs ts) as_object)

abbrev pub file_declarator : List (List ℕ) → ℕ → Item InitDeclaratorView
file_declarator known b ts = bare_behind known b (stars (length ts) ts).stars (stars (length ts) ts).rest

-- ---- initializers behind `=`

abbrev pub with_value : DeclaratorView → ℕ → Place → GotItem InitializerTree → Option (GotItem InitDeclaratorView)
with_value d h at i = Some (item_of (Initialized d at i.item) (max h i.height) i.rest)

-- a declarator of this height and the initializer that follows its `=`
abbrev pub assigned : List (List ℕ) → ℕ → DeclaratorView → ℕ → Item InitDeclaratorView
assigned known b d h ts = cond (is_assign (first_symbol ts)) (after_item (initializer known b (behind_first ts)) (with_value d h (first_place ts))) None

abbrev pub assigned_inside : List (List ℕ) → ℕ → DeclaratorView → ℕ → Item InitDeclaratorView
assigned_inside known zero d h = λ ts. None
assigned_inside known (suc b) d h = assigned known b d h

-- at file scope they are a production together
abbrev pub initialized_object : List (List ℕ) → ℕ → DeclaratorView → ℕ → Item InitDeclaratorView
initialized_object known b d h ts = after_item (assigned_inside known b d h ts) (λ g. raised b g.item g.height g.rest)

abbrev pub initialized_by : List (List ℕ) → ℕ → InitDeclaratorView → ℕ → Item InitDeclaratorView
initialized_by known b (Object d) h ts = initialized_object known b d h ts
initialized_by known b _ h ts = None

-- with the initializer that stands next, if one does
abbrev pub initialized : List (List ℕ) → ℕ → GotItem InitDeclaratorView → Option (GotItem InitDeclaratorView)
initialized known b d = cond (is_assign (first_symbol d.rest)) (initialized_by known b d.item d.height d.rest) (Some d)

-- ---- declarations in blocks

abbrev pub with_initializer : List (List ℕ) → ℕ → GotItem DeclaratorView → Option (GotItem InitDeclaratorView)
with_initializer known b d = cond (is_assign (first_symbol d.rest)) (assigned known b d.item d.height d.rest) (as_object d)

abbrev pub local_declarator : List (List ℕ) → ℕ → Item InitDeclaratorView
local_declarator known b ts = after_item (declarator known b ts) (with_initializer known b)

abbrev pub ended_declarators : GotItem (List InitDeclaratorView) → Option (GotItem (List InitDeclaratorView))
ended_declarators g = cond (is_semicolon (first_symbol g.rest)) (Some (item_of g.item g.height (behind_first g.rest))) None

-- the declarators with the `;`
abbrev pub local_declarators : List (List ℕ) → ℕ → Item (List InitDeclaratorView)
local_declarators known b ts =
    cond (is_semicolon (first_symbol ts)) (Some (item_of [] 0 (behind_first ts))) (after_item (listed (local_declarator known b) (length ts) ts) ended_declarators)

abbrev pub judged_words : GotItem SpecTrees → Option (GotItem SpecTrees)
judged_words ws = cond (list_all is_local_word (words_list ws.item)) (Some ws) None

abbrev pub local_specifiers : List (List ℕ) → ℕ → Item SpecTrees
local_specifiers known b ts = after_item (specifiers known b ts) judged_words

abbrev pub local_of : Place → SpecTrees → List InitDeclaratorView → LocalView
local_of at ws ds = record { at = at; words = words_list ws; declarators = ds }

abbrev pub local_behind : List (List ℕ) → ℕ → Place → GotItem SpecTrees → Option (GotItem LocalView)
local_behind known b at ws = after_item (local_declarators known b ws.rest) (λ ds. raised (suc b) (local_of at ws.item ds.item) (max ws.height ds.height) ds.rest)

-- a declaration in a block or in a `for`, with its `;`
abbrev pub local_declaration : List (List ℕ) → ℕ → Item LocalView
local_declaration known zero ts = None
local_declaration known (suc b) ts = after_item (local_specifiers known b ts) (local_behind known b (first_place ts))
