-- The readers of parameters and of the declarators of functions (6.7.6.3) as definitions.
use Rattle.std.specs.Prelude.{ℕ, zero, suc, cond, max, length, List, [], ◌∷◌, Option, Some, None}
use Rattle.cc_base.specs.declared.diagnostics.Place.{Place}
use Rattle.c_layout.specs.DeclarationTrees.{NameView, DeclaratorView, ParameterView, ParametersView, NoParameters, OnlyVoid, ParameterList, FunctionDeclaratorView, SpecTree, SpecTrees, NoWord, MoreWords}
use Rattle.c_parser_expression_grammar.specs.Fronts.{first_symbol, first_place, behind_first, is_identifier_first}
use Rattle.c_parser_declarations.specs.Grammar.Declarations.{begins_declarator, is_void_first}
use Rattle.c_parser_expression_grammar.specs.Readings.{is_left_parenthesis, is_right_parenthesis}
use Rattle.c_parser_declarations.specs.Grammar.Items.{Item, GotItem, item_of, after_item, listed}
use Rattle.c_parser_declarations.specs.Grammar.DeclaratorReaders.{above, name_at, parameter_declarator}
use Rattle.c_parser_declarations.specs.Grammar.SpecifierReaders.{raised, at_height, specifiers}

abbrev pub words_list : SpecTrees → List SpecTree
words_list NoWord = []
words_list (MoreWords w ws) = w ∷ words_list ws

-- ---- one parameter

abbrev pub parameter_declarator_inside : List (List ℕ) → ℕ → Item DeclaratorView
parameter_declarator_inside known zero = λ ts. None
parameter_declarator_inside known (suc b) = parameter_declarator known b

abbrev pub parameter_of : Place → SpecTrees → Option DeclaratorView → ParameterView
parameter_of at ws d = record { at = at; words = words_list ws; declarator = d }

-- specifiers alone add nothing to the height
abbrev pub parameter_behind : List (List ℕ) → ℕ → Place → GotItem SpecTrees → Option (GotItem ParameterView)
parameter_behind known b at ws =
    cond (begins_declarator known ws.rest)
    (after_item (parameter_declarator_inside known b ws.rest) (λ d. raised b (parameter_of at ws.item (Some d.item)) (max ws.height d.height) d.rest))
    (Some (item_of (parameter_of at ws.item None) ws.height ws.rest))

abbrev pub parameter : List (List ℕ) → ℕ → Item ParameterView
parameter known b ts = after_item (specifiers known b ts) (parameter_behind known b (first_place ts))

-- ---- what stands between the parentheses, with the `)`

-- one parameter alone adds nothing to the height
abbrev pub parameters_at : ℕ → List ParameterView → ℕ → Option ℕ
parameters_at b [] parts = above b parts
parameters_at b (x ∷ []) parts = Some parts
parameters_at b (x ∷ (y ∷ more)) parts = above b parts

abbrev pub closed_parameters : ℕ → GotItem (List ParameterView) → Option (GotItem ParametersView)
closed_parameters b g = cond (is_right_parenthesis (first_symbol g.rest)) (at_height (ParameterList g.item) (behind_first g.rest) (parameters_at b g.item g.height)) None

abbrev pub parameter_list : List (List ℕ) → ℕ → Item ParametersView
parameter_list known b ts = after_item (listed (parameter known b) (length ts) ts) (closed_parameters b)

abbrev pub parameters : List (List ℕ) → ℕ → Item ParametersView
parameters known b ts =
    cond (is_right_parenthesis (first_symbol ts)) (Some (item_of NoParameters 0 (behind_first ts)))
    (cond (is_void_first ts) (Some (item_of OnlyVoid 0 (behind_first (behind_first ts)))) (parameter_list known b ts))

abbrev pub parameters_inside : List (List ℕ) → ℕ → Item ParametersView
parameters_inside known zero = λ ts. None
parameters_inside known (suc b) = parameters known b

-- ---- declarators of functions

abbrev pub function_of : List ℕ → NameView → ParametersView → FunctionDeclaratorView
function_of qs name list = record { stars = qs; name = name; parameters = list }

-- behind its name
abbrev pub function_named : List (List ℕ) → ℕ → List ℕ → NameView → Item FunctionDeclaratorView
function_named known b qs name ts =
    cond (is_left_parenthesis (first_symbol ts)) (after_item (parameters_inside known b (behind_first ts)) (λ g. raised b (function_of qs name g.item) g.height g.rest)) None

-- behind its stars
abbrev pub function_declarator : List (List ℕ) → ℕ → List ℕ → Item FunctionDeclaratorView
function_declarator known b qs ts = cond (is_identifier_first known ts) (function_named known b qs (name_at ts) (behind_first ts)) None
