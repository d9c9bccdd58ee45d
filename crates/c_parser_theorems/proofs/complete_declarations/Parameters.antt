-- Parameters and the declarators of functions are found.
use Rattle.std.proofs.Common.{◌≡◌, ℕ, zero, suc, ◌+◌, ◌≤◌, ◌<◌, Bool, true, false, ◌&&◌, ◌||◌, not, max, List, [], ◌∷◌, length, Option, Some, None, refl, arith, ap, ◌∙◌, sym}
use Rattle.c_layout.specs.DeclarationTrees.{DeclaratorView, SpecTree, SpecTrees, StorageWord, Qualifier, TypeOf, StructTag, StructBody, EnumTag, EnumBody, TypedefName, NoWord, MoreWords, ParameterView, ParametersView, NoParameters, OnlyVoid, ParameterList, FunctionDeclaratorView, spec_trees}
use Rattle.c_layout.specs.declared.syntax_tree.declarations.TypeWord.TheVariants as type_word
use Rattle.c_parser_tokens.specs.declared.terminals.Keyword.{Keyword}
use Rattle.c_parser_tokens.specs.declared.terminals.Keyword.TheVariants as k
use Rattle.c_parser_tokens.specs.declared.terminals.Punctuator.TheVariants as p
use Rattle.c_parser_tokens.specs.declared.terminals.Symbol.{Symbol}
use Rattle.c_parser_tokens.specs.declared.terminals.Symbol.TheVariants as symbol
use Rattle.c_parser_tokens.specs.declared.terminals.Terminal.{Terminal}
use Rattle.c_parser_expression_grammar.specs.Fronts.{first_symbol, first_place, first_text, behind_first, is_identifier, is_typedef, IsSign, IsWord}
use Rattle.c_parser_expression_grammar.specs.TypeNames.{is_one_type}
use Rattle.c_parser_declarations.specs.Grammar.Declarations.{is_declarator_sign, begins_declarator, Optional, IsParameter, parameter_by, parameter_height, is_void_type, is_only_void, is_lone_void, is_void_word, is_closing, is_void_first, Parameters, IsFunction, function_height}
use Rattle.c_parser_declarations.specs.Grammar.Declarations as declarations
use Rattle.c_parser_declarations.specs.Grammar.Declarators.{IsDeclarator, declarator_height}
use Rattle.c_parser_declarations.specs.Grammar.Lists.{Listed, highest}
use Rattle.c_parser_declarations.specs.Grammar.Specifiers.{DeriveWord, DeriveWords, IsSpec, counts_of, spec_height}
use Rattle.c_parser_theorems.proofs.unique_expressions.Levels.{below}
use Rattle.c_parser_expression_grammar.specs.Readings.{is_right_parenthesis}
use Rattle.c_parser_theorems.proofs.complete_expressions.Shrinking.{length_behind}
use Rattle.c_parser_theorems.specs.CompleteDeclarations.Found.{is_end, DeclaratorEnds}
use Rattle.c_parser_declarations.specs.Grammar.Items.{item_of}
use Rattle.c_parser_declarations.specs.Grammar.DeclaratorReaders.{name_at}
use Rattle.c_parser_declarations.specs.Grammar.ParameterReaders.{words_list, parameter_declarator_inside, parameter_of, parameter, parameters_at, parameter_list, parameters, parameters_inside, function_of, function_declarator}
use Rattle.c_parser_theorems.proofs.complete_declarations.Beginnings.{word_front, spec_front, declarator_ends_words, end_ends_words, words_few}
use Rattle.c_parser_theorems.proofs.complete_declarations.Declarators.{name_is}
use Rattle.c_parser_theorems.proofs.complete_declarations.Enumerators.{identifier_first}
use Rattle.c_parser_theorems.proofs.complete_declarations.Lists.{ReadsItem, TakesOne, all_read, listed_few, listed_read}
use Rattle.c_parser_theorems.proofs.complete_declarations.Named.{Roomy, roomy, name_takes, declarator_begins, declarator_shrinks, parameter_declarator_found}
use Rattle.c_parser_theorems.proofs.complete_declarations.Specifiers.{specifiers_found}

pub words_back : (ws : List SpecTree) → words_list (spec_trees ws) ≡ ws
words_back [] = refl
words_back (w ∷ ws) = ap (λ (v : List SpecTree). w ∷ v) (words_back ws)

-- specifiers take a terminal
pub spec_takes : (known : List (List ℕ)) (ws : SpecTrees) (ts rest : List Terminal) → IsSpec known ws ts rest → length rest + 1 ≤ length ts
spec_takes known ws ts rest is = by ws is.derive is.one_type
  where
    by : (ws : SpecTrees) → DeriveWords ws known ts rest → is_one_type (counts_of ws) ≡ true → length rest + 1 ≤ length ts
    by NoWord all one = absurd (cc one)
    by (MoreWords w ws) all one = let h = words_few known (MoreWords w ws) ts rest all in omega arith

-- ---- one parameter

end_begins : (x : Symbol) (named : Bool) → is_end x ≡ true → (is_declarator_sign x || (is_identifier x && not named)) ≡ false
end_begins (symbol.Punctuator p.Star) named is = absurd (cc is)
end_begins (symbol.Punctuator p.LeftParenthesis) named is = absurd (cc is)
end_begins (symbol.Punctuator p.LeftBracket) named is = absurd (cc is)
end_begins symbol.Identifier named is = absurd (cc is)
end_begins _ named is = refl

pub end_no_declarator : (known : List (List ℕ)) (ts : List Terminal) → DeclaratorEnds ts → begins_declarator known ts ≡ false
end_no_declarator known ts end = end_begins (first_symbol ts) (is_typedef known (first_text ts)) end

declarator_within : (known : List (List ℕ)) (b : ℕ) (d : DeclaratorView) (ts rest : List Terminal) → IsDeclarator known d ts rest → DeclaratorEnds rest → declarator_height d < b → b + length ts < 4294967295 → parameter_declarator_inside known b ts ≡ Some (item_of d (declarator_height d) rest)
declarator_within known zero d ts rest is end small room = absurd (omega arith)
declarator_within known (suc b) d ts rest is end small room = parameter_declarator_found known b d ts rest is end (omega arith) (omega arith)

parameter_is : (x : ParameterView) (ts : List Terminal) (ws : SpecTrees) → x.at ≡ first_place ts → words_list ws ≡ x.words → parameter_of (first_place ts) ws x.declarator ≡ x
parameter_is x ts ws place words = λ i. record { at = sym place i; words = words i; declarator = x.declarator }

parameter_read : (known : List (List ℕ)) (b : ℕ) (ws : SpecTrees) (d : Option DeclaratorView) (ts a rest : List Terminal) → IsSpec known ws ts a → Optional known d a rest → DeclaratorEnds rest → parameter_by (spec_height ws) d ≤ b → b + length ts < 4294967295 →
    parameter known b ts ≡ Some (item_of (parameter_of (first_place ts) ws d) (parameter_by (spec_height ws) d) rest)
parameter_read known b ws None ts a rest spec same end small room =
    let here : rest ≡ a = same in
    let end-at : DeclaratorEnds a = rw here at end in
    let one = specifiers_found known b ws ts a spec (end_ends_words known a end-at) small room in
    let off = end_no_declarator known a end-at in
    rw (one, off, here) refl
parameter_read known b ws (Some d) ts a rest spec is end small room =
    let begins = declarator_begins known d a rest is in
    let one = specifiers_found known b ws ts a spec (declarator_ends_words known a begins) (omega arith) room in
    let takes = spec_takes known ws ts a spec in
    let two = declarator_within known b d a rest is end (omega arith) (omega arith) in
    let fits = below (max (spec_height ws) (declarator_height d)) b (omega arith) in
    rw (one, begins, two, fits) refl

pub parameter_found : (known : List (List ℕ)) (b : ℕ) (x : ParameterView) → ReadsItem (Roomy b (IsParameter known)) DeclaratorEnds parameter_height (suc b) (parameter known b) x
parameter_found known b x ts rest (is, room) end small =
    let one = parameter_read known b (spec_trees x.words) x.declarator ts is.behind rest is.spec is.declarator end (omega arith) room in
    one ∙ ap (λ (v : ParameterView). Some (item_of v (parameter_height x) rest)) (parameter_is x ts (spec_trees x.words) is.place (words_back x.words))

optional_shrinks : (known : List (List ℕ)) (d : Option DeclaratorView) (ts rest : List Terminal) → Optional known d ts rest → length rest ≤ length ts
optional_shrinks known None ts rest same = let here : rest ≡ ts = same in rw here (omega arith)
optional_shrinks known (Some d) ts rest is = declarator_shrinks known d ts rest is

pub parameter_takes : (known : List (List ℕ)) → TakesOne (IsParameter known)
parameter_takes known x ts rest is = let one = spec_takes known (spec_trees x.words) ts is.behind is.spec in let two = optional_shrinks known x.declarator is.behind rest is.declarator in omega arith

-- ---- the word `void` in front of a `)` is no parameter

abbrev AtVoid : List Terminal → Type 0
AtVoid ts = (is_void_word (first_symbol ts) ≡ true) × (is_closing (first_symbol (behind_first ts)) ≡ true)

keyword_void : (w : Keyword) → is_void_word (symbol.Keyword w) ≡ true → w ≡ k.Void
keyword_void k.Void is = refl
keyword_void _ is = absurd (cc is)

void_at : {w : Keyword} (ts rest : List Terminal) → IsWord w ts rest → AtVoid ts → w ≡ k.Void
void_at {w} ts rest front at = keyword_void w (rw front.symbol at at.0)

-- the one word there is `void`, and behind it stands the `)`
void_word : (known : List (List ℕ)) (w : SpecTree) (ts rest : List Terminal) → DeriveWord w known ts rest → AtVoid ts → (is_void_type w ≡ true) × (rest ≡ behind_first ts)
void_word known (StorageWord at class) ts rest (place, w, is, front) void = let same = void_at ts rest front void in let h : None ≡ Some class = rw same at is in absurd (cc h)
void_word known (Qualifier at) ts rest (place, w, is, front) void = let same = void_at ts rest front void in let h : false ≡ true = rw same at is in absurd (cc h)
void_word known (TypeOf at named) ts rest (place, w, is, front) void =
    let same = void_at ts rest front void in
    let h : Some type_word.Void ≡ Some named = rw same at is in
    let here : type_word.Void ≡ named = cc in
    (rw (sym here) refl, front.behind)
void_word known (StructTag at tag) ts rest (place, some, a, front, name) void = let same = void_at ts a front void in absurd (cc same)
void_word known (StructBody at tag ms) ts rest (place, some, a, c, d, e, front, name, opens, all, shut) void = let same = void_at ts a front void in absurd (cc same)
void_word known (EnumTag at tag) ts rest (place, some, a, front, name) void = let same = void_at ts a front void in absurd (cc same)
void_word known (EnumBody at tag es) ts rest (place, a, c, d, e, front, name, opens, all, shut) void = let same = void_at ts a front void in absurd (cc same)
void_word known (TypedefName name) ts rest is void = let h : false ≡ true = rw is.symbol at void.0 in absurd (cc h)

closing_end : (x : Symbol) → is_closing x ≡ true → is_end x ≡ true
closing_end (symbol.Punctuator p.RightParenthesis) is = refl
closing_end _ is = absurd (cc is)

no_both : {x : Bool} → x ≡ true → x ≡ false → ⊥
no_both {x} one other = let h : true ≡ false = sym one ∙ other in absurd (cc h)

-- a parameter there is that word alone
void_parameter : (known : List (List ℕ)) (ws : List SpecTree) (d : Option DeclaratorView) (ts a rest : List Terminal) → IsSpec known (spec_trees ws) ts a → Optional known d a rest → AtVoid ts → (is_only_void ws d ≡ true) × (is_closing (first_symbol rest) ≡ true)
void_parameter known [] d ts a rest spec is void = absurd (cc spec.one_type)
void_parameter known (w ∷ []) None ts a rest spec same void =
    let all : DeriveWords (MoreWords w NoWord) known ts a = spec.derive in
    let one = void_word known w ts all.0 all.1 void in
    let behind : rest ≡ behind_first ts = same ∙ all.2 ∙ one.1 in
    (one.0, rw behind void.1)
void_parameter known (w ∷ []) (Some d) ts a rest spec is void =
    let all : DeriveWords (MoreWords w NoWord) known ts a = spec.derive in
    let one = void_word known w ts all.0 all.1 void in
    let behind : a ≡ behind_first ts = all.2 ∙ one.1 in
    let end : DeclaratorEnds a = rw behind (closing_end (first_symbol (behind_first ts)) void.1) in
    absurd (no_both (declarator_begins known d a rest is) (end_no_declarator known a end))
void_parameter known (w ∷ (v ∷ vs)) d ts a rest spec is void =
    let all : DeriveWords (MoreWords w (MoreWords v (spec_trees vs))) known ts a = spec.derive in
    let one = void_word known w ts all.0 all.1 void in
    let more : DeriveWords (MoreWords v (spec_trees vs)) known (behind_first ts) a = rw one.1 at all.2 in
    let end : DeclaratorEnds (behind_first ts) = closing_end (first_symbol (behind_first ts)) void.1 in
    absurd (no_both (word_front known v (behind_first ts) more.0 more.1).word (end_ends_words known (behind_first ts) end).word)

lone_void : (known : List (List ℕ)) (xs : List ParameterView) (ts rest : List Terminal) → Listed (IsParameter known) xs ts rest → AtVoid ts → is_lone_void xs ≡ true
lone_void known [] ts rest d void = absurd d
lone_void known (x ∷ []) ts rest d void = (void_parameter known x.words x.declarator ts d.behind rest d.spec d.declarator void).0
lone_void known (x ∷ (y ∷ ys)) ts rest (a, c, one, comma, more) void =
    let behind = (void_parameter known x.words x.declarator ts one.behind a one.spec one.declarator void).1 in
    let h : false ≡ true = rw comma.symbol at behind in
    absurd (cc h)

not_void : (known : List (List ℕ)) (xs : List ParameterView) (ts rest : List Terminal) → Listed (IsParameter known) xs ts rest → is_lone_void xs ≡ false → is_void_first ts ≡ false
not_void known xs ts rest d other = by (is_void_word (first_symbol ts)) (is_closing (first_symbol (behind_first ts))) refl refl
  where
    by : (x y : Bool) → is_void_word (first_symbol ts) ≡ x → is_closing (first_symbol (behind_first ts)) ≡ y → (x && y) ≡ false
    by true true first second = absurd (no_both (lone_void known xs ts rest d (first, second)) other)
    by true false first second = refl
    by false y first second = refl

-- ---- lists of parameters

end_comma : (a b : List Terminal) → IsSign p.Comma a b → DeclaratorEnds a
end_comma a b comma = rw comma.symbol refl

listed_front : (known : List (List ℕ)) (xs : List ParameterView) (ts rest : List Terminal) → Listed (IsParameter known) xs ts rest → is_right_parenthesis (first_symbol ts) ≡ false
listed_front known [] ts rest d = absurd d
listed_front known (x ∷ []) ts rest d = (spec_front known (spec_trees x.words) ts d.behind d.spec.derive d.spec.one_type).right_parenthesis
listed_front known (x ∷ (y ∷ ys)) ts rest (a, c, one, comma, more) = (spec_front known (spec_trees x.words) ts one.behind one.spec.derive one.spec.one_type).right_parenthesis

list_low : (xs : List ParameterView) → highest parameter_height xs ≤ declarations.list_height xs
list_low [] = omega arith
list_low (x ∷ []) = omega arith
list_low (x ∷ (y ∷ ys)) = omega arith

list_height_is : (b : ℕ) (xs : List ParameterView) → declarations.list_height xs ≤ b → parameters_at b xs (highest parameter_height xs) ≡ Some (declarations.list_height xs)
list_height_is b [] small = let fits = below 0 b (omega arith) in rw fits refl
list_height_is b (x ∷ []) small = let alone : max (parameter_height x) 0 ≡ parameter_height x = omega arith in rw alone refl
list_height_is b (x ∷ (y ∷ ys)) small = let fits = below (highest parameter_height (x ∷ (y ∷ ys))) b (omega arith) in rw fits refl

parameter_list_found : (known : List (List ℕ)) (b : ℕ) (xs : List ParameterView) (ts last rest : List Terminal) → Listed (IsParameter known) xs ts last → IsSign p.RightParenthesis last rest → declarations.list_height xs ≤ b → b + length ts < 4294967295 →
    parameter_list known b ts ≡ Some (item_of (ParameterList xs) (declarations.list_height xs) rest)
parameter_list_found known b xs ts last rest d shut small room =
    let few = listed_few (IsParameter known) (parameter_takes known) xs ts last d in
    let from = roomy b (IsParameter known) (parameter_takes known) xs ts last d room in
    let low = list_low xs in
    let end : DeclaratorEnds last = rw shut.symbol refl in
    let one = listed_read (Roomy b (IsParameter known)) DeclaratorEnds parameter_height (suc b) (parameter known b) end_comma xs (all_read (Roomy b (IsParameter known)) DeclaratorEnds parameter_height (suc b) (parameter known b) (parameter_found known b) xs) (length ts) ts last from end (rw shut.symbol refl) (omega arith) (omega arith) in
    let high = list_height_is b xs small in
    rw (one, shut.symbol, shut.behind, high) refl

pub parameters_found : (known : List (List ℕ)) (b : ℕ) (x : ParametersView) (ts last rest : List Terminal) → Parameters known x ts last → IsSign p.RightParenthesis last rest → declarations.parameters_height x ≤ b → b + length ts < 4294967295 →
    parameters known b ts ≡ Some (item_of x (declarations.parameters_height x) rest)
parameters_found known b NoParameters ts last rest same shut small room =
    let here : last ≡ ts = same in
    let shut-at : IsSign p.RightParenthesis ts rest = rw here at shut in
    rw (shut-at.symbol, shut-at.behind) refl
parameters_found known b OnlyVoid ts last rest is shut small room =
    let shut-at : IsSign p.RightParenthesis (behind_first ts) rest = rw is.behind at shut in
    rw (is.symbol, shut-at.symbol, shut-at.behind) refl
parameters_found known b (ParameterList xs) ts last rest (other, d) shut small room =
    let front = listed_front known xs ts last d in
    let void = not_void known xs ts last d other in
    let one = parameter_list_found known b xs ts last rest d shut small room in
    rw (front, void) one

-- ---- declarators of functions

parameters_within : (known : List (List ℕ)) (b : ℕ) (x : ParametersView) (ts last rest : List Terminal) → Parameters known x ts last → IsSign p.RightParenthesis last rest → declarations.parameters_height x < b → b + length ts < 4294967295 →
    parameters_inside known b ts ≡ Some (item_of x (declarations.parameters_height x) rest)
parameters_within known zero x ts last rest d shut small room = absurd (omega arith)
parameters_within known (suc b) x ts last rest d shut small room = parameters_found known b x ts last rest d shut (omega arith) (omega arith)

function_is : (f : FunctionDeclaratorView) (ts : List Terminal) → f.name ≡ name_at ts → function_of f.stars (name_at ts) f.parameters ≡ f
function_is f ts name = λ i. record { stars = f.stars; name = sym name i; parameters = f.parameters }

-- behind its stars
pub function_found : (known : List (List ℕ)) (b : ℕ) (f : FunctionDeclaratorView) (ts rest : List Terminal) (is : IsFunction known f ts rest) → function_height f ≤ b → b + length is.behind_stars < 4294967295 →
    function_declarator known b f.stars is.behind_stars ≡ Some (item_of f (function_height f) rest)
function_found known b f ts rest is small room =
    let first = identifier_first f.name is.behind_stars is.behind_name is.name in
    let takes = name_takes f.name is.behind_stars is.behind_name is.name in
    let opens : IsSign p.LeftParenthesis (behind_first is.behind_stars) is.inside = rw is.name.behind at is.opens in
    let opening = length_behind is.behind_name is.inside is.opens in
    let from : Parameters known f.parameters (behind_first (behind_first is.behind_stars)) is.last = rw opens.behind at is.parameters in
    let shorter : length (behind_first (behind_first is.behind_stars)) ≤ length is.behind_stars = rw (sym opens.behind) (omega arith) in
    let two = parameters_within known b f.parameters (behind_first (behind_first is.behind_stars)) is.last rest from is.closes (omega arith) (omega arith) in
    let fits = below (declarations.parameters_height f.parameters) b (omega arith) in
    let whole = function_is f is.behind_stars (name_is known f.name is.behind_stars is.behind_name is.name) in
    rw (first, opens.symbol, two, fits) (ap (λ (v : FunctionDeclaratorView). Some (item_of v (function_height f) rest)) whole)
