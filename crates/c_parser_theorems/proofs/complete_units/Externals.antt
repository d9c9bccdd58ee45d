-- External declarations are found.
use Rattle.std.proofs.Common.{◌≡◌, ℕ, zero, suc, ◌+◌, ◌≤◌, ◌<◌, Bool, true, false, ◌&&◌, ◌||◌, not, max, List, [], ◌∷◌, length, Option, Some, refl, arith, ap, ◌∙◌}
use Rattle.cc_base.specs.declared.diagnostics.Place.{Place}
use Rattle.c_layout.specs.DeclarationTrees.{SpecTree, SpecTrees, StatementTree, ParametersView, NoParameters, OnlyVoid, ParameterList, FunctionDeclaratorView, InitDeclaratorView, Object, Initialized, Prototype, ExternalTree, Declared, Defined, spec_trees, statement_trees}
use Rattle.c_parser_tokens.specs.declared.terminals.Punctuator.TheVariants as p
use Rattle.c_parser_tokens.specs.declared.terminals.Symbol.{Symbol}
use Rattle.c_parser_tokens.specs.declared.terminals.Symbol.TheVariants as symbol
use Rattle.c_parser_tokens.specs.declared.terminals.Terminal.{Terminal}
use Rattle.c_parser_expression_grammar.specs.Fronts.{first_symbol, first_place, first_text, behind_first, is_identifier, is_typedef, IsSign, IsName}
use Rattle.c_parser_expression_grammar.specs.TypeNames.{Stars}
use Rattle.c_parser_declarations.specs.Grammar.Declarations.{is_declarator_sign, begins_declarator, IsParameter, Parameters, IsFunction, function_height, IsDeclared, IsInitialized, bare, init_height}
use Rattle.c_parser_declarations.specs.Grammar.Lists.{highest}
use Rattle.c_parser_declarations.specs.Grammar.Specifiers.{IsSpec, spec_height}
use Rattle.c_parser_declarations.specs.Grammar.StorageClasses as classes
use Rattle.c_parser.specs.Externals.{with_declared, IsFileDeclarator, Further, IsExternal, external_height}
use Rattle.c_parser.specs.Statements.{IsBlock, block_height}
use Rattle.c_parser_theorems.proofs.unique_expressions.Levels.{below}
use Rattle.c_parser_expression_grammar.specs.Readings.{is_comma, is_left_brace}
use Rattle.c_parser_theorems.proofs.complete_expressions.Shrinking.{length_behind}
use Rattle.c_parser_theorems.proofs.complete_expressions.Stars.{stars_few}
use Rattle.c_parser_declarations.specs.Grammar.DeclarationReaders.{file_declarator, initialized}
use Rattle.c_parser_theorems.specs.CompleteDeclarations.Found.{is_end, DeclaratorEnds, BareEnds, SpecEnds, is_comma_or_semicolon, DeclaredEnds}
use Rattle.c_parser_declarations.specs.Grammar.Items.{Item, GotItem, item_of, after_item, one_more}
use Rattle.c_parser_declarations.specs.Grammar.ParameterReaders.{words_list}
use Rattle.c_parser_declarations.specs.Grammar.SpecifierReaders.{is_semicolon}
use Rattle.c_parser_theorems.proofs.complete_declarations.Beginnings.{declarator_ends_words, end_ends_words, word_takes}
use Rattle.c_parser_theorems.proofs.complete_declarations.Declarations.{bare_found, prototype_found, initialized_found}
use Rattle.c_parser_theorems.proofs.complete_declarations.Initializers.{initializer_takes}
use Rattle.c_parser_theorems.proofs.complete_declarations.Lists.{listed_few}
use Rattle.c_parser_theorems.proofs.complete_declarations.Named.{name_takes, named_takes, declarator_begins}
use Rattle.c_parser_theorems.proofs.complete_declarations.Parameters.{words_back, spec_takes, parameter_takes}
use Rattle.c_parser_theorems.proofs.complete_declarations.Specifiers.{specifiers_found}
use Rattle.c_parser.specs.StatementReaders.{block, statement_inside}
use Rattle.c_parser.specs.UnitReaders.{no_declarator, completed, further, declarators_behind, declaration, definition, behind_declarator, behind_specifiers, external}
use Rattle.c_parser_theorems.proofs.complete_units.Blocks.{block_found}

-- ---- what declarators at file scope take and begin with

parameters_shrink : (known : List (List ℕ)) (x : ParametersView) (ts rest : List Terminal) → Parameters known x ts rest → length rest ≤ length ts
parameters_shrink known NoParameters ts rest same = let here : rest ≡ ts = same in rw here (omega arith)
parameters_shrink known OnlyVoid ts rest is = let h = word_takes ts rest is in omega arith
parameters_shrink known (ParameterList xs) ts rest d = let h = listed_few (IsParameter known) (parameter_takes known) xs ts rest d.1 in omega arith

function_takes : (known : List (List ℕ)) (f : FunctionDeclaratorView) (ts rest : List Terminal) → IsFunction known f ts rest → length rest + 1 ≤ length ts
function_takes known f ts rest is =
    let one = stars_few f.stars ts is.behind_stars is.stars in
    let two = name_takes f.name is.behind_stars is.behind_name is.name in
    let three = length_behind is.behind_name is.inside is.opens in
    let four = parameters_shrink known f.parameters is.inside is.last is.parameters in
    let five = length_behind is.last rest is.closes in
    omega arith

declared_takes : (known : List (List ℕ)) (d : InitDeclaratorView) (ts rest : List Terminal) → IsDeclared known d ts rest → length rest + 1 ≤ length ts
declared_takes known (Object d) ts rest is = named_takes known d ts rest is
declared_takes known (Initialized d at i) ts rest is = named_takes known d ts rest is
declared_takes known (Prototype f) ts rest is = function_takes known f ts rest is

initialized_shrinks : (known : List (List ℕ)) (d : InitDeclaratorView) (ts rest : List Terminal) → IsInitialized known d ts rest → length rest ≤ length ts
initialized_shrinks known (Object d) ts rest same = let here : rest ≡ ts = same in rw here (omega arith)
initialized_shrinks known (Initialized d at i) ts rest (place, a, sign, is) = let one = length_behind ts a sign in let two = initializer_takes known i a rest is in omega arith
initialized_shrinks known (Prototype f) ts rest same = let here : rest ≡ ts = same in rw here (omega arith)

file_takes : (gives : Bool) (known : List (List ℕ)) (d : InitDeclaratorView) (ts rest : List Terminal) → IsFileDeclarator gives known d ts rest → length rest + 1 ≤ length ts
file_takes gives known d ts rest is =
    let one = declared_takes known d ts is.behind is.declarator in
    let two = initialized_shrinks (with_declared gives known d) d is.behind rest is.initializer in
    omega arith

function_begins : (known : List (List ℕ)) (f : FunctionDeclaratorView) (ts rest : List Terminal) → IsFunction known f ts rest → begins_declarator known ts ≡ true
function_begins known f ts rest is = by f.stars is.stars is.name
  where
    by : (qs : List ℕ) → Stars qs ts is.behind_stars → IsName known f.name.at f.name.text is.behind_stars is.behind_name → begins_declarator known ts ≡ true
    by [] same name = let here : is.behind_stars ≡ ts = same in let named : IsName known f.name.at f.name.text ts is.behind_name = rw here at name in rw (named.symbol, named.other) refl
    by (q ∷ qs) (a, star, more) name = rw star.star.symbol refl

declared_begins : (known : List (List ℕ)) (d : InitDeclaratorView) (ts rest : List Terminal) → IsDeclared known d ts rest → begins_declarator known ts ≡ true
declared_begins known (Object d) ts rest is = declarator_begins known d ts rest is.derives
declared_begins known (Initialized d at i) ts rest is = declarator_begins known d ts rest is.derives
declared_begins known (Prototype f) ts rest is = function_begins known f ts rest is

begins_semicolon : (x : Symbol) (named : Bool) → (is_declarator_sign x || (is_identifier x && not named)) ≡ true → is_semicolon x ≡ false
begins_semicolon (symbol.Punctuator p.Semicolon) named is = absurd (cc is)
begins_semicolon _ named is = refl

no_semicolon : (known : List (List ℕ)) (ts : List Terminal) → begins_declarator known ts ≡ true → is_semicolon (first_symbol ts) ≡ false
no_semicolon known ts is = begins_semicolon (first_symbol ts) (is_typedef known (first_text ts)) is

-- ---- what stands behind them

declared_end : (x : Symbol) → is_comma_or_semicolon x ≡ true → is_end x ≡ true
declared_end (symbol.Punctuator p.Comma) is = refl
declared_end (symbol.Punctuator p.Semicolon) is = refl
declared_end _ is = absurd (cc is)

end_brace : (x : Symbol) → is_end x ≡ true → is_left_brace x ≡ false
end_brace (symbol.Punctuator p.LeftBrace) is = absurd (cc is)
end_brace _ is = refl

behind_ends : (known : List (List ℕ)) (d : InitDeclaratorView) (ts rest : List Terminal) → IsInitialized known d ts rest → DeclaredEnds rest → DeclaratorEnds ts
behind_ends known (Object d) ts rest same ends = let here : rest ≡ ts = same in let ends-at : DeclaredEnds ts = rw here at ends in declared_end (first_symbol ts) ends-at
behind_ends known (Initialized d at i) ts rest (place, a, sign, is) ends = rw sign.symbol refl
behind_ends known (Prototype f) ts rest same ends = let here : rest ≡ ts = same in let ends-at : DeclaredEnds ts = rw here at ends in declared_end (first_symbol ts) ends-at

bare_ends : (d : InitDeclaratorView) (ts : List Terminal) → DeclaratorEnds ts → BareEnds d ts
bare_ends (Object d) ts end = end
bare_ends (Initialized d at i) ts end = end
bare_ends (Prototype f) ts end = tt

semicolon_ends : (ts rest : List Terminal) → IsSign p.Semicolon ts rest → DeclaredEnds ts
semicolon_ends ts rest semi = rw semi.symbol refl

further_ends : (gives : Bool) (ds : List InitDeclaratorView) (known : List (List ℕ)) (ts last rest : List Terminal) → Further gives ds known ts last → IsSign p.Semicolon last rest → DeclaredEnds ts
further_ends gives [] known ts last rest same semi = let here : last ≡ ts = same in semicolon_ends ts rest (rw here at semi)
further_ends gives (d ∷ ds) known ts last rest (a, c, comma, is, more) semi = rw comma.symbol refl

-- ---- one declarator with its initializer

bare_low : (d : InitDeclaratorView) → init_height (bare d) ≤ init_height d
bare_low (Object d) = omega arith
bare_low (Initialized d at i) = omega arith
bare_low (Prototype f) = omega arith

bare_names : (gives : Bool) (known : List (List ℕ)) (d : InitDeclaratorView) → with_declared gives known (bare d) ≡ with_declared gives known d
bare_names true known (Object d) = refl
bare_names true known (Initialized d at i) = refl
bare_names true known (Prototype f) = refl
bare_names false known d = refl

-- what the reader of declarators answers, without the initializer
abbrev Bare : InitDeclaratorView → List Terminal → GotItem InitDeclaratorView
Bare d ts = item_of (bare d) (init_height (bare d)) ts

first_read : (gives : Bool) (b : ℕ) (known : List (List ℕ)) (d : InitDeclaratorView) (ts rest : List Terminal) (is : IsFileDeclarator gives known d ts rest) → DeclaredEnds rest → init_height d ≤ b → b + length ts < 4294967295 → file_declarator known b ts ≡ Some (Bare d is.behind)
first_read gives b known d ts rest is ends small room =
    let low = bare_low d in
    let end = behind_ends (with_declared gives known d) d is.behind rest is.initializer ends in
    bare_found known b d ts is.behind is.declarator (bare_ends d is.behind end) (omega arith) room

completed_read : (gives : Bool) (b : ℕ) (known : List (List ℕ)) (more : List (List ℕ) → Item (List InitDeclaratorView)) (d : InitDeclaratorView) (ds : List InitDeclaratorView) (h : ℕ) (ts rest last : List Terminal) → IsInitialized (with_declared gives known d) d ts rest → DeclaredEnds rest → init_height d ≤ b →
    more (with_declared gives known d) rest ≡ Some (item_of ds h last) → completed gives b known more (Bare d ts) ≡ Some (item_of (d ∷ ds) (max (init_height d) h) last)
completed_read gives b known more d ds h ts rest last is ends small tail =
    let one = initialized_found (with_declared gives known d) b d ts rest is ends small in
    let first : completed gives b known more (Bare d ts) ≡ after_item (initialized (with_declared gives known d) b (Bare d ts)) (λ x. after_item (more (with_declared gives known d) x.rest) (one_more x)) =
    ap (λ (names : List (List ℕ)). after_item (initialized names b (Bare d ts)) (λ x. after_item (more names x.rest) (one_more x))) (bare_names gives known d) in
    let second : after_item (initialized (with_declared gives known d) b (Bare d ts)) (λ x. after_item (more (with_declared gives known d) x.rest) (one_more x)) ≡ after_item (more (with_declared gives known d) rest) (one_more (item_of d (init_height d) rest)) =
    ap (λ (v : Option (GotItem InitDeclaratorView)). after_item v (λ x. after_item (more (with_declared gives known d) x.rest) (one_more x))) one in
    let third : after_item (more (with_declared gives known d) rest) (one_more (item_of d (init_height d) rest)) ≡ Some (item_of (d ∷ ds) (max (init_height d) h) last) =
    ap (λ (v : Option (GotItem (List InitDeclaratorView))). after_item v (one_more (item_of d (init_height d) rest))) tail in
    first ∙ second ∙ third

no_more : (ts rest : List Terminal) → IsSign p.Semicolon ts rest → no_declarator ts ≡ Some (item_of [] 0 rest)
no_more ts rest semi = rw (semi.symbol, semi.behind) refl

further_read : (gives : Bool) (b : ℕ) (ds : List InitDeclaratorView) (known : List (List ℕ)) (turns : ℕ) (ts last rest : List Terminal) → Further gives ds known ts last → IsSign p.Semicolon last rest → highest init_height ds ≤ b → b + length ts < 4294967295 → length ds ≤ turns →
    further gives b turns known ts ≡ Some (item_of ds (highest init_height ds) rest)
further_read gives b [] known zero ts last rest same semi small room enough = let here : last ≡ ts = same in no_more ts rest (rw here at semi)
further_read gives b [] known (suc turns) ts last rest same semi small room enough =
    let here : last ≡ ts = same in
    let semi-at : IsSign p.Semicolon ts rest = rw here at semi in
    let off : is_comma (first_symbol ts) ≡ false = rw semi-at.symbol refl in
    let one = no_more ts rest semi-at in
    rw off one
further_read gives b (d ∷ ds) known zero ts last rest all semi small room enough = absurd (omega arith)
further_read gives b (d ∷ ds) known (suc turns) ts last rest (a, c, comma, is, more) semi small room enough =
    let opening = length_behind ts a comma in
    let take = file_takes gives known d a c is in
    let ends = further_ends gives ds (with_declared gives known d) c last rest more semi in
    let first : file_declarator known b (behind_first ts) ≡ Some (Bare d is.behind) = rw comma.behind at (first_read gives b known d a c is ends (omega arith) (omega arith)) in
    let tail = further_read gives b ds (with_declared gives known d) turns c last rest more semi (omega arith) (omega arith) (omega arith) in
    let whole = completed_read gives b known (further gives b turns) d ds (highest init_height ds) is.behind c rest is.initializer ends (omega arith) tail in
    let yes : is_comma (first_symbol ts) ≡ true = rw comma.symbol refl in
    rw (yes, first) whole

further_few : (gives : Bool) (ds : List InitDeclaratorView) (known : List (List ℕ)) (ts last : List Terminal) → Further gives ds known ts last → length ds + length last ≤ length ts
further_few gives [] known ts last same = let here : last ≡ ts = same in rw here (omega arith)
further_few gives (d ∷ ds) known ts last (a, c, comma, is, more) =
    let opening = length_behind ts a comma in
    let take = file_takes gives known d a c is in
    let tail = further_few gives ds (with_declared gives known d) c last more in
    omega arith

-- ---- external declarations

-- what the reader of specifiers answers
abbrev Words : List SpecTree → List Terminal → GotItem SpecTrees
Words ws ts = item_of (spec_trees ws) (spec_height (spec_trees ws)) ts

nameless_read : (known : List (List ℕ)) (b : ℕ) (at : Place) (words : List SpecTree) (ts rest : List Terminal) → IsSign p.Semicolon ts rest → spec_height (spec_trees words) ≤ b → behind_specifiers b known at (Words words ts) ≡ Some (item_of (Declared at words []) (spec_height (spec_trees words) + 1) rest)
nameless_read known b at words ts rest semi small =
    let fits = below (spec_height (spec_trees words)) (suc b) (omega arith) in
    let back = words_back words in
    rw (semi.symbol, fits, semi.behind, back) refl

declaration_read : (known : List (List ℕ)) (b : ℕ) (at : Place) (words : List SpecTree) (d : InitDeclaratorView) (ds : List InitDeclaratorView) (ts a c last rest : List Terminal) (is : IsFileDeclarator (classes.is_typedef words) known d a c) → Further (classes.is_typedef words) ds (with_declared (classes.is_typedef words) known d) c last → IsSign p.Semicolon last rest → max (spec_height (spec_trees words)) (highest init_height (d ∷ ds)) ≤ b → b + length a < 4294967295 →
    declaration b known at (Words words a) (Bare d is.behind) ≡ Some (item_of (Declared at words (d ∷ ds)) (max (spec_height (spec_trees words)) (highest init_height (d ∷ ds)) + 1) rest)
declaration_read known b at words d ds ts a c last rest is more semi small room =
    let take = file_takes (classes.is_typedef words) known d a c is in
    let few = further_few (classes.is_typedef words) ds (with_declared (classes.is_typedef words) known d) c last more in
    let ends = further_ends (classes.is_typedef words) ds (with_declared (classes.is_typedef words) known d) c last rest more semi in
    let tail = further_read (classes.is_typedef words) b ds (with_declared (classes.is_typedef words) known d) (length c) c last rest more semi (omega arith) (omega arith) (omega arith) in
    let all : declarators_behind (classes.is_typedef words) b known (Bare d is.behind) ≡ Some (item_of (d ∷ ds) (highest init_height (d ∷ ds)) rest) =
    completed_read (classes.is_typedef words) b known (λ names v. further (classes.is_typedef words) b (length v) names v) d ds (highest init_height ds) is.behind c rest is.initializer ends (omega arith) tail in
    let back : classes.is_typedef (words_list (spec_trees words)) ≡ classes.is_typedef words = ap classes.is_typedef (words_back words) in
    let all-at : declarators_behind (classes.is_typedef (words_list (spec_trees words))) b known (Bare d is.behind) ≡ Some (item_of (d ∷ ds) (highest init_height (d ∷ ds)) rest) = ap (λ (gives : Bool). declarators_behind gives b known (Bare d is.behind)) back ∙ all in
    let fits = below (max (spec_height (spec_trees words)) (highest init_height (d ∷ ds))) (suc b) (omega arith) in
    let words-are = words_back words in
    rw (all-at, fits, words-are) refl

definition_read : (known : List (List ℕ)) (b : ℕ) (at : Place) (words : List SpecTree) (f : FunctionDeclaratorView) (body : List StatementTree) (a c rest : List Terminal) → IsBlock (with_declared (classes.is_typedef words) known (Prototype f)) (statement_trees body) c rest → max (max (spec_height (spec_trees words)) (function_height f)) (block_height (statement_trees body)) ≤ b → b + length c < 4294967295 →
    definition b known at (Words words a) (item_of (Prototype f) (function_height f) c) ≡ Some (item_of (Defined at words f body) (max (max (spec_height (spec_trees words)) (function_height f)) (block_height (statement_trees body)) + 1) rest)
definition_read known b at words f body a c rest is small room =
    let back : with_declared (classes.is_typedef (words_list (spec_trees words))) known (Prototype f) ≡ with_declared (classes.is_typedef words) known (Prototype f) = ap (λ (ws : List SpecTree). with_declared (classes.is_typedef ws) known (Prototype f)) (words_back words) in
    let all = block_found (with_declared (classes.is_typedef words) known (Prototype f)) b body c rest is (omega arith) room in
    let all-at : block (with_declared (classes.is_typedef (words_list (spec_trees words))) known (Prototype f)) b (statement_inside (with_declared (classes.is_typedef (words_list (spec_trees words))) known (Prototype f)) b) c ≡ Some (item_of body (block_height (statement_trees body)) rest) =
    ap (λ (names : List (List ℕ)). block names b (statement_inside names b) c) back ∙ all in
    let fits = below (max (max (spec_height (spec_trees words)) (function_height f)) (block_height (statement_trees body))) (suc b) (omega arith) in
    let words-are = words_back words in
    rw (all-at, fits, words-are) refl

-- what is read behind specifiers, with a declarator
named_read : (known : List (List ℕ)) (b : ℕ) (at : Place) (words : List SpecTree) (ts : List Terminal) (d : GotItem InitDeclaratorView) → begins_declarator known ts ≡ true → file_declarator known b ts ≡ Some d → behind_specifiers b known at (Words words ts) ≡ behind_declarator b known at (Words words ts) d
named_read known b at words ts d begins one =
    let off = no_semicolon known ts begins in
    rw (off, one) refl

external_read : (known : List (List ℕ)) (b : ℕ) (words : List SpecTree) (ts a : List Terminal) → IsSpec known (spec_trees words) ts a → SpecEnds known a → spec_height (spec_trees words) ≤ b → b + length ts < 4294967295 → external known (suc b) ts ≡ behind_specifiers b known (first_place ts) (Words words a)
external_read known b words ts a spec ends small room =
    let one = specifiers_found known b (spec_trees words) ts a spec ends small room in
    rw one refl

external_at : (known : List (List ℕ)) (b : ℕ) (e : ExternalTree) (ts rest : List Terminal) → IsExternal known e ts rest → external_height e ≤ suc b → b + length ts < 4294967295 → external known (suc b) ts ≡ Some (item_of e (external_height e) rest)
external_at known b (Declared at words []) ts rest (place, a, c, spec, same, semi) small room =
    let here : c ≡ a = same in
    let semi-at : IsSign p.Semicolon a rest = rw here at semi in
    let end : DeclaratorEnds a = rw semi-at.symbol refl in
    let first = external_read known b words ts a spec (end_ends_words known a end) (omega arith) room in
    let second = nameless_read known b (first_place ts) words a rest semi-at (omega arith) in
    let alone : max (spec_height (spec_trees words)) 0 ≡ spec_height (spec_trees words) = omega arith in
    first ∙ second ∙ rw (alone, place) refl
external_at known b (Declared at words (d ∷ ds)) ts rest (place, a, c, spec, (f, is, more), semi) small room =
    let begins = declared_begins known d a is.behind is.declarator in
    let take = spec_takes known (spec_trees words) ts a spec in
    let ends = further_ends (classes.is_typedef words) ds (with_declared (classes.is_typedef words) known d) f c rest more semi in
    let first = external_read known b words ts a spec (declarator_ends_words known a begins) (omega arith) room in
    let one = first_read (classes.is_typedef words) b known d a f is ends (omega arith) (omega arith) in
    let second = named_read known b (first_place ts) words a (Bare d is.behind) begins one in
    let off = end_brace (first_symbol is.behind) (behind_ends (with_declared (classes.is_typedef words) known d) d is.behind f is.initializer ends) in
    let third : behind_declarator b known (first_place ts) (Words words a) (Bare d is.behind) ≡ declaration b known (first_place ts) (Words words a) (Bare d is.behind) = rw off refl in
    let fourth = declaration_read known b (first_place ts) words d ds ts a f c rest is more semi (omega arith) (omega arith) in
    first ∙ second ∙ third ∙ fourth ∙ rw place refl
external_at known b (Defined at words f body) ts rest (place, a, c, spec, is, block-is) small room =
    let begins = function_begins known f a c is in
    let take = spec_takes known (spec_trees words) ts a spec in
    let take-too = function_takes known f a c is in
    let first = external_read known b words ts a spec (declarator_ends_words known a begins) (omega arith) room in
    let one = prototype_found known b f a c is (omega arith) (omega arith) in
    let second = named_read known b (first_place ts) words a (item_of (Prototype f) (function_height f) c) begins one in
    let brace : is_left_brace (first_symbol c) ≡ true = rw block-is.opens.symbol refl in
    let third : behind_declarator b known (first_place ts) (Words words a) (item_of (Prototype f) (function_height f) c) ≡ definition b known (first_place ts) (Words words a) (item_of (Prototype f) (function_height f) c) = rw brace refl in
    let fourth = definition_read known b (first_place ts) words f body a c rest block-is (omega arith) (omega arith) in
    first ∙ second ∙ third ∙ fourth ∙ rw place refl

pub external_found : (known : List (List ℕ)) (b : ℕ) (e : ExternalTree) (ts rest : List Terminal) → IsExternal known e ts rest → external_height e ≤ b → b + length ts < 4294967295 → external known b ts ≡ Some (item_of e (external_height e) rest)
external_found known zero e ts rest is small room = absurd (low e small)
  where
    low : (e : ExternalTree) → external_height e ≤ 0 → ⊥
    low (Declared at words ds) small = omega arith
    low (Defined at words f body) small = omega arith
external_found known (suc b) e ts rest is small room = external_at known b e ts rest is small (omega arith)
