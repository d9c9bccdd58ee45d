-- Declarators with their initializers, and declarations in blocks, are found.
use Rattle.std.proofs.Common.{◌≡◌, ℕ, zero, suc, ◌+◌, ◌≤◌, ◌<◌, Bool, true, false, ◌&&◌, ◌||◌, not, max, List, [], ◌∷◌, ◌⊎◌, inl, inr, length, Option, Some, None, is_some, refl, arith, ap, ◌∙◌, sym}
use Rattle.std.specs.List.{list_all}
use Rattle.cc_base.specs.declared.diagnostics.Place.{Place}
use Rattle.c_layout.specs.DeclarationTrees.{NameView, DeclaratorLayerView, DeclaratorView, SpecTree, InitializerTree, FunctionDeclaratorView, InitDeclaratorView, Object, Initialized, Prototype, LocalView, spec_trees}
use Rattle.c_parser_tokens.specs.declared.terminals.Punctuator.TheVariants as p
use Rattle.c_parser_tokens.specs.declared.terminals.Symbol.{Symbol}
use Rattle.c_parser_tokens.specs.declared.terminals.Symbol.TheVariants as symbol
use Rattle.c_parser_tokens.specs.declared.terminals.Terminal.{Terminal}
use Rattle.c_parser_expression_grammar.specs.Fronts.{first_symbol, first_place, first_text, behind_first, is_identifier, is_typedef, is_identifier_first, IsSign}
use Rattle.c_parser_declarations.specs.Grammar.Declarations.{is_declarator_sign, begins_declarator, IsFunction, function_height, IsDeclared, IsInitialized, bare, init_height, local_init_height, is_object, IsLocalDeclarator, is_local_word, LocalDeclarators, IsLocal, local_height}
use Rattle.c_parser_declarations.specs.Grammar.Declarators.{Shape, declarator_height}
use Rattle.c_parser_declarations.specs.Grammar.Initializers.{DeriveInitializer, initializer_height}
use Rattle.c_parser_declarations.specs.Grammar.Lists.{Listed, highest}
use Rattle.c_parser_declarations.specs.Grammar.Specifiers.{IsNamed, IsSpec, spec_height}
use Rattle.c_parser_theorems.proofs.unique_expressions.Levels.{below}
use Rattle.c_parser_expression_grammar.specs.Readings.{is_left_parenthesis}
use Rattle.c_parser_expression_grammar.specs.TypeNameReaders.{stars}
use Rattle.c_parser_theorems.proofs.complete_expressions.Shrinking.{length_behind}
use Rattle.c_parser_theorems.proofs.complete_expressions.Stars.{stars_are, stars_few}
use Rattle.c_parser_theorems.specs.CompleteDeclarations.Found.{InitializerEnds, is_end, DeclaratorEnds, SpecEnds, is_comma_or_semicolon, DeclaredEnds, FindsFileDeclarators}
use Rattle.c_parser_declarations.specs.Grammar.Items.{item_of}
use Rattle.c_parser_declarations.specs.Grammar.DeclarationReaders.{file_declarator, assigned, assigned_inside, initialized, with_initializer, local_declarator, local_declarators, local_specifiers, local_of, local_declaration}
use Rattle.c_parser_declarations.specs.Grammar.ParameterReaders.{words_list}
use Rattle.c_parser_declarations.specs.Grammar.SpecifierReaders.{is_assign, is_semicolon}
use Rattle.c_parser_theorems.proofs.complete_declarations.Beginnings.{declarator_ends_words, end_ends_words}
use Rattle.c_parser_theorems.proofs.complete_declarations.Declarators.{chain_behind, stars_read, opening_star}
use Rattle.c_parser_theorems.proofs.complete_declarations.Enumerators.{identifier_first}
use Rattle.c_parser_theorems.proofs.complete_declarations.Initializers.{initializer_found, initializer_takes}
use Rattle.c_parser_theorems.proofs.complete_declarations.Lists.{ReadsItem, TakesOne, all_read, listed_few, listed_read}
use Rattle.c_parser_theorems.proofs.complete_declarations.Named.{Roomy, roomy, named_takes, named_found, declarator_begins}
use Rattle.c_parser_theorems.proofs.complete_declarations.Parameters.{words_back, spec_takes, function_found}
use Rattle.c_parser_theorems.proofs.complete_declarations.Specifiers.{specifiers_found}

-- ---- declarators without initializers

abbrev calls : List (List ℕ) → List Terminal → Bool
calls known ts = is_identifier_first known ts && is_left_parenthesis (first_symbol (behind_first ts))

-- behind the name of an object no `(` stands
no_function : (known : List (List ℕ)) (layers : List DeclaratorLayerView) (name : Option NameView) (ts rest : List Terminal) → Shape layers known name ts rest → is_some name ≡ true → DeclaratorEnds rest → calls known (stars (length ts) ts).rest ≡ false
no_function known [] name ts rest d some end = absurd d
no_function known (layer ∷ []) None ts rest d some end = absurd (cc some)
no_function known (layer ∷ []) (Some n) ts rest (fine, a, c, qs, is, arrays) some end =
    let one = stars_read layer ts a qs (record { star = rw is.symbol refl; qualifier = rw is.symbol refl }) in
    let first = identifier_first n a c is in
    let off : is_left_parenthesis (first_symbol (behind_first a)) ≡ false = rw is.behind at (chain_behind known layer.arrays c rest arrays end).no_parenthesis in
    rw (one, first, off) refl
no_function known (layer ∷ (next ∷ inner)) name ts rest (a, c, d, e, qs, opens, inside-is, shut, arrays) some end =
    let one = stars_read layer ts a qs (opening_star opens) in
    rw (one, opens.symbol) refl

pub object_found : (known : List (List ℕ)) (b : ℕ) (d : DeclaratorView) (ts rest : List Terminal) → IsNamed known d ts rest → DeclaratorEnds rest → declarator_height d ≤ b → b + length ts < 4294967295 →
    file_declarator known b ts ≡ Some (item_of (Object d) (declarator_height d) rest)
object_found known b d ts rest is end small room =
    let off = no_function known d.layers d.name ts rest is.derives is.named end in
    let one = named_found known b d ts rest (is, room) end (omega arith) in
    rw (off, one) refl

pub prototype_found : (known : List (List ℕ)) (b : ℕ) (f : FunctionDeclaratorView) (ts rest : List Terminal) → IsFunction known f ts rest → function_height f ≤ b → b + length ts < 4294967295 →
    file_declarator known b ts ≡ Some (item_of (Prototype f) (function_height f) rest)
prototype_found known b f ts rest is small room =
    let few = stars_few f.stars ts is.behind_stars is.stars in
    let one = stars_are f.stars (length ts) ts is.behind_stars is.stars (record { star = rw is.name.symbol refl; qualifier = rw is.name.symbol refl }) (omega arith) in
    let first = identifier_first f.name is.behind_stars is.behind_name is.name in
    let opens : IsSign p.LeftParenthesis (behind_first is.behind_stars) is.inside = rw is.name.behind at is.opens in
    let calls-at : calls known is.behind_stars ≡ true = rw (first, opens.symbol) refl in
    let two = function_found known b f ts rest is small (omega arith) in
    rw (one, calls-at, two) refl

-- ---- initializers

declared_end : (x : Symbol) → is_comma_or_semicolon x ≡ true → is_end x ≡ true
declared_end (symbol.Punctuator p.Comma) is = refl
declared_end (symbol.Punctuator p.Semicolon) is = refl
declared_end _ is = absurd (cc is)

declared_signs : (x : Symbol) → is_comma_or_semicolon x ≡ true → (x ≡ symbol.Punctuator p.Comma) ⊎ (x ≡ symbol.Punctuator p.Semicolon)
declared_signs (symbol.Punctuator p.Comma) is = inl refl
declared_signs (symbol.Punctuator p.Semicolon) is = inr refl
declared_signs _ is = absurd (cc is)

declared_value : (rest : List Terminal) → DeclaredEnds rest → InitializerEnds rest
declared_value rest ends = by (declared_signs (first_symbol rest) ends)
  where
    by : (first_symbol rest ≡ symbol.Punctuator p.Comma) ⊎ (first_symbol rest ≡ symbol.Punctuator p.Semicolon) → InitializerEnds rest
    by (inl at) = rw at (omega arith)
    by (inr at) = rw at (omega arith)

declared_assign : (x : Symbol) → is_comma_or_semicolon x ≡ true → is_assign x ≡ false
declared_assign (symbol.Punctuator p.Assign) is = absurd (cc is)
declared_assign _ is = refl

assigned_found : (known : List (List ℕ)) (b : ℕ) (d : DeclaratorView) (at : Place) (i : InitializerTree) (h : ℕ) (ts rest : List Terminal) → IsInitialized known (Initialized d at i) ts rest → InitializerEnds rest → initializer_height i ≤ b →
    assigned known b d h ts ≡ Some (item_of (Initialized d at i) (max h (initializer_height i)) rest)
assigned_found known b d at i h ts rest (place, a, sign, is) ends small =
    let from : DeriveInitializer i known (behind_first ts) rest = rw sign.behind at is in
    let one = initializer_found known i b (behind_first ts) rest from ends (omega arith) in
    rw (sign.symbol, one, place) refl

assigned_within : (known : List (List ℕ)) (b : ℕ) (d : DeclaratorView) (at : Place) (i : InitializerTree) (h : ℕ) (ts rest : List Terminal) → IsInitialized known (Initialized d at i) ts rest → InitializerEnds rest → initializer_height i < b →
    assigned_inside known b d h ts ≡ Some (item_of (Initialized d at i) (max h (initializer_height i)) rest)
assigned_within known zero d at i h ts rest is ends small = absurd (omega arith)
assigned_within known (suc b) d at i h ts rest is ends small = assigned_found known b d at i h ts rest is ends (omega arith)

pub initialized_found : (known : List (List ℕ)) (b : ℕ) (d : InitDeclaratorView) (ts rest : List Terminal) → IsInitialized known d ts rest → DeclaredEnds rest → init_height d ≤ b →
    initialized known b (item_of (bare d) (init_height (bare d)) ts) ≡ Some (item_of d (init_height d) rest)
initialized_found known b (Object d) ts rest same ends small =
    let here : rest ≡ ts = same in
    let off : is_assign (first_symbol ts) ≡ false = rw here at (declared_assign (first_symbol rest) ends) in
    rw (off, here) refl
initialized_found known b (Initialized d at i) ts rest is ends small =
    let one = assigned_within known b d at i (declarator_height d) ts rest is (declared_value rest ends) (omega arith) in
    let fits = below (max (declarator_height d) (initializer_height i)) b (omega arith) in
    rw (is.2.symbol, one, fits) refl
initialized_found known b (Prototype f) ts rest same ends small =
    let here : rest ≡ ts = same in
    let off : is_assign (first_symbol ts) ≡ false = rw here at (declared_assign (first_symbol rest) ends) in
    rw (off, here) refl

-- ---- declarators in blocks

assign_end : (ts rest : List Terminal) → IsSign p.Assign ts rest → DeclaratorEnds ts
assign_end ts rest is = rw is.symbol refl

local_read : (known : List (List ℕ)) (b : ℕ) (x : InitDeclaratorView) (ts a rest : List Terminal) → is_object x ≡ true → IsDeclared known x ts a → IsInitialized known x a rest → DeclaredEnds rest → local_init_height x ≤ b → b + length ts < 4294967295 →
    local_declarator known b ts ≡ Some (item_of x (local_init_height x) rest)
local_read known b (Object d) ts a rest object is same ends small room =
    let here : rest ≡ a = same in
    let ends-at : DeclaredEnds a = rw here at ends in
    let one = named_found known b d ts a (is, room) (declared_end (first_symbol a) ends-at) (omega arith) in
    let off = declared_assign (first_symbol a) ends-at in
    rw (one, off, here) refl
local_read known b (Initialized d at i) ts a rest object is init ends small room =
    let one = named_found known b d ts a (is, room) (assign_end a init.1 init.2) (omega arith) in
    let two = assigned_found known b d at i (declarator_height d) a rest init (declared_value rest ends) (omega arith) in
    let first : local_declarator known b ts ≡ with_initializer known b (item_of d (declarator_height d) a) = rw one refl in
    let second : with_initializer known b (item_of d (declarator_height d) a) ≡ assigned known b d (declarator_height d) a = rw init.2.symbol refl in
    first ∙ second ∙ two
local_read known b (Prototype f) ts a rest object is init ends small room = absurd (cc object)

local_found : (known : List (List ℕ)) (b : ℕ) (x : InitDeclaratorView) → ReadsItem (Roomy b (IsLocalDeclarator known)) DeclaredEnds local_init_height (suc b) (local_declarator known b) x
local_found known b x ts rest (is, room) ends small = local_read known b x ts is.initializes.behind rest is.object is.initializes.declarator is.initializes.initializer ends (omega arith) room

pub local_takes : (known : List (List ℕ)) → TakesOne (IsLocalDeclarator known)
local_takes known x ts rest is = by x is.object is.initializes.declarator is.initializes.initializer
  where
    by : (x : InitDeclaratorView) → is_object x ≡ true → IsDeclared known x ts is.initializes.behind → IsInitialized known x is.initializes.behind rest → length rest + 1 ≤ length ts
    by (Object d) object named same = let here : rest ≡ is.initializes.behind = same in let h = named_takes known d ts is.initializes.behind named in rw here h
    by (Initialized d at i) object named (place, a, sign, init) =
        let h = named_takes known d ts is.initializes.behind named in
        let s = length_behind is.initializes.behind a sign in
        let t = initializer_takes known i a rest init in
        omega arith
    by (Prototype f) object named same = absurd (cc object)

local_begins : (known : List (List ℕ)) (x : InitDeclaratorView) (ts rest : List Terminal) → IsLocalDeclarator known x ts rest → begins_declarator known ts ≡ true
local_begins known x ts rest is = by x is.object is.initializes.declarator
  where
    by : (x : InitDeclaratorView) → is_object x ≡ true → IsDeclared known x ts is.initializes.behind → begins_declarator known ts ≡ true
    by (Object d) object named = declarator_begins known d ts is.initializes.behind named.derives
    by (Initialized d at i) object named = declarator_begins known d ts is.initializes.behind named.derives
    by (Prototype f) object named = absurd (cc object)

locals_begin : (known : List (List ℕ)) (x : InitDeclaratorView) (xs : List InitDeclaratorView) (ts rest : List Terminal) → Listed (IsLocalDeclarator known) (x ∷ xs) ts rest → begins_declarator known ts ≡ true
locals_begin known x [] ts rest d = local_begins known x ts rest d
locals_begin known x (y ∷ ys) ts rest (a, c, one, comma, more) = local_begins known x ts a one

begins_semicolon : (x : Symbol) (named : Bool) → (is_declarator_sign x || (is_identifier x && not named)) ≡ true → is_semicolon x ≡ false
begins_semicolon (symbol.Punctuator p.Semicolon) named is = absurd (cc is)
begins_semicolon _ named is = refl

declared_comma : (a b : List Terminal) → IsSign p.Comma a b → DeclaredEnds a
declared_comma a b comma = rw comma.symbol refl

local_declarators_found : (known : List (List ℕ)) (b : ℕ) (ds : List InitDeclaratorView) (ts last rest : List Terminal) → LocalDeclarators known ds ts last → IsSign p.Semicolon last rest → highest local_init_height ds ≤ b → b + length ts < 4294967295 →
    local_declarators known b ts ≡ Some (item_of ds (highest local_init_height ds) rest)
local_declarators_found known b [] ts last rest same semi small room =
    let here : last ≡ ts = same in
    let semi-at : IsSign p.Semicolon ts rest = rw here at semi in
    rw (semi-at.symbol, semi-at.behind) refl
local_declarators_found known b (x ∷ xs) ts last rest d semi small room =
    let off = begins_semicolon (first_symbol ts) (is_typedef known (first_text ts)) (locals_begin known x xs ts last d) in
    let few = listed_few (IsLocalDeclarator known) (local_takes known) (x ∷ xs) ts last d in
    let from = roomy b (IsLocalDeclarator known) (local_takes known) (x ∷ xs) ts last d room in
    let ends : DeclaredEnds last = rw semi.symbol refl in
    let one = listed_read (Roomy b (IsLocalDeclarator known)) DeclaredEnds local_init_height (suc b) (local_declarator known b) declared_comma (x ∷ xs) (all_read (Roomy b (IsLocalDeclarator known)) DeclaredEnds local_init_height (suc b) (local_declarator known b) (local_found known b) (x ∷ xs)) (length ts) ts last from ends (rw semi.symbol refl) (omega arith) (omega arith) in
    rw (off, one, semi.symbol, semi.behind) refl

-- ---- declarations in blocks

semicolon_end : (ts rest : List Terminal) → IsSign p.Semicolon ts rest → DeclaratorEnds ts
semicolon_end ts rest semi = rw semi.symbol refl

local_ends_words : (known : List (List ℕ)) (ds : List InitDeclaratorView) (ts last rest : List Terminal) → LocalDeclarators known ds ts last → IsSign p.Semicolon last rest → SpecEnds known ts
local_ends_words known [] ts last rest same semi = let here : last ≡ ts = same in end_ends_words known ts (semicolon_end ts rest (rw here at semi))
local_ends_words known (x ∷ xs) ts last rest d semi = declarator_ends_words known ts (locals_begin known x xs ts last d)

local_specifiers_found : (known : List (List ℕ)) (b : ℕ) (ws : List SpecTree) (ts rest : List Terminal) → IsSpec known (spec_trees ws) ts rest → list_all is_local_word ws ≡ true → SpecEnds known rest → spec_height (spec_trees ws) ≤ b → b + length ts < 4294967295 →
    local_specifiers known b ts ≡ Some (item_of (spec_trees ws) (spec_height (spec_trees ws)) rest)
local_specifiers_found known b ws ts rest is local ends small room =
    let one = specifiers_found known b (spec_trees ws) ts rest is ends small room in
    let back : list_all is_local_word (words_list (spec_trees ws)) ≡ true = rw (words_back ws) local in
    rw (one, back) refl

local_is : (l : LocalView) (ts : List Terminal) → l.at ≡ first_place ts → local_of (first_place ts) (spec_trees l.words) l.declarators ≡ l
local_is l ts place = λ i. record { at = sym place i; words = words_back l.words i; declarators = l.declarators }

pub local_declaration_found : (known : List (List ℕ)) (b : ℕ) (l : LocalView) (ts rest : List Terminal) → IsLocal known l ts rest → local_height l ≤ b → b + length ts < 4294967295 →
    local_declaration known b ts ≡ Some (item_of l (local_height l) rest)
local_declaration_found known zero l ts rest is small room = absurd (omega arith)
local_declaration_found known (suc b) l ts rest is small room =
    let ends = local_ends_words known l.declarators is.behind is.last rest is.declarators is.ends in
    let takes = spec_takes known (spec_trees l.words) ts is.behind is.spec in
    let one = local_specifiers_found known b l.words ts is.behind is.spec is.local ends (omega arith) (omega arith) in
    let two = local_declarators_found known b l.declarators is.behind is.last rest is.declarators is.ends (omega arith) (omega arith) in
    let fits = below (max (spec_height (spec_trees l.words)) (highest local_init_height l.declarators)) (suc b) (omega arith) in
    rw (one, two, fits) (ap (λ (v : LocalView). Some (item_of v (local_height l) rest)) (local_is l ts is.place))

-- ---- what is found, as it is told

pub bare_found : (known : List (List ℕ)) (b : ℕ) → FindsFileDeclarators known b
bare_found known b (Object d) ts rest is end small room = object_found known b d ts rest is end small room
bare_found known b (Initialized d at i) ts rest is end small room = object_found known b d ts rest is end small room
bare_found known b (Prototype f) ts rest is end small room = prototype_found known b f ts rest is small room
