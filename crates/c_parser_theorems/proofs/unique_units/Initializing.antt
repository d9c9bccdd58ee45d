-- Initializers, parameters and declarators with initializers are fixed by their terminals and by what ends them.
use Rattle.std.proofs.Common.{◌≡◌, ℕ, Bool, true, false, ◌&&◌, ◌||◌, not, List, [], ◌∷◌, Option, Some, None, is_some, ◌⊎◌, inl, inr, refl, sym, ap, subst, ◌∙◌, arith}
use Rattle.c_layout.specs.SyntaxTrees.{Tree}
use Rattle.c_layout.specs.DeclarationTrees.{NameView, DeclaratorLayerView, DeclaratorView, StorageWord, Qualifier, StructTag, StructBody, EnumTag, EnumBody, TypedefName, InitializerTree, InitializerTrees, Single, Braces, NoInitializer, MoreInitializers, initializer_trees, SpecTree, TypeOf, ParameterView, ParametersView, NoParameters, OnlyVoid, ParameterList, FunctionDeclaratorView, InitDeclaratorView, Object, Initialized, Prototype, LocalView, NoWord, MoreWords, spec_trees}
use Rattle.c_layout.specs.declared.syntax_tree.declarations.TypeWord.TheVariants as type_word
use Rattle.c_parser_tokens.specs.declared.terminals.Terminal.{Terminal}
use Rattle.c_parser_tokens.specs.declared.terminals.Keyword.TheVariants as k
use Rattle.c_parser_tokens.specs.declared.terminals.Symbol.{Symbol}
use Rattle.c_parser_tokens.specs.declared.terminals.Symbol.TheVariants as symbol
use Rattle.c_parser_tokens.specs.declared.terminals.Punctuator.TheVariants as p
use Rattle.c_parser_expression_grammar.specs.Expressions.{Derives}
use Rattle.c_parser_expression_grammar.specs.Fronts.{first_symbol, first_place, first_text, behind_first, is_typedef, is_identifier, IsSign, IsWord, IsName}
use Rattle.c_parser_expression_grammar.specs.Spans.{Span, Trailed, Separated}
use Rattle.c_parser_expression_grammar.specs.TypeNames.{Stars}
use Rattle.c_parser_declarations.specs.Grammar.Declarators.{IsDeclarator, Shape}
use Rattle.c_parser_declarations.specs.Grammar.Declarations.{is_declarator_sign, begins_declarator, Optional, IsParameter, is_lone_void, is_only_void, is_void_type, Parameters, IsFunction, Initializes, bare, IsLocalDeclarator, LocalDeclarators, IsLocal}
use Rattle.c_parser_declarations.specs.Grammar.Initializers.{DeriveInitializer, DeriveItems}
use Rattle.c_parser_declarations.specs.Grammar.Lists.{Listed}
use Rattle.c_parser_declarations.specs.Grammar.Specifiers.{IsNamed, IsSpec, DeriveWord, DeriveWords}
use Rattle.c_parser_theorems.specs.UniqueExpressions.Endings.{EndsBefore}
use Rattle.c_parser_theorems.proofs.unique_expressions.Levels.{ends_at}
use Rattle.c_parser_theorems.proofs.unique_expressions.Reading.{is_comma}
use Rattle.c_parser_theorems.proofs.unique_expressions.Scanning.{NoStar, no_star, is_left_parenthesis}
use Rattle.c_parser_theorems.proofs.unique_expressions.WordReading.{OfType}
use Rattle.c_parser_theorems.proofs.unique_expressions.Unique.{one_expression}
use Rattle.c_parser_theorems.proofs.unique_units.Listing.{next, true_false, Fixes, AllFix, listed_fix, Rowed, rowed_fix, AtBrace, at_brace, is_right_brace}
use Rattle.c_parser_theorems.proofs.unique_units.Fronts.{names_fix, no_expression, is_end, Ends}
use Rattle.c_parser_theorems.proofs.unique_units.Declaring.{declarator_fix, ends_by, stars_fix, suffixes_front}
use Rattle.c_parser_theorems.proofs.unique_units.Specifying.{OfWord, OfNone, kind_at, kind_of, kind_is, no_word, NoWordAt, begins_no_word, declarator_begins, end_no_word, item_brace, item_ends, named_fix, spec_fix, spec_word}

-- ---- initializers

abbrev Initializer : List (List ℕ) → InitializerTree → List Terminal → List Terminal → Type 0
Initializer known i ts r = DeriveInitializer i known ts r

abbrev pub items_list : InitializerTrees → List InitializerTree
items_list NoInitializer = []
items_list (MoreInitializers i more) = i ∷ items_list more

trees_of_list : (items : InitializerTrees) → initializer_trees (items_list items) ≡ items
trees_of_list NoInitializer = refl
trees_of_list (MoreInitializers i more) = ap (λ (v : InitializerTrees). MoreInitializers i v) (trees_of_list more)

separated_row : (known : List (List ℕ)) (items : InitializerTrees) (spans : List Span) (ts r : List Terminal) → DeriveItems items known spans → Separated spans ts r → Rowed (Initializer known) (items_list items) ts r
separated_row known NoInitializer spans ts r none sep = rw none at sep
separated_row known (MoreInitializers i NoInitializer) spans ts r (s, others, parts, one, none) sep =
    let all : Separated (s ∷ []) ts r = rw none at (rw parts at sep) in
    (s.to, subst (λ (v : List Terminal). DeriveInitializer i known v s.to) (sym all.0) one, inl (refl, all.1))
separated_row known (MoreInitializers i (MoreInitializers j more)) spans ts r (s, others, parts, one, (t, further, parts-of, two, each)) sep =
    let all : Separated (s ∷ (t ∷ further)) ts r = rw parts-of at (rw parts at sep) in
    let rest : DeriveItems (MoreInitializers j more) known (t ∷ further) = (t, further, refl, two, each) in
    (s.to, subst (λ (v : List Terminal). DeriveInitializer i known v s.to) (sym all.1) one, inr (all.0, all.2, separated_row known (MoreInitializers j more) (t ∷ further) all.0 r rest all.3))

trailed_row : (known : List (List ℕ)) (items : InitializerTrees) (spans : List Span) (ts r : List Terminal) → DeriveItems items known spans → Trailed spans ts r → Rowed (Initializer known) (items_list items) ts r
trailed_row known NoInitializer spans ts r none sep = rw none at sep
trailed_row known (MoreInitializers i more) spans ts r (s, others, parts, one, each) sep =
    let all : Trailed (s ∷ others) ts r = rw parts at sep in
    (s.to, subst (λ (v : List Terminal). DeriveInitializer i known v s.to) (sym all.1) one, inr (all.0, all.2, trailed_row known more others all.0 r each all.3))

row : (known : List (List ℕ)) (items : InitializerTrees) (spans : List Span) (ts r : List Terminal) → DeriveItems items known spans → Separated spans ts r ⊎ Trailed spans ts r → Rowed (Initializer known) (items_list items) ts r
row known items spans ts r each (inl sep) = separated_row known items spans ts r each sep
row known items spans ts r each (inr all) = trailed_row known items spans ts r each all

-- what ends an initializer: a comma, a `}` or a `;`
abbrev pub EndsValue : List Terminal → Type 0
EndsValue r = EndsBefore 1 r

value_comma : (a b : List Terminal) → IsSign p.Comma a b → EndsValue a
value_comma a b comma = ends_at 1 comma (omega arith)

value_brace : (a : List Terminal) → AtBrace a → EndsValue a
value_brace a at = item_ends 1 a (omega arith) (item_brace a at)

brace_symbol : (x : Symbol) → is_right_brace x ≡ true → x ≡ symbol.Punctuator p.RightBrace
brace_symbol (symbol.Punctuator p.RightBrace) is = refl
brace_symbol _ is = cc

initializer_apart : (known : List (List ℕ)) (i : InitializerTree) (ts r : List Terminal) → DeriveInitializer i known ts r → EndsValue r → AtBrace ts → ⊥
initializer_apart known (Single e) ts r d er at = no_expression known 1 e ts r (symbol.Punctuator p.RightBrace) (brace_symbol (first_symbol ts) at) (λ self m low. refl) d er
initializer_apart known (Braces place items) ts r d er at = let h : false ≡ true = rw d.5.symbol at at in cc

no_brace_value : (known : List (List ℕ)) (e : Tree) (ts r a : List Terminal) → Derives e known 1 ts r → EndsValue r → IsSign p.LeftBrace ts a → ⊥
no_brace_value known e ts r a d er opens = no_expression known 1 e ts r (symbol.Punctuator p.LeftBrace) opens.symbol (λ self m low. refl) d er

mutual
  pub initializer_fix : (known : List (List ℕ)) (i : InitializerTree) → Fixes (Initializer known) EndsValue i
  initializer_fix known (Single x) (Single y) ts r s d er e es = let same = one_expression x y known 1 ts r s d er e es in (ap Single same.0, same.1)
  initializer_fix known (Single x) (Braces place items) ts r s d er e es = absurd (no_brace_value known x ts r e.3 d er e.5)
  initializer_fix known (Braces place items) (Single y) ts r s d er e es = absurd (no_brace_value known y ts s d.3 e es d.5)
  initializer_fix known (Braces at items) (Braces at-too others) ts r s (place, some, spans, a, b, opens, each, sep, shut) er (place-too, some-too, spans-too, c, d, opens-too, each-too, sep-too, shut-too) es =
      let from : Rowed (Initializer known) (items_list others) a d = subst (λ (v : List Terminal). Rowed (Initializer known) (items_list others) v d) (sym (next opens opens-too refl)) (row known others spans-too c d each-too sep-too) in
      let same = rowed_fix (Initializer known) EndsValue value_comma value_brace (initializer_apart known) (items_list items) (items_list others) (items_fix known items) a b d (row known items spans a b each sep) (at_brace shut) from (at_brace shut-too) in
      let all : items ≡ others = sym (trees_of_list items) ∙ ap initializer_trees same.0 ∙ trees_of_list others in
      (λ i. Braces ((place ∙ sym place-too) i) (all i), next shut shut-too same.1)

  pub items_fix : (known : List (List ℕ)) (items : InitializerTrees) → AllFix (Initializer known) EndsValue (items_list items)
  items_fix known NoInitializer = tt
  items_fix known (MoreInitializers i more) = (initializer_fix known i, items_fix known more)

-- ---- parameters

-- behind a parameter stands a comma or the `)`
abbrev is_comma_or_parenthesis : Symbol → Bool
is_comma_or_parenthesis (symbol.Punctuator p.Comma) = true
is_comma_or_parenthesis (symbol.Punctuator p.RightParenthesis) = true
is_comma_or_parenthesis _ = false

abbrev pub EndsParameter : List Terminal → Type 0
EndsParameter r = is_comma_or_parenthesis (first_symbol r) ≡ true

parameter_end : (x : Symbol) → is_comma_or_parenthesis x ≡ true → is_end x ≡ true
parameter_end (symbol.Punctuator p.Comma) is = refl
parameter_end (symbol.Punctuator p.RightParenthesis) is = refl
parameter_end _ is = cc

parameter_comma : (a b : List Terminal) → IsSign p.Comma a b → EndsParameter a
parameter_comma a b comma = rw comma.symbol refl

end_begins : (x : Symbol) (named : Bool) → is_end x ≡ true → (is_declarator_sign x || (is_identifier x && not named)) ≡ false
end_begins (symbol.Punctuator p.Star) named is = cc
end_begins (symbol.Punctuator p.LeftParenthesis) named is = cc
end_begins (symbol.Punctuator p.LeftBracket) named is = cc
end_begins symbol.Identifier named is = cc
end_begins _ named is = refl

nothing_declared : (known : List (List ℕ)) (x : DeclaratorView) (ts r : List Terminal) → IsDeclarator known x ts r → Ends ts → ⊥
nothing_declared known x ts r d end = true_false (declarator_begins known x ts r d) (end_begins (first_symbol ts) (is_typedef known (first_text ts)) end)

optional_fix : (known : List (List ℕ)) (n m : Option DeclaratorView) (ts r s : List Terminal) → Optional known n ts r → Ends r → Optional known m ts s → Ends s → (n ≡ m) × (r ≡ s)
optional_fix known None None ts r s d er e es = (refl, d ∙ sym e)
optional_fix known None (Some y) ts r s d er e es = absurd (nothing_declared known y ts s e (rw d at er))
optional_fix known (Some x) None ts r s d er e es = absurd (nothing_declared known x ts r d (rw e at es))
optional_fix known (Some x) (Some y) ts r s d er e es = let same = declarator_fix known x y ts r s d er e es in (ap Some same.0, same.1)

optional_no_word : (known : List (List ℕ)) (n : Option DeclaratorView) (ts r : List Terminal) → Optional known n ts r → Ends r → NoWordAt known ts
optional_no_word known None ts r same er = end_no_word known ts (rw same at er)
optional_no_word known (Some x) ts r d er = begins_no_word known ts (declarator_begins known x ts r d)

parameter_fix : (known : List (List ℕ)) (x : ParameterView) → Fixes (IsParameter known) EndsParameter x
parameter_fix known x y ts r s d er e es =
    let end = parameter_end (first_symbol r) er in
    let end-too = parameter_end (first_symbol s) es in
    let one = spec_fix x.words y.words known ts d.behind e.behind d.spec (optional_no_word known x.declarator d.behind r d.declarator end) e.spec (optional_no_word known y.declarator e.behind s e.declarator end-too) in
    let two = optional_fix known x.declarator y.declarator d.behind r s d.declarator end (subst (λ (v : List Terminal). Optional known y.declarator v s) (sym one.1) e.declarator) end-too in
    (λ i. record { at = (d.place ∙ sym e.place) i; words = one.0 i; declarator = two.0 i }, two.1)

-- the word `void` in front of a `)` is the one parameter that is none
parenthesis_kind : {ts a : List Terminal} (known : List (List ℕ)) → IsSign p.RightParenthesis ts a → kind_at known ts ≡ OfNone
parenthesis_kind {ts} {a} known shut = rw shut.symbol refl

void_kind : {ts a : List Terminal} (known : List (List ℕ)) → IsWord k.Void ts a → kind_at known ts ≡ OfWord (OfType type_word.Void)
void_kind {ts} {a} known is = rw is.symbol refl

no_parameter : (known : List (List ℕ)) (items : List ParameterView) (ts r a : List Terminal) → Listed (IsParameter known) items ts r → IsSign p.RightParenthesis ts a → ⊥
no_parameter known [] ts r a d shut = d
no_parameter known (x ∷ []) ts r a d shut = spec_word (spec_trees x.words) known ts d.behind d.spec (parenthesis_kind known shut)
no_parameter known (x ∷ (y ∷ ys)) ts r a d shut = spec_word (spec_trees x.words) known ts d.2.behind d.2.spec (parenthesis_kind known shut)

void_word : (w : SpecTree) → kind_of w ≡ OfWord (OfType type_word.Void) → is_void_type w ≡ true
void_word (TypeOf at type_word.Void) is = refl
void_word (TypeOf at _) is = cc
void_word _ is = cc

void_behind : (w : SpecTree) (known : List (List ℕ)) (ts r : List Terminal) → kind_of w ≡ OfWord (OfType type_word.Void) → DeriveWord w known ts r → r ≡ behind_first ts
void_behind (TypeOf at named) known ts r is (place, w, word, front) = front.behind
void_behind (StorageWord at class) known ts r is d = cc
void_behind (Qualifier at) known ts r is d = cc
void_behind (StructTag at tag) known ts r is d = cc
void_behind (StructBody at tag members) known ts r is d = cc
void_behind (EnumTag at tag) known ts r is d = cc
void_behind (EnumBody at tag enumerators) known ts r is d = cc
void_behind (TypedefName name) known ts r is d = cc

-- what derives from `void` in front of a `)` is that word alone
only_void : (known : List (List ℕ)) (ws : List SpecTree) (n : Option DeclaratorView) (ts b c r a : List Terminal) → IsWord k.Void ts r → IsSign p.RightParenthesis r a → IsSpec known (spec_trees ws) ts b → Optional known n b c → (is_only_void ws n ≡ true) × (c ≡ r)
only_void known [] n ts b c r a is shut spec d = cc spec.one_type
only_void known (w ∷ (v ∷ vs)) n ts b c r a is shut spec d =
    let all : DeriveWords (MoreWords w (spec_trees (v ∷ vs))) known ts b = spec.derive in
    let kind : kind_of w ≡ OfWord (OfType type_word.Void) = sym (kind_is w known ts all.0 all.1) ∙ void_kind known is in
    let behind : all.0 ≡ r = void_behind w known ts all.0 kind all.1 ∙ sym is.behind in
    let others : DeriveWords (spec_trees (v ∷ vs)) known r b = rw behind at all.2 in
    absurd (no_word v known r others.0 others.1 (parenthesis_kind known shut))
only_void known (w ∷ []) None ts b c r a is shut spec d =
    let all : DeriveWords (MoreWords w NoWord) known ts b = spec.derive in
    let kind : kind_of w ≡ OfWord (OfType type_word.Void) = sym (kind_is w known ts all.0 all.1) ∙ void_kind known is in
    let behind : all.0 ≡ r = void_behind w known ts all.0 kind all.1 ∙ sym is.behind in
    (void_word w kind, d ∙ all.2 ∙ behind)
only_void known (w ∷ []) (Some x) ts b c r a is shut spec d =
    let all : DeriveWords (MoreWords w NoWord) known ts b = spec.derive in
    let kind : kind_of w ≡ OfWord (OfType type_word.Void) = sym (kind_is w known ts all.0 all.1) ∙ void_kind known is in
    let behind : b ≡ r = all.2 ∙ void_behind w known ts all.0 kind all.1 ∙ sym is.behind in
    let end : Ends b = rw behind (ends_by shut refl) in
    absurd (nothing_declared known x b c d end)

lone_void : (known : List (List ℕ)) (items : List ParameterView) (ts r s a : List Terminal) → IsWord k.Void ts r → IsSign p.RightParenthesis r a → Listed (IsParameter known) items ts s → is_lone_void items ≡ true
lone_void known [] ts r s a is shut d = absurd d
lone_void known (x ∷ []) ts r s a is shut d = (only_void known x.words x.declarator ts d.behind s r a is shut d.spec d.declarator).0
lone_void known (x ∷ (y ∷ ys)) ts r s a is shut (b, c, one, comma, more) =
    let same : b ≡ r = (only_void known x.words x.declarator ts one.behind b r a is shut one.spec one.declarator).1 in
    let clash : symbol.Punctuator p.Comma ≡ symbol.Punctuator p.RightParenthesis = sym comma.symbol ∙ ap first_symbol same ∙ shut.symbol in
    absurd (cc clash)

parenthesis_ends : {r a : List Terminal} → IsSign p.RightParenthesis r a → EndsParameter r
parenthesis_ends {r} {a} shut = rw shut.symbol refl

parenthesis_no_comma : {r a : List Terminal} → IsSign p.RightParenthesis r a → is_comma (first_symbol r) ≡ false
parenthesis_no_comma {r} {a} shut = rw shut.symbol refl

parameters_fix : (known : List (List ℕ)) (x y : ParametersView) (ts r s v w : List Terminal) → Parameters known x ts r → IsSign p.RightParenthesis r v → Parameters known y ts s → IsSign p.RightParenthesis s w → (x ≡ y) × (r ≡ s)
parameters_fix known NoParameters NoParameters ts r s v w d shut e shut-too = (refl, d ∙ sym e)
parameters_fix known NoParameters OnlyVoid ts r s v w d shut e shut-too = let at : first_symbol ts ≡ symbol.Punctuator p.RightParenthesis = rw d at shut.symbol in let clash : symbol.Keyword k.Void ≡ symbol.Punctuator p.RightParenthesis = sym e.symbol ∙ at in absurd (cc clash)
parameters_fix known NoParameters (ParameterList items) ts r s v w d shut e shut-too = absurd (no_parameter known items ts s v e.1 (subst (λ (z : List Terminal). IsSign p.RightParenthesis z v) d shut))
parameters_fix known OnlyVoid NoParameters ts r s v w d shut e shut-too = let at : first_symbol ts ≡ symbol.Punctuator p.RightParenthesis = rw e at shut-too.symbol in let clash : symbol.Keyword k.Void ≡ symbol.Punctuator p.RightParenthesis = sym d.symbol ∙ at in absurd (cc clash)
parameters_fix known OnlyVoid OnlyVoid ts r s v w d shut e shut-too = (refl, d.behind ∙ sym e.behind)
parameters_fix known OnlyVoid (ParameterList items) ts r s v w d shut e shut-too = absurd (true_false (lone_void known items ts r s v d shut e.1) e.0)
parameters_fix known (ParameterList items) NoParameters ts r s v w d shut e shut-too = absurd (no_parameter known items ts r w d.1 (subst (λ (z : List Terminal). IsSign p.RightParenthesis z w) e shut-too))
parameters_fix known (ParameterList items) OnlyVoid ts r s v w d shut e shut-too = absurd (true_false (lone_void known items ts s r w e shut-too d.1) d.0)
parameters_fix known (ParameterList items) (ParameterList others) ts r s v w d shut e shut-too =
    let same = listed_fix (IsParameter known) EndsParameter (parameter_fix known) parameter_comma items others ts r s d.1 (parenthesis_ends shut) (parenthesis_no_comma shut) e.1 (parenthesis_ends shut-too) (parenthesis_no_comma shut-too) in
    (ap ParameterList same.0, same.1)

-- ---- declarators of functions

name_no_star : {known : List (List ℕ)} (n : NameView) {ts r : List Terminal} → IsName known n.at n.text ts r → NoStar ts
name_no_star {known} n {ts} {r} is = record { star = rw is.symbol refl; qualifier = rw is.symbol refl }

pub function_fix : (known : List (List ℕ)) (f g : FunctionDeclaratorView) (ts r s : List Terminal) → IsFunction known f ts r → IsFunction known g ts s → (f ≡ g) × (r ≡ s)
function_fix known f g ts r s d e =
    let one = stars_fix f.stars g.stars ts d.behind_stars e.behind_stars d.stars (name_no_star f.name d.name) e.stars (name_no_star g.name e.name) in
    let two = names_fix f.name g.name d.name (subst (λ (z : List Terminal). IsName known g.name.at g.name.text z e.behind_name) (sym one.1) e.name) in
    let start : d.inside ≡ e.inside = next d.opens e.opens two.1 in
    let three = parameters_fix known f.parameters g.parameters d.inside d.last e.last r s d.parameters d.closes (subst (λ (z : List Terminal). Parameters known g.parameters z e.last) (sym start) e.parameters) e.closes in
    (λ i. record { stars = one.0 i; name = two.0 i; parameters = three.0 i }, next d.closes e.closes three.1)

pub function_begins : (known : List (List ℕ)) (f : FunctionDeclaratorView) (ts r : List Terminal) → IsFunction known f ts r → begins_declarator known ts ≡ true
function_begins known f ts r d = by f.stars d.stars d.name
  where
    by : (qs : List ℕ) → Stars qs ts d.behind_stars → IsName known f.name.at f.name.text d.behind_stars d.behind_name → begins_declarator known ts ≡ true
    by [] same is = let named : IsName known f.name.at f.name.text ts d.behind_name = subst (λ (z : List Terminal). IsName known f.name.at f.name.text z d.behind_name) same is in rw (named.symbol, named.other) refl
    by (q ∷ qs) star is = rw star.1.star.symbol refl

-- the declarator of a function is no other one
shape_apart : (known : List (List ℕ)) (xs : List DeclaratorLayerView) (name : Option NameView) (f : FunctionDeclaratorView) (ts r s : List Terminal) → is_some name ≡ true → IsFunction known f ts r → Shape xs known name ts s → Ends s → ⊥
shape_apart known [] name f ts r s some d e es = e
shape_apart known (x ∷ []) None f ts r s some d e es = cc some
shape_apart known (x ∷ []) (Some n) f ts r s some d (fine, a, b, star, core, all) es =
    let one = stars_fix f.stars x.stars ts d.behind_stars a d.stars (name_no_star f.name d.name) star (name_no_star n core) in
    let two = names_fix f.name n d.name (subst (λ (z : List Terminal). IsName known n.at n.text z b) (sym one.1) core) in
    let front = suffixes_front known x.arrays b s all es in
    let opens : is_left_parenthesis (first_symbol b) ≡ true = subst (λ (z : List Terminal). is_left_parenthesis (first_symbol z) ≡ true) two.1 (rw d.opens.symbol refl) in
    true_false opens front.parenthesis
shape_apart known (x ∷ (y ∷ ys)) name f ts r s some d e es =
    let one = stars_fix f.stars x.stars ts d.behind_stars e.0 d.stars (name_no_star f.name d.name) e.4 (no_star e.5.symbol refl) in
    let clash : symbol.Identifier ≡ symbol.Punctuator p.LeftParenthesis = sym d.name.symbol ∙ ap first_symbol one.1 ∙ e.5.symbol in
    cc clash

function_apart : (known : List (List ℕ)) (f : FunctionDeclaratorView) (x : DeclaratorView) (ts r s : List Terminal) → IsFunction known f ts r → IsNamed known x ts s → Ends s → ⊥
function_apart known f x ts r s d e es = shape_apart known x.layers x.name f ts r s e.named d e.derives es

-- ---- declarators with initializers

abbrev is_comma_or_semicolon : Symbol → Bool
is_comma_or_semicolon (symbol.Punctuator p.Comma) = true
is_comma_or_semicolon (symbol.Punctuator p.Semicolon) = true
is_comma_or_semicolon _ = false

abbrev pub EndsDeclared : List Terminal → Type 0
EndsDeclared r = is_comma_or_semicolon (first_symbol r) ≡ true

declared_end : (x : Symbol) → is_comma_or_semicolon x ≡ true → is_end x ≡ true
declared_end (symbol.Punctuator p.Comma) is = refl
declared_end (symbol.Punctuator p.Semicolon) is = refl
declared_end _ is = cc

declared_signs : (x : Symbol) → is_comma_or_semicolon x ≡ true → (x ≡ symbol.Punctuator p.Comma) ⊎ (x ≡ symbol.Punctuator p.Semicolon)
declared_signs (symbol.Punctuator p.Comma) is = inl refl
declared_signs (symbol.Punctuator p.Semicolon) is = inr refl
declared_signs _ is = cc

declared_value : (r : List Terminal) → EndsDeclared r → EndsValue r
declared_value r ends = by (declared_signs (first_symbol r) ends)
  where
    by : (first_symbol r ≡ symbol.Punctuator p.Comma) ⊎ (first_symbol r ≡ symbol.Punctuator p.Semicolon) → EndsValue r
    by (inl at) = rw at (omega arith)
    by (inr at) = rw at (omega arith)

pub declared_comma : (a b : List Terminal) → IsSign p.Comma a b → EndsDeclared a
declared_comma a b comma = rw comma.symbol refl

pub declared_semicolon : {a b : List Terminal} → IsSign p.Semicolon a b → EndsDeclared a
declared_semicolon {a} {b} semi = rw semi.symbol refl

no_equals : (r s a : List Terminal) → r ≡ s → EndsDeclared r → IsSign p.Assign s a → ⊥
no_equals r s a same ends sign = let h : false ≡ true = rw sign.symbol at (subst EndsDeclared same ends) in cc

pub initialized_fix : (known inside inside-too : List (List ℕ)) (x y : InitDeclaratorView) (ts r s : List Terminal) → (bare x ≡ bare y → inside ≡ inside-too) → Initializes known inside x ts r → EndsDeclared r → Initializes known inside-too y ts s → EndsDeclared s → (x ≡ y) × (r ≡ s)
initialized_fix known inside inside-too (Object x) (Object y) ts r s alike d er e es =
    let end : Ends d.behind = declared_end (first_symbol d.behind) (subst EndsDeclared d.initializer er) in
    let end-too : Ends e.behind = declared_end (first_symbol e.behind) (subst EndsDeclared e.initializer es) in
    let same = named_fix known x y ts d.behind e.behind d.declarator end e.declarator end-too in
    (ap Object same.0, d.initializer ∙ same.1 ∙ sym e.initializer)
initialized_fix known inside inside-too (Object x) (Initialized y at i) ts r s alike d er e es =
    let here : EndsDeclared d.behind = subst EndsDeclared d.initializer er in
    let same = named_fix known x y ts d.behind e.behind d.declarator (declared_end (first_symbol d.behind) here) e.declarator (ends_by e.initializer.2 refl) in
    absurd (no_equals d.behind e.behind e.initializer.1 same.1 here e.initializer.2)
initialized_fix known inside inside-too (Initialized x at i) (Object y) ts r s alike d er e es =
    let here : EndsDeclared e.behind = subst EndsDeclared e.initializer es in
    let same = named_fix known x y ts d.behind e.behind d.declarator (ends_by d.initializer.2 refl) e.declarator (declared_end (first_symbol e.behind) here) in
    absurd (no_equals e.behind d.behind d.initializer.1 (sym same.1) here d.initializer.2)
initialized_fix known inside inside-too (Initialized x at i) (Initialized y at-too j) ts r s alike d er e es =
    let same = named_fix known x y ts d.behind e.behind d.declarator (ends_by d.initializer.2 refl) e.declarator (ends_by e.initializer.2 refl) in
    let names : inside ≡ inside-too = alike (ap Object same.0) in
    let start : d.initializer.1 ≡ e.initializer.1 = next d.initializer.2 e.initializer.2 same.1 in
    let from : DeriveInitializer j inside d.initializer.1 s = subst (λ (z : List (List ℕ)). DeriveInitializer j z d.initializer.1 s) (sym names) (subst (λ (z : List Terminal). DeriveInitializer j inside-too z s) (sym start) e.initializer.3) in
    let values = initializer_fix inside i j d.initializer.1 r s d.initializer.3 (declared_value r er) from (declared_value s es) in
    let places : at ≡ at-too = d.initializer.0 ∙ ap first_place same.1 ∙ sym e.initializer.0 in
    (λ n. Initialized (same.0 n) (places n) (values.0 n), values.1)
initialized_fix known inside inside-too (Prototype f) (Prototype g) ts r s alike d er e es =
    let same = function_fix known f g ts d.behind e.behind d.declarator e.declarator in (ap Prototype same.0, d.initializer ∙ same.1 ∙ sym e.initializer)
initialized_fix known inside inside-too (Prototype f) (Object y) ts r s alike d er e es =
    absurd (function_apart known f y ts d.behind e.behind d.declarator e.declarator (declared_end (first_symbol e.behind) (subst EndsDeclared e.initializer es)))
initialized_fix known inside inside-too (Prototype f) (Initialized y at i) ts r s alike d er e es = absurd (function_apart known f y ts d.behind e.behind d.declarator e.declarator (ends_by e.initializer.2 refl))
initialized_fix known inside inside-too (Object x) (Prototype g) ts r s alike d er e es =
    absurd (function_apart known g x ts e.behind d.behind e.declarator d.declarator (declared_end (first_symbol d.behind) (subst EndsDeclared d.initializer er)))
initialized_fix known inside inside-too (Initialized x at i) (Prototype g) ts r s alike d er e es = absurd (function_apart known g x ts e.behind d.behind e.declarator d.declarator (ends_by d.initializer.2 refl))

pub initialized_begins : (known inside : List (List ℕ)) (x : InitDeclaratorView) (ts r : List Terminal) → Initializes known inside x ts r → begins_declarator known ts ≡ true
initialized_begins known inside (Object x) ts r d = declarator_begins known x ts d.behind d.declarator.derives
initialized_begins known inside (Initialized x at i) ts r d = declarator_begins known x ts d.behind d.declarator.derives
initialized_begins known inside (Prototype f) ts r d = function_begins known f ts d.behind d.declarator

-- where a `;` stands no declarator does
pub semicolon_begins : (known : List (List ℕ)) (ts a : List Terminal) → IsSign p.Semicolon ts a → begins_declarator known ts ≡ true → ⊥
semicolon_begins known ts a semi is = true_false is (end_begins (first_symbol ts) (is_typedef known (first_text ts)) (rw semi.symbol refl))

-- ---- declarations in blocks

local_declarator_fix : (known : List (List ℕ)) (x : InitDeclaratorView) → Fixes (IsLocalDeclarator known) EndsDeclared x
local_declarator_fix known x y ts r s d er e es = initialized_fix known known known x y ts r s (λ same. refl) d.initializes er e.initializes es

listed_local_begins : (known : List (List ℕ)) (x : InitDeclaratorView) (xs : List InitDeclaratorView) (ts r : List Terminal) → Listed (IsLocalDeclarator known) (x ∷ xs) ts r → begins_declarator known ts ≡ true
listed_local_begins known x [] ts r d = initialized_begins known known x ts r d.initializes
listed_local_begins known x (y ∷ ys) ts r (a, b, one, comma, more) = initialized_begins known known x ts a one.initializes

local_no_word : (known : List (List ℕ)) (xs : List InitDeclaratorView) (ts r a : List Terminal) → LocalDeclarators known xs ts r → IsSign p.Semicolon r a → NoWordAt known ts
local_no_word known [] ts r a same semi = end_no_word known ts (rw same at (ends_by semi refl))
local_no_word known (x ∷ xs) ts r a d semi = begins_no_word known ts (listed_local_begins known x xs ts r d)

local_declarators_fix : (known : List (List ℕ)) (xs ys : List InitDeclaratorView) (ts r s a b : List Terminal) → LocalDeclarators known xs ts r → IsSign p.Semicolon r a → LocalDeclarators known ys ts s → IsSign p.Semicolon s b → (xs ≡ ys) × (r ≡ s)
local_declarators_fix known [] [] ts r s a b d semi e semi-too = (refl, d ∙ sym e)
local_declarators_fix known [] (y ∷ ys) ts r s a b d semi e semi-too = absurd (semicolon_begins known ts a (subst (λ (z : List Terminal). IsSign p.Semicolon z a) d semi) (listed_local_begins known y ys ts s e))
local_declarators_fix known (x ∷ xs) [] ts r s a b d semi e semi-too = absurd (semicolon_begins known ts b (subst (λ (z : List Terminal). IsSign p.Semicolon z b) e semi-too) (listed_local_begins known x xs ts r d))
local_declarators_fix known (x ∷ xs) (y ∷ ys) ts r s a b d semi e semi-too =
    listed_fix (IsLocalDeclarator known) EndsDeclared (local_declarator_fix known) declared_comma (x ∷ xs) (y ∷ ys) ts r s d (declared_semicolon semi) (rw semi.symbol refl) e (declared_semicolon semi-too) (rw semi-too.symbol refl)

pub local_fix : (known : List (List ℕ)) (x y : LocalView) (ts r s : List Terminal) → IsLocal known x ts r → IsLocal known y ts s → (x ≡ y) × (r ≡ s)
local_fix known x y ts r s d e =
    let one = spec_fix x.words y.words known ts d.behind e.behind d.spec (local_no_word known x.declarators d.behind d.last r d.declarators d.ends) e.spec (local_no_word known y.declarators e.behind e.last s e.declarators e.ends) in
    let two = local_declarators_fix known x.declarators y.declarators d.behind d.last e.last r s d.declarators d.ends (subst (λ (z : List Terminal). LocalDeclarators known y.declarators z e.last) (sym one.1) e.declarators) e.ends in
    (λ i. record { at = (d.place ∙ sym e.place) i; words = one.0 i; declarators = two.0 i }, next d.ends e.ends two.1)

pub local_word : (known : List (List ℕ)) (x : LocalView) (ts r : List Terminal) → IsLocal known x ts r → kind_at known ts ≡ OfNone → ⊥
local_word known x ts r d none = spec_word (spec_trees x.words) known ts d.behind d.spec none

-- behind a declarator no body stands
pub defined_apart : (known inside : List (List ℕ)) (x : InitDeclaratorView) (f : FunctionDeclaratorView) (ts r s v : List Terminal) → Initializes known inside x ts r → EndsDeclared r → IsFunction known f ts s → IsSign p.LeftBrace s v → ⊥
defined_apart known inside (Object x) f ts r s v d er e opens = function_apart known f x ts s d.behind e d.declarator (declared_end (first_symbol d.behind) (subst EndsDeclared d.initializer er))
defined_apart known inside (Initialized x at i) f ts r s v d er e opens = function_apart known f x ts s d.behind e d.declarator (ends_by d.initializer.2 refl)
defined_apart known inside (Prototype g) f ts r s v d er e opens =
    let same = function_fix known g f ts d.behind s d.declarator e in
    let here : EndsDeclared s = subst EndsDeclared (d.initializer ∙ same.1) er in
    let h : false ≡ true = rw opens.symbol at here in cc
