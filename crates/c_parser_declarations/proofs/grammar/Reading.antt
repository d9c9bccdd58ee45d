-- What the readers as definitions answer, step by step.
use Rattle.std.proofs.Common.{◌≡◌, ℕ, zero, suc, ◌+◌, ◌<◌, ◌≤◌, ◌==◌, nat_lt, Bool, true, false, List, [], ◌∷◌, length, max, cond, is_some, Option, Some, None, Vec, vec_len, vec_items, refl, sym, ap, ◌∙◌, arith}
use Rattle.std.proofs.lemmas.Grind.{common_steps}
use Rattle.std.specs.List.{list_all}
use Rattle.cc_base.specs.declared.diagnostics.Place.{Place}
use Rattle.c_layout.specs.SyntaxTrees.{Tree}
use Rattle.c_layout.specs.DeclarationTrees.{NameView, SuffixView, DeclaratorView, InitDeclaratorView, ParameterView, ParametersView, ParameterList, SpecTree, SpecTrees, spec_trees, MemberTree, Members, StructBody, member_trees, InitializerTree, Braces, initializer_trees}
use Rattle.c_parser_tokens.specs.declared.terminals.Keyword.TheVariants as k
use Rattle.c_parser_tokens.specs.declared.terminals.Punctuator.TheVariants as p
use Rattle.c_parser_tokens.specs.declared.terminals.Terminal.{Terminal}
use Rattle.c_parser_expression_grammar.specs.Fronts.{first_symbol, first_place, IsName, IsSign, IsWord}
use Rattle.c_parser_expression_grammar.specs.Readings.{Reading, got, is_right_bracket, is_right_parenthesis}
use Rattle.c_parser_expression_grammar.specs.TypeNames.{is_one_type}
use Rattle.c_parser_expression_grammar.specs.TypeNameReaders.{all_readers, readers_inside}
use Rattle.c_parser_declarations.specs.Grammar.DeclarationReaders.{assigned, initialized_object, local_declarator, local_declarators, local_specifiers, local_declaration}
use Rattle.c_parser_declarations.specs.Grammar.Declarations.{is_local_word, begins_declarator}
use Rattle.c_parser_declarations.specs.Grammar.DeclaratorReaders.{GotParts, parts_of, after_parts, above, suffix, declarators, declarators_inside, enclosed, closed, closed_height, parameter_declarator, declarator_list}
use Rattle.c_parser_declarations.specs.Grammar.Items.{GotItem, item_of, after_item, listed, braced}
use Rattle.c_parser_declarations.specs.Grammar.InitializerReaders.{initializer}
use Rattle.c_parser_declarations.specs.Grammar.ParameterReaders.{words_list, parameter, parameter_declarator_inside, parameters_at, parameter_list, parameters, function_declarator, function_of}
use Rattle.c_parser_declarations.specs.Grammar.SpecifierReaders.{raised, valued, enumerator, list_height, judged, at_height, specifiers, specifier_readers, specifiers_inside, optional_tag, members, structure, is_semicolon}
use Rattle.c_parser_declarations.specs.Grammar.Specifiers.{counts_of}

-- ---- heights

pub inner_is : {b budget : ℕ} → b + 1 ≡ budget → budget ≡ suc b
inner_is {b} {budget} e = omega (arith, e)

pub raised_is : {X : Type 0} (b h k : ℕ) (x : X) (rest : List Terminal) → k ≡ h + 1 → k ≤ b → raised b x h rest ≡ Some (item_of x k rest)
raised_is b h k x rest is low = let fits : nat_lt h b ≡ true = grind (arith, is, low) in rw (fits, is) refl

pub raised_none : {X : Type 0} (b h : ℕ) (x : X) (rest : List Terminal) → b ≤ h → raised b x h rest ≡ None
raised_none b h x rest high = let off : nat_lt h b ≡ false = grind (arith, high) in rw off refl

-- ---- enumerators

pub enumerator_is : {known : List (List ℕ)} (b : ℕ) {budget : ℕ} (v : NameView) {ts a c : List Terminal} (r : Reading) → IsName known v.at v.text ts a → IsSign p.Assign a c → b + 1 ≡ budget → (all_readers known b).conditional c ≡ r →
    enumerator known budget ts ≡ valued budget v r
enumerator_is {known} b {budget} v {ts} {a} {c} r is assign inside reads =
    rw (is.symbol, is.other, sym is.behind, sym is.place, sym is.spelled, assign.symbol, sym assign.behind, inner_is inside, reads) refl

-- ---- lists of words

many : (n : ℕ) → (suc (suc n) == 1) ≡ false
many n = grind (arith, common_steps)

list_height_is : (b : ℕ) (ws : List SpecTree) (parts : ℕ) → list_height b (spec_trees ws) parts ≡ cond (length ws == 1) (Some parts) (above b parts)
list_height_is b [] parts = refl
list_height_is b (w ∷ []) parts = refl
list_height_is b (w ∷ (v ∷ more)) parts = let off : (length (w ∷ (v ∷ more)) == 1) ≡ false = many (length more) in rw off refl

pub judged_is : (b parts n : ℕ) (ws : List SpecTree) (rest : List Terminal) (r : Option ℕ) → is_one_type (counts_of (spec_trees ws)) ≡ true → length ws ≡ n → cond (n == 1) (Some parts) (above b parts) ≡ r →
    judged b (item_of (spec_trees ws) parts rest) ≡ at_height (spec_trees ws) rest r
judged_is b parts n ws rest r one same e = rw (one, list_height_is b ws parts, same, e) refl

-- ---- brackets

pub suffix_none : (known : List (List ℕ)) (b : ℕ) {budget : ℕ} {ts a : List Terminal} → IsSign p.LeftBracket ts a → is_right_bracket (first_symbol a) ≡ false → b + 1 ≡ budget → (all_readers known b).conditional a ≡ None → suffix (readers_inside known budget) ts ≡ None
suffix_none known b {budget} {ts} {a} opens off inside e = rw (sym opens.behind, off, inner_is inside, e) refl

pub suffix_unclosed : (known : List (List ℕ)) (b : ℕ) {budget : ℕ} {ts a : List Terminal} (e : Tree) (h : ℕ) (c : List Terminal) → IsSign p.LeftBracket ts a → is_right_bracket (first_symbol a) ≡ false → b + 1 ≡ budget → (all_readers known b).conditional a ≡ Some (got e h c) →
    is_right_bracket (first_symbol c) ≡ false → suffix (readers_inside known budget) ts ≡ None
suffix_unclosed known b {budget} {ts} {a} e h c opens off inside is none = rw (sym opens.behind, off, inner_is inside, is, none) refl

pub suffix_is : (known : List (List ℕ)) (b : ℕ) {budget : ℕ} {ts a d : List Terminal} (e : Tree) (h : ℕ) (c : List Terminal) (at : Place) (v : SuffixView) → at ≡ first_place ts → IsSign p.LeftBracket ts a → is_right_bracket (first_symbol a) ≡ false → b + 1 ≡ budget →
    (all_readers known b).conditional a ≡ Some (got e h c) → IsSign p.RightBracket c d → v ≡ record { at = at; length = Some e } → suffix (readers_inside known budget) ts ≡ Some (item_of v h d)
suffix_is known b {budget} {ts} {a} {d} e h c at v place opens off inside is closes v-is = rw (v-is, place, closes.behind, sym opens.behind, off, inner_is inside, is, closes.symbol) refl

-- ---- declarators in parentheses

pub enclosed_at : (known : List (List ℕ)) (b : ℕ) {budget : ℕ} {ts a : List Terminal} (r : Option GotParts) → IsSign p.LeftParenthesis ts a → b + 1 ≡ budget → declarators known b a ≡ r →
    enclosed budget (declarators_inside known budget) ts ≡ after_parts r (closed budget)
enclosed_at known b {budget} {ts} {a} r opens inside e = rw (opens.symbol, sym opens.behind, inner_is inside, e) refl

pub unclosed : (b : ℕ) (g : GotParts) → is_right_parenthesis (first_symbol g.rest) ≡ false → closed b g ≡ None
unclosed b g off = rw off refl

closed_height_is : (b : ℕ) (name : Option NameView) (h : ℕ) → closed_height b name h ≡ cond (is_some name) (above b h) (Some h)
closed_height_is b None h = refl
closed_height_is b (Some v) h = refl

pub closed_is : (b : ℕ) (g : GotParts) (named : Bool) (k : ℕ) (rest : List Terminal) → IsSign p.RightParenthesis g.rest rest → named ≡ is_some g.name → cond named (above b g.height) (Some g.height) ≡ Some k → closed b g ≡ Some (parts_of g.layers g.name k rest)
closed_is b g named k rest closes is e = rw (closes.symbol, closes.behind, closed_height_is b g.name g.height, sym is, e) refl

-- ---- declarators with initializers

pub initialized_at : (known : List (List ℕ)) (b : ℕ) {budget : ℕ} (d : DeclaratorView) (h : ℕ) (ts : List Terminal) (r : Option (GotItem InitDeclaratorView)) → b + 1 ≡ budget → assigned known b d h ts ≡ r →
    initialized_object known budget d h ts ≡ after_item r (λ g. raised budget g.item g.height g.rest)
initialized_at known b {budget} d h ts r inside e = rw (inner_is inside, e) refl

-- ---- declarations in blocks

pub words_listed : (xs : List SpecTree) → words_list (spec_trees xs) ≡ xs
words_listed [] = refl
words_listed (x ∷ xs) = ap (λ more. x ∷ more) (words_listed xs)

pub unended : (known : List (List ℕ)) (b : ℕ) (ts : List Terminal) (g : GotItem (List InitDeclaratorView)) → is_semicolon (first_symbol ts) ≡ false → listed (local_declarator known b) (length ts) ts ≡ Some g → is_semicolon (first_symbol g.rest) ≡ false →
    local_declarators known b ts ≡ None
unended known b ts g off e none = rw (off, e, none) refl

pub local_judged : (known : List (List ℕ)) (b : ℕ) (ts : List Terminal) (xs : List SpecTree) (h : ℕ) (rest : List Terminal) (t : Bool) → specifiers known b ts ≡ Some (item_of (spec_trees xs) h rest) → list_all is_local_word xs ≡ t →
    local_specifiers known b ts ≡ cond t (Some (item_of (spec_trees xs) h rest)) None
local_judged known b ts xs h rest t e all = rw (e, words_listed xs, all) refl

pub local_at : (known : List (List ℕ)) (b c : ℕ) {budget : ℕ} (ts : List Terminal) (xs : List SpecTree) (h : ℕ) (a : List Terminal) (r : Option (GotItem (List InitDeclaratorView))) → b + 1 ≡ budget → local_specifiers known b ts ≡ Some (item_of (spec_trees xs) h a) →
    c + 1 ≡ budget → local_declarators known c a ≡ r → local_declaration known budget ts ≡ after_item r (λ ds. raised budget (record { at = first_place ts; words = xs; declarators = ds.item }) (max h ds.height) ds.rest)
local_at known b c {budget} ts xs h a r inside words same others =
    let one : c ≡ b = omega (arith, inside, same) in
    rw (inner_is inside, words, (rw one at others), words_listed xs) refl

-- ---- parameters

pub parameter_alone : (known : List (List ℕ)) (b : ℕ) (ts : List Terminal) (xs : List SpecTree) (h : ℕ) (a : List Terminal) → specifiers known b ts ≡ Some (item_of (spec_trees xs) h a) → begins_declarator known a ≡ false →
    parameter known b ts ≡ Some (item_of (record { at = first_place ts; words = xs; declarator = None }) h a)
parameter_alone known b ts xs h a words off = rw (words, off, words_listed xs) refl

pub parameter_with : (known : List (List ℕ)) (c : ℕ) {b : ℕ} (ts : List Terminal) (xs : List SpecTree) (h : ℕ) (a : List Terminal) (r : Option (GotItem DeclaratorView)) → specifiers known b ts ≡ Some (item_of (spec_trees xs) h a) → begins_declarator known a ≡ true → c + 1 ≡ b →
    parameter_declarator known c a ≡ r → parameter known b ts ≡ after_item r (λ d. raised b (record { at = first_place ts; words = xs; declarator = Some d.item }) (max h d.height) d.rest)
parameter_with known c {b} ts xs h a r words on inside e =
    let behind : parameter_declarator_inside known b a ≡ r = rw (inner_is inside) e in
    rw (words, on, behind, words_listed xs) refl

parameters_at_is : (b : ℕ) (xs : List ParameterView) (parts : ℕ) → parameters_at b xs parts ≡ cond (length xs == 1) (Some parts) (above b parts)
parameters_at_is b [] parts = refl
parameters_at_is b (x ∷ []) parts = refl
parameters_at_is b (x ∷ (y ∷ more)) parts = let off : (length (x ∷ (y ∷ more)) == 1) ≡ false = many (length more) in rw off refl

pub parameter_list_is : (known : List (List ℕ)) (b : ℕ) (ts : List Terminal) (xs : List ParameterView) (h : ℕ) (a c : List Terminal) (n : ℕ) (r : Option ℕ) → listed (parameter known b) (length ts) ts ≡ Some (item_of xs h a) → IsSign p.RightParenthesis a c → length xs ≡ n →
    cond (n == 1) (Some h) (above b h) ≡ r → parameter_list known b ts ≡ at_height (ParameterList xs) c r
parameter_list_is known b ts xs h a c n r e closes same height = rw (e, closes.symbol, closes.behind, parameters_at_is b xs h, same, height) refl

pub function_is : {known : List (List ℕ)} (b : ℕ) {budget : ℕ} (qs : List ℕ) (v : NameView) {ts a c : List Terminal} (r : Option (GotItem ParametersView)) → IsName known v.at v.text ts a → IsSign p.LeftParenthesis a c → b + 1 ≡ budget → parameters known b c ≡ r →
    function_declarator known budget qs ts ≡ after_item r (λ g. raised budget (function_of qs v g.item) g.height g.rest)
function_is {known} b {budget} qs v {ts} {a} {c} r is opens inside e =
    rw (is.symbol, is.other, sym is.behind, sym is.place, sym is.spelled, opens.symbol, sym opens.behind, inner_is inside, e) refl

-- ---- initializers

pub initializer_is : (known : List (List ℕ)) (b : ℕ) {budget : ℕ} {ts a : List Terminal} (g : GotItem (List InitializerTree)) (k : ℕ) → IsSign p.LeftBrace ts a → b + 1 ≡ budget → braced (initializer known b) (length a) a ≡ Some g → k ≡ g.height + 1 → k ≤ budget →
    initializer known budget ts ≡ Some (item_of (Braces (first_place ts) (initializer_trees g.item)) k g.rest)
initializer_is known b {budget} {ts} {a} g k opens inside items height low =
    let step : initializer known budget ts ≡ raised budget (Braces (first_place ts) (initializer_trees g.item)) g.height g.rest = rw (opens.symbol, sym opens.behind, inner_is inside, items) refl in
    step ∙ raised_is budget g.height k (Braces (first_place ts) (initializer_trees g.item)) g.rest height low

-- ---- members

same_inside : {b c budget : ℕ} → b + 1 ≡ budget → c + 1 ≡ budget → c ≡ b
same_inside {b} {c} {budget} one other = omega (arith, one, other)

pub member_is : (known : List (List ℕ)) (b f : ℕ) {budget : ℕ} (ts : List Terminal) (ws : GotItem SpecTrees) (ds : GotItem (List DeclaratorView)) {d : List Terminal} (m : ℕ) → b + 1 ≡ budget → specifiers known b ts ≡ Some ws → f + 1 ≡ budget → declarator_list known f ws.rest ≡ Some ds →
    IsSign p.Semicolon ds.rest d → m ≡ max ws.height ds.height + 1 → m ≤ budget → (specifier_readers known budget).member ts ≡ Some (item_of (Members ws.item ds.item) m d)
member_is known b f {budget} ts ws ds {d} m inside words same declared semi height low =
    let step : (specifier_readers known budget).member ts ≡ raised budget (Members ws.item ds.item) (max ws.height ds.height) d =
    rw (inner_is inside, words, rw (same_inside inside same) at declared, semi.symbol, semi.behind) refl in
    step ∙ raised_is budget (max ws.height ds.height) m (Members ws.item ds.item) d height low

pub structure_at : (known : List (List ℕ)) (b : ℕ) {budget : ℕ} {ts a r0 d : List Terminal} (tag : Option NameView) (r : Option (GotItem (List MemberTree))) → IsWord k.Struct ts a → Some (optional_tag known a) ≡ Some (record { tag = tag; rest = r0 }) → IsSign p.LeftBrace r0 d → b + 1 ≡ budget →
    members (specifier_readers known b).member d ≡ r → structure known budget (specifiers_inside known budget).member ts ≡ after_item r (λ ms. raised budget (StructBody (first_place ts) tag (member_trees ms.item)) ms.height ms.rest)
structure_at known b {budget} {ts} {a} {r0} {d} tag r word is brace inside body =
    let t : optional_tag known a ≡ record { tag = tag; rest = r0 } = cc is in
    rw (sym word.behind, t, brace.symbol, sym brace.behind, inner_is inside, body) refl

-- ---- lengths

pub len_is : {X Z : Type 0} (v : Vec X Z) → vec_len v ≡ length (vec_items v)
len_is v = grind (arith, common_steps)
