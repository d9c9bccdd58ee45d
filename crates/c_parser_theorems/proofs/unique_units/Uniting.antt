-- External declarations, pieces and units are fixed by their terminals.
use Rattle.std.proofs.Common.{◌≡◌, ℕ, Bool, true, false, List, [], ◌∷◌, take, drop, Ok, Result, refl, sym, ap, subst, ◌∙◌}
use Rattle.cc_base.specs.declared.lexemes.Token.{Token}
use Rattle.c_layout.specs.declared.data_model.Model.{Model}
use Rattle.c_layout.specs.DeclarationTrees.{FunctionDeclaratorView, InitDeclaratorView, Object, Initialized, Prototype, ExternalTree, Declared, Defined, StatementTree, StatementTrees, NoStatement, MoreStatements, spec_trees, statement_trees}
use Rattle.c_parser_tokens.specs.declared.terminals.Terminal.{Terminal}
use Rattle.c_parser_tokens.specs.declared.terminals.Symbol.TheVariants as symbol
use Rattle.c_parser_tokens.specs.declared.terminals.Punctuator.TheVariants as p
use Rattle.c_parser_expression_grammar.specs.Fronts.{IsSign}
use Rattle.c_parser_declarations.specs.Grammar.Declarations.{begins_declarator, IsFunction, bare, name_of}
use Rattle.c_parser_declarations.specs.Grammar.StorageClasses.{is_typedef}
use Rattle.c_parser_tokens.specs.Classes.{classified}
use Rattle.c_parser.specs.Externals.{with_name, with_declared, in_force, in_force_behind, IsFileDeclarator, Further, FileDeclarators, IsExternal, IsPiece, ArePieces, IsUnit}
use Rattle.c_parser.specs.Pieces.{piece_length}
use Rattle.c_parser.specs.Statements.{IsBlock}
use Rattle.c_parser.specs.FirstRefusals.{IsRefusedAt}
use Rattle.c_parser_theorems.proofs.unique_units.Listing.{next}
use Rattle.c_parser_theorems.proofs.unique_units.Declaring.{ends_by}
use Rattle.c_parser_theorems.proofs.unique_units.Specifying.{NoWordAt, begins_no_word, end_no_word, spec_fix, spec_word}
use Rattle.c_parser_theorems.proofs.unique_units.Initializing.{EndsDeclared, declared_comma, declared_semicolon, initialized_fix, initialized_begins, function_begins, function_fix, defined_apart, semicolon_begins}
use Rattle.c_parser_theorems.proofs.unique_units.Stating.{block_fix}

-- ---- declarators at file scope

-- a declarator puts the same names in force with its initializer and without
bare_name : (x : InitDeclaratorView) → name_of (bare x) ≡ name_of x
bare_name (Object x) = refl
bare_name (Initialized x at i) = refl
bare_name (Prototype f) = refl

same_names : (gives : Bool) (known : List (List ℕ)) (x y : InitDeclaratorView) → bare x ≡ bare y → with_declared gives known x ≡ with_declared gives known y
same_names true known x y same = ap (with_name known) (sym (bare_name x) ∙ ap name_of same ∙ bare_name y)
same_names false known x y same = refl

file_declarator_fix : (gives : Bool) (known : List (List ℕ)) (x y : InitDeclaratorView) (ts r s : List Terminal) → IsFileDeclarator gives known x ts r → EndsDeclared r → IsFileDeclarator gives known y ts s → EndsDeclared s → (x ≡ y) × (r ≡ s)
file_declarator_fix gives known x y ts r s d er e es = initialized_fix known (with_declared gives known x) (with_declared gives known y) x y ts r s (same_names gives known x y) d er e es

further_ends : (gives : Bool) (xs : List InitDeclaratorView) (known : List (List ℕ)) (ts r a : List Terminal) → Further gives xs known ts r → IsSign p.Semicolon r a → EndsDeclared ts
further_ends gives [] known ts r a same semi = subst EndsDeclared same (declared_semicolon semi)
further_ends gives (x ∷ xs) known ts r a (b, c, comma, one, more) semi = declared_comma ts b comma

comma_apart : {ts a b : List Terminal} → IsSign p.Comma ts a → IsSign p.Semicolon ts b → ⊥
comma_apart {ts} {a} {b} comma semi = let clash : symbol.Punctuator p.Comma ≡ symbol.Punctuator p.Semicolon = sym comma.symbol ∙ semi.symbol in cc clash

further_fix : (gives : Bool) (xs ys : List InitDeclaratorView) (known : List (List ℕ)) (ts r s a b : List Terminal) → Further gives xs known ts r → IsSign p.Semicolon r a → Further gives ys known ts s → IsSign p.Semicolon s b → (xs ≡ ys) × (r ≡ s)
further_fix gives [] [] known ts r s a b d semi e semi-too = (refl, d ∙ sym e)
further_fix gives [] (y ∷ ys) known ts r s a b d semi (f, g, comma, two, others) semi-too = absurd (comma_apart comma (subst (λ (z : List Terminal). IsSign p.Semicolon z a) d semi))
further_fix gives (x ∷ xs) [] known ts r s a b (c, h, comma, one, more) semi e semi-too = absurd (comma_apart comma (subst (λ (z : List Terminal). IsSign p.Semicolon z b) e semi-too))
further_fix gives (x ∷ xs) (y ∷ ys) known ts r s a b (c, h, comma, one, more) semi (f, g, comma-too, two, others) semi-too =
    let from : IsFileDeclarator gives known y c g = subst (λ (z : List Terminal). IsFileDeclarator gives known y z g) (sym (next comma comma-too refl)) two in
    let same = file_declarator_fix gives known x y c h g one (further_ends gives xs (with_declared gives known x) h r a more semi) from (further_ends gives ys (with_declared gives known y) g s b others semi-too) in
    let names : with_declared gives known x ≡ with_declared gives known y = ap (with_declared gives known) same.0 in
    let tail : Further gives ys (with_declared gives known x) h s = subst (λ (z : List (List ℕ)). Further gives ys z h s) (sym names) (subst (λ (z : List Terminal). Further gives ys (with_declared gives known y) z s) (sym same.1) others) in
    let all = further_fix gives xs ys (with_declared gives known x) h r s a b more semi tail semi-too in
    (λ i. same.0 i ∷ all.0 i, all.1)

file_begins : (gives : Bool) (known : List (List ℕ)) (x : InitDeclaratorView) (ts r : List Terminal) → IsFileDeclarator gives known x ts r → begins_declarator known ts ≡ true
file_begins gives known x ts r d = initialized_begins known (with_declared gives known x) x ts r d

file_no_word : (gives : Bool) (xs : List InitDeclaratorView) (known : List (List ℕ)) (ts r a : List Terminal) → FileDeclarators gives xs known ts r → IsSign p.Semicolon r a → NoWordAt known ts
file_no_word gives [] known ts r a same semi = end_no_word known ts (rw same at (ends_by semi refl))
file_no_word gives (x ∷ xs) known ts r a (b, one, more) semi = begins_no_word known ts (file_begins gives known x ts b one)

file_declarators_fix : (gives : Bool) (xs ys : List InitDeclaratorView) (known : List (List ℕ)) (ts r s a b : List Terminal) → FileDeclarators gives xs known ts r → IsSign p.Semicolon r a → FileDeclarators gives ys known ts s → IsSign p.Semicolon s b → (xs ≡ ys) × (r ≡ s)
file_declarators_fix gives [] [] known ts r s a b d semi e semi-too = (refl, d ∙ sym e)
file_declarators_fix gives [] (y ∷ ys) known ts r s a b d semi (f, two, others) semi-too = absurd (semicolon_begins known ts a (subst (λ (z : List Terminal). IsSign p.Semicolon z a) d semi) (file_begins gives known y ts f two))
file_declarators_fix gives (x ∷ xs) [] known ts r s a b (c, one, more) semi e semi-too = absurd (semicolon_begins known ts b (subst (λ (z : List Terminal). IsSign p.Semicolon z b) e semi-too) (file_begins gives known x ts c one))
file_declarators_fix gives (x ∷ xs) (y ∷ ys) known ts r s a b (c, one, more) semi (f, two, others) semi-too =
    let same = file_declarator_fix gives known x y ts c f one (further_ends gives xs (with_declared gives known x) c r a more semi) two (further_ends gives ys (with_declared gives known y) f s b others semi-too) in
    let names : with_declared gives known x ≡ with_declared gives known y = ap (with_declared gives known) same.0 in
    let tail : Further gives ys (with_declared gives known x) c s = subst (λ (z : List (List ℕ)). Further gives ys z c s) (sym names) (subst (λ (z : List Terminal). Further gives ys (with_declared gives known y) z s) (sym same.1) others) in
    let all = further_fix gives xs ys (with_declared gives known x) c r s a b more semi tail semi-too in
    (λ i. same.0 i ∷ all.0 i, all.1)

-- ---- external declarations

statement_list : StatementTrees → List StatementTree
statement_list NoStatement = []
statement_list (MoreStatements s more) = s ∷ statement_list more

list_of_statements : (xs : List StatementTree) → statement_list (statement_trees xs) ≡ xs
unfolding statement_list
list_of_statements [] = refl
list_of_statements (x ∷ xs) = ap (λ (v : List StatementTree). x ∷ v) (list_of_statements xs)

-- behind the declarators of a declaration no body stands
declared_apart : (gives : Bool) (xs : List InitDeclaratorView) (known : List (List ℕ)) (f : FunctionDeclaratorView) (ts r a s v : List Terminal) → FileDeclarators gives xs known ts r → IsSign p.Semicolon r a → IsFunction known f ts s → IsSign p.LeftBrace s v → ⊥
declared_apart gives [] known f ts r a s v d semi e opens = semicolon_begins known ts a (subst (λ (z : List Terminal). IsSign p.Semicolon z a) d semi) (function_begins known f ts s e)
declared_apart gives (x ∷ xs) known f ts r a s v (b, one, more) semi e opens = defined_apart known (with_declared gives known x) x f ts b s v one (further_ends gives xs (with_declared gives known x) b r a more semi) e opens

function_no_word : (known : List (List ℕ)) (f : FunctionDeclaratorView) (ts r : List Terminal) → IsFunction known f ts r → NoWordAt known ts
function_no_word known f ts r d = begins_no_word known ts (function_begins known f ts r d)

pub external_fix : (known : List (List ℕ)) (x y : ExternalTree) (ts r s : List Terminal) → IsExternal known x ts r → IsExternal known y ts s → (x ≡ y) × (r ≡ s)
external_fix known (Declared at ws xs) (Declared at-too vs ys) ts r s (place, a, b, spec, d, semi) (place-too, f, g, spec-too, e, semi-too) =
    let words = spec_fix ws vs known ts a f spec (file_no_word (is_typedef ws) xs known a b r d semi) spec-too (file_no_word (is_typedef vs) ys known f g s e semi-too) in
    let gives : is_typedef ws ≡ is_typedef vs = ap is_typedef words.0 in
    let moved : FileDeclarators (is_typedef vs) ys known a g = subst (λ (z : List Terminal). FileDeclarators (is_typedef vs) ys known z g) (sym words.1) e in
    let from : FileDeclarators (is_typedef ws) ys known a g = subst (λ (z : Bool). FileDeclarators z ys known a g) (sym gives) moved in
    let all = file_declarators_fix (is_typedef ws) xs ys known a b g r s d semi from semi-too in
    (λ i. Declared ((place ∙ sym place-too) i) (words.0 i) (all.0 i), next semi semi-too all.1)
external_fix known (Declared at ws xs) (Defined at-too vs f body) ts r s (place, a, b, spec, d, semi) (place-too, c, g, spec-too, e, block) =
    let words = spec_fix ws vs known ts a c spec (file_no_word (is_typedef ws) xs known a b r d semi) spec-too (function_no_word known f c g e) in
    absurd (declared_apart (is_typedef ws) xs known f a b r g block.inside d semi (subst (λ (z : List Terminal). IsFunction known f z g) (sym words.1) e) block.opens)
external_fix known (Defined at-too vs f body) (Declared at ws xs) ts r s (place-too, c, g, spec-too, e, block) (place, a, b, spec, d, semi) =
    let words = spec_fix ws vs known ts a c spec (file_no_word (is_typedef ws) xs known a b s d semi) spec-too (function_no_word known f c g e) in
    absurd (declared_apart (is_typedef ws) xs known f a b s g block.inside d semi (subst (λ (z : List Terminal). IsFunction known f z g) (sym words.1) e) block.opens)
external_fix known (Defined at ws f body) (Defined at-too vs h others) ts r s (place, a, b, spec, d, block) (place-too, c, g, spec-too, e, block-too) =
    let words = spec_fix ws vs known ts a c spec (function_no_word known f a b d) spec-too (function_no_word known h c g e) in
    let names = function_fix known f h a b g d (subst (λ (z : List Terminal). IsFunction known h z g) (sym words.1) e) in
    let inside : with_declared (is_typedef ws) known (Prototype f) ≡ with_declared (is_typedef vs) known (Prototype h) = λ i. with_declared (is_typedef (words.0 i)) known (Prototype (names.0 i)) in
    let moved : IsBlock (with_declared (is_typedef vs) known (Prototype h)) (statement_trees others) b s = subst (λ (z : List Terminal). IsBlock (with_declared (is_typedef vs) known (Prototype h)) (statement_trees others) z s) (sym names.1) block-too in
    let from : IsBlock (with_declared (is_typedef ws) known (Prototype f)) (statement_trees others) b s = subst (λ (z : List (List ℕ)). IsBlock z (statement_trees others) b s) (sym inside) moved in
    let bodies = block_fix (with_declared (is_typedef ws) known (Prototype f)) (statement_trees body) (statement_trees others) b r s block from in
    let all : body ≡ others = sym (list_of_statements body) ∙ ap statement_list bodies.0 ∙ list_of_statements others in
    (λ i. Defined ((place ∙ sym place-too) i) (words.0 i) (names.0 i) (all i), bodies.1)

-- ---- pieces and units

-- nothing derives from nothing
no_external : (known : List (List ℕ)) (x : ExternalTree) (r : List Terminal) → IsExternal known x [] r → ⊥
no_external known (Declared at ws xs) r (place, a, b, spec, d, semi) = spec_word (spec_trees ws) known [] a spec refl
no_external known (Defined at ws f body) r (place, a, b, spec, d, block) = spec_word (spec_trees ws) known [] a spec refl

no_piece : (known : List (List ℕ)) (x : ExternalTree) (ts : List Terminal) → ts ≡ [] → IsPiece known x (take (piece_length ts) ts) → ⊥
no_piece known x ts none piece = let here : IsPiece known x [] = rw none at piece in no_external known x [] here.derives

pieces_fix : (xs ys : List ExternalTree) (known : List (List ℕ)) (ts : List Terminal) → ArePieces xs known ts [] → ArePieces ys known ts [] → xs ≡ ys
pieces_fix [] [] known ts d e = refl
pieces_fix [] (y ∷ ys) known ts d e = absurd (no_piece known y ts (sym d) e.0)
pieces_fix (x ∷ xs) [] known ts d e = absurd (no_piece known x ts (sym e) d.0)
pieces_fix (x ∷ xs) (y ∷ ys) known ts (one, more) (two, others) =
    let same : x ≡ y = (external_fix known x y (take (piece_length ts) ts) [] [] one.derives two.derives).0 in
    let from : ArePieces ys (in_force known x) (drop (piece_length ts) ts) [] = subst (λ (z : ExternalTree). ArePieces ys (in_force known z) (drop (piece_length ts) ts) []) (sym same) others in
    let tail : xs ≡ ys = pieces_fix xs ys (in_force known x) (drop (piece_length ts) ts) more from in
    λ i. same i ∷ tail i

ok_same : {a b : List Terminal} {E : Type 0} {r : Result (List Terminal) E} → r ≡ Ok a → r ≡ Ok b → a ≡ b
ok_same {a} {b} {E} {r} one two = cc

pub one_tree : (model : Model) (tokens : List Token) (es ds : List ExternalTree) → IsUnit model tokens es → IsUnit model tokens ds → es ≡ ds
one_tree model tokens es ds one two =
    let same : one.terminals ≡ two.terminals = ok_same one.classes two.classes in
    pieces_fix es ds [] one.terminals one.pieces (subst (λ (z : List Terminal). ArePieces ds [] z []) (sym same) two.pieces)

-- ---- the first piece without a derivation

abbrev NoPieceAt : List (List ℕ) → List ExternalTree → List Terminal → Type 0
NoPieceAt known before rest = (e : ExternalTree) → IsPiece (in_force_behind known before) e (take (piece_length rest) rest) → ⊥

-- pieces with trees do not go past one that has none
refused_once : (xs ys : List ExternalTree) (known : List (List ℕ)) (ts r s : List Terminal) → ArePieces xs known ts r → NoPieceAt known xs r → ArePieces ys known ts s → NoPieceAt known ys s → r ≡ s
refused_once [] [] known ts r s d none e none-too = d ∙ sym e
refused_once [] (y ∷ ys) known ts r s d none e none-too = absurd (none y (subst (λ (z : List Terminal). IsPiece known y (take (piece_length z) z)) (sym d) e.0))
refused_once (x ∷ xs) [] known ts r s d none e none-too = absurd (none-too x (subst (λ (z : List Terminal). IsPiece known x (take (piece_length z) z)) (sym e) d.0))
refused_once (x ∷ xs) (y ∷ ys) known ts r s (one, more) none (two, others) none-too =
    let same : x ≡ y = (external_fix known x y (take (piece_length ts) ts) [] [] one.derives two.derives).0 in
    let from : ArePieces ys (in_force known x) (drop (piece_length ts) ts) s = subst (λ (z : ExternalTree). ArePieces ys (in_force known z) (drop (piece_length ts) ts) s) (sym same) others in
    let last : NoPieceAt (in_force known x) ys s = subst (λ (z : ExternalTree). NoPieceAt (in_force known z) ys s) (sym same) none-too in
    refused_once xs ys (in_force known x) (drop (piece_length ts) ts) r s more none from last

refused_apart : (xs ys : List ExternalTree) (known : List (List ℕ)) (ts r : List Terminal) → ArePieces xs known ts r → (r ≡ [] → ⊥) → NoPieceAt known xs r → ArePieces ys known ts [] → ⊥
refused_apart [] [] known ts r d some none e = some (d ∙ sym e)
refused_apart [] (y ∷ ys) known ts r d some none e = none y (subst (λ (z : List Terminal). IsPiece known y (take (piece_length z) z)) (sym d) e.0)
refused_apart (x ∷ xs) [] known ts r d some none e = no_piece known x ts (sym e) d.0
refused_apart (x ∷ xs) (y ∷ ys) known ts r (one, more) some none (two, others) =
    let same : x ≡ y = (external_fix known x y (take (piece_length ts) ts) [] [] one.derives two.derives).0 in
    let from : ArePieces ys (in_force known x) (drop (piece_length ts) ts) [] = subst (λ (z : ExternalTree). ArePieces ys (in_force known z) (drop (piece_length ts) ts) []) (sym same) others in
    refused_apart xs ys (in_force known x) (drop (piece_length ts) ts) r more some none from

pub one_refusal : (ts r s : List Terminal) → IsRefusedAt ts r → IsRefusedAt ts s → r ≡ s
one_refusal ts r s d e = refused_once d.before e.before [] ts r s d.derive d.none e.derive e.none

pub no_tree : (model : Model) (tokens : List Token) (ts r : List Terminal) (es : List ExternalTree) → classified model tokens ≡ Ok ts → IsRefusedAt ts r → IsUnit model tokens es → ⊥
no_tree model tokens ts r es is d e =
    let same : e.terminals ≡ ts = ok_same e.classes is in
    refused_apart d.before es [] ts r d.derive d.some d.none (subst (λ (z : List Terminal). ArePieces es [] z []) same e.pieces)
