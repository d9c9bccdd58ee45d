-- What the readers of external declarations as definitions answer, step by step.
use Rattle.std.proofs.Common.{◌≡◌, ℕ, suc, ◌+◌, ◌≤◌, Bool, true, false, List, [], ◌∷◌, length, max, Option, Some, None, refl, sym, ap, ◌∙◌, arith}
use Rattle.cc_base.specs.declared.diagnostics.Place.{Place}
use Rattle.c_layout.specs.DeclarationTrees.{SpecTree, spec_trees, StatementTree, FunctionDeclaratorView, InitDeclaratorView, Prototype, Object, Initialized, ExternalTree, Declared, Defined}
use Rattle.c_parser_tokens.specs.declared.terminals.Punctuator.TheVariants as p
use Rattle.c_parser_tokens.specs.declared.terminals.Symbol.TheVariants as symbol
use Rattle.c_parser_tokens.specs.declared.terminals.Terminal.{Terminal}
use Rattle.c_parser_expression_grammar.specs.Fronts.{first_symbol, first_place, behind_first, IsSign}
use Rattle.c_parser_expression_grammar.specs.Readings.{is_left_brace}
use Rattle.c_parser_declarations.specs.Grammar.DeclarationReaders.{file_declarator, initialized}
use Rattle.c_parser_declarations.specs.Grammar.Items.{GotItem, item_of, after_item, one_more}
use Rattle.c_parser_declarations.specs.Grammar.SpecifierReaders.{raised, is_semicolon, specifiers}
use Rattle.c_parser_declarations.specs.Grammar.StorageClasses.{is_typedef}
use Rattle.c_parser_declarations.proofs.grammar.Reading.{inner_is, words_listed}
use Rattle.c_parser.specs.Externals.{with_declared}
use Rattle.c_parser.specs.StatementReaders.{block, statement_inside}
use Rattle.c_parser.specs.UnitReaders.{further, declaration_of, declaration_named, definition_of, definition_within, behind_declarator, external, within, behind_items}

-- ---- declarations

same_max : (h k m : ℕ) → max h (max k m) ≡ max (max h k) m
same_max h k m = omega arith

joined : (b : ℕ) (at : Place) (xs : List SpecTree) (h : ℕ) (x : GotItem InitDeclaratorView) (r : Option (GotItem (List InitDeclaratorView))) →
    after_item (after_item r (one_more x)) (declaration_of b at (item_of (spec_trees xs) h [])) ≡ after_item (behind_items (x.item ∷ []) r) (λ ds. raised (suc b) (Declared at xs ds.item) (max (max h x.height) ds.height) ds.rest)
joined b at xs h x None = refl
joined b at xs h x (Some s) = rw (words_listed xs, same_max h x.height s.height) refl

pub declaration_read : (b : ℕ) {budget : ℕ} (named : List (List ℕ)) (at : Place) (xs : List SpecTree) (h : ℕ) (d x : GotItem InitDeclaratorView) (t : Option (GotItem (List InitDeclaratorView))) → b + 1 ≡ budget → initialized named b d ≡ Some x →
    behind_items (x.item ∷ []) (further (is_typedef xs) b (length x.rest) named x.rest) ≡ t →
    within budget (λ c. declaration_named c named at (item_of (spec_trees xs) h []) d) ≡ after_item t (λ ds. raised budget (Declared at xs ds.item) (max (max h x.height) ds.height) ds.rest)
declaration_read b {budget} named at xs h d x t inside first others =
    let step : within budget (λ c. declaration_named c named at (item_of (spec_trees xs) h []) d) ≡ after_item (after_item (further (is_typedef xs) b (length x.rest) named x.rest) (one_more x)) (declaration_of b at (item_of (spec_trees xs) h [])) =
    rw (inner_is inside, first, words_listed xs) refl in
    step ∙ joined b at xs h x (further (is_typedef xs) b (length x.rest) named x.rest) ∙ rw (inner_is inside, others) refl

-- ---- definitions of functions

pub definition_read : (known : List (List ℕ)) (b : ℕ) {budget : ℕ} (at : Place) (xs : List SpecTree) (h : ℕ) (f : FunctionDeclaratorView) (k : ℕ) (ts : List Terminal) (r : Option (GotItem (List StatementTree))) → b + 1 ≡ budget → block known b (statement_inside known b) ts ≡ r →
    definition_within budget known at (item_of (spec_trees xs) h []) (Prototype f) k ts ≡ after_item r (λ body. raised budget (Defined at xs f body.item) (max (max h k) body.height) body.rest)
definition_read known b {budget} at xs h f k ts None inside body = rw (inner_is inside, body) refl
definition_read known b {budget} at xs h f k ts (Some g) inside body = rw (inner_is inside, body, words_listed xs) refl

same_definition : (b : ℕ) (known : List (List ℕ)) (at : Place) (xs : List SpecTree) (h : ℕ) (d : InitDeclaratorView) (k : ℕ) (ts : List Terminal) → definition_of b known at (item_of (spec_trees xs) h []) d k ts ≡ definition_within (suc b) known at (item_of (spec_trees xs) h []) d k ts
same_definition b known at xs h (Prototype f) k ts = refl
same_definition b known at xs h (Object d) k ts = refl
same_definition b known at xs h (Initialized d equals i) k ts = refl

-- ---- behind specifiers

pub nothing_named : (known : List (List ℕ)) (b : ℕ) {budget : ℕ} (at : Place) (xs : List SpecTree) (h : ℕ) (ts : List Terminal) → b + 1 ≡ budget → file_declarator known b ts ≡ None →
    within budget (λ c. after_item (file_declarator known c ts) (behind_declarator c known at (item_of (spec_trees xs) h []))) ≡ None
nothing_named known b {budget} at xs h ts inside none = rw (inner_is inside, none) refl

pub with_definition : (known : List (List ℕ)) (b : ℕ) {budget : ℕ} (at : Place) (xs : List SpecTree) (h : ℕ) (ts : List Terminal) (d : GotItem InitDeclaratorView) (more : List (List ℕ)) (r : Option (GotItem ExternalTree)) → b + 1 ≡ budget → file_declarator known b ts ≡ Some d →
    first_symbol d.rest ≡ symbol.Punctuator p.LeftBrace → more ≡ with_declared (is_typedef xs) known d.item → definition_within budget more at (item_of (spec_trees xs) h []) d.item d.height d.rest ≡ r →
    within budget (λ c. after_item (file_declarator known c ts) (behind_declarator c known at (item_of (spec_trees xs) h []))) ≡ r
with_definition known b {budget} at xs h ts d more r inside name brace more-is body =
    let step : within budget (λ c. after_item (file_declarator known c ts) (behind_declarator c known at (item_of (spec_trees xs) h []))) ≡ definition_of b (with_declared (is_typedef xs) known d.item) at (item_of (spec_trees xs) h []) d.item d.height d.rest =
    rw (inner_is inside, name, brace, words_listed xs) refl in
    step ∙ same_definition b (with_declared (is_typedef xs) known d.item) at xs h d.item d.height d.rest ∙ rw (more-is, inner_is inside) at body

pub with_declaration : (known : List (List ℕ)) (b : ℕ) {budget : ℕ} (at : Place) (xs : List SpecTree) (h : ℕ) (ts : List Terminal) (d : GotItem InitDeclaratorView) (more : List (List ℕ)) (r : Option (GotItem ExternalTree)) → b + 1 ≡ budget → file_declarator known b ts ≡ Some d →
    is_left_brace (first_symbol d.rest) ≡ false → more ≡ with_declared (is_typedef xs) known d.item → within budget (λ c. declaration_named c more at (item_of (spec_trees xs) h []) d) ≡ r →
    within budget (λ c. after_item (file_declarator known c ts) (behind_declarator c known at (item_of (spec_trees xs) h []))) ≡ r
with_declaration known b {budget} at xs h ts d more r inside name off more-is all =
    let step : within budget (λ c. after_item (file_declarator known c ts) (behind_declarator c known at (item_of (spec_trees xs) h []))) ≡ declaration_named b (with_declared (is_typedef xs) known d.item) at (item_of (spec_trees xs) h []) d =
    rw (inner_is inside, name, off, words_listed xs) refl in
    step ∙ rw (more-is, inner_is inside) at all

-- ---- external declarations

pub external_nameless : (known : List (List ℕ)) (b : ℕ) {budget : ℕ} (ts : List Terminal) (at : Place) (xs : List SpecTree) (h : ℕ) {a c : List Terminal} → b + 1 ≡ budget → at ≡ first_place ts → specifiers known b ts ≡ Some (item_of (spec_trees xs) h a) → IsSign p.Semicolon a c →
    external known budget ts ≡ raised budget (Declared at xs []) h c
external_nameless known b {budget} ts at xs h {a} {c} inside place words semi = rw (place, inner_is inside, words, semi.symbol, semi.behind, words_listed xs) refl

pub external_with : (known : List (List ℕ)) (b : ℕ) {budget : ℕ} (ts : List Terminal) (xs : List SpecTree) (h : ℕ) (a : List Terminal) (r : Option (GotItem ExternalTree)) → b + 1 ≡ budget → specifiers known b ts ≡ Some (item_of (spec_trees xs) h a) → is_semicolon (first_symbol a) ≡ false →
    within budget (λ c. after_item (file_declarator known c a) (behind_declarator c known (first_place ts) (item_of (spec_trees xs) h []))) ≡ r → external known budget ts ≡ r
external_with known b {budget} ts xs h a r inside words off all =
    let step : external known budget ts ≡ after_item (file_declarator known b a) (behind_declarator b known (first_place ts) (item_of (spec_trees xs) h [])) = rw (inner_is inside, words, off) refl in
    step ∙ rw (inner_is inside) at all
