-- The loops that read the items of blocks and further declarators, turn by turn. `xs` and `h` are what the turns
-- before found, `w` is what the whole loop reads, of `n` turns `t` are over.
use Rattle.std.proofs.Common.{◌≡◌, ℕ, zero, suc, ◌+◌, ◌-◌, ◌<◌, ◌≤◌, Bool, true, false, List, [], ◌∷◌, ◌++◌, cond, max, map, Option, Some, None, refl, sym, ap, ◌∙◌, arith}
use Rattle.std.proofs.lemmas.List.{append_assoc, append-nil}
use Rattle.c_layout.specs.DeclarationTrees.{InitDeclaratorView, StatementTree}
use Rattle.c_parser_tokens.specs.declared.terminals.Punctuator.TheVariants as p
use Rattle.c_parser_tokens.specs.declared.terminals.Symbol.TheVariants as symbol
use Rattle.c_parser_tokens.specs.declared.terminals.Terminal.{Terminal}
use Rattle.c_parser_expression_grammar.specs.Fronts.{first_symbol, behind_first}
use Rattle.c_parser_expression_grammar.specs.Readings.{is_comma, is_right_brace}
use Rattle.c_parser_declarations.specs.Grammar.DeclarationReaders.{file_declarator, initialized}
use Rattle.c_parser_declarations.specs.Grammar.Items.{Item, GotItem, item_of, after_item, one_more}
use Rattle.c_parser_declarations.specs.Grammar.SpecifierReaders.{is_semicolon}
use Rattle.c_parser_declarations.proofs.grammar.Turns.{front, front_more, begun}
use Rattle.c_parser.specs.Externals.{with_declared}
use Rattle.c_parser.specs.StatementReaders.{block_items, no_item}
use Rattle.c_parser.specs.UnitReaders.{further, no_declarator, behind_items}

one_left : (n t : ℕ) → t < n → n - t ≡ suc (n - (t + 1))
one_left n t low = omega arith

all_left : (n : ℕ) → n - 0 ≡ n
all_left n = omega arith

none_left : (n t : ℕ) → n ≤ t → n - t ≡ zero
none_left n t high = omega arith

-- ---- items of a block

pub record ItemsLeft (item : Item StatementTree) (n t : ℕ) (xs : List StatementTree) (h : ℕ) (a : List Terminal) (w : Option (GotItem (List StatementTree))) : Type 0 where
  pub reads : front xs h (block_items item (n - t) a) ≡ w

pub items_begun : {Y : Type 0} (view : Y → StatementTree) (items : List Y) {item : Item StatementTree} {n : ℕ} {a : List Terminal} → items ≡ [] → ItemsLeft item n 0 (map view items) 0 a (block_items item n a)
items_begun {Y} view items {item} {n} {a} none = rw none (record { reads = rw (all_left n) (begun (block_items item n a)) })

items_one : (item : Item StatementTree) (n t : ℕ) (a : List Terminal) (r : Option (GotItem StatementTree)) → t < n → is_right_brace (first_symbol a) ≡ false → item a ≡ r →
    block_items item (n - t) a ≡ after_item r (λ g. after_item (block_items item (n - (t + 1)) g.rest) (one_more g))
items_one item n t a r low off is = rw (one_left n t low, off, is) refl

pub items_turn : {item : Item StatementTree} {n t : ℕ} {xs ys : List StatementTree} {x : StatementTree} {h k m : ℕ} {a b : List Terminal} {w : Option (GotItem (List StatementTree))} → t < n → is_right_brace (first_symbol a) ≡ false → item a ≡ Some (item_of x k b) →
    ItemsLeft item n t xs h a w → ys ≡ xs ++ (x ∷ []) → m ≡ max h k → ItemsLeft item n (t + 1) ys m b w
items_turn {item} {n} {t} {xs} {ys} {x} {h} {k} {m} {a} {b} low off is so ys-is m-is =
    let step = items_one item n t a (Some (item_of x k b)) low off is in
    record { reads = rw (ys-is, m-is) (sym (front_more xs x h k b (block_items item (n - (t + 1)) b)) ∙ sym (ap (front xs h) step) ∙ so.reads) }

pub items_none : {item : Item StatementTree} {n t : ℕ} {xs : List StatementTree} {h : ℕ} {a : List Terminal} {w : Option (GotItem (List StatementTree))} → t < n → is_right_brace (first_symbol a) ≡ false → item a ≡ None → ItemsLeft item n t xs h a w → w ≡ None
items_none {item} {n} {t} {xs} {h} {a} low off none so = sym so.reads ∙ ap (front xs h) (items_one item n t a None low off none)

items_end : (item : Item StatementTree) (turns : ℕ) (a : List Terminal) → first_symbol a ≡ symbol.Punctuator p.RightBrace → block_items item turns a ≡ no_item a
items_end item zero a brace = rw brace refl
items_end item (suc turns) a brace = rw brace refl

ended : {X : Type 0} (xs : List X) (h : ℕ) (rest : List Terminal) → front xs h (Some (item_of [] 0 rest)) ≡ Some (item_of xs h rest)
ended xs h rest = let same : max h 0 ≡ h = omega arith in rw (append-nil xs, same) refl

pub items_stop : {item : Item StatementTree} {n t : ℕ} {xs : List StatementTree} {h : ℕ} {a b : List Terminal} {w : Option (GotItem (List StatementTree))} → first_symbol a ≡ symbol.Punctuator p.RightBrace → b ≡ behind_first a → ItemsLeft item n t xs h a w → w ≡ Some (item_of xs h b)
items_stop {item} {n} {t} {xs} {h} {a} {b} brace behind so = rw behind (sym so.reads ∙ ap (front xs h) (items_end item (n - t) a brace) ∙ ended xs h (behind_first a))

pub items_over : {item : Item StatementTree} {n t : ℕ} {xs : List StatementTree} {h : ℕ} {a : List Terminal} {w : Option (GotItem (List StatementTree))} → n ≤ t → is_right_brace (first_symbol a) ≡ false → ItemsLeft item n t xs h a w → w ≡ None
items_over {item} {n} {t} {xs} {h} {a} high off so = let over : block_items item (n - t) a ≡ None = rw (none_left n t high, off) refl in sym so.reads ∙ ap (front xs h) over

-- ---- further declarators; `old` stood in the list before

pub record FurtherLeft (gives : Bool) (b n t : ℕ) (names : List (List ℕ)) (xs : List InitDeclaratorView) (h : ℕ) (a : List Terminal) (w : Option (GotItem (List InitDeclaratorView))) : Type 0 where
  pub reads : front xs h (further gives b (n - t) names a) ≡ w

as_front : {X : Type 0} (xs : List X) (r : Option (GotItem (List X))) → front xs 0 r ≡ behind_items xs r
as_front xs None = refl
as_front xs (Some g) = let same : max 0 g.height ≡ g.height = omega arith in rw same refl

pub further_begun : {gives : Bool} {b n : ℕ} {names : List (List ℕ)} {xs : List InitDeclaratorView} {a : List Terminal} → FurtherLeft gives b n 0 names xs 0 a (behind_items xs (further gives b n names a))
further_begun {gives} {b} {n} {names} {xs} {a} = record { reads = rw (all_left n) (as_front xs (further gives b n names a)) }

further_one : (gives : Bool) (b n t : ℕ) (names : List (List ℕ)) (d : InitDeclaratorView) (k : ℕ) (a c e : List Terminal) (r : Option (GotItem InitDeclaratorView)) → t < n → first_symbol a ≡ symbol.Punctuator p.Comma → c ≡ behind_first a →
    file_declarator names b c ≡ Some (item_of d k e) → initialized (with_declared gives names d) b (item_of d k e) ≡ r →
    further gives b (n - t) names a ≡ after_item r (λ x. after_item (further gives b (n - (t + 1)) (with_declared gives names d) x.rest) (one_more x))
further_one gives b n t names d k a c e r low comma behind one value = rw (one_left n t low, comma, sym behind, one, value) refl

further_nothing : (gives : Bool) (b n t : ℕ) (names : List (List ℕ)) (a c : List Terminal) → t < n → first_symbol a ≡ symbol.Punctuator p.Comma → c ≡ behind_first a → file_declarator names b c ≡ None → further gives b (n - t) names a ≡ None
further_nothing gives b n t names a c low comma behind none = rw (one_left n t low, comma, sym behind, none) refl

pub further_turn : {gives : Bool} {b n t : ℕ} {names more : List (List ℕ)} {xs ys : List InitDeclaratorView} {d x : InitDeclaratorView} {h j k m : ℕ} {a c e f : List Terminal} {w : Option (GotItem (List InitDeclaratorView))} → t < n →
    first_symbol a ≡ symbol.Punctuator p.Comma → c ≡ behind_first a → file_declarator names b c ≡ Some (item_of d k e) → more ≡ with_declared gives names d → initialized more b (item_of d k e) ≡ Some (item_of x j f) →
    FurtherLeft gives b n t names xs h a w → ys ≡ xs ++ (x ∷ []) → m ≡ max h j → FurtherLeft gives b n (t + 1) more ys m f w
further_turn {gives} {b} {n} {t} {names} {more} {xs} {ys} {d} {x} {h} {j} {k} {m} {a} {c} {e} {f} low comma behind one names-are value so ys-is m-is =
    let step = further_one gives b n t names d k a c e (Some (item_of x j f)) low comma behind one (rw names-are at value) in
    record { reads = rw (ys-is, m-is, names-are) (sym (front_more xs x h j f (further gives b (n - (t + 1)) (with_declared gives names d) f)) ∙ sym (ap (front xs h) step) ∙ so.reads) }

pub further_none : {gives : Bool} {b n t : ℕ} {names : List (List ℕ)} {xs : List InitDeclaratorView} {h : ℕ} {a c : List Terminal} {w : Option (GotItem (List InitDeclaratorView))} → t < n → first_symbol a ≡ symbol.Punctuator p.Comma → c ≡ behind_first a →
    file_declarator names b c ≡ None → FurtherLeft gives b n t names xs h a w → w ≡ None
further_none {gives} {b} {n} {t} {names} {xs} {h} {a} {c} low comma behind none so = sym so.reads ∙ ap (front xs h) (further_nothing gives b n t names a c low comma behind none)

pub further_bad : {gives : Bool} {b n t : ℕ} {names more : List (List ℕ)} {xs : List InitDeclaratorView} {d : InitDeclaratorView} {h k : ℕ} {a c e : List Terminal} {w : Option (GotItem (List InitDeclaratorView))} → t < n → first_symbol a ≡ symbol.Punctuator p.Comma →
    c ≡ behind_first a → file_declarator names b c ≡ Some (item_of d k e) → more ≡ with_declared gives names d → initialized more b (item_of d k e) ≡ None → FurtherLeft gives b n t names xs h a w → w ≡ None
further_bad {gives} {b} {n} {t} {names} {more} {xs} {d} {h} {k} {a} {c} {e} low comma behind one names-are value so =
    sym so.reads ∙ ap (front xs h) (further_one gives b n t names d k a c e None low comma behind one (rw names-are at value))

further_end : (gives : Bool) (b turns : ℕ) (names : List (List ℕ)) (a : List Terminal) → is_comma (first_symbol a) ≡ false → further gives b turns names a ≡ no_declarator a
further_end gives b zero names a off = refl
further_end gives b (suc turns) names a off = rw off refl

further_over : (gives : Bool) (b n t : ℕ) (names : List (List ℕ)) (a : List Terminal) → n ≤ t → further gives b (n - t) names a ≡ no_declarator a
further_over gives b n t names a high = rw (none_left n t high) refl

semicolon_ends : (a rest : List Terminal) → first_symbol a ≡ symbol.Punctuator p.Semicolon → rest ≡ behind_first a → no_declarator a ≡ Some (item_of [] 0 rest)
semicolon_ends a rest semi behind = rw (semi, behind) refl

no_end : (a : List Terminal) → is_semicolon (first_symbol a) ≡ false → no_declarator a ≡ None
no_end a off = rw off refl

pub further_stop : {gives : Bool} {b n t : ℕ} {names : List (List ℕ)} {xs : List InitDeclaratorView} {h : ℕ} {a rest : List Terminal} {w : Option (GotItem (List InitDeclaratorView))} → is_comma (first_symbol a) ≡ false → first_symbol a ≡ symbol.Punctuator p.Semicolon →
    rest ≡ behind_first a → FurtherLeft gives b n t names xs h a w → w ≡ Some (item_of xs h rest)
further_stop {gives} {b} {n} {t} {names} {xs} {h} {a} {rest} off semi behind so = sym so.reads ∙ ap (front xs h) (further_end gives b (n - t) names a off ∙ semicolon_ends a rest semi behind) ∙ ended xs h rest

pub further_unended : {gives : Bool} {b n t : ℕ} {names : List (List ℕ)} {xs : List InitDeclaratorView} {h : ℕ} {a : List Terminal} {w : Option (GotItem (List InitDeclaratorView))} → is_comma (first_symbol a) ≡ false → is_semicolon (first_symbol a) ≡ false →
    FurtherLeft gives b n t names xs h a w → w ≡ None
further_unended {gives} {b} {n} {t} {names} {xs} {h} {a} off none so = sym so.reads ∙ ap (front xs h) (further_end gives b (n - t) names a off ∙ no_end a none)

pub further_last : {gives : Bool} {b n t : ℕ} {names : List (List ℕ)} {xs : List InitDeclaratorView} {h : ℕ} {a rest : List Terminal} {w : Option (GotItem (List InitDeclaratorView))} → n ≤ t → first_symbol a ≡ symbol.Punctuator p.Semicolon → rest ≡ behind_first a →
    FurtherLeft gives b n t names xs h a w → w ≡ Some (item_of xs h rest)
further_last {gives} {b} {n} {t} {names} {xs} {h} {a} {rest} high semi behind so = sym so.reads ∙ ap (front xs h) (further_over gives b n t names a high ∙ semicolon_ends a rest semi behind) ∙ ended xs h rest

pub further_endless : {gives : Bool} {b n t : ℕ} {names : List (List ℕ)} {xs : List InitDeclaratorView} {h : ℕ} {a : List Terminal} {w : Option (GotItem (List InitDeclaratorView))} → n ≤ t → is_semicolon (first_symbol a) ≡ false → FurtherLeft gives b n t names xs h a w → w ≡ None
further_endless {gives} {b} {n} {t} {names} {xs} {h} {a} high none so = sym so.reads ∙ ap (front xs h) (further_over gives b n t names a high ∙ no_end a none)
