-- The loops that read lists, turn by turn. `xs` and `h` are what the turns before found, `w` is what the whole loop
-- reads, of `n` turns `t` are over.
use Rattle.std.proofs.Common.{◌≡◌, ℕ, zero, suc, ◌+◌, ◌-◌, ◌<◌, ◌≤◌, Bool, true, false, List, [], ◌∷◌, ◌++◌, cond, max, map, Option, Some, None, refl, sym, ap, ◌∙◌, arith}
use Rattle.std.proofs.lemmas.List.{append_assoc, append-nil}
use Rattle.c_layout.specs.DeclarationTrees.{SpecTree, SpecTrees, NoWord, MoreWords, SuffixView, spec_trees}
use Rattle.c_parser_tokens.specs.declared.terminals.Punctuator.TheVariants as p
use Rattle.c_parser_tokens.specs.declared.terminals.Symbol.TheVariants as symbol
use Rattle.c_parser_tokens.specs.declared.terminals.Terminal.{Terminal}
use Rattle.c_parser_expression_grammar.specs.ExpressionReaders.{Readers}
use Rattle.c_parser_expression_grammar.specs.Fronts.{first_symbol, behind_first, begins_specifiers}
use Rattle.c_parser_expression_grammar.specs.Readings.{is_comma, is_left_bracket, is_right_brace}
use Rattle.c_parser_declarations.specs.Grammar.DeclaratorReaders.{GotSuffixes, suffix, suffixes, climbs, with_suffix, after_suffixes}
use Rattle.c_parser_declarations.specs.Grammar.Items.{Item, GotItem, item_of, after_item, one_more, last_one, listed, braced, chained}
use Rattle.c_parser_declarations.specs.Grammar.SpecifierReaders.{words, no_word, more_words}

one_left : (n t : ℕ) → t < n → n - t ≡ suc (n - (t + 1))
one_left n t low = omega arith

all_left : (n : ℕ) → n - 0 ≡ n
all_left n = omega arith

none_left : (n t : ℕ) → n ≤ t → n - t ≡ zero
none_left n t high = omega arith

-- ---- items behind those that were read

abbrev pub front : {X : Type 0} → List X → ℕ → Option (GotItem (List X)) → Option (GotItem (List X))
front xs h None = None
front xs h (Some g) = Some (item_of (xs ++ g.item) (max h g.height) g.rest)

same_max : (h k m : ℕ) → max h (max k m) ≡ max (max h k) m
same_max h k m = omega arith

pub front_more : {X : Type 0} (xs : List X) (x : X) (h k : ℕ) (b : List Terminal) (r : Option (GotItem (List X))) → front xs h (after_item r (one_more (item_of x k b))) ≡ front (xs ++ (x ∷ [])) (max h k) r
front_more xs x h k b None = refl
front_more xs x h k b (Some g) = rw (append_assoc xs (x ∷ []) g.item, same_max h k g.height) refl

front_none : {X : Type 0} (xs : List X) (h : ℕ) {r w : Option (GotItem (List X))} → front xs h r ≡ w → r ≡ None → w ≡ None
front_none xs h so none = sym so ∙ ap (front xs h) none

front_some : {X : Type 0} (xs : List X) (h : ℕ) {r w : Option (GotItem (List X))} {g : GotItem (List X)} → front xs h r ≡ w → r ≡ Some g → w ≡ Some (item_of (xs ++ g.item) (max h g.height) g.rest)
front_some xs h so some = sym so ∙ ap (front xs h) some

pub begun : {X : Type 0} (r : Option (GotItem (List X))) → front [] 0 r ≡ r
begun None = refl
begun (Some g) = let same : max 0 g.height ≡ g.height = omega arith in rw same refl

-- ---- with a comma between any two

-- what is left of the loop goes on to what the whole loop reads
pub record ListedLeft {X : Type 0} (item : Item X) (n t : ℕ) (xs : List X) (h : ℕ) (a : List Terminal) (w : Option (GotItem (List X))) : Type 0 where
  pub reads : front xs h (listed item (n - t) a) ≡ w

pub listed_begun : {X Y : Type 0} (view : Y → X) (items : List Y) {item : Item X} {n : ℕ} {a : List Terminal} → items ≡ [] → ListedLeft item n 0 (map view items) 0 a (listed item n a)
listed_begun {X} {Y} view items {item} {n} {a} none = rw none (record { reads = rw (all_left n) (begun (listed item n a)) })

listed_one : {X : Type 0} (item : Item X) (n t : ℕ) (x : X) (k : ℕ) (a b : List Terminal) → t < n → item a ≡ Some (item_of x k b) →
    listed item (n - t) a ≡ cond (is_comma (first_symbol b)) (after_item (listed item (n - (t + 1)) (behind_first b)) (one_more (item_of x k b))) (Some (item_of (x ∷ []) k b))
listed_one item n t x k a b low one = rw (one_left n t low, one) refl

listed_open : {X : Type 0} (item : Item X) (n t : ℕ) (a : List Terminal) → t < n → item a ≡ None → listed item (n - t) a ≡ None
listed_open item n t a low none = rw (one_left n t low, none) refl

pub listed_turn : {X : Type 0} {item : Item X} {n t : ℕ} {xs ys : List X} {x : X} {h k m : ℕ} {a b c : List Terminal} {w : Option (GotItem (List X))} → t < n → item a ≡ Some (item_of x k b) → first_symbol b ≡ symbol.Punctuator p.Comma → c ≡ behind_first b →
    ListedLeft item n t xs h a w → ys ≡ xs ++ (x ∷ []) → m ≡ max h k → ListedLeft item n (t + 1) ys m c w
listed_turn {X} {item} {n} {t} {xs} {ys} {x} {h} {k} {m} {a} {b} {c} low one comma behind so ys-is m-is =
    let step = listed_one item n t x k a b low one in
    record { reads = rw (ys-is, m-is, behind) (sym (front_more xs x h k b (listed item (n - (t + 1)) (behind_first b))) ∙ sym (ap (front xs h) (rw comma at step)) ∙ so.reads) }

pub listed_last : {X : Type 0} {item : Item X} {n t : ℕ} {xs ys : List X} {x : X} {h k m : ℕ} {a b : List Terminal} {w : Option (GotItem (List X))} → t < n → item a ≡ Some (item_of x k b) → is_comma (first_symbol b) ≡ false →
    ListedLeft item n t xs h a w → ys ≡ xs ++ (x ∷ []) → m ≡ max h k → w ≡ Some (item_of ys m b)
listed_last {X} {item} {n} {t} {xs} {ys} {x} {h} {k} {m} {a} {b} low one off so ys-is m-is =
    let step = listed_one item n t x k a b low one in
    rw (ys-is, m-is) (front_some xs h so.reads (rw off at step))

pub listed_none : {X : Type 0} {item : Item X} {n t : ℕ} {xs : List X} {h : ℕ} {a : List Terminal} {w : Option (GotItem (List X))} → t < n → item a ≡ None → ListedLeft item n t xs h a w → w ≡ None
listed_none {X} {item} {n} {t} {xs} {h} {a} low none so = front_none xs h so.reads (listed_open item n t a low none)

pub listed_over : {X : Type 0} {item : Item X} {n t : ℕ} {xs : List X} {h : ℕ} {a : List Terminal} {w : Option (GotItem (List X))} → n ≤ t → ListedLeft item n t xs h a w → w ≡ None
listed_over {X} {item} {n} {t} {xs} {h} {a} high so = let over : listed item (n - t) a ≡ None = rw (none_left n t high) refl in front_none xs h so.reads over

-- ---- in braces

-- what is left of the loop goes on to what the whole loop reads
pub record BracedLeft {X : Type 0} (item : Item X) (n t : ℕ) (xs : List X) (h : ℕ) (a : List Terminal) (w : Option (GotItem (List X))) : Type 0 where
  pub reads : front xs h (braced item (n - t) a) ≡ w

pub braced_begun : {X Y : Type 0} (view : Y → X) (items : List Y) {item : Item X} {n : ℕ} {a : List Terminal} → items ≡ [] → BracedLeft item n 0 (map view items) 0 a (braced item n a)
braced_begun {X} {Y} view items {item} {n} {a} none = rw none (record { reads = rw (all_left n) (begun (braced item n a)) })

braced_one : {X : Type 0} (item : Item X) (n t : ℕ) (x : X) (k : ℕ) (a b : List Terminal) → t < n → item a ≡ Some (item_of x k b) →
    braced item (n - t) a ≡ cond (is_comma (first_symbol b)) (cond (is_right_brace (first_symbol (behind_first b))) (last_one (item_of x k b) (behind_first (behind_first b))) (after_item (braced item (n - (t + 1)) (behind_first b)) (one_more (item_of x k b))))
    (cond (is_right_brace (first_symbol b)) (last_one (item_of x k b) (behind_first b)) None)
braced_one item n t x k a b low one = rw (one_left n t low, one) refl

braced_open : {X : Type 0} (item : Item X) (n t : ℕ) (a : List Terminal) → t < n → item a ≡ None → braced item (n - t) a ≡ None
braced_open item n t a low none = rw (one_left n t low, none) refl

pub braced_turn : {X : Type 0} {item : Item X} {n t : ℕ} {xs ys : List X} {x : X} {h k m : ℕ} {a b c : List Terminal} {w : Option (GotItem (List X))} → t < n → item a ≡ Some (item_of x k b) → first_symbol b ≡ symbol.Punctuator p.Comma → c ≡ behind_first b →
    is_right_brace (first_symbol c) ≡ false → BracedLeft item n t xs h a w → ys ≡ xs ++ (x ∷ []) → m ≡ max h k → BracedLeft item n (t + 1) ys m c w
braced_turn {X} {item} {n} {t} {xs} {ys} {x} {h} {k} {m} {a} {b} {c} low one comma behind off so ys-is m-is =
    let step = braced_one item n t x k a b low one in
    let brace : is_right_brace (first_symbol (behind_first b)) ≡ false = rw behind at off in
    record { reads = rw (ys-is, m-is, behind) (sym (front_more xs x h k b (braced item (n - (t + 1)) (behind_first b))) ∙ sym (ap (front xs h) (rw (comma, brace) at step)) ∙ so.reads) }

-- a comma stands before the `}`
pub braced_trailed : {X : Type 0} {item : Item X} {n t : ℕ} {xs ys : List X} {x : X} {h k m : ℕ} {a b c d : List Terminal} {w : Option (GotItem (List X))} → t < n → item a ≡ Some (item_of x k b) → first_symbol b ≡ symbol.Punctuator p.Comma → c ≡ behind_first b →
    first_symbol c ≡ symbol.Punctuator p.RightBrace → d ≡ behind_first c → BracedLeft item n t xs h a w → ys ≡ xs ++ (x ∷ []) → m ≡ max h k → w ≡ Some (item_of ys m d)
braced_trailed {X} {item} {n} {t} {xs} {ys} {x} {h} {k} {m} {a} {b} {c} {d} low one comma behind brace end so ys-is m-is =
    let step = braced_one item n t x k a b low one in
    let closes : first_symbol (behind_first b) ≡ symbol.Punctuator p.RightBrace = rw behind at brace in
    rw (ys-is, m-is, end, behind) (front_some xs h so.reads (rw (comma, closes) at step))

pub braced_last : {X : Type 0} {item : Item X} {n t : ℕ} {xs ys : List X} {x : X} {h k m : ℕ} {a b c : List Terminal} {w : Option (GotItem (List X))} → t < n → item a ≡ Some (item_of x k b) → is_comma (first_symbol b) ≡ false →
    first_symbol b ≡ symbol.Punctuator p.RightBrace → c ≡ behind_first b → BracedLeft item n t xs h a w → ys ≡ xs ++ (x ∷ []) → m ≡ max h k → w ≡ Some (item_of ys m c)
braced_last {X} {item} {n} {t} {xs} {ys} {x} {h} {k} {m} {a} {b} {c} low one off brace end so ys-is m-is =
    let step = braced_one item n t x k a b low one in
    rw (ys-is, m-is, end) (front_some xs h so.reads (rw (brace) at step))

pub braced_unclosed : {X : Type 0} {item : Item X} {n t : ℕ} {xs : List X} {x : X} {h k : ℕ} {a b : List Terminal} {w : Option (GotItem (List X))} → t < n → item a ≡ Some (item_of x k b) → is_comma (first_symbol b) ≡ false →
    is_right_brace (first_symbol b) ≡ false → BracedLeft item n t xs h a w → w ≡ None
braced_unclosed {X} {item} {n} {t} {xs} {x} {h} {k} {a} {b} low one off brace so = let step = braced_one item n t x k a b low one in front_none xs h so.reads (rw (off, brace) at step)

pub braced_none : {X : Type 0} {item : Item X} {n t : ℕ} {xs : List X} {h : ℕ} {a : List Terminal} {w : Option (GotItem (List X))} → t < n → item a ≡ None → BracedLeft item n t xs h a w → w ≡ None
braced_none {X} {item} {n} {t} {xs} {h} {a} low none so = front_none xs h so.reads (braced_open item n t a low none)

pub braced_over : {X : Type 0} {item : Item X} {n t : ℕ} {xs : List X} {h : ℕ} {a : List Terminal} {w : Option (GotItem (List X))} → n ≤ t → BracedLeft item n t xs h a w → w ≡ None
braced_over {X} {item} {n} {t} {xs} {h} {a} high so = let over : braced item (n - t) a ≡ None = rw (none_left n t high) refl in front_none xs h so.reads over

-- ---- one behind another up to a `}`

-- what is left of the loop goes on to what the whole loop reads
pub record ChainedLeft {X : Type 0} (item : Item X) (n t : ℕ) (xs : List X) (h : ℕ) (a : List Terminal) (w : Option (GotItem (List X))) : Type 0 where
  pub reads : front xs h (chained item (n - t) a) ≡ w

pub chained_begun : {X Y : Type 0} (view : Y → X) (items : List Y) {item : Item X} {n : ℕ} {a : List Terminal} → items ≡ [] → ChainedLeft item n 0 (map view items) 0 a (chained item n a)
chained_begun {X} {Y} view items {item} {n} {a} none = rw none (record { reads = rw (all_left n) (begun (chained item n a)) })

chained_one : {X : Type 0} (item : Item X) (n t : ℕ) (x : X) (k : ℕ) (a b : List Terminal) → t < n → item a ≡ Some (item_of x k b) →
    chained item (n - t) a ≡ cond (is_right_brace (first_symbol b)) (last_one (item_of x k b) (behind_first b)) (after_item (chained item (n - (t + 1)) b) (one_more (item_of x k b)))
chained_one item n t x k a b low one = rw (one_left n t low, one) refl

chained_open : {X : Type 0} (item : Item X) (n t : ℕ) (a : List Terminal) → t < n → item a ≡ None → chained item (n - t) a ≡ None
chained_open item n t a low none = rw (one_left n t low, none) refl

pub chained_turn : {X : Type 0} {item : Item X} {n t : ℕ} {xs ys : List X} {x : X} {h k m : ℕ} {a b c : List Terminal} {w : Option (GotItem (List X))} → t < n → item a ≡ Some (item_of x k b) → is_right_brace (first_symbol b) ≡ false → c ≡ b →
    ChainedLeft item n t xs h a w → ys ≡ xs ++ (x ∷ []) → m ≡ max h k → ChainedLeft item n (t + 1) ys m c w
chained_turn {X} {item} {n} {t} {xs} {ys} {x} {h} {k} {m} {a} {b} {c} low one off same so ys-is m-is =
    let step = chained_one item n t x k a b low one in
    record { reads = rw (ys-is, m-is, same) (sym (front_more xs x h k b (chained item (n - (t + 1)) b)) ∙ sym (ap (front xs h) (rw off at step)) ∙ so.reads) }

pub chained_last : {X : Type 0} {item : Item X} {n t : ℕ} {xs ys : List X} {x : X} {h k m : ℕ} {a b c : List Terminal} {w : Option (GotItem (List X))} → t < n → item a ≡ Some (item_of x k b) → first_symbol b ≡ symbol.Punctuator p.RightBrace → c ≡ behind_first b →
    ChainedLeft item n t xs h a w → ys ≡ xs ++ (x ∷ []) → m ≡ max h k → w ≡ Some (item_of ys m c)
chained_last {X} {item} {n} {t} {xs} {ys} {x} {h} {k} {m} {a} {b} {c} low one brace end so ys-is m-is =
    let step = chained_one item n t x k a b low one in
    rw (ys-is, m-is, end) (front_some xs h so.reads (rw brace at step))

pub chained_none : {X : Type 0} {item : Item X} {n t : ℕ} {xs : List X} {h : ℕ} {a : List Terminal} {w : Option (GotItem (List X))} → t < n → item a ≡ None → ChainedLeft item n t xs h a w → w ≡ None
chained_none {X} {item} {n} {t} {xs} {h} {a} low none so = front_none xs h so.reads (chained_open item n t a low none)

pub chained_over : {X : Type 0} {item : Item X} {n t : ℕ} {xs : List X} {h : ℕ} {a : List Terminal} {w : Option (GotItem (List X))} → n ≤ t → ChainedLeft item n t xs h a w → w ≡ None
chained_over {X} {item} {n} {t} {xs} {h} {a} high so = let over : chained item (n - t) a ≡ None = rw (none_left n t high) refl in front_none xs h so.reads over

-- ---- words

abbrev pub onto : List SpecTree → SpecTrees → SpecTrees
onto [] ws = ws
onto (x ∷ xs) ws = MoreWords x (onto xs ws)

onto_none : (xs : List SpecTree) → onto xs NoWord ≡ spec_trees xs
onto_none [] = refl
onto_none (x ∷ xs) = ap (MoreWords x) (onto_none xs)

onto_more : (xs : List SpecTree) (x : SpecTree) (ws : SpecTrees) → onto xs (MoreWords x ws) ≡ onto (xs ++ (x ∷ [])) ws
onto_more [] x ws = refl
onto_more (y ∷ xs) x ws = ap (MoreWords y) (onto_more xs x ws)

abbrev pub words_front : List SpecTree → ℕ → Option (GotItem SpecTrees) → Option (GotItem SpecTrees)
words_front xs h None = None
words_front xs h (Some g) = Some (item_of (onto xs g.item) (max h g.height) g.rest)

words_more : (xs : List SpecTree) (x : SpecTree) (h k : ℕ) (b : List Terminal) (r : Option (GotItem SpecTrees)) → words_front xs h (after_item r (more_words (item_of x k b))) ≡ words_front (xs ++ (x ∷ [])) (max h k) r
words_more xs x h k b None = refl
words_more xs x h k b (Some g) = rw (onto_more xs x g.item, same_max h k g.height) refl

words_all : (r : Option (GotItem SpecTrees)) → words_front [] 0 r ≡ r
words_all None = refl
words_all (Some g) = let same : max 0 g.height ≡ g.height = omega arith in rw same refl

pub record WordsLeft (known : List (List ℕ)) (one : Item SpecTree) (n t : ℕ) (xs : List SpecTree) (h : ℕ) (a : List Terminal) (w : Option (GotItem SpecTrees)) : Type 0 where
  pub reads : words_front xs h (words known one (n - t) a) ≡ w

pub words_begun : {Y : Type 0} (view : Y → SpecTree) (items : List Y) {known : List (List ℕ)} {one : Item SpecTree} {n : ℕ} {a : List Terminal} → items ≡ [] → WordsLeft known one n 0 (map view items) 0 a (words known one n a)
words_begun {Y} view items {known} {one} {n} {a} none = rw none (record { reads = rw (all_left n) (words_all (words known one n a)) })

words_one : (known : List (List ℕ)) (one : Item SpecTree) (n t : ℕ) (a : List Terminal) (r : Option (GotItem SpecTree)) → t < n → begins_specifiers known a ≡ true → one a ≡ r →
    words known one (n - t) a ≡ after_item r (λ w. after_item (words known one (n - (t + 1)) w.rest) (more_words w))
words_one known one n t a r low begins is = rw (one_left n t low, begins, is) refl

words_end : (known : List (List ℕ)) (one : Item SpecTree) (turns : ℕ) (a : List Terminal) → begins_specifiers known a ≡ false → words known one turns a ≡ no_word a
words_end known one zero a off = refl
words_end known one (suc turns) a off = rw off refl

pub words_turn : {known : List (List ℕ)} {one : Item SpecTree} {n t : ℕ} {xs ys : List SpecTree} {x : SpecTree} {h k m : ℕ} {a b : List Terminal} {w : Option (GotItem SpecTrees)} → t < n → begins_specifiers known a ≡ true → one a ≡ Some (item_of x k b) →
    WordsLeft known one n t xs h a w → ys ≡ xs ++ (x ∷ []) → m ≡ max h k → WordsLeft known one n (t + 1) ys m b w
words_turn {known} {one} {n} {t} {xs} {ys} {x} {h} {k} {m} {a} {b} low begins is so ys-is m-is =
    let step = words_one known one n t a (Some (item_of x k b)) low begins is in
    record { reads = rw (ys-is, m-is) (sym (words_more xs x h k b (words known one (n - (t + 1)) b)) ∙ sym (ap (words_front xs h) step) ∙ so.reads) }

pub words_none : {known : List (List ℕ)} {one : Item SpecTree} {n t : ℕ} {xs : List SpecTree} {h : ℕ} {a : List Terminal} {w : Option (GotItem SpecTrees)} → t < n → begins_specifiers known a ≡ true → one a ≡ None →
    WordsLeft known one n t xs h a w → w ≡ None
words_none {known} {one} {n} {t} {xs} {h} {a} low begins is so = sym so.reads ∙ ap (words_front xs h) (words_one known one n t a None low begins is)

ended : (xs : List SpecTree) (h : ℕ) (a : List Terminal) → words_front xs h (no_word a) ≡ Some (item_of (spec_trees xs) h a)
ended xs h a = let same : max h 0 ≡ h = omega arith in rw (onto_none xs, same) refl

pub words_stop : {known : List (List ℕ)} {one : Item SpecTree} {n t : ℕ} {xs : List SpecTree} {h : ℕ} {a : List Terminal} {w : Option (GotItem SpecTrees)} → begins_specifiers known a ≡ false → WordsLeft known one n t xs h a w → w ≡ Some (item_of (spec_trees xs) h a)
words_stop {known} {one} {n} {t} {xs} {h} {a} off so = sym so.reads ∙ ap (words_front xs h) (words_end known one (n - t) a off) ∙ ended xs h a

pub words_over : {known : List (List ℕ)} {one : Item SpecTree} {n t : ℕ} {xs : List SpecTree} {h : ℕ} {a : List Terminal} {w : Option (GotItem SpecTrees)} → n ≤ t → WordsLeft known one n t xs h a w → w ≡ Some (item_of (spec_trees xs) h a)
words_over {known} {one} {n} {t} {xs} {h} {a} high so = let over : words known one (n - t) a ≡ no_word a = rw (none_left n t high) refl in sym so.reads ∙ ap (words_front xs h) over ∙ ended xs h a

-- ---- brackets

abbrev pub suffixes_front : List SuffixView → Option GotSuffixes → Option GotSuffixes
suffixes_front xs None = None
suffixes_front xs (Some g) = Some (record { arrays = xs ++ g.arrays; flat = g.flat; climbed = g.climbed; rest = g.rest })

suffixes_more : (xs : List SuffixView) (x : SuffixView) (r : Option GotSuffixes) → suffixes_front xs (after_suffixes r (with_suffix x)) ≡ suffixes_front (xs ++ (x ∷ [])) r
suffixes_more xs x None = refl
suffixes_more xs x (Some g) = rw (append_assoc xs (x ∷ []) g.arrays) refl

suffixes_all : (r : Option GotSuffixes) → suffixes_front [] r ≡ r
suffixes_all None = refl
suffixes_all (Some g) = refl

pub record SuffixesLeft (i : Readers) (n t : ℕ) (xs : List SuffixView) (f c : ℕ) (a : List Terminal) (w : Option GotSuffixes) : Type 0 where
  pub reads : suffixes_front xs (suffixes i (n - t) f c a) ≡ w

pub suffixes_begun : {Y : Type 0} (view : Y → SuffixView) (items : List Y) {i : Readers} {n f c : ℕ} {a : List Terminal} → items ≡ [] → SuffixesLeft i n 0 (map view items) f c a (suffixes i n f c a)
suffixes_begun {Y} view items {i} {n} {f} {c} {a} none = rw none (record { reads = rw (all_left n) (suffixes_all (suffixes i n f c a)) })

suffixes_one : (i : Readers) (n t f c : ℕ) (a : List Terminal) (r : Option (GotItem SuffixView)) → t < n → first_symbol a ≡ symbol.Punctuator p.LeftBracket → suffix i a ≡ r →
    suffixes i (n - t) f c a ≡ after_item r (λ s. cond (climbs (max c s.height)) (after_suffixes (suffixes i (n - (t + 1)) (max f s.height) (max c s.height + 1) s.rest) (with_suffix s.item)) None)
suffixes_one i n t f c a r low bracket is = rw (one_left n t low, bracket, is) refl

suffixes_end : (i : Readers) (turns f c : ℕ) (a : List Terminal) → is_left_bracket (first_symbol a) ≡ false → suffixes i turns f c a ≡ Some (record { arrays = []; flat = f; climbed = c; rest = a })
suffixes_end i zero f c a off = refl
suffixes_end i (suc turns) f c a off = rw off refl

-- what one pair of brackets more makes of the height that climbs
abbrev pub climb_to : ℕ → ℕ → Option ℕ
climb_to c k = cond (climbs (max c k)) (Some (max c k + 1)) None

climbed_to : (c k : ℕ) {d : ℕ} (b : Bool) → climbs (max c k) ≡ b → climb_to c k ≡ Some d → (climbs (max c k) ≡ true) × (max c k + 1 ≡ d)
climbed_to c k true is e = let f = rw is at e in (is, cc f)
climbed_to c k false is e = let f = rw is at e in absurd (cc f)

climbed_not : (c k : ℕ) (b : Bool) → climbs (max c k) ≡ b → climb_to c k ≡ None → climbs (max c k) ≡ false
climbed_not c k true is e = let f = rw is at e in absurd (cc f)
climbed_not c k false is e = is

pub suffixes_turn : {i : Readers} {n t f c g d k : ℕ} {xs ys : List SuffixView} {x : SuffixView} {a b : List Terminal} {w : Option GotSuffixes} → t < n → first_symbol a ≡ symbol.Punctuator p.LeftBracket → suffix i a ≡ Some (item_of x k b) → climb_to c k ≡ Some d →
    SuffixesLeft i n t xs f c a w → ys ≡ xs ++ (x ∷ []) → g ≡ max f k → SuffixesLeft i n (t + 1) ys g d b w
suffixes_turn {i} {n} {t} {f} {c} {g} {d} {k} {xs} {ys} {x} {a} {b} low bracket is climb so ys-is g-is =
    let step = suffixes_one i n t f c a (Some (item_of x k b)) low bracket is in
    let up = climbed_to c k (climbs (max c k)) refl climb in
    record { reads = rw (ys-is, g-is, sym up.1) (sym (suffixes_more xs x (suffixes i (n - (t + 1)) (max f k) (max c k + 1) b)) ∙ sym (ap (suffixes_front xs) (rw up.0 at step)) ∙ so.reads) }

pub suffixes_none : {i : Readers} {n t f c : ℕ} {xs : List SuffixView} {a : List Terminal} {w : Option GotSuffixes} → t < n → first_symbol a ≡ symbol.Punctuator p.LeftBracket → suffix i a ≡ None → SuffixesLeft i n t xs f c a w → w ≡ None
suffixes_none {i} {n} {t} {f} {c} {xs} {a} low bracket is so = sym so.reads ∙ ap (suffixes_front xs) (suffixes_one i n t f c a None low bracket is)

pub suffixes_high : {i : Readers} {n t f c k : ℕ} {xs : List SuffixView} {x : SuffixView} {a b : List Terminal} {w : Option GotSuffixes} → t < n → first_symbol a ≡ symbol.Punctuator p.LeftBracket → suffix i a ≡ Some (item_of x k b) → climb_to c k ≡ None →
    SuffixesLeft i n t xs f c a w → w ≡ None
suffixes_high {i} {n} {t} {f} {c} {k} {xs} {x} {a} {b} low bracket is climb so =
    let step = suffixes_one i n t f c a (Some (item_of x k b)) low bracket is in
    let high = climbed_not c k (climbs (max c k)) refl climb in
    sym so.reads ∙ ap (suffixes_front xs) (rw high at step)

bare : (xs : List SuffixView) (f c : ℕ) (a : List Terminal) → suffixes_front xs (Some (record { arrays = []; flat = f; climbed = c; rest = a })) ≡ Some (record { arrays = xs; flat = f; climbed = c; rest = a })
bare xs f c a = rw (append-nil xs) refl

pub suffixes_stop : {i : Readers} {n t f c : ℕ} {xs : List SuffixView} {a : List Terminal} {w : Option GotSuffixes} → is_left_bracket (first_symbol a) ≡ false → SuffixesLeft i n t xs f c a w → w ≡ Some (record { arrays = xs; flat = f; climbed = c; rest = a })
suffixes_stop {i} {n} {t} {f} {c} {xs} {a} off so = sym so.reads ∙ ap (suffixes_front xs) (suffixes_end i (n - t) f c a off) ∙ bare xs f c a

pub suffixes_over : {i : Readers} {n t f c : ℕ} {xs : List SuffixView} {a : List Terminal} {w : Option GotSuffixes} → n ≤ t → SuffixesLeft i n t xs f c a w → w ≡ Some (record { arrays = xs; flat = f; climbed = c; rest = a })
suffixes_over {i} {n} {t} {f} {c} {xs} {a} high so =
    let over : suffixes i (n - t) f c a ≡ Some (record { arrays = []; flat = f; climbed = c; rest = a }) = rw (none_left n t high) refl in sym so.reads ∙ ap (suffixes_front xs) over ∙ bare xs f c a
