-- Lists that readers read item by item: what was read so far, before what the definition reads from there on.
use Rattle.std.proofs.Common.{◌≡◌, ℕ, zero, suc, ◌+◌, ◌-◌, ◌<◌, ◌≤◌, true, false, List, [], ◌∷◌, ◌++◌, cond, max, Option, Some, None, refl, sym, ap, ◌∙◌, arith}
use Rattle.std.proofs.lemmas.List.{append_assoc, append-nil}
use Rattle.c_layout.specs.SyntaxTrees.{Tree, Trees, trees, End, More}
use Rattle.c_layout.specs.declared.syntax_tree.expressions.Brackets.{Brackets}
use Rattle.c_layout.specs.declared.syntax_tree.expressions.TypeNameWord.{TypeNameWord}
use Rattle.c_parser_tokens.specs.declared.terminals.Punctuator.TheVariants as p
use Rattle.c_parser_tokens.specs.declared.terminals.Terminal.{Terminal}
use Rattle.c_parser_expression_grammar.specs.declared.type_name_parts.ArrayLength.{ArrayLength}
use Rattle.c_parser_expression_grammar.specs.Findings.{lengths_of, brackets_of}
use Rattle.c_parser_expression_grammar.specs.Fronts.{first_symbol, behind_first, begins_specifiers, IsSign}
use Rattle.c_parser_expression_grammar.specs.Readings.{Got, GotSome, is_comma, is_right_parenthesis, is_left_bracket}
use Rattle.c_parser_expression_grammar.specs.ReadingResults.{bracketed, with_pair}
use Rattle.c_parser_expression_grammar.specs.ExpressionReaders.{Readers, some_arguments, argument_then, more_arguments, last_argument}
use Rattle.c_parser_expression_grammar.specs.TypeNames.{is_pointer_qualifier}
use Rattle.c_parser_expression_grammar.specs.TypeNameReaders.{GotWords, GotStars, GotArrays, words, word_by, with_word, word_before, qualifiers, qualified, stars, with_star, is_star, both, pairs, pair, after_arrays, no_arrays}
use Rattle.c_parser_expressions.proofs.Turns.{one_left, none_left}

max_zero : (n : ℕ) → max n 0 ≡ n
max_zero n = omega arith

-- ---- words

abbrev pub words_before : List TypeNameWord → Option GotWords → Option GotWords
words_before ws None = None
words_before ws (Some g) = Some (record { words = ws ++ g.words; rest = g.rest })

word_moves : (ws : List TypeNameWord) (w : TypeNameWord) (o : Option GotWords) → words_before ws (word_before w o) ≡ words_before (ws ++ (w ∷ [])) o
word_moves ws w None = refl
word_moves ws w (Some g) = ap (λ (all : List TypeNameWord). Some (record { words = all; rest = g.rest })) (sym (append_assoc ws (w ∷ []) g.words))

pub words_turn : (known : List (List ℕ)) (ws : List TypeNameWord) (n t : ℕ) (ts rest : List Terminal) (w : TypeNameWord) → t < n → begins_specifiers known ts ≡ true → word_by known ts (first_symbol ts) ≡ Some (record { word = w; rest = rest }) →
    words_before ws (words known (n - t) ts) ≡ words_before (ws ++ (w ∷ [])) (words known (n - (t + 1)) rest)
words_turn known ws n t ts rest w low here word =
    ap (λ turns. words_before ws (words known turns ts)) (one_left n t low)
    ∙ ap (λ x. words_before ws (cond x (with_word (word_by known ts (first_symbol ts)) (words known (n - (t + 1)))) (Some (record { words = []; rest = ts })))) here
    ∙ ap (λ x. words_before ws (with_word x (words known (n - (t + 1))))) word
    ∙ word_moves ws w (words known (n - (t + 1)) rest)

pub words_no_word : (known : List (List ℕ)) (ws : List TypeNameWord) (n t : ℕ) (ts : List Terminal) → t < n → begins_specifiers known ts ≡ true → word_by known ts (first_symbol ts) ≡ None → words_before ws (words known (n - t) ts) ≡ None
words_no_word known ws n t ts low here word =
    ap (λ turns. words_before ws (words known turns ts)) (one_left n t low)
    ∙ ap (λ x. words_before ws (cond x (with_word (word_by known ts (first_symbol ts)) (words known (n - (t + 1)))) (Some (record { words = []; rest = ts })))) here
    ∙ ap (λ x. words_before ws (with_word x (words known (n - (t + 1))))) word

words_end : (known : List (List ℕ)) (ws : List TypeNameWord) (m : ℕ) (ts : List Terminal) → begins_specifiers known ts ≡ false → words_before ws (words known m ts) ≡ Some (record { words = ws; rest = ts })
words_end known ws zero ts stops = ap (λ (all : List TypeNameWord). Some (record { words = all; rest = ts })) (append-nil ws)
words_end known ws (suc m) ts stops =
    ap (λ x. words_before ws (cond x (with_word (word_by known ts (first_symbol ts)) (words known m)) (Some (record { words = []; rest = ts })))) stops
    ∙ ap (λ (all : List TypeNameWord). Some (record { words = all; rest = ts })) (append-nil ws)

pub words_stop : (known : List (List ℕ)) (ws : List TypeNameWord) (n t : ℕ) (ts : List Terminal) → begins_specifiers known ts ≡ false → words_before ws (words known (n - t) ts) ≡ Some (record { words = ws; rest = ts })
words_stop known ws n t ts stops = words_end known ws (n - t) ts stops

pub words_over : (known : List (List ℕ)) (ws : List TypeNameWord) (n t : ℕ) (ts : List Terminal) → n ≤ t → words_before ws (words known (n - t) ts) ≡ Some (record { words = ws; rest = ts })
words_over known ws n t ts high =
    ap (λ turns. words_before ws (words known turns ts)) (none_left n t high) ∙ ap (λ (all : List TypeNameWord). Some (record { words = all; rest = ts })) (append-nil ws)

-- ---- stars

abbrev pub count_before : ℕ → ℕ × List Terminal → ℕ × List Terminal
count_before c q = (c + q.0, q.1)

abbrev counted_to : List Terminal → ℕ → ℕ × List Terminal
counted_to rest n = (n, rest)

pub qualifiers_turn : (n t c : ℕ) (ts : List Terminal) → t < n → is_pointer_qualifier (first_symbol ts) ≡ true → count_before c (qualifiers (n - t) ts) ≡ count_before (c + 1) (qualifiers (n - (t + 1)) (behind_first ts))
qualifiers_turn n t c ts low here =
    let m = n - (t + 1) in
    let one : c + suc (qualifiers m (behind_first ts)).0 ≡ c + 1 + (qualifiers m (behind_first ts)).0 = omega arith in
    ap (λ turns. count_before c (qualifiers turns ts)) (one_left n t low)
    ∙ ap (λ x. count_before c (cond x (suc (qualifiers m (behind_first ts)).0, (qualifiers m (behind_first ts)).1) (zero, ts))) here
    ∙ ap (counted_to (qualifiers m (behind_first ts)).1) one

qualifiers_end : (m : ℕ) (ts : List Terminal) → is_pointer_qualifier (first_symbol ts) ≡ false → qualifiers m ts ≡ counted_to ts 0
qualifiers_end zero ts stops = refl
qualifiers_end (suc m) ts stops = ap (λ x. cond x (suc (qualifiers m (behind_first ts)).0, (qualifiers m (behind_first ts)).1) (zero, ts)) stops

pub qualifiers_stop : (n t c : ℕ) (ts : List Terminal) → is_pointer_qualifier (first_symbol ts) ≡ false → count_before c (qualifiers (n - t) ts) ≡ counted_to ts c
qualifiers_stop n t c ts stops =
    let none : c + 0 ≡ c = omega arith in
    ap (count_before c) (qualifiers_end (n - t) ts stops) ∙ ap (counted_to ts) none

abbrev pub stars_before : List ℕ → GotStars → GotStars
stars_before qs g = record { stars = qs ++ g.stars; rest = g.rest }

pub stars_turn : (qs : List ℕ) (n t : ℕ) (ts rest : List Terminal) (q : ℕ) → t < n → is_star (first_symbol ts) ≡ true → qualified (behind_first ts) ≡ (q, rest) →
    stars_before qs (stars (n - t) ts) ≡ stars_before (qs ++ (q ∷ [])) (stars (n - (t + 1)) rest)
stars_turn qs n t ts rest q low here word =
    ap (λ turns. stars_before qs (stars turns ts)) (one_left n t low)
    ∙ ap (λ x. stars_before qs (cond x (with_star (qualified (behind_first ts)).0 (stars (n - (t + 1)) (qualified (behind_first ts)).1)) (record { stars = []; rest = ts }))) here
    ∙ ap (λ x. stars_before qs (with_star x.0 (stars (n - (t + 1)) x.1))) word
    ∙ ap (λ (all : List ℕ). record { stars = all; rest = (stars (n - (t + 1)) rest).rest }) (sym (append_assoc qs (q ∷ []) (stars (n - (t + 1)) rest).stars))

stars_end : (qs : List ℕ) (m : ℕ) (ts : List Terminal) → is_star (first_symbol ts) ≡ false → stars_before qs (stars m ts) ≡ record { stars = qs; rest = ts }
stars_end qs zero ts stops = ap (λ (all : List ℕ). record { stars = all; rest = ts }) (append-nil qs)
stars_end qs (suc m) ts stops =
    ap (λ x. stars_before qs (cond x (with_star (qualified (behind_first ts)).0 (stars m (qualified (behind_first ts)).1)) (record { stars = []; rest = ts }))) stops
    ∙ ap (λ (all : List ℕ). record { stars = all; rest = ts }) (append-nil qs)

pub stars_stop : (qs : List ℕ) (n t : ℕ) (ts : List Terminal) → is_star (first_symbol ts) ≡ false → stars_before qs (stars (n - t) ts) ≡ record { stars = qs; rest = ts }
stars_stop qs n t ts stops = stars_end qs (n - t) ts stops

-- ---- trees

pub both_trees : (es fs : List Tree) (more : Trees) → both (trees (es ++ fs)) more ≡ both (trees es) (both (trees fs) more)
both_trees [] fs more = refl
both_trees (e ∷ es) fs more = ap (More e) (both_trees es fs more)

both_end : (es : List Tree) → both (trees es) End ≡ trees es
both_end [] = refl
both_end (e ∷ es) = ap (More e) (both_end es)

-- ---- arguments

abbrev pub arguments_before : List Tree → ℕ → Option GotSome → Option GotSome
arguments_before es h None = None
arguments_before es h (Some g) = Some (record { trees = both (trees es) g.trees; height = max h g.height; rest = g.rest })

argument_moves : (es : List Tree) (h : ℕ) (g : Got) (o : Option GotSome) → arguments_before es h (more_arguments g o) ≡ arguments_before (es ++ (g.tree ∷ [])) (max h g.height) o
argument_moves es h g None = refl
argument_moves es h g (Some more) =
    let high : max h (max g.height more.height) ≡ max (max h g.height) more.height = omega arith in
    ap (λ (all : Trees). Some (record { trees = all; height = max h (max g.height more.height); rest = more.rest })) (sym (both_trees es (g.tree ∷ []) more.trees))
    ∙ ap (λ (height : ℕ). Some (record { trees = both (trees (es ++ (g.tree ∷ []))) more.trees; height = height; rest = more.rest })) high

pub arguments_turn : (i : Readers) (es : List Tree) (h n t : ℕ) (ts : List Terminal) (g : Got) → t < n → i.assignment ts ≡ Some g → is_comma (first_symbol g.rest) ≡ true →
    arguments_before es h (some_arguments i (n - t) ts) ≡ arguments_before (es ++ (g.tree ∷ [])) (max h g.height) (some_arguments i (n - (t + 1)) (behind_first g.rest))
arguments_turn i es h n t ts g low first comma =
    ap (λ turns. arguments_before es h (some_arguments i turns ts)) (one_left n t low)
    ∙ ap (λ x. arguments_before es h (argument_then x (some_arguments i (n - (t + 1))))) first
    ∙ ap (λ x. arguments_before es h (cond x (more_arguments g (some_arguments i (n - (t + 1)) (behind_first g.rest))) (last_argument g))) comma
    ∙ argument_moves es h g (some_arguments i (n - (t + 1)) (behind_first g.rest))

pub arguments_no_argument : (i : Readers) (es : List Tree) (h n t : ℕ) (ts : List Terminal) → t < n → i.assignment ts ≡ None → arguments_before es h (some_arguments i (n - t) ts) ≡ None
arguments_no_argument i es h n t ts low first =
    ap (λ turns. arguments_before es h (some_arguments i turns ts)) (one_left n t low)
    ∙ ap (λ x. arguments_before es h (argument_then x (some_arguments i (n - (t + 1))))) first

arguments_last : (i : Readers) (es : List Tree) (h n t : ℕ) (ts : List Terminal) (g : Got) → t < n → i.assignment ts ≡ Some g → is_comma (first_symbol g.rest) ≡ false →
    arguments_before es h (some_arguments i (n - t) ts) ≡ arguments_before es h (last_argument g)
arguments_last i es h n t ts g low first comma =
    ap (λ turns. arguments_before es h (some_arguments i turns ts)) (one_left n t low)
    ∙ ap (λ x. arguments_before es h (argument_then x (some_arguments i (n - (t + 1))))) first
    ∙ ap (λ x. arguments_before es h (cond x (more_arguments g (some_arguments i (n - (t + 1)) (behind_first g.rest))) (last_argument g))) comma

pub arguments_end : (i : Readers) (es : List Tree) (h n t : ℕ) (ts : List Terminal) (g : Got) → t < n → i.assignment ts ≡ Some g → is_comma (first_symbol g.rest) ≡ false → is_right_parenthesis (first_symbol g.rest) ≡ true →
    arguments_before es h (some_arguments i (n - t) ts) ≡ Some (record { trees = trees (es ++ (g.tree ∷ [])); height = max h g.height; rest = behind_first g.rest })
arguments_end i es h n t ts g low first comma shut =
    arguments_last i es h n t ts g low first comma
    ∙ ap (λ x. arguments_before es h (cond x (Some (record { trees = More g.tree End; height = g.height; rest = behind_first g.rest })) None)) shut
    ∙ ap (λ (all : Trees). Some (record { trees = all; height = max h g.height; rest = behind_first g.rest })) (sym (both_trees es (g.tree ∷ []) End) ∙ both_end (es ++ (g.tree ∷ [])))

pub arguments_open : (i : Readers) (es : List Tree) (h n t : ℕ) (ts : List Terminal) (g : Got) → t < n → i.assignment ts ≡ Some g → is_comma (first_symbol g.rest) ≡ false → is_right_parenthesis (first_symbol g.rest) ≡ false →
    arguments_before es h (some_arguments i (n - t) ts) ≡ None
arguments_open i es h n t ts g low first comma shut =
    arguments_last i es h n t ts g low first comma
    ∙ ap (λ x. arguments_before es h (cond x (Some (record { trees = More g.tree End; height = g.height; rest = behind_first g.rest })) None)) shut

-- ---- brackets

abbrev pub pairs_before : List Brackets → List Tree → ℕ → Option GotArrays → Option GotArrays
pairs_before bs es h None = None
pairs_before bs es h (Some g) = Some (record { arrays = bs ++ g.arrays; lengths = both (trees es) g.lengths; height = max h g.height; rest = g.rest })

pair_moves : (bs : List Brackets) (es : List Tree) (h k : ℕ) (pair : ArrayLength) (o : Option GotArrays) →
    pairs_before bs es h (after_arrays o (with_pair pair k)) ≡ pairs_before (bs ++ (brackets_of pair ∷ [])) (es ++ lengths_of pair.length) (max h k) o
pair_moves bs es h k pair None = refl
pair_moves bs es h k pair (Some g) =
    let high : max h (max k g.height) ≡ max (max h k) g.height = omega arith in
    ap (λ (all : List Brackets). Some (record { arrays = all; lengths = both (trees es) (both (trees (lengths_of pair.length)) g.lengths); height = max h (max k g.height); rest = g.rest })) (sym (append_assoc bs (brackets_of pair ∷ []) g.arrays))
    ∙ ap (λ (all : Trees). Some (record { arrays = (bs ++ (brackets_of pair ∷ [])) ++ g.arrays; lengths = all; height = max h (max k g.height); rest = g.rest })) (sym (both_trees es (lengths_of pair.length) g.lengths))
    ∙ ap (λ (height : ℕ). Some (record { arrays = (bs ++ (brackets_of pair ∷ [])) ++ g.arrays; lengths = both (trees (es ++ lengths_of pair.length)) g.lengths; height = height; rest = g.rest })) high

pairs_first : (i : Readers) (n t : ℕ) (ts : List Terminal) (r : Option GotArrays) → t < n → is_left_bracket (first_symbol ts) ≡ true → bracketed ts (pair i ts (pairs i (n - (t + 1)))) ≡ r → pairs i (n - t) ts ≡ r
pairs_first i n t ts r low here first =
    ap (λ turns. pairs i turns ts) (one_left n t low)
    ∙ ap (λ x. cond x (pair i ts (pairs i (n - (t + 1)))) (Some (no_arrays ts))) here
    ∙ sym (ap (λ x. cond x (pair i ts (pairs i (n - (t + 1)))) None) here)
    ∙ first

pub pairs_turn : (i : Readers) (bs : List Brackets) (es : List Tree) (h k n t : ℕ) (ts rest : List Terminal) (one : ArrayLength) → t < n → is_left_bracket (first_symbol ts) ≡ true →
    ((more : List Terminal → Option GotArrays) → bracketed ts (pair i ts more) ≡ after_arrays (more rest) (with_pair one k)) →
    pairs_before bs es h (pairs i (n - t) ts) ≡ pairs_before (bs ++ (brackets_of one ∷ [])) (es ++ lengths_of one.length) (max h k) (pairs i (n - (t + 1)) rest)
pairs_turn i bs es h k n t ts rest one low here first =
    ap (pairs_before bs es h) (pairs_first i n t ts (after_arrays (pairs i (n - (t + 1)) rest) (with_pair one k)) low here (first (pairs i (n - (t + 1)))))
    ∙ pair_moves bs es h k one (pairs i (n - (t + 1)) rest)

pub pairs_no_pair : (i : Readers) (bs : List Brackets) (es : List Tree) (h n t : ℕ) (ts : List Terminal) → t < n → is_left_bracket (first_symbol ts) ≡ true →
    ((more : List Terminal → Option GotArrays) → bracketed ts (pair i ts more) ≡ None) → pairs_before bs es h (pairs i (n - t) ts) ≡ None
pairs_no_pair i bs es h n t ts low here first = ap (pairs_before bs es h) (pairs_first i n t ts None low here (first (pairs i (n - (t + 1)))))

pairs_end : (i : Readers) (bs : List Brackets) (es : List Tree) (h m : ℕ) (ts : List Terminal) → is_left_bracket (first_symbol ts) ≡ false →
    pairs_before bs es h (pairs i m ts) ≡ Some (record { arrays = bs; lengths = trees es; height = h; rest = ts })
pairs_end i bs es h m ts stops =
    ap (pairs_before bs es h) (none i m ts stops)
    ∙ ap (λ (all : List Brackets). Some (record { arrays = all; lengths = both (trees es) End; height = max h 0; rest = ts })) (append-nil bs)
    ∙ ap (λ (all : Trees). Some (record { arrays = bs; lengths = all; height = max h 0; rest = ts })) (both_end es)
    ∙ ap (λ (height : ℕ). Some (record { arrays = bs; lengths = trees es; height = height; rest = ts })) (max_zero h)
  where
    none : (i : Readers) (m : ℕ) (ts : List Terminal) → is_left_bracket (first_symbol ts) ≡ false → pairs i m ts ≡ Some (no_arrays ts)
    none i zero ts stops = refl
    none i (suc m) ts stops = ap (λ x. cond x (pair i ts (pairs i m)) (Some (no_arrays ts))) stops

pub pairs_stop : (i : Readers) (bs : List Brackets) (es : List Tree) (h n t : ℕ) (ts : List Terminal) → is_left_bracket (first_symbol ts) ≡ false →
    pairs_before bs es h (pairs i (n - t) ts) ≡ Some (record { arrays = bs; lengths = trees es; height = h; rest = ts })
pairs_stop i bs es h n t ts stops = pairs_end i bs es h (n - t) ts stops

pub pairs_over : (i : Readers) (bs : List Brackets) (es : List Tree) (h n t : ℕ) (ts : List Terminal) → n ≤ t →
    pairs_before bs es h (pairs i (n - t) ts) ≡ Some (record { arrays = bs; lengths = trees es; height = h; rest = ts })
pairs_over i bs es h n t ts high =
    ap (λ turns. pairs_before bs es h (pairs i turns ts)) (none_left n t high)
    ∙ ap (λ (all : List Brackets). Some (record { arrays = all; lengths = both (trees es) End; height = max h 0; rest = ts })) (append-nil bs)
    ∙ ap (λ (all : Trees). Some (record { arrays = bs; lengths = all; height = max h 0; rest = ts })) (both_end es)
    ∙ ap (λ (height : ℕ). Some (record { arrays = bs; lengths = trees es; height = height; rest = ts })) (max_zero h)

-- ---- as the code's loops go on

pub arguments_next : (i : Readers) (es : List Tree) (h n t : ℕ) (ts : List Terminal) (g : Got) (fs : List Tree) (k : ℕ) (c : List Terminal) → t < n → i.assignment ts ≡ Some g → IsSign p.Comma g.rest c → fs ≡ es ++ (g.tree ∷ []) → k ≡ max h g.height →
    arguments_before es h (some_arguments i (n - t) ts) ≡ arguments_before fs k (some_arguments i (n - (t + 1)) c)
arguments_next i es h n t ts g fs k c low first comma fs-is k-is =
    arguments_turn i es h n t ts g low first (ap is_comma comma.symbol)
    ∙ ap (λ (x : List Terminal). arguments_before (es ++ (g.tree ∷ [])) (max h g.height) (some_arguments i (n - (t + 1)) x)) (sym comma.behind)
    ∙ ap (λ (x : List Tree). arguments_before x (max h g.height) (some_arguments i (n - (t + 1)) c)) (sym fs-is)
    ∙ ap (λ (x : ℕ). arguments_before fs x (some_arguments i (n - (t + 1)) c)) (sym k-is)

pub arguments_done : (i : Readers) (es : List Tree) (h n t : ℕ) (ts : List Terminal) (g : Got) (fs : List Tree) (k : ℕ) (d rest : List Terminal) → t < n → i.assignment ts ≡ Some g → is_comma (first_symbol g.rest) ≡ false → d ≡ g.rest → IsSign p.RightParenthesis d rest →
    fs ≡ es ++ (g.tree ∷ []) → k ≡ max h g.height → arguments_before es h (some_arguments i (n - t) ts) ≡ Some (record { trees = trees fs; height = k; rest = rest })
arguments_done i es h n t ts g fs k d rest low first comma same shut fs-is k-is =
    arguments_end i es h n t ts g low first comma (ap (λ (x : List Terminal). is_right_parenthesis (first_symbol x)) (sym same) ∙ ap is_right_parenthesis shut.symbol)
    ∙ ap (λ (x : List Terminal). Some (record { trees = trees (es ++ (g.tree ∷ [])); height = max h g.height; rest = x })) (sym (shut.behind ∙ ap behind_first same))
    ∙ ap (λ (x : List Tree). Some (record { trees = trees x; height = max h g.height; rest = rest })) (sym fs-is)
    ∙ ap (λ (x : ℕ). Some (record { trees = trees fs; height = x; rest = rest })) (sym k-is)

pub pairs_next : (i : Readers) (bs : List Brackets) (es : List Tree) (h k n t : ℕ) (ts rest : List Terminal) (one : ArrayLength) (cs : List Brackets) (fs : List Tree) (j : ℕ) → t < n → is_left_bracket (first_symbol ts) ≡ true →
    ((more : List Terminal → Option GotArrays) → bracketed ts (pair i ts more) ≡ after_arrays (more rest) (with_pair one k)) → cs ≡ bs ++ (brackets_of one ∷ []) → fs ≡ es ++ lengths_of one.length → j ≡ max h k →
    pairs_before bs es h (pairs i (n - t) ts) ≡ pairs_before cs fs j (pairs i (n - (t + 1)) rest)
pairs_next i bs es h k n t ts rest one cs fs j low here first cs-is fs-is j-is =
    pairs_turn i bs es h k n t ts rest one low here first
    ∙ ap (λ (x : List Brackets). pairs_before x (es ++ lengths_of one.length) (max h k) (pairs i (n - (t + 1)) rest)) (sym cs-is)
    ∙ ap (λ (x : List Tree). pairs_before cs x (max h k) (pairs i (n - (t + 1)) rest)) (sym fs-is)
    ∙ ap (λ (x : ℕ). pairs_before cs fs x (pairs i (n - (t + 1)) rest)) (sym j-is)
