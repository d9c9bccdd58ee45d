-- Lists that are read from the front and grow at the end.
use Rattle.std.proofs.Common.{◌≡◌, ℕ, zero, suc, ◌+◌, true, List, [], ◌∷◌, ◌++◌, max, length, refl, sym, ap, ◌∙◌, subst, arith}
use Rattle.std.proofs.lemmas.Grind.{common_steps}
use Rattle.std.proofs.lemmas.List.Sums.{fold-append}
use Rattle.c_layout.specs.SyntaxTrees.{Tree, trees}
use Rattle.c_layout.specs.declared.syntax_tree.expressions.TypeNameWord.{TypeNameWord}
use Rattle.c_parser_tokens.specs.declared.terminals.Terminal.{Terminal}
use Rattle.c_parser_tokens.specs.declared.terminals.Punctuator.TheVariants as p
use Rattle.c_parser_expression_grammar.specs.Expressions.{DeriveEach, height_of, heights_of}
use Rattle.c_parser_expression_grammar.specs.Fronts.{first_symbol, behind_first, IsSign}
use Rattle.c_parser_expression_grammar.specs.Spans.{Span, Trailed, Separated, Chain}
use Rattle.c_parser_expression_grammar.specs.TypeNames.{Qualifiers, is_pointer_qualifier, counted, counts_of, no_words, greatest}

pub trailed_more : (spans : List Span) (ts a b c : List Terminal) → Trailed spans ts a → IsSign p.Comma b c → Trailed (spans ++ (record { from = a; to = b } ∷ [])) ts c
trailed_more [] ts a b c t sign = (c, sym t, sign, refl)
trailed_more (s ∷ more) ts a b c t sign = (t.0, t.1, t.2, trailed_more more t.0 a b c t.3 sign)

pub separated_last : (spans : List Span) (ts a b : List Terminal) → Trailed spans ts a → Separated (spans ++ (record { from = a; to = b } ∷ [])) ts b
separated_last [] ts a b t = (sym t, refl)
separated_last (s ∷ []) ts a b t = (t.0, t.1, t.2, (sym t.3, refl))
separated_last (s ∷ (next ∷ more)) ts a b t = (t.0, t.1, t.2, separated_last (next ∷ more) t.0 a b t.3)

pub chain_more : {X : Type 0} (Item : X → List Terminal → List Terminal → Type 0) (xs : List X) (x : X) (ts a b : List Terminal) → Chain Item xs ts a → Item x a b → Chain Item (xs ++ (x ∷ [])) ts b
chain_more Item [] x ts a b c d = (b, subst (λ (start : List Terminal). Item x start b) c d, refl)
chain_more Item (y ∷ ys) x ts a b c d = (c.0, c.1, chain_more Item ys x c.0 a b c.2 d)

pub qualifiers_more : (n : ℕ) (ts a : List Terminal) → Qualifiers n ts a → is_pointer_qualifier (first_symbol a) ≡ true → Qualifiers (suc n) ts (behind_first a)
qualifiers_more zero ts a q is = (subst (λ (start : List Terminal). is_pointer_qualifier (first_symbol start) ≡ true) q is, ap behind_first q)
qualifiers_more (suc n) ts a q is = (q.0, qualifiers_more n (behind_first ts) a q.1 is)

pub each_append : (es fs : List Tree) (known : List (List ℕ)) (l : ℕ) (spans others : List Span) → DeriveEach (trees es) known l spans → DeriveEach (trees fs) known l others → DeriveEach (trees (es ++ fs)) known l (spans ++ others)
each_append [] fs known l spans others d f = subst (λ (ss : List Span). DeriveEach (trees fs) known l (ss ++ others)) (sym d) f
each_append (e ∷ es) fs known l spans others d f = (d.0, d.1 ++ others, ap (λ (ss : List Span). ss ++ others) d.2, d.3, each_append es fs known l d.1 others d.4 f)

pub each_length : (es : List Tree) (known : List (List ℕ)) (l : ℕ) (spans : List Span) → DeriveEach (trees es) known l spans → length (heights_of (trees es)) ≡ length spans
each_length [] known l spans d = sym (ap length d)
each_length (e ∷ es) known l spans d = ap suc (each_length es known l d.1 d.4) ∙ sym (ap length d.2)

pub heights_append : (es fs : List Tree) → heights_of (trees (es ++ fs)) ≡ heights_of (trees es) ++ heights_of (trees fs)
heights_append [] fs = refl
heights_append (e ∷ es) fs = ap (λ (hs : List ℕ). height_of e ∷ hs) (heights_append es fs)

pub greatest_append : (ms ns : List ℕ) → greatest (ms ++ ns) ≡ max (greatest ms) (greatest ns)
greatest_append [] ns = grind (arith, common_steps)
greatest_append (m ∷ ms) ns = grind (arith, common_steps, greatest_append ms ns)

pub qualifiers_next : (n m : ℕ) (ts a b : List Terminal) → Qualifiers n ts a → true ≡ is_pointer_qualifier (first_symbol a) → m ≡ n + 1 → b ≡ behind_first a → Qualifiers m ts b
qualifiers_next n m ts a b q is m-is b-is =
    let m-suc : m ≡ suc n = omega (arith, m-is) in
    rw (m-suc, b-is) (qualifiers_more n ts a q (sym is))

pub counts_more : (words : List TypeNameWord) (word : TypeNameWord) → counts_of (words ++ (word ∷ [])) ≡ counted (counts_of words) word
counts_more words word = fold-append counted no_words words (word ∷ [])
