-- The readers of type names as definitions, where their parts were read.
use Rattle.std.proofs.Common.{◌≡◌, ℕ, Bool, true, false, List, length, cond, Option, Some, None, refl, sym, ap, ◌∙◌}
use Rattle.c_parser_tokens.specs.declared.terminals.Punctuator.TheVariants as p
use Rattle.c_parser_tokens.specs.declared.terminals.Terminal.{Terminal}
use Rattle.c_parser_expression_grammar.specs.Fronts.{first_symbol, behind_first, IsSign}
use Rattle.c_parser_expression_grammar.specs.Readings.{Got, GotLayers, GotName, Reading, after_layers, is_left_parenthesis, is_right_parenthesis, is_left_bracket, is_right_bracket}
use Rattle.c_parser_expression_grammar.specs.ReadingResults.{bracketed}
use Rattle.c_parser_expression_grammar.specs.ExpressionReaders.{Readers}
use Rattle.c_parser_expression_grammar.specs.TypeNames.{is_one_type, counts_of}
use Rattle.c_parser_expression_grammar.specs.TypeNameReaders.{GotWords, GotStars, GotArrays, pair, with_empty, closed_length, with_length, after_arrays, declarator, stars, nested, closed_layers, no_layers, behind_stars, layered, pairs, words, after_words, of_one_type, named, begins_abstract, declared, plain, type_name}

-- ---- brackets

bracket_here : (i : Readers) (ts a : List Terminal) (more : List Terminal → Option GotArrays) (x : Bool) → IsSign p.LeftBracket ts a → is_right_bracket (first_symbol a) ≡ x →
    bracketed ts (pair i ts more) ≡ cond x (after_arrays (more (behind_first a)) (with_empty ts)) (closed_length ts (i.conditional a) more)
bracket_here i ts a more x opens shut =
    ap (λ s. cond (is_left_bracket s) (pair i ts more) None) opens.symbol
    ∙ ap (λ y. cond (is_right_bracket (first_symbol y)) (after_arrays (more (behind_first y)) (with_empty ts)) (closed_length ts (i.conditional y) more)) (sym opens.behind)
    ∙ ap (λ y. cond y (after_arrays (more (behind_first a)) (with_empty ts)) (closed_length ts (i.conditional a) more)) shut

pub length_read : (i : Readers) (ts a : List Terminal) (more : List Terminal → Option GotArrays) (r : Reading) → IsSign p.LeftBracket ts a → is_right_bracket (first_symbol a) ≡ false → i.conditional a ≡ r →
    bracketed ts (pair i ts more) ≡ closed_length ts r more
length_read i ts a more r opens shut inner = bracket_here i ts a more false opens shut ∙ ap (λ x. closed_length ts x more) inner

pub length_open : (i : Readers) (ts a : List Terminal) (more : List Terminal → Option GotArrays) (e : Got) → IsSign p.LeftBracket ts a → is_right_bracket (first_symbol a) ≡ false → i.conditional a ≡ Some e → is_right_bracket (first_symbol e.rest) ≡ false →
    bracketed ts (pair i ts more) ≡ None
length_open i ts a more e opens shut inner closes =
    length_read i ts a more (Some e) opens shut inner ∙ ap (λ x. cond x (after_arrays (more (behind_first e.rest)) (with_length ts e)) None) closes

pub length_closed : (i : Readers) (ts a rest : List Terminal) (more : List Terminal → Option GotArrays) (e : Got) → IsSign p.LeftBracket ts a → is_right_bracket (first_symbol a) ≡ false → i.conditional a ≡ Some e → IsSign p.RightBracket e.rest rest →
    bracketed ts (pair i ts more) ≡ after_arrays (more rest) (with_length ts e)
length_closed i ts a rest more e opens shut inner closes =
    length_read i ts a more (Some e) opens shut inner
    ∙ ap (λ s. cond (is_right_bracket s) (after_arrays (more (behind_first e.rest)) (with_length ts e)) None) closes.symbol
    ∙ ap (λ x. after_arrays (more x) (with_length ts e)) (sym closes.behind)

-- ---- abstract declarators

nested_here : (i : Readers) (ts a : List Terminal) (r : Option GotLayers) → IsSign p.LeftParenthesis ts a → i.declarator a ≡ r → nested i ts ≡ after_layers r closed_layers
nested_here i ts a r opens inner =
    ap (λ s. cond (is_left_parenthesis s) (after_layers (i.declarator (behind_first ts)) closed_layers) (Some (no_layers ts))) opens.symbol
    ∙ ap (λ x. after_layers (i.declarator x) closed_layers) (sym opens.behind)
    ∙ ap (λ x. after_layers x closed_layers) inner

pub nested_none : (i : Readers) (ts a : List Terminal) → IsSign p.LeftParenthesis ts a → i.declarator a ≡ None → nested i ts ≡ None
nested_none i ts a opens inner = nested_here i ts a None opens inner

pub nested_open : (i : Readers) (ts a : List Terminal) (g : GotLayers) → IsSign p.LeftParenthesis ts a → i.declarator a ≡ Some g → is_right_parenthesis (first_symbol g.rest) ≡ false → nested i ts ≡ None
nested_open i ts a g opens inner shut = nested_here i ts a (Some g) opens inner ∙ ap (λ x. cond x (Some (record g { rest = behind_first g.rest })) None) shut

pub nested_closed : (i : Readers) (ts a rest : List Terminal) (g : GotLayers) → IsSign p.LeftParenthesis ts a → i.declarator a ≡ Some g → IsSign p.RightParenthesis g.rest rest → nested i ts ≡ Some (record g { rest = rest })
nested_closed i ts a rest g opens inner shut =
    nested_here i ts a (Some g) opens inner
    ∙ ap (λ s. cond (is_right_parenthesis s) (Some (record g { rest = behind_first g.rest })) None) shut.symbol
    ∙ ap (λ (x : List Terminal). Some (record g { rest = x })) (sym shut.behind)

-- ---- type names

abbrev pub behind_words : ℕ → Readers → GotWords → Option GotName
behind_words b i g = cond (begins_abstract (first_symbol g.rest)) (after_layers (i.declarator g.rest) (declared b g.words)) (plain g)

kept : (x : Bool) (g : GotWords) (k : GotWords → Option GotName) → cond x (k g) None ≡ after_words (cond x (Some g) None) k
kept true g k = refl
kept false g k = refl

named_split : (b : ℕ) (i : Readers) (o : Option GotWords) → after_words o (named b i) ≡ after_words (after_words o of_one_type) (behind_words b i)
named_split b i None = refl
named_split b i (Some g) = kept (is_one_type (counts_of g.words)) g (behind_words b i)

pub name_read : (known : List (List ℕ)) (b : ℕ) (i : Readers) (ts : List Terminal) (r : Option GotWords) → after_words (words known (length ts) ts) of_one_type ≡ r → type_name known b i ts ≡ after_words r (behind_words b i)
name_read known b i ts r words-are = named_split b i (words known (length ts) ts) ∙ ap (λ x. after_words x (behind_words b i)) words-are

pub name_plain : (known : List (List ℕ)) (b : ℕ) (i : Readers) (ts : List Terminal) (g : GotWords) → after_words (words known (length ts) ts) of_one_type ≡ Some g → begins_abstract (first_symbol g.rest) ≡ false → type_name known b i ts ≡ plain g
name_plain known b i ts g words-are alone = name_read known b i ts (Some g) words-are ∙ ap (λ x. cond x (after_layers (i.declarator g.rest) (declared b g.words)) (plain g)) alone

pub name_declared : (known : List (List ℕ)) (b : ℕ) (i : Readers) (ts : List Terminal) (g : GotWords) (r : Option GotLayers) → after_words (words known (length ts) ts) of_one_type ≡ Some g → begins_abstract (first_symbol g.rest) ≡ true → i.declarator g.rest ≡ r →
    type_name known b i ts ≡ after_layers r (declared b g.words)
name_declared known b i ts g r words-are more inner =
    name_read known b i ts (Some g) words-are
    ∙ ap (λ x. cond x (after_layers (i.declarator g.rest) (declared b g.words)) (plain g)) more
    ∙ ap (λ x. after_layers x (declared b g.words)) inner
