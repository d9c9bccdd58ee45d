-- The readers of type names and abstract declarators as definitions.
use Rattle.std.specs.Prelude.{◌+◌, ◌||◌, ℕ, zero, suc, Bool, true, false, cond, max, length, nat_lt, List, [], ◌∷◌, Option, Some, None}
use Rattle.c_layout.specs.SyntaxTrees.{Trees, LayerView, End, More}
use Rattle.c_layout.specs.declared.syntax_tree.declarations.Storage.{Storage}
use Rattle.c_layout.specs.declared.syntax_tree.declarations.TypeWord.{TypeWord}
use Rattle.c_layout.specs.declared.syntax_tree.expressions.Brackets.{Brackets}
use Rattle.c_layout.specs.declared.syntax_tree.expressions.Name.{Name}
use Rattle.c_layout.specs.declared.syntax_tree.expressions.TypeNameWord.{TypeNameWord}
use Rattle.c_layout.specs.declared.syntax_tree.expressions.TypeNameWord.TheVariants as word
use Rattle.c_parser_tokens.specs.declared.terminals.Keyword.{Keyword}
use Rattle.c_parser_tokens.specs.declared.terminals.Keyword.TheVariants as k
use Rattle.c_parser_tokens.specs.declared.terminals.Punctuator.TheVariants as p
use Rattle.c_parser_tokens.specs.declared.terminals.Symbol.{Symbol}
use Rattle.c_parser_tokens.specs.declared.terminals.Symbol.TheVariants as symbol
use Rattle.c_parser_tokens.specs.declared.terminals.Terminal.{Terminal}
use Rattle.c_parser_expression_grammar.specs.Fronts.{first_symbol, first_place, first_text, behind_first, is_typedef_first, is_identifier_first, begins_specifiers}
use Rattle.c_parser_expression_grammar.specs.TypeNames.{type_word_of, storage_class, is_qualifier, is_pointer_qualifier, is_something, is_lone_star, is_one_type, counts_of, words_height}
use Rattle.c_parser_expression_grammar.specs.Readings.{Got, GotName, GotLayers, Reading, after_layers, is_left_parenthesis, is_right_parenthesis, is_left_bracket, is_right_bracket}
use Rattle.c_parser_expression_grammar.specs.ExpressionReaders.{Readers, NameReaders, readers, inside}

-- ---- words

pub record GotWord : Type 0 where
  pub word : TypeNameWord
  pub rest : List Terminal

pub record GotWords : Type 0 where
  pub words : List TypeNameWord
  pub rest : List Terminal

abbrev pub name_first : List Terminal → Name
name_first ts = record { place = first_place ts; text = first_text ts }

-- `struct` or `enum` with a tag
abbrev pub tagged : List (List ℕ) → List Terminal → TypeNameWord → Option GotWord
tagged known ts w = cond (is_identifier_first known (behind_first ts)) (Some (record { word = w; rest = behind_first (behind_first ts) })) None

abbrev pub other_word : List (List ℕ) → List Terminal → Keyword → Option GotWord
other_word known ts k.Struct = tagged known ts (word.Struct (first_place ts) (name_first (behind_first ts)))
other_word known ts k.Enum = tagged known ts (word.Enum (first_place ts) (name_first (behind_first ts)))
other_word known ts _ = None

-- a keyword that is no word of an integer type
abbrev pub untyped_word : List (List ℕ) → List Terminal → Keyword → Option Storage → Option GotWord
untyped_word known ts w (Some class) = Some (record { word = word.Storage (first_place ts) class; rest = behind_first ts })
untyped_word known ts w None = cond (is_qualifier w) (Some (record { word = word.Qualifier (first_place ts); rest = behind_first ts })) (other_word known ts w)

abbrev pub keyword_word : List (List ℕ) → List Terminal → Keyword → Option TypeWord → Option GotWord
keyword_word known ts w (Some named) = Some (record { word = word.Type (first_place ts) named; rest = behind_first ts })
keyword_word known ts w None = untyped_word known ts w (storage_class w)

abbrev pub word_by : List (List ℕ) → List Terminal → Symbol → Option GotWord
word_by known ts (symbol.Keyword w) = keyword_word known ts w (type_word_of w)
word_by known ts _ = cond (is_typedef_first known ts) (Some (record { word = word.Typedef (name_first ts); rest = behind_first ts })) None

abbrev pub word_before : TypeNameWord → Option GotWords → Option GotWords
word_before w None = None
word_before w (Some g) = Some (record { words = w ∷ g.words; rest = g.rest })

abbrev pub with_word : Option GotWord → (List Terminal → Option GotWords) → Option GotWords
with_word None more = None
with_word (Some g) more = word_before g.word (more g.rest)

-- so many words at most
abbrev pub words : List (List ℕ) → ℕ → List Terminal → Option GotWords
words known zero ts = Some (record { words = []; rest = ts })
words known (suc turns) ts = cond (begins_specifiers known ts) (with_word (word_by known ts (first_symbol ts)) (words known turns)) (Some (record { words = []; rest = ts }))

abbrev pub of_one_type : GotWords → Option GotWords
of_one_type g = cond (is_one_type (counts_of g.words)) (Some g) None

-- ---- stars

abbrev pub is_star : Symbol → Bool
is_star (symbol.Punctuator p.Star) = true
is_star _ = false

pub record GotStars : Type 0 where
  pub stars : List ℕ
  pub rest : List Terminal

-- how many of so many qualifiers stand next, and what is behind them
abbrev pub qualifiers : ℕ → List Terminal → ℕ × List Terminal
qualifiers zero ts = (zero, ts)
qualifiers (suc turns) ts = cond (is_pointer_qualifier (first_symbol ts)) (suc (qualifiers turns (behind_first ts)).0, (qualifiers turns (behind_first ts)).1) (zero, ts)

abbrev pub with_star : ℕ → GotStars → GotStars
with_star q g = record { stars = q ∷ g.stars; rest = g.rest }

abbrev pub qualified : List Terminal → ℕ × List Terminal
qualified ts = qualifiers (length ts) ts

abbrev pub stars : ℕ → List Terminal → GotStars
stars zero ts = record { stars = []; rest = ts }
stars (suc turns) ts =
    cond (is_star (first_symbol ts)) (with_star (qualified (behind_first ts)).0 (stars turns (qualified (behind_first ts)).1)) (record { stars = []; rest = ts })

-- ---- brackets

pub record GotArrays : Type 0 where
  pub arrays : List Brackets
  pub lengths : Trees
  pub height : ℕ
  pub rest : List Terminal

abbrev pub no_arrays : List Terminal → GotArrays
no_arrays ts = record { arrays = []; lengths = End; height = 0; rest = ts }

abbrev pub after_arrays : {X : Type 0} → Option GotArrays → (GotArrays → Option X) → Option X
after_arrays None more = None
after_arrays (Some g) more = more g

abbrev pub pair_at : List Terminal → Bool → Brackets
pair_at ts filled = record { place = first_place ts; has_length = filled }

abbrev pub with_empty : List Terminal → GotArrays → Option GotArrays
with_empty ts g = Some (record { arrays = pair_at ts false ∷ g.arrays; lengths = g.lengths; height = g.height; rest = g.rest })

abbrev pub with_length : List Terminal → Got → GotArrays → Option GotArrays
with_length ts e g = Some (record { arrays = pair_at ts true ∷ g.arrays; lengths = More e.tree g.lengths; height = max e.height g.height; rest = g.rest })

abbrev pub closed_length : List Terminal → Reading → (List Terminal → Option GotArrays) → Option GotArrays
closed_length ts None more = None
closed_length ts (Some e) more = cond (is_right_bracket (first_symbol e.rest)) (after_arrays (more (behind_first e.rest)) (with_length ts e)) None

-- one pair, and more
abbrev pub pair : Readers → List Terminal → (List Terminal → Option GotArrays) → Option GotArrays
pair i ts more =
    cond (is_right_bracket (first_symbol (behind_first ts))) (after_arrays (more (behind_first (behind_first ts))) (with_empty ts)) (closed_length ts (i.conditional (behind_first ts)) more)

abbrev pub pairs : Readers → ℕ → List Terminal → Option GotArrays
pairs i zero ts = Some (no_arrays ts)
pairs i (suc turns) ts = cond (is_left_bracket (first_symbol ts)) (pair i ts (pairs i turns)) (Some (no_arrays ts))

-- ---- abstract declarators

abbrev pub no_layers : List Terminal → GotLayers
no_layers ts = record { layers = []; lengths = End; height = 0; rest = ts }

abbrev pub closed_layers : GotLayers → Option GotLayers
closed_layers g = cond (is_right_parenthesis (first_symbol g.rest)) (Some (record g { rest = behind_first g.rest })) None

-- the one in parentheses, if there is one
abbrev pub nested : Readers → List Terminal → Option GotLayers
nested i ts = cond (is_left_parenthesis (first_symbol ts)) (after_layers (i.declarator (behind_first ts)) closed_layers) (Some (no_layers ts))

abbrev pub both : Trees → Trees → Trees
both End more = more
both (More e es) more = More e (both es more)

abbrev pub layer_height : ℕ → List LayerView → LayerView → ℕ → Option ℕ
layer_height b [] layer parts = cond (is_lone_star layer) (Some 0) (cond (nat_lt parts b) (Some (parts + 1)) None)
layer_height b (next ∷ inner) layer parts = cond (nat_lt parts b) (Some (parts + 1)) None

abbrev pub is_layer : List LayerView → LayerView → Bool
is_layer [] layer = is_something layer
is_layer (next ∷ inner) layer = true

abbrev pub layered_at : LayerView → GotLayers → GotArrays → Option ℕ → Option GotLayers
layered_at layer inner own None = None
layered_at layer inner own (Some h) = Some (record { layers = layer ∷ inner.layers; lengths = both inner.lengths own.lengths; height = h; rest = own.rest })

abbrev pub layered : ℕ → List ℕ → GotLayers → GotArrays → Option GotLayers
layered b stars inner own =
    cond (is_layer inner.layers (record { stars = stars; arrays = own.arrays }))
    (layered_at (record { stars = stars; arrays = own.arrays }) inner own (layer_height b inner.layers (record { stars = stars; arrays = own.arrays }) (max inner.height own.height))) None

abbrev pub behind_stars : ℕ → Readers → GotStars → Option GotLayers
behind_stars b i s = after_layers (nested i s.rest) (λ inner. after_arrays (pairs i (length inner.rest) inner.rest) (layered b s.stars inner))

abbrev pub declarator : ℕ → Readers → List Terminal → Option GotLayers
declarator b i ts = behind_stars b i (stars (length ts) ts)

-- ---- type names

abbrev pub begins_abstract : Symbol → Bool
begins_abstract s = is_star s || (is_left_parenthesis s || is_left_bracket s)

abbrev pub declared : ℕ → List TypeNameWord → GotLayers → Option GotName
declared b ws g =
    cond (nat_lt (max (words_height ws) g.height) b) (Some (record { name = record { words = ws; layers = g.layers }; lengths = g.lengths; height = max (words_height ws) g.height + 1; rest = g.rest })) None

abbrev pub plain : GotWords → Option GotName
plain g = Some (record { name = record { words = g.words; layers = [] }; lengths = End; height = words_height g.words; rest = g.rest })

abbrev pub named : ℕ → Readers → GotWords → Option GotName
named b i g =
    cond (is_one_type (counts_of g.words)) (cond (begins_abstract (first_symbol g.rest)) (after_layers (i.declarator g.rest) (declared b g.words)) (plain g)) None

abbrev pub after_words : {X : Type 0} → Option GotWords → (GotWords → Option X) → Option X
after_words None more = None
after_words (Some g) more = more g

abbrev pub type_name : List (List ℕ) → ℕ → Readers → List Terminal → Option GotName
type_name known b i ts = after_words (words known (length ts) ts) (named b i)

-- ---- all readers

abbrev pub names_of : List (List ℕ) → NameReaders
names_of known = record { name = type_name known; declarator = declarator }

-- the readers of a budget, with these typedef names in force
abbrev pub all_readers : List (List ℕ) → ℕ → Readers
all_readers known = readers (names_of known) known

-- those of what stands inside of what is read within a budget
abbrev pub readers_inside : List (List ℕ) → ℕ → Readers
readers_inside known = inside (names_of known) known
