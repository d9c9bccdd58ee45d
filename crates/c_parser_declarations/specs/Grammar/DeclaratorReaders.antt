-- The readers of declarators (6.7.6) and abstract declarators (6.7.7) as definitions. They answer the layers from
-- the outermost to the innermost.
use Rattle.std.specs.Prelude.{◌+◌, ◌==◌, ◌&&◌, ℕ, zero, suc, Bool, false, cond, max, length, nat_lt, nat_le, List, [], ◌∷◌, Option, Some, None, is_some}
use Rattle.c_layout.specs.DeclarationTrees.{NameView, SuffixView, DeclaratorLayerView, DeclaratorView}
use Rattle.c_parser_tokens.specs.declared.terminals.Terminal.{Terminal}
use Rattle.c_parser_expression_grammar.specs.Fronts.{first_symbol, first_place, first_text, behind_first, is_identifier_first}
use Rattle.c_parser_expression_grammar.specs.TypeNames.{is_one_star}
use Rattle.c_parser_expression_grammar.specs.Readings.{Reading, is_left_parenthesis, is_right_parenthesis, is_left_bracket, is_right_bracket}
use Rattle.c_parser_expression_grammar.specs.ExpressionReaders.{Readers}
use Rattle.c_parser_expression_grammar.specs.TypeNameReaders.{stars, readers_inside}
use Rattle.c_parser_declarations.specs.Grammar.Items.{Item, GotItem, item_of, after_item, listed}

-- ---- brackets

-- brackets, with both heights: the greatest of what stands before them and of their lengths, and the one where each pair adds 1
pub record GotSuffixes : Type 0 where
  pub arrays : List SuffixView
  pub flat : ℕ
  pub climbed : ℕ
  pub rest : List Terminal

abbrev pub closed_suffix : List Terminal → Reading → Option (GotItem SuffixView)
closed_suffix ts None = None
closed_suffix ts (Some e) = cond (is_right_bracket (first_symbol e.rest)) (Some (item_of (record { at = first_place ts; length = Some e.tree }) e.height (behind_first e.rest))) None

-- one pair; `i` are the readers of what stands inside
abbrev pub suffix : Readers → List Terminal → Option (GotItem SuffixView)
suffix i ts =
    cond (is_right_bracket (first_symbol (behind_first ts))) (Some (item_of (record { at = first_place ts; length = None }) 0 (behind_first (behind_first ts)))) (closed_suffix ts (i.conditional (behind_first ts)))

-- no height is beyond 32 bits
abbrev pub climbs : ℕ → Bool
climbs n = nat_lt n 4294967295

abbrev pub with_suffix : SuffixView → GotSuffixes → Option GotSuffixes
with_suffix s g = Some (record { arrays = s ∷ g.arrays; flat = g.flat; climbed = g.climbed; rest = g.rest })

abbrev pub after_suffixes : {X : Type 0} → Option GotSuffixes → (GotSuffixes → Option X) → Option X
after_suffixes None more = None
after_suffixes (Some g) more = more g

-- so many pairs at most, behind something of these heights
abbrev pub suffixes : Readers → ℕ → ℕ → ℕ → List Terminal → Option GotSuffixes
suffixes i zero flat climbed ts = Some (record { arrays = []; flat = flat; climbed = climbed; rest = ts })
suffixes i (suc turns) flat climbed ts =
    cond (is_left_bracket (first_symbol ts))
    (after_item (suffix i ts) (λ s. cond (climbs (max climbed s.height)) (after_suffixes (suffixes i turns (max flat s.height) (max climbed s.height + 1) s.rest) (with_suffix s.item)) None))
    (Some (record { arrays = []; flat = flat; climbed = climbed; rest = ts }))

-- ---- layers

pub record GotParts : Type 0 where
  pub layers : List DeclaratorLayerView
  pub name : Option NameView
  pub height : ℕ
  pub rest : List Terminal

abbrev pub after_parts : {X : Type 0} → Option GotParts → (GotParts → Option X) → Option X
after_parts None more = None
after_parts (Some g) more = more g

abbrev pub parts_of : List DeclaratorLayerView → Option NameView → ℕ → List Terminal → GotParts
parts_of layers name h rest = record { layers = layers; name = name; height = h; rest = rest }

abbrev pub within : ℕ → ℕ → Option ℕ
within b h = cond (nat_le h b) (Some h) None

abbrev pub above : ℕ → ℕ → Option ℕ
above b parts = cond (nat_lt parts b) (Some (parts + 1)) None

abbrev pub named_height : ℕ → List ℕ → ℕ → Option ℕ
named_height b qs climbed = cond (length qs == 0) (within b climbed) (above b climbed)

abbrev pub stars_height : ℕ → List ℕ → Option ℕ
stars_height b qs = cond (is_one_star qs) (Some 0) (above b 0)

abbrev pub innermost_height : ℕ → List ℕ → ℕ → ℕ → Option ℕ
innermost_height b qs pairs flat = cond (pairs == 0) (stars_height b qs) (above b flat)

abbrev pub abstract_height : ℕ → List DeclaratorLayerView → List ℕ → ℕ → ℕ → Option ℕ
abstract_height b [] qs pairs flat = innermost_height b qs pairs flat
abstract_height b (next ∷ inner) qs pairs flat = above b flat

abbrev pub layer_height : ℕ → Option NameView → List DeclaratorLayerView → List ℕ → GotSuffixes → Option ℕ
layer_height b (Some name) inner qs own = named_height b qs own.climbed
layer_height b None inner qs own = abstract_height b inner qs (length own.arrays) own.flat

-- whether nothing stands in a layer
abbrev pub is_nothing : Option NameView → List DeclaratorLayerView → List ℕ → List SuffixView → Bool
is_nothing (Some name) inner qs arrays = false
is_nothing None (next ∷ inner) qs arrays = false
is_nothing None [] qs arrays = length qs == 0 && length arrays == 0

abbrev pub layer_of : List ℕ → List SuffixView → DeclaratorLayerView
layer_of qs arrays = record { stars = qs; arrays = arrays }

abbrev pub layered_at : List ℕ → GotParts → GotSuffixes → Option ℕ → Option GotParts
layered_at qs inner own None = None
layered_at qs inner own (Some h) = Some (parts_of (layer_of qs own.arrays ∷ inner.layers) inner.name h own.rest)

abbrev pub layered : ℕ → List ℕ → GotParts → GotSuffixes → Option GotParts
layered b qs inner own = cond (is_nothing inner.name inner.layers qs own.arrays) None (layered_at qs inner own (layer_height b inner.name inner.layers qs own))

-- ---- declarators. `i` are the readers inside, `d` the reader of declarators inside.

abbrev pub closed_height : ℕ → Option NameView → ℕ → Option ℕ
closed_height b (Some name) h = above b h
closed_height b None h = Some h

abbrev pub closed_at : GotParts → List Terminal → Option ℕ → Option GotParts
closed_at g rest None = None
closed_at g rest (Some h) = Some (parts_of g.layers g.name h rest)

abbrev pub closed : ℕ → GotParts → Option GotParts
closed b g = cond (is_right_parenthesis (first_symbol g.rest)) (closed_at g (behind_first g.rest) (closed_height b g.name g.height)) None

abbrev pub name_at : List Terminal → NameView
name_at ts = record { at = first_place ts; text = first_text ts }

-- one in parentheses
abbrev pub enclosed : ℕ → (List Terminal → Option GotParts) → List Terminal → Option GotParts
enclosed b d ts = cond (is_left_parenthesis (first_symbol ts)) (after_parts (d (behind_first ts)) (closed b)) None

abbrev pub named_core : List (List ℕ) → List Terminal → Option GotParts
named_core known ts = cond (is_identifier_first known ts) (Some (parts_of [] (Some (name_at ts)) 0 (behind_first ts))) None

abbrev pub core : List (List ℕ) → ℕ → (List Terminal → Option GotParts) → List Terminal → Option GotParts
core known b d ts =
    cond (is_left_parenthesis (first_symbol ts)) (after_parts (d (behind_first ts)) (closed b))
    (cond (is_identifier_first known ts) (Some (parts_of [] (Some (name_at ts)) 0 (behind_first ts))) (Some (parts_of [] None 0 ts)))

abbrev pub behind_stars : List (List ℕ) → ℕ → Readers → (List Terminal → Option GotParts) → List ℕ → List Terminal → Option GotParts
behind_stars known b i d qs ts =
    after_parts (core known b d ts) (λ inner. after_suffixes (suffixes i (length inner.rest) inner.height inner.height inner.rest) (layered b qs inner))

abbrev pub any_declarator : List (List ℕ) → ℕ → Readers → (List Terminal → Option GotParts) → List Terminal → Option GotParts
any_declarator known b i d ts = behind_stars known b i d (stars (length ts) ts).stars (stars (length ts) ts).rest

-- the reader of declarators inside
abbrev pub declarators_inside : List (List ℕ) → ℕ → List Terminal → Option GotParts
declarators_inside known zero = λ ts. None
declarators_inside known (suc b) = any_declarator known b (readers_inside known b) (declarators_inside known b)

-- a declarator or an abstract one, within a budget
abbrev pub declarators : List (List ℕ) → ℕ → List Terminal → Option GotParts
declarators known b = any_declarator known b (readers_inside known b) (declarators_inside known b)

-- a declarator or an abstract one as a whole
abbrev pub whole : GotParts → Option (GotItem DeclaratorView)
whole g = Some (item_of (record { layers = g.layers; name = g.name }) g.height g.rest)

abbrev pub parameter_declarator : List (List ℕ) → ℕ → Item DeclaratorView
parameter_declarator known b ts = after_parts (declarators known b ts) whole

-- a declarator, which has a name, behind these stars
abbrev pub named_declarator : List (List ℕ) → ℕ → List ℕ → Item DeclaratorView
named_declarator known b qs ts = after_parts (behind_stars known b (readers_inside known b) (declarators_inside known b) qs ts) (λ g. cond (is_some g.name) (whole g) None)

abbrev pub declarator : List (List ℕ) → ℕ → Item DeclaratorView
declarator known b ts = named_declarator known b (stars (length ts) ts).stars (stars (length ts) ts).rest

-- one or more, with commas between them
abbrev pub declarator_list : List (List ℕ) → ℕ → Item (List DeclaratorView)
declarator_list known b ts = listed (declarator known b) (length ts) ts
