-- Readers of lists, over the reader of an item.
use Rattle.std.specs.Prelude.{ℕ, zero, suc, cond, max, List, [], ◌∷◌, Option, Some, None}
use Rattle.c_parser_tokens.specs.declared.terminals.Terminal.{Terminal}
use Rattle.c_parser_expression_grammar.specs.Fronts.{first_symbol, behind_first}
use Rattle.c_parser_expression_grammar.specs.Readings.{is_comma, is_right_brace}

-- what was read, its height, and the terminals behind it
pub record GotItem (X : Type 0) : Type 0 where
  pub item : X
  pub height : ℕ
  pub rest : List Terminal

abbrev pub Item : Type 0 → Type 0
Item X = List Terminal → Option (GotItem X)

abbrev pub item_of : {X : Type 0} → X → ℕ → List Terminal → GotItem X
item_of x h rest = record { item = x; height = h; rest = rest }

abbrev pub after_item : {X Y : Type 0} → Option (GotItem X) → (GotItem X → Option Y) → Option Y
after_item None more = None
after_item (Some g) more = more g

abbrev pub one_more : {X : Type 0} → GotItem X → GotItem (List X) → Option (GotItem (List X))
one_more g more = Some (item_of (g.item ∷ more.item) (max g.height more.height) more.rest)

abbrev pub last_one : {X : Type 0} → GotItem X → List Terminal → Option (GotItem (List X))
last_one g rest = Some (item_of (g.item ∷ []) g.height rest)

-- one item or more, with a comma between any two
abbrev pub listed : {X : Type 0} → Item X → ℕ → Item (List X)
listed item zero ts = None
listed item (suc turns) ts =
    after_item (item ts) (λ g. cond (is_comma (first_symbol g.rest)) (after_item (listed item turns (behind_first g.rest)) (one_more g)) (last_one g g.rest))

-- items behind a `{` with the `}`, a comma between any two and maybe one behind the last
abbrev pub braced : {X : Type 0} → Item X → ℕ → Item (List X)
braced item zero ts = None
braced item (suc turns) ts =
    after_item (item ts) (λ g. cond (is_comma (first_symbol g.rest))
    (cond (is_right_brace (first_symbol (behind_first g.rest))) (last_one g (behind_first (behind_first g.rest))) (after_item (braced item turns (behind_first g.rest)) (one_more g)))
    (cond (is_right_brace (first_symbol g.rest)) (last_one g (behind_first g.rest)) None))

-- items one behind another up to a `}`, of which there is one at least
abbrev pub chained : {X : Type 0} → Item X → ℕ → Item (List X)
chained item zero ts = None
chained item (suc turns) ts =
    after_item (item ts) (λ g. cond (is_right_brace (first_symbol g.rest)) (last_one g (behind_first g.rest)) (after_item (chained item turns g.rest) (one_more g)))
