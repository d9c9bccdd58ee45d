-- Items that sit before whatever sits behind them, and enter and leave nothing.
use Rattle.std.proofs.Common.{◌≡◌, Bool, true, false, List, [], ◌∷◌, ◌++◌, append_assoc, refl, ap, sym, subst, ◌∙◌}
use Rattle.c_layout.specs.CheckedUnits.{FunctionView}
use Rattle.semantics.specs.SourceMachine.Items as item
use Rattle.semantics.specs.SourceMachine.Items.{Item, Items, items_of, listed}
use Rattle.semantics.specs.SourceMachine.Scopes.{past_loop, past_iteration}
use Rattle.semantics.specs.SourceMachine.TermItems.{if_used, left_if}
use Rattle.source_items.specs.Liveness.Lives.{Lives, lives}
use Rattle.source_items.specs.Liveness.Livings.{Keeps, Sits, AllSit, Sit}

listed_of : (items : List Item) → listed (items_of items) ≡ items
listed_of [] = refl
listed_of (i ∷ items) = ap (λ rest. i ∷ rest) (listed_of items)

module _ (f : FunctionView) (first : Bool) where
  -- before other items, where the same lives behind them, these sit
  abbrev pub Leads : List Item → List Item → Type 0
  Leads items rest = (lives f first (items ++ rest) ≡ lives f first rest) × Sit f first (items ++ rest)

  -- so it is wherever something holds of what lives
  abbrev pub Adds : (Lives → Type 0) → List Item → Type 0
  Adds P items = (rest : List Item) → P (lives f first rest) → Sit f first rest → Leads items rest

  -- ---- parts of lists

  pub sit_after : (items rest : List Item) → Sit f first (items ++ rest) → Sit f first rest
  sit_after [] rest sit = sit
  sit_after (i ∷ items) rest sit = sit_after items rest sit.1

  pub sit_behind_loop : (items : List Item) → Sit f first items → Sit f first (past_loop items)
  sit_behind_loop [] sit = tt
  sit_behind_loop (item.LoopEnd ∷ items) sit = sit.1
  sit_behind_loop (i ∷ items) sit = sit_behind_loop items sit.1

  pub sit_behind_turn : (items : List Item) → Sit f first items → Sit f first (past_iteration items)
  sit_behind_turn [] sit = tt
  sit_behind_turn (item.IterationEnd ∷ items) sit = sit.1
  sit_behind_turn (i ∷ items) sit = sit_behind_turn items sit.1

  -- ---- items that are chosen

  all_sit : (items rest : List Item) → Sit f first (items ++ rest) → AllSit f first (items_of items) rest
  all_sit [] rest sit = tt
  all_sit (i ∷ items) rest sit = (subst (λ xs. Sits f first i (xs ++ rest)) (sym (listed_of items)) sit.0, all_sit items rest sit.1)

  pub chosen_sit : (items rest : List Item) → Leads items rest → Keeps f first (items_of items) rest × AllSit f first (items_of items) rest
  chosen_sit items rest leads = (ap (λ xs. lives f first (xs ++ rest)) (listed_of items) ∙ leads.0, all_sit items rest leads.1)

  pub listed_sit : (items : Items) (rest : List Item) → AllSit f first items rest → Sit f first rest → Sit f first (listed items ++ rest)
  listed_sit item.Nothing rest all sit = sit
  listed_sit (item.First i items) rest all sit = (all.0, listed_sit items rest all.1 sit)

  -- ---- items before others

  module _ (P : Lives → Type 0) where
    pub adds_both : (items others : List Item) → Adds P items → Adds P others → Adds P (items ++ others)
    adds_both items others one other rest holds sit =
        let later : Leads others rest = other rest holds sit in
        let now : Leads items (others ++ rest) = one (others ++ rest) (subst P (sym later.0) holds) later.1 in
        subst (λ xs. (lives f first xs ≡ lives f first rest) × Sit f first xs) (sym (append_assoc items others rest)) (now.0 ∙ later.0, now.1)

    pub adds_if_used : (used : Bool) (items : List Item) → Adds P items → Adds P (if_used used items)
    adds_if_used true items adds = adds
    adds_if_used false items adds = adds_both items (item.Drop ∷ []) adds (λ rest holds sit. (refl, (tt, sit)))

    pub adds_left_if : (gives used : Bool) (items : List Item) → Adds P items → Adds P (left_if gives used items)
    adds_left_if true used items adds = adds_if_used used items adds
    adds_left_if false used items adds = adds
