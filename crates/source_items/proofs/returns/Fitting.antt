-- Items that fit whatever fits behind them.
use Rattle.std.proofs.Common.{◌≡◌, Bool, true, false, List, [], ◌∷◌, ◌++◌, append_assoc, refl, ap, sym, subst}
use Rattle.c_layout.specs.CheckedUnits.{FunctionView}
use Rattle.semantics.specs.SourceMachine.Items as item
use Rattle.semantics.specs.SourceMachine.Items.{Item, Items, items_of, listed}
use Rattle.semantics.specs.SourceMachine.Scopes.{past_loop, past_iteration}
use Rattle.semantics.specs.SourceMachine.TermItems.{if_used, left_if}
use Rattle.source_items.specs.Returns.Leavings.{Fits, AllFit, Fit}

-- wherever some items fit, they fit with these items before them
abbrev pub Adds : FunctionView → List Item → Type 0
Adds f items = (rest : List Item) → Fit f rest → Fit f (items ++ rest)

listed_of : (items : List Item) → listed (items_of items) ≡ items
listed_of [] = refl
listed_of (i ∷ items) = ap (λ rest. i ∷ rest) (listed_of items)

module _ (f : FunctionView) where
  -- ---- parts of lists

  pub fit_after : (items rest : List Item) → Fit f (items ++ rest) → Fit f rest
  fit_after [] rest fit = fit
  fit_after (i ∷ items) rest fit = fit_after items rest fit.1

  pub fit_behind_loop : (items : List Item) → Fit f items → Fit f (past_loop items)
  fit_behind_loop [] fit = tt
  fit_behind_loop (item.LoopEnd ∷ items) fit = fit.1
  fit_behind_loop (i ∷ items) fit = fit_behind_loop items fit.1

  pub fit_behind_turn : (items : List Item) → Fit f items → Fit f (past_iteration items)
  fit_behind_turn [] fit = tt
  fit_behind_turn (item.IterationEnd ∷ items) fit = fit.1
  fit_behind_turn (i ∷ items) fit = fit_behind_turn items fit.1

  -- ---- items that are chosen

  pub all_fit : (items rest : List Item) → Fit f (items ++ rest) → AllFit f (items_of items) rest
  all_fit [] rest fit = tt
  all_fit (i ∷ items) rest fit = (subst (λ xs. Fits f i (xs ++ rest)) (sym (listed_of items)) fit.0, all_fit items rest fit.1)

  pub listed_fit : (items : Items) (rest : List Item) → AllFit f items rest → Fit f rest → Fit f (listed items ++ rest)
  listed_fit item.Nothing rest all fit = fit
  listed_fit (item.First i items) rest all fit = (all.0, listed_fit items rest all.1 fit)

  -- ---- items before others

  pub adds_both : (items others : List Item) → Adds f items → Adds f others → Adds f (items ++ others)
  adds_both items others one other rest fit = subst (Fit f) (sym (append_assoc items others rest)) (one (others ++ rest) (other rest fit))

  pub adds_if_used : (used : Bool) (items : List Item) → Adds f items → Adds f (if_used used items)
  adds_if_used true items adds = adds
  adds_if_used false items adds = adds_both items (item.Drop ∷ []) adds (λ rest fit. (tt, fit))

  pub adds_left_if : (gives used : Bool) (items : List Item) → Adds f items → Adds f (left_if gives used items)
  adds_left_if true used items adds = adds_if_used used items adds
  adds_left_if false used items adds = adds
