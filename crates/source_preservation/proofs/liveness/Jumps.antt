-- How what a function names and has to do changes, so that it names just what lives.
use Rattle.std.proofs.Common.{◌≡◌, ℕ, ◌==◌, Bool, true, false, List, [], ◌∷◌, Option, Some, None, refl, ap, sym, subst, ◌∙◌}
use Rattle.std.proofs.lemmas.Bool.{eqb-true}
use Rattle.std.specs.Option.{is_some}
use Rattle.c_layout.specs.CheckedTrees.{StatementTree}
use Rattle.c_layout.specs.CheckedUnits.{UnitView, FunctionView}
use Rattle.memory_model.specs.Effects.NumberedTables.{put_at, clear_at}
use Rattle.semantics.specs.SourceMachine.Items.{Item}
use Rattle.semantics.specs.SourceMachine.Scopes.{is_in, all_of, open_scopes, entered_between, jump, entering_first, leap_in, past_loop}
use Rattle.semantics.specs.SourceMachine.SourceStates.{function_at}
use Rattle.source_items.specs.Liveness.Lives.{without_those, lives, kept_objects, AreAlive, IsInBody}
use Rattle.source_items.specs.Liveness.Livings.{Selects, Sits, Sit, Living, LivingAt}
use Rattle.source_items.proofs.liveness.Inlinings.{jump_same, leap_same, left_new, entered_alive}
use Rattle.source_items.proofs.liveness.Sitting.{sit_behind_loop}
use Rattle.source_items.proofs.liveness.SittingStatements.{Replaces}
use Rattle.source_items.proofs.liveness.Labels.{Reached}

-- ---- the function that runs

some_same : (f g : FunctionView) → Some f ≡ Some g → f ≡ g
some_same f g e = cc

one_function : (o : Option FunctionView) (f g : FunctionView) → o ≡ Some f → o ≡ Some g → f ≡ g
one_function o f g one other = some_same f g (sym one ∙ other)

module _ (u : UnitView) (g : ℕ) (first : Bool) (names other : ℕ → Option ℕ) (items others : List Item) where
  pub change_at : ((f : FunctionView) → function_at u g ≡ Some f → Living f first names items → Living f first other others) → LivingAt u g first names items → LivingAt u g first other others
  change_at change living = record { function = living.function; is = living.is; living = change living.function living.is living.living }

  -- where its function is known
  pub change_for : (f : FunctionView) → function_at u g ≡ Some f → (Living f first names items → Living f first other others) → LivingAt u g first names items → LivingAt u g first other others
  change_for f is_f change living = change_at (λ h is. subst (λ h. Living h first names items → Living h first other others) (one_function (function_at u g) f h is_f is) change) living

module _ (f : FunctionView) (first : Bool) where
  -- ---- other items in the place of one

  pub in_place : (names : ℕ → Option ℕ) (i : Item) (items rest : List Item) → lives f first (i ∷ rest) ≡ lives f first rest → (Sits f first i rest → Sit f first rest → Replaces f first items rest) → Living f first names (i ∷ rest) → Living f first names items
  in_place names i items rest none replaces living =
      let instead : Replaces f first items rest = replaces living.sit.0 living.sit.1 in
      record { named = λ n. living.named n ∙ ap (λ alive. alive n) none ∙ sym (instead.0 n); sit = instead.1 }

  -- ---- jumps

  pub jump_replaces : (from to : List Item) → IsInBody f first from → IsInBody f first to → Sit f first to → Replaces f first (jump from to) from
  jump_replaces from to here there sit =
      let objects : List ℕ = kept_objects f first in (
        jump_same objects (lives f first from) (lives f first to) (open_scopes from) (open_scopes to) here there,
        (left_new objects (lives f first from) (lives f first to) (open_scopes from) (open_scopes to) here there, (entered_alive objects (lives f first from) (lives f first to) (open_scopes from) (open_scopes to) here there, (tt, sit))),
      )

  first_replaces : (objects : List ℕ) (to : List Item) → AreAlive objects (lives f first to) → Sit f first to → ((n : ℕ) → lives f first (entering_first objects to) n ≡ without_those objects (lives f first to) n) × Sit f first (entering_first objects to)
  first_replaces [] to alive sit = ((λ n. refl), sit)
  first_replaces (x ∷ objects) to alive sit = ((λ n. refl), (alive, (tt, sit)))

  pub leap_replaces : (from to : List Item) → IsInBody f first from → Reached f first (open_scopes from) to → Replaces f first (leap_in from to) from
  leap_replaces from to here reached =
      let objects : List ℕ = kept_objects f first in
      let entered = first_replaces (entered_between from to) to (entered_alive objects (lives f first from) (lives f first to) (open_scopes from) (open_scopes to) here reached.here) reached.sit in
      ((λ n. entered.0 n ∙ leap_same objects (lives f first from) (lives f first to) (open_scopes from) (open_scopes to) here reached.here reached.within n), entered.1)

  -- behind the body of a switch
  pub landed_behind : (s : StatementTree) (rest : List Item) → Selects f first s rest → Sit f first rest → Reached f first (open_scopes rest) (past_loop rest)
  landed_behind s rest selects sit = record { sit = sit_behind_loop f first rest sit; here = selects.lands; within = λ n e. ap (λ scopes. is_in n (all_of scopes)) selects.same ∙ e }

  -- ---- objects that are entered and left

  module _ (names : ℕ → Option ℕ) (n : ℕ) (items rest : List Item) (others : (m : ℕ) → (m == n) ≡ false → lives f first items m ≡ lives f first rest m) (sit : Sit f first rest) (living : Living f first names items) where
    lives_so : (b : Bool) (m : ℕ) → lives f first rest n ≡ b → (m == n) ≡ true → lives f first rest m ≡ b
    lives_so b m is same = ap (lives f first rest) (eqb-true m n same) ∙ is

    pub entering_one : (x : ℕ) → lives f first rest n ≡ true → Living f first (put_at names n x) rest
    entering_one x alive = record { named = λ m. by m (m == n) refl; sit = sit }
      where
        by : (m : ℕ) (b : Bool) → (m == n) ≡ b → is_some (elim b [ true ↦ Some x | false ↦ names m ]) ≡ lives f first rest m
        by m true is = sym (lives_so true m alive is)
        by m false is = living.named m ∙ others m is

    pub leaving_one : lives f first rest n ≡ false → Living f first (clear_at names n) rest
    leaving_one gone = record { named = λ m. by m (m == n) refl; sit = sit }
      where
        by : (m : ℕ) (b : Bool) → (m == n) ≡ b → is_some (elim b [ true ↦ None | false ↦ names m ]) ≡ lives f first rest m
        by m true is = sym (lives_so false m gone is)
        by m false is = living.named m ∙ others m is
