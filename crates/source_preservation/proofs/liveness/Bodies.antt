-- The body of a function whose objects are named in their scopes sits.
use Rattle.std.proofs.Common.{◌≡◌, ◌⊎◌, ◌≤◌, ◌<◌, ℕ, zero, suc, ◌+◌, ◌==◌, Bool, true, false, cond, List, [], ◌∷◌, ◌++◌, length, inl, inr, refl, arith}
use Rattle.std.proofs.lemmas.Bool.{eqb-true}
use Rattle.c_layout.specs.CheckedTrees.{statement_trees}
use Rattle.c_layout.specs.CheckedUnits.{UnitView, FunctionView}
use Rattle.lower_templates.specs.Worklist.TermKinds.{is_void}
use Rattle.lower_functions.specs.Functions.Functions.{numbers_from}
use Rattle.semantics.specs.SourceMachine.Items as item
use Rattle.semantics.specs.SourceMachine.Items.{Item}
use Rattle.semantics.specs.SourceMachine.LabelSearch.{label, from_label}
use Rattle.semantics.specs.SourceMachine.Scopes.{is_in, open_scopes}
use Rattle.semantics.specs.SourceMachine.SourceStates.{result_object}
use Rattle.semantics.specs.SourceMachine.StatementItems.{list_statements, body}
use Rattle.source_items.specs.Returns.StandingJumps.{AllJumpsStand}
use Rattle.source_items.specs.Liveness.Lives.{kept_objects, kept, AreDistinct, IsInBody}
use Rattle.source_items.specs.Liveness.ScopedStatements.{ScopedFunction}
use Rattle.source_items.specs.Liveness.Livings.{Encloses, Sit}
use Rattle.source_items.proofs.liveness.Members.{apart, either, neither, is_false, distinct_both}
use Rattle.source_items.proofs.liveness.Inlinings.{scope_opens}
use Rattle.source_items.proofs.liveness.SittingStatements.{list_keeps, list_sits, no_loop, Replaces, scope_replaces}
use Rattle.source_items.proofs.stack_kinds.FoundItems.{IfSome}
use Rattle.source_items.proofs.liveness.Labels.{Reached, among_found_sit}

-- ---- parameters

-- so many numbers from one on are those in between
pub numbers_between : (k p n : ℕ) → is_in n (numbers_from k p) ≡ true → k ≤ n × n < k + p
numbers_between k zero n e = absurd (apart e)
numbers_between k (suc p) n e = by (either (n == k) (is_in n (numbers_from (k + 1) p)) e) (numbers_between (k + 1) p n)
  where
    by : ((n == k) ≡ true) ⊎ (is_in n (numbers_from (k + 1) p) ≡ true) → (is_in n (numbers_from (k + 1) p) ≡ true → k + 1 ≤ n × n < (k + 1) + p) → k ≤ n × n < k + suc p
    by (inl is) later = let same : n ≡ k = eqb-true n k is in (omega (arith, same), omega (arith, same))
    by (inr is) later = let between : k + 1 ≤ n × n < (k + 1) + p = later is in (omega (arith, between.0), omega (arith, between.1))

numbers_distinct : (k p : ℕ) → AreDistinct (numbers_from k p)
numbers_distinct k zero = tt
numbers_distinct k (suc p) = (is_false (is_in k (numbers_from (k + 1) p)) below, numbers_distinct (k + 1) p)
  where
    below : is_in k (numbers_from (k + 1) p) ≡ true → ⊥
    below e = let least : k + 1 ≤ k = (numbers_between (k + 1) p k e).0 in omega (arith, least)

module _ (f : FunctionView) (enough : f.parameters ≤ length f.locals) where
  pub parameters_distinct : AreDistinct (numbers_from 0 f.parameters)
  parameters_distinct = numbers_distinct 0 f.parameters

  -- the result is no parameter
  pub result_apart : (n : ℕ) → is_in n (numbers_from 0 f.parameters) ≡ true → is_in n (result_object f ∷ []) ≡ false
  result_apart n e = neither (n == length f.locals) false (is_false (n == length f.locals) same) refl
    where
      same : (n == length f.locals) ≡ true → ⊥
      same is =
          let behind : n ≡ length f.locals = eqb-true n (length f.locals) is in
          let before : n < 0 + f.parameters = (numbers_between 0 f.parameters n e).1 in
          omega (arith, behind, before, enough)

  own_distinct : (b : Bool) → AreDistinct (cond b (numbers_from 0 f.parameters) (numbers_from 0 f.parameters ++ result_object f ∷ []))
  own_distinct true = parameters_distinct
  own_distinct false = distinct_both (numbers_from 0 f.parameters) (result_object f ∷ []) parameters_distinct (refl, tt) result_apart

  pub kept_distinct : (first : Bool) → AreDistinct (kept_objects f first)
  kept_distinct true = parameters_distinct
  kept_distinct false = own_distinct (is_void f.returns)

-- ---- bodies

module _ (f : FunctionView) (first : Bool) (scoped : ScopedFunction f first) where
  end_in_body : IsInBody f first (item.EndBody ∷ [])
  end_in_body = record { same = λ n. refl; distinct = kept_distinct f scoped.parameters first }

  left_in_body : IsInBody f first (item.Leaves f.scope ∷ (item.EndBody ∷ []))
  left_in_body = scope_opens (kept_objects f first) (kept f first) (open_scopes (item.EndBody ∷ [])) f.scope scoped.scope end_in_body

  around : Encloses f first false false (item.Leaves f.scope ∷ (item.EndBody ∷ []))
  around = no_loop f first (item.Leaves f.scope ∷ (item.EndBody ∷ [])) left_in_body

  module _ (jumps : AllJumpsStand false false (statement_trees f.body)) where
    -- before the body the parameters live, and the result
    pub body_replaces : Replaces f first (body f) (item.EndBody ∷ [])
    body_replaces =
        let end : List Item = item.Leaves f.scope ∷ (item.EndBody ∷ []) in
        let all : Sit f first (list_statements f.body ++ end) = list_sits f first false false f.body end jumps scoped.body around (scoped.scope, (tt, tt)) in
        scope_replaces f first f.scope (list_statements f.body ++ end) (item.EndBody ∷ []) scoped.scope (list_keeps f first f.body end) all

    pub label_found : (u : UnitView) (n : ℕ) → IfSome (Reached f first (open_scopes (item.Leaves f.scope ∷ (item.EndBody ∷ [])))) (from_label u f n)
    label_found u n = among_found_sit u (label n) f first f.body (item.Leaves f.scope ∷ (item.EndBody ∷ [])) false false jumps scoped.body around (scoped.scope, (tt, tt))
