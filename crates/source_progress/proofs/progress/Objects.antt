-- Steps on objects that are named where they live.
use Rattle.std.proofs.Common.{◌≡◌, ℕ, ◌==◌, Bool, true, false, not, ◌&&◌, ◌||◌, List, [], ◌∷◌, Option, Some, None, is_some, refl, ap, sym, ◌∙◌}
use Rattle.std.proofs.lemmas.Bool.{eq-eqb}
use Rattle.std.specs.List.{slice_get}
use Rattle.c_layout.specs.CheckedUnits.{FunctionView, UnitView}
use Rattle.c_layout.specs.declared.checked_tree.checked_terms.ObjectRef.{ObjectRef}
use Rattle.c_layout.specs.declared.checked_tree.checked_terms.ObjectRef.TheVariants.{Static, Local}
use Rattle.lower_functions.specs.Functions.Functions.{local_type}
use Rattle.memory_model.specs.Effects.Worlds.{Reply}
use Rattle.semantics.specs.SourceMachine.Items as item
use Rattle.semantics.specs.SourceMachine.Items.{Change}
use Rattle.semantics.specs.SourceMachine.Scopes.{is_in}
use Rattle.semantics.specs.SourceMachine.SourceStates.{State, first_do, function_at, with_function, with_local, result_object, static_type, local_of}
use Rattle.semantics.specs.SourceMachine.ObjectSteps.{point_to, point_to_literal, point_to_outcome, enter_if, change}
use Rattle.semantics.specs.SourceMachine.SourceSteps.{enter_all, leave_all}
use Rattle.semantics.specs.SourceMachine.CallSteps.{leave_outcome}
use Rattle.source_items.specs.Operations.GoingReplies.{NotStuck}
use Rattle.source_items.specs.StackKinds.KindedTerms.{IsThere, HasObject}
use Rattle.source_items.specs.Liveness.Lives.{Lives, lives, with_those, without_those}
use Rattle.source_items.specs.Liveness.ScopedTerms as scoped
use Rattle.source_progress.proofs.progress.Replies.{apart, step_at, step_there, there}

-- ---- what items enter and leave

or_true : (a b : Bool) → a ≡ true → (a || b) ≡ true
or_true true b e = refl
or_true false b e = absurd (apart (sym e))

not_and : (a b : Bool) → a ≡ true → (not a && b) ≡ false
not_and true b e = refl
not_and false b e = absurd (apart (sym e))

is_first : (n : ℕ) (ns : List ℕ) → is_in n (n ∷ ns) ≡ true
is_first n ns = or_true (n == n) (is_in n ns) (eq-eqb n n refl)

pub first_left : (n : ℕ) (ns : List ℕ) (alive : Lives) → with_those (n ∷ ns) alive n ≡ true
first_left n ns alive = or_true (is_in n (n ∷ ns)) (alive n) (is_first n ns)

first_entered : (n : ℕ) (ns : List ℕ) (alive : Lives) → without_those (n ∷ ns) alive n ≡ false
first_entered n ns alive = not_and (is_in n (n ∷ ns)) (alive n) (is_first n ns)

-- ---- a function that is there

module _ (u : UnitView) (s : State) (f : FunctionView) (is : function_at u s.function ≡ Some f) where
  pub in_function : {B : Type 0} (use_it : FunctionView → Reply B) → NotStuck (use_it f) → NotStuck (with_function u s use_it)
  in_function use_it steps = step_at s (function_at u s.function) f use_it is steps

  local_steps : {B : Type 0} (n : ℕ) (use_it : ℕ → Reply B) → is_some (s.names n) ≡ true → ((i : ℕ) → NotStuck (use_it i)) → NotStuck (with_local s n use_it)
  local_steps n use_it named h = step_there s (s.names n) use_it (there (s.names n) named) h

  -- names are of what lives
  module _ (alive : Lives) (named : (n : ℕ) → is_some (s.names n) ≡ alive n) where
    pub point_steps : (o : ObjectRef) (offset : ℕ) → HasObject u o → scoped.IsThere alive o → NotStuck (point_to u s o offset)
    point_steps (Static n) offset has lives = step_at s (static_type (slice_get u.objects n)) has.0.ctype _ (ap static_type has.1) tt
    point_steps (Local n) offset has lives = step_at s (local_of (function_at u s.function) n) (local_type f n) _ (ap (λ o. local_of o n) is) (step_there s (s.names n) _ (there (s.names n) (named n ∙ lives)) (λ i. tt))

    pub outcome_steps : alive (result_object f) ≡ true → NotStuck (point_to_outcome u s)
    outcome_steps lives = in_function _ (point_steps (Local (result_object f)) 0 tt lives)

    pub change_steps : (n : ℕ) (how : Change) → alive n ≡ true → NotStuck (change s n how)
    change_steps n how lives = local_steps n _ (named n ∙ lives) (λ i. tt)

    pub leave_outcome_steps : alive (result_object f) ≡ true → NotStuck (leave_outcome u s)
    leave_outcome_steps lives = in_function _ (local_steps (result_object f) _ (named (result_object f) ∙ lives) (λ i. tt))

  -- ---- objects that are entered and left

  enter_if_steps : (n : ℕ) (ns : List ℕ) (o : Option ℕ) → is_some o ≡ false → NotStuck (enter_if u (first_do (item.Enters ns ∷ []) s) n o)
  enter_if_steps n ns None new = step_at (first_do (item.Enters ns ∷ []) s) (function_at u s.function) f _ is tt
  enter_if_steps n ns (Some i) new = absurd (apart new)

  pub enter_steps : (alive : Lives) (ns : List ℕ) → ((n : ℕ) → is_some (s.names n) ≡ without_those ns alive n) → NotStuck (enter_all u s ns).reply
  enter_steps alive [] named = tt
  enter_steps alive (n ∷ ns) named = enter_if_steps n ns (s.names n) (named n ∙ first_entered n ns alive)

  pub leave_steps : (alive : Lives) (ns : List ℕ) → ((n : ℕ) → is_some (s.names n) ≡ with_those ns alive n) → NotStuck (leave_all u s ns).reply
  leave_steps alive [] named = tt
  leave_steps alive (n ∷ ns) named = step_there (first_do (item.Leaves ns ∷ []) s) (s.names n) _ (there (s.names n) (named n ∙ first_left n ns alive)) (λ i. tt)

pub literal_steps : (u : UnitView) (s : State) (n : ℕ) → IsThere (slice_get u.literals n) → NotStuck (point_to_literal u s n)
literal_steps u s n has = step_there s (slice_get u.literals n) _ has (λ l. tt)
