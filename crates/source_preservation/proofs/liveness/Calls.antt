-- Calls and returns: what a function begins with, and what is left to do at its end.
use Rattle.std.proofs.Common.{◌≡◌, ◌≤◌, ℕ, zero, suc, ◌==◌, Bool, true, false, not, cond, ◌&&◌, ◌||◌, List, [], ◌∷◌, ◌++◌, length, replicate, refl, ap, sym, ◌∙◌}
use Rattle.c_layout.specs.CheckedTrees.{statement_trees}
use Rattle.c_layout.specs.CheckedUnits.{FunctionView}
use Rattle.lower_templates.specs.Worklist.TermKinds.{is_void}
use Rattle.lower_functions.specs.Functions.Functions.{numbers_from}
use Rattle.memory_model.specs.Effects.NumberedTables.{empty_table}
use Rattle.semantics.specs.SourceMachine.Items as item
use Rattle.semantics.specs.SourceMachine.Items.{Item}
use Rattle.semantics.specs.SourceMachine.Scopes.{is_in, all_of, open_scopes}
use Rattle.semantics.specs.SourceMachine.StatementItems.{body}
use Rattle.semantics.specs.SourceMachine.CallSteps.{bind_all, prologue, result_loaded, epilogue, behind_body}
use Rattle.semantics.specs.SourceMachine.SourceStates.{Frame, result_object}
use Rattle.semantics.specs.SourceMachine.SourceSteps.{is_entry}
use Rattle.source_items.specs.Returns.EndedObjects.{own_objects}
use Rattle.source_items.specs.Returns.StandingJumps.{AllJumpsStand}
use Rattle.source_items.specs.Liveness.Lives.{Lives, lives, kept_objects, kept, AreNew, IsInBody}
use Rattle.source_items.specs.Liveness.ScopedStatements.{ScopedFunction}
use Rattle.source_items.specs.Liveness.Livings.{Sit, Living}
use Rattle.source_items.proofs.liveness.Members.{right_or, self_in, is_in-append, distinct_left}
use Rattle.source_items.proofs.liveness.Inlinings.{parts, kept_apart}
use Rattle.source_items.proofs.liveness.Sitting.{Leads, Adds, adds_both}
use Rattle.source_items.proofs.liveness.SittingStatements.{Replaces}
use Rattle.source_preservation.proofs.liveness.Bodies.{parameters_distinct, result_apart, kept_distinct, body_replaces}

or_false : (b : Bool) → (b || false) ≡ b
or_false true = refl
or_false false = refl

not_and : (b : Bool) → (not b && b) ≡ false
not_and true = refl
not_and false = refl

-- ---- calls

module _ (f : FunctionView) where
  abbrev AllLive : List ℕ → Lives → Type 0
  AllLive objects alive = (n : ℕ) → is_in n objects ≡ true → alive n ≡ true

  bind_adds : (count : ℕ) (ns : List ℕ) → Adds f false (AllLive ns) (bind_all f count ns)
  bind_adds count [] rest all sit = (refl, sit)
  bind_adds count (n ∷ ns) rest all sit =
      let later : Leads f false (bind_all f count ns) rest = bind_adds count ns rest (λ m e. all m (right_or (m == n) (is_in m ns) e)) sit in
      (later.0, (ap (λ alive. alive n) later.0 ∙ all n (self_in n ns), (tt, later.1)))

  drops_add : (P : Lives → Type 0) (count : ℕ) → Adds f false P (replicate count item.Drop)
  drops_add P zero rest holds sit = (refl, sit)
  drops_add P (suc count) rest holds sit = let later : Leads f false (replicate count item.Drop) rest = drops_add P count rest holds sit in (later.0, (tt, later.1))

  parameters_own : (b : Bool) (n : ℕ) → is_in n (numbers_from 0 f.parameters) ≡ true → is_in n (cond b (numbers_from 0 f.parameters) (numbers_from 0 f.parameters ++ result_object f ∷ [])) ≡ true
  parameters_own true n e = e
  parameters_own false n e = is_in-append n (numbers_from 0 f.parameters) (result_object f ∷ []) ∙ ap (λ b. b || is_in n (result_object f ∷ [])) e

  module _ (scoped : ScopedFunction f false) (jumps : AllJumpsStand false false (statement_trees f.body)) (count : ℕ) where
    bound : Leads f false (bind_all f count (numbers_from 0 f.parameters) ++ replicate count item.Drop) (body f)
    bound =
        let ns : List ℕ = numbers_from 0 f.parameters in
        let own : Replaces f false (body f) (item.EndBody ∷ []) = body_replaces f false scoped jumps in
        adds_both f false (AllLive ns) (bind_all f count ns) (replicate count item.Drop) (bind_adds count ns) (drops_add (AllLive ns) count) (body f) (λ n e. own.0 n ∙ parameters_own (is_void f.returns) n e) own.1

    -- behind the entry of the parameters and the result, these live
    bound_own : (n : ℕ) → lives f false ((bind_all f count (numbers_from 0 f.parameters) ++ replicate count item.Drop) ++ body f) n ≡ is_in n (own_objects f)
    bound_own n = ap (λ alive. alive n) bound.0 ∙ (body_replaces f false scoped jumps).0 n

    pub beginning : Living f false empty_table (prologue f count ++ body f)
    beginning = record {
      named = λ n. sym (ap (λ b. not (is_in n (own_objects f)) && b) (bound_own n) ∙ not_and (is_in n (own_objects f)));
      sit = ((kept_distinct f scoped.parameters false, (λ n e. bound_own n ∙ e)), bound.1);
    }

-- ---- returns

module _ (f : FunctionView) (enough : f.parameters ≤ length f.locals) (caller : Frame) where
  abbrev ending_with : Bool → List Item
  ending_with b = cond b [] (result_loaded f caller.at caller.used ++ item.LeaveOutcome caller.at ∷ [])

  loaded_lives : (used : Bool) (n : ℕ) → lives f false (result_loaded f caller.at used ++ item.LeaveOutcome caller.at ∷ []) n ≡ is_in n (result_object f ∷ [])
  loaded_lives true n = or_false (is_in n (result_object f ∷ []))
  loaded_lives false n = or_false (is_in n (result_object f ∷ []))

  loaded_sits : (used : Bool) → Sit f false (result_loaded f caller.at used ++ item.LeaveOutcome caller.at ∷ [])
  loaded_sits true = (or_false (is_in (result_object f) (result_object f ∷ [])) ∙ self_in (result_object f) [], (tt, (refl, tt)))
  loaded_sits false = (refl, tt)

  epilogue_sits : (b : Bool) → Sit f false (ending_with b)
  epilogue_sits true = tt
  epilogue_sits false = loaded_sits caller.used

  epilogue_apart : (b : Bool) (n : ℕ) → is_in n (numbers_from 0 f.parameters) ≡ true → lives f false (ending_with b) n ≡ false
  epilogue_apart true n e = refl
  epilogue_apart false n e = loaded_lives caller.used n ∙ result_apart f enough n e

  own_lives : (b : Bool) (n : ℕ) → (is_in n (numbers_from 0 f.parameters) || lives f false (ending_with b) n) ≡ is_in n (cond b (numbers_from 0 f.parameters) (numbers_from 0 f.parameters ++ result_object f ∷ []))
  own_lives true n = or_false (is_in n (numbers_from 0 f.parameters))
  own_lives false n = ap (λ b. is_in n (numbers_from 0 f.parameters) || b) (loaded_lives caller.used n) ∙ sym (is_in-append n (numbers_from 0 f.parameters) (result_object f ∷ []))

  -- a function that was called ends what lives in its whole body
  pub behind_called : (n : ℕ) → (is_in n (numbers_from 0 f.parameters) || lives f false (epilogue f caller) n) ≡ kept f false n
  behind_called n = own_lives (is_void f.returns) n

  pub epilogue_sit : AreNew (numbers_from 0 f.parameters) (lives f false (epilogue f caller)) × Sit f false (epilogue f caller)
  epilogue_sit = ((parameters_distinct f enough, epilogue_apart (is_void f.returns)), epilogue_sits (is_void f.returns))

-- what is left to do behind the body of a function, the entry or one that was called
pub ended_replaces : (f : FunctionView) → f.parameters ≤ length f.locals → (frames : List Frame) → Replaces f (is_entry frames) (behind_body f [] frames) (item.EndBody ∷ [])
ended_replaces f enough [] = ((λ n. refl), tt)
ended_replaces f enough (c ∷ cs) = (behind_called f enough c, epilogue_sit f enough c)

pub hopped_replaces : (f : FunctionView) → f.parameters ≤ length f.locals → (frames : List Frame) → Replaces f (is_entry frames) (behind_body f (item.Hop ∷ []) frames) (item.EndBody ∷ [])
hopped_replaces f enough [] = ((λ n. refl), tt)
hopped_replaces f enough (c ∷ cs) = let all = epilogue_sit f enough c in (behind_called f enough c, (all.0, (tt, all.1)))

-- all open scopes are left before it
pub return_replaces : (f : FunctionView) (first : Bool) (after rest : List Item) → IsInBody f first rest → Replaces f first after (item.EndBody ∷ []) → Replaces f first (item.Leaves (all_of (open_scopes rest)) ∷ after) rest
return_replaces f first after rest here behind = (same, ((distinct_left (all_of (open_scopes rest)) (kept_objects f first) here.distinct, outside), behind.1))
  where
    same : (n : ℕ) → (is_in n (all_of (open_scopes rest)) || lives f first after n) ≡ lives f first rest n
    same n = ap (λ b. is_in n (all_of (open_scopes rest)) || b) (behind.0 n) ∙ sym (parts (kept_objects f first) (lives f first rest) (open_scopes rest) here n)

    outside : (n : ℕ) → is_in n (all_of (open_scopes rest)) ≡ true → lives f first after n ≡ false
    outside n e = behind.0 n ∙ kept_apart (kept_objects f first) (lives f first rest) (open_scopes rest) here n e
