-- Calls take the values of arguments, and returns leave those of results.
use Rattle.std.proofs.Common.{◌≡◌, ◌<◌, ◌≤◌, ℕ, zero, suc, ◌+◌, ◌-◌, Bool, true, false, cond, List, [], ◌∷◌, ◌++◌, replicate, Option, Some, refl, ap, arith}
use Rattle.std.specs.List.{slice_get}
use Rattle.c_layout.specs.CheckedTrees.{statement_trees}
use Rattle.c_layout.specs.CheckedUnits.{UnitView, FunctionView}
use Rattle.lower_templates.specs.Worklist.TermKinds.{is_void}
use Rattle.lower_functions.specs.Functions.Functions.{numbers_from, local_type}
use Rattle.memory_model.specs.Effects.LibraryChecks.{most_size}
use Rattle.semantics.specs.SourceMachine.Items as item
use Rattle.semantics.specs.SourceMachine.Items.{Item}
use Rattle.semantics.specs.SourceMachine.StatementItems.{body}
use Rattle.semantics.specs.SourceMachine.CallSteps.{bind_all, prologue, result_loaded, epilogue, behind_body}
use Rattle.semantics.specs.SourceMachine.SourceStates.{Frame}
use Rattle.source_items.specs.Returns.StandingJumps.{AllJumpsStand}
use Rattle.source_items.specs.StackKinds.KindedItems.{called_by}
use Rattle.source_preservation.specs.ValueTyping.Marks.{Mark, Pointing, mark_of_type, AreStable, AreFree}
use Rattle.source_preservation.specs.ValueTyping.MarkOperations as marks
use Rattle.source_preservation.specs.WellTyped.WellTypedTerms.{local_mark}
use Rattle.source_preservation.specs.WellTyped.WellTypedStatements.{WellTypedFunction}
use Rattle.source_preservation.specs.WellTyped.WellTypedItems as items
use Rattle.source_preservation.specs.WellTyped.WellTypedItems.{left_marks, parameter_marks, Does}
use Rattle.source_preservation.proofs.items.TypeMarks.{stable_type, free_type}
use Rattle.source_items.proofs.stack_kinds.ItemWalks.{Through, Leads, through_both, through_does}
use Rattle.source_preservation.proofs.items.Leading.{marks}
use Rattle.source_preservation.proofs.items.Labels.{body_does}

none_less : {A : Type 0} (n : ℕ) → zero ≡ suc n → A
none_less n e = let no : ⊥ = omega arith in absurd no

-- each parameter lies as far below the newest one as it stands before the last one
parameter_at : (f : FunctionView) (n depth count : ℕ) → count ≡ suc (n + depth) → slice_get (parameter_marks f count) depth ≡ Some (local_mark f n)
parameter_at f n depth zero is = none_less (n + depth) is
parameter_at f n zero (suc m) is =
    let same : m ≡ n = omega arith in
    ap (λ k. Some (local_mark f k)) same
parameter_at f n (suc depth) (suc m) is =
    let before : m ≡ suc (n + depth) = omega arith in
    parameter_at f n depth m before

pub parameters_stable : (f : FunctionView) (count : ℕ) → AreStable (parameter_marks f count)
parameters_stable f zero = tt
parameters_stable f (suc n) = (stable_type (local_type f n), parameters_stable f n)

pub parameters_free : (f : FunctionView) (count : ℕ) → AreFree (parameter_marks f count)
parameters_free f zero = tt
parameters_free f (suc n) = (free_type (local_type f n), parameters_free f n)

module _ (u : UnitView) (f : FunctionView) (called : Option Bool) (well_typed : WellTypedFunction u f) where
  -- ---- calls

  bound_through : (count first n : ℕ) (rest : List Item) → first + n ≡ count → count ≡ f.parameters → Through (marks u f called) (bind_all f count (numbers_from first n)) rest (parameter_marks f count) (parameter_marks f count)
  bound_through count first zero rest is all = refl
  bound_through count first (suc n) rest is all =
      let ks : List Mark = parameter_marks f count in
      let next : (first + 1) + n ≡ count = omega arith in
      let far : count ≡ suc (first + (count - suc first)) = omega arith in
      let below : first < f.parameters = omega arith in
      let small : 0 ≤ most_size u.model = omega arith in
      (Pointing ∷ ks, (tt, items.PointsInto.any small refl), (ks, (refl, parameters_stable f count, well_typed.parameters first below, parameter_at f first (count - suc first) count far), bound_through count (first + 1) n rest next all))

  dropped_through : (count : ℕ) (rest : List Item) → Through (marks u f called) (replicate count item.Drop) rest (parameter_marks f count) []
  dropped_through zero rest = refl
  dropped_through (suc count) rest = (parameter_marks f count, (local_mark f count, refl), dropped_through count rest)

  pub prologue_does : (count : ℕ) → count ≡ f.parameters → AllJumpsStand false false (statement_trees f.body) → Does u f called (prologue f count ++ body f) (parameter_marks f count) (left_marks f called)
  prologue_does count is jumps =
      let ks : List Mark = parameter_marks f count in
      let bound : List Item = bind_all f count (numbers_from 0 f.parameters) in
      let drops : List Item = replicate count item.Drop in
      let all : 0 + f.parameters ≡ count = omega arith in
      let through : Through (marks u f called) (bound ++ drops) (body f) ks [] = through_both (marks u f called) bound drops (body f) ks ks [] (bound_through count 0 f.parameters (drops ++ body f) all is) (dropped_through count (body f)) in
      (ks, (parameters_free f count, refl), through_does (marks u f called) (bound ++ drops) (body f) ks [] (left_marks f called) through (body_does u f called well_typed jumps))

-- ---- returns

pub epilogue_does : (u : UnitView) (f : FunctionView) (caller : Frame) → WellTypedFunction u f → Does u f (Some caller.used) (epilogue f caller) [] (left_marks f (Some caller.used))
epilogue_does u f caller well_typed = by (is_void f.returns) refl
  where
    k : Mark
    k = mark_of_type f.returns

    loaded : (used : Bool) → is_void f.returns ≡ false → Does u f (Some caller.used) (result_loaded f caller.at used ++ item.LeaveOutcome caller.at ∷ []) [] (cond used (k ∷ []) [])
    loaded true is = (Pointing ∷ [], (is, refl), (k ∷ [], (well_typed.returns is, marks.Loads.any ([], refl, refl)), (k ∷ [], ((free_type f.returns, tt), refl), refl)))
    loaded false is = ([], (tt, refl), refl)

    by : (v : Bool) → is_void f.returns ≡ v → Does u f (Some caller.used) (cond v [] (result_loaded f caller.at caller.used ++ item.LeaveOutcome caller.at ∷ [])) [] (cond v [] (cond caller.used (k ∷ []) []))
    by true is = refl
    by false is = loaded caller.used is

-- what is behind the body of a function leads to what the function leaves
pub behind_does : (u : UnitView) (f : FunctionView) (hop : List Item) → WellTypedFunction u f → ((called : Option Bool) → Leads (marks u f called) hop [] []) → (frames : List Frame) → Does u f (called_by frames) (behind_body f hop frames) [] (left_marks f (called_by frames))
behind_does u f hop well_typed leads [] = refl
behind_does u f hop well_typed leads (c ∷ cs) = ([], (tt, refl), through_does (marks u f (Some c.used)) hop (epilogue f c) [] [] (left_marks f (Some c.used)) (leads (Some c.used) (epilogue f c)) (epilogue_does u f c well_typed))
