-- Calls and returns take the values of arguments, and leave those of results.
use Rattle.std.proofs.Common.{◌≡◌, ℕ, zero, suc, ◌+◌, ◌-◌, Bool, true, false, cond, List, [], ◌∷◌, ◌++◌, replicate, append_assoc, Option, Some, refl, ap, sym, subst, arith}
use Rattle.std.specs.List.{slice_get}
use Rattle.c_layout.specs.CheckedTrees.{statement_trees}
use Rattle.c_layout.specs.CheckedUnits.{UnitView, FunctionView}
use Rattle.lower_templates.specs.Worklist.TermKinds.{is_void}
use Rattle.lower_functions.specs.Functions.Functions.{numbers_from}
use Rattle.memory_model.specs.Memory.Scalars.{Scalar}
use Rattle.semantics.specs.SourceMachine.Items as item
use Rattle.semantics.specs.SourceMachine.Items.{Item}
use Rattle.semantics.specs.SourceMachine.StatementItems.{body}
use Rattle.semantics.specs.SourceMachine.CallSteps.{bind_all, prologue, result_loaded, epilogue, behind_body}
use Rattle.semantics.specs.SourceMachine.SourceStates.{Frame}
use Rattle.source_items.specs.Operations.Kinds.{Kind, Address, kind_of_type, AreOf}
use Rattle.source_items.specs.Returns.StandingJumps.{AllJumpsStand}
use Rattle.source_items.specs.StackKinds.KindedTerms.{local_kind}
use Rattle.source_items.specs.StackKinds.KindedStatements.{KindedFunction}
use Rattle.source_items.specs.StackKinds.KindedItems.{called_by, left_kinds, parameter_kinds, Does}
use Rattle.source_items.specs.StackKinds.KindedStates.{Runs}
use Rattle.source_items.proofs.stack_kinds.ItemWalks.{Through, Leads, through_both, through_does}
use Rattle.source_items.proofs.stack_kinds.Leading.{kinds}
use Rattle.source_items.proofs.stack_kinds.Labels.{body_does}

none_less : {A : Type 0} (n : ℕ) → zero ≡ suc n → A
none_less n e = let no : ⊥ = omega arith in absurd no

-- each parameter lies as far below the newest one as it stands before the last one
parameter_at : (f : FunctionView) (n depth count : ℕ) → count ≡ suc (n + depth) → slice_get (parameter_kinds f count) depth ≡ Some (local_kind f n)
parameter_at f n depth zero is = none_less (n + depth) is
parameter_at f n zero (suc m) is =
    let same : m ≡ n = omega arith in
    ap (λ k. Some (local_kind f k)) same
parameter_at f n (suc depth) (suc m) is =
    let before : m ≡ suc (n + depth) = omega arith in
    parameter_at f n depth m before

module _ (u : UnitView) (f : FunctionView) (called : Option Bool) where
  -- ---- calls

  bound_through : (count first n : ℕ) (rest : List Item) → first + n ≡ count → Through (kinds u f called) (bind_all f count (numbers_from first n)) rest (parameter_kinds f count) (parameter_kinds f count)
  bound_through count first zero rest is = refl
  bound_through count first (suc n) rest is =
      let ks : List Kind = parameter_kinds f count in
      let next : (first + 1) + n ≡ count = omega arith in
      let far : count ≡ suc (first + (count - suc first)) = omega arith in
      (Address ∷ ks, (tt, refl), (ks, (refl, parameter_at f first (count - suc first) count far), bound_through count (first + 1) n rest next))

  dropped_through : (count : ℕ) (rest : List Item) → Through (kinds u f called) (replicate count item.Drop) rest (parameter_kinds f count) []
  dropped_through zero rest = refl
  dropped_through (suc count) rest = (parameter_kinds f count, (local_kind f count, refl), dropped_through count rest)

  pub prologue_does : (count : ℕ) → count ≡ f.parameters → KindedFunction u f → AllJumpsStand false false (statement_trees f.body) → Does u f called (prologue f count ++ body f) (parameter_kinds f count) (left_kinds f called)
  prologue_does count is kinded jumps =
      let ks : List Kind = parameter_kinds f count in
      let bound : List Item = bind_all f count (numbers_from 0 f.parameters) in
      let drops : List Item = replicate count item.Drop in
      let all : 0 + f.parameters ≡ count = omega arith in
      let through : Through (kinds u f called) (bound ++ drops) (body f) ks [] = through_both (kinds u f called) bound drops (body f) ks ks [] (bound_through count 0 f.parameters (drops ++ body f) all) (dropped_through count (body f)) in
      (ks, refl, through_does (kinds u f called) (bound ++ drops) (body f) ks [] (left_kinds f called) through (body_does u f called kinded jumps))

-- ---- returns

epilogue_does : (u : UnitView) (f : FunctionView) (caller : Frame) → Does u f (Some caller.used) (epilogue f caller) [] (left_kinds f (Some caller.used))
epilogue_does u f caller = by (is_void f.returns) refl
  where
    k : Kind
    k = kind_of_type f.returns

    loaded : (used : Bool) → is_void f.returns ≡ false → Does u f (Some caller.used) (result_loaded f caller.at used ++ item.LeaveOutcome caller.at ∷ []) [] (cond used (k ∷ []) [])
    loaded true is = (Address ∷ [], (is, refl), (k ∷ [], ([], refl, refl), (k ∷ [], refl, refl)))
    loaded false is = ([], refl, refl)

    by : (v : Bool) → is_void f.returns ≡ v → Does u f (Some caller.used) (cond v [] (result_loaded f caller.at caller.used ++ item.LeaveOutcome caller.at ∷ [])) [] (cond v [] (cond caller.used (k ∷ []) []))
    by true is = refl
    by false is = loaded caller.used is

-- what is behind the body of a function leads to what the function leaves
pub behind_does : (u : UnitView) (f : FunctionView) (hop : List Item) → ((called : Option Bool) → Leads (kinds u f called) hop [] []) → (frames : List Frame) → Does u f (called_by frames) (behind_body f hop frames) [] (left_kinds f (called_by frames))
behind_does u f hop leads [] = refl
behind_does u f hop leads (c ∷ cs) = ([], refl, through_does (kinds u f (Some c.used)) hop (epilogue f c) [] [] (left_kinds f (Some c.used)) (leads (Some c.used) (epilogue f c)) (epilogue_does u f c))

-- ---- functions that wait

-- the function that waits goes on with the values that are left
pub back : (u : UnitView) (g : ℕ) (c : Frame) (cs : List Frame) (values : List Scalar) → Runs u g [] (c ∷ cs) values → Runs u c.function c.control cs values
back u g c cs values r =
    let kinds : List Kind = r.wait.0 in
    let all : AreOf (r.left ++ (kinds ++ r.wait.2)) values = subst (λ ks. AreOf (ks ++ (kinds ++ r.wait.2)) values) r.goes.does (subst (λ ks. AreOf (r.kinds ++ ks) values) r.wait.3 r.are) in
    record { kinds = r.left ++ kinds; left = r.wait.1; below = r.wait.2; goes = r.wait.4; wait = r.wait.5; are = subst (λ ks. AreOf ks values) (sym (append_assoc r.left kinds r.wait.2)) all }
