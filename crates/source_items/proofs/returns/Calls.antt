-- Calls and returns: what a function begins with, and what is left to do at its end.
use Rattle.std.proofs.Common.{◌≡◌, ℕ, zero, suc, ◌==◌, ◌||◌, Bool, true, false, cond, List, [], ◌∷◌, ◌++◌, replicate, Option, refl, ap, sym, subst, ◌∙◌}
use Rattle.cc_base.specs.declared.diagnostics.Place.{Place}
use Rattle.c_layout.specs.CheckedTrees.{statement_trees}
use Rattle.c_layout.specs.CheckedUnits.{FunctionView}
use Rattle.lower_templates.specs.Worklist.TermKinds.{is_void}
use Rattle.lower_functions.specs.Functions.Functions.{numbers_from}
use Rattle.memory_model.specs.Effects.NumberedTables.{empty_table, clear_at}
use Rattle.semantics.specs.SourceMachine.Items as item
use Rattle.semantics.specs.SourceMachine.Items.{Item}
use Rattle.semantics.specs.SourceMachine.Scopes.{is_in, all_of, open_scopes}
use Rattle.semantics.specs.SourceMachine.StatementItems.{list_statements, body}
use Rattle.semantics.specs.SourceMachine.CallSteps.{with_result, bind_all, prologue, result_loaded, epilogue, behind_body}
use Rattle.semantics.specs.SourceMachine.SourceStates.{Frame, result_object}
use Rattle.source_items.specs.Returns.StandingJumps.{AllJumpsStand}
use Rattle.source_items.specs.Returns.EndedObjects.{own_objects, ended, AreAmong, EndOwn}
use Rattle.source_items.specs.Returns.Leavings.{Fit, Leaving}
use Rattle.source_items.proofs.returns.Members.{among_left, both_among, each_among, none_among, all_among, among_through}
use Rattle.source_items.proofs.returns.Ends.{own_more, ended_among}
use Rattle.source_items.proofs.returns.Fitting.{Adds, adds_both}
use Rattle.source_items.proofs.returns.FittingStatements.{in_block}
use Rattle.source_items.proofs.returns.Labels.{end_owns}
use Rattle.source_items.proofs.returns.Jumps.{none_some, covered_by, gone, leaving_one}

module _ (f : FunctionView) where
  -- ---- calls

  bind_adds : (count : ℕ) (ns : List ℕ) → Adds f (bind_all f count ns)
  bind_adds count [] rest fit = fit
  bind_adds count (n ∷ ns) rest fit = (tt, (tt, bind_adds count ns rest fit))

  drops_add : (count : ℕ) → Adds f (replicate count item.Drop)
  drops_add zero rest fit = fit
  drops_add (suc count) rest fit = (tt, drops_add count rest fit)

  body_fits : AllJumpsStand false false (statement_trees f.body) → Fit f (body f)
  body_fits jumps = in_block f f.scope f.body (item.EndBody ∷ []) jumps (end_owns f) (all_among [], tt)

  body_owns : EndOwn f (body f)
  body_owns = own_more f (item.Enters f.scope ∷ list_statements f.body) (item.Leaves f.scope ∷ (item.EndBody ∷ [])) (own_more f (item.Leaves f.scope ∷ []) (item.EndBody ∷ []) (end_owns f))

  pub beginning : (count : ℕ) → AllJumpsStand false false (statement_trees f.body) → Leaving f empty_table (prologue f count ++ body f)
  beginning count jumps =
      let bound : List Item = bind_all f count (numbers_from 0 f.parameters) ++ replicate count item.Drop in
      let adds : Adds f bound = adds_both f (bind_all f count (numbers_from 0 f.parameters)) (replicate count item.Drop) (bind_adds count (numbers_from 0 f.parameters)) (drops_add count) in
      record {
        covered = λ n i is. absurd (none_some i is);
        fit = (own_more f bound (body f) body_owns, adds (body f) (body_fits jumps));
      }

  -- ---- returns

  loaded_adds : (at : Place) (used : Bool) → Adds f (result_loaded f at used)
  loaded_adds at true rest fit = (tt, (tt, fit))
  loaded_adds at false rest fit = fit

  epilogue_fits : (caller : Frame) → Fit f (epilogue f caller)
  epilogue_fits caller = by (is_void f.returns)
    where
      by : (b : Bool) → Fit f (cond b [] (result_loaded f caller.at caller.used ++ item.LeaveOutcome caller.at ∷ []))
      by true = tt
      by false = loaded_adds caller.at caller.used (item.LeaveOutcome caller.at ∷ []) (tt, tt)

  -- the result is ended where there is one
  epilogue_ends : (caller : Frame) → AreAmong (with_result f []) (ended f (epilogue f caller))
  epilogue_ends caller = by (is_void f.returns) refl
    where
      left : (used : Bool) → AreAmong (with_result f []) (ended f (result_loaded f caller.at used ++ item.LeaveOutcome caller.at ∷ []))
      left true = among_left (with_result f []) []
      left false = among_left (with_result f []) []

      none : is_void f.returns ≡ true → AreAmong (with_result f []) []
      none void = subst (λ b. AreAmong (cond b [] ([] ++ result_object f ∷ [])) []) (sym void) (all_among [])

      by : (b : Bool) → is_void f.returns ≡ b → AreAmong (with_result f []) (ended f (cond b [] (result_loaded f caller.at caller.used ++ item.LeaveOutcome caller.at ∷ [])))
      by true void = none void
      by false void = left caller.used

  own_parts : (ns : List ℕ) → AreAmong (with_result f ns) (ns ++ with_result f [])
  own_parts ns = by (is_void f.returns)
    where
      by : (b : Bool) → AreAmong (cond b ns (ns ++ result_object f ∷ [])) (ns ++ cond b [] ([] ++ result_object f ∷ []))
      by true = among_left ns []
      by false = all_among (ns ++ result_object f ∷ [])

  pub own_ended : (caller : Frame) → AreAmong (own_objects f) (numbers_from 0 f.parameters ++ ended f (epilogue f caller))
  own_ended caller =
      let ns : List ℕ = numbers_from 0 f.parameters in
      among_through (own_objects f) (ns ++ with_result f []) (ns ++ ended f (epilogue f caller)) (own_parts ns) (each_among ns (with_result f []) (ended f (epilogue f caller)) (epilogue_ends caller))

  module _ (names : ℕ → Option ℕ) (rest : List Item) (caller : Frame) (callers : List Frame) where
    pub at_end : Leaving f names (item.EndBody ∷ rest) → Leaving f names (behind_body f [] (caller ∷ callers))
    at_end leaving =
        let others : List Item = behind_body f [] (caller ∷ callers) in
        covered_by f names (item.EndBody ∷ rest) others (both_among (own_objects f) (ended f rest) (ended f others) (own_ended caller) (among_through (ended f rest) [] (ended f others) leaving.fit.0 (none_among (ended f others)))) (tt, epilogue_fits caller) leaving

    pub at_return : Leaving f names (item.LeaveFunction ∷ rest) → Leaving f names (item.Leaves (all_of (open_scopes rest)) ∷ behind_body f (item.Hop ∷ []) (caller ∷ callers))
    at_return leaving =
        let scopes : List ℕ = all_of (open_scopes rest) in
        let others : List Item = item.Leaves scopes ∷ behind_body f (item.Hop ∷ []) (caller ∷ callers) in
        covered_by f names rest others (among_through (ended f rest) (scopes ++ own_objects f) (ended f others) (ended_among f rest) (each_among scopes (own_objects f) (numbers_from 0 f.parameters ++ ended f (epilogue f caller)) (own_ended caller))) (tt, (tt, (tt, epilogue_fits caller))) (gone f names item.LeaveFunction rest refl leaving)

  pub leaving_outcome : (names : ℕ → Option ℕ) (at : Place) (rest : List Item) → Leaving f names (item.LeaveOutcome at ∷ rest) → Leaving f (clear_at names (result_object f)) rest
  leaving_outcome names at rest leaving = leaving_one f names (result_object f) (item.LeaveOutcome at ∷ rest) rest others leaving.fit.1 leaving
    where
      by : (m : ℕ) (b : Bool) → (m == result_object f) ≡ false → is_in m (cond b [] ([] ++ result_object f ∷ []) ++ ended f rest) ≡ true → is_in m (ended f rest) ≡ true
      by m true other e = e
      by m false other e = ap (λ x. x || is_in m (ended f rest)) (sym other) ∙ e

      others : (m : ℕ) → (m == result_object f) ≡ false → is_in m (with_result f [] ++ ended f rest) ≡ true → is_in m (ended f rest) ≡ true
      others m other e = by m (is_void f.returns) other e
