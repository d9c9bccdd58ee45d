-- The first works of a function keep what is closed under what statements plan.
use Rattle.std.proofs.Common.{inl, ℕ, ◌+◌, Bool, true, false, cond, List, [], ◌∷◌, refl}
use Rattle.cc_base.specs.declared.diagnostics.Place.{Place}
use Rattle.c_layout.specs.Types.{Ty}
use Rattle.c_layout.specs.CheckedTrees.{TermTree, StatementTree, StatementTrees, statement_trees}
use Rattle.c_layout.specs.CheckedUnits.{FunctionView}
use Rattle.c_layout.specs.declared.checked_tree.checked_statements.CaseLabel.{CaseLabel}
use Rattle.cfg.specs.declared.machine_instructions.Scalar.{Scalar}
use Rattle.lower_templates.specs.Worklist.Pieces.{Local, Outcome}
use Rattle.lower_templates.specs.Worklist.TermKinds.{scalar_of, is_void}
use Rattle.lower_templates.specs.Worklist.Plans.{Plan, with_labels, begun}
use Rattle.lower_templates.specs.Worklist.Settings.{SettingView}
use Rattle.lower_functions.specs.Statements.ScopeJumps.{all_left}
use Rattle.lower_functions.specs.Functions.Functions.{local_type, result_entered, argument, arguments, parameters, result_loaded, outermost, body, entry, called, function}
use Rattle.lower_functions.proofs.PlanClosures.{TermClosed, StatementClosed}
use Rattle.lower_functions.proofs.TermPlans.{kept_act, kept_fresh, kept_end, kept_mark, kept_or}
use Rattle.lower_functions.proofs.StatementPlans.{kept_entered, kept_left, kept_statements}

module _ {P : Plan → Type 0} (c : TermClosed P) where
  kept_argument : (at : Place) (spare number : ℕ) (kind : Scalar) (p : Plan) → P p → P (argument at spare number kind p)
  kept_argument at spare number kind p k = kept_act c at _ _ refl (kept_fresh c at (Local number) _ p (refl, inl refl) k)

  kept_arguments : (at : Place) (f : FunctionView) (ns : List ℕ) (p : Plan) → P p → P (arguments at f ns p)
  kept_arguments at f [] p k = k
  kept_arguments at f (n ∷ ns) p k = kept_arguments at f ns (argument at f.parameters n (scalar_of (local_type f n)) p) (kept_argument at f.parameters n (scalar_of (local_type f n)) p k)

  kept_result : (at : Place) (t : Ty) (p : Plan) → P p → P (result_entered at t p)
  kept_result at t p k = kept_or c (is_void t) p _ k (kept_fresh c at Outcome _ p refl k)

  pub kept_parameters : (s : SettingView) (f : FunctionView) (p : Plan) → P p → P (parameters s f p)
  kept_parameters s f p k = kept_arguments s.at f s.parameters _ (kept_result s.at f.returns _ (kept_entered c s.at s.parameters p k))

module _ {P : Plan → Type 0} {T : StatementTree → Type 0} {U : StatementTrees → Type 0} {S : TermTree → List CaseLabel → Type 0} (c : StatementClosed P T U S) where
  pub kept_body : (s : SettingView) (f : FunctionView) (p : Plan) → U (statement_trees f.body) → P p → P (body s f p)
  kept_body s f p is k = kept_left c.terms s.at f.scope _ (kept_statements c (statement_trees f.body) (outermost s.end) _ is (kept_entered c.terms s.at f.scope p k))

  pub kept_entry : (s : SettingView) (f : FunctionView) (p : Plan) → U (statement_trees f.body) → P p → P (entry s f p)
  kept_entry s f p is k = kept_end c.terms s.at _ _ _ refl tt (kept_body s f p is k)

  -- what comes before the result is loaded
  pub kept_before_result : (s : SettingView) (f : FunctionView) (p : Plan) → U (statement_trees f.body) → P p → P (begun s.end (all_left s.at s.parameters (body s f (begun (p.labels + 1) (parameters s f (begun p.labels (with_labels 2 p)))))))
  kept_before_result s f p is k =
      let first = kept_mark c.terms (p.labels + 1) _ (kept_parameters c.terms s f _ (kept_mark c.terms p.labels _ (c.terms.labels 2 p k))) in
      kept_mark c.terms s.end _ (kept_left c.terms s.at s.parameters _ (kept_body s f _ is first))

  pub kept_function : (s : SettingView) (f : FunctionView) (p : Plan) → ((at : Place) (kind : Scalar) (q : Plan) → P q → P (result_loaded at kind q)) → U (statement_trees f.body) → P p → P (function s f p)
  kept_function s f p loaded is k = by_entry s.is_entry
    where
      by_result : (b : Bool) (q : Plan) → P q → P (cond b q (result_loaded s.at (scalar_of f.returns) q))
      by_result true q k = k
      by_result false q k = loaded s.at (scalar_of f.returns) q k

      by_entry : (b : Bool) → P (cond b (entry s f p) (called s f p))
      by_entry true = kept_entry s f p is k
      by_entry false = by_result (is_void f.returns) _ (kept_before_result s f p is k)
