-- Plans whose pieces have a property that more names do not take away, and whose statements meet a condition.
use Rattle.std.proofs.Common.{◌≡◌, ℕ, false, List, [], ◌∷◌, ◌++◌, length, Option, refl, subst, sym}
use Rattle.cc_base.specs.declared.diagnostics.Place.{Place}
use Rattle.c_layout.specs.CheckedTrees.{TermTree, StatementTree, StatementTrees}
use Rattle.c_layout.specs.declared.checked_tree.checked_statements.CaseLabel.{CaseLabel}
use Rattle.cfg.specs.declared.machine_instructions.Scalar.{Scalar}
use Rattle.lower_templates.specs.Worklist.Acts as acts
use Rattle.lower_templates.specs.Worklist.Acts.{Step}
use Rattle.lower_templates.specs.Worklist.Pieces.{NameView, Outcome, ExitView, PieceView, Do, DoIfUsed, End}
use Rattle.lower_templates.specs.Worklist.TermKinds.{integer_type, term_type}
use Rattle.lower_templates.specs.Worklist.Works as jobs
use Rattle.lower_templates.specs.Worklist.Works.{Job}
use Rattle.lower_templates.specs.Worklist.Plans.{Plan, with_work, with_name, with_labels, with_scope, with_dispatch, ended, name_of_object}
use Rattle.lower_templates.specs.Worklist.Settings.{SettingView}
use Rattle.lower_templates.specs.declared.worklist.template_builder.Dispatch.{Dispatch}
use Rattle.lower_conditions.specs.Tests.{named}
use Rattle.lower_functions.specs.Functions.Functions.{result_loaded}
use Rattle.lower_functions.specs.Statements.Switches.{switched_object, case_arms, dispatch_exits}
use Rattle.lower_functions.proofs.PlanClosures.{names_base, NamesIt, AreUnswitched, IsSilentPiece, IsSilent, TermClosed, ConditionClosed, OnParts, OnEach, StatementClosed}
use Rattle.lower_functions.proofs.TermPlans.{kept_value}
use Rattle.lower_functions.proofs.StatementPlans.{kept_mention}

module _ (T : StatementTree → Type 0) (Q : List NameView → PieceView → Type 0) where
  -- a piece is such; other works have still to come to pieces
  abbrev pub IsSuch : List NameView → Job → Type 0
  IsSuch names (jobs.Value e depth) = Unit {0}
  IsSuch names (jobs.Unused e depth) = Unit {0}
  IsSuch names (jobs.Address l depth) = Unit {0}
  IsSuch names (jobs.Condition e decision) = Unit {0}
  IsSuch names (jobs.Statement i around) = T i
  IsSuch names (jobs.Ready q) = Q names q

  abbrev pub AreSuch : List NameView → List Job → Type 0
  AreSuch names [] = Unit {0}
  AreSuch names (j ∷ js) = IsSuch names j × AreSuch names js

  one_more : (names : List NameView) (js : List Job) (j : Job) → AreSuch names js → IsSuch names j → AreSuch names (js ++ j ∷ [])
  one_more names [] j is one = (one, tt)
  one_more names (i ∷ js) j (first, is) one = (first, one_more names js j is one)

pub record IsPlanned (T : StatementTree → Type 0) (Q : List NameView → PieceView → Type 0) (p : Plan) : Type 0 where
  pub works : AreSuch T Q p.names p.jobs

-- what pieces of terms and conditions need for a property
pub record PieceLaw (Q : List NameView → PieceView → Type 0) : Type 0 where
  pub still : (names more : List NameView) (q : PieceView) → Q names q → Q (names ++ more) q
  pub silent : (names : List NameView) (q : PieceView) → IsSilentPiece q → Q names q
  pub fresh : (names : List NameView) (x : NameView) (s : Step) → NamesIt x (length names) s.does → Q (names ++ x ∷ []) (Do s)
  pub branch : (names : List NameView) (s : Step) (exits : List ExitView) → names_base s.does ≡ false → AreUnswitched exits → Q names (End s exits)

pub such_none : (T : StatementTree → Type 0) (Q : List NameView → PieceView → Type 0) (p : Plan) → p.jobs ≡ [] → IsPlanned T Q p
such_none T Q p none = record { works = subst (AreSuch T Q p.names) (sym none) tt }

pub such_work : {T : StatementTree → Type 0} {Q : List NameView → PieceView → Type 0} (j : Job) (p : Plan) → IsSuch T Q p.names j → IsPlanned T Q p → IsPlanned T Q (with_work j p)
unfolding with_work
such_work {T = T} {Q = Q} j p one k = record { works = one_more T Q p.names p.jobs j k.works one }

such_labels : {T : StatementTree → Type 0} {Q : List NameView → PieceView → Type 0} (count : ℕ) (p : Plan) → IsPlanned T Q p → IsPlanned T Q (with_labels count p)
unfolding with_labels
such_labels count p k = record { works = k.works }

such_scope : {T : StatementTree → Type 0} {Q : List NameView → PieceView → Type 0} (p : Plan) → IsPlanned T Q p → IsPlanned T Q (with_scope p)
unfolding with_scope
such_scope p k = record { works = k.works }

such_dispatch : {T : StatementTree → Type 0} {Q : List NameView → PieceView → Type 0} (d : Dispatch) (p : Plan) → IsPlanned T Q p → IsPlanned T Q (with_dispatch d p)
unfolding with_dispatch
such_dispatch d p k = record { works = k.works }

module _ (T : StatementTree → Type 0) {Q : List NameView → PieceView → Type 0} (law : PieceLaw Q) where
  work_still : (names more : List NameView) (j : Job) → IsSuch T Q names j → IsSuch T Q (names ++ more) j
  work_still names more (jobs.Value e depth) is = tt
  work_still names more (jobs.Unused e depth) is = tt
  work_still names more (jobs.Address l depth) is = tt
  work_still names more (jobs.Condition e decision) is = tt
  work_still names more (jobs.Statement i around) is = is
  work_still names more (jobs.Ready q) is = law.still names more q is

  pub works_still : (names more : List NameView) (js : List Job) → AreSuch T Q names js → AreSuch T Q (names ++ more) js
  works_still names more [] is = tt
  works_still names more (j ∷ js) (first, is) = (work_still names more j first, works_still names more js is)

  silent_such : (names : List NameView) (j : Job) → IsSilent j → IsSuch T Q names j
  silent_such names (jobs.Value e depth) is = tt
  silent_such names (jobs.Unused e depth) is = tt
  silent_such names (jobs.Address l depth) is = tt
  silent_such names (jobs.Condition e decision) is = tt
  silent_such names (jobs.Statement i around) is = absurd is
  silent_such names (jobs.Ready q) is = law.silent names q is

pub such_name : (T : StatementTree → Type 0) {Q : List NameView → PieceView → Type 0} (law : PieceLaw Q) (x : NameView) (p : Plan) → IsPlanned T Q p → IsPlanned T Q (with_name x p)
unfolding with_name
such_name T law x p k = record { works = works_still T law p.names (x ∷ []) p.jobs k.works }

such_fresh : (T : StatementTree → Type 0) {Q : List NameView → PieceView → Type 0} (law : PieceLaw Q) (x : NameView) (s : Step) (p : Plan) → NamesIt x (length p.names) s.does → Q (with_name x p).names (Do s)
unfolding with_name
such_fresh T law x s p is = law.fresh p.names x s is

same_names : (Q : List NameView → PieceView → Type 0) (q : PieceView) (j : Job) (p : Plan) → Q p.names q → Q (with_work j p).names q
unfolding with_work
same_names Q q j p is = is

module _ (T : StatementTree → Type 0) {Q : List NameView → PieceView → Type 0} (law : PieceLaw Q) where
  pub such_terms : TermClosed (IsPlanned T Q)
  such_terms = record {
    work = λ j p is k. such_work j p (silent_such T law p.names j is) k;
    fresh = λ x s p is k. such_work (jobs.Ready (Do s)) (with_name x p) (such_fresh T law x s p is) (such_name T law x p k);
    labels = λ count p k. such_labels count p k;
  }

  pub such_conditions : ConditionClosed (IsPlanned T Q)
  such_conditions = record {
    terms = such_terms;
    name = λ o p k. such_name T law (name_of_object o) p k;
    branch = λ s exits p is on k. such_work (jobs.Ready (End s exits)) p (law.branch p.names s exits is on) k;
  }

  -- a switch whose edges are such, whatever base they name
  such_switched : (at : Place) (e : TermTree) (exits : Option ℕ → List ExitView) (p : Plan) → ((names : List NameView) (base : Option ℕ) → Q names (End (record { at = at; does = acts.Switch 0 (integer_type (term_type e)) }) (exits base))) → IsPlanned T Q p
      → IsPlanned T Q (ended at (acts.Switch 0 (integer_type (term_type e))) (exits (switched_object e p).base) (with_work (jobs.Value e 0) (switched_object e p).after))
  such_switched at e exits p any k =
      such_work (jobs.Ready (End (record { at = at; does = acts.Switch 0 (integer_type (term_type e)) }) (exits (switched_object e p).base))) (with_work (jobs.Value e 0) (switched_object e p).after) (any (with_work (jobs.Value e 0) (switched_object e p).after).names (switched_object e p).base)
      (kept_value such_terms e 0 (switched_object e p).after (kept_mention such_conditions (named e) p k))

  module _ {U : StatementTrees → Type 0} {S : TermTree → List CaseLabel → Type 0} (parts : (i : StatementTree) → T i → OnParts T U S i) (each : (items : StatementTrees) → U items → OnEach T U items) where
    pub such_statements : ((s : SettingView) (from label number : ℕ) (q : Plan) (at : Place) (e : TermTree) (cases : List CaseLabel) (other : ℕ) (p : Plan) → S e cases → IsPlanned T Q p → IsPlanned T Q (ended at (acts.Switch 0 (integer_type (term_type e))) (dispatch_exits (case_arms s from label number cases q).arms cases (switched_object e p).base other) (with_work (jobs.Value e 0) (switched_object e p).after))) → StatementClosed (IsPlanned T Q) T U S
    such_statements switched = record {
      terms = such_terms;
      scope = λ p k. such_scope p k;
      dispatch = λ d p k. such_dispatch d p k;
      statement = λ i around p is k. such_work (jobs.Statement i around) p is k;
      switched = switched;
      parts = parts;
      each = each;
    }

    -- where the edges of a switch are such whatever base they name
    pub such_on_any_base : ((s : SettingView) (from label number : ℕ) (q : Plan) (at : Place) (e : TermTree) (cases : List CaseLabel) (other : ℕ) (names : List NameView) (base : Option ℕ) → S e cases → Q names (End (record { at = at; does = acts.Switch 0 (integer_type (term_type e)) }) (dispatch_exits (case_arms s from label number cases q).arms cases base other))) → StatementClosed (IsPlanned T Q) T U S
    such_on_any_base edges = such_statements (λ s from label number q at e cases other p is k. such_switched at e (λ base. dispatch_exits (case_arms s from label number cases q).arms cases base other) p (λ names base. edges s from label number q at e cases other names base is) k)

  -- a result that is loaded where the call's value is used, and left in any case
  pub such_loaded : ((names : List NameView) (at : Place) (n : ℕ) → Q names (DoIfUsed (record { at = at; does = acts.Address 0 n 0 }))) → ((names : List NameView) (at : Place) (kind : Scalar) → Q names (DoIfUsed (record { at = at; does = acts.Load 0 0 kind }))) → (at : Place) (kind : Scalar) (p : Plan) → IsPlanned T Q p → IsPlanned T Q (result_loaded at kind p)
  such_loaded address load at kind p k =
      let n = length p.names in
      let taken = jobs.Ready (DoIfUsed (record { at = at; does = acts.Address 0 n 0 })) in
      let loaded = jobs.Ready (DoIfUsed (record { at = at; does = acts.Load 0 0 kind })) in
      let leave : Step = record { at = at; does = acts.Leave n } in
      let named = with_name Outcome p in
      let first = such_work taken named (address named.names at n) (such_name T law Outcome p k) in
      let second = such_work loaded (with_work taken named) (load (with_work taken named).names at kind) first in
      such_work (jobs.Ready (Do leave)) (with_work loaded (with_work taken named)) (same_names Q (Do leave) loaded (with_work taken named) (same_names Q (Do leave) taken named (such_fresh T law Outcome leave p refl))) second
