-- What a switch plans: its labels, its dispatch and the blocks of its edges, and its body.
use Rattle.std.proofs.Common.{◌≡◌, ◌≤◌, ◌<◌, ℕ, suc, ◌+◌, ◌-◌, ◌^◌, List, [], ◌∷◌, ◌++◌, length, Option, Some, None, refl, arith, ap, sym, subst, ◌∙◌, append_assoc, length-append}
use Rattle.std.proofs.Math.Seq.{get_or-append_seam}
use Rattle.cc_base.specs.declared.diagnostics.Place.{Place}
use Rattle.c_layout.specs.CheckedTrees.{TermTree, StatementTree}
use Rattle.c_layout.specs.CheckedUnits.{FunctionView}
use Rattle.c_layout.specs.declared.checked_tree.checked_statements.CaseLabel.{CaseLabel}
use Rattle.c_layout.specs.declared.checked_tree.checked_terms.ObjectRef.{ObjectRef}
use Rattle.c_layout.specs.declared.checked_tree.checked_terms.ObjectRef.TheVariants as ref
use Rattle.cfg.specs.declared.machine_instructions.Scalar.{Scalar}
use Rattle.cfg.specs.declared.machine_instructions.Scalar.TheVariants as scalar
use Rattle.lower_conditions.specs.declared.branch_tests.NamedObject.{NamedObject}
use Rattle.lower_templates.specs.Worklist.Acts as act
use Rattle.lower_templates.specs.Worklist.Pieces.{NameView, PieceView, End, Mark}
use Rattle.lower_templates.specs.Worklist.Plans.{Plan, with_work, with_name, with_labels, with_dispatch, begun, name_of_object}
use Rattle.lower_templates.specs.Worklist.Settings.{SettingView}
use Rattle.lower_templates.specs.Worklist.TermKinds.{integer_type, term_type}
use Rattle.lower_templates.specs.Worklist.Works as jobs
use Rattle.lower_templates.specs.Worklist.Works.{behind}
use Rattle.lower_templates.specs.declared.worklist.pending_works.Landing.{Landing}
use Rattle.lower_templates.specs.declared.worklist.pending_works.Surroundings.{Surroundings}
use Rattle.lower_templates.specs.declared.worklist.template_builder.Dispatch.{Dispatch}
use Rattle.lower_conditions.specs.Tests.{named}
use Rattle.lower_template_theorems.specs.Growth.Growth.{Grows}
use Rattle.lower_template_theorems.proofs.growth.Growth.{grows_not, grows_on, grows_work}
use Rattle.lower_template_theorems.proofs.growth.GrowingStatements.{grows_mention, grows_dispatch_behind, grows_dispatch_of}
use Rattle.lower_functions.specs.Statements.Switches as lowered
use Rattle.lower_functions.specs.Statements.Switches.{Mentioned, mention_of, mention_if, switched_object, Targeted, edge_target, case_arms, edge_block, edge_blocks, dispatch_exits, other_landing, choice_at, dispatch_at, no_dispatch, in_switch}
use Rattle.lower_functions.specs.declared.statements.switch_statements.SwitchBegun.{SwitchBegun}
use Rattle.lower_functions.proofs.StatementPlans.{kept_mention, kept_edges}
use Rattle.semantics.specs.SourceMachine.LabelSearch.{Sought, case, other}
use Rattle.semantics.specs.SourceMachine.SourceStates.{function_at, local_of}
use Rattle.simulation_terms.specs.SimulationRelation.Activations.{Activation}
use Rattle.simulation_terms.specs.SimulationRelation.Simulates as simulates
use Rattle.simulation_terms.specs.SimulationRelation.Simulates.{Names, SameSwitched, type_in}
use Rattle.simulation_terms.specs.Worklists.TemplateParts.{IsKnown}
use Rattle.simulation_terms.proofs.worklists.Runs.{known_name}
use Rattle.simulation_terms.proofs.worklists.Assignments.{one_more_job}
use Rattle.simulation_terms.specs.Scopes.Scopes.{scopes_in, switches_in}
use Rattle.simulation_terms.specs.Scopes.SuitedStatements.{object_type, IsReadAs, IsSwitchedOn}
use Rattle.simulation_terms.proofs.scopes.KeptScopes.{AreTerms, Keeps, keeps_work, keeping}
use Rattle.simulation_terms.proofs.scopes.Positions as positions
use Rattle.simulation_terms.proofs.scopes.Positions.{Position, position, past, same_numbers}
use Rattle.simulation_statements.specs.Dispatches.LabelMarks.{IsMark, of_case, of_other}

-- ---- the labels of a switch

abbrev pub dispatch_of : ℕ → Plan → Dispatch
dispatch_of count p = record { cases = p.labels; fallback = p.labels + count }

abbrev pub after_of : ℕ → Plan → ℕ
after_of count p = (p.labels + count) + 1

abbrev pub begun_of : ℕ → ℕ → Plan → SwitchBegun
begun_of count scope p = record { choice = length p.dispatches; dispatch = dispatch_of count p; after = record { label = after_of count p; scope = scope } }

abbrev pub started : ℕ → Plan → Plan
started count p = record p { labels = after_of count p + 1; dispatches = p.dispatches ++ dispatch_of count p ∷ [] }

pub begins : (count scope : ℕ) (p : Plan) → lowered.begin_switch count scope p ≡ record { begun = begun_of count scope p; after = started count p }
unfolding with_labels with_dispatch
begins count scope p = refl

pub start_position : (count : ℕ) (p : Plan) → position (started count p) ≡ positions.in_switch (position p)
start_position count p = same_numbers p.scopes p.scopes _ _ refl (length-append p.dispatches (dispatch_of count p ∷ []) ∙ plus_one (length p.dispatches))
  where
    plus_one : (a : ℕ) → a + 1 ≡ suc a
    plus_one a = omega arith

-- the number of a label of the switch
abbrev pub switch_mark : ℕ → Plan → Sought → ℕ
switch_mark count p (case i) = p.labels + i
switch_mark count p other = p.labels + count
switch_mark count p l = 0

started_dispatch : (count : ℕ) (p : Plan) → dispatch_at (started count p) (length p.dispatches) ≡ dispatch_of count p
started_dispatch count p = get_or-append_seam p.dispatches (dispatch_of count p) [] no_dispatch

started_choice : (count : ℕ) (p : Plan) → length p.dispatches < length (started count p).dispatches
started_choice count p = let e = length-append p.dispatches (dispatch_of count p ∷ []) in omega (arith, e)

case_number : (a i count : ℕ) → i < count → (a + count) + 1 + 1 ≤ 2 ^ 32 - 1 → behind a i ≡ a + i
case_number a i count less few = omega (arith, less, few)

case_less : (a i count : ℕ) → i < count → behind a i < (a + count) + 1 + 1
case_less a i count less = omega (arith, less)

other_less : (a count : ℕ) → a + count < (a + count) + 1 + 1
other_less a count = omega arith

pub case_is_mark : (count : ℕ) (p : Plan) (i : ℕ) → i < count → after_of count p + 1 ≤ 2 ^ 32 - 1 → IsMark (started count p) (length p.dispatches) (case i) (p.labels + i)
case_is_mark count p i less few =
    subst (λ k. IsMark (started count p) (length p.dispatches) (case i) k) (case_number p.labels i count less few)
    (subst (λ (d : Dispatch). IsMark (started count p) (length p.dispatches) (case i) (behind d.cases i)) (started_dispatch count p)
    (of_case i (started_choice count p) (subst (λ (d : Dispatch). behind d.cases i < after_of count p + 1) (sym (started_dispatch count p)) (case_less p.labels i count less))))

pub other_is_mark : (count : ℕ) (p : Plan) → IsMark (started count p) (length p.dispatches) other (p.labels + count)
other_is_mark count p =
    subst (λ (d : Dispatch). IsMark (started count p) (length p.dispatches) other d.fallback) (started_dispatch count p)
    (of_other (started_choice count p) (subst (λ (d : Dispatch). d.fallback < after_of count p + 1) (sym (started_dispatch count p)) (other_less p.labels count)))

pub past_switch : (c : Position) (body : StatementTree) → past (positions.in_switch c) body ≡ positions.numbers (c.scopes + scopes_in body) (c.switches + suc (switches_in body))
past_switch c body = same_numbers _ _ _ _ refl (one_more c.switches (switches_in body))
  where
    one_more : (a b : ℕ) → suc a + b ≡ a + suc b
    one_more a b = omega arith

-- ---- the parts of the plan

module _ (s : SettingView) (at : Place) (e : TermTree) (cases : List CaseLabel) (from : ℕ) (p : Plan) where
  abbrev pub count : ℕ
  count = length cases

  abbrev pub number : ℕ
  number = length p.dispatches

  abbrev pub arms_at : lowered.Armed
  arms_at = case_arms s from p.labels (choice_at s number).first cases (started count p)

  abbrev pub other_at : Landing
  other_at = other_landing (choice_at s number) (dispatch_of count p) (record { label = after_of count p; scope = from })

  abbrev pub other_to : Targeted
  other_to = edge_target s from other_at arms_at.after

  abbrev pub switched : Mentioned
  switched = switched_object e other_to.after

  abbrev pub dispatch_piece : PieceView
  dispatch_piece = End (record { at = at; does = act.Switch 0 (integer_type (term_type e)) }) (dispatch_exits arms_at.arms cases switched.base other_to.to)

  abbrev pub valued : Plan
  valued = with_work (jobs.Ready dispatch_piece) (with_work (jobs.Value e 0) switched.after)

  abbrev pub edged : Plan
  edged = edge_blocks s from arms_at.arms valued

  abbrev pub dispatched : Plan
  dispatched = edge_block s from other_to.to other_at edged

  abbrev pub switch_plan : StatementTree → Surroundings → Plan
  switch_plan body around = begun (after_of count p) (with_work (jobs.Statement body (in_switch around (begun_of count from p))) dispatched)

  -- ---- nothing else begins

  pub dispatch_keeps : p.jobs ≡ [] → Keeps (started count p) dispatched
  dispatch_keeps none =
      let begin = started count p in
      let start : Keeps begin begin = record { scopes = refl; terms = subst AreTerms (sym none) tt } in
      kept_edges (keeping begin).terms s at e cases from (begun_of count from p) begin (λ other q k. keeps_work _ _ tt (keeps_work (jobs.Value e 0) _ tt (kept_mention (keeping begin) (named e) q k))) start

  -- ---- it only adds

  pub start_grows : Grows (started count p) dispatched
  start_grows = grows_dispatch_of s at e cases from (begun_of count from p) (started count p) (grows_not (started count p))

  pub named_grows : Grows switched.after dispatched
  named_grows = grows_dispatch_behind s at e cases from other_at arms_at.arms other_to.to switched (grows_not switched.after)

  pub other_grows : Grows other_to.after dispatched
  other_grows = grows_on other_to.after switched.after dispatched (grows_mention (named e) other_to.after (grows_not other_to.after)) named_grows

  pub whole_grows : (body : StatementTree) (around : Surroundings) → Grows dispatched (switch_plan body around)
  whole_grows body around = grows_work (jobs.Ready (Mark (after_of count p))) _ (grows_work (jobs.Statement body (in_switch around (begun_of count from p))) dispatched (grows_not dispatched))

  pub whole_jobs : (body : StatementTree) (around : Surroundings) → (switch_plan body around).jobs ≡ dispatched.jobs ++ (jobs.Statement body (in_switch around (begun_of count from p)) ∷ (jobs.Ready (Mark (after_of count p)) ∷ []))
  whole_jobs body around =
      let j = jobs.Statement body (in_switch around (begun_of count from p)) in
      one_more_job (dispatched.jobs ++ j ∷ []) (jobs.Ready (Mark (after_of count p))) (with_work j dispatched) (one_more_job dispatched.jobs j dispatched refl) ∙ append_assoc dispatched.jobs (j ∷ []) (jobs.Ready (Mark (after_of count p)) ∷ [])

  pub whole_position : (body : StatementTree) (around : Surroundings) → position (switch_plan body around) ≡ position dispatched
  unfolding with_work
  whole_position body around = refl

  pub whole_names : (body : StatementTree) (around : Surroundings) → (switch_plan body around).names ≡ dispatched.names
  unfolding with_work
  whole_names body around = refl

  pub valued_jobs : switched.after.jobs ≡ [] → valued.jobs ≡ jobs.Value e 0 ∷ (jobs.Ready dispatch_piece ∷ [])
  valued_jobs none = one_more_job (jobs.Value e 0 ∷ []) (jobs.Ready dispatch_piece) (with_work (jobs.Value e 0) switched.after) (one_more_job [] (jobs.Value e 0) switched.after none)

  pub valued_names : valued.names ≡ switched.after.names
  unfolding with_work
  valued_names = refl

-- ---- the object that is switched on

mention_jobs_of : (o : NamedObject) (kind : Scalar) (q : Plan) → (mention_of o kind q).after.jobs ≡ q.jobs
unfolding with_name
mention_jobs_of o (scalar.Int kind) q = refl
mention_jobs_of o scalar.Pointer q = refl

pub mention_jobs : (o : Option NamedObject) (q : Plan) → (mention_if o q).after.jobs ≡ q.jobs
mention_jobs None q = refl
mention_jobs (Some o) q = mention_jobs_of o o.kind q

name_last : (x : NameView) (q : Plan) → (with_name x q).names ≡ q.names ++ x ∷ []
unfolding with_name
name_last x q = refl

module _ (t : Activation) (f : FunctionView) (is : function_at t.unit t.function ≡ Some f) where
  named_type : (o : ObjectRef) → type_in t o ≡ object_type t.unit f o
  named_type (ref.Static m) = refl
  named_type (ref.Local m) = ap (λ g. local_of g m) is

  same_by : (o : ObjectRef) (kind : Scalar) → IsReadAs (object_type t.unit f o) kind → (q : Plan) → IsKnown t (mention_of (record { object = o; kind = kind }) kind q).after → SameSwitched t (Some (record { object = o; kind = kind })) (mention_of (record { object = o; kind = kind }) kind q).base
  same_by o (scalar.Int kind) reads q known =
      subst (λ k. SameSwitched t (Some (record { object = o; kind = scalar.Int k })) (Some (length q.names))) (sym reads.2)
      (simulates.integers o (length q.names) reads.0 (known_name t (with_name (name_of_object o) q) q.names (name_of_object o) known (name_last (name_of_object o) q)) (named_type o ∙ reads.1))
  same_by o scalar.Pointer reads q known = simulates.no_integer o

  pub same_switched : (o : Option NamedObject) → IsSwitchedOn t.unit f o → (q : Plan) → IsKnown t (mention_if o q).after → SameSwitched t o (mention_if o q).base
  same_switched None reads q known = simulates.unnamed
  same_switched (Some o) reads q known = same_by o.object o.kind reads q known
