-- Statements only add to what was given away.
use Rattle.std.proofs.Common.{ℕ, List, Option}
use Rattle.cc_base.specs.declared.diagnostics.Place.{Place}
use Rattle.c_layout.specs.CheckedTrees.{TermTree, StatementTree, StatementTrees}
use Rattle.c_layout.specs.declared.checked_tree.checked_statements.CaseLabel.{CaseLabel}
use Rattle.lower_conditions.specs.Tests.{named}
use Rattle.lower_conditions.specs.declared.branch_tests.NamedObject.{NamedObject}
use Rattle.lower_functions.specs.Statements.ScopeJumps.{all_entered, all_left}
use Rattle.lower_functions.specs.Statements.PlainStatements.{all_statements}
use Rattle.lower_functions.specs.Statements.Loops.{check, unused}
use Rattle.lower_functions.specs.Statements.Switches.{mention_if, Mentioned, dispatch_behind, dispatch}
use Rattle.lower_functions.specs.Statements.Statements.{statement}
use Rattle.lower_functions.specs.declared.statements.switch_statements.CaseArm.{CaseArm}
use Rattle.lower_functions.specs.declared.statements.switch_statements.SwitchBegun.{SwitchBegun}
use Rattle.lower_functions.proofs.PlanClosures.{AnyStatement, AnyStatements, AnySwitch, StatementClosed, any_parts, any_each}
use Rattle.lower_functions.proofs.StatementPlans.{kept_entered, kept_left, kept_check, kept_step, kept_block, kept_blocks, kept_mention, kept_edges, kept_statements, kept_statement}
use Rattle.lower_templates.specs.Worklist.Works as jobs
use Rattle.lower_templates.specs.Worklist.Plans.{Plan}
use Rattle.lower_templates.specs.Worklist.Settings.{SettingView}
use Rattle.lower_templates.specs.declared.worklist.pending_works.Landing.{Landing}
use Rattle.lower_templates.specs.declared.worklist.pending_works.Surroundings.{Surroundings}
use Rattle.lower_template_theorems.specs.Growth.Growth.{Grows}
use Rattle.lower_template_theorems.proofs.growth.Growth.{grows_work, grows_scope, grows_dispatch}
use Rattle.lower_template_theorems.proofs.growth.GrowingTerms.{growing}

pub grows_mention : {start : Plan} (o : Option NamedObject) (p : Plan) → Grows start p → Grows start (mention_if o p).after
grows_mention {start = start} o p g = kept_mention (growing start) o p g

pub grows_dispatch_of : {start : Plan} (s : SettingView) (at : Place) (e : TermTree) (cases : List CaseLabel) (from : ℕ) (b : SwitchBegun) (p : Plan) → Grows start p → Grows start (dispatch s at e cases from b p)
grows_dispatch_of {start = start} s at e cases from b p g = kept_edges (growing start).terms s at e cases from b p (λ other q k. grows_work _ _ (grows_work (jobs.Value e 0) _ (grows_mention (named e) q k))) g

growing_on : (start : Plan) → StatementClosed (Grows start) AnyStatement AnyStatements AnySwitch
growing_on start = record {
  terms = (growing start).terms;
  scope = λ p g. grows_scope p g;
  dispatch = λ d p g. grows_dispatch d p g;
  statement = λ i around p is g. grows_work (jobs.Statement i around) p g;
  switched = λ s from label number q at e cases other p is g. grows_work _ _ (grows_work (jobs.Value e 0) _ (grows_mention (named e) p g));
  parts = λ i is. any_parts i;
  each = λ items is. any_each items;
}

pub grows_entered : {start : Plan} (at : Place) (xs : List ℕ) (p : Plan) → Grows start p → Grows start (all_entered at xs p)
grows_entered {start = start} at xs p g = kept_entered (growing start).terms at xs p g

pub grows_left : {start : Plan} (at : Place) (xs : List ℕ) (p : Plan) → Grows start p → Grows start (all_left at xs p)
grows_left {start = start} at xs p g = kept_left (growing start).terms at xs p g

pub grows_statements : {start : Plan} (items : StatementTrees) (around : Surroundings) (p : Plan) → Grows start p → Grows start (all_statements items around p)
grows_statements {start = start} items around p g = kept_statements (growing_on start) items around p tt g

pub grows_check : {start : Plan} (label : ℕ) (test : Option TermTree) (first second : ℕ) (p : Plan) → Grows start p → Grows start (check label test first second p)
grows_check {start = start} label test first second p g = kept_check (growing start).terms label test first second p g

pub grows_step : {start : Plan} (e : Option TermTree) (p : Plan) → Grows start p → Grows start (unused e p)
grows_step {start = start} e p g = kept_step (growing start).terms e p g

pub grows_dispatch_behind : {start : Plan} (s : SettingView) (at : Place) (e : TermTree) (cases : List CaseLabel) (from : ℕ) (landing : Landing) (arms : List CaseArm) (other : ℕ) (found : Mentioned) → Grows start found.after → Grows start (dispatch_behind s at e cases from landing arms other found)
grows_dispatch_behind {start = start} s at e cases from landing arms other found g =
    kept_block (growing start).terms s from other landing _ (kept_blocks (growing start).terms s from arms _ (grows_work _ _ (grows_work (jobs.Value e 0) found.after g)))

pub grows_statement : {start : Plan} (s : SettingView) (i : StatementTree) (around : Surroundings) (p : Plan) → Grows start p → Grows start (statement s i around p)
grows_statement {start = start} s i around p g = kept_statement (growing_on start) s i around p tt g
