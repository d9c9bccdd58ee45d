-- Statements name what is there.
use Rattle.std.proofs.Common.{ℕ, List, [], ◌∷◌, Option, Some, None, refl}
use Rattle.cc_base.specs.declared.diagnostics.Place.{Place}
use Rattle.c_layout.specs.Types.{Ty}
use Rattle.c_layout.specs.CheckedTrees.{TermTree}
use Rattle.c_layout.specs.declared.checked_tree.checked_statements.CaseLabel.{CaseLabel}
use Rattle.cfg.specs.declared.machine_instructions.Scalar.{Scalar}
use Rattle.cfg.specs.declared.machine_instructions.Scalar.TheVariants as scalar
use Rattle.lower_conditions.specs.Tests.{named}
use Rattle.lower_conditions.specs.declared.branch_tests.NamedObject.{NamedObject}
use Rattle.lower_templates.specs.Worklist.Acts.{Switch}
use Rattle.lower_templates.specs.Worklist.Pieces.{NameView, End}
use Rattle.lower_templates.specs.Worklist.TermKinds.{integer_type, term_type}
use Rattle.lower_templates.specs.Worklist.Works as jobs
use Rattle.lower_templates.specs.Worklist.Plans.{Plan, with_work, name_of_object, ended}
use Rattle.lower_functions.specs.Statements.Switches.{mention_of, mention_if, switched_object, Mentioned, dispatch_exits}
use Rattle.lower_functions.specs.declared.statements.switch_statements.CaseArm.{CaseArm}
use Rattle.lower_functions.proofs.PlanClosures.{AnyStatement, AnyStatements, AnySwitch, StatementClosed, any_parts, any_each}
use Rattle.lower_functions.proofs.TermPlans.{kept_value}
use Rattle.lower.specs.TemplateLaws.NamedBases.{maybe, named_on_exits}
use Rattle.lower.proofs.template_laws.NamedLists.{IsKnown, known_none, known_append, known_fresh, known_work, Balanced, bal_known, bal_silent, bal_name, bal_scope, bal_dispatch}
use Rattle.lower.proofs.template_laws.NamedWorks.{balanced, object_site}

record MentionKnown (w : Option Ty → ℕ) (start : List NameView) (m : Mentioned) : Type 0 where
  after : Balanced w start m.after
  known : IsKnown w m.after.names (maybe m.base)

mention_of_known : {w : Option Ty → ℕ} {start : List NameView} (o : NamedObject) (kind : Scalar) (p : Plan) → Balanced w start p → MentionKnown w start (mention_of o kind p)
mention_of_known {w = w} o (scalar.Int kind) p bal = let x = name_of_object o.object in record { after = bal_name x p (object_site w o.object) bal; known = known_fresh x p (object_site w o.object) }
mention_of_known {w = w} o scalar.Pointer p bal = record { after = bal; known = known_none w p.names }

mention_known : {w : Option Ty → ℕ} {start : List NameView} (o : Option NamedObject) (p : Plan) → Balanced w start p → MentionKnown w start (mention_if o p)
mention_known {w = w} None p bal = record { after = bal; known = known_none w p.names }
mention_known (Some o) p bal = mention_of_known o o.kind p bal

-- the edges of cases name what is switched on
cases_known : (w : Option Ty → ℕ) (names : List NameView) (object : Option ℕ) (arms : List CaseArm) (cases : List CaseLabel) (other : ℕ) → IsKnown w names (maybe object) → IsKnown w names (named_on_exits (dispatch_exits arms cases object other))
cases_known w names object [] cases other known = known_none w names
cases_known w names object (a ∷ arms) cases other known = known_append w names (maybe object) (named_on_exits (dispatch_exits arms cases object other)) known (cases_known w names object arms cases other known)

bal_switched : {w : Option Ty → ℕ} {start : List NameView} (at : Place) (e : TermTree) (cases : List CaseLabel) (arms : List CaseArm) (other : ℕ) (p : Plan) → Balanced w start p
    → Balanced w start (ended at (Switch 0 (integer_type (term_type e))) (dispatch_exits arms cases (switched_object e p).base other) (with_work (jobs.Value e 0) (switched_object e p).after))
bal_switched {w = w} {start = start} at e cases arms other p bal =
    let found = switched_object e p in
    let m = mention_known (named e) p bal in
    let exits = dispatch_exits arms cases found.base other in
    bal_known (jobs.Ready (End (record { at = at; does = Switch 0 (integer_type (term_type e)) }) exits)) (with_work (jobs.Value e 0) found.after)
    (known_work (jobs.Value e 0) (named_on_exits exits) found.after (cases_known w found.after.names found.base arms cases other m.known))
    (kept_value (balanced w start) e 0 found.after m.after)

pub balanced_statements : (w : Option Ty → ℕ) (start : List NameView) → StatementClosed (Balanced w start) AnyStatement AnyStatements AnySwitch
balanced_statements w start = record {
  terms = balanced w start;
  scope = λ p b. bal_scope p b;
  dispatch = λ d p b. bal_dispatch d p b;
  statement = λ i around p is b. bal_silent (jobs.Statement i around) p refl b;
  switched = λ s from label number q at e cases other p is b. bal_switched at e cases _ other p b;
  parts = λ i is. any_parts i;
  each = λ items is. any_each items;
}
