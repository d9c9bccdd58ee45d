-- A switch follows where its edges lead to what the source goes on with.
use Rattle.std.proofs.Common.{◌≡◌, ℕ, suc, ◌+◌, ℤ, List, ◌∷◌, Option, Some, arith, subst}
use Rattle.cc_base.specs.declared.diagnostics.Place.{Place}
use Rattle.cc_base.specs.declared.int_types.IntType.{IntType}
use Rattle.c_layout.specs.CheckedTrees.{StatementTree}
use Rattle.c_layout.specs.declared.checked_tree.checked_statements.CaseLabel.{CaseLabel}
use Rattle.memory_model.specs.Memory.Labels.{Labels}
use Rattle.memory_model.specs.Memory.Scalars.{integer}
use Rattle.lower_conditions.specs.declared.branch_tests.NamedObject.{NamedObject}
use Rattle.lower_templates.specs.Worklist.Acts.{Switch}
use Rattle.lower_templates.specs.Worklist.Pieces.{Way, Case, Other, ExitView, PieceView, End}
use Rattle.lower_functions.specs.Statements.Switches.{dispatch_exits, values}
use Rattle.lower_functions.specs.declared.statements.switch_statements.CaseArm.{CaseArm}
use Rattle.semantics.specs.SourceMachine.Items.{Item, Select}
use Rattle.semantics.specs.SourceMachine.LabelSearch.{Sought, case, case_of}
use Rattle.semantics.specs.TemplateMachine.TemplateExits.{exit_taken}
use Rattle.simulation_terms.specs.SimulationRelation.Activations.{Activation}
use Rattle.simulation_terms.specs.SimulationRelation.Simulates as simulates
use Rattle.simulation_terms.specs.SimulationRelation.Simulates.{SameSwitched, SameCase, Simulates}
use Rattle.simulation_terms.proofs.simulation_relation.Constructions.{gives_select}
use Rattle.simulation_statements.specs.Switches.ValueEdges.{AreArms, HasEdge, of_case, of_none}
use Rattle.simulation_statements.specs.Switches.SwitchTargets.{IsTarget, HasTargets}
use Rattle.simulation_statements.proofs.switches.ValueEdges.{has_edge}

from_none : (i : ℕ) → i ≡ 0 + i
from_none i = omega arith

module _ (t : Activation) (n d : ℕ) (object : Option NamedObject) (base : Option ℕ) (cases : List CaseLabel) (arms : List CaseArm) (fallback : ℕ) (body : StatementTree) (items : List Item) (same : SameSwitched t object base) (targets : HasTargets t n d body items arms fallback) where
  -- the edge of a value, and what lies behind it
  record IsChosen (value : ℤ) (exits : List ExitView) (l : Sought) : Type 0 where
    way : Way
    label : ℕ
    same_case : SameCase t object value l way
    takes : (marks : Labels) → exit_taken (integer value marks) exits ≡ Some (record { to = label; taken = way })
    target : IsTarget t n d body items l label

  chosen : (value : ℤ) (exits : List ExitView) (l : Sought) → HasEdge arms base fallback (values cases) 0 value exits l → IsChosen value exits l
  chosen value exits _ (of_case i a there takes) =
      subst (λ k. IsChosen value exits (case k)) (from_none i)
      (record { way = Case (record { value = value; object = base }); label = a.to; same_case = simulates.matched i base same; takes = takes; target = targets.cases i a there })
  chosen value exits _ (of_none takes) = record { way = Other (values cases); label = fallback; same_case = simulates.unmatched (values cases); takes = takes; target = targets.others }

  pub simulates_by : (at : Place) (kind : IntType) (ps : List PieceView) → AreArms cases arms → Simulates t n (suc d) (Select at object cases body ∷ items) (End (record { at = at; does = Switch d kind }) (dispatch_exits arms cases base fallback) ∷ ps)
  simulates_by at kind ps are =
      let exits = dispatch_exits arms cases base fallback in
      let choice : (value : ℤ) → IsChosen value exits (case_of cases 0 value) = λ value. chosen value exits (case_of cases 0 value) (has_edge cases arms base fallback are value) in
      gives_select n d at kind object cases body items exits ps
      (λ value. record { way = (choice value).way; label = (choice value).label; to = (choice value).target.to; there = (choice value).target.there; same = (choice value).same_case; lands = (choice value).target.lands; takes = (choice value).takes; leads = (choice value).target.leads })
      (λ value. (choice value).target.simulates)

pub switch_simulates : (t : Activation) (n d : ℕ) (at : Place) (kind : IntType) (object : Option NamedObject) (base : Option ℕ) (cases : List CaseLabel) (arms : List CaseArm) (fallback : ℕ) (body : StatementTree) (items : List Item) (ps : List PieceView) → AreArms cases arms → SameSwitched t object base → HasTargets t n d body items arms fallback
    → Simulates t n (suc d) (Select at object cases body ∷ items) (End (record { at = at; does = Switch d kind }) (dispatch_exits arms cases base fallback) ∷ ps)
switch_simulates t n d at kind object base cases arms fallback body items ps are same targets = simulates_by t n d object base cases arms fallback body items same targets at kind ps are
