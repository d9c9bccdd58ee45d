-- What lies behind the edges of a switch.
use Rattle.std.specs.Prelude.{◌≡◌, ℕ, suc, List, ◌∷◌, Option, Some, slice_get}
use Rattle.cc_base.specs.declared.diagnostics.Place.{Place}
use Rattle.cc_base.specs.declared.int_types.IntType.{IntType}
use Rattle.c_layout.specs.CheckedTrees.{StatementTree}
use Rattle.c_layout.specs.declared.checked_tree.checked_statements.CaseLabel.{CaseLabel}
use Rattle.lower_conditions.specs.declared.branch_tests.NamedObject.{NamedObject}
use Rattle.lower_templates.specs.Worklist.Acts.{Switch}
use Rattle.lower_templates.specs.Worklist.Pieces.{PieceView, End}
use Rattle.lower_functions.specs.Statements.Switches.{dispatch_exits}
use Rattle.lower_functions.specs.declared.statements.switch_statements.CaseArm.{CaseArm}
use Rattle.semantics.specs.SourceMachine.BranchSteps.{landing}
use Rattle.semantics.specs.SourceMachine.Items.{Item, Select}
use Rattle.semantics.specs.SourceMachine.LabelSearch.{Sought, case, other, found}
use Rattle.semantics.specs.SourceMachine.Scopes.{leap_in}
use Rattle.simulation_terms.specs.SimulationRelation.Activations.{Activation}
use Rattle.simulation_terms.specs.SimulationRelation.Simulates.{Leads, SameSwitched, Simulates}
use Rattle.simulation_statements.specs.Switches.ValueEdges.{AreArms}

-- a label of a switch and that of its edge: where the source goes on follows behind it
pub record IsTarget (t : Activation) (n d : ℕ) (body : StatementTree) (items : List Item) (l : Sought) (label : ℕ) : Type 0 where
  pub to : List Item
  pub there : List PieceView
  pub lands : landing l (found t.unit l body items) items ≡ Some to
  pub leads : Leads t label there
  pub simulates : Simulates t n d (leap_in items to) there

-- each case has its target, and so have all other values
pub record HasTargets (t : Activation) (n d : ℕ) (body : StatementTree) (items : List Item) (arms : List CaseArm) (fallback : ℕ) : Type 0 where
  pub cases : (i : ℕ) (a : CaseArm) → slice_get arms i ≡ Some a → IsTarget t n d body items (case i) a.to
  pub others : IsTarget t n d body items other fallback

-- then the switch follows in the piece that dispatches
abbrev pub SwitchesSimulate : Type 0
SwitchesSimulate = (t : Activation) (n d : ℕ) (at : Place) (kind : IntType) (object : Option NamedObject) (base : Option ℕ) (cases : List CaseLabel) (arms : List CaseArm) (fallback : ℕ) (body : StatementTree) (items : List Item) (ps : List PieceView) → AreArms cases arms → SameSwitched t object base → HasTargets t n d body items arms fallback
    → Simulates t n (suc d) (Select at object cases body ∷ items) (End (record { at = at; does = Switch d kind }) (dispatch_exits arms cases base fallback) ∷ ps)
