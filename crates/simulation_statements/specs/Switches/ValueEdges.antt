-- The label that a value selects in the source, and the edge that is taken with it in the pieces.
use Rattle.std.specs.Prelude.{◌≡◌, ℕ, ◌+◌, ℤ, List, [], ◌∷◌, Option, Some, slice_get}
use Rattle.c_layout.specs.declared.checked_tree.checked_statements.CaseLabel.{CaseLabel}
use Rattle.memory_model.specs.Memory.Labels.{Labels}
use Rattle.memory_model.specs.Memory.Scalars.{integer}
use Rattle.lower_templates.specs.Worklist.Pieces.{Case, Other, ExitView}
use Rattle.lower_functions.specs.Statements.Switches.{dispatch_exits, values}
use Rattle.lower_functions.specs.declared.statements.switch_statements.CaseArm.{CaseArm}
use Rattle.semantics.specs.SourceMachine.LabelSearch.{Sought, case, other, case_of}
use Rattle.semantics.specs.TemplateMachine.TemplateExits.{exit_taken}

-- each case label has an arm, in their order
abbrev pub AreArms : List CaseLabel → List CaseArm → Type 0
AreArms [] [] = Unit {0}
AreArms (c ∷ cases) (a ∷ arms) = (a.value ≡ c.value) × AreArms cases arms
AreArms cases arms = ⊥

-- a value selects a case, counted from some number on, and takes the edge of its arm; or it selects none, and takes the
-- edge of all other values
pub data HasEdge (arms : List CaseArm) (object : Option ℕ) (fallback : ℕ) (all : List ℤ) (first : ℕ) (value : ℤ) (exits : List ExitView) : Sought → Type 0 where
  of_case : (i : ℕ) (a : CaseArm) → slice_get arms i ≡ Some a → ((marks : Labels) → exit_taken (integer value marks) exits ≡ Some (record { to = a.to; taken = Case (record { value = value; object = object }) })) → HasEdge arms object fallback all first value exits (case (first + i))
  of_none : ((marks : Labels) → exit_taken (integer value marks) exits ≡ Some (record { to = fallback; taken = Other all })) → HasEdge arms object fallback all first value exits other

-- each value has its label and its edge
abbrev pub ValuesHaveEdges : Type 0
ValuesHaveEdges = (cases : List CaseLabel) (arms : List CaseArm) (object : Option ℕ) (fallback : ℕ) → AreArms cases arms → (value : ℤ) → HasEdge arms object fallback (values cases) 0 value (dispatch_exits arms cases object fallback) (case_of cases 0 value)
