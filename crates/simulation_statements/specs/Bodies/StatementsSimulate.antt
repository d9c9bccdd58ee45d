-- Statements of a function follow in their pieces, and so does what is left to do from their labels on.
use Rattle.std.specs.Prelude.{◌≡◌, ℕ, List, [], ◌∷◌, ◌++◌, length, Some}
use Rattle.c_layout.specs.CheckedTrees.{StatementTree}
use Rattle.c_layout.specs.CheckedUnits.{FunctionView}
use Rattle.lower_templates.specs.Worklist.Pieces.{PieceView}
use Rattle.lower_templates.specs.Worklist.Plans.{Plan}
use Rattle.lower_templates.specs.Worklist.Settings.{SettingView}
use Rattle.lower_templates.specs.Worklist.Works as jobs
use Rattle.lower_templates.specs.declared.worklist.pending_works.Surroundings.{Surroundings}
use Rattle.lower_template_theorems.specs.Worklists.Derivations.{Makes}
use Rattle.semantics.specs.SourceMachine.Items.{Item, Statement}
use Rattle.semantics.specs.SourceMachine.LabelSearch.{Sought, found}
use Rattle.simulation_terms.specs.SimulationRelation.Activations.{Activation}
use Rattle.simulation_terms.specs.SimulationRelation.Simulates.{Simulates}
use Rattle.simulation_terms.specs.Worklists.TemplateParts.{IsOfUnit, IsKnown, Stands, Ends}
use Rattle.simulation_terms.specs.Scopes.Contexts.{Reaches, Within}
use Rattle.simulation_terms.specs.Scopes.Scopes.{HasScopes}
use Rattle.simulation_terms.specs.Scopes.SuitedStatements.{Enclosure, SuitsIn}
use Rattle.simulation_statements.specs.SwitchLabels.Choices.{HasChoices}
use Rattle.simulation_statements.specs.Gotos.Gotos.{HasLabels}
use Rattle.simulation_statements.specs.Dispatches.LabelMarks.{IsMark}

-- where the works of a statement come to pieces, its items follow in these, whatever comes behind
abbrev pub StatementsSimulate : Type 0
StatementsSimulate = (t : Activation) (s : SettingView) → IsOfUnit t s → (f : FunctionView) → HasLabels t s f → Ends s t f → (i : StatementTree) (n : ℕ) (around : Surroundings) (enclosed : Enclosure) (known : List ℕ) → SuitsIn t.unit f enclosed known i → (p : Plan) → HasScopes s i around.scope p.scopes → HasChoices s i around.scope p.scopes (length p.dispatches)
    → (ps : List PieceView) (r : Plan) → Makes s p (jobs.Statement i around ∷ []) ps r → p.jobs ≡ [] → IsKnown t r → (items : List Item) (rest : List PieceView) → Stands t (ps ++ rest) → Within s t n around enclosed known items → Simulates t n 0 items rest → Simulates t n 0 (Statement i ∷ items) (ps ++ rest)

-- and what is left to do from a label in it on follows behind the mark of the label
abbrev pub LabelsSimulate : Type 0
LabelsSimulate = (t : Activation) (s : SettingView) → IsOfUnit t s → (f : FunctionView) → HasLabels t s f → Ends s t f → (i : StatementTree) (n : ℕ) (around : Surroundings) (enclosed : Enclosure) (known : List ℕ) → SuitsIn t.unit f enclosed known i → (p : Plan) → HasScopes s i around.scope p.scopes → HasChoices s i around.scope p.scopes (length p.dispatches)
    → (ps : List PieceView) (r : Plan) → Makes s p (jobs.Statement i around ∷ []) ps r → p.jobs ≡ [] → IsKnown t r → (items : List Item) (rest : List PieceView) → Stands t (ps ++ rest) → Within s t n around enclosed known items → Simulates t n 0 items rest → (l : Sought) (mark : ℕ) → IsMark p around.choice l mark → (to : List Item) → found t.unit l i items ≡ Some to → Reaches t n mark to
