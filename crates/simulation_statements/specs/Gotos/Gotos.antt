-- A `goto` follows in its pieces.
use Rattle.std.specs.Prelude.{◌≡◌, ◌≤◌, ◌<◌, ℕ, suc, List, [], ◌∷◌, ◌++◌, Some}
use Rattle.c_layout.specs.CheckedTrees.{Goto, statement_trees}
use Rattle.c_layout.specs.CheckedUnits.{FunctionView}
use Rattle.lower_template_theorems.specs.PendingLabels.Marks.{all_labels_in}
use Rattle.lower_templates.specs.Worklist.Pieces.{PieceView}
use Rattle.lower_templates.specs.Worklist.Plans.{Plan}
use Rattle.lower_templates.specs.Worklist.Scopes.{function_scopes}
use Rattle.lower_templates.specs.Worklist.Settings.{SettingView}
use Rattle.lower_templates.specs.Worklist.Works as jobs
use Rattle.lower_templates.specs.declared.worklist.pending_works.Surroundings.{Surroundings}
use Rattle.lower_template_theorems.specs.Worklists.Derivations.{Makes}
use Rattle.semantics.specs.SourceMachine.Items.{Item, Statement}
use Rattle.semantics.specs.SourceMachine.LabelSearch.{from_label}
use Rattle.semantics.specs.SourceMachine.Scopes.{open_scopes}
use Rattle.semantics.specs.SourceMachine.SourceStates.{function_at}
use Rattle.simulation_terms.specs.SimulationRelation.Activations.{Activation}
use Rattle.simulation_terms.specs.SimulationRelation.Simulates.{Leads, Simulates}
use Rattle.simulation_terms.specs.Worklists.TemplateParts.{IsOfUnit, IsKnown, Stands}
use Rattle.simulation_terms.specs.Scopes.Scopes.{IsScope, AllHaveScopes}
use Rattle.simulation_terms.specs.Scopes.Chains.{Chain, AreApart}
use Rattle.simulation_terms.specs.Scopes.SuitedStatements.{HasLabel}
use Rattle.simulation_statements.specs.Labels.FoundLabels.{IsThere}

-- the function is the one that runs, its scopes are those of the setting, no object is in two of them, and it has each of its
-- labels once at most, where the search finds it
pub record HasLabels (t : Activation) (s : SettingView) (f : FunctionView) : Type 0 where
  pub is : function_at t.unit t.function ≡ Some f
  pub tree : s.scopes ≡ function_scopes f
  pub apart : AreApart s
  pub outermost : IsScope s 1 0 f.scope
  pub body : AllHaveScopes s (statement_trees f.body) 1 2
  pub once : (l : ℕ) → all_labels_in l (statement_trees f.body) ≤ 1
  pub found : (l : ℕ) → HasLabel f l → IsThere (from_label t.unit f l)

-- where a label lies for some turns, a `goto` follows for two more
abbrev pub GotosSimulate : Type 0
GotosSimulate = (t : Activation) (s : SettingView) → IsOfUnit t s → (f : FunctionView) → HasLabels t s f → (n l : ℕ) (around : Surroundings) (items to : List Item) (there : List PieceView) → Chain s around.scope (open_scopes items) → l < f.labels → from_label t.unit f l ≡ Some to → Leads t l there → Simulates t n 0 to there
    → (p : Plan) → p.jobs ≡ [] → (ps : List PieceView) (r : Plan) → Makes s p (jobs.Statement (Goto l) around ∷ []) ps r → IsKnown t r → (rest : List PieceView) → Stands t (ps ++ rest) → Simulates t (suc (suc n)) 0 (Statement (Goto l) ∷ items) (ps ++ rest)
