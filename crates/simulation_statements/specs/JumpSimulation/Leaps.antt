-- Jumps between any two places of a function follow in their pieces.
use Rattle.std.specs.Prelude.{◌≡◌, ◌≤◌, ℕ, List, [], ◌∷◌, ◌++◌, length}
use Rattle.lower_templates.specs.Worklist.Pieces.{PieceView}
use Rattle.lower_templates.specs.Worklist.Plans.{Plan}
use Rattle.lower_templates.specs.Worklist.Settings.{SettingView}
use Rattle.lower_templates.specs.declared.worklist.pending_works.Landing.{Landing}
use Rattle.lower_functions.specs.Statements.ScopeJumps.{leap}
use Rattle.lower_functions.specs.Functions.Turns.{planless}
use Rattle.lower_template_theorems.specs.Worklists.Derivations.{Makes}
use Rattle.semantics.specs.SourceMachine.Items.{Item, Enters, Hop}
use Rattle.semantics.specs.SourceMachine.Scopes.{jump, open_scopes, leap_in, entering_first}
use Rattle.simulation_terms.specs.SimulationRelation.Activations.{Activation}
use Rattle.simulation_terms.specs.SimulationRelation.Simulates.{Leads, Simulates}
use Rattle.simulation_terms.specs.Worklists.TemplateParts.{IsOfUnit, IsKnown, Stands}
use Rattle.simulation_terms.specs.Scopes.Chains.{Chain, AreApart}
use Rattle.simulation_statements.specs.ScopeExits.Chains.{IsWay}

-- what is left to do from a label on follows behind it
pub record Lies (s : SettingView) (t : Activation) (n : ℕ) (landing : Landing) (to : List Item) : Type 0 where
  pub scopes : Chain s landing.scope (open_scopes to)
  pub there : List PieceView
  pub leads : Leads t landing.label there
  pub simulates : Simulates t n 0 to there

-- from any scope of the function
abbrev pub LeapsSimulate : Type 0
LeapsSimulate = (t : Activation) (s : SettingView) → IsOfUnit t s → AreApart s → (n from : ℕ) (landing : Landing) (items to : List Item) → Chain s from (open_scopes items) → Lies s t n landing to
    → (p : Plan) → p.jobs ≡ [] → (ps : List PieceView) (r : Plan) → Makes s (planless (leap s from landing p)) (leap s from landing p).jobs ps r → IsKnown t r → (rest : List PieceView) → Stands t (ps ++ rest) → Simulates t n 0 (jump items to) (ps ++ rest)

-- the way to a label of a switch leaves nothing: what is entered on it follows in the pieces of its edge's block
abbrev pub EdgesSimulate : Type 0
EdgesSimulate = (t : Activation) (s : SettingView) → IsOfUnit t s → (n from : ℕ) (landing : Landing) (items to : List Item) → from ≤ length s.scopes.scopes → (l : Lies s t n landing to) → (w : IsWay s from landing.scope (open_scopes items) (open_scopes to)) → w.leaves ≡ []
    → (p : Plan) → p.jobs ≡ [] → (ps : List PieceView) (r : Plan) → Makes s (planless (leap s from landing p)) (leap s from landing p).jobs ps r → IsKnown t r → (rest : List PieceView) → Stands t (ps ++ rest)
    → (leap_in items to ≡ entering_first w.enters to) × Simulates t n 0 (Enters w.enters ∷ (Hop ∷ to)) (ps ++ rest)
