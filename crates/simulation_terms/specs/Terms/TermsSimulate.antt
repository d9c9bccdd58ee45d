-- Terms follow in their pieces, whatever comes behind.
use Rattle.std.specs.Prelude.{◌≡◌, ◌≤◌, ℕ, suc, ◌+◌, ◌-◌, ◌^◌, true, false, List, [], ◌∷◌, ◌++◌}
use Rattle.c_layout.specs.CheckedTrees.{TermTree}
use Rattle.lower_templates.specs.Worklist.Pieces.{PieceView}
use Rattle.lower_templates.specs.Worklist.Plans.{Plan}
use Rattle.lower_templates.specs.Worklist.Settings.{SettingView}
use Rattle.lower_templates.specs.Worklist.Works as jobs
use Rattle.lower_templates.specs.declared.worklist.pending_works.Decision.{Decision}
use Rattle.lower_template_theorems.specs.Worklists.Derivations.{Makes}
use Rattle.semantics.specs.SourceMachine.Items.{Item, Value, Unused}
use Rattle.semantics.specs.SourceMachine.ConditionItems.{condition}
use Rattle.simulation_terms.specs.SimulationRelation.Activations.{Activation}
use Rattle.simulation_terms.specs.SimulationRelation.Simulates.{Leads, Simulates}
use Rattle.simulation_terms.specs.Worklists.Rooms.{room}
use Rattle.simulation_terms.specs.Worklists.SuitedTerms.{Suits}
use Rattle.simulation_terms.specs.Worklists.TemplateParts.{IsOfUnit, IsKnown, Stands}

-- where the works of a term come to pieces, its items follow in these
abbrev pub TermsSimulate : Type 0
TermsSimulate = (t : Activation) (s : SettingView) → IsOfUnit t s → (n d : ℕ) (e : TermTree) → Suits t.unit true e → d + room e ≤ 2 ^ 32 - 1 → (p : Plan) (ps : List PieceView) (r : Plan) → Makes s p (jobs.Value e d ∷ []) ps r → p.jobs ≡ [] → IsKnown t r
    → (items : List Item) (rest : List PieceView) → Stands t (ps ++ rest) → Simulates t n (suc d) items rest → Simulates t n d (Value e ∷ items) (ps ++ rest)

-- so do those of a term whose value is not used
abbrev pub UnusedTermsSimulate : Type 0
UnusedTermsSimulate = (t : Activation) (s : SettingView) → IsOfUnit t s → (n d : ℕ) (e : TermTree) → Suits t.unit false e → d + room e ≤ 2 ^ 32 - 1 → (p : Plan) (ps : List PieceView) (r : Plan) → Makes s p (jobs.Unused e d ∷ []) ps r → p.jobs ≡ [] → IsKnown t r
    → (items : List Item) (rest : List PieceView) → Stands t (ps ++ rest) → Simulates t n d items rest → Simulates t n d (Unused e ∷ items) (ps ++ rest)

-- the items of a condition follow in its pieces, where those for each way follow behind the label of that way
abbrev pub ConditionsSimulate : Type 0
ConditionsSimulate = (t : Activation) (s : SettingView) → IsOfUnit t s → (n : ℕ) (e : TermTree) (decision : Decision) → Suits t.unit true e → decision.depth + room e ≤ 2 ^ 32 - 1 → (p : Plan) (ps : List PieceView) (r : Plan) → Makes s p (jobs.Condition e decision ∷ []) ps r → p.jobs ≡ [] → IsKnown t r
    → (held failed items : List Item) (rest on_yes on_no : List PieceView) → Stands t (ps ++ rest) → Leads t decision.targets.yes on_yes → Leads t decision.targets.no on_no → Simulates t n decision.depth (held ++ items) on_yes → Simulates t n decision.depth (failed ++ items) on_no
    → Simulates t n decision.depth (condition t.unit decision.is_test e held failed ++ items) (ps ++ rest)
