-- Where the items of statements stand: the scopes that are open, the ends of the loop around, and the labels.
use Rattle.std.specs.Prelude.{◌≡◌, ◌<◌, ℕ, zero, suc, true, List, [], ◌∷◌, ◌++◌, Some}
use Rattle.c_layout.specs.CheckedUnits.{FunctionView}
use Rattle.lower_templates.specs.Worklist.Pieces.{PieceView}
use Rattle.lower_templates.specs.Worklist.Settings.{SettingView}
use Rattle.lower_templates.specs.declared.worklist.pending_works.Landing.{Landing}
use Rattle.lower_templates.specs.declared.worklist.pending_works.Surroundings.{Surroundings}
use Rattle.semantics.specs.SourceMachine.Items.{Item}
use Rattle.semantics.specs.SourceMachine.LabelSearch.{from_label}
use Rattle.semantics.specs.SourceMachine.Scopes.{is_in, all_of, open_scopes, without, inwards, past_loop, past_iteration}
use Rattle.semantics.specs.SourceMachine.SourceStates.{function_at}
use Rattle.simulation_terms.specs.SimulationRelation.Activations.{Activation}
use Rattle.simulation_terms.specs.SimulationRelation.Simulates.{Leads, Simulates}
use Rattle.simulation_terms.specs.Scopes.Chains.{Chain}
use Rattle.simulation_terms.specs.Scopes.Scopes.{IsScope}
use Rattle.simulation_terms.specs.Scopes.SuitedStatements.{Enclosure}

-- from a scope outwards to another one such objects are left
pub data Up (s : SettingView) : ℕ → ℕ → List ℕ → Type 0 where
  here : (k : ℕ) → Up s k k []
  out : (number around to : ℕ) (objects xs : List ℕ) → to < number → IsScope s number around objects → Up s around to xs → Up s number to (objects ++ xs)

-- nothing is left of what is known
abbrev pub AreIn : List ℕ → List ℕ → Type 0
AreIn [] known = Unit {0}
AreIn (x ∷ xs) known = (is_in x known ≡ true) × AreIn xs known

-- ---- labels

-- such items follow behind the mark of a label
pub record Reaches (t : Activation) (n label : ℕ) (to : List Item) : Type 0 where
  pub there : List PieceView
  pub leads : Leads t label there
  pub simulates : Simulates t n 0 to there

-- what is left to do from each label of the function that runs on follows behind its mark
abbrev pub LabelsReach : Activation → ℕ → Type 0
LabelsReach t n = (f : FunctionView) → function_at t.unit t.function ≡ Some f → (l : ℕ) (to : List Item) → l < f.labels → from_label t.unit f l ≡ Some to → Reaches t n l to

-- for fewer turns than so many
abbrev pub LabelsReachBefore : Activation → ℕ → Type 0
LabelsReachBefore t zero = Unit {0}
LabelsReachBefore t (suc n) = LabelsReach t n

-- ---- statements

module _ (s : SettingView) (t : Activation) where
  -- a jump from such scopes to items behind a label leaves such objects and enters none
  pub record Lands (n : ℕ) (scopes : List (List ℕ)) (to : List Item) (from : ℕ) (landing : Landing) : Type 0 where
    pub objects : List ℕ
    pub up : Up s from landing.scope objects
    pub leaves : without (all_of (open_scopes to)) (all_of scopes) ≡ objects
    pub stays : AreIn (inwards (open_scopes to)) (all_of scopes)
    pub within : (x : ℕ) → is_in x (all_of (open_scopes to)) ≡ true → is_in x (all_of scopes) ≡ true
    pub there : List PieceView
    pub leads : Leads t landing.label there
    pub simulates : Simulates t n 0 to there

  -- where items stand: the scopes that are open, in a loop or switch its ends, and where labels lead for fewer turns
  pub record Context (n : ℕ) (around : Surroundings) (enclosed : Enclosure) (known : List ℕ) (scopes : List (List ℕ)) (after_loop after_turn : List Item) : Type 0 where
    pub within : (x : ℕ) → is_in x (all_of scopes) ≡ true → is_in x known ≡ true
    pub chain : Chain s around.scope scopes
    pub labels : LabelsReachBefore t n
    pub on_break : enclosed.breaks ≡ true → Lands n scopes after_loop around.scope around.on_break
    pub on_continue : enclosed.continues ≡ true → Lands n scopes after_turn around.scope around.on_continue

  abbrev pub Within : ℕ → Surroundings → Enclosure → List ℕ → List Item → Type 0
  Within n around enclosed known items = Context n around enclosed known (open_scopes items) (past_loop items) (past_iteration items)
