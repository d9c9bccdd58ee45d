-- Where works stand in the template of the function that runs.
use Rattle.std.specs.Prelude.{◌≡◌, ◌≤◌, ◌<◌, ℕ, ◌-◌, ◌^◌, true, false, List, [], ◌∷◌, ◌++◌, Some, slice_get}
use Rattle.c_layout.specs.CheckedUnits.{FunctionView}
use Rattle.lower_templates.specs.Worklist.Pieces.{NameView, PieceView}
use Rattle.lower_templates.specs.Worklist.Plans.{Plan}
use Rattle.lower_templates.specs.Worklist.Settings.{SettingView}
use Rattle.lower_functions.specs.Functions.Functions.{numbers_from}
use Rattle.lower_template_theorems.specs.PendingLabels.Marks.{all_marked}
use Rattle.semantics.specs.SourceMachine.CallSteps.{epilogue}
use Rattle.semantics.specs.SourceMachine.SourceStates.{Frame}
use Rattle.simulation_terms.specs.SimulationRelation.Activations.{Activation}
use Rattle.simulation_terms.specs.SimulationRelation.Simulates.{Names, Leads, Simulates, own, pieces}

-- what a template is made from is of the unit, and each label is marked at most once
pub record IsOfUnit (t : Activation) (s : SettingView) : Type 0 where
  pub structs : s.structs ≡ t.unit.structs
  pub pointer : s.pointer ≡ t.unit.model.pointer
  pub int : s.int_bytes ≡ t.unit.model.int
  pub place : s.at ≡ own t
  pub once : (l : ℕ) → l < 2 ^ 32 - 1 → all_marked l (pieces t) ≤ 1

-- the names that were given away are those of the template, and labels are numbers of 32 bits
pub record IsKnown (t : Activation) (p : Plan) : Type 0 where
  pub names : (base : ℕ) (name : NameView) → slice_get p.names base ≡ Some name → Names t base name
  pub labels : p.labels ≤ 2 ^ 32 - 1

-- these are the last pieces of the template
pub record Stands (t : Activation) (ps : List PieceView) : Type 0 where
  pub front : List PieceView
  pub all : pieces t ≡ front ++ ps

-- where a return leads: the run ends in the entry; a function that was called leaves its parameters and goes on behind its
-- last label, where it gives its result
pub data Ends (s : SettingView) (t : Activation) (f : FunctionView) : Type 0 where
  stops : s.is_entry ≡ true → t.callers ≡ [] → Ends s t f
  goes_back : s.is_entry ≡ false → s.parameters ≡ numbers_from 0 f.parameters → (caller : Frame) (callers : List Frame) → t.callers ≡ caller ∷ callers → (there : List PieceView) → Leads t s.end there → ((n : ℕ) → Simulates t n 0 (epilogue f caller) there) → Ends s t f
