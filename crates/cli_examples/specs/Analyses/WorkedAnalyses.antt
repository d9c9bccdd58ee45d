-- What is found in the program of the unit: one division by 0, and nothing else.
use Rattle.std.specs.Prelude.{◌≡◌, ◌++◌, ◌-◌, ◌^◌, ℤ, pos, negsuc, true, List, [], ◌∷◌, Option}
use Rattle.cc_base.specs.InductiveMap.{IsInductive, IsLeast}
use Rattle.cc_base.specs.Machine.{Machine}
use Rattle.cc_base.specs.Standard.{standard_limits}
use Rattle.cc_base.specs.declared.diagnostics.Diag.{Diag}
use Rattle.cfg.specs.Nearest.{AreThresholds}
use Rattle.cfg.specs.ThresholdNumbers.{limits_of}
use Rattle.cfg.specs.StructNumbers.{flow_numbers}
use Rattle.cfg.specs.WellFormed.{is_well_formed}
use Rattle.cfg.specs.declared.programs.Flow.{Flow}
use Rattle.lower_templates.specs.Views.ProgramViews.{FlowView, flow_view}
use Rattle.lower.specs.Inlining.Lowerings.{IsLowering}
use Rattle.interval_domain.specs.declared.intervals.intervals.Interval.{Interval}
use Rattle.value_domain.specs.declared.values.row_cells.Cell.{Cell}
use Rattle.analysis.specs.Analyses.{row_lattice, machine_of, IsAnalysis}
use Rattle.typed_lowering.specs.SingleRuns.{IsSingleProgram}
use Rattle.cli_examples.specs.Units.WorkedPlaces.{division}
use Rattle.cli_examples.specs.Units.WorkedTrees.{checked_unit}

abbrev pub Map : Type 0
Map = List (Option (List (Cell Interval)))

-- ---- maps

-- no map with a row more is inductive, whatever the system
abbrev pub NoLongerMap : Type 0
NoLongerMap = (m : Machine (Cell Interval)) (rows : Map) (row : Option (List (Cell Interval))) → IsInductive row_lattice m rows → IsInductive row_lattice m (rows ++ row ∷ []) → ⊥

-- a map that is inductive too, and larger, is not the least one
pub record IsLarger (flow : Flow) (list : List ℤ) (larger : Map) : Type 0 where
  pub inductive : IsInductive row_lattice (machine_of flow list) larger
  pub not_least : IsLeast row_lattice (machine_of flow list) larger → ⊥

-- ---- thresholds

-- the numbers of the program that are no limits of types
abbrev pub own_numbers : List ℤ
own_numbers = negsuc 0 ∷ (pos 1 ∷ (pos 2 ∷ []))

-- they and the limits, ascending
abbrev pub thresholds : List ℤ
thresholds =
    negsuc (2 ^ 63 - 1) ∷ (negsuc (2 ^ 31 - 1) ∷ (negsuc 32767 ∷ (negsuc 127 ∷ (negsuc 0 ∷ (pos 0 ∷ (pos 1 ∷ (pos 2 ∷ (pos 127 ∷ (pos 255 ∷ (pos 32767 ∷ (pos 65535
    ∷ (pos (2 ^ 31 - 1) ∷ (pos (2 ^ 32 - 1) ∷ (pos (2 ^ 63 - 1) ∷ (pos (2 ^ 64 - 1) ∷ (pos (2 ^ 64) ∷ []))))))))))))))))

-- just these are thresholds: no list without the limits will do, and none with a number more
pub record IsListOf (flow : Flow) : Type 0 where
  pub there : AreThresholds (limits_of flow.model) (flow_numbers flow) thresholds
  pub shorter : AreThresholds (limits_of flow.model) (flow_numbers flow) own_numbers → ⊥
  pub longer : AreThresholds (limits_of flow.model) (flow_numbers flow) (pos 7 ∷ thresholds) → ⊥

-- ---- the analysis

-- the analysis finds the division by 0; no analysis over these numbers finds less, more, or the same at another place
pub record IsFoundAlone (flow : Flow) (list : List ℤ) : Type 0 where
  pub there : IsAnalysis flow list (division 24 ∷ [])
  pub no_other : (found : List Diag) → IsAnalysis flow list found → found ≡ division 24 ∷ []
  pub shorter : IsAnalysis flow list [] → ⊥
  pub other_place : IsAnalysis flow list (division 23 ∷ []) → ⊥

-- the unit is lowered to this program and to no other
pub record IsLoweredTo (flow : Flow) : Type 0 where
  pub there : IsLowering checked_unit standard_limits (flow_view flow)
  pub no_other : (f : FlowView) → IsLowering checked_unit standard_limits f → f ≡ flow_view flow

pub record IsWorkedProgram (flow : Flow) (larger : Map) : Type 0 where
  pub lowered : IsLoweredTo flow
  pub well_formed : is_well_formed standard_limits flow ≡ true
  pub listed : IsListOf flow
  pub found : IsFoundAlone flow thresholds
  pub larger_map : IsLarger flow thresholds larger
  -- and the unit's run passes each block once at most
  pub single : IsSingleProgram flow checked_unit
