-- Of the program of a unit whose switches have distinct cases, two edges of one block are labels apart.
use Rattle.std.specs.Prelude.{◌≡◌, ℕ, true, List, Some, slice_get}
use Rattle.cc_base.specs.declared.limit_table.Limits.{Limits}
use Rattle.c_layout.specs.CheckedUnits.{UnitView}
use Rattle.unit_exact.specs.CaseLabels.DistinctCases.{is_distinct_unit}
use Rattle.lower_templates.specs.Views.ProgramViews.{EdgeView, FlowView}
use Rattle.lower.specs.Inlining.Lowerings.{IsLowering}
use Rattle.unit_exact.specs.CaseEdges.ApartSwitches.{label, is_beside}

-- two edges that leave one block
abbrev pub EdgesAreApart : List EdgeView → Type 0
EdgesAreApart edges = (j k : ℕ) (d e : EdgeView) → slice_get edges j ≡ Some d → slice_get edges k ≡ Some e → d.from ≡ e.from → (k ≡ j → ⊥) → is_beside (label d.taken) (label e.taken) ≡ true

abbrev pub ProgramsSwitchApart : Type 0
ProgramsSwitchApart = (u : UnitView) (limits : Limits) (f : FlowView) → IsLowering u limits f → is_distinct_unit u ≡ true → EdgesAreApart f.edges
