-- Larger rows stand for more, and inductive maps begin with the entry's row and are carried along edges.
use Rattle.std.specs.Prelude.{◌≡◌, ℤ, true, List, [], ◌∷◌, length, Option, Some}
use Rattle.cc_base.specs.Lattices.{LatticeOf}
use Rattle.cc_base.specs.IntegerDomains.{IntegersOf}
use Rattle.cc_base.specs.InductiveMap.{IsInductive}
use Rattle.cc_base.specs.Rows.{row_leq}
use Rattle.c_layout.specs.CheckedUnits.{UnitView}
use Rattle.cfg.specs.declared.programs.Flow.{Flow}
use Rattle.lower_templates.specs.Views.ProgramViews.{flow_view}
use Rattle.semantics.specs.CfgMachine.FlowStates.{ProgramState, running}
use Rattle.semantics.specs.CfgMachine.FlowStarts.{flow_begin}
use Rattle.value_domain.specs.declared.values.row_cells.Cell.{Cell}
use Rattle.value_domain.specs.declared.values.row_cells.Cell.TheVariants.{Nothing, Value, First, State, Mixed}
use Rattle.value_domain.specs.Values.Cells.{cell_lattice}
use Rattle.store_sound.specs.Concretization.ValueMeaning.{Naming}
use Rattle.store_sound.specs.Concretization.RowMeaning.{MachineState, InGamma}
use Rattle.transfer_system.specs.BoundedRows.OwnRows.{program_bases}
use Rattle.transfer_system.specs.System.FlowMachines.{start_of, flow_machine}
use Rattle.row_bounds.specs.LaidOut.{IsLaidOut}
use Rattle.row_bounds.specs.ProgramLaws.{IsNamed, AreRising}
use Rattle.transfer_system.specs.BoundedRows.NearLists.{IsNearList}
use Rattle.row_bounds.specs.Edges.OwnLists.{ReachesTypes}
use Rattle.transfer_sound.specs.Values.SoundSteps.{InGammaAfter}
use Rattle.transfer_sound.specs.Induction.Covering.{Begins, Carries}

module _ {I : Type 0} where
  -- a mixed cell is above all and is read as the least
  abbrev pub IsUnmixed : Cell I → Type 0
  IsUnmixed Nothing = Unit {0}
  IsUnmixed (Value v) = Unit {0}
  IsUnmixed (First f) = Unit {0}
  IsUnmixed (State s) = Unit {0}
  IsUnmixed Mixed = ⊥

  abbrev pub AreUnmixed : List (Cell I) → Type 0
  AreUnmixed [] = Unit {0}
  AreUnmixed (c ∷ cs) = IsUnmixed c × AreUnmixed cs

module _ {I : Type 0} (l : LatticeOf I) (n : IntegersOf I) (gamma : I → ℤ → Type 0) (flow : Flow) where
  -- a larger row of which no cell is mixed
  abbrev pub LargerRowsStandForMore : Type 0
  LargerRowsStandForMore = (naming : Naming) (row larger : List (Cell I)) (s : MachineState) → row_leq (cell_lattice l) row larger ≡ true → AreUnmixed larger → InGamma l n gamma flow naming row s → InGamma l n gamma flow naming larger s

  abbrev pub InductiveMapsAreCarried : List ℤ → Type 0
  InductiveMapsAreCarried list = IsNearList l n list → ReachesTypes list → IsLaidOut (program_bases (length flow.bases.items)) flow → IsNamed flow → AreRising l n (program_bases (length flow.bases.items)) flow
      → (rows : List (Option (List (Cell I)))) → IsInductive (cell_lattice l) (flow_machine l n flow list) rows → Carries l n gamma flow rows

  -- the row of the system's entry stands for the states in which runs of a unit begin
  abbrev pub EntryInGamma : List ℤ → UnitView → Type 0
  EntryInGamma list u = (draws : List ℤ) (s : ProgramState) → flow_begin u (flow_view flow) draws ≡ running s [] → InGammaAfter l n gamma flow (Some (start_of l n flow list)) s

  abbrev pub InductiveMapsBegin : List ℤ → Type 0
  InductiveMapsBegin list = IsNearList l n list → ReachesTypes list → IsLaidOut (program_bases (length flow.bases.items)) flow → IsNamed flow → AreRising l n (program_bases (length flow.bases.items)) flow
      → (rows : List (Option (List (Cell I)))) → IsInductive (cell_lattice l) (flow_machine l n flow list) rows → (u : UnitView) → EntryInGamma list u → Begins l n gamma flow u rows
