-- When the rows of a map tell the types of operands.
use Rattle.std.specs.Prelude.{◌≡◌, ℤ, true, List, Option}
use Rattle.cc_base.specs.Lattices.{LatticeOf}
use Rattle.cc_base.specs.IntegerDomains.{IntegersOf}
use Rattle.cc_base.specs.declared.limit_table.Limits.{Limits}
use Rattle.c_layout.specs.CheckedUnits.{UnitView}
use Rattle.cfg.specs.WellFormed.{is_well_formed}
use Rattle.cfg.specs.declared.machine_instructions.Operation.{Operation}
use Rattle.cfg.specs.declared.programs.Flow.{Flow}
use Rattle.value_domain.specs.declared.values.row_cells.Cell.{Cell}
use Rattle.row_bounds.specs.TypedRows.{has_operands, is_typed_map}
use Rattle.store_sound.specs.Concretization.ValueMeaning.{Naming}
use Rattle.store_sound.specs.Concretization.RowMeaning.{MachineState, InGamma}
use Rattle.store_sound.specs.Concretization.Coverage.{EachRunIsCovered}
use Rattle.transfer_sound.specs.Values.OperandTypes.{HasOperands}
use Rattle.transfer_sound.specs.Induction.SoundEnds.{StepsGoOnSoundly, EndsGoOnSoundly}
use Rattle.transfer_sound.specs.Induction.Covering.{row_before, Admits, Begins, Carries, HasTypedRuns}

module _ {I : Type 0} (l : LatticeOf I) (n : IntegersOf I) (gamma : I → ℤ → Type 0) (flow : Flow) where
  -- operands that lie within their types in a row are of their types in each state for which it stands
  abbrev pub RowsTypeOperands : Type 0
  RowsTypeOperands = (naming : Naming) (row : List (Cell I)) (state : MachineState) → InGamma l n gamma flow naming row state → (o : Operation) → has_operands l n flow row o ≡ true → HasOperands o state.temps

  -- operands that lie within their types in the rows of a map that begins with a run and carries it on are of their types in
  -- the run, which the map covers
  abbrev pub MapsTypeRuns : Type 0
  MapsTypeRuns = (limits : Limits) → is_well_formed limits flow ≡ true → StepsGoOnSoundly l n gamma flow → EndsGoOnSoundly l n gamma flow limits
      → (u : UnitView) (rows : List (Option (List (Cell I)))) → Begins l n gamma flow u rows → Carries l n gamma flow rows → is_typed_map l n flow rows ≡ true → EachRunIsCovered l n gamma flow (row_before l n flow rows) (Admits l n flow rows) u × HasTypedRuns flow u
