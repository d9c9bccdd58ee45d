-- What the theorems on sound steps say.
use Rattle.cc_base.specs.Lattices.{LatticeOf}
use Rattle.cc_base.specs.IntegerDomains.{IntegersOf}
use Rattle.std.specs.Prelude.{ℤ, List}
use Rattle.cfg.specs.declared.programs.Flow.{Flow}
use Rattle.transfer_sound.specs.Clear.ClearSteps.{ClearStepsAreSound}
use Rattle.cc_base.specs.IntegerLaws.{SoundLaws, MonotoneLaws}
use Rattle.transfer_sound.specs.Edges.EdgeSteps.{PlainEndsAreSound}
use Rattle.transfer_sound.specs.Enter.EnterSteps.{EnterStepsAreSound}
use Rattle.transfer_sound.specs.Induction.Covering.{IsCoveredByLaws, IsTypedByRows}
use Rattle.transfer_sound.specs.InvariantMaps.CarriedMaps.{LargerRowsStandForMore, InductiveMapsAreCarried, InductiveMapsBegin}
use Rattle.transfer_sound.specs.Leave.LeaveSteps.{LeaveStepsAreSound}
use Rattle.transfer_sound.specs.Memory.MemorySteps.{LoadStepsAreSound, StoreStepsAreSound}
use Rattle.transfer_sound.specs.Objects.ObjectSteps.{ForgetStepsAreSound}
use Rattle.transfer_sound.specs.Operands.TypedMaps.{RowsTypeOperands, MapsTypeRuns}
use Rattle.transfer_sound.specs.Tests.ScalarObjects.{IntegerTestsAreSound, CasesAreSound, PointerTestsAreSound, NullTestsAreSound}
use Rattle.transfer_sound.specs.Values.SoundSteps.{ValueStepsAreSound, PointerStepsAreSound}

module _ {I : Type 0} (l : LatticeOf I) (n : IntegersOf I) (stands : I → ℤ → Type 0) where
  abbrev pub ClearStepsAreSoundEverywhere : Type 0
  ClearStepsAreSoundEverywhere = (flow : Flow) → ClearStepsAreSound l n stands flow

  abbrev pub PlainEndsAreSoundEverywhere : Type 0
  PlainEndsAreSoundEverywhere = (flow : Flow) → SoundLaws l n stands → PlainEndsAreSound l n stands flow

  abbrev pub EnterStepsAreSoundEverywhere : Type 0
  EnterStepsAreSoundEverywhere = (flow : Flow) → EnterStepsAreSound l n stands flow

  abbrev pub RunsAreCovered : Type 0
  RunsAreCovered = (flow : Flow) → IsCoveredByLaws l n stands flow

  abbrev pub RunsAreTypedByRows : Type 0
  RunsAreTypedByRows = (flow : Flow) → IsTypedByRows l n stands flow

  abbrev pub LargerRowsStandForMoreEverywhere : Type 0
  LargerRowsStandForMoreEverywhere = (flow : Flow) → LargerRowsStandForMore l n stands flow

  abbrev pub InductiveMapsAreCarriedEverywhere : Type 0
  InductiveMapsAreCarriedEverywhere = MonotoneLaws l n → (flow : Flow) (list : List ℤ) → InductiveMapsAreCarried l n stands flow list

  abbrev pub InductiveMapsBeginEverywhere : Type 0
  InductiveMapsBeginEverywhere = MonotoneLaws l n → (flow : Flow) (list : List ℤ) → InductiveMapsBegin l n stands flow list

  abbrev pub LeaveStepsAreSoundEverywhere : Type 0
  LeaveStepsAreSoundEverywhere = (flow : Flow) → LeaveStepsAreSound l n stands flow

  abbrev pub LoadStepsAreSoundEverywhere : Type 0
  LoadStepsAreSoundEverywhere = (flow : Flow) → SoundLaws l n stands → LoadStepsAreSound l n stands flow

  abbrev pub StoreStepsAreSoundEverywhere : Type 0
  StoreStepsAreSoundEverywhere = (flow : Flow) → SoundLaws l n stands → StoreStepsAreSound l n stands flow

  abbrev pub ForgetStepsAreSoundEverywhere : Type 0
  ForgetStepsAreSoundEverywhere = (flow : Flow) → ForgetStepsAreSound l n stands flow

  abbrev pub TypedRowsTypeOperands : Type 0
  TypedRowsTypeOperands = (flow : Flow) → RowsTypeOperands l n stands flow

  abbrev pub TypedMapsTypeRuns : Type 0
  TypedMapsTypeRuns = (flow : Flow) → MapsTypeRuns l n stands flow

  abbrev pub IntegerTestsAreSoundEverywhere : Type 0
  IntegerTestsAreSoundEverywhere = (flow : Flow) → SoundLaws l n stands → IntegerTestsAreSound l n stands flow

  abbrev pub CasesAreSoundEverywhere : Type 0
  CasesAreSoundEverywhere = (flow : Flow) → CasesAreSound l n stands flow

  abbrev pub PointerTestsAreSoundEverywhere : Type 0
  PointerTestsAreSoundEverywhere = (flow : Flow) → PointerTestsAreSound l n stands flow

  abbrev pub NullTestsAreSoundEverywhere : Type 0
  NullTestsAreSoundEverywhere = (flow : Flow) → NullTestsAreSound l n stands flow

  abbrev pub ValueStepsAreSoundEverywhere : Type 0
  ValueStepsAreSoundEverywhere = (flow : Flow) → SoundLaws l n stands → ValueStepsAreSound l n stands flow

  abbrev pub PointerStepsAreSoundEverywhere : Type 0
  PointerStepsAreSoundEverywhere = (flow : Flow) → SoundLaws l n stands → PointerStepsAreSound l n stands flow
