-- What the theorems of worked examples say.
use Rattle.std.specs.Prelude.{ℕ}
use Rattle.worked_examples.specs.OneLoop.Loop.{IsFollowed}
use Rattle.cfg.specs.declared.programs.Flow.{Flow}
use Rattle.worked_examples.specs.PlainUnit.DividesByStored.{IsPlainDivision}
use Rattle.worked_examples.specs.TypedUnit.DividesByPointed.{IsTypedDivision}
use Rattle.worked_examples.specs.UnrolledUnit.WorkedLoops.{IsLoopedOnce}
use Rattle.worked_examples.specs.WrongTemplates.Refusals.{IsRefused}
use Rattle.worked_examples.specs.WrongTemplates.LeftOutCalls as left_out_calls
use Rattle.worked_examples.specs.WrongTemplates.SkippedSteps as skipped_steps
use Rattle.worked_examples.specs.WrongTemplates.EarlyStores as early_stores
use Rattle.worked_examples.specs.WrongTemplates.KeptObjects as kept_objects
use Rattle.worked_examples.specs.WrongTemplates.TakenElses as taken_elses
use Rattle.worked_examples.specs.WrongTemplates.BothOperands as both_operands
pub use Rattle.worked_examples.specs.TypedUnit.ExcludedPointers.{MisreadsAreUntyped, EndsPointToNumbers, NoNumberStandsBehind, PartsPointToNoNumber, NullPointsToAll}

abbrev pub LoopIsFollowed : Type 0
LoopIsFollowed = (b : ℕ) → IsFollowed b

abbrev pub PlainUnitsMayLoadAndStore : Type 0
PlainUnitsMayLoadAndStore = Flow → (flow : Flow) × IsPlainDivision flow

abbrev pub DivisionsByPointedNumbersAreTyped : Type 0
DivisionsByPointedNumbersAreTyped = Flow → (flow : Flow) × IsTypedDivision flow

abbrev pub LoopsCanBeUnrolled : Type 0
LoopsCanBeUnrolled = Flow → (flow : Flow) × IsLoopedOnce flow

abbrev pub LeftOutCallsAreRefused : Type 0
LeftOutCallsAreRefused = IsRefused left_out_calls.unit left_out_calls.right left_out_calls.wrong

abbrev pub SkippedStepsAreRefused : Type 0
SkippedStepsAreRefused = IsRefused skipped_steps.unit skipped_steps.right skipped_steps.wrong

abbrev pub EarlyStoresAreRefused : Type 0
EarlyStoresAreRefused = IsRefused early_stores.unit early_stores.right early_stores.wrong

abbrev pub KeptObjectsAreRefused : Type 0
KeptObjectsAreRefused = IsRefused kept_objects.unit kept_objects.right kept_objects.wrong

abbrev pub TakenElsesAreRefused : Type 0
TakenElsesAreRefused = IsRefused taken_elses.unit taken_elses.right taken_elses.wrong

abbrev pub BothOperandsAreRefused : Type 0
BothOperandsAreRefused = IsRefused both_operands.unit both_operands.right both_operands.wrong
