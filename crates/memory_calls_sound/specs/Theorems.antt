-- What the theorems on sound calls on memory say.
use Rattle.cc_base.specs.Lattices.{LatticeOf}
use Rattle.cc_base.specs.IntegerDomains.{IntegersOf}
use Rattle.std.specs.Prelude.{ℤ}
use Rattle.cc_base.specs.IntegerLaws.{SoundLaws}
use Rattle.cfg.specs.declared.programs.Flow.{Flow}
use Rattle.memory_calls_sound.specs.Allocations.AllocationCalls.{AllocationCallsAreSound}
use Rattle.memory_calls_sound.specs.Frees.FreeCalls.{FreeCallsAreSound}
use Rattle.memory_calls_sound.specs.Moves.CopyCalls.{CopyCallsAreSound}
use Rattle.memory_calls_sound.specs.Reallocations.ReallocationCalls.{ReallocationCallsAreSound}

module _ {I : Type 0} (l : LatticeOf I) (n : IntegersOf I) (stands : I → ℤ → Type 0) where
  abbrev pub AllocationCallsAreSoundEverywhere : Type 0
  AllocationCallsAreSoundEverywhere = (flow : Flow) → SoundLaws l n stands → AllocationCallsAreSound l n stands flow

  abbrev pub FreeCallsAreSoundEverywhere : Type 0
  FreeCallsAreSoundEverywhere = (flow : Flow) → SoundLaws l n stands → FreeCallsAreSound l n stands flow

  abbrev pub CopyCallsAreSoundEverywhere : Type 0
  CopyCallsAreSoundEverywhere = (flow : Flow) → SoundLaws l n stands → CopyCallsAreSound l n stands flow

  abbrev pub ReallocationCallsAreSoundEverywhere : Type 0
  ReallocationCallsAreSoundEverywhere = (flow : Flow) → SoundLaws l n stands → ReallocationCallsAreSound l n stands flow
