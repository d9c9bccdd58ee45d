-- What operations do to values whose marks they ask for, and to memory.
use Rattle.std.specs.Prelude.{◌≡◌, ℕ, Option, List, ◌∷◌, [], ◌++◌}
use Rattle.c_layout.specs.CheckedUnits.{UnitView}
use Rattle.memory_model.specs.Memory.Instances.{Memory}
use Rattle.memory_model.specs.Memory.Scalars.{Scalar}
use Rattle.memory_model.specs.Effects.Worlds.{World, Reply, goes, stops}
use Rattle.memory_model.specs.Effects.LibraryCalls.{fgets}
use Rattle.semantics.specs.SourceMachine.Operations.{Operation, perform}
use Rattle.source_items.specs.Operations.GoingReplies.{IsDefined}
use Rattle.source_preservation.specs.ValueTyping.Marks.{Mark, Ranged, Pointing, Has, AreWellTyped}
use Rattle.source_preservation.specs.ValueTyping.ProperMemory.{IsProperMemory, Evolves}
use Rattle.source_preservation.specs.ValueTyping.MarkOperations.{MarkOperates}
use Rattle.cc_base.specs.declared.int_types.IntType.{IntType}

-- where a reply goes on it gives something such, and where it stops it is not stuck
abbrev pub Comes : {A : Type 0} → (A → World → Type 0) → Reply A → Type 0
Comes P (goes x w) = P x w
Comes P (stops why w) = IsDefined why

-- values of the marks that are to be given stand on the rest, and memory has evolved
pub record Leaves (u : UnitView) (names : ℕ → Option ℕ) (before : Memory) (after : List Mark) (rest values : List Scalar) (w : World) : Type 0 where
  pub own : List Scalar
  pub is : values ≡ own ++ rest
  pub well_typed : AreWellTyped u.model names w.memory after own
  pub evolves : Evolves u.model before w.memory

-- an operation on values of the marks that it takes has a step, and gives those that it is to give
abbrev pub OperationsKeepMarks : Type 0
OperationsKeepMarks = (u : UnitView) (names : ℕ → Option ℕ) (operation : Operation) (before after : List Mark) (own rest : List Scalar) (w : World) → IsProperMemory u.model w.memory → MarkOperates u.model operation before after → AreWellTyped u.model names w.memory before own → Comes (Leaves u names w.memory after rest) (perform u operation (own ++ rest) w)

-- a line is read into memory, and the pointer to it or null is given
abbrev pub LinesKeepMarks : Type 0
LinesKeepMarks = (u : UnitView) (names : ℕ → Option ℕ) (kind : IntType) (text count stream : Scalar) (w : World) → IsProperMemory u.model w.memory → Has u.model names w.memory Pointing text → Has u.model names w.memory (Ranged kind) count → Has u.model names w.memory Pointing stream → Comes (λ v after. Has u.model names after.memory Pointing v × Evolves u.model w.memory after.memory) (fgets u.model (text ∷ (count ∷ (stream ∷ []))) w)
