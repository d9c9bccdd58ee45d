-- Rows that say nothing: each base has the greatest cells.
use Rattle.std.specs.Prelude.{◌≡◌, ◌<◌, ℕ, ℤ, true, Option, Some, List, length, slice_get}
use Rattle.cc_base.specs.Lattices.{LatticeOf}
use Rattle.cc_base.specs.IntegerDomains.{IntegersOf}
use Rattle.c_layout.specs.declared.shapes.BaseInfo.{BaseInfo}
use Rattle.cfg.specs.declared.programs.Flow.{Flow}
use Rattle.pointer_domain.specs.declared.base_sets.Bases.{Bases}
use Rattle.pointer_domain.specs.BaseSets.{bases_has}
use Rattle.value_domain.specs.declared.values.row_cells.Cell.{Cell}
use Rattle.store_monotone.specs.Operations.Placements.{IsPlaced}
use Rattle.memory_model.specs.Memory.Instances.{Memory}
use Rattle.memory_model.specs.Effects.NumberedTables.{empty_table}
use Rattle.store_sound.specs.Concretization.ValueMeaning.{Naming}
use Rattle.store_sound.specs.Concretization.SoundMemory.{IsMemoryOf, AreEntered}
use Rattle.store_sound.specs.Concretization.RowMeaning.{InGamma}

module _ {I : Type 0} (l : LatticeOf I) (n : IntegersOf I) (gamma : I → ℤ → Type 0) (flow : Flow) where
  -- each base has the greatest cells, and pointers may be to all bases
  pub record IsGreatest (all : Bases) (row : List (Cell I)) : Type 0 where
    pub every : (b : ℕ) → b < length flow.bases.items → bases_has all b ≡ true
    pub cells : (b : ℕ) (base : BaseInfo) → slice_get flow.bases.items b ≡ Some base → IsPlaced n all row base

  -- whatever the bytes are, where the temporaries have nothing
  abbrev pub GreatestRowsStand : Type 0
  GreatestRowsStand = (all : Bases) (row : List (Cell I)) → IsGreatest all row → (naming : Naming) (memory : Memory) (entered : ℕ → Option ℕ) → IsMemoryOf flow.model flow.bases.items naming memory → AreEntered flow.bases.items naming memory entered
      → InGamma l n gamma flow naming row (record { memory = memory; temps = empty_table; entered = entered })
