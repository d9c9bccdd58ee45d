-- What the theorems on sound copies of structs say.
use Rattle.cc_base.specs.Lattices.{LatticeOf}
use Rattle.cc_base.specs.IntegerDomains.{IntegersOf}
use Rattle.std.specs.Prelude.{ℤ, List}
use Rattle.struct_copies_sound.specs.Cells.LeafWrites.{LeafWritesStand}
use Rattle.cc_base.specs.IntegerLaws.{SoundLaws}
use Rattle.cfg.specs.declared.programs.Flow.{Flow}
use Rattle.struct_copies_sound.specs.Copies.CopySteps.{CopiesAreSound}
use Rattle.c_layout.specs.declared.data_model.Model.{Model}
use Rattle.c_layout.specs.declared.shapes.BaseInfo.{BaseInfo}
use Rattle.store_sound.specs.Operations.Shapes.{AreShaped}
use Rattle.struct_copies_sound.specs.Memory.CopiedMemory.{CopyKeeps}
use Rattle.struct_copies_sound.specs.Memory.CopiedZeros.{CopiedZerosStand}
use Rattle.struct_copies_sound.specs.Spans.SpanBytes.{SpansSee}
pub use Rattle.struct_copies_sound.specs.OrderedStructs.OrderedPrograms.{AreNumbered, HaveStructs}
pub use Rattle.struct_copies_sound.specs.OrderedStructs.MadeTables.{MakesOrdered}
pub use Rattle.struct_copies_sound.specs.Structs.StructTables.{MeetsStructs}
pub use Rattle.struct_copies_sound.specs.Structs.LostLeaves.{LosesLeaf}

module _ {I : Type 0} (l : LatticeOf I) (n : IntegersOf I) (stands : I → ℤ → Type 0) where
  abbrev pub LeafWritesStandEverywhere : Type 0
  LeafWritesStandEverywhere = LeafWritesStand l n stands

  abbrev pub CopiesAreSoundEverywhere : Type 0
  CopiesAreSoundEverywhere = (flow : Flow) → SoundLaws l n stands → CopiesAreSound l n stands flow

  abbrev pub CopiedZerosStandEverywhere : Type 0
  CopiedZerosStandEverywhere = CopiedZerosStand l n stands

abbrev pub CopiesKeepMemory : Type 0
CopiesKeepMemory = (m : Model) (bases : List BaseInfo) → AreShaped bases → CopyKeeps m bases

abbrev pub SpansSeeBytes : Type 0
SpansSeeBytes = (m : Model) → SpansSee m
