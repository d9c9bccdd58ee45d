-- The first bytes of an object of static storage are the stores of its initializer over these bytes all cleared.
use Rattle.std.specs.Prelude.{◌≡◌}
use Rattle.c_layout.specs.CheckedUnits.{StaticView, UnitView}
use Rattle.memory_model.specs.Memory.Labels.{no_labels}
use Rattle.memory_model.specs.Memory.Bytes.{number}
use Rattle.memory_model.specs.Effects.ObjectEffects.{all_of}
use Rattle.memory_model.specs.Effects.UnitStarts.{all_stored, static_instance}

abbrev pub StaticBytesAreStored : UnitView → Type 0
StaticBytesAreStored u = (o : StaticView) → (static_instance u o).bytes ≡ all_stored u o.stores (all_of (number 0 no_labels) (static_instance u o).bytes)
