-- Numbers that bytes are, with their labels.
use Rattle.std.specs.Prelude.{ℕ, List, Option, option_map}
use Rattle.memory_model.specs.Memory.Labels.{Labels}
use Rattle.memory_model.specs.Memory.Numbers.{Labelled, unsigned_of}
use Rattle.memory_model.specs.Effects.Accesses.{joined_labels}
use Rattle.interp_memory.specs.ByteViews.{labels_view}
use Rattle.interp_memory.specs.declared.byte_reading.UnsignedNumber.{UnsignedNumber}

abbrev pub digits_view : UnsignedNumber → ℕ × Labels
digits_view d = (d.number, labels_view d.labels)

-- the unsigned number and the union of the labels
abbrev pub digits_of : Option (List Labelled) → Option (ℕ × Labels)
digits_of ns = option_map (λ ns. (unsigned_of ns, joined_labels ns)) ns
