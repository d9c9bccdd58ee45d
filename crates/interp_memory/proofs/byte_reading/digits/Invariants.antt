use Rattle.std.proofs.Common.{◌≡◌, ◌<◌, ◌≤◌, ◌-◌, ◌^◌, Some, length}
use Rattle.memory_model.specs.Effects.Accesses.{numbers_in}
use Rattle.interp_memory.specs.ByteViews.{labels_view}
use Rattle.interp_memory.specs.Digits.{digits_of}
use Rattle.interp_memory.proofs.DigitSteps.{contents_from}
use Rattle.interp_memory.proofs.byte_reading.digits.Given as goal

abbrev pub invariant-loop-at : goal.invariant-loop-at
invariant-loop-at l = (Some (l.number, labels_view l.labels) ≡ digits_of (numbers_in (contents_from l.bytes l.at))) × (l.number < 256 ^ (length l.bytes - l.at)) × (l.at ≤ length l.bytes)
