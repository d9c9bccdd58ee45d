use Rattle.std.proofs.Common.{◌≡◌, take}
use Rattle.memory_model.specs.Effects.ScalarBytes.{contents}
use Rattle.memory_model.specs.Effects.Tests.{all_relabelled}
use Rattle.interp_memory.specs.ByteViews.{bytes_view, contents_view}
use Rattle.interp_operators.specs.Tests.Droppings.{dropping}
use Rattle.interp_operators.proofs.tests.side_labels.relabelled_contents.Given as goal

abbrev pub invariant-loop-byte : goal.invariant-loop-byte
invariant-loop-byte l = contents_view l.all.items ≡ contents (all_relabelled (dropping l.drops) (bytes_view (take l.byte-index l.bytes)))
