use Rattle.std.proofs.Common.{drop}
use Rattle.memory_model.specs.Memory.Instances.{bytes_at}
use Rattle.interp_library.proofs.strings.Texts.{padded_items}
use Rattle.interp_library.proofs.strings.padded_copies.padded.Goals as goal

pub returns : goal.returns
returns c =
    padded_items c.extend_from_slice.new.self.items c.in_ok-text.text.items _ _
    (drop c.args.from.spot.offset (bytes_at c.args.w.now.memory.memory c.args.from.spot.inst))
    c.args.characters _ _ _
    c.in_ok-extend_from_slice.ensures.items
    c.deref.ensures.value
    c.in_ok-zeros.ensures
    c.saturating_sub.ensures
    c.zero.ensures
    c.in_ok-text.ensures
