use Rattle.std.proofs.Common.{ap, ◌∙◌}
use Rattle.interp_memory.specs.ByteViews.{bytes_view}
use Rattle.interp_memory.proofs.ByteSteps.{replaced_view}
use Rattle.interp_memory.proofs.byte_writing.overwrite.Goals as goal

pub returns : goal.returns
returns c = ap bytes_view c.copy_over.ensures ∙ replaced_view c.args.bytes.now c.args.offset c.args.new.now
