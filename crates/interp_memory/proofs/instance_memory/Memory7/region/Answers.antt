use Rattle.std.proofs.Common.{ap, ◌∙◌}
use Rattle.memory_model.specs.Effects.ScalarBytes.{region}
use Rattle.interp_memory.proofs.ByteSteps.{region_same}
use Rattle.interp_memory.proofs.instance_memory.Memory7.region.Goals as goal

pub returns-clause-bytes : goal.returns-clause-bytes
returns-clause-bytes c =
    region_same c.bytes-bytes.result.now c.args.at.offset c.args.size c.min-from.result c.min-count.result c.min-from.ensures c.min-count.ensures
    ∙ ap (λ bs. region bs c.args.at.offset c.args.size) c.bytes-bytes.ensures
