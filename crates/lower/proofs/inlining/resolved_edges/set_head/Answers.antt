use Rattle.std.proofs.Common.{◌<◌, length, refl, arith}
use Rattle.std.proofs.lemmas.Grind.{common_steps}
use Rattle.std.proofs.lemmas.Option.{slice_get_read}
use Rattle.lower.proofs.inlining.Heads.{head_at}
use Rattle.lower.proofs.inlining.resolved_edges.set_head.Goals as goal

pub returns-then-number-len : goal.returns-then-number-len
returns-then-number-len c =
    let within : c.args.number < length c.args.blocks.now.items = grind (arith, common_steps) in
    head_at c.args.blocks.now.items c.args.number c.index_mut.result.now (slice_get_read c.args.blocks.now.items (length c.args.blocks.now.items) c.args.number c.index_mut.result.now refl within c.index_mut.ensures.value)
