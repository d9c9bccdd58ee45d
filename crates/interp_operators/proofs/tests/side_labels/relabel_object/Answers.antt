use Rattle.std.proofs.Common.{sym, ap, ◌∙◌}
use Rattle.memory_model.specs.Memory.Instances.{bytes_at}
use Rattle.memory_model.specs.Effects.Worlds.{with_memory}
use Rattle.memory_model.specs.Effects.ScalarBytes.{contents, refilled}
use Rattle.memory_model.specs.Effects.Touches.{set_bytes}
use Rattle.memory_model.specs.Effects.Tests as machine
use Rattle.interp_memory.specs.ByteViews.{contents_view}
use Rattle.interp_memory.specs.InstanceViews.{Instances}
use Rattle.interp_accesses.specs.WorldViews.{world_view}
use Rattle.interp_operators.specs.Tests.Droppings.{dropping}
use Rattle.interp_operators.proofs.tests.Relabelled.{filled_relabelled}
use Rattle.interp_operators.proofs.tests.side_labels.relabel_object.Goals as goal

pub returns-in-Ok : goal.returns-in-Ok
returns-in-Ok c =
    let w = world_view c.args.w.now in
    let i = c.args.inst in
    let f = dropping c.args.drops in
    let old = bytes_at w.memory i in
    sym
    (ap (λ (it : Instances). with_memory w it.memory) c.rewrite.ensures
    ∙ ap (λ cs. with_memory w (set_bytes w.memory i (refilled old 0 cs)))
    (ap contents_view c.deref.ensures.value
    ∙ c.in-Ok.ensures
    ∙ ap (λ bs. contents (machine.all_relabelled f bs)) c.object_bytes-bytes.ensures.bytes)
    ∙ ap (λ bs. with_memory w (set_bytes w.memory i bs)) (filled_relabelled f (machine.scalar_size c.args.model.now c.args.kind) old))
