use Rattle.std.proofs.Common.{sym, ap, ◌∙◌}
use Rattle.memory_model.specs.Effects.Worlds.{with_memory}
use Rattle.memory_model.specs.Effects.MemoryCalls.{with_contents}
use Rattle.interp_memory.specs.ByteViews.{contents_view}
use Rattle.interp_memory.specs.InstanceViews.{Instances}
use Rattle.interp_accesses.specs.WorldViews.{world_view}
use Rattle.interp_accesses.specs.Reaches.{reach_view}
use Rattle.interp_accesses.proofs.Made.{contents_repeated}
use Rattle.interp_accesses.proofs.memory_calls.write_all.Goals as goal

pub returns-in-Ok : goal.returns-in-Ok
returns-in-Ok c =
    let w = world_view c.args.w.now in
    sym
    (ap (λ (it : Instances). with_memory w it.memory) c.rewrite.ensures
    ∙ ap (with_contents w (reach_view c.args.to)) (ap contents_view (c.deref.ensures.value ∙ c.in-Ok.ensures) ∙ contents_repeated c.args.size c.args.content))
