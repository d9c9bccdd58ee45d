use Rattle.std.proofs.Common.{ap}
use Rattle.interp_memory.specs.ByteViews.{content_view, scalar_view}
use Rattle.interp_memory.specs.InstanceViews.{Instances}
use Rattle.interp_accesses.specs.WorldViews.{world_view}
use Rattle.interp_accesses.proofs.Made.{allocation_made}
use Rattle.interp_accesses.proofs.allocation_calls.make.Goals as goal

pub returns-in-Ok : goal.returns-in-Ok
returns-in-Ok c =
    allocation_made (world_view c.args.w.now) c.args.w.now.memory.model (content_view c.args.content) c.args.size c.in-Ok.inst c.enter.new.self.memory c.fill.new.self.memory (scalar_view c.whole_of.result)
    c.in-Ok.ensures.number
    (ap (λ (it : Instances). it.memory) c.in-Ok.ensures.made)
    (ap (λ (it : Instances). it.memory) c.fill.ensures)
    c.whole_of.ensures
