use Rattle.std.proofs.Common.{ap}
use Rattle.memory_model.specs.Memory.Instances.{automatic}
use Rattle.memory_model.specs.Effects.ObjectEffects.{blank_bytes}
use Rattle.memory_model.specs.Effects.ScalarBytes.{scalar_bytes}
use Rattle.interp_memory.specs.ByteViews.{scalar_view}
use Rattle.interp_memory.specs.InstanceViews.{Instances}
use Rattle.interp_accesses.specs.WorldViews.{world_view}
use Rattle.interp_starts.proofs.starts.LastInstances.{made_refilled}
use Rattle.interp_starts.proofs.starts.static_objects.make_input.Goals as goal

pub returns : goal.returns
returns c =
    made_refilled automatic (blank_bytes c.args.w.now.memory.model c.args.leaves.now 0 c.args.size) (scalar_bytes c.args.bytes (scalar_view c.args.value.now)) c.in_ok-inst.inst (world_view c.args.w.now) (world_view c.enter.new.w) c.put_scalar.new.memory.memory
    c.in_ok-inst.ensures
    (ap (λ (it : Instances). it.memory) c.in_ok-put_scalar.ensures)
