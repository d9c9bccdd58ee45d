use Rattle.std.proofs.Common.{ap, ◌∙◌}
use Rattle.memory_model.specs.Memory.Bytes.{number}
use Rattle.memory_model.specs.Memory.Labels.{no_labels}
use Rattle.memory_model.specs.Memory.Instances.{static, bytes_at}
use Rattle.memory_model.specs.Effects.ObjectEffects.{blank_bytes, all_of}
use Rattle.memory_model.specs.Effects.Touches.{set_bytes}
use Rattle.interp_memory.specs.InstanceViews.{Instances}
use Rattle.interp_accesses.specs.WorldViews.{world_view}
use Rattle.interp_starts.proofs.starts.LastInstances.{made_filled}
use Rattle.interp_starts.proofs.starts.static_objects.enter_zeros.Goals as goal

pub returns : goal.returns
returns c =
    made_filled static (number 0 no_labels) (blank_bytes c.args.w.now.memory.model c.args.leaves.now 0 c.args.size) c.in_ok-inst.inst (world_view c.args.w.now) (world_view c.enter.new.w) c.fill.new.self.memory
    c.in_ok-inst.ensures
    (ap (λ (it : Instances). it.memory) c.fill.ensures
    ∙ ap (λ labels. set_bytes c.enter.new.w.memory.memory c.in_ok-inst.inst (all_of (number 0 labels) (bytes_at c.enter.new.w.memory.memory c.in_ok-inst.inst))) c.unlabelled.ensures)
