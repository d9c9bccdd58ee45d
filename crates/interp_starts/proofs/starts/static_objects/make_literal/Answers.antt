use Rattle.std.proofs.Common.{take, ap, ◌∙◌}
use Rattle.memory_model.specs.Memory.Instances.{bytes_at}
use Rattle.memory_model.specs.Effects.ScalarBytes.{refilled}
use Rattle.memory_model.specs.Effects.Touches.{set_bytes}
use Rattle.interp_memory.specs.InstanceViews.{Instances}
use Rattle.interp_accesses.specs.WorldViews.{world_view}
use Rattle.interp_starts.proofs.starts.Literals.{spelled, literal_put}
use Rattle.interp_starts.proofs.starts.static_objects.make_literal.Goals as goal

pub returns : goal.returns
returns c =
    let memory = c.enter.new.w.memory.memory in
    literal_put c.args.w.now.memory.model c.args.literal.now.bytes c.literal_size-size.result c.in_ok-inst.inst (world_view c.args.w.now) (world_view c.enter.new.w) c.spell_in.new.memory.memory
    c.literal_size-size.ensures
    c.in_ok-inst.ensures
    (ap (λ (it : Instances). it.memory) c.in_ok-spell_in.ensures
    ∙ ap (λ text. set_bytes memory c.in_ok-inst.inst (refilled (bytes_at memory c.in_ok-inst.inst) 0 (take c.literal_size-size.result (spelled text)))) c.as_bytes.ensures)
