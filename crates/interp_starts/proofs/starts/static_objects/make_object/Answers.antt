use Rattle.std.proofs.Common.{map, ap, sym, ◌∙◌}
use Rattle.c_layout.specs.Types.{view}
use Rattle.c_layout.specs.CheckedUnits.{unit_view, static_store_view}
use Rattle.memory_model.specs.Memory.Bytes.{number}
use Rattle.memory_model.specs.Memory.Labels.{no_labels}
use Rattle.memory_model.specs.Memory.Instances.{static}
use Rattle.memory_model.specs.Effects.ObjectEffects.{all_of}
use Rattle.memory_model.specs.Effects.UnitStarts.{typed_bytes}
use Rattle.interp_accesses.specs.WorldViews.{world_view}
use Rattle.interp_starts.specs.Starts.Rewrites.{stores_put}
use Rattle.interp_starts.proofs.starts.LastInstances.{object_put}
use Rattle.interp_starts.proofs.starts.static_objects.make_object.Goals as goal

pub returns : goal.returns
returns c =
    let u = unit_view c.args.unit.now in
    object_put u (map static_store_view c.args.object.now.stores.items) static (all_of (number 0 no_labels) (typed_bytes u (view c.args.object.now.ctype))) c.in_ok-inst.inst (world_view c.args.w.now) (world_view c.make_zeros.new.w) (world_view c.put_stores.new.w)
    c.in_ok-inst.ensures
    (ap (λ xs. stores_put u (map static_store_view xs) c.in_ok-inst.inst (world_view c.make_zeros.new.w)) (sym c.deref.ensures.value) ∙ c.in_ok-put_stores.ensures)
