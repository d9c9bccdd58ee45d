use Rattle.std.proofs.Common.{◌≡◌, map, drop}
use Rattle.c_layout.specs.CheckedUnits.{unit_view, static_view}
use Rattle.interp_accesses.specs.WorldViews.{world_view}
use Rattle.interp_starts.specs.Starts.Rewrites.{objects_made}
use Rattle.interp_starts.proofs.inputs.start_worlds.with_objects.Given as goal

abbrev pub invariant-loop-object : goal.invariant-loop-object
invariant-loop-object l = objects_made (unit_view l.unit) (map static_view (drop l.object-index l.objects)) (world_view l.w) ≡ objects_made (unit_view l.unit) (map static_view l.objects) (world_view l.initial.w)
