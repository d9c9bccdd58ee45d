use Rattle.std.proofs.Common.{◌≡◌, ◌++◌, map, drop}
use Rattle.c_layout.specs.CheckedUnits.{static_view}
use Rattle.c_types_scopes.specs.Known.{known}
use Rattle.c_types_statement_rules.specs.Objects.UnitObjects.{object_size}
use Rattle.c_types_statement_rules.proofs.objects.unit_objects.object_sizes.Given as goal

abbrev pub invariant-loop-object : goal.invariant-loop-object
invariant-loop-object l = l.sizes.items ++ map (object_size (known l.cx)) (map static_view (drop l.object-index l.cx.statics.items)) ≡ map (object_size (known l.cx)) (map static_view l.cx.statics.items)
