use Rattle.std.proofs.Common.{◌≡◌, drop}
use Rattle.lower_preconditions.specs.Units.ScopeObjects.{all_marked}
use Rattle.lower_preconditions.proofs.units.scope_objects.mark_all.Given as goal

abbrev pub invariant-loop-object : goal.invariant-loop-object
invariant-loop-object l = all_marked (drop l.object-index l.objects) l.seen.items ≡ all_marked l.objects l.initial.seen.items
