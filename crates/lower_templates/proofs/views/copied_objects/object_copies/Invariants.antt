use Rattle.std.proofs.Common.{◌≡◌, ◌++◌, map, drop}
use Rattle.lower_templates.specs.Views.ProgramViews.{initial}
use Rattle.lower_templates.proofs.views.copied_objects.object_copies.Given as goal

abbrev pub invariant-loop-object : goal.invariant-loop-object
invariant-loop-object l = map initial l.list.items ++ map initial (drop l.object-index l.objects) ≡ map initial l.objects
