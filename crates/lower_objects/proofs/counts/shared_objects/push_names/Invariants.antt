use Rattle.std.proofs.Common.{◌≡◌, ◌++◌, map, drop}
use Rattle.lower_templates.specs.Worklist.Pieces.{name_view}
use Rattle.lower_objects.specs.Counts.SharedObjects.{bases_named}
use Rattle.lower_objects.proofs.counts.shared_objects.push_names.Given as goal

abbrev pub invariant-loop-name : goal.invariant-loop-name
invariant-loop-name l = l.list.items ++ bases_named (map name_view (drop l.name-index l.names)) ≡ l.initial.list.items ++ bases_named (map name_view l.names)
