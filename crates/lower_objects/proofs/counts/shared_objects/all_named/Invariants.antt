use Rattle.std.proofs.Common.{◌≡◌, ◌++◌, map, drop}
use Rattle.std.specs.Option.{option_map}
use Rattle.lower_templates.specs.Worklist.Pieces.{template_view}
use Rattle.lower_objects.specs.Counts.SharedObjects.{all_bases}
use Rattle.lower_objects.proofs.counts.shared_objects.all_named.Given as goal

abbrev pub invariant-loop-template : goal.invariant-loop-template
invariant-loop-template l = l.list.items ++ all_bases (map (option_map template_view) (drop l.template-index l.templates)) ≡ all_bases (map (option_map template_view) l.templates)
