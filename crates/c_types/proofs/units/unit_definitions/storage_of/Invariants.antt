use Rattle.std.proofs.Common.{◌≡◌, map, drop, None}
use Rattle.c_layout.specs.DeclarationTrees.{spec_tree}
use Rattle.c_types.specs.Units.UnitDefinitions.{last_storage}
use Rattle.c_types.proofs.units.unit_definitions.storage_of.Given as goal

abbrev pub invariant-loop-word : goal.invariant-loop-word
invariant-loop-word l = last_storage (map spec_tree (drop l.word-index l.words)) l.found ≡ last_storage (map spec_tree l.words) None
