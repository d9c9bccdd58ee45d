use Rattle.std.proofs.Common.{◌≡◌, drop}
use Rattle.lower_objects.specs.Shapes.HeapBases.{are_single}
use Rattle.lower_objects.proofs.shapes.shapes_of_bases.are_single.Given as goal

abbrev pub invariant-loop-leaf : goal.invariant-loop-leaf
invariant-loop-leaf l = are_single (drop l.leaf-index l.found) ≡ are_single l.found
