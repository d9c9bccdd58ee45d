use Rattle.std.proofs.Common.{◌≡◌, map, drop}
use Rattle.c_layout.specs.Types.{view}
use Rattle.c_types_scopes.specs.DeclaredTypes.{each_same}
use Rattle.c_types_scopes.proofs.declared_types.each_same.Given as goal

abbrev pub invariant-loop-i : goal.invariant-loop-i
invariant-loop-i l = each_same (map view (drop l.i l.left)) (map view (drop l.i l.right)) ≡ each_same (map view l.left) (map view l.right)
