use Rattle.std.proofs.Common.{◌≡◌, ◌++◌, map, drop}
use Rattle.c_layout.specs.Types.{view}
use Rattle.c_types_scopes.proofs.declared_types.copied_types.Given as goal

abbrev pub invariant-loop-t : goal.invariant-loop-t
invariant-loop-t l = map view l.made.items ++ map view (drop l.t-index l.types) ≡ map view l.types
