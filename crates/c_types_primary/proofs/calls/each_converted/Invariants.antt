use Rattle.std.proofs.Common.{◌≡◌, map, length}
use Rattle.std.specs.Vec.Iter.{into_iter_items, into_iter_len}
use Rattle.c_layout.specs.Types.{view}
use Rattle.c_types_scopes.specs.Known.{known}
use Rattle.c_types_operands.specs.Operands.{operand_view}
use Rattle.c_types_primary.specs.Lists.{behind}
use Rattle.c_types_primary.specs.Calls.{each_converted, terms_view}
use Rattle.c_types_primary.proofs.calls.each_converted.Given as goal

abbrev pub invariant-loop-argument : goal.invariant-loop-argument
invariant-loop-argument l =
    (behind (terms_view l.made) (each_converted (known l.cx) l.place (map operand_view (into_iter_items l.argument-iterator)) (map view l.rest))
    ≡ each_converted (known l.cx) l.place (map operand_view l.fn.arguments.items) (map view l.parameters))
    × (into_iter_len l.argument-iterator ≡ length (into_iter_items l.argument-iterator))
