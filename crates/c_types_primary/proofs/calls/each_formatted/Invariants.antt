use Rattle.std.proofs.Common.{◌≡◌, map, length}
use Rattle.std.specs.Vec.Iter.{into_iter_items, into_iter_len}
use Rattle.c_types_scopes.specs.Known.{known}
use Rattle.c_types_operands.specs.Operands.{operand_view}
use Rattle.c_types_primary.specs.Lists.{behind}
use Rattle.c_types_primary.specs.Calls.{each_formatted, terms_view}
use Rattle.c_types_primary.proofs.calls.each_formatted.Given as goal

abbrev pub invariant-loop-argument : goal.invariant-loop-argument
invariant-loop-argument l =
    (behind (terms_view l.made) (each_formatted (known l.cx) l.place l.rest (map operand_view (into_iter_items l.argument-iterator)))
    ≡ behind (terms_view l.fn.first) (each_formatted (known l.cx) l.place l.wanted (map operand_view l.fn.arguments.items)))
    × (into_iter_len l.argument-iterator ≡ length (into_iter_items l.argument-iterator))
