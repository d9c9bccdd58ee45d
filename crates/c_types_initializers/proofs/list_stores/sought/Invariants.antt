use Rattle.std.proofs.Common.{◌≡◌, ◌-◌}
use Rattle.c_types_scopes.specs.Known.{known}
use Rattle.c_types_operands.specs.Operands.{operand_view}
use Rattle.c_types_initializers.specs.Subobjects.{cursor_view}
use Rattle.c_types_initializers.specs.ListStores.{sought_within, takes_value}
use Rattle.c_types_initializers.proofs.list_stores.sought.Given as goal

abbrev pub invariant-loop-level : goal.invariant-loop-level
invariant-loop-level l = sought_within (4294967295 - l._level) (known l.cx) (takes_value (operand_view l.operand)) (cursor_view l.cursor) ≡ sought_within 4294967295 (known l.cx) (takes_value (operand_view l.operand)) (cursor_view l.fn.cursor)
