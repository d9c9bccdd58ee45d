use Rattle.std.proofs.Common.{◌∙◌, sym}
use Rattle.c_types_scopes.specs.Known.{known}
use Rattle.c_types_operands.specs.Operands.{operand_view}
use Rattle.c_types_initializers.specs.Subobjects.{cursor_view}
use Rattle.c_types_initializers.specs.ListStores.{takes_value}
use Rattle.c_types_initializers.proofs.Seeking.{nowhere, here, inside}
use Rattle.c_types_initializers.proofs.list_stores.sought.Goals as goal

pub returns-in_default : goal.returns-in_default
returns-in_default c = nowhere (known c.args.cx.now) (takes_value (operand_view c.args.operand.now)) 4294967295 c.loop-level._level (cursor_view c.args.cursor.now) (cursor_view c.loop-level.cursor) (cursor_view c.next.new.self) c.in_ok-subobject.field-0 c.loop-level-test.true c.loop-level.invariant c.in_ok-subobject.ensures c.in_default.is

pub returns-then-takes_value : goal.returns-then-takes_value
returns-then-takes_value c = here (known c.args.cx.now) (takes_value (operand_view c.args.operand.now)) 4294967295 c.loop-level._level (cursor_view c.args.cursor.now) (cursor_view c.loop-level.cursor) (cursor_view c.next.new.self) c.in_ok-subobject.field-0 c.in-Some.subobject c.loop-level-test.true c.loop-level.invariant c.in_ok-subobject.ensures c.in-Some.is (sym c.takes_value.ensures ∙ c.if-takes_value.true)

pub loop-level-preserved : goal.loop-level-preserved
loop-level-preserved c = inside (known c.args.cx.now) (takes_value (operand_view c.args.operand.now)) 4294967295 c.loop-level._level (cursor_view c.args.cursor.now) (cursor_view c.loop-level.cursor) (cursor_view c.next.new.self) (cursor_view c.enter.new.self) c.in_ok-subobject.field-0 c.in-Some.subobject c.loop-level-test.true c.loop-level.invariant c.in_ok-subobject.ensures c.in-Some.is (sym c.takes_value.ensures ∙ c.if-takes_value.false) c.in_ok-enter.ensures
