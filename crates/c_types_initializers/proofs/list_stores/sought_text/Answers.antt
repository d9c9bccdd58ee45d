use Rattle.std.proofs.Common.{◌∙◌, sym}
use Rattle.c_types_scopes.specs.Known.{known}
use Rattle.c_types_initializers.specs.Subobjects.{cursor_view}
use Rattle.c_types_initializers.specs.ListStores.{takes_text}
use Rattle.c_types_initializers.proofs.Seeking.{nowhere, here, inside}
use Rattle.c_types_initializers.proofs.list_stores.sought_text.Goals as goal

pub returns-in_default : goal.returns-in_default
returns-in_default c = nowhere (known c.args.cx.now) takes_text 4294967295 c.loop-level._level (cursor_view c.args.cursor.now) (cursor_view c.loop-level.cursor) (cursor_view c.next.new.self) c.in_ok-subobject.field-0 c.loop-level-test.true c.loop-level.invariant c.in_ok-subobject.ensures c.in_default.is

pub returns-then-takes_text : goal.returns-then-takes_text
returns-then-takes_text c = here (known c.args.cx.now) takes_text 4294967295 c.loop-level._level (cursor_view c.args.cursor.now) (cursor_view c.loop-level.cursor) (cursor_view c.next.new.self) c.in_ok-subobject.field-0 c.in-Some.subobject c.loop-level-test.true c.loop-level.invariant c.in_ok-subobject.ensures c.in-Some.is (sym c.takes_text.ensures ∙ c.if-takes_text.true)

pub loop-level-preserved : goal.loop-level-preserved
loop-level-preserved c = inside (known c.args.cx.now) takes_text 4294967295 c.loop-level._level (cursor_view c.args.cursor.now) (cursor_view c.loop-level.cursor) (cursor_view c.next.new.self) (cursor_view c.enter.new.self) c.in_ok-subobject.field-0 c.in-Some.subobject c.loop-level-test.true c.loop-level.invariant c.in_ok-subobject.ensures c.in-Some.is (sym c.takes_text.ensures ∙ c.if-takes_text.false) c.in_ok-enter.ensures
