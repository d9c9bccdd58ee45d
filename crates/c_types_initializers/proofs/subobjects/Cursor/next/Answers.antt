use Rattle.std.proofs.Common.{◌∙◌, sym, ap, length, arith}
use Rattle.c_types_scopes.specs.Known.{known}
use Rattle.c_types_initializers.specs.Subobjects.{cursor_view}
use Rattle.c_types_initializers.proofs.Cursors.{found, ended, left}
use Rattle.c_types_initializers.proofs.subobjects.Cursor.next.Goals as goal

pub returns-then-is_some : goal.returns-then-is_some
returns-then-is_some c = found (known c.args.cx.now) (cursor_view c.args.self.now) (cursor_view c.loop-level.self) (cursor_view c.step.new.self) c.in_ok-next.next c.loop-level.invariant c.in_ok-next.ensures (sym c.is_some.ensures ∙ c.if-is_some.true)

pub returns-then-as_slice-le1 : goal.returns-then-as_slice-le1
returns-then-as_slice-le1 c = ended (known c.args.cx.now) (cursor_view c.args.self.now) (cursor_view c.loop-level.self) c.step.new.self.«open».items c.in_ok-next.next c.loop-level.invariant c.in_ok-next.ensures (sym c.is_some.ensures ∙ c.if-is_some.false) (omega (arith, c.if-as_slice-le1.true, ap length c.as_slice.ensures.value))

pub loop-level-preserved : goal.loop-level-preserved
loop-level-preserved c = left (known c.args.cx.now) (cursor_view c.args.self.now) (cursor_view c.loop-level.self) (cursor_view c.leave.new.self) c.step.new.self.«open».items c.in_ok-next.next c.loop-level.invariant c.in_ok-next.ensures (sym c.is_some.ensures ∙ c.if-is_some.false) (omega (arith, c.if-as_slice-le1.false, ap length c.as_slice.ensures.value)) c.leave.ensures
