use Rattle.std.proofs.Common.{◌≡◌}
use Rattle.c_types_scopes.specs.Known.{known}
use Rattle.c_types_initializers.specs.Subobjects.{cursor_view, next}
use Rattle.c_types_initializers.proofs.subobjects.Cursor.next.Given as goal

abbrev pub invariant-loop-level : goal.invariant-loop-level
invariant-loop-level l = next (known l.cx) (cursor_view l.self) ≡ next (known l.cx) (cursor_view l.fn.self)
