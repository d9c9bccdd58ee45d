-- Plain units: those that pass looks that compute.
use Rattle.std.specs.Prelude.{◌≡◌, ◌⊎◌, true}
use Rattle.c_layout.specs.CheckedUnits.{UnitView}
use Rattle.cfg.specs.declared.programs.Flow.{Flow}
use Rattle.typed_programs.specs.PlainUnits.PlainUnits.{is_plain_unit}
use Rattle.typed_lowering.specs.Conversions.TypedUnits.{is_typed_unit}
use Rattle.typed_programs.specs.SingleRuns.{HasTypedAccesses}

-- a unit whose entry has no parameters, in whose reached functions are no loops, no jumps back and no calls of the
-- library but of exit, abort, putchar and the functions of <ctype.h>, and whose arrays have at most 64 elements; and in whose
-- reached functions no pointer is converted but null, so that pointers point to what their types say. Where one is, a unit is
-- plain if in its run under no numbers of the outside each access of memory is of the type of what lies there, and places of
-- a copy are one or apart (6.5p7, 6.5.16.1)
pub record IsPlainUnit (u : UnitView) (program : Flow) : Type 0 where
  pub look : is_plain_unit u ≡ true
  pub types : (is_typed_unit u ≡ true) ⊎ HasTypedAccesses program u
