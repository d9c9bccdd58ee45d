-- Whether memory has room for the objects of a unit.
use Rattle.std.specs.Prelude.{Bool, ◌&&◌}
use Rattle.std.specs.List.{list_all}
use Rattle.c_layout.specs.CheckedUnits.{FunctionView, UnitView}
use Rattle.source_preservation.specs.UnitChecks.LookedUnits.{is_small, is_small_local, are_well_typed_objects}

abbrev pub has_small_objects : UnitView → FunctionView → Bool
has_small_objects u f = is_small u f.returns && list_all (is_small_local u) f.locals

-- objects of all kinds, and the addresses that they begin with
abbrev pub is_small_unit : UnitView → Bool
is_small_unit u = list_all (has_small_objects u) u.functions && are_well_typed_objects u
