use Rattle.std.proofs.Common.{◌≡◌, ◌++◌, map, drop}
use Rattle.c_layout.specs.Types.{view}
use Rattle.c_types_scopes.specs.LibraryTypes.{slot_types}
use Rattle.c_types_scopes.proofs.library_types.slot_types.Given as goal

abbrev pub invariant-loop-slot : goal.invariant-loop-slot
invariant-loop-slot l = map view l.made.items ++ slot_types l.model.numbers l.stream (drop l.slot-index l.slots) ≡ slot_types l.model.numbers l.stream l.slots
