-- What pointers of a program reach, to the machines.
use Rattle.memory_model.specs.Effects.LibraryChecks as machine
use Rattle.interp_memory.specs.AccessOutcomes.{spot_view}
use Rattle.interp_accesses.specs.declared.library_checks.Reach.{Reach}

abbrev pub reach_view : Reach → machine.Reach
reach_view r = record { spot = spot_view r.spot; room = r.room }
