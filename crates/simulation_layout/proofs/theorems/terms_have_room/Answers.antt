use Rattle.simulation_layout.proofs.function_checks.RoomOfTerms.{room_term, room_place}
use Rattle.simulation_layout.proofs.theorems.terms_have_room.Goals as goal

pub returns-clause-terms : goal.returns-clause-terms
returns-clause-terms c = room_term

pub returns-clause-places : goal.returns-clause-places
returns-clause-places c = room_place
