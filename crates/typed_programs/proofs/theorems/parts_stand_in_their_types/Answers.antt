use Rattle.typed_programs.proofs.layouts.StandingTypes.{stands_itself, stands_through, element_stands, member_stands}
use Rattle.typed_programs.proofs.theorems.parts_stand_in_their_types.Goals as goal

pub returns : goal.returns
returns c = record {
  themselves = λ structs pointer_size t. stands_itself structs pointer_size t;
  transitive = λ structs pointer_size a b c x y p q. stands_through structs pointer_size a b c x y p q;
  elements = λ m structs laid t n i less. element_stands m structs laid t n i less;
  members = λ m structs laid i s there n f among. member_stands m structs laid i s there n f among;
}
