use Rattle.lower_template_theorems.proofs.literals.StartingTemplates.{starts_of_template}
use Rattle.lower_template_theorems.proofs.literals.theorems.literals_are_pointed_to_at_their_start.Goals as goal

pub returns : goal.returns
returns c = λ structs pointer int_bytes f is_entry t is. starts_of_template structs pointer int_bytes f is_entry t is
