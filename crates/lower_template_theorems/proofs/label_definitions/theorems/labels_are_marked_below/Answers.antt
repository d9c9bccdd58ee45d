use Rattle.lower_template_theorems.proofs.label_definitions.MarkedTemplates.{marked_below}
use Rattle.lower_template_theorems.proofs.label_definitions.theorems.labels_are_marked_below.Goals as goal

pub returns : goal.returns
returns c = λ structs pointer int_bytes f is_entry t is labelled few l. marked_below structs pointer int_bytes f is_entry t is labelled few l
