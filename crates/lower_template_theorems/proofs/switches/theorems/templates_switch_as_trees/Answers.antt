use Rattle.std.proofs.Common.{◌≡◌, true}
use Rattle.lower_template_theorems.proofs.switches.SendingTemplates.{cases_of_template}
use Rattle.lower_template_theorems.proofs.switches.theorems.templates_switch_as_trees.Goals as goal

pub returns : goal.returns
returns c = λ passes structs pointer int_bytes f is_entry t is such. cases_of_template (λ x. passes x ≡ true) structs pointer int_bytes f is_entry t is such
