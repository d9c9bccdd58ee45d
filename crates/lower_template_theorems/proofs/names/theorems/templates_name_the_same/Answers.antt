use Rattle.std.proofs.Common.{◌≡◌, true}
use Rattle.lower_template_theorems.proofs.names.NamingTemplates.{names_of_template}
use Rattle.lower_template_theorems.proofs.names.theorems.templates_name_the_same.Goals as goal

pub returns : goal.returns
returns c = λ passes structs pointer int_bytes f is_entry t is named. names_of_template (λ x. passes x ≡ true) structs pointer int_bytes f is_entry t is named
