use Rattle.lower_functions.specs.Functions.Functions.{setting_of, function, no_plan}
use Rattle.lower_functions.proofs.functions.OneTemplate.{one_finish}
use Rattle.lower_functions.proofs.functions.theorems.one_template.Goals as goal

pub returns : goal.returns
returns c = λ structs pointer int_bytes f is_entry t u a b. one_finish _ _ t u a b
