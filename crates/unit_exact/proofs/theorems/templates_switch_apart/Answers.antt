use Rattle.unit_exact.proofs.case_edges.ApartTemplates.{template_apart}
use Rattle.unit_exact.proofs.theorems.templates_switch_apart.Goals as goal

pub returns : goal.returns
returns c = template_apart
