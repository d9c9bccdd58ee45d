use Rattle.lower.proofs.template_laws.TemplateNames.{template_named}
use Rattle.lower.proofs.template_laws.NormalizedNames.{normalized_named}
use Rattle.lower.proofs.template_laws.theorems.are_named.Goals as goal

pub returns : goal.returns
returns c = record {
  template = λ structs pointer int_bytes f is_entry t is. template_named structs pointer int_bytes f is_entry t is;
  normalized = λ table t named. normalized_named table t named;
}
