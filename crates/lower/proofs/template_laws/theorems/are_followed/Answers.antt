use Rattle.lower.proofs.template_laws.TemplateOrder.{template_followed}
use Rattle.lower.proofs.template_laws.NormalizedOrder.{normalized_followed}
use Rattle.lower.proofs.template_laws.theorems.are_followed.Goals as goal

pub returns : goal.returns
returns c = record {
  template = λ structs pointer int_bytes f is_entry t is. template_followed structs pointer int_bytes f is_entry t is;
  normalized = λ table t followed. normalized_followed table t followed;
}
