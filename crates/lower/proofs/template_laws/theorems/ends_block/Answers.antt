use Rattle.lower.proofs.template_laws.TemplateOrder.{entry_ends}
use Rattle.lower.proofs.template_laws.NormalizedOrder.{normalized_ends}
use Rattle.lower.proofs.template_laws.theorems.ends_block.Goals as goal

pub returns : goal.returns
returns c = record {
  entry = λ structs pointer int_bytes f t is. entry_ends structs pointer int_bytes f t is;
  normalized = λ table t ends. normalized_ends table t ends;
}
