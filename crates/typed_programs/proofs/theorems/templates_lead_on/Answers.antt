use Rattle.typed_programs.proofs.plain_templates.LeadingTemplates.{leads_on}
use Rattle.typed_programs.proofs.theorems.templates_lead_on.Goals as goal

pub returns : goal.returns
returns c = leads_on
