use Rattle.lower.proofs.inlining.WellMadeRuns.{lowering_well}
use Rattle.lower.proofs.inlining.EdgesLead.{edges_lead}
use Rattle.lower.proofs.inlining.theorems.well_made.Goals as goal

pub returns : goal.returns
returns c = record {
  made = λ u limits f is. lowering_well u limits f is;
  lead = λ u limits f is. edges_lead u limits f is;
}
