use Rattle.cli_units.proofs.unit_certificates.text_of_program.Goals as goal

pub returns : goal.returns
returns c = record {
  list = c.in_ok-list.list;
  thresholds = c.in_ok-list.ensures.thresholds;
  ascending = c.in_ok-list.ensures.ascending;
  certificate = c.in_ok-text.ensures;
}
