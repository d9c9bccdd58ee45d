use Rattle.cli_units.proofs.unit_certificates.program_of.Goals as goal

pub returns-clause-program : goal.returns-clause-program
returns-clause-program c = record {
  tree = c.in_ok-tree.tree;
  parsed = c.in_ok-tree.ensures.parsed;
  checked = c.in_ok-checked.checked;
  typed = c.in_ok-checked.ensures.typed;
  looked = c.in_ok-looked.ensures.looked;
  plain = c.in_ok-flow.ensures.plain;
  regular = c.in_ok-flow.ensures.regular;
  lowered = c.in_ok-flow.ensures.lowered;
  well_formed = c.in_ok-flow.ensures.well_formed;
}
