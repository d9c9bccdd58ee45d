use Rattle.cli_units.proofs.unit_certificates.prove_unit.Goals as goal

pub returns-clause-proved : goal.returns-clause-proved
returns-clause-proved c = record { flow = c.in_ok-flow.flow; program = c.in_ok-flow.ensures.program; proof = c.in_ok-text.ensures }
