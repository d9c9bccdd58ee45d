use Rattle.cli_units.proofs.Answered.{answer_on}
use Rattle.cli_units.proofs.unit_certificates.verify_unit.Goals as goal

pub returns-clause-verified : goal.returns-clause-verified
returns-clause-verified c = record {
  flow = c.in_ok-flow.flow;
  program = c.in_ok-flow.ensures.program;
  answers = answer_on c.in_ok-flow.flow c.args.cert.now c.in_ok-found.found c.in_ok-found.ensures;
}
