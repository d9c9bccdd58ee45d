use Rattle.cli.proofs.command.CertifiedRuns.{certificates_hold}
use Rattle.cli.proofs.theorems.certificates_hold_runs.Goals as goal

pub returns : goal.returns
returns c = certificates_hold c.looked_runs_are_program_runs.ensures c.typed_units_pass_looks.ensures c.accepted_certificates_hold_units.ensures.checked
