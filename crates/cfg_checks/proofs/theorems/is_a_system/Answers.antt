use Rattle.cfg.specs.FlowSystems.{well_formed_system}
use Rattle.cfg_checks.proofs.theorems.is_a_system.Goals as goal

pub returns : goal.returns
returns c = λ limits f is. well_formed_system limits f is
