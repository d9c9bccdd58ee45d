use Rattle.transfer_monotone.proofs.edges.Systems.{system_monotone}
use Rattle.system_monotone.proofs.systems.WellFormed.{laid_out, all_named}
use Rattle.system_monotone.proofs.theorems.well_formed_programs_are_monotone.Goals as goal

pub returns : goal.returns
returns g c = λ mono limits flow list h few scalars near rising. system_monotone g.met.I.Lattice.order g.met.I.Lattice.rounding g.met.I.Lattice.heights g.met.I.IntDomain.bounding mono g.met.I.IntDomain.ranges g.met.I.Bounded.ends flow list near (laid_out limits flow h few) (all_named limits flow h scalars) rising
