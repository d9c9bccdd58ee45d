use Rattle.std.specs.Prelude.{length}
use Rattle.transfer_system.specs.BoundedRows.OwnRows.{program_bases}
use Rattle.transfer_monotone.proofs.edges.Systems.{system_monotone}
use Rattle.system_monotone.proofs.systems.WellFormed.{well_made, laid_out, all_named}
use Rattle.system_monotone.proofs.systems.Sites.{all_sites}
use Rattle.system_monotone.proofs.systems.AllCalls.{all_rise}
use Rattle.system_monotone.proofs.theorems.programs_are_monotone.Goals as goal

pub returns : goal.returns
returns g c = λ mono limits flow list h few bases scalars near spread.
    system_monotone g.met.I.Lattice.order g.met.I.Lattice.rounding g.met.I.Lattice.heights g.met.I.IntDomain.bounding mono g.met.I.IntDomain.ranges g.met.I.Bounded.ends flow list near (laid_out limits flow h few) (all_named limits flow h scalars)
    (all_rise g.met.I.Lattice.order g.met.I.IntDomain.bounding mono g.met.I.IntDomain.ranges (program_bases (length flow.bases.items)) flow (laid_out limits flow h few) (all_sites limits flow h bases) (well_made limits flow h).laid spread)
