use Rattle.system_monotone.proofs.systems.ProgramRows.{leaves_program, fit_kept}
use Rattle.system_monotone.proofs.theorems.edges_leave_program_rows.Goals as goal

pub returns : goal.returns
returns g c = record {
  left = λ mono flow list near laid named rising block number row left own e.
      leaves_program g.met.I.Lattice.order g.met.I.Lattice.rounding g.met.I.Lattice.heights g.met.I.IntDomain.bounding mono g.met.I.IntDomain.ranges g.met.I.Bounded.ends flow list near laid named rising block number row left own e;
  kept = λ mono flow list near laid row p cut.
      fit_kept g.met.I.Lattice.order g.met.I.Lattice.rounding g.met.I.Lattice.heights g.met.I.IntDomain.bounding mono g.met.I.IntDomain.ranges g.met.I.Bounded.ends flow list near laid row p cut;
}
