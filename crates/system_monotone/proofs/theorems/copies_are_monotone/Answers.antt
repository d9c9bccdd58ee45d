use Rattle.std.specs.Prelude.{true}
use Rattle.store_monotone.specs.Operations.TopRows.{top_row}
use Rattle.store_monotone.proofs.operations.Together.{each}
use Rattle.transfer_monotone.proofs.edges.MemorySteps.{row_near}
use Rattle.system_monotone.proofs.library_writes.CopyWrites.{copy_step}
use Rattle.system_monotone.proofs.theorems.copies_are_monotone.Goals as goal

pub returns : goal.returns
returns g c = λ mono all flow k small large below r s rows. copy_step g.met.I.Lattice.order g.met.I.IntDomain.bounding all k.words (top_row g.I.IntDomain.numbers all flow.bases.items flow.temps) flow
    (each g.met.I.Lattice.order g.met.I.IntDomain.bounding flow.model flow.bases.items k.layout all flow.temps (row_near g.met.I.Lattice.order g.met.I.IntDomain.bounding mono g.met.I.IntDomain.ranges all flow k))
    small large below true r s rows
