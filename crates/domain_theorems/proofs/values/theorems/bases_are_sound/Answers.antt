use Rattle.domain_theorems.proofs.values.BaseChanges.{without_meaning}
use Rattle.domain_theorems.proofs.values.Ends.{rename_meaning, end_meaning}
use Rattle.domain_theorems.proofs.values.theorems.bases_are_sound.Goals as goal

pub returns : goal.returns
returns g c = record {
  sets = without_meaning;
  renaming = rename_meaning g.I.IntDomain.stands;
  ending = end_meaning g.I.IntDomain.stands g.I.Lattice.lattice;
}
