use Rattle.pointer_domain.specs.PointerLattice.{pointer_order}
use Rattle.value_domain.specs.Strings.FirstZeros.{zero_order}
use Rattle.value_domain.specs.Values.Values.{value_order}
use Rattle.value_domain.specs.Values.AllocStates.{state_order}
use Rattle.value_domain.specs.Values.Cells.{cell_order}
use Rattle.domain_theorems.proofs.values.Joins.{joins_rise}
use Rattle.domain_theorems.proofs.values.theorems.joins_are_monotone.Goals as goal

pub returns : goal.returns
returns g c = record {
  pointers = joins_rise (pointer_order g.met.I.Lattice.order);
  zeros = joins_rise (zero_order g.met.I.Lattice.order);
  values = joins_rise (value_order g.met.I.Lattice.order);
  states = joins_rise (state_order g.met.I.Lattice.order);
  cells = joins_rise (cell_order g.met.I.Lattice.order);
}
