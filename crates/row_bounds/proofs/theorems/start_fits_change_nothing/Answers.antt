use Rattle.row_bounds.proofs.entries.RegularStarts.{regular_fits, regular_maps}
use Rattle.row_bounds.proofs.theorems.start_fits_change_nothing.Goals as goal

pub returns : goal.returns
returns c = record {
  row = λ flow list h reaches s. regular_fits flow list h reaches s;
  maps = λ flow list h reaches s rows. regular_maps flow list h reaches s rows;
}
