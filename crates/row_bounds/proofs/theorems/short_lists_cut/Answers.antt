use Rattle.row_bounds.proofs.edges.ShortLists.{short_near, short_cuts}
use Rattle.row_bounds.proofs.theorems.short_lists_cut.Goals as goal

pub returns : goal.returns
returns c = record { near = short_near; cut = short_cuts }
