use Rattle.c_types_well_formed.proofs.constant_folding.FoldedNumbers.{computed}
use Rattle.c_types_well_formed.proofs.theorems.folds_as_computed.Goals as goal

pub returns : goal.returns
returns c = computed
