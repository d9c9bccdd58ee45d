use Rattle.c_types_well_formed_units.proofs.scoped.Typed.{typed_yields}
use Rattle.c_types_well_formed_units.proofs.theorems.expressions_are_scoped.Goals as goal

pub returns : goal.returns
returns c = typed_yields
