use Rattle.cli.proofs.command.LookedUnits.{typed_units_pass}
use Rattle.cli.proofs.theorems.typed_units_pass_looks.Goals as goal

pub returns : goal.returns
returns c = typed_units_pass c.trees_are_proper.ensures c.trees_declare_in_blocks.ensures c.checks_are_well_typed.ensures c.checks_are_small.ensures c.checks_are_scoped.ensures
