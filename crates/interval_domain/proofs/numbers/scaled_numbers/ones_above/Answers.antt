use Rattle.interval_domain.proofs.numbers.Powers.{leading_small}
use Rattle.interval_domain.proofs.numbers.scaled_numbers.ones_above.Goals as goal

pub power_of_two-requires : goal.power_of_two-requires
power_of_two-requires c = leading_small c.args.n c.requires
