use Rattle.interval_domain.proofs.numbers.Powers.{power_bits}
use Rattle.interval_domain.proofs.numbers.scaled_numbers.power_of_two.Goals as goal

pub returns : goal.returns
returns c = power_bits c.args.n c.requires
