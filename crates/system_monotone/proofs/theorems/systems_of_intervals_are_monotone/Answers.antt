use Rattle.system_monotone.proofs.systems.IntervalSystems.{rising_monotone, spread_monotone}
use Rattle.system_monotone.proofs.theorems.systems_of_intervals_are_monotone.Goals as goal

pub returns : goal.returns
returns c = record {
  programs = λ limits flow list h few scalars near rising. rising_monotone limits flow list h few scalars near rising;
  spread = λ limits flow list h few bases scalars near spread. spread_monotone limits flow list h few scalars near bases spread;
}
