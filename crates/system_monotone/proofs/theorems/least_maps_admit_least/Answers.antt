use Rattle.system_monotone.proofs.diagnostics.LeastMaps.{admits_least, regular_admits_least}
use Rattle.system_monotone.proofs.theorems.least_maps_admit_least.Goals as goal

pub returns : goal.returns
returns c = record {
  programs = λ limits flow list h few scalars near rising. admits_least limits flow list h few scalars near rising;
  regular = λ flow list h. regular_admits_least flow list h;
}
