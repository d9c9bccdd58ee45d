-- Which labels a test drops.
use Rattle.memory_model.specs.Memory.Labels.{Labels, no_labels, dropped_labels}
use Rattle.interp_operators.specs.declared.tests.side_labels.Drops.{Drops}
use Rattle.interp_operators.specs.declared.tests.side_labels.Drops.TheVariants as drops

abbrev pub dropping : Drops → Labels → Labels
dropping (drops.By rel common) s = dropped_labels rel s common
dropping drops.All s = no_labels
