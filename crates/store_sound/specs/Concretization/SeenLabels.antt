-- The labels of the machine as those of the analysis.
use Rattle.value_domain.specs.declared.values.label_sets.Labels as set
use Rattle.memory_model.specs.Memory.Labels.{Labels}

abbrev pub as_set : Labels → set.Labels
as_set s = record { lo = s.low; hi = s.high; mutated = s.changed }
