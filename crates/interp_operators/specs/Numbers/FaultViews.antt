-- Which rules operators violate, to the machines.
use Rattle.std.specs.Prelude.{List, ◌++◌}
use Rattle.cc_base.specs.declared.diagnostics.Rule.{Rule}
use Rattle.cc_base.specs.declared.diagnostics.Rule.TheVariants as rule
use Rattle.memory_model.specs.Effects.IntegerEffects.{fault_if}
use Rattle.interp_operators.specs.declared.numbers.number_faults.Faults.{Faults}

abbrev pub faults_view : Faults → List Rule
faults_view f = fault_if f.division rule.Diverr ++ fault_if f.overflow rule.Intoflow
