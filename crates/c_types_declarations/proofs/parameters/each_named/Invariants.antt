use Rattle.std.proofs.Common.{◌≡◌, map, drop}
use Rattle.c_layout.specs.DeclarationTrees.{parameter_view}
use Rattle.c_types_declarations.specs.Parameters.{each_named}
use Rattle.c_types_declarations.proofs.parameters.each_named.Given as goal

abbrev pub invariant-loop-i : goal.invariant-loop-i
invariant-loop-i l = each_named (map parameter_view (drop l.i l.parameters)) ≡ each_named (map parameter_view l.parameters)
