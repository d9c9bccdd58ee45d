use Rattle.std.proofs.Common.{◌≡◌, map, drop}
use Rattle.c_layout.specs.DeclarationTrees.{suffix_view}
use Rattle.c_types_scopes.specs.States.{state}
use Rattle.c_types_declarations.specs.Declarators.{steps_view, with_arrays}
use Rattle.c_types_declarations.proofs.declarators.add_arrays.Given as goal

abbrev pub invariant-loop-array : goal.invariant-loop-array
invariant-loop-array l = with_arrays (state l.fn.cx) (steps_view l.fn.made) (map suffix_view l.arrays) ≡ with_arrays (state l.cx) (steps_view l.made) (map suffix_view (drop l.array-index l.arrays))
