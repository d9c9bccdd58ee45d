use Rattle.std.proofs.Common.{◌≡◌, ◌++◌, map}
use Rattle.c_layout.specs.SyntaxTrees.{tree_of}
use Rattle.c_parser_expressions.proofs.abstract_layers.add_lengths.Given as goal

abbrev pub invariant-loop-length : goal.invariant-loop-length
invariant-loop-length l = map tree_of l.lengths.items ≡ map tree_of l.fn.lengths.items ++ map tree_of l.yielded
