use Rattle.std.proofs.Common.{length, map}
use Rattle.c_layout.specs.DeclarationTrees.{external_tree}
use Rattle.c_parser.specs.Findings.{FoundPieces}
use Rattle.c_parser.proofs.parsing.externals.Given as goal

abbrev pub invariant-loop-rest : goal.invariant-loop-rest
invariant-loop-rest l = FoundPieces (map external_tree l.found.items) l.typedefs l.terminals l.rest

abbrev pub decreases-loop-rest : goal.decreases-loop-rest
decreases-loop-rest l = length l.rest
