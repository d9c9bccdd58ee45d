use Rattle.std.proofs.Common.{◌+◌, ◌*◌, map, length}
use Rattle.c_layout.specs.DeclarationTrees.{initializer_tree}
use Rattle.c_parser_declarations.specs.Grammar.Findings.{FoundSome}
use Rattle.c_parser_declarations.specs.Grammar.InitializerReaders.{initializer}
use Rattle.c_parser_declarations.specs.Grammar.Items.{braced}
use Rattle.c_parser_declarations.proofs.grammar.Turns.{BracedLeft}
use Rattle.c_parser_declarations.proofs.readers.initializers.+initializers.Given as goal

abbrev pub decreases-initializer : goal.decreases-initializer
decreases-initializer l = 4 * l.budget + 0

abbrev pub decreases-initializer_list : goal.decreases-initializer_list
decreases-initializer_list l = 4 * l.budget + 1

abbrev pub invariant-initializer_list-loop-turn : goal.invariant-initializer_list-loop-turn
invariant-initializer_list-loop-turn l = record {
  found : FoundSome l.scope.typedefs.now l.budget (map initializer_tree l.found.items) l.height l.fn.reader l.reader;
  read :
      BracedLeft (initializer l.scope.typedefs.now l.budget) (length l.fn.reader) l._turn (map initializer_tree l.found.items) l.height l.reader
      (braced (initializer l.scope.typedefs.now l.budget) (length l.fn.reader) l.fn.reader);
}
