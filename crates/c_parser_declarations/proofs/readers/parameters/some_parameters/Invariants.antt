use Rattle.std.proofs.Common.{map, length}
use Rattle.c_layout.specs.DeclarationTrees.{parameter_view}
use Rattle.c_parser_declarations.specs.Grammar.Declarations.{IsParameter, parameter_height}
use Rattle.c_parser_declarations.specs.Grammar.Findings.{FoundItems}
use Rattle.c_parser_declarations.specs.Grammar.Items.{listed}
use Rattle.c_parser_declarations.proofs.grammar.Turns.{ListedLeft}
use Rattle.c_parser_declarations.specs.Grammar.ParameterReaders.{parameter}
use Rattle.c_parser_declarations.proofs.readers.parameters.some_parameters.Given as goal

abbrev pub invariant-loop-turn : goal.invariant-loop-turn
invariant-loop-turn l = record {
  found : FoundItems (IsParameter l.scope.typedefs.now) parameter_height l.budget (map parameter_view l.found.items) l.height l.fn.reader l.reader;
  read : ListedLeft (parameter l.scope.typedefs.now l.budget) (length l.fn.reader) l._turn (map parameter_view l.found.items) l.height l.reader (listed (parameter l.scope.typedefs.now l.budget) (length l.fn.reader) l.fn.reader);
}
