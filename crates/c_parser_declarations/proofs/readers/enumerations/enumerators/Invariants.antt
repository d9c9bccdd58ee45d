use Rattle.std.proofs.Common.{map, length}
use Rattle.c_layout.specs.DeclarationTrees.{enumerator_view}
use Rattle.c_parser_declarations.specs.Grammar.Findings.{FoundItems}
use Rattle.c_parser_declarations.specs.Grammar.Specifiers.{IsEnumerator, enumerator_height}
use Rattle.c_parser_declarations.specs.Grammar.Items.{braced}
use Rattle.c_parser_declarations.proofs.grammar.Turns.{BracedLeft}
use Rattle.c_parser_declarations.specs.Grammar.SpecifierReaders.{enumerator}
use Rattle.c_parser_declarations.proofs.readers.enumerations.enumerators.Given as goal

abbrev pub invariant-loop-turn : goal.invariant-loop-turn
invariant-loop-turn l = record {
  found : FoundItems (IsEnumerator l.scope.typedefs.now) enumerator_height l.budget (map enumerator_view l.found.items) l.height l.fn.reader l.reader;
  read : BracedLeft (enumerator l.scope.typedefs.now l.budget) (length l.fn.reader) l._turn (map enumerator_view l.found.items) l.height l.reader (braced (enumerator l.scope.typedefs.now l.budget) (length l.fn.reader) l.fn.reader);
}
