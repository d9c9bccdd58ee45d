use Rattle.std.proofs.Common.{map, length}
use Rattle.c_layout.specs.DeclarationTrees.{declarator_view}
use Rattle.c_parser_declarations.specs.Grammar.Declarators.{declarator_height}
use Rattle.c_parser_declarations.specs.Grammar.Specifiers.{IsNamed}
use Rattle.c_parser_declarations.specs.Grammar.Findings.{FoundItems}
use Rattle.c_parser_declarations.specs.Grammar.Items.{listed}
use Rattle.c_parser_declarations.proofs.grammar.Turns.{ListedLeft}
use Rattle.c_parser_declarations.specs.Grammar.DeclaratorReaders.{declarator}
use Rattle.c_parser_declarations.proofs.grammar.declarators.declarator_list.Given as goal

abbrev pub invariant-loop-turn : goal.invariant-loop-turn
invariant-loop-turn l = record {
  found : FoundItems (IsNamed l.scope.typedefs.now) declarator_height l.budget (map declarator_view l.found.items) l.height l.fn.reader l.reader;
  read : ListedLeft (declarator l.scope.typedefs.now l.budget) (length l.fn.reader) l._turn (map declarator_view l.found.items) l.height l.reader (listed (declarator l.scope.typedefs.now l.budget) (length l.fn.reader) l.fn.reader);
}
