use Rattle.std.proofs.Common.{map, length}
use Rattle.c_layout.specs.DeclarationTrees.{init_declarator_view}
use Rattle.c_parser_declarations.specs.Grammar.Declarations.{IsLocalDeclarator, local_init_height}
use Rattle.c_parser_declarations.specs.Grammar.Findings.{FoundItems}
use Rattle.c_parser_declarations.specs.Grammar.Items.{listed}
use Rattle.c_parser_declarations.proofs.grammar.Turns.{ListedLeft}
use Rattle.c_parser_declarations.specs.Grammar.DeclarationReaders.{local_declarator}
use Rattle.c_parser_declarations.proofs.readers.local_declarations.some_declarators.Given as goal

abbrev pub invariant-loop-turn : goal.invariant-loop-turn
invariant-loop-turn l = record {
  found : FoundItems (IsLocalDeclarator l.scope.typedefs.now) local_init_height l.budget (map init_declarator_view l.found.items) l.height l.fn.reader l.reader;
  read : ListedLeft (local_declarator l.scope.typedefs.now l.budget) (length l.fn.reader) l._turn (map init_declarator_view l.found.items) l.height l.reader (listed (local_declarator l.scope.typedefs.now l.budget) (length l.fn.reader) l.fn.reader);
}
